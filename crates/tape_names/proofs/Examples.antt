-- Worked examples, computed by the checker.
use Rattle.std.proofs.Common.{◌≡◌, ℕ, List, [], ◌∷◌, Some, None, codes, refl}
use Rattle.std.specs.Prelude.{⊤}
use Rattle.hex.proofs.OnLiterals.{hex_on_literals}
use Rattle.tape_names.specs.Types.{type_name}
use Rattle.tape_names.specs.Sizes.{bytes_told}
use Rattle.tape_names.specs.Dates.{date_in}
use Rattle.tape_names.specs.HostNames.{host_tail, host_name_of, entry_of_host_name}

-- ---- types

names : (type_name 0xE214 ≡ Some (codes "BASIC")) × (type_name 0x0001 ≡ Some (codes "TEXT")) × (type_name 0xE089 ≡ Some (codes "LEX"))
    × (type_name 0xE21C ≡ Some (codes "ROM"))
names = (refl, refl, refl, refl)

no_names : (type_name 0x1234 ≡ None) × (type_name 0 ≡ None) × (type_name 0xFFFF ≡ None) × (type_name 0x1E214 ≡ None)
no_names = (refl, refl, refl, refl)

-- ---- bytes

-- the first two bytes of a program's field, high first, in its last record only
programs : (bytes_told 0xE080 (3 ∷ 9 ∷ 0 ∷ 0 ∷ []) 4 ≡ Some 777) × (bytes_told 0xE080 (3 ∷ 9 ∷ 0 ∷ 0 ∷ []) 3 ≡ None) × (bytes_told 0xE080 (3 ∷ 9 ∷ 0 ∷ 0 ∷ []) 5 ≡ None)
programs = (refl, refl, refl)

-- eight bytes for each register; none states no byte, and a file of no records has no last one
registers : (bytes_told 0xE0D0 (0 ∷ 128 ∷ 0 ∷ 0 ∷ []) 4 ≡ Some 1024) × (bytes_told 0xE0D0 (0 ∷ 128 ∷ 0 ∷ 0 ∷ []) 5 ≡ None) × (bytes_told 0xE0D0 (0 ∷ 0 ∷ 0 ∷ 0 ∷ []) 1 ≡ None)
    × (bytes_told 0xE0D0 (0 ∷ 0 ∷ 0 ∷ 0 ∷ []) 0 ≡ None)
registers = (refl, refl, refl, refl)

-- 0102 hex records of 5 bytes, low byte first: 1,290 bytes
products : (bytes_told 0xE0F1 (2 ∷ 1 ∷ 5 ∷ 0 ∷ []) 6 ≡ Some 1290) × (bytes_told 0xE0F0 (2 ∷ 1 ∷ 5 ∷ 0 ∷ []) 6 ≡ Some 1290) × (bytes_told 0xE0F1 (2 ∷ 1 ∷ 5 ∷ 0 ∷ []) 5 ≡ None)
products = (refl, refl, refl)

-- 612 hex half bytes are 777 bytes, and 611 hex are rounded up to as many
halves : (bytes_told 0xE214 (0x12 ∷ 6 ∷ 0 ∷ 0 ∷ []) 4 ≡ Some 777) × (bytes_told 0xE214 (0x11 ∷ 6 ∷ 0 ∷ 0 ∷ []) 4 ≡ Some 777) × (bytes_told 0xE204 (0x13 ∷ 6 ∷ 0 ∷ 0 ∷ []) 4 ≡ Some 778)
    × (bytes_told 0xE21C (0 ∷ 0 ∷ 1 ∷ 0 ∷ []) 128 ≡ Some 32768) × (bytes_told 0xE214 (0x12 ∷ 6 ∷ 0 ∷ 0 ∷ []) 3 ≡ None)
halves = (refl, refl, refl, refl, refl)

-- the field of a text, and of a type without a name, states no number
none_stated : (bytes_told 0x0001 (3 ∷ 9 ∷ 0 ∷ 0 ∷ []) 4 ≡ None) × (bytes_told 0x1234 (3 ∷ 9 ∷ 0 ∷ 0 ∷ []) 4 ≡ None) × (bytes_told 0xE020 (3 ∷ 9 ∷ 0 ∷ 0 ∷ []) 4 ≡ None)
none_stated = (refl, refl, refl)

-- ---- dates

-- 1985-11-23 14:30:00, and the first and the last moment
moments : (date_in (0x85 ∷ 0x11 ∷ 0x23 ∷ 0x14 ∷ 0x30 ∷ 0 ∷ []) ≡ Some (record { year = 1985; month = 11; day = 23; hour = 14; minute = 30; second = 0 }))
    × (date_in (0x60 ∷ 1 ∷ 1 ∷ 0 ∷ 0 ∷ 0 ∷ []) ≡ Some (record { year = 1960; month = 1; day = 1; hour = 0; minute = 0; second = 0 }))
    × (date_in (0x59 ∷ 0x12 ∷ 0x31 ∷ 0x23 ∷ 0x59 ∷ 0x59 ∷ []) ≡ Some (record { year = 2059; month = 12; day = 31; hour = 23; minute = 59; second = 59 }))
moments = (refl, refl, refl)

-- a digit above 9, the low one or the high one, in each of the six bytes
no_digits : (date_in (0x8A ∷ 0x11 ∷ 0x23 ∷ 0x14 ∷ 0x30 ∷ 0 ∷ []) ≡ None) × (date_in (0x85 ∷ 0x0A ∷ 0x23 ∷ 0x14 ∷ 0x30 ∷ 0 ∷ []) ≡ None)
    × (date_in (0x85 ∷ 0x11 ∷ 0x2A ∷ 0x14 ∷ 0x30 ∷ 0 ∷ []) ≡ None) × (date_in (0x85 ∷ 0x11 ∷ 0x23 ∷ 0x1A ∷ 0x30 ∷ 0 ∷ []) ≡ None)
    × (date_in (0x85 ∷ 0x11 ∷ 0x23 ∷ 0x14 ∷ 0x3A ∷ 0 ∷ []) ≡ None) × (date_in (0x85 ∷ 0x11 ∷ 0x23 ∷ 0x14 ∷ 0x30 ∷ 0x0A ∷ []) ≡ None)
    × (date_in (0xA5 ∷ 0x11 ∷ 0x23 ∷ 0x14 ∷ 0x30 ∷ 0 ∷ []) ≡ None)
no_digits = (refl, refl, refl, refl, refl, refl, refl)

-- month 0 and 13, day 0 and 32, hour 24, minute 60, second 60
no_moments : (date_in (0x85 ∷ 0 ∷ 0x23 ∷ 0x14 ∷ 0x30 ∷ 0 ∷ []) ≡ None) × (date_in (0x85 ∷ 0x13 ∷ 0x23 ∷ 0x14 ∷ 0x30 ∷ 0 ∷ []) ≡ None)
    × (date_in (0x85 ∷ 0x11 ∷ 0 ∷ 0x14 ∷ 0x30 ∷ 0 ∷ []) ≡ None) × (date_in (0x85 ∷ 0x11 ∷ 0x32 ∷ 0x14 ∷ 0x30 ∷ 0 ∷ []) ≡ None)
    × (date_in (0x85 ∷ 0x11 ∷ 0x23 ∷ 0x24 ∷ 0x30 ∷ 0 ∷ []) ≡ None) × (date_in (0x85 ∷ 0x11 ∷ 0x23 ∷ 0x14 ∷ 0x60 ∷ 0 ∷ []) ≡ None)
    × (date_in (0x85 ∷ 0x11 ∷ 0x23 ∷ 0x14 ∷ 0x30 ∷ 0x60 ∷ []) ≡ None)
no_moments = (refl, refl, refl, refl, refl, refl, refl)

all_zero : date_in (0 ∷ 0 ∷ 0 ∷ 0 ∷ 0 ∷ 0 ∷ []) ≡ None
all_zero = refl

-- ---- host names

unfoldable host_on_literals : ⊤
unfolding hex_on_literals host_tail host_name_of
host_on_literals = tt

-- a name of a tape as it is on the host, with the type 0001 and the field 0A0B0C0D
abbrev named : List ℕ → List ℕ
named name = host_name_of name 0x0001 (10 ∷ 11 ∷ 12 ∷ 13 ∷ [])

host_names : (host_name_of (codes "STARTUP   ") 0xE214 (0x12 ∷ 6 ∷ 0 ∷ 0 ∷ []) ≡ codes "STARTUP.E214.12060000")
    × (named (codes "A B       ") ≡ codes "A%20B.0001.0A0B0C0D") × (named (codes "A/B       ") ≡ codes "A%2FB.0001.0A0B0C0D")
    × (named (codes ".X        ") ≡ codes "%2EX.0001.0A0B0C0D") × (named (codes "X.Y       ") ≡ codes "X.Y.0001.0A0B0C0D")
    × (named (codes "/.        ") ≡ codes "%2F..0001.0A0B0C0D") × (named (codes "50%       ") ≡ codes "50%25.0001.0A0B0C0D")
unfolding host_on_literals
host_names = (refl, refl, refl, refl, refl, refl, refl)

-- spaces only, a byte 0 and a byte FF hex, and ten bytes
other_names : (named (codes "          ") ≡ codes "%20.0001.0A0B0C0D") × (named (65 ∷ 0 ∷ 255 ∷ codes "       ") ≡ codes "A%00%FF.0001.0A0B0C0D")
    × (named (codes "ABCDEFGHIJ") ≡ codes "ABCDEFGHIJ.0001.0A0B0C0D")
unfolding host_on_literals
other_names = (refl, refl, refl)

-- the first three are made; digits may be small, and a byte may be escaped that need not be
read : (entry_of_host_name (codes "A%20B.0001.0A0B0C0D") ≡ Some (record { name = record { bytes = codes "A B       " }; kind = 1; field = 10 ∷ 11 ∷ 12 ∷ 13 ∷ [] }))
    × (entry_of_host_name (codes "%2EX.E214.00000000") ≡ Some (record { name = record { bytes = codes ".X        " }; kind = 0xE214; field = 0 ∷ 0 ∷ 0 ∷ 0 ∷ [] }))
    × (entry_of_host_name (codes "%20.FFFF.12060000") ≡ Some (record { name = record { bytes = codes "          " }; kind = 0xFFFF; field = 0x12 ∷ 6 ∷ 0 ∷ 0 ∷ [] }))
    × (entry_of_host_name (codes "ABCDEFGHIJ.e214.0a0b0c0d") ≡ Some (record { name = record { bytes = codes "ABCDEFGHIJ" }; kind = 0xE214; field = 10 ∷ 11 ∷ 12 ∷ 13 ∷ [] }))
    × (entry_of_host_name (codes "%41/.0001.0A0B0C0D") ≡ Some (record { name = record { bytes = codes "A/        " }; kind = 1; field = 10 ∷ 11 ∷ 12 ∷ 13 ∷ [] }))
unfolding host_on_literals
read = (refl, refl, refl, refl, refl)

-- too short, no name, and a point that is not there
too_short : (entry_of_host_name [] ≡ None) × (entry_of_host_name (codes "A.001.0A0B0C0D") ≡ None) × (entry_of_host_name (codes ".0001.0A0B0C0D") ≡ None)
    × (entry_of_host_name (codes "STARTUP-E214.12060000") ≡ None) × (entry_of_host_name (codes "STARTUP.E214-12060000") ≡ None)
unfolding host_on_literals
too_short = (refl, refl, refl, refl, refl)

-- a bad hex digit of the type and of the field, a name of eleven bytes, an escape that is cut, and a space that is not escaped
no_entries : (entry_of_host_name (codes "STARTUP.E21G.12060000") ≡ None) × (entry_of_host_name (codes "STARTUP.E214.1206000G") ≡ None)
    × (entry_of_host_name (codes "ABCDEFGHIJK.E214.12060000") ≡ None) × (entry_of_host_name (codes "A%2.E214.12060000") ≡ None)
    × (entry_of_host_name (codes "A B.E214.12060000") ≡ None)
unfolding host_on_literals
no_entries = (refl, refl, refl, refl, refl)
