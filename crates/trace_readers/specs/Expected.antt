-- Which tapes a log may have left of the tape before it.
use Rattle.std.specs.Prelude.{◌≡◌, ◌↔◌, ◌<◌, ◌+◌, ◌/◌, ◌%◌, ◌==◌, nat_le, ◌&&◌, ◌||◌, if◌then◌else◌, ℕ, Bool, true, false, List, [], ◌∷◌, ◌++◌, length, map, take, drop, set, get_or, Option, Some, None}
use Rattle.lif_model.specs.Tape.{Tape, IsTape, record_at}
use Rattle.lif_model.specs.Transfers.{all_pieces, full_pieces}
use Rattle.loop_model.specs.Units.{RecordUnit}
use Rattle.loop_model.specs.Effect.{is_good, UnitsEffect}
use Rattle.trace_readers.specs.declared.expected.UnitFault.{UnitFault}
use Rattle.trace_readers.specs.declared.expected.UnitFault.TheVariants as fault

-- for each record of the tape its bytes where they are known, and None where any 256 bytes may stand;
-- and how many records there is room for
pub record Known : Type 0 where
  pub records : List (Option (List ℕ))
  pub room : ℕ

-- these bytes may stand in a record of which this is known
abbrev pub IsAllowedAs : Option (List ℕ) → List ℕ → Type 0
IsAllowedAs None bytes = Unit {0}
IsAllowedAs (Some known) bytes = bytes ≡ known

-- a tape of as many records, each of which may stand there
pub record Allows (records : List (Option (List ℕ))) (tape : Tape) : Type 0 where
  pub shape : IsTape (length records) tape
  pub each : (k : ℕ) → k < length records → IsAllowedAs (get_or records k None) (record_at tape k)

-- each record that is known has 256 bytes
abbrev pub AreWhole : List (Option (List ℕ)) → Type 0
AreWhole records = (k : ℕ) (bytes : List ℕ) → get_or records k None ≡ Some bytes → length bytes ≡ 256

-- the tapes that these units may have left of the old one are exactly those that are allowed
pub record IsExpectedAfter (old : Tape) (units : List RecordUnit) (records : List (Option (List ℕ))) : Type 0 where
  pub whole : AreWhole records
  pub tapes : (new : Tape) → UnitsEffect units old new ↔ Allows records new

-- ---- a unit that writes

-- the bytes are whole records, and from `first` on lie on a tape of so many records
abbrev pub lie_on : ℕ → ℕ → List ℕ → Bool
lie_on size first bytes =
    (length bytes % 256 == 0) && ((length bytes == 0) || nat_le (first + length bytes / 256) size)

-- what keeps the tapes that it may leave from being told so: with status 0, that it cannot have put its
-- bytes; else, that it may have put more than one record
abbrev pub write_fault : ℕ → ℕ → List ℕ → Bool → Option UnitFault
write_fault size first bytes true = if lie_on size first bytes then None else Some fault.BadUnit
write_fault size first bytes false = if nat_le (length (full_pieces bytes)) 1 then None else Some fault.Unclear

-- what is known after it: its bytes with status 0; else nothing of the one record that it may have put
abbrev pub known_after : ℕ → List ℕ → Bool → List (Option (List ℕ)) → List (Option (List ℕ))
known_after first bytes true records =
    take first records ++ map Some (all_pieces bytes) ++ drop (first + length (all_pieces bytes)) records
known_after first bytes false records =
    if length (full_pieces bytes) == 1 then set records first None else records

-- ---- any unit

abbrev pub unit_fault : ℕ → RecordUnit → Option UnitFault
unit_fault size w = if w.writes then write_fault size w.first w.bytes (is_good w.status) else None

abbrev pub after_unit : RecordUnit → List (Option (List ℕ)) → List (Option (List ℕ))
after_unit w records = if w.writes then known_after w.first w.bytes (is_good w.status) records else records

-- a unit that wrote these bytes, with this status
abbrev pub write_unit : ℕ → List ℕ → Option ℕ → RecordUnit
write_unit first bytes status = record { writes = true; first = first; bytes = bytes; status = status }

-- with what is known after it, what was right of any units is right of them and one that wrote these bytes
abbrev pub IsToldBy : ℕ → List ℕ → Bool → List (Option (List ℕ)) → List (Option (List ℕ)) → Type 0
IsToldBy first bytes good before after =
    (old : Tape) (units : List RecordUnit) (status : Option ℕ) → is_good status ≡ good
    → IsExpectedAfter old units before → IsExpectedAfter old (units ++ write_unit first bytes status ∷ []) after
