-- The names that files of a tape have on the host: NAME.TYPE.FIELD.
use Rattle.std.specs.Prelude.{◌≡◌, ◌≢◌, ◌<◌, ◌≤◌, ◌^◌, ◌==◌, ◌&&◌, ◌++◌, ◌-◌, ℕ, Bool, not, List, [], ◌∷◌, length, take, drop, slice_index, Option, Some, None, codes, nat_lt, nat_le, if◌then◌else◌, option_and_then}
use Rattle.std.specs.Int.{w16, to_be_bytes, from_be_bytes}
use Rattle.std.specs.List.{flat_map, AllPass}
use Rattle.hex.specs.Hex.{IsBytes, encode_upper}
use Rattle.lif_model.specs.Printed.{printed_byte, trimmed}
use Rattle.lif_dir.specs.Names.{name_of_bytes}
use Rattle.lif_dir.specs.declared.entries.Name.{Name}
use Rattle.il_script.specs.Digits.{hex_bytes}
use Rattle.il_script.specs.Spelling.{spelt}
use Rattle.tape_names.specs.declared.host_names.HostEntry.{HostEntry}

-- ---- the name of a file of a tape

-- a byte as `il` prints it, except that a slash is escaped too
abbrev pub host_byte : ℕ → List ℕ
host_byte byte = if byte == 47 then codes "%2F" else printed_byte byte

-- the first byte of a name: a point is escaped too
abbrev pub host_first : ℕ → List ℕ
host_first byte = if byte == 46 then codes "%2E" else host_byte byte

-- a name without the spaces at its end; one of spaces only is printed as one space
abbrev pub host_text : List ℕ → List ℕ
host_text [] = codes "%20"
host_text (first ∷ rest) = host_first first ++ flat_map host_byte rest

-- what follows the name: `.E214.12060000`
unfoldable pub host_tail : ℕ → List ℕ → List ℕ
host_tail kind field = codes "." ++ (encode_upper (to_be_bytes w16 kind) ++ (codes "." ++ encode_upper field))

-- `STARTUP.E214.12060000`
unfoldable pub host_name_of : List ℕ → ℕ → List ℕ → List ℕ
host_name_of name kind field = host_text (trimmed name) ++ host_tail kind field

-- ---- read back

-- a name, a type as two bytes, and a field, if there are all three
abbrev pub entry_of_three : Option Name → Option (List ℕ) → Option (List ℕ) → Option HostEntry
entry_of_three None kind field = None
entry_of_three (Some name) None field = None
entry_of_three (Some name) (Some kind) None = None
entry_of_three (Some name) (Some kind) (Some field) = Some (record { name = name; kind = from_be_bytes w16 kind; field = field })

-- what a name and the 14 bytes after it state
abbrev pub entry_of_parts : List ℕ → List ℕ → Option HostEntry
entry_of_parts name tail =
    if slice_index tail 0 == 46 && slice_index tail 5 == 46
    then entry_of_three (option_and_then name_of_bytes (spelt name)) (hex_bytes 2 (take 4 (drop 1 tail))) (hex_bytes 4 (drop 6 tail))
    else None

-- The entry that the name of a host file states. Its last 14 bytes are a point, four hex digits, a point and eight hex
-- digits, of either case; what is before them spells a name of one to ten bytes.
abbrev pub entry_of_host_name : List ℕ → Option HostEntry
entry_of_host_name text = if nat_lt (length text) 15 then None else entry_of_parts (take (length text - 14) text) (drop (length text - 14) text)

-- the parts of an entry: a name of ten bytes, a type of 16 bits, and a field of four bytes
pub record AreParts (name : List ℕ) (kind : ℕ) (field : List ℕ) : Type 0 where
  pub ten : length name ≡ 10
  pub bytes : IsBytes name
  pub fits : kind < 2 ^ 16
  pub four : length field ≡ 4
  pub digits : IsBytes field

-- ---- which bytes a host name has

-- a printed ASCII character that is neither a space nor a slash
abbrev pub is_host_byte : ℕ → Bool
is_host_byte byte = nat_le 0x21 byte && (nat_le byte 0x7E && not (byte == 47))

-- 15 to 44 such bytes, the first of them no point
pub record IsHostName (text : List ℕ) : Type 0 where
  pub least : 15 ≤ length text
  pub most : length text ≤ 44
  pub bytes : AllPass is_host_byte text
  pub first : slice_index text 0 ≢ 46
