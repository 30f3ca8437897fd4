-- How names and labels are printed.
use Rattle.std.specs.Prelude.{◌==◌, ◌&&◌, if◌then◌else◌, nat_le, not, ℕ, Bool, List, [], ◌∷◌, codes}
use Rattle.std.specs.List.{flat_map}
use Rattle.hex.specs.Hex.{encode_upper}

-- a byte that stands for itself: 21 to 7E hex, other than the percent sign
abbrev pub is_plain : ℕ → Bool
is_plain byte = nat_le 0x21 byte && (nat_le byte 0x7E && not (byte == 37))

-- every other byte is a percent sign and two hex digits
abbrev pub printed_byte : ℕ → List ℕ
printed_byte byte = if is_plain byte then byte ∷ [] else 37 ∷ encode_upper (byte ∷ [])

-- a byte before a text without spaces at its end
abbrev pub with_byte : ℕ → List ℕ → List ℕ
with_byte byte [] = if byte == 32 then [] else byte ∷ []
with_byte byte (next ∷ text) = byte ∷ next ∷ text

-- a text without the spaces at its end
abbrev pub trimmed : List ℕ → List ℕ
trimmed [] = []
trimmed (byte ∷ text) = with_byte byte (trimmed text)

-- a text of spaces alone is printed as one
abbrev pub printed_text : List ℕ → List ℕ
printed_text [] = codes "%20"
printed_text (byte ∷ text) = flat_map printed_byte (byte ∷ text)

-- the printed spelling of a name or a label
unfoldable pub printed : List ℕ → List ℕ
printed name = printed_text (trimmed name)
