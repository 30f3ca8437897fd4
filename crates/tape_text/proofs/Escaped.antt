-- How long a text is as XML: at most five bytes for each byte, and at most 110 bytes for the name of a file.
use Rattle.std.proofs.Common.{◌≡◌, ◌≤◌, ◌+◌, ◌*◌, ◌++◌, ◌==◌, if◌then◌else◌, ℕ, Bool, true, false, List, [], ◌∷◌, length, codes, get_or, take, ap, ◌∙◌, ◌<◌, arith, length-append}
use Rattle.std.specs.List.{flat_map}
use Rattle.std.proofs.lemmas.Grind.{flat_map-append}
use Rattle.std.proofs.lemmas.List.{append-nil, take_more}
use Rattle.hex.specs.Hex.{encode_upper, upper_digits}
use Rattle.hex.proofs.HexLemmas.{length-encode_with}
use Rattle.lif_model.specs.Printed.{is_plain, printed_byte, with_byte, trimmed, printed_text, printed}
use Rattle.tape_text.specs.Picture.{xml_byte, xml_text}

byte_small : (byte : ℕ) → length (xml_byte byte) ≤ 5
byte_small byte = go (byte == 38) (byte == 60) (byte == 62)
  where
    go : (x y z : Bool) → length (if x then codes "&amp;" else if y then codes "&lt;" else if z then codes "&gt;" else byte ∷ []) ≤ 5
    go true y z = omega arith
    go false true z = omega arith
    go false false true = omega arith
    go false false false = omega arith

pub text_small : (text : List ℕ) → length (xml_text text) ≤ 5 * length text
text_small [] = omega arith
text_small (byte ∷ text) = omega (arith, length-append (xml_byte byte) (xml_text text), byte_small byte, text_small text)

-- one byte more
pub xml_next : (text : List ℕ) (i : ℕ) → i < length text → xml_text (take (i + 1) text) ≡ xml_text (take i text) ++ xml_byte (get_or text i 0)
xml_next text i lt =
    ap xml_text (take_more text i 0 lt) ∙ flat_map-append xml_byte (take i text) (get_or text i 0 ∷ [])
    ∙ ap (λ (l : List ℕ). xml_text (take i text) ++ l) (append-nil (xml_byte (get_or text i 0)))

-- a byte of a name
printed_byte_small : (byte : ℕ) → length (xml_text (printed_byte byte)) ≤ 11
printed_byte_small byte = go (is_plain byte)
  where
    go : (plain : Bool) → length (xml_text (if plain then byte ∷ [] else 37 ∷ encode_upper (byte ∷ []))) ≤ 11
    go true = omega (arith, text_small (byte ∷ []))
    go false = omega (arith, text_small (encode_upper (byte ∷ [])), length-encode_with upper_digits (byte ∷ []))

bytes_small : (text : List ℕ) → length (xml_text (flat_map printed_byte text)) ≤ 11 * length text
bytes_small [] = omega arith
bytes_small (byte ∷ text) =
    omega (
      arith,
      ap length (flat_map-append xml_byte (printed_byte byte) (flat_map printed_byte text)),
      length-append (xml_text (printed_byte byte)) (xml_text (flat_map printed_byte text)),
      printed_byte_small byte,
      bytes_small text,
    )

pub trimmed_short : (text : List ℕ) → length (trimmed text) ≤ length text
trimmed_short [] = omega arith
trimmed_short (byte ∷ text) = go (trimmed text) (trimmed_short text)
  where
    one : (space : Bool) → length (if space then [] else byte ∷ []) ≤ length (byte ∷ text)
    one true = omega arith
    one false = omega arith

    go : (kept : List ℕ) → length kept ≤ length text → length (with_byte byte kept) ≤ length (byte ∷ text)
    go [] few = one (byte == 32)
    go (next ∷ kept) few = omega (arith, few)

-- a name of ten bytes
pub name_small : (name : List ℕ) → length name ≡ 10 → length (xml_text (printed name)) ≤ 110
unfolding printed
name_small name ten = go (trimmed name) (trimmed_short name)
  where
    go : (kept : List ℕ) → length kept ≤ length name → length (xml_text (printed_text kept)) ≤ 110
    go [] few = omega arith
    go (byte ∷ kept) few = omega (arith, bytes_small (byte ∷ kept), few, ten)
