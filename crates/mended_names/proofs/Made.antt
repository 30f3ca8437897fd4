-- What a name is mended to can be made.
use Rattle.std.proofs.Common.{◌≡◌, ◌≤◌, ◌<◌, ◌+◌, ◌-◌, ◌^◌, ◌∙◌, ◌++◌, ◌&&◌, ◌||◌, ◌==◌, ℕ, zero, suc, Bool, true, false, cond, nat_le, List, [], ◌∷◌, Some, None, length, map, take, replicate, refl, ap, arith, decimal, length-append, length-take}
use Rattle.std.proofs.lemmas.Bool.Decides.{nat_tests}
use Rattle.std.proofs.lemmas.Fmt.{decimal-digits_of, length-decimal-le}
use Rattle.std.proofs.lemmas.Int.Digits.{all_below_base_digits_of}
use Rattle.std.proofs.lemmas.List.Folds.{list_all-append}
use Rattle.std.specs.Char.{to_ascii_uppercase}
use Rattle.std.specs.Int.Digits.{AllBelowBase, digits_of}
use Rattle.std.specs.List.{list_all}
use Rattle.std.specs.Option.{option_and_then}
use Rattle.lif_model.specs.Printed.{with_byte, trimmed}
use Rattle.lif_dir.specs.Entries.{spaced}
use Rattle.lif_dir.specs.Names.{is_letter, is_digit, is_name_byte, is_made, new_name}
use Rattle.lif_dir.specs.declared.names.NewName.{NewName}
use Rattle.mended_names.specs.Mending.{mended_byte, from_letter, mended_base, with_number, given_text, new_name_of}

-- the two halves of a test
pub left : (a b : Bool) → (a && b) ≡ true → a ≡ true
left true b h = refl
left false b h = cc

pub right : (a b : Bool) → (a && b) ≡ true → b ≡ true
right true b h = h
right false b h = cc

pub both : (a b : Bool) → a ≡ true → b ≡ true → (a && b) ≡ true
both a b x y = ap (λ (c : Bool). c && b) x ∙ y

-- ---- bytes

as-name-byte : (c : ℕ) (b : Bool) → is_name_byte c ≡ b → is_name_byte (cond b c 95) ≡ true
as-name-byte c true h = h
as-name-byte c false h = refl

mended-is-name-byte : (byte : ℕ) → is_name_byte (mended_byte byte) ≡ true
mended-is-name-byte byte = as-name-byte (to_ascii_uppercase byte) (is_name_byte (to_ascii_uppercase byte)) refl

mended-are-name-bytes : (text : List ℕ) → list_all is_name_byte (map mended_byte text) ≡ true
mended-are-name-bytes [] = refl
mended-are-name-bytes (byte ∷ text) = both (is_name_byte (mended_byte byte)) (list_all is_name_byte (map mended_byte text)) (mended-is-name-byte byte) (mended-are-name-bytes text)

letter-is-name-byte : (byte : ℕ) → is_letter byte ≡ true → is_name_byte byte ≡ true
letter-is-name-byte byte h = ap (λ (b : Bool). b || (is_digit byte || byte == 95)) h

digit-is-name-byte : (d : ℕ) → d < 10 → is_name_byte (48 + d) ≡ true
digit-is-name-byte d lt = grind (arith, nat_tests)

digits-are-name-bytes : (ds : List ℕ) → AllBelowBase 10 ds → list_all is_name_byte (map (λ d. 48 + d) ds) ≡ true
digits-are-name-bytes [] below = refl
digits-are-name-bytes (d ∷ ds) below = both (is_name_byte (48 + d)) (list_all is_name_byte (map (λ e. 48 + e) ds)) (digit-is-name-byte d below.0) (digits-are-name-bytes ds below.1)

decimal-are-name-bytes : (n : ℕ) → 0 < n → n < 2 ^ 64 → list_all is_name_byte (decimal n) ≡ true
decimal-are-name-bytes n some small =
    ap (list_all is_name_byte) (decimal-digits_of n some small) ∙ digits-are-name-bytes (digits_of 10 n) (all_below_base_digits_of 10 n (omega arith))

name-byte-is-no-space : (byte : ℕ) → is_name_byte byte ≡ true → (byte == 32) ≡ false
name-byte-is-no-space byte h = grind (arith, nat_tests)

-- ---- texts

made-are-name-bytes : (text : List ℕ) → is_made text ≡ true → list_all is_name_byte text ≡ true
made-are-name-bytes [] h = cc
made-are-name-bytes (first ∷ rest) h =
    both (is_name_byte first) (list_all is_name_byte rest) (letter-is-name-byte first (left (is_letter first) (list_all is_name_byte rest) h)) (right (is_letter first) (list_all is_name_byte rest) h)

take-are-name-bytes : (n : ℕ) (text : List ℕ) → list_all is_name_byte text ≡ true → list_all is_name_byte (take n text) ≡ true
take-are-name-bytes zero text h = refl
take-are-name-bytes (suc n) [] h = refl
take-are-name-bytes (suc n) (byte ∷ text) h =
    both (is_name_byte byte) (list_all is_name_byte (take n text)) (left (is_name_byte byte) (list_all is_name_byte text) h)
    (take-are-name-bytes n text (right (is_name_byte byte) (list_all is_name_byte text) h))

-- a front that is not empty
take-made : (n : ℕ) (text : List ℕ) → is_made text ≡ true → is_made (take (suc n) text) ≡ true
take-made n [] h = cc
take-made n (first ∷ rest) h =
    both (is_letter first) (list_all is_name_byte (take n rest)) (left (is_letter first) (list_all is_name_byte rest) h)
    (take-are-name-bytes n rest (right (is_letter first) (list_all is_name_byte rest) h))

append-made : (text more : List ℕ) → is_made text ≡ true → list_all is_name_byte more ≡ true → is_made (text ++ more) ≡ true
append-made [] more h m = cc
append-made (first ∷ rest) more h m =
    both (is_letter first) (list_all is_name_byte (rest ++ more)) (left (is_letter first) (list_all is_name_byte rest) h)
    (list_all-append is_name_byte rest more ∙ both (list_all is_name_byte rest) (list_all is_name_byte more) (right (is_letter first) (list_all is_name_byte rest) h) m)

begun-made : (first : ℕ) (rest : List ℕ) (b : Bool) → is_letter first ≡ b → list_all is_name_byte (first ∷ rest) ≡ true → is_made (cond b [] (88 ∷ []) ++ (first ∷ rest)) ≡ true
begun-made first rest true letter all = both (is_letter first) (list_all is_name_byte rest) letter (right (is_name_byte first) (list_all is_name_byte rest) all)
begun-made first rest false letter all = all

from-letter-made : (text : List ℕ) → list_all is_name_byte text ≡ true → is_made (from_letter text) ≡ true
from-letter-made [] all = refl
from-letter-made (first ∷ rest) all = begun-made first rest (is_letter first) refl all

pub base_made : (name : List ℕ) → is_made (mended_base name) ≡ true
base_made name = take-made 9 (from_letter (map mended_byte (trimmed name))) (from-letter-made (map mended_byte (trimmed name)) (mended-are-name-bytes (trimmed name)))

pub base_short : (name : List ℕ) → length (mended_base name) ≤ 10
base_short name = let size = length-take 10 (from_letter (map mended_byte (trimmed name))) in omega (arith, size)

pub numbered_made : (base : List ℕ) (number : ℕ) → is_made base ≡ true → 0 < number → number < 10 ^ 4 → is_made (with_number base number) ≡ true
numbered_made base number made some few =
    let short : length (decimal number) ≤ 4 = length-decimal-le 4 number (omega arith) few (omega arith) in
    let front : 10 - length (decimal number) ≡ suc (9 - length (decimal number)) = omega arith in
    append-made (take (10 - length (decimal number)) base) (decimal number)
    (ap (λ (n : ℕ). is_made (take n base)) front ∙ take-made (9 - length (decimal number)) base made)
    (decimal-are-name-bytes number some (omega arith))

pub numbered_short : (base : List ℕ) (number : ℕ) → 0 < number → number < 10 ^ 4 → length (with_number base number) ≤ 10
numbered_short base number some few =
    let short : length (decimal number) ≤ 4 = length-decimal-le 4 number (omega arith) few (omega arith) in
    let size = length-append (take (10 - length (decimal number)) base) (decimal number) in
    let front = length-take (10 - length (decimal number)) base in
    omega (arith, size, front)

-- ---- names

no-text : (n : ℕ) → trimmed (replicate n 32) ≡ []
no-text zero = refl
no-text (suc n) = ap (with_byte 32) (no-text n)

before-text : (byte : ℕ) (text : List ℕ) → (byte == 32) ≡ false → with_byte byte text ≡ byte ∷ text
before-text byte [] h = ap (λ (b : Bool). cond b [] (byte ∷ [])) h
before-text byte (next ∷ text) h = refl

-- the text of a name
trimmed-spaced : (n : ℕ) (text : List ℕ) → list_all is_name_byte text ≡ true → trimmed (text ++ replicate n 32) ≡ text
trimmed-spaced n [] all = no-text n
trimmed-spaced n (byte ∷ text) all =
    ap (with_byte byte) (trimmed-spaced n text (right (is_name_byte byte) (list_all is_name_byte text) all))
    ∙ before-text byte text (name-byte-is-no-space byte (left (is_name_byte byte) (list_all is_name_byte text) all))

made-has-bytes : (text : List ℕ) → is_made text ≡ true → nat_le 1 (length text) ≡ true
made-has-bytes [] h = cc
made-has-bytes (first ∷ rest) h = grind (arith, nat_tests)

fits : (text : List ℕ) → is_made text ≡ true → length text ≤ 10 → (nat_le 1 (length text) && nat_le (length text) 10) ≡ true
fits text made short = let some = made-has-bytes text made in grind (arith, nat_tests)

-- a text that can be made is that of a name
pub record HasName (text : List ℕ) : Type 0 where
  pub new : NewName
  pub is : new_name_of text ≡ Some new
  pub same : given_text new ≡ text

pub named_by : (text : List ℕ) → is_made text ≡ true → length text ≤ 10 → HasName text
named_by text made short =
    let same = trimmed-spaced (10 - length text) text (made-are-name-bytes text made) in
    record {
      new = record { name = record { bytes = spaced text } };
      is = ap (λ (b : Bool). option_and_then new_name (cond b (Some (record { bytes = spaced text })) None)) (fits text made short)
          ∙ ap (λ (b : Bool). cond b (Some (record { name = record { bytes = spaced text } })) None) (ap is_made same ∙ made);
      same = same;
    }
