-- A name that is printed and read again is the same name.
use Rattle.std.proofs.Common.{◌≡◌, ℕ, zero, suc, ◌-◌, ◌≤◌, ◌<◌, ◌==◌, ◌&&◌, Bool, true, false, cond, nat_le, List, [], ◌∷◌, ◌++◌, Some, None, length, replicate, codes, refl, sym, ap, ap₂, ◌∙◌, arith, length-append}
use Rattle.std.proofs.lemmas.Bool.Decides.{nat_tests}
use Rattle.std.specs.List.{flat_map}
use Rattle.std.specs.Option.{option_map}
use Rattle.hex.specs.Hex.{IsBytes, decode_pairs, encode_with, encode_upper}
use Rattle.hex.proofs.HexLemmas.{decode_of-encode_upper}
use Rattle.lif_model.specs.Printed.{is_plain, printed_byte, printed_text, printed, trimmed, with_byte}
use Rattle.lif_dir.specs.Entries.{spaced, name_bytes}
use Rattle.lif_dir.specs.Names.{name_of_bytes}
use Rattle.lif_dir.specs.declared.entries.Name.{Name}
use Rattle.il_script.specs.Digits.{decoded, hex_bytes}
use Rattle.il_script.specs.Spelling.{bytes_before, spelt}
use Rattle.il_script.specs.Commands.{spelt_as}
use Rattle.il_script.proofs.Spellings.{plain-first}

-- ---- one byte

pub one-byte : (b : ℕ) → b < 256 → IsBytes (b ∷ [])
one-byte b h zero = h
one-byte b h (suc i) = omega arith

digits-read : (b : ℕ) → b < 256 → hex_bytes 1 (encode_upper (b ∷ [])) ≡ Some (b ∷ [])
unfolding encode_with
digits-read b h = ap decoded (decode_of-encode_upper (b ∷ []) (one-byte b h))

pub escaped-read : (b : ℕ) (text rest : List ℕ) → b < 256 → spelt text ≡ Some rest → spelt ((37 ∷ encode_upper (b ∷ [])) ++ text) ≡ Some (b ∷ rest)
unfolding encode_with
escaped-read b text rest h e = ap₂ bytes_before (digits-read b h) e

pub byte-read : (b : ℕ) (p : Bool) (text rest : List ℕ) → is_plain b ≡ p → b < 256 → spelt text ≡ Some rest → spelt (cond p (b ∷ []) (37 ∷ encode_upper (b ∷ [])) ++ text) ≡ Some (b ∷ rest)
byte-read b true text rest plain h e = plain-first b text plain ∙ ap (option_map (λ more. b ∷ more)) e
byte-read b false text rest plain h e = escaped-read b text rest h e

bytes-read : (kept : List ℕ) → IsBytes kept → spelt (flat_map printed_byte kept) ≡ Some kept
bytes-read [] h = refl
bytes-read (b ∷ kept) h = byte-read b (is_plain b) (flat_map printed_byte kept) kept refl (h zero) (bytes-read kept (λ i. h (suc i)))

-- ---- spaces at the end

pub filled-up : (name : List ℕ) → trimmed name ++ replicate (length name - length (trimmed name)) 32 ≡ name
filled-up [] = refl
filled-up (b ∷ name) = go (trimmed name) (filled-up name)
  where
    is-space : (x : ℕ) → (x == 32) ≡ true → x ≡ 32
    is-space x h = grind (arith, nat_tests)

    last : (s : Bool) → (b == 32) ≡ s → replicate (length name) 32 ≡ name
        → cond s [] (b ∷ []) ++ replicate (suc (length name) - length (cond s [] (b ∷ []))) 32 ≡ b ∷ name
    last true e ih = let all : suc (length name) - 0 ≡ suc (length name) = omega arith in ap (λ n. replicate n 32) all ∙ ap₂ (λ x l. x ∷ l) (sym (is-space b e)) ih
    last false e ih = let rest : suc (length name) - 1 ≡ length name = omega arith in ap (λ n. b ∷ replicate n 32) rest ∙ ap (λ l. b ∷ l) ih

    go : (kept : List ℕ) → kept ++ replicate (length name - length kept) 32 ≡ name → with_byte b kept ++ replicate (suc (length name) - length (with_byte b kept)) 32 ≡ b ∷ name
    go [] ih = let all : length name - 0 ≡ length name = omega arith in last (b == 32) refl (ap (λ n. replicate n 32) (sym all) ∙ ih)
    go (x ∷ kept) ih =
        let rest : suc (length name) - suc (length (x ∷ kept)) ≡ length name - length (x ∷ kept) = omega arith in
        ap (λ n. b ∷ ((x ∷ kept) ++ replicate n 32)) rest ∙ ap (λ l. b ∷ l) ih

pub kept-bytes : (name : List ℕ) → IsBytes name → IsBytes (trimmed name)
kept-bytes [] h = λ i. omega arith
kept-bytes (b ∷ name) h = go (trimmed name) (kept-bytes name (λ i. h (suc i)))
  where
    one : (s : Bool) → IsBytes (cond s [] (b ∷ []))
    one true i = omega arith
    one false i = one-byte b (h zero) i

    more : (kept : List ℕ) → IsBytes kept → IsBytes (b ∷ kept)
    more kept k zero = h zero
    more kept k (suc i) = k i

    go : (kept : List ℕ) → IsBytes kept → IsBytes (with_byte b kept)
    go [] k = one (b == 32)
    go (x ∷ kept) k = more (x ∷ kept) k

-- ---- names

is-within : (n m : ℕ) → n ≤ m → nat_le n m ≡ true
is-within n m h = grind (arith, nat_tests)

pub named : (bytes : List ℕ) (name : Name) → 1 ≤ length bytes → length bytes ≤ 10 → spaced bytes ≡ name_bytes name → name_of_bytes bytes ≡ Some name
named bytes name some few is =
    ap₂ (λ a b. cond (a && b) (let n : Name = record { bytes = spaced bytes } in Some n) None) (is-within 1 (length bytes) some) (is-within (length bytes) 10 few)
    ∙ ap (λ (l : List ℕ). let n : Name = record { bytes = l } in Some n) is

one-space : spelt_as name_of_bytes (codes "%20") ≡ Some (name_of_bytes (32 ∷ []))
unfolding decode_pairs
one-space = refl

text-read : (kept : List ℕ) (name : Name) → IsBytes kept → length (name_bytes name) ≡ 10 → kept ++ replicate (10 - length kept) 32 ≡ name_bytes name → spelt_as name_of_bytes (printed_text kept) ≡ Some (Some name)
text-read [] name h size is = one-space ∙ ap Some (named (32 ∷ []) name (omega arith) (omega arith) is)
text-read (b ∷ kept) name h size is =
    let few : length (b ∷ kept) ≤ 10 = omega (arith, size, ap length is, length-append (b ∷ kept) (replicate (10 - length (b ∷ kept)) 32)) in
    ap (option_map name_of_bytes) (bytes-read (b ∷ kept) h) ∙ ap Some (named (b ∷ kept) name (omega arith) few is)

-- what is printed of a name spells it
pub printed-read : (text : List ℕ) (name : Name) → IsBytes text → name_bytes name ≡ text → length text ≡ 10 → spelt_as name_of_bytes (printed text) ≡ Some (Some name)
unfolding printed
printed-read text name h is size =
    text-read (trimmed text) name (kept-bytes text h) (ap length is ∙ size) (ap (λ n. trimmed text ++ replicate (n - length (trimmed text)) 32) (sym size) ∙ filled-up text ∙ sym is)
