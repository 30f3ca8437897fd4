-- Laws of spellings.
use Rattle.std.proofs.Common.{◌≡◌, ℕ, ◌≤◌, ◌<◌, ◌==◌, Bool, true, false, cond, ◌&&◌, not, List, [], ◌∷◌, Some, None, length, take, drop, get_or, refl, sym, ap, ◌∙◌, arith}
use Rattle.std.specs.Option.{option_map}
use Rattle.std.proofs.lemmas.Bool.Decides.{nat_tests}
use Rattle.lif_model.specs.Printed.{is_plain}
use Rattle.il_script.specs.Digits.{hex_bytes}
use Rattle.il_script.specs.Spelling.{plain, bytes_before, spelt, IsSpeltFirst}

last-false : (a b c : Bool) → (a && (b && not c)) ≡ true → c ≡ false
last-false true true false h = refl
last-false true true true h = cc
last-false true false c h = cc
last-false false b c h = cc

plain-is : (x : ℕ) → is_plain x ≡ true → plain x ≡ Some (x ∷ [])
plain-is x h = ap (λ b. cond b (Some (x ∷ [])) None) h

-- a byte that stands for itself
pub plain-first : (x : ℕ) (rest : List ℕ) → is_plain x ≡ true → spelt (x ∷ rest) ≡ option_map (λ more. x ∷ more) (spelt rest)
plain-first x [] h = plain-is x h
plain-first x (y ∷ []) h = ap (λ p. bytes_before p (spelt (y ∷ []))) (plain-is x h)
plain-first x (y ∷ z ∷ rest) h =
    ap (λ b. cond b (bytes_before (hex_bytes 1 (y ∷ z ∷ [])) (spelt rest)) (bytes_before (plain x) (spelt (y ∷ z ∷ rest)))) (last-false _ _ (x == 37) h)
    ∙ ap (λ p. bytes_before p (spelt (y ∷ z ∷ rest))) (plain-is x h)

-- a percent sign and two bytes
percent-first : (x : ℕ) (rest : List ℕ) → (x == 37) ≡ true → 2 ≤ length rest → spelt (x ∷ rest) ≡ bytes_before (hex_bytes 1 (take 2 rest)) (spelt (drop 2 rest))
percent-first x [] e h = absurd (omega arith)
percent-first x (y ∷ []) e h = absurd (omega arith)
percent-first x (y ∷ z ∷ rest) e h = ap (λ b. cond b (bytes_before (hex_bytes 1 (y ∷ z ∷ [])) (spelt rest)) (bytes_before (plain x) (spelt (y ∷ z ∷ rest)))) e

-- ---- the same of a text that is not empty

pub first-plain : (text : List ℕ) (x : ℕ) → 0 < length text → x ≡ get_or text 0 0 → is_plain x ≡ true → IsSpeltFirst text (Some (x, 1))
first-plain [] x some e h = absurd (omega arith)
first-plain (y ∷ rest) x some e h =
    let is : x ≡ y = e in
    (ap (λ b. spelt (b ∷ rest)) (sym is) ∙ plain-first x rest h, omega arith, omega arith)

is-percent : (x : ℕ) → x ≡ 37 → (x == 37) ≡ true
is-percent x h = grind (arith, nat_tests)

percent-text : (text : List ℕ) (x : ℕ) → 0 < length text → x ≡ get_or text 0 0 → x ≡ 37 → 3 ≤ length text → spelt text ≡ bytes_before (hex_bytes 1 (take 2 (drop 1 text))) (spelt (drop 3 text))
percent-text [] x some e h many = absurd (omega arith)
percent-text (y ∷ rest) x some e h many = let is : x ≡ y = e in ap (λ b. spelt (b ∷ rest)) (sym is) ∙ percent-first x rest (is-percent x h) (omega arith)

pub first-hex : (text : List ℕ) (x byte : ℕ) → 0 < length text → x ≡ get_or text 0 0 → x ≡ 37 → 3 ≤ length text → hex_bytes 1 (take 2 (drop 1 text)) ≡ Some (byte ∷ []) → IsSpeltFirst text (Some (byte, 3))
first-hex text x byte some e h many digits =
    (percent-text text x some e h many ∙ ap (λ b. bytes_before b (spelt (drop 3 text))) digits, omega arith, many)
