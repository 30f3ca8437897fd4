-- Numbers that grow with their digits.
use Rattle.std.proofs.Common.{◌≡◌, ℕ, ◌+◌, ◌-◌, ◌*◌, ◌≤◌, ◌<◌, Bool, true, false, cond, ◌&&◌, nat_le, List, [], ◌∷◌, Some, None, length, take, drop, get_or, refl, sym, ap, ◌∙◌, arith, fold}
use Rattle.std.proofs.lemmas.List.{take-append-drop, take_more}
use Rattle.std.proofs.lemmas.List.Sums.{fold-append}
use Rattle.std.proofs.lemmas.Bool.Decides.{nat_tests}
use Rattle.il_script.specs.Digits.{value_of, is_number, number_up_to}

abbrev pub one_digit : ℕ → ℕ → ℕ
one_digit value digit = 10 * value + (digit - 48)

grows : (value : ℕ) (text : List ℕ) → value ≤ fold one_digit value text
grows value [] = omega arith
grows value (digit ∷ text) = let more = grows (one_digit value digit) text in omega (arith, more)

pub front-least : (text : List ℕ) (i : ℕ) → value_of (take i text) ≤ value_of text
front-least text i =
    let parts = ap value_of (take-append-drop i text) in
    let joined = fold-append one_digit 0 (take i text) (drop i text) in
    omega (arith, parts, joined, grows (value_of (take i text)) (drop i text))

pub one-more : (text : List ℕ) (i : ℕ) → i < length text → value_of (take (i + 1) text) ≡ one_digit (value_of (take i text)) (get_or text i 0)
one-more text i within = ap value_of (take_more text i 0 within) ∙ fold-append one_digit 0 (take i text) (get_or text i 0 ∷ [])

past : (n most : ℕ) → most < n → nat_le n most ≡ false
past n most h = grind (arith, nat_tests)

refused : (b c : Bool) (value : ℕ) → c ≡ false → None ≡ cond (b && c) (Some value) None
refused true true value h = cc
refused true false value h = refl
refused false c value h = refl

-- a number whose first digits are too large is too large
pub too-large : (most : ℕ) (text : List ℕ) (i value : ℕ) → i < length text → value ≡ value_of (take i text) → most < one_digit value (get_or text i 0) → None ≡ number_up_to most text
too-large most text i value within is large =
    let least = front-least text (i + 1) in
    let next : value_of (take (i + 1) text) ≡ one_digit value (get_or text i 0) = one-more text i within ∙ ap (λ v. one_digit v (get_or text i 0)) (sym is) in
    refused (is_number text) (nat_le (value_of text) most) (value_of text) (past (value_of text) most (omega (arith, least, next)))
