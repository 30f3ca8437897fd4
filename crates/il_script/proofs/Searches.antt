-- What a search for a byte tells of lines and words.
use Rattle.std.proofs.Common.{◌≡◌, ◌≤◌, ◌<◌, ◌+◌, ◌++◌, ◌==◌, ◌∙◌, ◌∷◌, [], ℕ, zero, suc, Bool, true, false, cond, not, List, Option, Some, None, length, take, refl, sym, ap, subst, arith}
use Rattle.std.specs.Prelude.{MatchOption, slice_index, unwrap_or}
use Rattle.std.specs.List.{take_while}
use Rattle.std.proofs.lemmas.Bool.{eqb-true}
use Rattle.std.proofs.lemmas.List.{take_more, take_all}
use Rattle.std.proofs.lemmas.List.Sums.{take_while-cons}
use Rattle.memchr.specs.Find.{IsFirstByte, Nowhere, Passes, is_byte}
use Rattle.il_script.specs.LineCut.{HasNoFeed, line_cut}
use Rattle.il_script.specs.Words.{is_dark}
use Rattle.il_script.proofs.Cuts.{is_open-push, line_cut-feed}

-- it stands at no such place
other_at : (a : ℕ) (xs : List ℕ) (n k : ℕ) → Nowhere (Passes (is_byte a) xs) 0 n → k < n → (slice_index xs k == a) ≡ false
other_at a xs n k none low = by (slice_index xs k == a) refl
  where
    by : (is : Bool) → (slice_index xs k == a) ≡ is → (slice_index xs k == a) ≡ false
    by true is = absurd (none k (omega arith) low is)
    by false is = is

-- ---- line feeds

-- before the first one no line ends
open_front : (bytes : List ℕ) (n k : ℕ) → n ≤ length bytes → Nowhere (Passes (is_byte 10) bytes) 0 n → k ≤ n → HasNoFeed (take k bytes)
open_front bytes n zero within none low = record { is = refl }
open_front bytes n (suc k) within none low =
    let same : k + 1 ≡ suc k = omega arith in
    subst (λ m. HasNoFeed (take m bytes)) same
    (subst HasNoFeed (sym (take_more bytes k 0 (omega (arith, within, low)))) (is_open-push (take k bytes) (slice_index bytes k) (open_front bytes n k within none (omega (arith, low))) (other_at 10 bytes n k none (omega (arith, low)))))

-- the first one ends the first line; without one none ends
pub first_feed_by : (bytes : List ℕ) (found : Option ℕ) → IsFirstByte (is_byte 10) bytes found → MatchOption found (HasNoFeed bytes) (λ at. (at < length bytes) × (line_cut (take (at + 1) bytes) ≡ record { whole = take at bytes ∷ []; open_line = [] }))
first_feed_by bytes None none = subst HasNoFeed (take_all (length bytes) bytes (omega arith)) (open_front bytes (length bytes) (length bytes) (omega arith) none (omega arith))
first_feed_by bytes (Some at) first =
    let none = first.0 in
    let here : slice_index bytes at ≡ 10 = eqb-true (slice_index bytes at) 10 first.1 in (
      none.high,
      ap line_cut (take_more bytes at 0 none.high ∙ ap (λ x. take at bytes ++ x ∷ []) here) ∙ line_cut-feed (take at bytes) (open_front bytes at at (let high = none.high in omega (arith, high)) none.before (omega arith)),
    )

-- ---- spaces

-- a byte other than the space belongs to the run at the front, and the space ends it
dark_first : (x : ℕ) (xs : List ℕ) → (x == 32) ≡ false → length (take_while is_dark (x ∷ xs)) ≡ suc (length (take_while is_dark xs))
dark_first x xs other = ap length (take_while-cons is_dark x xs ∙ ap (λ space. cond (not space) (x ∷ take_while is_dark xs) []) other)

space_first : (x : ℕ) (xs : List ℕ) → (x == 32) ≡ true → length (take_while is_dark (x ∷ xs)) ≡ 0
space_first x xs is = ap length (take_while-cons is_dark x xs ∙ ap (λ space. cond (not space) (x ∷ take_while is_dark xs) []) is)

rest_none : (a x : ℕ) (xs : List ℕ) (n : ℕ) → Nowhere (Passes (is_byte a) (x ∷ xs)) 0 (suc n) → Nowhere (Passes (is_byte a) xs) 0 n
rest_none a x xs n none k low high passes = none (suc k) (omega arith) (omega (arith, high)) passes

dark_all : (line : List ℕ) → Nowhere (Passes (is_byte 32) line) 0 (length line) → length line ≡ length (take_while is_dark line)
dark_all [] none = refl
dark_all (x ∷ xs) none =
    let rest = dark_all xs (rest_none 32 x xs (length xs) none) in
    let more = dark_first x xs (other_at 32 (x ∷ xs) (length (x ∷ xs)) 0 none (omega arith)) in
    omega (arith, rest, more)

dark_until : (line : List ℕ) (at : ℕ) → at < length line → Nowhere (Passes (is_byte 32) line) 0 at → Passes (is_byte 32) line at → at ≡ length (take_while is_dark line)
dark_until [] at high none here = absurd (omega (arith, high))
dark_until (x ∷ xs) zero high none here = sym (space_first x xs here)
dark_until (x ∷ xs) (suc at) high none here =
    let rest = dark_until xs at (omega (arith, high)) (rest_none 32 x xs at none) here in
    let more = dark_first x xs (other_at 32 (x ∷ xs) (suc at) 0 none (omega arith)) in
    omega (arith, rest, more)

-- so long is the run of other bytes at the front
pub reach_by : (line : List ℕ) (found : Option ℕ) → IsFirstByte (is_byte 32) line found → unwrap_or found (length line) ≡ length (take_while is_dark line)
reach_by line None none = dark_all line none
reach_by line (Some at) first = dark_until line at first.0.high first.0.before first.1
