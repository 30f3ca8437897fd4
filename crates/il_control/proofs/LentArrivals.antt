-- How many frames came to the host when the rounds of a second controller break off.
use Rattle.std.proofs.Common.{◌≡◌, ◌∙◌, ◌⊎◌, ⊎_elim, ◌≤◌, ◌<◌, ◌+◌, ◌++◌, ℕ, zero, suc, Bool, true, false, List, [], ◌∷◌, cond, ap, ap₂, arith}
use Rattle.std.specs.Prelude.{◌-◌, if◌then◌else◌, nat_le, nat_lt}
use Rattle.std.proofs.lemmas.Bool.Decides.{nat_tests}
use Rattle.std.proofs.lemmas.List.Sums.{sum_by-append}
use Rattle.il_frames.specs.declared.entry.Entry.{Entry}
use Rattle.il_frames.specs.declared.entry.Outcome.TheVariants as outcome
use Rattle.il_frames.specs.declared.frame.Frame.{Frame}
use Rattle.il_frames.specs.NamedFrames.{entry}
use Rattle.loop_model.specs.Reach.{brings_to, distance}
use Rattle.il_ring.specs.Turned.{turned}
use Rattle.il_control.specs.Polling.{came_by}

-- ---- distances

pub dist_home : (k q : ℕ) → distance k q 0 ≡ suc k - q
dist_home k q =
    let no : nat_lt q 0 ≡ false = grind (arith, nat_tests) in
    ap (λ b. if b then 0 - q else (suc k + 0) - q) no ∙ omega arith

pub dist_ahead : (k p q : ℕ) → p < q → distance k p q ≡ q - p
dist_ahead k p q less =
    let yes : nat_lt p q ≡ true = grind (arith, nat_tests) in
    ap (λ b. if b then q - p else (suc k + q) - p) yes

-- ---- entries

pub came_by-append : (k : ℕ) (xs ys : List Entry) → came_by k (xs ++ ys) ≡ came_by k xs + came_by k ys
came_by-append k xs ys = sum_by-append (λ e. cond (brings_to k 0 e) 1 0) xs ys

pub came_one : (k : ℕ) (e : Entry) → came_by k (e ∷ []) ≤ 1
came_one k e = by (brings_to k 0 e)
  where
    by : (b : Bool) → 0 + cond b 1 0 ≤ 1
    by true = omega arith
    by false = omega arith

-- one that was lost on the last link did not
pub came_lost_home : (k q : ℕ) (f : Frame) → came_by k (entry q f (outcome.Lost 0) ∷ []) ≡ 0
came_lost_home k q f = ap (λ b. 0 + cond b 1 0) (no (distance k q 0))
  where
    no : (n : ℕ) → nat_lt n n ≡ false
    no n = grind (arith, nat_tests)

-- nor one that was lost, or taken, between its source and the last device
pub came_lost_ahead : (k p q : ℕ) (f : Frame) → p < q → q ≤ k → came_by k (entry p f (outcome.Lost q) ∷ []) ≡ 0
came_lost_ahead k p q f less on =
    let no : nat_lt (suc k - p) (q - p) ≡ false = grind (arith, nat_tests) in
    ap₂ (λ a b. 0 + cond (nat_lt a b) 1 0) (dist_home k p) (dist_ahead k p q less) ∙ ap (λ b. 0 + cond b 1 0) no

pub came_taken_ahead : (k p q : ℕ) (f : Frame) → p < q → q ≤ k → came_by k (entry p f (outcome.Taken q) ∷ []) ≡ 0
came_taken_ahead k p q f less on =
    let no : nat_le (suc k - p) (q - p) ≡ false = grind (arith, nat_tests) in
    ap₂ (λ a b. 0 + cond (nat_le a b) 1 0) (dist_home k p) (dist_ahead k p q less) ∙ ap (λ b. 0 + cond b 1 0) no

-- two, the second of which did not
pub came_two : (k : ℕ) (e f : Entry) → came_by k (f ∷ []) ≡ 0 → came_by k (e ∷ f ∷ []) ≤ 1
came_two k e f none = let sum = came_by-append k (e ∷ []) (f ∷ []) in let one = came_one k e in omega (arith, sum, one, none)

-- two, the first of which did not
pub came_second : (k : ℕ) (e f : Entry) → came_by k (e ∷ []) ≡ 0 → came_by k (e ∷ f ∷ []) ≡ came_by k (f ∷ [])
came_second k e f none = let sum = came_by-append k (e ∷ []) (f ∷ []) in omega (arith, sum, none)

-- ---- as the second controller sees it

-- after this source, or before itself
pub turned_ahead : (k p q : ℕ) → p < k → (q ≡ 0) ⊎ (p < q) → p < turned k q
turned_ahead k p zero less where_ = less
turned_ahead k p (suc q) less where_ = ⊎_elim (λ none. omega (arith, none)) (λ far. far) where_

-- before a device up to this one
pub turned_up_to : (k q p : ℕ) → 1 ≤ q → q ≤ p → turned k q ≤ p
turned_up_to k zero p some low = let no : ⊥ = omega (arith, some) in absurd no
turned_up_to k (suc q) p some low = low
