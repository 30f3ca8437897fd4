-- The first places of a list, element by element.
use Rattle.std.proofs.Common.{◌≡◌, ◌≤◌, ◌<◌, ◌+◌, ◌&&◌, ◌∙◌, ℕ, suc, Bool, true, false, not, if◌then◌else◌, List, [], length, get_or, drop, Option, Some, None, option_map, ap, sym, refl, arith}
use Rattle.std.specs.Str.{bytes_eq}
use Rattle.std.proofs.lemmas.List.{at_drop_more, drop_all}
use Rattle.lif_model.specs.Directory.{name_of}
use Rattle.lif_model.specs.Legal.{is_live}
use Rattle.tape_why.specs.Defects.{or_else, place_from, clash_from, share_name}

next : (k : ℕ) → suc k ≡ k + 1
next k = omega arith

module _ (holds : List ℕ → Bool) (slots : List (List ℕ)) (k : ℕ) where
  pub place_here : k < length slots → holds (get_or slots k []) ≡ true → place_from holds k (drop k slots) ≡ Some k
  place_here lt on =
      at_drop_more (place_from holds k) slots k [] lt ∙ ap (λ (b : Bool). if b then Some k else place_from holds (suc k) (drop (k + 1) slots)) on

  pub place_past : k < length slots → holds (get_or slots k []) ≡ false → place_from holds (k + 1) (drop (k + 1) slots) ≡ place_from holds k (drop k slots)
  place_past lt off = sym (
      at_drop_more (place_from holds k) slots k [] lt
      ∙ ap (λ (b : Bool). if b then Some k else place_from holds (suc k) (drop (k + 1) slots)) off
      ∙ ap (λ (m : ℕ). place_from holds m (drop (k + 1) slots)) (next k)
      )

  pub no_place : length slots ≤ k → place_from holds k (drop k slots) ≡ None
  no_place end = ap (place_from holds k) (drop_all k slots end)

-- of the slots after slot k
pub later_places : (holds : List ℕ → Bool) (slots : List (List ℕ)) (k : ℕ) → place_from holds (k + 1) (drop (k + 1) slots) ≡ place_from holds (suc k) (drop (suc k) slots)
later_places holds slots k = ap (λ (m : ℕ). place_from holds m (drop m slots)) (sym (next k))

module _ (clash : List ℕ → List ℕ → Bool) (slots : List (List ℕ)) (k : ℕ) where
  split : k < length slots → clash_from clash k (drop k slots)
      ≡ or_else (option_map (λ j. (k, j)) (place_from (clash (get_or slots k [])) (suc k) (drop (suc k) slots))) (clash_from clash (k + 1) (drop (k + 1) slots))
  split lt =
      at_drop_more (clash_from clash k) slots k [] lt
      ∙ (λ i. or_else (option_map (λ j. (k, j)) (place_from (clash (get_or slots k [])) (suc k) (drop (sym (next k) i) slots))) (clash_from clash (next k i) (drop (k + 1) slots)))

  pub clash_here : (later : ℕ) → k < length slots → place_from (clash (get_or slots k [])) (suc k) (drop (suc k) slots) ≡ Some later → clash_from clash k (drop k slots) ≡ Some (k, later)
  clash_here later lt is = split lt ∙ ap (λ (o : Option ℕ). or_else (option_map (λ j. (k, j)) o) (clash_from clash (k + 1) (drop (k + 1) slots))) is

  pub clash_past : k < length slots → place_from (clash (get_or slots k [])) (suc k) (drop (suc k) slots) ≡ None → clash_from clash (k + 1) (drop (k + 1) slots) ≡ clash_from clash k (drop k slots)
  clash_past lt is = sym (split lt ∙ ap (λ (o : Option ℕ). or_else (option_map (λ j. (k, j)) o) (clash_from clash (k + 1) (drop (k + 1) slots))) is)

  pub no_clash : length slots ≤ k → clash_from clash k (drop k slots) ≡ None
  no_clash end = ap (clash_from clash k) (drop_all k slots end)

-- ---- names

twice : (b : Bool) → not (not b) ≡ b
twice true = refl
twice false = refl

pub same_names : (a b : List ℕ) → is_live b ≡ true → (is_live a && bytes_eq (name_of a) (name_of b)) ≡ share_name a b
same_names a b on = λ i. is_live a && (sym on i && sym (twice (bytes_eq (name_of a) (name_of b))) i)
