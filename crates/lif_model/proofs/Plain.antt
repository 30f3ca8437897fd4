-- The definitions step by step, as the plain functions carry them out.
use Rattle.std.proofs.Common.{◌≡◌, ◌<◌, ◌≤◌, ◌+◌, ◌++◌, ◌&&◌, ◌||◌, ℕ, suc, nat_le, List, [], ◌∷◌, Bool, true, false, not, if◌then◌else◌, length, get_or, drop, take, filter, refl, sym, ◌∙◌, ap, arith, append_assoc, length-take, get_or-take}
use Rattle.std.specs.List.{list_all, prefix_len}
use Rattle.std.proofs.lemmas.List.{at_drop_more, at_drop_all, append-nil}
use Rattle.lif_model.specs.Directory.{is_end, is_purged, before_end}
use Rattle.lif_model.specs.Fit.{Place, At, purged_from, low_of, high_of, first_fit, fit_among}
use Rattle.lif_model.specs.Header.{directory_end, is_readable}
use Rattle.lif_model.specs.Pairs.{all_pairs}
use Rattle.lif_model.specs.Legal.{is_live, occupies, lies_between, are_apart, have_other_names, is_legal_with}
use Rattle.lif_model.specs.Plain.{is_in_place, go_together}

swap_and : (a b c d : Bool) → ((a && b) && (c && d)) ≡ ((a && c) && (b && d))
swap_and true true c d = refl
swap_and true false true d = refl
swap_and true false false d = refl
swap_and false b c d = refl

module _ {X : Type 0} where
  -- ---- tests over picked elements

  filter_all : (pick test : X → Bool) (xs : List X) → list_all test (filter pick xs) ≡ list_all (λ x. not (pick x) || test x) xs
  filter_all pick test [] = refl
  filter_all pick test (x ∷ xs) = go (pick x) (filter_all pick test xs)
    where
      go : (b : Bool) → list_all test (filter pick xs) ≡ list_all (λ y. not (pick y) || test y) xs
          → list_all test (if b then x ∷ filter pick xs else filter pick xs) ≡ ((not b || test x) && list_all (λ y. not (pick y) || test y) xs)
      go true rest = ap (λ (b : Bool). test x && b) rest
      go false rest = rest

  skip_all : (xs : List X) → list_all (λ x. true) xs ≡ true
  skip_all [] = refl
  skip_all (x ∷ xs) = skip_all xs

  filter_pairs : (pick : X → Bool) (test : X → X → Bool) (xs : List X) → all_pairs test (filter pick xs) ≡ all_pairs (λ a b. not (pick a && pick b) || test a b) xs
  filter_pairs pick test [] = refl
  filter_pairs pick test (x ∷ xs) = go (pick x) (filter_pairs pick test xs)
    where
      go : (b : Bool) → all_pairs test (filter pick xs) ≡ all_pairs (λ a c. not (pick a && pick c) || test a c) xs
          → all_pairs test (if b then x ∷ filter pick xs else filter pick xs) ≡ (list_all (λ y. not (b && pick y) || test x y) xs && all_pairs (λ a c. not (pick a && pick c) || test a c) xs)
      go true rest = λ i. filter_all pick (test x) xs i && rest i
      go false rest = rest ∙ sym (ap (λ (b : Bool). b && all_pairs (λ a c. not (pick a && pick c) || test a c) xs) (skip_all xs))

  all_and : (f g : X → Bool) (xs : List X) → list_all (λ x. f x && g x) xs ≡ (list_all f xs && list_all g xs)
  all_and f g [] = refl
  all_and f g (x ∷ xs) = ap (λ (b : Bool). (f x && g x) && b) (all_and f g xs) ∙ swap_and (f x) (g x) (list_all f xs) (list_all g xs)

  pairs_and : (f g : X → X → Bool) (xs : List X) → all_pairs (λ a b. f a b && g a b) xs ≡ (all_pairs f xs && all_pairs g xs)
  pairs_and f g [] = refl
  pairs_and f g (x ∷ xs) = (λ i. all_and (f x) (g x) xs i && pairs_and f g xs i) ∙ swap_and (list_all (f x) xs) (list_all (g x) xs) (all_pairs f xs) (all_pairs g xs)

-- the test of a directory, one slot and two slots at a time
pub legal_by_slots : (n : ℕ) (header : List ℕ) (slots : List (List ℕ)) → is_legal_with n header slots ≡ (is_readable n header && (list_all (is_in_place (directory_end header) n) slots && all_pairs go_together slots))
legal_by_slots n header slots =
    let places = filter_all occupies (lies_between (directory_end header) n) slots in
    let apart = filter_pairs occupies are_apart slots in
    let names = filter_pairs is_live have_other_names slots in
    let both : all_pairs go_together slots ≡ (all_pairs are_apart (filter occupies slots) && all_pairs have_other_names (filter is_live slots)) =
    pairs_and (λ a b. not (occupies a && occupies b) || are_apart a b) (λ a b. not (is_live a && is_live b) || have_other_names a b) slots ∙ sym (λ i. apart i && names i) in
    λ i. is_readable n header && (places i && sym both i)

-- ---- the slots of a tape

before_cons : (e : List ℕ) (rest : List (List ℕ)) → before_end (e ∷ rest) ≡ (if is_end e then [] else e ∷ before_end rest)
before_cons e rest = go (is_end e)
  where
    go : (b : Bool) → take (if not b then 1 + prefix_len (λ x. not (is_end x)) rest else 0) (e ∷ rest) ≡ (if b then [] else e ∷ before_end rest)
    go true = refl
    go false = let step : 1 + prefix_len (λ x. not (is_end x)) rest ≡ suc (prefix_len (λ x. not (is_end x)) rest) = omega arith in ap (λ (m : ℕ). take m (e ∷ rest)) step

module _ (all : List (List ℕ)) (k : ℕ) (items : List (List ℕ)) (entry : List ℕ) (whole : List (List ℕ)) where
  -- one slot more
  pub before_more : k < length all → entry ≡ get_or all k [] → is_end entry ≡ false → items ++ before_end (drop k all) ≡ whole → (items ++ entry ∷ []) ++ before_end (drop (k + 1) all) ≡ whole
  before_more lt is off so_far =
      let next : before_end (drop k all) ≡ entry ∷ before_end (drop (k + 1) all) = at_drop_more before_end all k [] lt ∙ ap (λ (e : List ℕ). before_end (e ∷ drop (k + 1) all)) (sym is) ∙ before_cons entry (drop (k + 1) all)
      ∙ ap (λ (b : Bool). if b then [] else entry ∷ before_end (drop (k + 1) all)) off in
      append_assoc items (entry ∷ []) (before_end (drop (k + 1) all)) ∙ sym (ap (λ (xs : List (List ℕ)). items ++ xs) next) ∙ so_far

  -- the end of the directory
  pub before_stops : k < length all → entry ≡ get_or all k [] → is_end entry ≡ true → items ++ before_end (drop k all) ≡ whole → items ≡ whole
  before_stops lt is on so_far =
      let next : before_end (drop k all) ≡ [] = at_drop_more before_end all k [] lt ∙ ap (λ (e : List ℕ). before_end (e ∷ drop (k + 1) all)) (sym is) ∙ before_cons entry (drop (k + 1) all)
      ∙ ap (λ (b : Bool). if b then [] else entry ∷ before_end (drop (k + 1) all)) on in
      sym (append-nil items) ∙ sym (ap (λ (xs : List (List ℕ)). items ++ xs) next) ∙ so_far

  pub before_ends : length all ≤ k → items ++ before_end (drop k all) ≡ whole → items ≡ whole
  before_ends le so_far = sym (append-nil items) ∙ sym (ap (λ (xs : List (List ℕ)). items ++ xs) (at_drop_all before_end all k le)) ∙ so_far

-- ---- the choice of place

-- what is left to choose from, once a candidate was seen or not
abbrev pub fit_after : Bool → ℕ → ℕ → List (List ℕ) → ℕ → List ℕ → Place
fit_after seen n low slots count cs = if seen then first_fit n low slots count cs else fit_among n low slots count cs

purged_step : (r i : ℕ) (slots : List (List ℕ)) → i < r → r ≤ length slots
    → purged_from i (drop i (take r slots)) ≡ (if is_purged (get_or slots i []) then i ∷ purged_from (suc i) (drop (i + 1) (take r slots)) else purged_from (suc i) (drop (i + 1) (take r slots)))
purged_step r i slots lt le =
    at_drop_more (purged_from i) (take r slots) i [] (omega (arith, length-take r slots))
    ∙ ap (λ (slot : List ℕ). if is_purged slot then i ∷ purged_from (suc i) (drop (i + 1) (take r slots)) else purged_from (suc i) (drop (i + 1) (take r slots))) (get_or-take r slots i [] lt)

-- all of a list
pub all_picked : (is : List ℕ) → filter (λ i. true) is ≡ is
all_picked [] = refl
all_picked (i ∷ is) = ap (λ (js : List ℕ). i ∷ js) (all_picked is)

-- those of the candidates that are picked, from place i on
module _ (n low : ℕ) (slots : List (List ℕ)) (pick : ℕ → Bool) (count r i : ℕ) (tail : List ℕ) (whole : Place) (seen : Bool) (lt : i < r) (le : r ≤ length slots) where
  abbrev rest : ℕ → List ℕ
  rest j = filter pick (purged_from j (drop j (take r slots)) ++ tail)

  abbrev later : List ℕ
  later = purged_from (suc i) (drop (i + 1) (take r slots)) ++ tail

  step : (b : Bool) → is_purged (get_or slots i []) ≡ b → rest i ≡ filter pick ((if b then i ∷ purged_from (suc i) (drop (i + 1) (take r slots)) else purged_from (suc i) (drop (i + 1) (take r slots))) ++ tail)
  step b is = ap (λ (cs : List ℕ). filter pick (cs ++ tail)) (purged_step r i slots lt le ∙ ap (λ (c : Bool). if c then i ∷ purged_from (suc i) (drop (i + 1) (take r slots)) else purged_from (suc i) (drop (i + 1) (take r slots))) is)

  next_place : filter pick later ≡ rest (i + 1)
  next_place = let one : suc i ≡ i + 1 = omega arith in ap (λ (j : ℕ). filter pick (purged_from j (drop (i + 1) (take r slots)) ++ tail)) one

  -- a slot that is not purged
  pub fit_skips : is_purged (get_or slots i []) ≡ false → fit_after seen n low slots count (rest i) ≡ whole → fit_after seen n low slots count (rest (i + 1)) ≡ whole
  fit_skips off so_far = sym (ap (fit_after seen n low slots count) (step false off ∙ next_place)) ∙ so_far

  -- a purged one that is not picked
  pub fit_passes : is_purged (get_or slots i []) ≡ true → pick i ≡ false → fit_after seen n low slots count (rest i) ≡ whole → fit_after seen n low slots count (rest (i + 1)) ≡ whole
  fit_passes on off so_far = sym (ap (fit_after seen n low slots count) (step true on ∙ ap (λ (b : Bool). if b then i ∷ filter pick later else filter pick later) off ∙ next_place)) ∙ so_far

  picked : is_purged (get_or slots i []) ≡ true → pick i ≡ true → rest i ≡ i ∷ filter pick later
  picked on is = step true on ∙ ap (λ (b : Bool). if b then i ∷ filter pick later else filter pick later) is

  from_first : (b : Bool) (cs : List ℕ) → fit_after b n low slots count (i ∷ cs) ≡ first_fit n low slots count (i ∷ cs)
  from_first true cs = refl
  from_first false cs = refl

  -- one without room
  pub fit_goes_on : is_purged (get_or slots i []) ≡ true → pick i ≡ true → nat_le (low_of low slots i + count) (high_of n slots i) ≡ false → fit_after seen n low slots count (rest i) ≡ whole
      → fit_after true n low slots count (rest (i + 1)) ≡ whole
  fit_goes_on on is off so_far =
      sym (ap (fit_after true n low slots count) next_place)
      ∙ sym (ap (λ (b : Bool). if b then At i (low_of low slots i) else first_fit n low slots count (filter pick later)) off)
      ∙ sym (from_first seen (filter pick later)) ∙ sym (ap (fit_after seen n low slots count) (picked on is)) ∙ so_far

  -- one with room
  pub fit_found : is_purged (get_or slots i []) ≡ true → pick i ≡ true → nat_le (low_of low slots i + count) (high_of n slots i) ≡ true → fit_after seen n low slots count (rest i) ≡ whole → At i (low_of low slots i) ≡ whole
  fit_found on is room so_far =
      sym (ap (λ (b : Bool). if b then At i (low_of low slots i) else first_fit n low slots count (filter pick later)) room)
      ∙ sym (from_first seen (filter pick later)) ∙ sym (ap (fit_after seen n low slots count) (picked on is)) ∙ so_far
