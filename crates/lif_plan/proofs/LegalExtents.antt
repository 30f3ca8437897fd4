-- The test for a legal directory by its extents, sorted by their starts.
use Rattle.std.proofs.Common.{◌≡◌, ◌<◌, ◌+◌, ◌&&◌, ◌||◌, ℕ, suc, List, [], ◌∷◌, ◌++◌, Bool, true, false, if◌then◌else◌, nat_le, length, map, filter, take, get_or, sym, ◌∙◌, ap, arith, append-nil}
use Rattle.std.proofs.lemmas.List.{map-append}
use Rattle.std.specs.List.{list_all, IsAllAdjacentAnswer}
use Rattle.std.specs.List.Sorted.{IsPermutation, IsNonDecreasingBy}
use Rattle.std.proofs.Math.Seq.{take-suc}
use Rattle.std.proofs.lemmas.Bool.{false_from_ne_true}
use Rattle.std.proofs.lemmas.List.Elements.{All-map, All-from_get_or, filter-append}
use Rattle.std.proofs.lemmas.List.Folds.{list_all-map}
use Rattle.lif_model.specs.Header.{directory_end, is_readable}
use Rattle.lif_model.specs.Directory.{start_of}
use Rattle.lif_model.specs.Pairs.{all_pairs, all_neighbours}
use Rattle.lif_model.specs.Legal.{is_live, end_of, occupies, lies_between, are_apart, have_other_names, is_legal_with}
use Rattle.lif_model.proofs.Lists.{neighbours_tell}
use Rattle.lif_model.proofs.Sorting.{pairs_mapped, apart_by_starts, picked_filled}
use Rattle.lif_plan.specs.declared.extents.Extent.{Extent}
use Rattle.lif_plan.specs.Entries.{extent_of, lies_within, ends_first}

-- what a test of neighbours answers
pub neighbours_answer : {X : Type 0} (d : X) (test : X → X → Bool) (xs : List X) (r : Bool) → IsAllAdjacentAnswer (λ x y b. b ≡ test x y) xs r → r ≡ all_neighbours test xs
neighbours_answer d test xs true all = sym ((neighbours_tell d test xs).1 (λ i lt. ap (λ (k : ℕ). test (get_or xs i d) (get_or xs k d)) (omega arith) ∙ sym (all i d (omega (arith, lt)))))
neighbours_answer d test xs false off = sym (false_from_ne_true _ (λ on.
    let next : suc off.0 ≡ off.0 + 1 = omega arith in
    let here : test (get_or xs off.0 d) (get_or xs (off.0 + 1) d) ≡ true =
    ap (λ (k : ℕ). test (get_or xs off.0 d) (get_or xs k d)) (sym next) ∙ (neighbours_tell d test xs).0 on off.0 (omega (arith, off.1)) in
    let no : true ≡ false = sym here ∙ sym (off.2 d) in cc))

-- ---- gathering

abbrev pub extents_of : List (List ℕ) → List Extent
extents_of slots = map extent_of (filter occupies slots)

module _ (slots : List (List ℕ)) (k : ℕ) (within : k < length slots) where
  one_slot : extents_of (take (k + 1) slots) ≡ extents_of (take k slots) ++ extents_of (get_or slots k [] ∷ [])
  one_slot = (let next : k + 1 ≡ suc k = omega arith in ap (λ (m : ℕ). extents_of (take m slots)) next) ∙ ap extents_of (take-suc slots k [] within)
      ∙ ap (map extent_of) (filter-append occupies (take k slots) (get_or slots k [] ∷ []))
      ∙ map-append extent_of (filter occupies (take k slots)) (filter occupies (get_or slots k [] ∷ []))

  pub one_more : (extent : Extent) → occupies (get_or slots k []) ≡ true → extent ≡ extent_of (get_or slots k []) → extents_of (take (k + 1) slots) ≡ extents_of (take k slots) ++ extent ∷ []
  one_more extent on is = one_slot ∙ ap (λ (b : Bool). extents_of (take k slots) ++ map extent_of (if b then get_or slots k [] ∷ [] else [])) on
      ∙ ap (λ (e : Extent). extents_of (take k slots) ++ e ∷ []) (sym is)

  pub none_more : occupies (get_or slots k []) ≡ false → extents_of (take (k + 1) slots) ≡ extents_of (take k slots)
  none_more off = one_slot ∙ ap (λ (b : Bool). extents_of (take k slots) ++ map extent_of (if b then get_or slots k [] ∷ [] else [])) off
      ∙ append-nil (extents_of (take k slots))

-- ---- legal directories

module _ (n : ℕ) (bytes : List ℕ) (slots : List (List ℕ)) (readable : is_readable n bytes ≡ true) where
  within_is : list_all (lies_within (directory_end bytes) n) (extents_of slots) ≡ list_all (lies_between (directory_end bytes) n) (filter occupies slots)
  within_is = list_all-map (lies_within (directory_end bytes) n) extent_of (filter occupies slots)

  -- an extent lies elsewhere
  pub legal_outside : list_all (lies_within (directory_end bytes) n) (extents_of slots) ≡ false → is_legal_with n bytes slots ≡ false
  legal_outside off =
      let within : list_all (lies_between (directory_end bytes) n) (filter occupies slots) ≡ false = sym within_is ∙ off in
      λ i. readable i && (within i && (all_pairs are_apart (filter occupies slots) && all_pairs have_other_names (filter is_live slots)))

  apart_is : (sorted : List Extent) → IsPermutation (extents_of slots) sorted → IsNonDecreasingBy (λ e. e.start) sorted → all_pairs are_apart (filter occupies slots) ≡ all_neighbours ends_first sorted
  apart_is sorted same rising =
      sym (pairs_mapped extent_of (λ a b. nat_le a.end b.start || nat_le b.end a.start) (filter occupies slots))
      ∙ apart_by_starts (record { start = 0; end = 0 }) (λ e. e.start) (λ e. e.end) (extents_of slots) sorted same rising
      (All-map (λ e. e.start < e.end) extent_of (filter occupies slots) (All-from_get_or (λ s. start_of s < end_of s) (filter occupies slots) [] (picked_filled slots)))

  -- all lie where they may; the sorted ones follow each other, and names are distinct
  pub legal_inside : (sorted : List Extent) → IsPermutation (extents_of slots) sorted → IsNonDecreasingBy (λ e. e.start) sorted
      → list_all (lies_within (directory_end bytes) n) (extents_of slots) ≡ true
      → is_legal_with n bytes slots ≡ (all_neighbours ends_first sorted && all_pairs have_other_names (filter is_live slots))
  legal_inside sorted same rising on =
      let within : list_all (lies_between (directory_end bytes) n) (filter occupies slots) ≡ true = sym within_is ∙ on in
      let apart = apart_is sorted same rising in
      λ i. readable i && (within i && (apart i && all_pairs have_other_names (filter is_live slots)))
