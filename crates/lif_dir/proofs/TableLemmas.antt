-- A table and its index.
use Rattle.std.proofs.Common.{◌≡◌, ◌≢◌, ◌⊎◌, ◌<◌, ◌≤◌, ◌+◌, ◌++◌, ℕ, zero, suc, Bool, true, false, List, [], ◌∷◌, if◌then◌else◌, cond, length, get_or, set, map, take, filter, nat_lt, inl, inr, refl, sym, ◌∙◌, ap, subst, arith}
use Rattle.std.specs.Prelude.{Option, Some, None, MatchOption, is_some, slice_get}
use Rattle.std.specs.List.{insert, position, position_or_len}
use Rattle.std.proofs.lemmas.Bool.{cases_eq, cases_lt, cases_Bool, and_from, lt-ltb, le-ltb}
use Rattle.std.proofs.lemmas.List.{get_or_past, get_or_push, length-map, take_all, take_more}
use Rattle.std.proofs.lemmas.List.Sums.{position_or_len_is}
use Rattle.std.proofs.lemmas.Slice.Eq.{bytes_eq-Decides}
use Rattle.lif_model.specs.Pairs.{all_pairs}
use Rattle.lif_model.specs.Legal.{is_live, is_live_named, has_file, have_other_names}
use Rattle.lif_model.proofs.Lists.{filter_pairs_tell, any_from, none_from}
use Rattle.lif_model.proofs.Legal.{names_tell, names_from}
use Rattle.lif_model.proofs.Slots.{live_named_tells}
use Rattle.lif_dir.specs.declared.entries.Slot.{Slot}
use Rattle.lif_dir.specs.declared.entries.Slot.TheVariants.{End}
use Rattle.lif_dir.specs.Entries.{slot_bytes}
use Rattle.lif_dir.specs.Indexes.{is_live_at, name_at, IsIndex}
use Rattle.lif_dir.specs.Tables.{IsIndexed}
use Rattle.lif_dir.proofs.Indexing.{no_slot, push_same, unchanged}
use Rattle.lif_dir.proofs.Searching.{live_within}

-- ---- no slots

pub empty_index : IsIndex [] []
empty_index = record {
  live = λ j lt. absurd (omega (arith, lt));
  all = λ i on. let both : true ≡ false = sym on ∙ no_slot in cc;
  once = λ j k less lt. absurd (omega (arith, lt));
  sorted = λ j k less lt. absurd (omega (arith, lt));
}

pub empty_indexed : (known room capacity : ℕ) (slots : List Slot) (places : List ℕ) → room ≤ capacity → slots ≡ [] → places ≡ [] → known ≡ 0 → IsIndexed known room capacity slots places
empty_indexed known room capacity slots places le none no_places zero_known = record {
  reserved = le;
  index = subst (λ (xs : List Slot). IsIndex (map slot_bytes xs) places) (sym none) (subst (IsIndex []) (sym no_places) empty_index);
  count = zero_known ∙ sym (ap (λ (xs : List Slot). length (filter is_live (map slot_bytes xs))) none);
}

-- ---- one slot more, or another

out_pushed : (slots : List (List ℕ)) (slot : List ℕ) → set (slots ++ slot ∷ []) (length slots) [] ≡ slots ++ [] ∷ []
out_pushed [] slot = refl
out_pushed (x ∷ slots) slot = ap (λ (xs : List (List ℕ)). x ∷ xs) (out_pushed slots slot)

map_pushed : (slots : List Slot) (slot : Slot) → map slot_bytes (slots ++ slot ∷ []) ≡ map slot_bytes slots ++ slot_bytes slot ∷ []
map_pushed [] slot = refl
map_pushed (x ∷ slots) slot = ap (λ (xs : List (List ℕ)). slot_bytes x ∷ xs) (map_pushed slots slot)

abbrev count_one : Bool → ℕ
count_one b = let one : List (List ℕ) = if b then [] ∷ [] else [] in length one

count_pushed : (slots : List (List ℕ)) → length (filter is_live (slots ++ [] ∷ [])) ≡ length (filter is_live slots)
count_pushed [] = ap count_one no_slot
count_pushed (x ∷ slots) = go (is_live x) (count_pushed slots)
  where
    go : (b : Bool) → length (filter is_live (slots ++ [] ∷ [])) ≡ length (filter is_live slots)
        → length (if b then x ∷ filter is_live (slots ++ [] ∷ []) else filter is_live (slots ++ [] ∷ [])) ≡ length (if b then x ∷ filter is_live slots else filter is_live slots)
    go true rest = omega (arith, rest)
    go false rest = rest

module _ (slots whole : List Slot) (slot : Slot) (at : ℕ) (is : whole ≡ slots ++ slot ∷ []) (last : at ≡ length slots) where
  without : set (map slot_bytes whole) at [] ≡ map slot_bytes slots ++ [] ∷ []
  without =
      (λ i. set ((ap (map slot_bytes) is ∙ map_pushed slots slot) i) ((last ∙ sym (length-map slots slot_bytes)) i) []) ∙ out_pushed (map slot_bytes slots) (slot_bytes slot)

  pub pushed_index : (places : List ℕ) → IsIndex (map slot_bytes slots) places → IsIndex (set (map slot_bytes whole) at []) places
  pushed_index places index =
      let bytes : List (List ℕ) = map slot_bytes slots in
      let past : is_live_at bytes (length bytes) ≡ false = ap is_live (get_or_past bytes (length bytes) [] (omega arith)) ∙ no_slot in
      let new : is_live_at (bytes ++ [] ∷ []) (length bytes) ≡ false = ap is_live (get_or_push bytes [] [] (length bytes) refl) ∙ no_slot in
      subst (λ (xs : List (List ℕ)). IsIndex xs places) (sym without) (unchanged bytes (bytes ++ [] ∷ []) places 0 (length bytes) index (push_same bytes []) past new)

  pub pushed_count : length (filter is_live (set (map slot_bytes whole) at [])) ≡ length (filter is_live (map slot_bytes slots))
  pushed_count = ap (λ (xs : List (List ℕ)). length (filter is_live xs)) without ∙ count_pushed (map slot_bytes slots)

  -- and the last one taken away again
  pub popped_index : (places : List ℕ) → IsIndex (set (map slot_bytes whole) at []) places → IsIndex (map slot_bytes slots) places
  popped_index places index =
      let bytes : List (List ℕ) = map slot_bytes slots in
      let past : is_live_at bytes (length bytes) ≡ false = ap is_live (get_or_past bytes (length bytes) [] (omega arith)) ∙ no_slot in
      let new : is_live_at (bytes ++ [] ∷ []) (length bytes) ≡ false = ap is_live (get_or_push bytes [] [] (length bytes) refl) ∙ no_slot in
      unchanged (bytes ++ [] ∷ []) bytes places 0 (length bytes) (subst (λ (xs : List (List ℕ)). IsIndex xs places) without index) (λ i ne. sym (push_same bytes [] i ne)) new past

-- all but the last, and the last
pub but_last : (slots : List Slot) (k : ℕ) → k + 1 ≡ length slots → slots ≡ take k slots ++ get_or slots k End ∷ []
but_last slots k is = sym (take_all (k + 1) slots (omega (arith, is))) ∙ take_more slots k End (omega (arith, is))

pub out_set : (slots : List Slot) (k : ℕ) (slot : Slot) → set (map slot_bytes (set slots k slot)) k [] ≡ set (map slot_bytes slots) k []
out_set [] k slot = refl
out_set (x ∷ slots) zero slot = refl
out_set (x ∷ slots) (suc k) slot = ap (λ (xs : List (List ℕ)). slot_bytes x ∷ xs) (out_set slots k slot)

-- the last slot changed, and then appended as it was
pub before_last : (slots : List Slot) (k : ℕ) (slot last : Slot) → suc k ≡ length slots → slice_get slots k ≡ Some last → set slots k slot ++ last ∷ [] ≡ insert slots k slot
before_last [] k slot last is here = absurd (omega (arith, is))
before_last (x ∷ []) zero slot last is here = let same : x ≡ last = cc in ap (λ (y : Slot). slot ∷ y ∷ []) (sym same)
before_last (x ∷ y ∷ slots) zero slot last is here = absurd (omega (arith, is))
before_last (x ∷ slots) (suc k) slot last is here = ap (λ (xs : List Slot). x ∷ xs) (before_last slots k slot last (omega (arith, is)) here)

-- ---- what the index tells of the slots

chosen : (n k : ℕ) (b : Bool) → nat_lt k n ≡ b → cond (nat_lt k n) (Some k) None ≡ cond b (Some k) None
chosen n k b is = ap (λ (c : Bool). cond c (Some k) None) is

module _ (slots : List (List ℕ)) (places : List ℕ) (index : IsIndex slots places) where
  pub distinct_is : (b : Bool)
      → (b ≡ true → (j k : ℕ) → j < k → k < length places → name_at slots (get_or places j 0) ≢ name_at slots (get_or places k 0))
      → (b ≡ false → (j : ℕ) × (j + 1 < length places) × (name_at slots (get_or places j 0) ≡ name_at slots (get_or places (j + 1) 0)))
      → b ≡ all_pairs have_other_names (filter is_live slots)
  distinct_is true apart twins = sym ((filter_pairs_tell [] is_live have_other_names slots).1 (λ i m less lt first second. names_from _ _ (two i m less (index.all i first) (index.all m second))))
    where
      two : (i m : ℕ) → i < m → (j : ℕ) × (j < length places) × (get_or places j 0 ≡ i) → (j : ℕ) × (j < length places) × (get_or places j 0 ≡ m) → name_at slots i ≢ name_at slots m
      two i m less (a, lt_a, is_a) (b, lt_b, is_b) same =
          let names : name_at slots (get_or places a 0) ≡ name_at slots (get_or places b 0) = ap (name_at slots) is_a ∙ same ∙ sym (ap (name_at slots) is_b) in
          elim (cases_lt a b) [
            | inl lt ↦ apart refl a b lt lt_b names
            | inr ge ↦ elim (cases_eq a b) [
              | inl e ↦ let equal : i ≡ m = sym is_a ∙ ap (λ (j : ℕ). get_or places j 0) e ∙ is_b in omega (arith, equal)
              | inr ne ↦ apart refl b a (omega arith) lt_a (sym names)
            ]
          ]
  distinct_is false apart twins = elim (cases_Bool (all_pairs have_other_names (filter is_live slots))) [
    | inl on ↦ absurd (clash on (twins refl))
    | inr off ↦ sym off
  ]
    where
      others : all_pairs have_other_names (filter is_live slots) ≡ true → (i m : ℕ) → i < m → is_live_at slots i ≡ true → is_live_at slots m ≡ true → name_at slots i ≢ name_at slots m
      others on i m less first second = names_tell _ _ ((filter_pairs_tell [] is_live have_other_names slots).0 on i m less (live_within slots m second) first second)

      clash : all_pairs have_other_names (filter is_live slots) ≡ true
          → (j : ℕ) × (j + 1 < length places) × (name_at slots (get_or places j 0) ≡ name_at slots (get_or places (j + 1) 0)) → ⊥
      clash on (j, lt, same) =
          let before = index.live j (omega arith) in
          let behind = index.live (j + 1) lt in
          elim (cases_lt (get_or places j 0) (get_or places (j + 1) 0)) [
            | inl less ↦ others on (get_or places j 0) (get_or places (j + 1) 0) less before behind same
            | inr ge ↦ elim (cases_eq (get_or places j 0) (get_or places (j + 1) 0)) [
              | inl e ↦ index.once j (j + 1) (omega arith) lt e
              | inr ne ↦ others on (get_or places (j + 1) 0) (get_or places j 0) (omega arith) behind before (sym same)
            ]
          ]

  abbrev Told : List ℕ → Option ℕ → Type 0
  Told name found = MatchOption found
      ((j : ℕ) → j < length places → name_at slots (get_or places j 0) ≢ name)
      (λ place. (j : ℕ) × (j < length places) × (get_or places j 0 ≡ place) × (name_at slots place ≡ name))

  none_named : (name : List ℕ) → ((j : ℕ) → j < length places → name_at slots (get_or places j 0) ≢ name) → (i : ℕ) → is_live_named name (get_or slots i []) ≡ false
  none_named name none i = elim (cases_Bool (is_live_named name (get_or slots i []))) [
    | inl on ↦
        let told = live_named_tells name (get_or slots i []) on in
        let place = index.all i told.0 in
        absurd (none place.0 place.1 (ap (name_at slots) place.2 ∙ told.1))
    | inr off ↦ off
  ]

  named_here : (name : List ℕ) (place : ℕ) → (j : ℕ) × (j < length places) × (get_or places j 0 ≡ place) × (name_at slots place ≡ name) → is_live_named name (get_or slots place []) ≡ true
  named_here name place (j, lt, is, same) = and_from _ _ (sym (ap (is_live_at slots) is) ∙ index.live j lt) ((bytes_eq-Decides (name_at slots place) name).1 same)

  -- the place that a search tells is that of the first slot of the name
  pub place_is : (name : List ℕ) (found : Option ℕ) → all_pairs have_other_names (filter is_live slots) ≡ true → Told name found → found ≡ position (is_live_named name) slots
  place_is name None distinct none =
      let nowhere : position_or_len (is_live_named name) slots ≡ length slots =
      position_or_len_is (is_live_named name) slots (length slots) [] (omega arith) (λ i lt. none_named name none i) (λ lt. absurd (omega (arith, lt))) in
      sym (chosen (length slots) (position_or_len (is_live_named name) slots) false (le-ltb _ _ (omega (arith, nowhere))))
  place_is name (Some place) distinct told =
      let here : is_live_named name (get_or slots place []) ≡ true = named_here name place told in
      let live = (live_named_tells name (get_or slots place []) here).0 in
      let first : position_or_len (is_live_named name) slots ≡ place =
      position_or_len_is (is_live_named name) slots place [] (omega (arith, live_within slots place live))
      (λ i less. not_before live i less (cases_Bool (is_live_named name (get_or slots i [])))) (λ within. here) in
      sym (chosen (length slots) (position_or_len (is_live_named name) slots) true (lt-ltb _ _ (omega (arith, first, live_within slots place live))) ∙ ap Some first)
    where
      not_before : is_live_at slots place ≡ true → (i : ℕ) → i < place → (is_live_named name (get_or slots i []) ≡ true) ⊎ (is_live_named name (get_or slots i []) ≡ false)
          → is_live_named name (get_or slots i []) ≡ false
      not_before live i less (inr off) = off
      not_before live i less (inl on) =
          let before = live_named_tells name (get_or slots i []) on in
          absurd (names_tell _ _ ((filter_pairs_tell [] is_live have_other_names slots).0 distinct i place less (live_within slots place live) before.0 live) (before.1 ∙ sym told.3))

  -- and it tells one exactly where there is such a file
  pub exists_is : (name : List ℕ) (found : Option ℕ) → Told name found → is_some found ≡ has_file slots name
  exists_is name None none = sym (none_from [] (is_live_named name) slots (λ i lt. none_named name none i))
  exists_is name (Some place) told =
      let here : is_live_named name (get_or slots place []) ≡ true = named_here name place told in
      sym (any_from [] (is_live_named name) slots place (live_within slots place (live_named_tells name (get_or slots place []) here).0) here)
