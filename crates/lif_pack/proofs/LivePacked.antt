-- What refuses a packing, and what it makes, is told by the live slots in their order.
use Rattle.std.proofs.Common.{◌≡◌, ◌+◌, ◌++◌, ◌&&◌, not, ℕ, suc, List, [], ◌∷◌, Bool, true, false, if◌then◌else◌, Some, get_or, drop, filter, inl, inr, refl, sym, ◌∙◌, ap, arith}
use Rattle.std.specs.List.{list_all, list_any, position_or_len}
use Rattle.std.specs.Str.{bytes_eq}
use Rattle.std.proofs.lemmas.Bool.{cases_Bool}
use Rattle.lif_model.specs.Header.{directory_end}
use Rattle.lif_model.specs.Directory.{name_of, is_purged}
use Rattle.lif_model.specs.Pairs.{all_pairs}
use Rattle.lif_model.specs.declared.version.Version.TheVariants.{Two}
use Rattle.lif_model.specs.Legal.{is_live, has_records, occupies, is_live_named}
use Rattle.lif_model.specs.Volume.{Volume, redo_name, is_redo_entry, is_redo_file, is_adopted, is_adopted_with}
use Rattle.lif_model.specs.Fit.{redo_place}
use Rattle.lif_model.specs.Apply.{first_met}
use Rattle.lif_model.specs.declared.refusal.Refusal.TheVariants.{NoRedo, NeedsUpgrade, OutOfOrder}
use Rattle.lif_model.proofs.Adopted.{redo_file_is_live, redo_entry_tells}
use Rattle.lif_model.specs.Packing.{rises, is_in_order, redo_slot, unmarked, packed_from, pack_refusal, packed, repacked}
use Rattle.lif_pack.proofs.ClosedVolume.{filter_both, any_kept, live_files}

-- ---- lists

-- the first slot that passes a test
abbrev pub first_of : (List ℕ → Bool) → List (List ℕ) → List ℕ
first_of p xs = get_or xs (position_or_len p xs) []

-- the slots after it
abbrev rest_of : (List ℕ → Bool) → List (List ℕ) → List (List ℕ)
rest_of p xs = drop (suc (position_or_len p xs)) xs

module _ (p : List ℕ → Bool) (x : List ℕ) (xs : List (List ℕ)) where
  first_here : p x ≡ true → first_of p (x ∷ xs) ≡ x
  first_here on = ap (λ (b : Bool). get_or (x ∷ xs) (if not b then 1 + position_or_len p xs else 0) []) on

  rest_here : p x ≡ true → rest_of p (x ∷ xs) ≡ xs
  rest_here on = ap (λ (b : Bool). drop (suc (if not b then 1 + position_or_len p xs else 0)) (x ∷ xs)) on

  next : 1 + position_or_len p xs ≡ suc (position_or_len p xs)
  next = omega arith

  first_later : p x ≡ false → first_of p (x ∷ xs) ≡ first_of p xs
  first_later off = ap (λ (b : Bool). get_or (x ∷ xs) (if not b then 1 + position_or_len p xs else 0) []) off ∙ ap (λ (k : ℕ). get_or (x ∷ xs) k []) next

  rest_later : p x ≡ false → rest_of p (x ∷ xs) ≡ rest_of p xs
  rest_later off = ap (λ (b : Bool). drop (suc (if not b then 1 + position_or_len p xs else 0)) (x ∷ xs)) off ∙ ap (λ (k : ℕ). drop (suc k) (x ∷ xs)) next

-- whether a slot of these is live
none_live : (xs : List (List ℕ)) → list_all is_purged xs ≡ list_all is_purged (filter is_live xs)
none_live [] = refl
none_live (x ∷ xs) = by (is_purged x) refl (none_live xs)
  where
    by : (b : Bool) → is_purged x ≡ b → list_all is_purged xs ≡ list_all is_purged (filter is_live xs)
        → (b && list_all is_purged xs) ≡ list_all is_purged (if not b then x ∷ filter is_live xs else filter is_live xs)
    by true e rest = rest
    by false e rest = sym (ap (λ (c : Bool). c && list_all is_purged (filter is_live xs)) e)

-- Where a slot that passes the test is live: the first one, and whether one after it is live, are those of the live slots.
module _ (p : List ℕ → Bool) (lives : (x : List ℕ) → is_live x ≡ false → p x ≡ false) where
  first_kept : (xs : List (List ℕ)) → first_of p xs ≡ first_of p (filter is_live xs)
  first_kept [] = refl
  first_kept (x ∷ xs) = elim (cases_Bool (is_live x)) [
    | inl on ↦ elim (cases_Bool (p x)) [
      | inl here ↦ first_here p x xs here ∙ sym (first_here p x (filter is_live xs) here) ∙ sym (kept on)
      | inr off ↦ first_later p x xs off ∙ first_kept xs ∙ sym (first_later p x (filter is_live xs) off) ∙ sym (kept on)
    ]
    | inr off ↦ first_later p x xs (lives x off) ∙ first_kept xs
        ∙ sym (ap (λ (b : Bool). first_of p (if b then x ∷ filter is_live xs else filter is_live xs)) off)
  ]
    where
      kept : is_live x ≡ true → first_of p (filter is_live (x ∷ xs)) ≡ first_of p (x ∷ filter is_live xs)
      kept on = ap (λ (b : Bool). first_of p (if b then x ∷ filter is_live xs else filter is_live xs)) on

  rest_kept : (xs : List (List ℕ)) → list_all is_purged (rest_of p xs) ≡ list_all is_purged (rest_of p (filter is_live xs))
  rest_kept [] = refl
  rest_kept (x ∷ xs) = elim (cases_Bool (is_live x)) [
    | inl on ↦ elim (cases_Bool (p x)) [
      | inl here ↦ ap (list_all is_purged) (rest_here p x xs here) ∙ none_live xs ∙ sym (ap (list_all is_purged) (rest_here p x (filter is_live xs) here)) ∙ sym (kept on)
      | inr off ↦ ap (list_all is_purged) (rest_later p x xs off) ∙ rest_kept xs ∙ sym (ap (list_all is_purged) (rest_later p x (filter is_live xs) off)) ∙ sym (kept on)
    ]
    | inr off ↦ ap (list_all is_purged) (rest_later p x xs (lives x off)) ∙ rest_kept xs
        ∙ sym (ap (λ (b : Bool). list_all is_purged (rest_of p (if b then x ∷ filter is_live xs else filter is_live xs))) off)
  ]
    where
      kept : is_live x ≡ true → list_all is_purged (rest_of p (filter is_live (x ∷ xs))) ≡ list_all is_purged (rest_of p (x ∷ filter is_live xs))
      kept on = ap (λ (b : Bool). list_all is_purged (rest_of p (if b then x ∷ filter is_live xs else filter is_live xs))) on

named_lives : (x : List ℕ) → is_live x ≡ false → is_live_named redo_name x ≡ false
named_lives x off = ap (λ (b : Bool). b && bytes_eq (name_of x) redo_name) off

-- ---- two volumes with the same live slots

module _ (n : ℕ) (v : Volume) (slots : List (List ℕ)) (live : filter is_live slots ≡ filter is_live v.slots) where
  pub redo_live : redo_slot (record v { slots = slots }) ≡ redo_slot v
  redo_live = first_kept (is_live_named redo_name) named_lives slots ∙ ap (first_of (is_live_named redo_name)) live
      ∙ sym (first_kept (is_live_named redo_name) named_lives v.slots)

  order_live : is_in_order slots ≡ is_in_order v.slots
  order_live = λ i. all_pairs rises (occupying i) && after i
    where
      occupying : filter occupies slots ≡ filter occupies v.slots
      occupying = filter_both is_live has_records slots ∙ ap (filter has_records) live ∙ sym (filter_both is_live has_records v.slots)

      after : list_all is_purged (drop (suc (redo_place slots)) slots) ≡ list_all is_purged (drop (suc (redo_place v.slots)) v.slots)
      after = rest_kept (is_live_named redo_name) named_lives slots ∙ ap (λ (xs : List (List ℕ)). list_all is_purged (rest_of (is_live_named redo_name) xs)) live
          ∙ sym (rest_kept (is_live_named redo_name) named_lives v.slots)

  any_live : (p : List ℕ → Bool) → ((x : List ℕ) → p x ≡ true → is_live x ≡ true) → list_any p slots ≡ list_any p v.slots
  any_live p lives = sym (any_kept p is_live lives slots) ∙ ap (list_any p) live ∙ any_kept p is_live lives v.slots

  refused_live : pack_refusal n (Some (record v { slots = slots })) ≡ pack_refusal n (Some v)
  refused_live =
      let adopted : is_adopted n slots ≡ is_adopted n v.slots = any_live (is_redo_file n) (redo_file_is_live n) in
      let upgraded : is_adopted_with n Two slots ≡ is_adopted_with n Two v.slots = any_live (is_redo_entry n Two) (λ x is. redo_file_is_live n x (redo_entry_tells n Two x is).0) in
      λ i. first_met ((not (adopted i), NoRedo) ∷ (not (upgraded i), NeedsUpgrade) ∷ (not (order_live i), OutOfOrder) ∷ [])

  packed_as_live : packed n (record v { slots = slots }) ≡ packed n v
  packed_as_live = λ i. record v { slots = packed_from (directory_end v.header) (live_files n slots v.slots live i) ++ unmarked (redo_live i) ∷ [] }

  -- are packed to the same
  pub repacked_live : repacked n (Some (record v { slots = slots })) ≡ repacked n (Some v)
  repacked_live = λ i. (refused_live i, Some (packed_as_live i))
