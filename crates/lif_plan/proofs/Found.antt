-- The slot of a name, and the redo entry, as they are found in a directory whose names are distinct.
use Rattle.std.proofs.Common.{◌≡◌, ◌≢◌, ◌<◌, ◌&&◌, ◌==◌, ℕ, List, [], Bool, true, false, if◌then◌else◌, length, get_or, filter, inl, inr, sym, ap, ◌∙◌, arith}
use Rattle.std.specs.Prelude.{Some, None, is_some, option_map, nat_lt}
use Rattle.std.specs.List.{position, position_or_len}
use Rattle.std.specs.Str.{bytes_eq}
use Rattle.std.specs.Cmp.{both_ways}
use Rattle.std.proofs.lemmas.Bool.{cases_Bool, cases_order, lt-ltb, le-ltb, false_from_ne_true}
use Rattle.lif_model.specs.Directory.{name_of}
use Rattle.lif_model.specs.declared.version.Version.{Version}
use Rattle.lif_model.specs.Redo.{redo_start, redo_length}
use Rattle.lif_model.specs.Pairs.{all_pairs}
use Rattle.lif_model.specs.Legal.{is_live, is_live_named, has_file, slot_named, have_other_names}
use Rattle.lif_model.specs.Volume.{redo_name, redo_type, is_redo_entry, is_redo_file, is_adopted}
use Rattle.lif_model.proofs.Lists.{any_at, any_from, filter_pairs_tell}
use Rattle.lif_model.proofs.Legal.{names_tell}
use Rattle.lif_model.proofs.Slots.{live_named_tells}
use Rattle.lif_model.proofs.Lookups.{slot_is_at, no_slot_has}
use Rattle.lif_model.proofs.Adopted.{redo_file_is_named}
use Rattle.lif_dir.specs.declared.entries.FileEntry.{FileEntry}
use Rattle.lif_dir.specs.Entries.{entry_bytes}
use Rattle.lif_dir.proofs.Bytes.{HasWidths, name_back, kind_back, start_back, length_back}

-- ---- the slot of a name

-- where a search for it ends
pub data Found (slots : List (List ℕ)) (name : List ℕ) : Type 0 where
  at : (k : ℕ) → k < length slots → is_live_named name (get_or slots k []) ≡ true → position (is_live_named name) slots ≡ Some k
      → slot_named slots name ≡ Some (get_or slots k []) → Found slots name
  nowhere : has_file slots name ≡ false → position (is_live_named name) slots ≡ None → slot_named slots name ≡ None → Found slots name

pub found : (slots : List (List ℕ)) (name : List ℕ) → Found slots name
found slots name = elim (cases_Bool (has_file slots name)) [
  | inl has ↦
      let is = slot_is_at slots name has in
      let k = position_or_len (is_live_named name) slots in
      at k is.within is.live (ap (λ (b : Bool). if b then Some k else None) (lt-ltb k (length slots) is.within)) is.found
  | inr none ↦
      let no = no_slot_has slots name none in
      let k = position_or_len (is_live_named name) slots in
      let past : nat_lt k (length slots) ≡ false = le-ltb k (length slots) (omega (arith, no.1)) in
      nowhere none (ap (λ (b : Bool). if b then Some k else None) past) no.0
]

same_some : {X : Type 0} (x y : X) → Some x ≡ Some y → x ≡ y
same_some x y e = cc

pub slot_is : (slots : List (List ℕ)) (name : List ℕ) → slot_named slots name ≡ option_map (λ k. get_or slots k []) (position (is_live_named name) slots)
slot_is slots name = elim (found slots name) [
  | at k within live place slot ↦ slot ∙ sym (ap (option_map (λ j. get_or slots j [])) place)
  | nowhere none place slot ↦ slot ∙ sym (ap (option_map (λ j. get_or slots j [])) place)
]

pub has_place : (slots : List (List ℕ)) (name : List ℕ) → has_file slots name ≡ is_some (position (is_live_named name) slots)
has_place slots name = elim (found slots name) [
  | at k within live place slot ↦ any_from [] (is_live_named name) slots k within live ∙ sym (ap is_some place)
  | nowhere none place slot ↦ none ∙ sym (ap is_some place)
]

pub has_slot : (slots : List (List ℕ)) (name : List ℕ) → has_file slots name ≡ is_some (slot_named slots name)
has_slot slots name = elim (found slots name) [
  | at k within live place slot ↦ any_from [] (is_live_named name) slots k within live ∙ sym (ap is_some slot)
  | nowhere none place slot ↦ none ∙ sym (ap is_some slot)
]

-- ---- the redo entry

module _ (slots : List (List ℕ)) (distinct : all_pairs have_other_names (filter is_live slots) ≡ true) where
  other_names : (j k : ℕ) → j < k → k < length slots → is_live (get_or slots j []) ≡ true → is_live (get_or slots k []) ≡ true → name_of (get_or slots j []) ≢ name_of (get_or slots k [])
  other_names j k lt long a b = names_tell _ _ ((filter_pairs_tell [] is_live have_other_names slots).0 distinct j k lt long a b)

  -- two places of live slots with one name are one
  one_place : (name : List ℕ) (j k : ℕ) → j < length slots → k < length slots → is_live_named name (get_or slots j []) ≡ true → is_live_named name (get_or slots k []) ≡ true → j ≡ k
  one_place name j k lt_j lt_k a b =
      let one = live_named_tells name (get_or slots j []) a in
      let two = live_named_tells name (get_or slots k []) b in
      elim (cases_order j k) [
        | inl e ↦ e
        | inr (inl less) ↦ absurd (other_names j k less lt_k one.0 two.0 (one.1 ∙ sym two.1))
        | inr (inr more) ↦ absurd (other_names k j more lt_j two.0 one.0 (two.1 ∙ sym one.1))
      ]

  -- the slot of the redo file's name tells whether the volume is adopted
  pub adopted_by_name : (n : ℕ) (slot : List ℕ) → slot_named slots redo_name ≡ Some slot → is_redo_file n slot ≡ is_adopted n slots
  adopted_by_name n slot e = elim (found slots redo_name) [
    | nowhere none place off ↦ let both : None ≡ Some slot = sym off ∙ e in cc
    | at k within live place here ↦
        let same : get_or slots k [] ≡ slot = same_some (get_or slots k []) slot (sym here ∙ e) in
        both_ways (is_redo_file n slot) (is_adopted n slots)
        (λ redo. any_from [] (is_redo_file n) slots k within (ap (is_redo_file n) same ∙ redo))
        (λ adopted.
        let it = any_at [] (is_redo_file n) slots adopted in
        let one : it.0 ≡ k = one_place redo_name it.0 k it.1 within (redo_file_is_named n (get_or slots it.0 []) it.2) live in
        ap (is_redo_file n) (sym same) ∙ ap (λ (i : ℕ). is_redo_file n (get_or slots i [])) (sym one) ∙ it.2)
  ]

  pub not_adopted : (n : ℕ) → slot_named slots redo_name ≡ None → is_adopted n slots ≡ false
  not_adopted n none = elim (found slots redo_name) [
    | at k within live place here ↦ let off : None ≡ Some (get_or slots k []) = sym none ∙ here in cc
    | nowhere lacks place slot ↦ false_from_ne_true _ (λ adopted.
        let it = any_at [] (is_redo_file n) slots adopted in
        let off : true ≡ false = sym (any_from [] (is_live_named redo_name) slots it.0 it.1 (redo_file_is_named n (get_or slots it.0 []) it.2)) ∙ lacks in cc)
  ]

-- ---- entries by their fields

-- the test for the redo entry
pub redo_by_fields : (n : ℕ) (version : Version) (e : FileEntry) → HasWidths e → is_redo_entry n version (entry_bytes e)
    ≡ (bytes_eq e.name.bytes redo_name && (e.kind == redo_type && (e.start == redo_start version n && e.length == redo_length version)))
redo_by_fields n version e w = λ i. bytes_eq (name_back e w i) redo_name && (kind_back e w i == redo_type && (start_back e w i == redo_start version n && length_back e w i == redo_length version))
