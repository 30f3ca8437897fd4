-- The files of the next volume: each command leaves the map and the slots in step.
use Rattle.std.proofs.Common.{◌≡◌, ◌≢◌, ◌<◌, ◌≤◌, ◌+◌, ◌++◌, ◌&&◌, ℕ, zero, suc, nat_eq, List, [], ◌∷◌, Bool, true, false, not, if◌then◌else◌, Some, None, length, get_or, set, insert, find, inl, inr, refl, sym, ◌∙◌, ap, subst, arith, length-set, get_or-set_same, get_or-set_other}
use Rattle.std.specs.Str.{bytes_eq}
use Rattle.std.proofs.lemmas.Bool.{cases_eq, cases_lt, cases_Bool, and_parts, and_from, or_parts, and_right, not-false, not_from_true, not_from_false, false_from_ne_true, ne_eqb, eq-eqb, eqb-true}
use Rattle.std.proofs.lemmas.List.{length_push, get_or_append_left, length-map, get_or-map}
use Rattle.std.proofs.lemmas.List.Edits.{length-insert, get_or-insert_below, get_or-insert_above}
use Rattle.std.proofs.lemmas.Slice.Eq.{bytes_eq-Decides}
use Rattle.lif_model.specs.Directory.{name_of, type_of, is_purged}
use Rattle.lif_model.specs.Made.{new_entry, with_name, with_type, file_length}
use Rattle.lif_model.specs.declared.version.Version.TheVariants.{One, Two}
use Rattle.lif_model.specs.Legal.{is_live, is_live_named, has_file, IsLegal}
use Rattle.lif_model.specs.Volume.{redo_name, redo_entry, upgraded_entry, is_redo_file, is_adopted, is_file, file_named, Volume, IsVolume, IsAdopted}
use Rattle.lif_model.specs.Fit.{redo_place}
use Rattle.lif_model.specs.Apply.{Store, Rename, Purge, Adopt, Upgrade, IsWellFormed, is_protected, is_upgraded, runs_past_redo, checks_of, refusal_of, placed, with_slot, renamed, upgraded}
use Rattle.lif_model.proofs.Made.{new_name, new_type, named_name, named_type}
use Rattle.lif_model.proofs.Fit.{IsPlaceIn}
use Rattle.lif_model.proofs.Lists.{any_at}
use Rattle.lif_model.proofs.Slots.{live_named_tells, other_name, HasNew, set_new, before_insert, insert_new, push_new, slot_cases}
use Rattle.lif_model.proofs.Adopted.{redo_file_tells, redo_entry_tells, redo_place_is, one_of_name, is_file_tells}
use Rattle.lif_model.proofs.Apply.{NoneMet, none_met, made_redo_file, not_redo_name, stored_is_adopted, moved_is_two, upgraded_at, purged_is_dead, purge_is_adopted, rename_is_adopted, next_is_adopted, adopt_is_adopted}

-- ---- the slot of a name

-- the file of that name
abbrev pub is_named : ℕ → List ℕ → List ℕ → Bool
is_named n name slot = is_file n slot && bytes_eq name (name_of slot)

pub named_tells : (n : ℕ) (name slot : List ℕ) → is_named n name slot ≡ true → (is_file n slot ≡ true) × (name_of slot ≡ name)
named_tells n name slot is = let both = and_parts (is_file n slot) _ is in (both.0, sym ((bytes_eq-Decides name (name_of slot)).0 both.1))

named_from : (n : ℕ) (name slot : List ℕ) → is_file n slot ≡ true → name_of slot ≡ name → is_named n name slot ≡ true
named_from n name slot file is = and_from _ _ file ((bytes_eq-Decides name (name_of slot)).1 (sym is))

-- a live slot of another name than the redo file's is a file
pub file_from : (n : ℕ) (slot : List ℕ) → is_live slot ≡ true → name_of slot ≢ redo_name → is_file n slot ≡ true
file_from n slot live other = and_from _ _ live (not_from_false _ (false_from_ne_true _ (λ redo. other (redo_file_tells n slot redo).0)))

found_at : (p : List ℕ → Bool) (xs : List (List ℕ)) (k : ℕ) → k < length xs → p (get_or xs k []) ≡ true → ((j : ℕ) → j < length xs → p (get_or xs j []) ≡ true → j ≡ k) → find p xs ≡ Some (get_or xs k [])
found_at p [] k lt on alone = absurd (omega arith)
found_at p (x ∷ xs) zero lt on alone = ap (λ (b : Bool). if b then Some x else find p xs) on
found_at p (x ∷ xs) (suc k) lt on alone =
    let off : p x ≡ false = false_from_ne_true _ (λ first. let both : 0 ≡ suc k = alone 0 (omega arith) first in omega (arith, both)) in
    ap (λ (b : Bool). if b then Some x else find p xs) off ∙ found_at p xs k (omega arith) on (λ j less on_j. let same : suc j ≡ suc k = alone (suc j) (omega arith) on_j in omega (arith, same))

pub not_found : (p : List ℕ → Bool) (xs : List (List ℕ)) → ((j : ℕ) → j < length xs → p (get_or xs j []) ≡ false) → find p xs ≡ None
not_found p [] none = refl
not_found p (x ∷ xs) none = ap (λ (b : Bool). if b then Some x else find p xs) (none 0 (omega arith)) ∙ not_found p xs (λ j lt. none (suc j) (omega arith))

-- what a search found
data Found (p : List ℕ → Bool) (xs : List (List ℕ)) : Type 0 where
  at_place : (k : ℕ) → k < length xs → p (get_or xs k []) ≡ true → Found p xs
  nowhere : ((j : ℕ) → j < length xs → p (get_or xs j []) ≡ false) → Found p xs

search_of : (p : List ℕ → Bool) (xs : List (List ℕ)) → Found p xs
search_of p [] = nowhere (λ j lt. absurd (omega arith))
search_of p (x ∷ xs) = go (p x) refl (search_of p xs)
  where
    go : (b : Bool) → p x ≡ b → Found p xs → Found p (x ∷ xs)
    go true e rest = at_place 0 (omega arith) e
    go false e (at_place k lt on) = at_place (suc k) (omega arith) on
    go false e (nowhere none) = nowhere (λ j lt. each j lt)
      where
        each : (j : ℕ) → j < length (x ∷ xs) → p (get_or (x ∷ xs) j []) ≡ false
        each zero lt = e
        each (suc j) lt = none j (omega arith)

module _ (n : ℕ) (header : List ℕ) (slots : List (List ℕ)) (legal : IsLegal n header slots) where
  -- in a legal directory the slot of a name is the only one
  pub named_at_place : (name : List ℕ) (k : ℕ) → k < length slots → is_named n name (get_or slots k []) ≡ true → file_named n slots name ≡ Some (get_or slots k [])
  named_at_place name k lt on = found_at (is_named n name) slots k lt on (λ j less on_j.
      one_of_name n header slots name j k legal less lt (live_of j on_j) (live_of k on))
    where
      live_of : (j : ℕ) → is_named n name (get_or slots j []) ≡ true → is_live_named name (get_or slots j []) ≡ true
      live_of j is =
          let both = named_tells n name (get_or slots j []) is in
          and_from _ _ (is_file_tells n (get_or slots j []) both.0).0 ((bytes_eq-Decides (name_of (get_or slots j [])) name).1 both.1)

-- two legal directories with the same slots of a name
same_named : (n : ℕ) (header : List ℕ) (slots later : List (List ℕ)) (name : List ℕ) → IsLegal n header slots → IsLegal n header later
    → ((k : ℕ) → k < length slots → is_named n name (get_or slots k []) ≡ true → (j : ℕ) × (j < length later) × (get_or later j [] ≡ get_or slots k []))
    → ((j : ℕ) → j < length later → is_named n name (get_or later j []) ≡ true → (k : ℕ) × (k < length slots) × (get_or later j [] ≡ get_or slots k []))
    → file_named n later name ≡ file_named n slots name
same_named n header slots later name legal legal_later forth back = go (search_of (is_named n name) slots)
  where
    go : Found (is_named n name) slots → file_named n later name ≡ file_named n slots name
    go (at_place k lt on) =
        let found = forth k lt on in
        named_at_place n header later legal_later name found.0 found.1 (ap (is_named n name) found.2 ∙ on) ∙ ap Some found.2 ∙ sym (named_at_place n header slots legal name k lt on)
    go (nowhere none) =
        not_found (is_named n name) later (λ j lt. false_from_ne_true _ (λ on.
        let found = back j lt on in
        let both : true ≡ false = sym on ∙ ap (is_named n name) found.2 ∙ none found.0 found.1 in cc))
        ∙ sym (not_found (is_named n name) slots none)

-- equal names or not
pub data Names (a b : List ℕ) : Type 0 where
  equal : a ≡ b → bytes_eq a b ≡ true → Names a b
  other : a ≢ b → bytes_eq a b ≡ false → Names a b

pub names_of : (a b : List ℕ) → Names a b
names_of a b = elim (cases_Bool (bytes_eq a b)) [
  | inl e ↦ equal ((bytes_eq-Decides a b).0 e) e
  | inr e ↦ other (λ same. let both : true ≡ false = sym ((bytes_eq-Decides a b).1 same) ∙ e in cc) e
]

-- ---- store

-- one slot more, or another in place of one that was no file: the new slot has its name, and each
-- other name its slot
new_named : (n : ℕ) (header : List ℕ) (slots later : List (List ℕ)) (name new : List ℕ) (i : ℕ) (old : ℕ → ℕ) → IsLegal n header slots → IsLegal n header later
    → HasNew slots later i new old → i < length later → is_file n new ≡ true → name_of new ≡ name
    → ((k : ℕ) → k < length slots → is_file n (get_or slots k []) ≡ true → (j : ℕ) × (j < length later) × (get_or later j [] ≡ get_or slots k []))
    → (file_named n later name ≡ Some new) × ((q : List ℕ) → q ≢ name → file_named n later q ≡ file_named n slots q)
new_named n header slots later name new i old legal legal_later has lt file named forth = (
  named_at_place n header later legal_later name i lt (ap (is_named n name) has.here ∙ named_from n name new file named) ∙ ap Some has.here,
  λ q apart. same_named n header slots later q legal legal_later (λ k less on. forth k less (named_tells n q (get_or slots k []) on).0)
      (λ j less on. elim (cases_eq j i) [
        | inl at ↦ absurd (apart (sym (named_tells n q (get_or later j []) on).1 ∙ ap name_of (ap (λ (m : ℕ). get_or later m []) at ∙ has.here) ∙ named))
        | inr off ↦ let found = has.others j less off in (old j, found.0, found.1)
      ]),
)

module _ (n : ℕ) (v : Volume) (name : List ℕ) (kind : ℕ) (implementation bytes : List ℕ) (i start : ℕ) (is : IsAdopted n v) (formed : IsWellFormed (Store name kind implementation bytes))
    (off_redo : name ≢ redo_name) (none : has_file v.slots name ≡ false) (place : IsPlaceIn n v (file_length bytes) i start) where
  abbrev entry : List ℕ
  entry = new_entry name kind start (file_length bytes) implementation

  abbrev later : List (List ℕ)
  later = placed v.slots i entry

  entry_name : name_of entry ≡ name
  entry_name = new_name name kind start (file_length bytes) implementation formed.0

  entry_is_file : is_file n entry ≡ true
  entry_is_file =
      let live : is_live entry ≡ true = not_from_false _ (ne_eqb (type_of entry) 0 (λ zero_is. formed.1 (sym (new_type name kind start (file_length bytes) implementation formed.0) ∙ zero_is))) in
      file_from n entry live (λ same. off_redo (sym entry_name ∙ same))

  both_named : (file_named n later name ≡ Some entry) × ((q : List ℕ) → q ≢ name → file_named n later q ≡ file_named n v.slots q)
  both_named = elim place.candidate [
    | inl purged ↦
        let is_set : later ≡ set v.slots i entry = ap (λ (b : Bool). if b then insert v.slots i entry else set v.slots i entry) (ne_eqb i (redo_place v.slots) (λ same. absurd (omega (arith, same, purged.0)))) in
        let long : length later ≡ length v.slots = ap (λ (xs : List (List ℕ)). length xs) is_set ∙ length-set v.slots i entry in
        new_named n v.header v.slots later name entry i (λ k. k) is.volume.legal legal_then (subst (λ (xs : List (List ℕ)). HasNew v.slots xs i entry (λ k. k)) (sym is_set) (set_new v.slots i entry purged.1))
        (omega (arith, long, purged.1)) entry_is_file entry_name
        (λ k lt on.
        let off : k ≢ i = λ at. let both : true ≡ false = sym (is_file_tells n (get_or v.slots k []) on).0 ∙ not_from_true _ (ap (λ (j : ℕ). is_purged (get_or v.slots j [])) at ∙ purged.2) in cc in
        (k, omega (arith, long, lt), ap (λ (xs : List (List ℕ)). get_or xs k []) is_set ∙ get_or-set_other v.slots i k entry [] off))
    | inr own ↦
        let is_insert : later ≡ insert v.slots i entry = ap (λ (b : Bool). if b then insert v.slots i entry else set v.slots i entry) (eq-eqb i (redo_place v.slots) own.0) in
        let le : i ≤ length v.slots = omega (arith, own.0, eqb-true (suc (redo_place v.slots)) (length v.slots) (and_parts _ _ own.1).0) in
        let long : length later ≡ length v.slots + 1 = ap (λ (xs : List (List ℕ)). length xs) is_insert ∙ length-insert v.slots i entry le in
        new_named n v.header v.slots later name entry i (before_insert i) is.volume.legal legal_then (subst (λ (xs : List (List ℕ)). HasNew v.slots xs i entry (before_insert i)) (sym is_insert) (insert_new v.slots i entry le))
        (omega (arith, long, le)) entry_is_file entry_name
        (λ k lt on. elim (cases_lt k i) [
          | inl less ↦ (k, omega (arith, long, lt), ap (λ (xs : List (List ℕ)). get_or xs k []) is_insert ∙ get_or-insert_below v.slots i entry [] k less le)
          | inr more ↦ (k + 1, omega (arith, long, lt), ap (λ (xs : List (List ℕ)). get_or xs (k + 1) []) is_insert ∙ get_or-insert_above v.slots i entry [] k more le)
        ])
  ]
    where
      legal_then : IsLegal n v.header later
      legal_then = (stored_is_adopted n v name kind implementation bytes i start is formed none place).volume.legal

  -- the new entry is the file of its name
  pub placed_here : file_named n later name ≡ Some entry
  placed_here = both_named.0

  -- and each other name has the slot that it had
  pub placed_others : (q : List ℕ) → q ≢ name → file_named n later q ≡ file_named n v.slots q
  placed_others = both_named.1

-- ---- purge

-- slot k is not of that name, and a change of the slot of that name leaves it
left_alone : (name : List ℕ) (change : List ℕ → List ℕ) (slot q : List ℕ) → name_of slot ≡ q → q ≢ name → (if is_live_named name slot then change slot else slot) ≡ slot
left_alone name change slot q named apart = elim (slot_cases name change slot) [
  | inl both ↦ absurd (apart (sym named ∙ (live_named_tells name slot both.0).1))
  | inr both ↦ both.1
]

module _ (n : ℕ) (v : Volume) (name : List ℕ) (is : IsAdopted n v) (none : refusal_of n (Purge name) (Some v) ≡ None) where
  abbrev change_purged : List ℕ → List ℕ
  change_purged slot = if is_live_named name slot then with_type 0 slot else slot

  abbrev slots_purged : List (List ℕ)
  slots_purged = with_slot name (with_type 0) v.slots

  dead : (k : ℕ) → k < length v.slots → is_live (change_purged (get_or v.slots k [])) ≡ true → (change_purged (get_or v.slots k []) ≡ get_or v.slots k []) × (name_of (get_or v.slots k []) ≢ name)
  dead k lt alive = elim (slot_cases name (with_type 0) (get_or v.slots k [])) [
    | inl both ↦ let no : true ≡ false = sym alive ∙ ap is_live both.1 ∙ purged_is_dead (get_or v.slots k []) (is.volume.entries k lt) in cc
    | inr both ↦ (both.1, other_name name (get_or v.slots k []) both.0 (sym (ap is_live both.1) ∙ alive))
  ]

  at_purged : (k : ℕ) → k < length slots_purged → (k < length v.slots) × (get_or slots_purged k [] ≡ change_purged (get_or v.slots k []))
  at_purged k lt = let under : k < length v.slots = omega (arith, length-map v.slots change_purged) in (under, get_or-map change_purged v.slots k [] [] under)

  -- a slot that is a file after the purge was no slot of that name
  stayed : (q : List ℕ) (j : ℕ) → j < length slots_purged → is_named n q (get_or slots_purged j []) ≡ true → (j < length v.slots) × (get_or slots_purged j [] ≡ get_or v.slots j []) × (q ≢ name)
  stayed q j lt on =
      let place = at_purged j lt in
      let both = named_tells n q (get_or slots_purged j []) on in
      let stays = dead j place.0 (sym (ap is_live place.1) ∙ (is_file_tells n (get_or slots_purged j []) both.0).0) in
      (place.0, place.1 ∙ stays.0, λ same. stays.1 (sym (ap name_of stays.0) ∙ sym (ap name_of place.1) ∙ both.1 ∙ same))

  -- a purged file is no file
  pub purged_here : file_named n slots_purged name ≡ None
  purged_here = not_found (is_named n name) slots_purged (λ j lt. false_from_ne_true _ (λ on. (stayed name j lt on).2 refl))

  -- and each other name has the slot that it had
  pub purged_others : (q : List ℕ) → q ≢ name → file_named n slots_purged q ≡ file_named n v.slots q
  purged_others q apart = same_named n v.header v.slots slots_purged q is.volume.legal (purge_is_adopted n v name is none).volume.legal
      (λ k lt on.
      let long : k < length slots_purged = omega (arith, lt, length-map v.slots change_purged) in
      (k, long, (at_purged k long).1 ∙ left_alone name (with_type 0) (get_or v.slots k []) q (named_tells n q (get_or v.slots k []) on).1 apart))
      (λ j lt on. let stays = stayed q j lt on in (j, stays.0, stays.1))

-- ---- rename

module _ (n : ℕ) (v : Volume) (old later : List ℕ) (ten : length later ≡ 10) (apart : old ≢ later) where
  abbrev change : List ℕ → List ℕ
  change slot = if is_live_named old slot then with_name later slot else slot

  abbrev slots_then : List (List ℕ)
  slots_then = with_slot old (with_name later) v.slots

  at_then : (k : ℕ) → k < length slots_then → (k < length v.slots) × (get_or slots_then k [] ≡ change (get_or v.slots k []))
  at_then k lt = let under : k < length v.slots = omega (arith, length-map v.slots change) in (under, get_or-map change v.slots k [] [] under)

  -- a file of another name than the new one was not renamed
  not_renamed : (k : ℕ) (q : List ℕ) → name_of (change (get_or v.slots k [])) ≡ q → q ≢ later → (change (get_or v.slots k []) ≡ get_or v.slots k []) × (is_live_named old (get_or v.slots k []) ≡ false)
  not_renamed k q named off = elim (slot_cases old (with_name later) (get_or v.slots k [])) [
    | inl both ↦ absurd (off (sym named ∙ ap name_of both.1 ∙ named_name later (get_or v.slots k []) ten))
    | inr both ↦ (both.1, both.0)
  ]

  -- the new name has the renamed slot, the old name none, and each other name the slot that it had
  renamed_by : IsLegal n v.header v.slots → IsLegal n v.header slots_then → later ≢ redo_name → (k : ℕ) → k < length v.slots → is_live_named old (get_or v.slots k []) ≡ true
      → (file_named n slots_then later ≡ Some (with_name later (get_or v.slots k []))) × (file_named n slots_then old ≡ None) × ((q : List ℕ) → q ≢ later → q ≢ old → file_named n slots_then q ≡ file_named n v.slots q)
  renamed_by legal legal_then off_later k lt on = (
    named_at_place n v.header slots_then legal_then later k long (ap (is_named n later) is_new ∙ named_from n later new file named) ∙ ap Some is_new,
    not_found (is_named n old) slots_then (λ j less. false_from_ne_true _ (λ here.
        let place = at_then j less in
        let both = named_tells n old (get_or slots_then j []) here in
        let kept = not_renamed j old (sym (ap name_of place.1) ∙ both.1) apart in
        let live : is_live (get_or v.slots j []) ≡ true = sym (ap is_live kept.0) ∙ sym (ap is_live place.1) ∙ (is_file_tells n (get_or slots_then j []) both.0).0 in
        other_name old (get_or v.slots j []) kept.1 live (sym (ap name_of kept.0) ∙ sym (ap name_of place.1) ∙ both.1))),
    λ q off apart_old. same_named n v.header v.slots slots_then q legal legal_then
        (λ j less here.
        let long_j : j < length slots_then = omega (arith, less, length-map v.slots change) in
        (j, long_j, (at_then j long_j).1 ∙ left_alone old (with_name later) (get_or v.slots j []) q (named_tells n q (get_or v.slots j []) here).1 apart_old))
        (λ j less here.
        let place = at_then j less in
        (j, place.0, place.1 ∙ (not_renamed j q (sym (ap name_of place.1) ∙ (named_tells n q (get_or slots_then j []) here).1) off).0)),
  )
    where
      new : List ℕ
      new = with_name later (get_or v.slots k [])

      long : k < length slots_then
      long = omega (arith, lt, length-map v.slots change)

      is_new : get_or slots_then k [] ≡ with_name later (get_or v.slots k [])
      is_new = (at_then k long).1 ∙ ap (λ (b : Bool). if b then with_name later (get_or v.slots k []) else get_or v.slots k []) on

      named : name_of (with_name later (get_or v.slots k [])) ≡ later
      named = named_name later (get_or v.slots k []) ten

      file : is_file n (with_name later (get_or v.slots k [])) ≡ true
      file =
          let live : is_live (with_name later (get_or v.slots k [])) ≡ true = ap (λ (t : ℕ). not (nat_eq t 0)) (named_type later (get_or v.slots k []) ten) ∙ (live_named_tells old (get_or v.slots k []) on).0 in
          file_from n (with_name later (get_or v.slots k [])) live (λ redo. off_later (sym named ∙ redo))

-- a rename that is not refused, to another name: the slot of the old name, and what each name has
-- then
pub record IsRenamed (n : ℕ) (v : Volume) (old later slot : List ℕ) : Type 0 where
  pub was : file_named n v.slots old ≡ Some slot
  pub here : file_named n (with_slot old (with_name later) v.slots) later ≡ Some (with_name later slot)
  pub gone : file_named n (with_slot old (with_name later) v.slots) old ≡ None
  pub others : (q : List ℕ) → q ≢ later → q ≢ old → file_named n (with_slot old (with_name later) v.slots) q ≡ file_named n v.slots q

pub renamed_named : (n : ℕ) (v : Volume) (old later : List ℕ) → IsAdopted n v → IsWellFormed (Rename old later) → refusal_of n (Rename old later) (Some v) ≡ None → old ≢ later
    → (slot : List ℕ) × IsRenamed n v old later slot
renamed_named n v old later is formed none apart =
    let found = any_at [] (is_live_named old) v.slots (not-false (has_file v.slots old) unmet.1.1.0) in
    let slot : List ℕ = get_or v.slots found.0 [] in
    let tells = live_named_tells old slot found.2 in
    let file : is_file n slot ≡ true = file_from n slot tells.0 (λ redo. not_redo_name n v old is.adopted names.0 (sym tells.1 ∙ redo)) in
    let all = renamed_by n v old later formed.1 apart is.volume.legal legal_then (not_redo_name n v later is.adopted names.1) found.0 found.1 found.2 in (
      slot,
      record {
        was = named_at_place n v.header v.slots is.volume.legal old found.0 found.1 (named_from n old slot file tells.1);
        here = all.0;
        gone = all.1;
        others = all.2;
      },
    )
  where
    unmet : NoneMet (checks_of n (Rename old later) v)
    unmet = none_met n (Rename old later) v none

    names : (is_protected n v old ≡ false) × (is_protected n v later ≡ false)
    names = or_parts _ _ unmet.1.0

    differ : bytes_eq old later ≡ false
    differ = false_from_ne_true _ (λ same. apart ((bytes_eq-Decides old later).0 same))

    legal_then : IsLegal n v.header (with_slot old (with_name later) v.slots)
    legal_then = subst (λ (b : Bool). IsLegal n (if b then v else renamed v old later).header (if b then v else renamed v old later).slots) differ (rename_is_adopted n v old later is formed none).volume.legal

-- ---- adopt and format

redo_is_no_file : (n : ℕ) → is_file n (redo_entry One n) ≡ false
redo_is_no_file n = and_right _ _ (not_from_true _ (made_redo_file n))

-- each name has the slot that it had
pub adopted_named : (n : ℕ) (v : Volume) → IsVolume n v → is_adopted n v.slots ≡ false → refusal_of n Adopt (Some v) ≡ None → (q : List ℕ) → file_named n (v.slots ++ redo_entry One n ∷ []) q ≡ file_named n v.slots q
adopted_named n v is foreign none q = same_named n v.header v.slots (v.slots ++ redo_entry One n ∷ []) q is.legal legal_then
    (λ k lt on. (k, omega (arith, lt, length_push v.slots (redo_entry One n)), get_or_append_left v.slots (redo_entry One n ∷ []) [] k lt))
    (λ j lt on. elim (cases_eq j (length v.slots)) [
      | inl at ↦
          let here : get_or (v.slots ++ redo_entry One n ∷ []) j [] ≡ redo_entry One n = ap (λ (m : ℕ). get_or (v.slots ++ redo_entry One n ∷ []) m []) at ∙ is_new.here in
          let no : true ≡ false = sym (named_tells n q (get_or (v.slots ++ redo_entry One n ∷ []) j []) on).0 ∙ ap (is_file n) here ∙ redo_is_no_file n in cc
      | inr off ↦ let found = is_new.others j lt off in (j, found.0, found.1)
    ])
  where
    is_new : HasNew v.slots (v.slots ++ redo_entry One n ∷ []) (length v.slots) (redo_entry One n) (λ k. k)
    is_new = push_new v.slots (redo_entry One n)

    legal_then : IsLegal n v.header (v.slots ++ redo_entry One n ∷ [])
    legal_then = subst (λ (b : Bool). IsLegal n (if b then v else record v { slots = v.slots ++ redo_entry One n ∷ [] }).header (if b then v else record v { slots = v.slots ++ redo_entry One n ∷ [] }).slots)
        foreign (adopt_is_adopted n v is none).volume.legal

-- ---- upgrade

-- each name has the slot that it had
pub upgraded_named : (n : ℕ) (v : Volume) → IsAdopted n v → is_upgraded n v ≡ false → refusal_of n Upgrade (Some v) ≡ None → (q : List ℕ) → file_named n (upgraded n v).slots q ≡ file_named n v.slots q
upgraded_named n v is old none q = same_named n v.header v.slots (upgraded n v).slots q is.volume.legal legal_then
    (λ k lt on. (
      k,
      omega (arith, lt, long),
      stays k (λ e.
          let no : true ≡ false = sym (redo_place_is n v is).1 ∙ sym (ap (λ (m : ℕ). is_redo_file n (get_or v.slots m [])) e) ∙ (is_file_tells n (get_or v.slots k []) (named_tells n q (get_or v.slots k []) on).0).1 in cc),
    ))
    (λ j lt on. (
      j,
      omega (arith, lt, long),
      stays j (λ e.
          let moved : is_redo_file n (get_or (upgraded n v).slots j []) ≡ true = ap (is_redo_file n) (ap (λ (m : ℕ). get_or (upgraded n v).slots m []) e ∙ here) ∙ (redo_entry_tells n Two new (moved_is_two n v is clear)).0 in
          let no : true ≡ false = sym moved ∙ (is_file_tells n (get_or (upgraded n v).slots j []) (named_tells n q (get_or (upgraded n v).slots j []) on).0).1 in cc),
    ))
  where
    clear : runs_past_redo n v ≡ false
    clear = sym (ap (λ (b : Bool). not b && runs_past_redo n v) old) ∙ (none_met n Upgrade v none).1.0

    legal_then : IsLegal n v.header (upgraded n v).slots
    legal_then = subst (λ (b : Bool). IsLegal n (if b then v else upgraded n v).header (if b then v else upgraded n v).slots) old (next_is_adopted n Upgrade v is tt none).volume.legal

    r : ℕ
    r = redo_place v.slots

    new : List ℕ
    new = upgraded_entry n (get_or v.slots r [])

    at : (upgraded n v).slots ≡ set v.slots r new
    at = upgraded_at n v is clear

    long : length (upgraded n v).slots ≡ length v.slots
    long = ap (λ (xs : List (List ℕ)). length xs) at ∙ length-set v.slots r new

    here : get_or (upgraded n v).slots r [] ≡ new
    here = ap (λ (xs : List (List ℕ)). get_or xs r []) at ∙ get_or-set_same v.slots r new [] (redo_place_is n v is).0

    stays : (k : ℕ) → k ≢ r → get_or (upgraded n v).slots k [] ≡ get_or v.slots k []
    stays k ne = ap (λ (xs : List (List ℕ)). get_or xs k []) at ∙ get_or-set_other v.slots r k new [] ne
