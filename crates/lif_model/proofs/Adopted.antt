-- Adopted volumes: where the redo entry stands, and that no file reaches the redo file's records.
use Rattle.std.proofs.Common.{filter, ◌≡◌, ◌<◌, ◌≤◌, ◌+◌, ◌&&◌, ◌||◌, ◌==◌, ℕ, suc, List, [], ◌∷◌, Bool, true, false, not, if◌then◌else◌, length, get_or, set, inl, inr, refl, sym, ◌∙◌, ap, subst, arith, nat_lt, nat_le, length-set, get_or-set_same, get_or-set_other, ◌⊎◌, ◌-◌}
use Rattle.std.specs.List.{list_any, position_or_len, prefix_len}
use Rattle.std.specs.Str.{bytes_eq}
use Rattle.std.proofs.lemmas.Bool.{cases_order, cases_Bool, and_parts, and_from, or_cases, leb-true, ltb-true, ltb-false, eqb-true, lt-ltb, not-true, not_from_false, false_from_ne_true, or_left, or_right, and_left, le-leb, not_from_true, ne_eqb}
use Rattle.std.proofs.lemmas.List.{length-map, get_or-map, ext_get_or}
use Rattle.std.proofs.lemmas.Slice.Eq.{bytes_eq-Decides}
use Rattle.lif_model.specs.Tape.{Tape, record_at}
use Rattle.lif_model.specs.Gate.{gate_of}
use Rattle.lif_model.specs.Header.{directory_start, directory_end, is_readable}
use Rattle.lif_model.specs.Directory.{name_of, type_of, start_of, length_of, slots_of}
use Rattle.lif_model.specs.declared.version.Version.{Version}
use Rattle.lif_model.specs.declared.version.Version.TheVariants.{One, Two}
use Rattle.lif_model.specs.Redo.{versions, redo_start, redo_length, Changes, redo_of, is_none, settled, changed}
use Rattle.lif_model.specs.Commit.{SettlesAs, SettlesBelow, IsOldOrNew}
use Rattle.lif_model.specs.Legal.{is_live, occupies, end_of, holds, is_live_named, is_legal_with, is_legal, IsLegal}
use Rattle.lif_model.specs.Volume.{redo_name, redo_type, is_redo_entry, is_adopted_with, is_redo_file, is_adopted, is_file, Volume, volume_if, volume_in, volume_of, IsAdopted, is_used, is_gate_held, is_foreign_gated, IsVolume}
use Rattle.lif_model.specs.Fit.{redo_place}
use Rattle.lif_model.specs.Apply.{with_slot}
use Rattle.lif_model.proofs.Lists.{none_of_filter, none_from, any_at, any_from}
use Rattle.lif_model.proofs.Legal.{legal_tells}
use Rattle.lif_model.proofs.Slots.{readable_tells, live_named_tells, slot_cases, occupies_tells}
use Rattle.lif_model.proofs.Redo.{four_at_least, redo_places, length_settled, armed_here, changes_long, loaded_are, length_changed}
use Rattle.lif_model.proofs.Volume.{slots_agree, volume_agrees}
use Rattle.lif_model.proofs.Commit.{settles_below_less}

-- ---- the redo file

pub redo_file_tells : (n : ℕ) (slot : List ℕ) → is_redo_file n slot ≡ true → (name_of slot ≡ redo_name) × (type_of slot ≡ redo_type)
redo_file_tells n slot is =
    let found = any_at One (λ version. is_redo_entry n version slot) versions is in
    let both = and_parts (bytes_eq (name_of slot) redo_name) _ found.2 in
    ((bytes_eq-Decides (name_of slot) redo_name).0 both.0, eqb-true (type_of slot) redo_type (and_parts _ _ both.1).0)

pub redo_file_is_live : (n : ℕ) (slot : List ℕ) → is_redo_file n slot ≡ true → is_live slot ≡ true
redo_file_is_live n slot is = not_from_false _ (ne_eqb (type_of slot) 0 (λ e. let both : redo_type ≡ 0 = sym (redo_file_tells n slot is).1 ∙ e in omega (arith, both)))

-- ---- the redo entry's place

pub position_tells : {X : Type 0} (d : X) (p : X → Bool) (xs : List X) → list_any p xs ≡ true → (position_or_len p xs < length xs) × (p (get_or xs (position_or_len p xs) d) ≡ true)
position_tells d p [] any = cc
position_tells d p (x ∷ xs) any = go (p x) refl any (λ rest. position_tells d p xs rest)
  where
    go : (b : Bool) → p x ≡ b → (b || list_any p xs) ≡ true → (list_any p xs ≡ true → (position_or_len p xs < length xs) × (p (get_or xs (position_or_len p xs) d) ≡ true))
        → ((if not b then 1 + prefix_len (λ y. not (p y)) xs else 0) < length (x ∷ xs)) × (p (get_or (x ∷ xs) (if not b then 1 + prefix_len (λ y. not (p y)) xs else 0) d) ≡ true)
    go true e any rest = (omega arith, e)
    go false e any rest =
        let found = rest any in
        let step : 1 + prefix_len (λ y. not (p y)) xs ≡ suc (position_or_len p xs) = omega arith in
        (omega (arith, found.0), ap (λ (k : ℕ). p (get_or (x ∷ xs) k d)) step ∙ found.1)

-- two live slots of one name are one slot
pub one_of_name : (n : ℕ) (header : List ℕ) (slots : List (List ℕ)) (name : List ℕ) (j k : ℕ) → IsLegal n header slots → j < length slots → k < length slots
    → is_live_named name (get_or slots j []) ≡ true → is_live_named name (get_or slots k []) ≡ true → j ≡ k
one_of_name n header slots name j k legal lt_j lt_k first second =
    let one = live_named_tells name (get_or slots j []) first in
    let two = live_named_tells name (get_or slots k []) second in
    elim (cases_order j k) [
      | inl e ↦ e
      | inr (inl lt) ↦ absurd (legal.distinct j k lt lt_k one.0 two.0 (one.1 ∙ sym two.1))
      | inr (inr lt) ↦ absurd (legal.distinct k j lt lt_j two.0 one.0 (two.1 ∙ sym one.1))
    ]

-- to change the slot of a name is to change the slot at its place (for the slot that `rename`,
-- `purge` and `upgrade` write)
pub with_slot_at : (n : ℕ) (header : List ℕ) (slots : List (List ℕ)) (name : List ℕ) (change : List ℕ → List ℕ) (k : ℕ) → IsLegal n header slots → k < length slots
    → is_live_named name (get_or slots k []) ≡ true → with_slot name change slots ≡ set slots k (change (get_or slots k []))
with_slot_at n header slots name change k legal lt on =
    ext_get_or [] (with_slot name change slots) (set slots k (change (get_or slots k []))) (length-map slots changed_slot ∙ sym (length-set slots k (change (get_or slots k []))))
    (λ j long. let under : j < length slots = omega (arith, long, length-map slots changed_slot) in get_or-map changed_slot slots j [] [] under ∙ at j under)
  where
    changed_slot : List ℕ → List ℕ
    changed_slot slot = if is_live_named name slot then change slot else slot

    at : (j : ℕ) → j < length slots → changed_slot (get_or slots j []) ≡ get_or (set slots k (change (get_or slots k []))) j []
    at j under = elim (slot_cases name change (get_or slots j [])) [
      | inl both ↦
          let same : j ≡ k = one_of_name n header slots name j k legal under lt both.0 on in
          both.1 ∙ ap (λ (m : ℕ). change (get_or slots m [])) same ∙ sym (get_or-set_same slots k (change (get_or slots k [])) [] lt)
          ∙ sym (ap (λ (m : ℕ). get_or (set slots k (change (get_or slots k []))) m []) same)
      | inr both ↦ both.1 ∙ sym (get_or-set_other slots k j (change (get_or slots k [])) []
          (λ e. let no : true ≡ false = sym on ∙ sym (ap (λ (m : ℕ). is_live_named name (get_or slots m [])) e) ∙ both.0 in cc))
    ]

pub redo_file_is_named : (n : ℕ) (slot : List ℕ) → is_redo_file n slot ≡ true → is_live_named redo_name slot ≡ true
redo_file_is_named n slot is = and_from _ _ (redo_file_is_live n slot is) ((bytes_eq-Decides (name_of slot) redo_name).1 (redo_file_tells n slot is).0)

-- on an adopted volume the slot of the redo file's name is the redo entry
pub redo_place_is : (n : ℕ) (v : Volume) → IsAdopted n v → (redo_place v.slots < length v.slots) × (is_redo_file n (get_or v.slots (redo_place v.slots) []) ≡ true)
redo_place_is n v is =
    let found = any_at [] (is_redo_file n) v.slots is.adopted in
    let named = redo_file_is_named n (get_or v.slots found.0 []) found.2 in
    let first = position_tells [] (is_live_named redo_name) v.slots (any_from [] (is_live_named redo_name) v.slots found.0 found.1 named) in
    let same : found.0 ≡ redo_place v.slots = one_of_name n v.header v.slots redo_name found.0 (redo_place v.slots) is.volume.legal found.1 first.0 named first.1 in
    (first.0, subst (λ (k : ℕ). is_redo_file n (get_or v.slots k []) ≡ true) same found.2)

-- and no other slot has that name
pub redo_is_alone : (n : ℕ) (v : Volume) (k : ℕ) → IsAdopted n v → k < length v.slots → is_live_named redo_name (get_or v.slots k []) ≡ true → k ≡ redo_place v.slots
redo_is_alone n v k is lt named =
    let place = redo_place_is n v is in
    one_of_name n v.header v.slots redo_name k (redo_place v.slots) is.volume.legal lt place.0 named (redo_file_is_named n (get_or v.slots (redo_place v.slots) []) place.1)

-- ---- the records of an adopted volume

pub redo_entry_tells : (n : ℕ) (version : Version) (slot : List ℕ) → is_redo_entry n version slot ≡ true
    → (is_redo_file n slot ≡ true) × (occupies slot ≡ true) × (start_of slot ≡ redo_start version n) × (length_of slot ≡ redo_length version)
redo_entry_tells n version slot is =
    let rest = and_parts (type_of slot == redo_type) (start_of slot == redo_start version n && length_of slot == redo_length version) (and_parts (bytes_eq (name_of slot) redo_name) _ is).1 in
    let places = and_parts (start_of slot == redo_start version n) (length_of slot == redo_length version) rest.1 in
    let long : length_of slot ≡ redo_length version = eqb-true (length_of slot) (redo_length version) places.1 in
    let file = some_version version is in
    (file, and_from _ _ (redo_file_is_live n slot file) (lt-ltb 0 (length_of slot) (omega (arith, long, four_at_least version))), eqb-true (start_of slot) (redo_start version n) places.0, long)
  where
    some_version : (version : Version) → is_redo_entry n version slot ≡ true → is_redo_file n slot ≡ true
    some_version One e = any_from One (λ w. is_redo_entry n w slot) versions 0 (omega arith) e
    some_version Two e = any_from One (λ w. is_redo_entry n w slot) versions 1 (omega arith) e

-- an adopted volume is adopted with some version
pub adopted_version : (n : ℕ) (slots : List (List ℕ)) → is_adopted n slots ≡ true → (version : Version) × (is_adopted_with n version slots ≡ true)
adopted_version n slots adopted =
    let found = any_at [] (is_redo_file n) slots adopted in
    let one = any_at One (λ version. is_redo_entry n version (get_or slots found.0 [])) versions found.2 in
    (get_or versions one.0 One, any_from [] (is_redo_entry n (get_or versions one.0 One)) slots found.0 found.1 one.2)

-- and one that is adopted with a version is adopted
pub adopted_some : (n : ℕ) (version : Version) (slots : List (List ℕ)) → is_adopted_with n version slots ≡ true → is_adopted n slots ≡ true
adopted_some n version slots adopted =
    let found = any_at [] (is_redo_entry n version) slots adopted in
    any_from [] (is_redo_file n) slots found.0 found.1 (redo_entry_tells n version (get_or slots found.0 []) found.2).0

pub is_file_tells : (n : ℕ) (slot : List ℕ) → is_file n slot ≡ true → (is_live slot ≡ true) × (is_redo_file n slot ≡ false)
is_file_tells n slot is = let both = and_parts (is_live slot) _ is in (both.0, not-true (is_redo_file n slot) both.1)

pub holds_tells : (k : ℕ) (slot : List ℕ) → holds k slot ≡ true → (start_of slot ≤ k) × (k < end_of slot)
holds_tells k slot is = let both = and_parts _ _ is in (leb-true (start_of slot) k both.0, ltb-true k (end_of slot) both.1)

module _ (version : Version) (n : ℕ) (header : List ℕ) (slots : List (List ℕ)) (legal : IsLegal n header slots) (p : ℕ) (lt : p < length slots) (redo : is_redo_entry n version (get_or slots p []) ≡ true) where
  -- the redo file comes after the directory
  redo_behind : (directory_end header ≤ redo_start version n) × (redo_start version n + redo_length version ≤ n)
  redo_behind =
      let entry = redo_entry_tells n version (get_or slots p []) redo in
      let within = legal.within p lt entry.1 in
      (omega (arith, within.0, entry.2), omega (arith, within.1, entry.2, entry.3))

  -- and files end before it
  pub file_before : (i k : ℕ) → i < length slots → is_file n (get_or slots i []) ≡ true → holds k (get_or slots i []) ≡ true → k < redo_start version n
  file_before i k lt_i file on =
      let entry = redo_entry_tells n version (get_or slots p []) redo in
      let live = is_file_tells n (get_or slots i []) file in
      let held = holds_tells k (get_or slots i []) on in
      let takes : occupies (get_or slots i []) ≡ true = and_from _ _ live.0 (lt-ltb 0 (length_of (get_or slots i [])) (omega (arith, held.0, held.1))) in
      let within = legal.within i lt_i takes in
      elim (cases_order i p) [
        | inl e ↦ let both : true ≡ false = sym entry.0 ∙ sym (ap (λ (j : ℕ). is_redo_file n (get_or slots j [])) e) ∙ live.1 in cc
        | inr (inl less) ↦ elim (legal.apart i p less lt takes entry.1) [
          | inl le ↦ omega (arith, held.1, le, entry.2)
          | inr le ↦ absurd (omega (arith, le, held.0, held.1, within.1, entry.2, entry.3, redo_behind.1))
        ]
        | inr (inr more) ↦ elim (legal.apart p i more lt_i entry.1 takes) [
          | inl le ↦ absurd (omega (arith, le, held.0, held.1, within.1, entry.2, entry.3, four_at_least version, redo_long))
          | inr le ↦ omega (arith, held.1, le, entry.2)
        ]
      ]
    where
      redo_long : n ≤ redo_start version n + redo_length version
      redo_long = omega arith

-- The directory of a volume that is adopted with a version, and each live file of it but the redo file, end before that
-- redo file.
pub ends_before_redo : (version : Version) (n : ℕ) (v : Volume) → IsVolume n v → is_adopted_with n version v.slots ≡ true → (directory_end v.header ≤ redo_start version n)
    × ((k : ℕ) → k < length v.slots → occupies (get_or v.slots k []) ≡ true → is_redo_file n (get_or v.slots k []) ≡ false → end_of (get_or v.slots k []) ≤ redo_start version n)
ends_before_redo version n v is adopted = (
  (redo_behind version n v.header v.slots is.legal found.0 found.1 found.2).0,
  λ k lt on other.
      let slot = get_or v.slots k [] in
      let both = occupies_tells slot on in
      let some : 0 < length_of slot = ltb-true 0 (length_of slot) both.1 in
      let last : ℕ = start_of slot + (length_of slot - 1) in
      let held : holds last slot ≡ true = and_from _ _ (le-leb (start_of slot) last (omega arith)) (lt-ltb last (end_of slot) (omega (arith, some))) in
      let file : is_file n slot ≡ true = and_from _ _ both.0 (not_from_false _ other) in
      omega (arith, file_before version n v.header v.slots is.legal found.0 found.1 found.2 k last lt file held, some),
)
  where
    found : (i : ℕ) × (i < length v.slots) × (is_redo_entry n version (get_or v.slots i []) ≡ true)
    found = any_at [] (is_redo_entry n version) v.slots adopted

-- the records that a legal volume adopted with a version uses lie below its redo file
pub adopted_uses_below : (version : Version) (t : Tape) (k : ℕ) → is_legal t ≡ true → is_adopted_with (length t) version (slots_of t) ≡ true → is_used t k ≡ true → k < redo_start version (length t)
adopted_uses_below version t k legal_test adopted used =
    let n = length t in
    let header = record_at t 0 in
    let legal = legal_tells n header (slots_of t) legal_test in
    let readable = readable_tells n header legal.readable in
    let found = any_at [] (is_redo_entry n version) (slots_of t) adopted in
    let behind = redo_behind version n header (slots_of t) legal found.0 found.1 found.2 in
    elim (or_cases (k == 0) _ used) [
      | inl zero_is ↦ omega (arith, eqb-true k 0 zero_is, behind.0, readable.0)
      | inr more ↦ elim (or_cases (nat_le (directory_start header) k && nat_lt k (directory_end header)) _ more) [
        | inl directory ↦ omega (arith, ltb-true k (directory_end header) (and_parts _ _ directory).1, behind.0)
        | inr file ↦
            let held = any_at [] (λ slot. is_file n slot && holds k slot) (slots_of t) file in
            let both = and_parts (is_file n (get_or (slots_of t) held.0 [])) _ held.2 in
            file_before version n header (slots_of t) legal found.0 found.1 found.2 held.0 k held.1 both.0 both.1
      ]
    ]

-- ---- the volume below the gate

-- what a tape's volume has of the directory, which ends before the gate
directory_same : (x u : Tape) → 4 < length u → length x ≡ length u → ((k : ℕ) → k < gate_of (length u) → record_at x k ≡ record_at u k) → (is_legal x ≡ is_legal u) × (is_legal u ≡ true → slots_of x ≡ slots_of u)
directory_same x u long size same = go (is_readable (length u) (record_at u 0)) refl
  where
    header : record_at x 0 ≡ record_at u 0
    header = same 0 (omega (arith, long))

    slots : is_readable (length u) (record_at u 0) ≡ true → slots_of x ≡ slots_of u
    slots is =
        let readable = readable_tells (length u) (record_at u 0) is in
        slots_agree x u header (λ k le lt. same k (omega (arith, lt, readable.2)))

    go : (b : Bool) → is_readable (length u) (record_at u 0) ≡ b → (is_legal x ≡ is_legal u) × (is_legal u ≡ true → slots_of x ≡ slots_of u)
    go true e = (λ i. is_legal_with (size i) (header i) (slots e i), λ legal. slots e)
    go false e =
        let here : is_legal u ≡ false = and_first _ _ e in
        let there : is_legal x ≡ false = and_first _ _ ((λ i. is_readable (size i) (header i)) ∙ e) in
        (there ∙ sym here, λ legal. let both : true ≡ false = sym legal ∙ here in cc)
      where
        and_first : (a b : Bool) → a ≡ false → (a && b) ≡ false
        and_first a b is = ap (λ (c : Bool). c && b) is

-- A tape that agrees with u below the gate, and where u is legal on each record that u uses, has
-- the volume of u, and a file that is not ours holds its gate exactly where one does so on u.
pub volume_below : (u w : Tape) → 4 < length u → length w ≡ length u → ((k : ℕ) → k < gate_of (length u) → record_at w k ≡ record_at u k)
    → (is_legal u ≡ true → (k : ℕ) → is_used u k ≡ true → record_at w k ≡ record_at u k) → (volume_in w ≡ volume_in u) × (is_gate_held w ≡ is_gate_held u)
volume_below u w long size below used = go (is_legal u) refl
  where
    directory : (is_legal w ≡ is_legal u) × (is_legal u ≡ true → slots_of w ≡ slots_of u)
    directory = directory_same w u long size below

    go : (b : Bool) → is_legal u ≡ b → (volume_in w ≡ volume_in u) × (is_gate_held w ≡ is_gate_held u)
    go true e = (
      volume_agrees w u size (used e),
      λ i. directory.0 i && (not (is_adopted (size i) (directory.1 e i)) && list_any (λ slot. is_live slot && holds (gate_of (size i)) slot) (directory.1 e i)),
    )
    go false e = (
      ap (λ (b : Bool). volume_if b w) (directory.0 ∙ e) ∙ sym (ap (λ (b : Bool). volume_if b u) e),
      not_held_by w (directory.0 ∙ e) ∙ sym (not_held_by u e),
    )
      where
        not_held_by : (t : Tape) → is_legal t ≡ false → is_gate_held t ≡ false
        not_held_by t is = ap (λ (b : Bool). b && (not (is_adopted (length t) (slots_of t)) && list_any (λ slot. is_live slot && holds (gate_of (length t)) slot) (slots_of t))) is

and_false : (a b : Bool) → b ≡ false → (a && b) ≡ false
and_false true b is = is
and_false false b is = refl

-- ---- no file reaches past the gate

-- a record of a live file lies below the gate then
held_before : (u : Tape) (k i : ℕ) → i < length (slots_of u) → list_any (λ slot. nat_lt (gate_of (length u)) (end_of slot)) (filter occupies (slots_of u)) ≡ false
    → is_live (get_or (slots_of u) i []) ≡ true → holds k (get_or (slots_of u) i []) ≡ true → k < gate_of (length u)
held_before u k i lt clear live on =
    let slot = get_or (slots_of u) i [] in
    let held = holds_tells k slot on in
    let takes : occupies slot ≡ true = and_from _ _ live (lt-ltb 0 (length_of slot) (omega (arith, held.0, held.1))) in
    omega (arith, held.1, ltb-false (gate_of (length u)) (end_of slot) (none_of_filter [] occupies (λ s. nat_lt (gate_of (length u)) (end_of s)) (slots_of u) i clear lt takes))

-- where no live file reaches past the gate, the records that a legal volume uses lie below it
pub clear_uses_below : (u : Tape) (k : ℕ) → is_legal u ≡ true → list_any (λ slot. nat_lt (gate_of (length u)) (end_of slot)) (filter occupies (slots_of u)) ≡ false → is_used u k ≡ true → k < gate_of (length u)
clear_uses_below u k legal_test clear used =
    let n = length u in
    let header = record_at u 0 in
    let legal = legal_tells n header (slots_of u) legal_test in
    let readable = readable_tells n header legal.readable in
    elim (or_cases (k == 0) _ used) [
      | inl zero_is ↦ omega (arith, eqb-true k 0 zero_is, readable.0, readable.2)
      | inr more ↦ elim (or_cases (nat_le (directory_start header) k && nat_lt k (directory_end header)) _ more) [
        | inl directory ↦ omega (arith, ltb-true k (directory_end header) (and_parts _ _ directory).1, readable.2)
        | inr file ↦
            let held = any_at [] (λ slot. is_file n slot && holds k slot) (slots_of u) file in
            let both = and_parts (is_file n (get_or (slots_of u) held.0 [])) _ held.2 in
            held_before u k held.0 held.1 clear (is_file_tells n (get_or (slots_of u) held.0 []) both.0).0 both.1
      ]
    ]

-- and none holds it
pub clear_gate : (u : Tape) → list_any (λ slot. nat_lt (gate_of (length u)) (end_of slot)) (filter occupies (slots_of u)) ≡ false → is_gate_held u ≡ false
clear_gate u clear =
    let none : list_any (λ slot. is_live slot && holds (gate_of (length u)) slot) (slots_of u) ≡ false = none_from [] (λ slot. is_live slot && holds (gate_of (length u)) slot) (slots_of u) (λ i lt. false_from_ne_true _ (λ on.
    let both = and_parts (is_live (get_or (slots_of u) i [])) _ on in
    absurd (omega (arith, held_before u (gate_of (length u)) i lt clear both.0 both.1)))) in
    and_false (is_legal u) _ (and_false (not (is_adopted (length u) (slots_of u))) _ none)

-- ---- settling, and the gate record

not_held : (t : Tape) (c : ℕ × List ℕ) (cs : Changes) → redo_of t ≡ c ∷ cs → is_foreign_gated t ≡ false → is_gate_held (settled t) ≡ false
not_held t c cs is off = sym (ap (λ (ds : Changes). not (is_none ds) && is_gate_held (settled t)) is) ∙ off

-- where no file that is not ours holds it, the volume does not use the gate record
pub gate_unused : (u : Tape) → is_legal u ≡ true → is_gate_held u ≡ false → is_used u (gate_of (length u)) ≡ false
gate_unused u legal_test off =
    let n = length u in
    let legal = legal_tells n (record_at u 0) (slots_of u) legal_test in
    let readable = readable_tells n (record_at u 0) legal.readable in
    false_from_ne_true _ (λ used. elim (cases_Bool (is_adopted n (slots_of u))) [
      | inl adopted ↦
          let version = adopted_version n (slots_of u) adopted in
          let below = adopted_uses_below version.0 u (gate_of n) legal_test version.1 used in
          absurd (omega (arith, below, (redo_places version.0 n).0))
      | inr foreign ↦ elim (or_cases (gate_of n == 0) _ used) [
        | inl zero_is ↦ absurd (omega (arith, eqb-true (gate_of n) 0 zero_is, readable.0, readable.2))
        | inr more ↦ elim (or_cases (nat_le (directory_start (record_at u 0)) (gate_of n) && nat_lt (gate_of n) (directory_end (record_at u 0))) _ more) [
          | inl directory ↦ absurd (omega (arith, ltb-true (gate_of n) (directory_end (record_at u 0)) (and_parts _ _ directory).1, readable.2))
          | inr file ↦
              let held = any_at [] (λ slot. is_file n slot && holds (gate_of n) slot) (slots_of u) file in
              let both = and_parts (is_file n (get_or (slots_of u) held.0 [])) _ held.2 in
              let live : is_live (get_or (slots_of u) held.0 []) ≡ true = (is_file_tells n (get_or (slots_of u) held.0 []) both.0).0 in
              let any : list_any (λ slot. is_live slot && holds (gate_of n) slot) (slots_of u) ≡ true = any_from [] (λ slot. is_live slot && holds (gate_of n) slot) (slots_of u) held.0 held.1 (and_from _ _ live both.1) in
              let yes : is_gate_held u ≡ true = and_from _ _ legal_test (and_from _ _ (not_from_false _ foreign) any) in
              let no : true ≡ false = sym yes ∙ off in cc
        ]
      ]
    ])

-- A tape whose redo is open and which is not foreign-gated: what settles as it does has its volume,
-- and is not foreign-gated.
pub settles_as_same : (t x : Tape) (c : ℕ × List ℕ) (cs : Changes) → redo_of t ≡ c ∷ cs → is_foreign_gated t ≡ false → SettlesAs (settled t) x → (volume_of x ≡ volume_of t) × (is_foreign_gated x ≡ false)
settles_as_same t x c cs is off settles =
    let armed = armed_here t c cs is in
    let long : 4 < length (settled t) = omega (arith, length_settled t, (changes_long armed.0 (length t) (c ∷ cs) (loaded_are armed.0 (c ∷ cs) t armed.1.loaded)).0) in
    let off_gate : is_gate_held (settled t) ≡ false = not_held t c cs is off in
    let both = volume_below (settled t) (settled x) long (length_settled x ∙ settles.records) (λ k lt. settles.same k (λ e. absurd (omega (arith, e, lt))))
    (λ legal k used. settles.same k (λ at. let no : true ≡ false = sym used ∙ ap (is_used (settled t)) at ∙ gate_unused (settled t) legal off_gate in cc)) in
    (both.0, and_false (not (is_none (redo_of x))) (is_gate_held (settled x)) (both.1 ∙ off_gate))

-- A tape that settles to u below the redo file has the volume of u and is not foreign-gated, where
-- u is legal and adopted with that version ..
pub settles_below_adopted : (version : Version) (u x : Tape) → is_legal u ≡ true → is_adopted_with (length u) version (slots_of u) ≡ true → SettlesBelow version u x → (volume_of x ≡ volume_in u) × (is_foreign_gated x ≡ false)
settles_below_adopted version u x legal adopted settles =
    let n = length u in
    let w : Tape = settled x in
    let size : length w ≡ n = length_settled x ∙ settles.records in
    let used : (k : ℕ) → is_used u k ≡ true → record_at w k ≡ record_at u k = λ k on. settles.same k (adopted_uses_below version u k legal adopted on) in
    let slots : slots_of w ≡ slots_of u = slots_agree w u (used 0 refl)
    (λ k le lt. used k (or_right (k == 0) _ (or_left _ _ (and_from _ _ (le-leb (directory_start (record_at u 0)) k le) (lt-ltb k (directory_end (record_at u 0)) lt))))) in
    let any : is_adopted n (slots_of u) ≡ true = adopted_some n version (slots_of u) adopted in
    let all : is_adopted (length w) (slots_of w) ≡ true = (λ i. is_adopted (size i) (slots i)) ∙ any in
    let off : is_gate_held w ≡ false = and_false (is_legal w) _ (and_left _ _ (not_from_true _ all)) in
    (volume_agrees w u size used, and_false (not (is_none (redo_of x))) (is_gate_held w) off)

-- .. or with another version whose redo file begins no later than that of the commit (for
-- `upgrade`, whose volume is of version 2 after a commit of version 1, and for `format` on a
-- volume of version 2) ..
pub settles_below_other : (version other : Version) (u x : Tape) → is_legal u ≡ true → is_adopted_with (length u) other (slots_of u) ≡ true → redo_start other (length u) ≤ redo_start version (length u)
    → SettlesBelow version u x → (volume_of x ≡ volume_in u) × (is_foreign_gated x ≡ false)
settles_below_other version other u x legal adopted earlier settles = settles_below_adopted other u x legal adopted (settles_below_less version other u x earlier settles)

-- .. and where the redo file begins with the gate, and no record from the gate on is used by u or
-- held by a file of it
pub settles_below_clear : (version : Version) (u x : Tape) → 4 < length u → redo_start version (length u) ≡ gate_of (length u) → (is_legal u ≡ true → (k : ℕ) → is_used u k ≡ true → k < gate_of (length u))
    → is_gate_held u ≡ false → SettlesBelow version u x → (volume_of x ≡ volume_in u) × (is_foreign_gated x ≡ false)
settles_below_clear version u x long first uses off settles =
    let below : (k : ℕ) → k < gate_of (length u) → record_at (settled x) k ≡ record_at u k = λ k lt. settles.same k (omega (arith, lt, first)) in
    let both = volume_below u (settled x) long (length_settled x ∙ settles.records) below (λ legal k on. below k (uses legal k on)) in
    (both.0, and_false (not (is_none (redo_of x))) (is_gate_held (settled x)) (both.1 ∙ off))

-- At any moment of the commit of `upgrade`, and after a trouble in it, the tape has the volume
-- before or the one after, and no other file's gate (for `upgrade`).
pub upgrade_old_or_new : (changes : Changes) (u x : Tape) → is_legal u ≡ true → is_adopted_with (length u) One (slots_of u) ≡ true → is_legal (changed changes u) ≡ true
    → is_adopted_with (length u) Two (slots_of (changed changes u)) ≡ true → IsOldOrNew One changes u x
    → ((volume_of x ≡ volume_in u) ⊎ (volume_of x ≡ volume_in (changed changes u))) × (is_foreign_gated x ≡ false)
upgrade_old_or_new changes u x legal adopted legal_then adopted_then old_or_new = elim old_or_new [
  | inl old ↦ let same = settles_below_adopted One u x legal adopted old in (inl same.0, same.1)
  | inr new ↦
      let size : length (changed changes u) ≡ length u = length_changed changes u in
      let same = settles_below_other One Two (changed changes u) x legal_then (ap (λ (n : ℕ). is_adopted_with n Two (slots_of (changed changes u))) size ∙ adopted_then) (omega arith) new in
      (inr same.0, same.1)
]
