-- The tape that a settled tape with a mark is finished to, and its volume.
use Rattle.std.proofs.Common.{◌≡◌, ◌≢◌, ◌<◌, ◌+◌, ◌&&◌, ◌||◌, ◌==◌, nat_lt, ℕ, List, [], Bool, true, false, not, length, get_or, set, inl, inr, refl, sym, ◌∙◌, ap, subst, arith, get_or-set_same, get_or-set_other, bytes_eq}
use Rattle.std.specs.FinMap.{get}
use Rattle.std.proofs.lemmas.Bool.{and_from, cases_eq}
use Rattle.std.proofs.lemmas.Slice.Eq.{bytes_eq-Decides}
use Rattle.lif_model.specs.Tape.{Tape}
use Rattle.lif_model.specs.Directory.{name_of, type_of, start_of, length_of}
use Rattle.lif_model.specs.declared.version.Version.TheVariants.{One, Two}
use Rattle.lif_model.specs.Legal.{is_live, occupies, end_of}
use Rattle.lif_model.specs.Volume.{Volume, IsVolume, IsAdopted, redo_name, is_redo_entry, is_file, content_of, files_of}
use Rattle.lif_model.specs.Fit.{redo_place}
use Rattle.lif_model.specs.Apply.{is_upgraded}
use Rattle.lif_model.proofs.Lists.{any_at, any_from}
use Rattle.lif_model.proofs.Files.{get_file}
use Rattle.lif_model.proofs.Adopted.{redo_file_is_named, redo_place_is, redo_is_alone, redo_entry_tells, adopted_some}
use Rattle.lif_model.proofs.Named.{is_named, file_from, named_tells}
use Rattle.lif_model.specs.Packing.{redo_slot, marked_slot, marked_count, unmarked, bears_mark}
use Rattle.lif_pack.proofs.Entries.{unmarked_size, unmarked_name, unmarked_type, unmarked_start, unmarked_length, unmarked_redo}
use Rattle.lif_pack.proofs.Pointwise.{found_same}
use Rattle.lif_pack.proofs.Slotting.{MayStand, stands_as_before, set_is_volume}

-- ---- the redo entry of a volume of version 2

-- a volume whose redo entry is not marked has no mark
pub marked_by : (n : ℕ) (v : Volume) → marked_slot (redo_slot v) ≡ 0 → marked_count (redo_slot v) ≡ 0 → bears_mark n v ≡ false
marked_by n v no_slot no_count =
    (λ i. is_upgraded n v && not ((no_slot i == 0) && (no_count i == 0))) ∙ never (is_upgraded n v)
  where
    never : (b : Bool) → (b && not ((0 == 0) && (0 == 0))) ≡ false
    never true = refl
    never false = refl

module _ (n : ℕ) (v : Volume) (is : IsVolume n v) (up : is_upgraded n v ≡ true) where
  pub upgraded_is_adopted : IsAdopted n v
  upgraded_is_adopted = record { volume = is; adopted = adopted_some n Two v.slots up }

  abbrev r : ℕ
  r = redo_place v.slots

  pub redo_here : r < length v.slots
  redo_here = (redo_place_is n v upgraded_is_adopted).0

  -- its slot has the extent of a redo file of version 2
  pub redo_is_two : is_redo_entry n Two (redo_slot v) ≡ true
  redo_is_two =
      let found = any_at [] (is_redo_entry n Two) v.slots up in
      let named = redo_file_is_named n (get_or v.slots found.0 []) (redo_entry_tells n Two (get_or v.slots found.0 []) found.2).0 in
      let same : found.0 ≡ r = redo_is_alone n v found.0 upgraded_is_adopted found.1 named in
      subst (λ (k : ℕ). is_redo_entry n Two (get_or v.slots k []) ≡ true) same found.2

  redo_size : length (redo_slot v) ≡ 32
  redo_size = is.entries r redo_here

  -- unmarked, it may stand where it does
  pub unmarked_may_stand : MayStand n v r (unmarked (redo_slot v))
  unmarked_may_stand =
      let entry : List ℕ = redo_slot v in
      let start : start_of (unmarked entry) ≡ start_of entry = unmarked_start entry redo_size in
      let long : length_of (unmarked entry) ≡ length_of entry = unmarked_length entry redo_size in
      stands_as_before n v r (unmarked entry) is redo_here (redo_entry_tells n Two entry redo_is_two).1
      (unmarked_size entry redo_size)
      (ap (λ (k : ℕ). k == 0xFFFF) (unmarked_type entry redo_size) ∙ is.kinds r redo_here)
      start (omega (arith, start, long)) (unmarked_name entry redo_size)

  -- every other live slot has another name
  pub other_is_file : (k : ℕ) → k < length v.slots → k ≢ r → is_live (get_or v.slots k []) ≡ true → is_file n (get_or v.slots k []) ≡ true
  other_is_file k lt off live = file_from n (get_or v.slots k []) live (λ same.
      off (redo_is_alone n v k upgraded_is_adopted lt (and_from _ _ live ((bytes_eq-Decides (name_of (get_or v.slots k [])) redo_name).1 same))))

  -- the volume with that slot unmarked
  abbrev pub cleared : Volume
  cleared = record v { slots = set v.slots r (unmarked (redo_slot v)) }

  pub cleared_is_volume : IsVolume n cleared
  cleared_is_volume = set_is_volume n v r (unmarked (redo_slot v)) unmarked_may_stand is

-- a volume in which the slot of the redo file is not marked
pub clear_of : (n : ℕ) (v : Volume) (k : ℕ) → IsVolume n v → k < length v.slots → is_redo_entry n Two (get_or v.slots k []) ≡ true
    → marked_slot (get_or v.slots k []) ≡ 0 → marked_count (get_or v.slots k []) ≡ 0
    → (is_upgraded n v ≡ true) × (bears_mark n v ≡ false)
clear_of n v k is lt redo no_slot no_count =
    let up : is_upgraded n v ≡ true = any_from [] (is_redo_entry n Two) v.slots k lt redo in
    let named = redo_file_is_named n (get_or v.slots k []) (redo_entry_tells n Two (get_or v.slots k []) redo).0 in
    let same : k ≡ redo_place v.slots = redo_is_alone n v k (upgraded_is_adopted n v is up) lt named in
    let here : get_or v.slots k [] ≡ redo_slot v = ap (λ (m : ℕ). get_or v.slots m []) same in
    (up, marked_by n v (sym (ap marked_slot here) ∙ no_slot) (sym (ap marked_count here) ∙ no_count))

-- ---- slots that differ in their marks alone

-- one is as the other in all that a directory is legal by
pub record IsAlike (a b : List ℕ) : Type 0 where
  pub type : type_of a ≡ type_of b
  pub start : start_of a ≡ start_of b
  pub long : length_of a ≡ length_of b
  pub name : name_of a ≡ name_of b

pub occupies_alike : (a b : List ℕ) → IsAlike a b → occupies a ≡ occupies b
occupies_alike a b alike = λ i. not (alike.type i == 0) && nat_lt 0 (alike.long i)

pub end_alike : (a b : List ℕ) → IsAlike a b → end_of a ≡ end_of b
end_alike a b alike = λ i. alike.start i + alike.long i

pub live_alike : (a b : List ℕ) → type_of a ≡ type_of b → is_live a ≡ is_live b
live_alike a b same = λ i. not (same i == 0)

module _ (n : ℕ) (v : Volume) (is : IsVolume n v) (up : is_upgraded n v ≡ true) where
  pub cleared_is_alike : (k : ℕ) → IsAlike (get_or (cleared n v is up).slots k []) (get_or v.slots k [])
  cleared_is_alike k = elim (cases_eq k (redo_place v.slots)) [
    | inl e ↦
        let entry : List ℕ = redo_slot v in
        let size : length entry ≡ 32 = redo_size n v is up in
        let now : get_or (cleared n v is up).slots k [] ≡ unmarked entry = ap (λ (m : ℕ). get_or (cleared n v is up).slots m []) e
        ∙ get_or-set_same v.slots (redo_place v.slots) (unmarked entry) [] (redo_here n v is up) in
        let was : entry ≡ get_or v.slots k [] = ap (λ (m : ℕ). get_or v.slots m []) (sym e) in
        record {
          type = ap type_of now ∙ unmarked_type entry size ∙ ap type_of was;
          start = ap start_of now ∙ unmarked_start entry size ∙ ap start_of was;
          long = ap length_of now ∙ unmarked_length entry size ∙ ap length_of was;
          name = ap name_of now ∙ unmarked_name entry size ∙ ap name_of was;
        }
    | inr off ↦
        let same : get_or (cleared n v is up).slots k [] ≡ get_or v.slots k [] = get_or-set_other v.slots (redo_place v.slots) k (unmarked (redo_slot v)) [] off in
        record { type = ap type_of same; start = ap start_of same; long = ap length_of same; name = ap name_of same }
  ]

  -- the redo entry is no file, with a mark or without
  pub cleared_is_file : (k : ℕ) → is_file n (get_or (cleared n v is up).slots k []) ≡ is_file n (get_or v.slots k [])
  cleared_is_file k = elim (cases_eq k (redo_place v.slots)) [
    | inl e ↦
        let entry : List ℕ = redo_slot v in
        let size : length entry ≡ 32 = redo_size n v is up in
        let same : is_file n (unmarked entry) ≡ is_file n entry =
        λ i. not (unmarked_type entry size i == 0) && not (unmarked_redo entry size n One i || (unmarked_redo entry size n Two i || false)) in
        ap (λ (m : ℕ). is_file n (get_or (cleared n v is up).slots m [])) e
        ∙ ap (is_file n) (get_or-set_same v.slots (redo_place v.slots) (unmarked entry) [] (redo_here n v is up)) ∙ same
        ∙ ap (λ (m : ℕ). is_file n (get_or v.slots m [])) (sym e)
    | inr off ↦ ap (is_file n) (get_or-set_other v.slots (redo_place v.slots) k (unmarked (redo_slot v)) [] off)
  ]

-- ---- the files of a tape

-- what is found under a name on a tape with these slots, where they agree with those of another tape in all files, and in
-- the content of the file of that name
pub lookup_same : (n : ℕ) (x u : Tape) (slots later : List (List ℕ)) (q : List ℕ) → length x ≡ n → length u ≡ n → length later ≡ length slots
    → ((k : ℕ) → k < length slots → is_file n (get_or later k []) ≡ is_file n (get_or slots k []))
    → ((k : ℕ) → k < length slots → name_of (get_or later k []) ≡ name_of (get_or slots k []))
    → ((k : ℕ) → k < length slots → is_file n (get_or slots k []) ≡ true → name_of (get_or slots k []) ≡ q
    → content_of x (get_or later k []) ≡ content_of u (get_or slots k []))
    → get (files_of x later) q ≡ get (files_of u slots) q
lookup_same n x u slots later q size_x size_u count files names contents =
    get_file x later n q (sym size_x)
    ∙ found_same (is_named n q) (content_of x) (content_of u) slots later count
    (λ k lt. (λ i. files k lt i && bytes_eq q (names k lt i), λ on. let both = named_tells n q (get_or slots k []) on in contents k lt both.0 both.1))
    ∙ sym (get_file u slots n q (sym size_u))
