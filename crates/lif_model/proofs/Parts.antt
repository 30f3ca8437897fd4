-- The parts of a batch: what each does to the slots, and what stays of a slot through all that follow.
use Rattle.std.proofs.Common.{◌≡◌, ◌≢◌, ◌⊎◌, ◌<◌, ◌≤◌, ◌+◌, ◌==◌, ◌||◌, ℕ, suc, nat_eq, List, [], ◌∷◌, ◌++◌, Bool, true, false, not, if◌then◌else◌, length, get_or, set, nat_lt, insert, inl, inr, refl, sym, ◌∙◌, ap, subst, arith, length-set, get_or-set_same, get_or-set_other, append-nil, append_assoc}
use Rattle.std.specs.Prelude.{All}
use Rattle.std.specs.List.{list_any}
use Rattle.std.specs.Str.{bytes_eq}
use Rattle.std.proofs.lemmas.Bool.{cases_eq, cases_order, and_parts, and_from, or_cases, or_left, or_right, or_parts, ltb-true, lt-ltb, eqb-true, eq-eqb, ne_eqb, not-false, not_from_true, not_from_false}
use Rattle.std.proofs.lemmas.List.Folds.{list_any-append}
use Rattle.std.proofs.lemmas.List.Elements.{All-nil, All-cons, All-head, All-tail, All-append}
use Rattle.std.proofs.lemmas.List.Edits.{length-insert, get_or-insert_below, get_or-insert_at, get_or-insert_above}
use Rattle.lif_model.specs.Tape.{Tape}
use Rattle.lif_model.specs.Header.{directory_end, capacity_of}
use Rattle.lif_model.specs.Directory.{name_of, type_of, start_of, length_of}
use Rattle.lif_model.specs.Made.{new_entry, with_name, with_type, file_length}
use Rattle.lif_model.specs.declared.version.Version.{Version}
use Rattle.lif_model.specs.Redo.{redo_start}
use Rattle.lif_model.specs.Legal.{is_live, has_records, occupies, end_of, place_named, has_file}
use Rattle.lif_model.specs.Volume.{redo_name, is_redo_entry, is_redo_file, is_adopted_with, Volume, IsAdopted}
use Rattle.lif_model.specs.Fit.{Place, At, redo_place, fit_beside_in}
use Rattle.lif_model.specs.Parts.{Part, IsWellFormedPart}
use Rattle.lif_model.specs.Parts as part
use Rattle.lif_model.specs.Apply.{is_protected, stored, renamed, part_checks, Midway, part_place, after_part, after_parts, parts_checks}
use Rattle.lif_model.specs.declared.refusal.Refusal.{Refusal}
use Rattle.lif_model.specs.Writing.{SlotWrites, last_slot, changed_slot, part_writes, parts_writes, NewFile, part_files, parts_files}
use Rattle.lif_model.proofs.Lists.{any_at, any_from}
use Rattle.lif_model.proofs.Made.{new_type, new_start, new_length, new_size, named_type, named_start, named_length, named_size, typed_start, typed_length, typed_size}
use Rattle.lif_model.proofs.Fit.{IsPlaceIn, fit_beside_tells, place_is_free}
use Rattle.lif_model.proofs.Slots.{occupies_tells, live_named_tells, HasNew, set_new, before_insert, insert_new}
use Rattle.lif_model.proofs.Adopted.{redo_file_tells, redo_file_is_named, redo_place_is, redo_is_alone, redo_entry_tells}
use Rattle.lif_model.proofs.Apply.{NoneMet, unmet_parts, store_has_place, not_redo_name, purged_is_dead, part_is_adopted}
use Rattle.lif_model.proofs.Slotted.{changed_is_set}
use Rattle.lif_model.proofs.Places.{place_below_redo}

-- ---- what a part does

-- nothing at all
pub record Stays (n : ℕ) (m : Midway) (p : Part) : Type 0 where
  pub volume : (after_part n p m).volume ≡ m.volume
  pub barred : (after_part n p m).barred ≡ m.barred
  pub writes : (t : Tape) → part_writes p m.volume (part_place n m p) t ≡ []
  pub files : part_files p (part_place n m p) ≡ []

-- one slot that is there, other than the redo entry's, gets an entry
pub record SetsSlot (n : ℕ) (m : Midway) (p : Part) (at : ℕ) (entry : List ℕ) : Type 0 where
  pub within : at < length m.volume.slots
  pub other : at ≢ redo_place m.volume.slots
  pub size : length entry ≡ 32
  pub slots : (after_part n p m).volume.slots ≡ set m.volume.slots at entry
  pub header : (after_part n p m).volume.header ≡ m.volume.header
  pub writes : (t : Tape) → part_writes p m.volume (part_place n m p) t ≡ (at, entry) ∷ []

-- an entry comes before the redo entry, which is the last one
pub record InsertsSlot (n : ℕ) (m : Midway) (p : Part) (at : ℕ) (entry : List ℕ) : Type 0 where
  pub own : at ≡ redo_place m.volume.slots
  pub last : suc at ≡ length m.volume.slots
  pub room : length m.volume.slots < capacity_of m.volume.header
  pub size : length entry ≡ 32
  pub slots : (after_part n p m).volume.slots ≡ insert m.volume.slots at entry
  pub header : (after_part n p m).volume.header ≡ m.volume.header
  pub writes : (t : Tape) → part_writes p m.volume (part_place n m p) t ≡ (at, entry) ∷ last_slot (capacity_of m.volume.header) t (suc at) (get_or m.volume.slots at [])

-- the entry is that of a live slot, with its extent
pub record ChangesFile (n : ℕ) (m : Midway) (p : Part) (at : ℕ) (entry : List ℕ) : Type 0 where
  pub was : is_live (get_or m.volume.slots at []) ≡ true
  pub starts : start_of entry ≡ start_of (get_or m.volume.slots at [])
  pub longs : length_of entry ≡ length_of (get_or m.volume.slots at [])
  pub files : part_files p (part_place n m p) ≡ []

-- the entry is that of a new file, in a slot that is not barred
pub record StoresFile (n : ℕ) (m : Midway) (p : Part) (at : ℕ) (entry : List ℕ) : Type 0 where
  pub first : ℕ
  pub bytes : List ℕ
  pub live : is_live entry ≡ true
  pub starts : start_of entry ≡ first
  pub longs : length_of entry ≡ file_length bytes
  pub place : IsPlaceIn n m.volume (file_length bytes) at first
  pub free : list_any (nat_eq at) m.barred ≡ false
  pub files : part_files p (part_place n m p) ≡ record { slot = at; start = first; bytes = bytes } ∷ []
  pub barred : (after_part n p m).barred ≡ m.barred

pub data PartDoes (n : ℕ) (m : Midway) (p : Part) : Type 0 where
  nothing : Stays n m p → PartDoes n m p
  renames : (at : ℕ) (entry : List ℕ) → SetsSlot n m p at entry → ChangesFile n m p at entry → is_live entry ≡ true → (after_part n p m).barred ≡ m.barred → PartDoes n m p
  purges : (at : ℕ) (entry : List ℕ) → SetsSlot n m p at entry → ChangesFile n m p at entry → is_live entry ≡ false → (after_part n p m).barred ≡ m.barred ++ at ∷ [] → PartDoes n m p
  fills : (at : ℕ) (entry : List ℕ) → SetsSlot n m p at entry → StoresFile n m p at entry → PartDoes n m p
  inserts : (at : ℕ) (entry : List ℕ) → InsertsSlot n m p at entry → StoresFile n m p at entry → PartDoes n m p

-- a slot that is named otherwise is not the redo entry's
other_than_redo : (n : ℕ) (v : Volume) (name : List ℕ) (at : ℕ) → IsAdopted n v → name ≢ redo_name → name_of (get_or v.slots at []) ≡ name → at ≢ redo_place v.slots
other_than_redo n v name at is other named e =
    let redo = redo_place_is n v is in
    other (sym named ∙ ap (λ (k : ℕ). name_of (get_or v.slots k [])) e ∙ (redo_file_tells n (get_or v.slots (redo_place v.slots) []) redo.1).0)

store_does : (n : ℕ) (m : Midway) (name : List ℕ) (kind : ℕ) (implementation bytes : List ℕ) → IsWellFormedPart (part.Store name kind implementation bytes)
    → (at first : ℕ) → fit_beside_in n m.volume m.barred (file_length bytes) ≡ At at first → PartDoes n m (part.Store name kind implementation bytes)
store_does n m name kind implementation bytes formed at first chosen = elim place.candidate [
  | inl purged ↦
      let off : nat_eq at (redo_place v.slots) ≡ false = ne_eqb at (redo_place v.slots) (λ e. absurd (omega (arith, e, purged.0))) in
      fills at entry (record {
        within = purged.1;
        other = λ e. absurd (omega (arith, e, purged.0));
        size = size;
        slots = ap (λ (pl : Place). (stored v name kind implementation bytes pl).slots) chosen ∙ ap (λ (b : Bool). if b then insert v.slots at entry else set v.slots at entry) off;
        header = header;
        writes = λ t. ap (λ (pl : Place). part_writes p v pl t) chosen ∙ ap (λ (b : Bool). (at, entry) ∷ (if b then last_slot (capacity_of v.header) t (suc at) (get_or v.slots at []) else [])) off;
      }) stores
  | inr own ↦
      let on : nat_eq at (redo_place v.slots) ≡ true = eq-eqb at (redo_place v.slots) own.0 in
      let both = and_parts (suc (redo_place v.slots) == length v.slots) (nat_lt (length v.slots) (capacity_of v.header)) own.1 in
      inserts at entry (record {
        own = own.0;
        last = omega (arith, own.0, eqb-true (suc (redo_place v.slots)) (length v.slots) both.0);
        room = ltb-true (length v.slots) (capacity_of v.header) both.1;
        size = size;
        slots = ap (λ (pl : Place). (stored v name kind implementation bytes pl).slots) chosen ∙ ap (λ (b : Bool). if b then insert v.slots at entry else set v.slots at entry) on;
        header = header;
        writes = λ t. ap (λ (pl : Place). part_writes p v pl t) chosen ∙ ap (λ (b : Bool). (at, entry) ∷ (if b then last_slot (capacity_of v.header) t (suc at) (get_or v.slots at []) else [])) on;
      }) stores
]
  where
    v : Volume
    v = m.volume

    p : Part
    p = part.Store name kind implementation bytes

    entry : List ℕ
    entry = new_entry name kind first (file_length bytes) implementation

    tells : IsPlaceIn n m.volume (file_length bytes) at first × (list_any (nat_eq at) m.barred ≡ false)
    tells = fit_beside_tells n (directory_end m.volume.header) (capacity_of m.volume.header) m.volume.slots m.barred (file_length bytes) at first chosen

    place : IsPlaceIn n m.volume (file_length bytes) at first
    place = tells.0

    size : length entry ≡ 32
    size = new_size name kind first (file_length bytes) implementation formed.0 formed.3

    header : (after_part n p m).volume.header ≡ m.volume.header
    header = ap (λ (pl : Place). (stored m.volume name kind implementation bytes pl).header) chosen

    stores : StoresFile n m p at entry
    stores = record {
      first = first;
      bytes = bytes;
      live = not_from_false _ (ne_eqb (type_of entry) 0 (λ e. formed.1 (sym (new_type name kind first (file_length bytes) implementation formed.0) ∙ e)));
      starts = new_start name kind first (file_length bytes) implementation formed.0;
      longs = new_length name kind first (file_length bytes) implementation formed.0;
      place = place;
      free = tells.1;
      files = ap (λ (pl : Place). part_files p pl) chosen;
      barred = append-nil m.barred;
    }

-- a part that is not refused
pub part_does : (n : ℕ) (m : Midway) (p : Part) → IsAdopted n m.volume → IsWellFormedPart p → NoneMet (part_checks n m.volume (part_place n m p) p) → PartDoes n m p
part_does n m (part.Store name kind implementation bytes) is formed unmet =
    let found = store_has_place n m.volume name (fit_beside_in n m.volume m.barred (file_length bytes)) unmet in
    store_does n m name kind implementation bytes formed found.0 found.1 found.2
part_does n m (part.Rename old later) is formed unmet = go (bytes_eq old later) refl
  where
    v : Volume
    v = m.volume

    go : (b : Bool) → bytes_eq old later ≡ b → PartDoes n m (part.Rename old later)
    go true e = nothing (record {
      volume = ap (λ (b : Bool). if b then v else renamed v old later) e;
      barred = append-nil m.barred;
      writes = λ t. ap (λ (b : Bool). if b then [] else changed_slot old (with_name later) v.slots) e;
      files = refl;
    })
    go false e =
        let there : has_file v.slots old ≡ true = not-false (has_file v.slots old) unmet.1.1.0 in
        let found = changed_is_set n v.header v.slots old (with_name later) is.volume.legal there in
        let at : ℕ = place_named old v.slots in
        let slot : List ℕ = get_or v.slots at [] in
        let entry : List ℕ = with_name later slot in
        let tells = live_named_tells old slot found.1 in
        let other = not_redo_name n v old is.adopted (or_parts (is_protected n v old) (is_protected n v later) unmet.1.0).0 in
        renames at entry (record {
          within = found.0;
          other = other_than_redo n v old at is other tells.1;
          size = named_size later slot formed.1 (is.volume.entries at found.0);
          slots = ap (λ (b : Bool). (if b then v else renamed v old later).slots) e ∙ sym found.2;
          header = ap (λ (b : Bool). (if b then v else renamed v old later).header) e;
          writes = λ t. ap (λ (b : Bool). if b then [] else changed_slot old (with_name later) v.slots) e;
        }) (record { was = tells.0; starts = named_start later slot formed.1; longs = named_length later slot formed.1; files = refl })
        (ap (λ (k : ℕ). not (k == 0)) (named_type later slot formed.1) ∙ tells.0) (append-nil m.barred)
part_does n m (part.Purge name) is formed unmet =
    let v : Volume = m.volume in
    let there : has_file v.slots name ≡ true = not-false (has_file v.slots name) unmet.1.1.0 in
    let found = changed_is_set n v.header v.slots name (with_type 0) is.volume.legal there in
    let at : ℕ = place_named name v.slots in
    let slot : List ℕ = get_or v.slots at [] in
    let entry : List ℕ = with_type 0 slot in
    let tells = live_named_tells name slot found.1 in
    let size = is.volume.entries at found.0 in
    purges at entry (record {
      within = found.0;
      other = other_than_redo n v name at is (not_redo_name n v name is.adopted unmet.1.0) tells.1;
      size = typed_size 0 slot ∙ size;
      slots = sym found.2;
      header = refl;
      writes = λ t. refl;
    }) (record { was = tells.0; starts = typed_start 0 slot; longs = typed_length 0 slot; files = refl }) (purged_is_dead slot size) refl

-- ---- the redo entry's place after it

-- the slot of a redo file is at the redo entry's place
redo_moved : (n : ℕ) (v : Volume) (at : ℕ) → IsAdopted n v → at < length v.slots → is_redo_file n (get_or v.slots at []) ≡ true → redo_place v.slots ≡ at
redo_moved n v at is lt redo = sym (redo_is_alone n v at is lt (redo_file_is_named n (get_or v.slots at []) redo))

pub redo_after_set : (n : ℕ) (v later : Volume) (at : ℕ) (entry : List ℕ) → IsAdopted n v → IsAdopted n later → at ≢ redo_place v.slots
    → later.slots ≡ set v.slots at entry → redo_place later.slots ≡ redo_place v.slots
redo_after_set n v later at entry is is_later other same =
    let redo = redo_place_is n v is in
    let r : ℕ = redo_place v.slots in
    let slot : get_or later.slots r [] ≡ get_or v.slots r [] = ap (λ (xs : List (List ℕ)). get_or xs r []) same ∙ get_or-set_other v.slots at r entry [] (λ e. other (sym e)) in
    redo_moved n later r is_later (omega (arith, redo.0, ap (λ (xs : List (List ℕ)). length xs) same, length-set v.slots at entry)) (ap (is_redo_file n) slot ∙ redo.1)

pub redo_after_insert : (n : ℕ) (v later : Volume) (at : ℕ) (entry : List ℕ) → IsAdopted n v → IsAdopted n later → at ≡ redo_place v.slots
    → later.slots ≡ insert v.slots at entry → redo_place later.slots ≡ at + 1
redo_after_insert n v later at entry is is_later own same =
    let redo = redo_place_is n v is in
    let le : at ≤ length v.slots = omega (arith, redo.0, own) in
    let slot : get_or later.slots (at + 1) [] ≡ get_or v.slots (redo_place v.slots) [] =
    ap (λ (xs : List (List ℕ)). get_or xs (at + 1) []) same ∙ get_or-insert_above v.slots at entry [] at (omega arith) le ∙ ap (λ (k : ℕ). get_or v.slots k []) own in
    redo_moved n later (at + 1) is_later (omega (arith, redo.0, own, ap (λ (xs : List (List ℕ)). length xs) same, length-insert v.slots at entry le)) (ap (is_redo_file n) slot ∙ redo.1)

-- ---- slots that are barred

-- a slot that the batch has purged: no live file meets its records
pub record IsBarred (slots : List (List ℕ)) (b : ℕ) : Type 0 where
  pub within : b < length slots
  pub dead : is_live (get_or slots b []) ≡ false
  pub apart : (j : ℕ) → j < length slots → occupies (get_or slots j []) ≡ true → has_records (get_or slots b []) ≡ true
      → (end_of (get_or slots b []) ≤ start_of (get_or slots j [])) ⊎ (end_of (get_or slots j []) ≤ start_of (get_or slots b []))

-- what holds between two parts
pub record IsMidway (n : ℕ) (volume : Volume) (barred : List ℕ) : Type 0 where
  pub adopted : IsAdopted n volume
  pub bars : (b : ℕ) → list_any (nat_eq b) barred ≡ true → IsBarred volume.slots b

pub midway_first : (n : ℕ) (v : Volume) → IsAdopted n v → IsMidway n v []
midway_first n v is = record { adopted = is; bars = λ b no. cc }

-- a slot of the same extent occupies records where it is live
same_extent : (a b : List ℕ) → start_of a ≡ start_of b → length_of a ≡ length_of b → end_of a ≡ end_of b
same_extent a b starts longs = λ i. starts i + longs i

same_records : (a b : List ℕ) → length_of a ≡ length_of b → has_records a ≡ has_records b
same_records a b longs = ap (λ (k : ℕ). nat_lt 0 k) longs

-- a barred slot stays so where another one becomes that of a file
stored_bars : (n : ℕ) (v : Volume) (later : List (List ℕ)) (at first count : ℕ) (entry : List ℕ) (old : ℕ → ℕ) → HasNew v.slots later at entry old
    → start_of entry ≡ first → length_of entry ≡ count → IsPlaceIn n v count at first
    → (b : ℕ) → IsBarred v.slots b → b ≢ at → b < length later → get_or later b [] ≡ get_or v.slots b [] → IsBarred later b
stored_bars n v later at first count entry old has starts longs place b is off within same = record {
  within = within;
  dead = ap is_live same ∙ is.dead;
  apart = λ j lt on records. elim (cases_eq j at) [
    | inl e ↦
        let slot : get_or later j [] ≡ entry = ap (λ (k : ℕ). get_or later k []) e ∙ has.here in
        elim (place_is_free n (directory_end v.header) (capacity_of v.header) v.slots count at first b place is.within (λ here. absurd (off here)) (sym (ap has_records same) ∙ records)) [
          | inl le ↦ inl (omega (arith, le, ap end_of same, ap start_of slot, starts))
          | inr le ↦ inr (omega (arith, le, ap start_of same, ap end_of slot, starts, longs))
        ]
    | inr ne ↦
        let found = has.others j lt ne in
        elim (is.apart (old j) found.0 (sym (ap occupies found.1) ∙ on) (sym (ap has_records same) ∙ records)) [
          | inl le ↦ inl (omega (arith, le, ap end_of same, ap start_of found.1))
          | inr le ↦ inr (omega (arith, le, ap start_of same, ap end_of found.1))
        ]
  ];
}

-- and where a live one is changed that keeps its extent
changed_bars : (slots : List (List ℕ)) (at : ℕ) (entry : List ℕ) → at < length slots → is_live (get_or slots at []) ≡ true
    → start_of entry ≡ start_of (get_or slots at []) → length_of entry ≡ length_of (get_or slots at [])
    → (b : ℕ) → IsBarred slots b → IsBarred (set slots at entry) b
changed_bars slots at entry lt was starts longs b is = record {
  within = omega (arith, is.within, length-set slots at entry);
  dead = ap is_live same ∙ is.dead;
  apart = λ j long on records.
      let less : j < length slots = omega (arith, long, length-set slots at entry) in
      let kept = extent j less on in
      elim (is.apart j less kept.0 (sym (ap has_records same) ∙ records)) [
        | inl le ↦ inl (omega (arith, le, ap end_of same, kept.1))
        | inr le ↦ inr (omega (arith, le, ap start_of same, kept.2))
      ];
}
  where
    off : b ≢ at
    off e = let no : true ≡ false = sym was ∙ sym (ap (λ (k : ℕ). is_live (get_or slots k [])) e) ∙ is.dead in cc

    same : get_or (set slots at entry) b [] ≡ get_or slots b []
    same = get_or-set_other slots at b entry [] off

    extent : (j : ℕ) → j < length slots → occupies (get_or (set slots at entry) j []) ≡ true
        → (occupies (get_or slots j []) ≡ true) × (start_of (get_or (set slots at entry) j []) ≡ start_of (get_or slots j [])) × (end_of (get_or (set slots at entry) j []) ≡ end_of (get_or slots j []))
    extent j less on = elim (cases_eq j at) [
      | inl e ↦
          let now : get_or (set slots at entry) j [] ≡ entry = ap (λ (k : ℕ). get_or (set slots at entry) k []) e ∙ get_or-set_same slots at entry [] lt in
          let before : get_or slots j [] ≡ get_or slots at [] = ap (λ (k : ℕ). get_or slots k []) e in
          let records : has_records entry ≡ true = sym (ap has_records now) ∙ (occupies_tells (get_or (set slots at entry) j []) on).1 in (
            and_from _ _ (ap is_live before ∙ was) (ap has_records before ∙ sym (same_records entry (get_or slots at []) longs) ∙ records),
            ap start_of now ∙ starts ∙ sym (ap start_of before),
            ap end_of now ∙ same_extent entry (get_or slots at []) starts longs ∙ sym (ap end_of before),
          )
      | inr ne ↦ let kept = get_or-set_other slots at j entry [] ne in (sym (ap occupies kept) ∙ on, ap start_of kept, ap end_of kept)
    ]

-- the slot that is purged is a barred one then
purged_bars : (n : ℕ) (v : Volume) (at : ℕ) (entry : List ℕ) → IsAdopted n v → at < length v.slots → is_live (get_or v.slots at []) ≡ true
    → start_of entry ≡ start_of (get_or v.slots at []) → length_of entry ≡ length_of (get_or v.slots at []) → is_live entry ≡ false
    → IsBarred (set v.slots at entry) at
purged_bars n v at entry is lt was starts longs dead = record {
  within = omega (arith, lt, length-set v.slots at entry);
  dead = ap is_live now ∙ dead;
  apart = λ j long on records.
      let less : j < length v.slots = omega (arith, long, length-set v.slots at entry) in
      let ne : j ≢ at = λ e.
      let no : true ≡ false = sym (occupies_tells (get_or (set v.slots at entry) j []) on).0 ∙ ap (λ (k : ℕ). is_live (get_or (set v.slots at entry) k [])) e ∙ ap is_live now ∙ dead in cc in
      let kept = get_or-set_other v.slots at j entry [] ne in
      let here : occupies (get_or v.slots at []) ≡ true = and_from _ _ was (sym (same_records entry (get_or v.slots at []) longs) ∙ sym (ap has_records now) ∙ records) in
      let there : occupies (get_or v.slots j []) ≡ true = sym (ap occupies kept) ∙ on in
      let extent = same_extent entry (get_or v.slots at []) starts longs in
      elim (cases_order j at) [
        | inl e ↦ absurd (ne e)
        | inr (inl before) ↦ elim (is.volume.legal.apart j at before lt there here) [
          | inl le ↦ inr (omega (arith, le, ap end_of kept, ap start_of now, starts))
          | inr le ↦ inl (omega (arith, le, ap start_of kept, ap end_of now, extent))
        ]
        | inr (inr behind) ↦ elim (is.volume.legal.apart at j behind less here there) [
          | inl le ↦ inl (omega (arith, le, ap start_of kept, ap end_of now, extent))
          | inr le ↦ inr (omega (arith, le, ap end_of kept, ap start_of now, starts))
        ]
      ];
}
  where
    now : get_or (set v.slots at entry) at [] ≡ entry
    now = get_or-set_same v.slots at entry [] lt

-- what holds between two parts holds after the next one
pub midway_next : (n : ℕ) (m : Midway) (p : Part) → IsMidway n m.volume m.barred → IsWellFormedPart p → NoneMet (part_checks n m.volume (part_place n m p) p)
    → IsMidway n (after_part n p m).volume (after_part n p m).barred
midway_next n m p is formed unmet = record {
  adopted = part_is_adopted n m p is.adopted formed unmet;
  bars = go (part_does n m p is.adopted formed unmet);
}
  where
    v : Volume
    v = m.volume

    go : PartDoes n m p → (b : ℕ) → list_any (nat_eq b) (after_part n p m).barred ≡ true → IsBarred (after_part n p m).volume.slots b
    go (nothing does) b on = subst (λ (w : Volume). IsBarred w.slots b) (sym does.volume) (is.bars b (sym (ap (list_any (nat_eq b)) does.barred) ∙ on))
    go (renames at entry sets file live same) b on = subst (λ (xs : List (List ℕ)). IsBarred xs b) (sym sets.slots)
        (changed_bars v.slots at entry sets.within file.was file.starts file.longs b (is.bars b (sym (ap (list_any (nat_eq b)) same) ∙ on)))
    go (purges at entry sets file dead same) b on = subst (λ (xs : List (List ℕ)). IsBarred xs b) (sym sets.slots)
        (elim (or_cases (list_any (nat_eq b) m.barred) (nat_eq b at || false) (sym (list_any-append (nat_eq b) m.barred (at ∷ [])) ∙ sym (ap (list_any (nat_eq b)) same) ∙ on)) [
          | inl before ↦ changed_bars v.slots at entry sets.within file.was file.starts file.longs b (is.bars b before)
          | inr last ↦ elim (or_cases (nat_eq b at) false last) [
            | inl here ↦ subst (IsBarred (set v.slots at entry)) (sym (eqb-true b at here)) (purged_bars n v at entry is.adopted sets.within file.was file.starts file.longs dead)
            | inr off ↦ let both : false ≡ true = off in cc
          ]
        ])
    go (fills at entry sets file) b on =
        let before : list_any (nat_eq b) m.barred ≡ true = sym (ap (list_any (nat_eq b)) file.barred) ∙ on in
        let off : b ≢ at = λ e. let no : true ≡ false = sym before ∙ ap (λ (k : ℕ). list_any (nat_eq k) m.barred) e ∙ file.free in cc in
        let old = is.bars b before in
        subst (λ (xs : List (List ℕ)). IsBarred xs b) (sym sets.slots)
        (stored_bars n v (set v.slots at entry) at file.first (file_length file.bytes) entry (λ k. k) (set_new v.slots at entry sets.within) file.starts file.longs file.place b old off
        (omega (arith, old.within, length-set v.slots at entry)) (get_or-set_other v.slots at b entry [] off))
    go (inserts at entry puts file) b on =
        let before : list_any (nat_eq b) m.barred ≡ true = sym (ap (list_any (nat_eq b)) file.barred) ∙ on in
        let off : b ≢ at = λ e. let no : true ≡ false = sym before ∙ ap (λ (k : ℕ). list_any (nat_eq k) m.barred) e ∙ file.free in cc in
        let old = is.bars b before in
        let le : at ≤ length v.slots = omega (arith, puts.last) in
        let under : b < at = omega (arith, old.within, puts.last, off) in
        subst (λ (xs : List (List ℕ)). IsBarred xs b) (sym puts.slots)
        (stored_bars n v (insert v.slots at entry) at file.first (file_length file.bytes) entry (before_insert at) (insert_new v.slots at entry le) file.starts file.longs file.place b old off
        (omega (arith, old.within, length-insert v.slots at entry le)) (get_or-insert_below v.slots at entry [] b under le))

-- ---- what stays

-- the directory stays where it is
pub header_next : (n : ℕ) (m : Midway) (p : Part) → PartDoes n m p → (after_part n p m).volume.header ≡ m.volume.header
header_next n m p (nothing does) = ap (λ (v : Volume). v.header) does.volume
header_next n m p (renames at entry sets file live same) = sets.header
header_next n m p (purges at entry sets file dead same) = sets.header
header_next n m p (fills at entry sets file) = sets.header
header_next n m p (inserts at entry puts file) = puts.header

-- and so does the redo file
pub version_next : (n : ℕ) (m : Midway) (p : Part) (version : Version) → IsAdopted n m.volume → PartDoes n m p → is_adopted_with n version m.volume.slots ≡ true
    → is_adopted_with n version (after_part n p m).volume.slots ≡ true
version_next n m p version is does with = go does
  where
    slots : List (List ℕ)
    slots = m.volume.slots

    found : (k : ℕ) × (k < length slots) × (is_redo_entry n version (get_or slots k []) ≡ true)
    found = any_at [] (is_redo_entry n version) slots with

    place : found.0 ≡ redo_place slots
    place = redo_is_alone n m.volume found.0 is found.1 (redo_file_is_named n (get_or slots found.0 []) (redo_entry_tells n version (get_or slots found.0 []) found.2).0)

    stays_set : (at : ℕ) (entry : List ℕ) → at ≢ redo_place slots → is_adopted_with n version (set slots at entry) ≡ true
    stays_set at entry other = any_from [] (is_redo_entry n version) (set slots at entry) found.0 (omega (arith, found.1, length-set slots at entry))
        (ap (is_redo_entry n version) (get_or-set_other slots at found.0 entry [] (λ e. other (sym e ∙ place))) ∙ found.2)

    go : PartDoes n m p → is_adopted_with n version (after_part n p m).volume.slots ≡ true
    go (nothing does) = ap (λ (v : Volume). is_adopted_with n version v.slots) does.volume ∙ with
    go (renames at entry sets file live same) = ap (is_adopted_with n version) sets.slots ∙ stays_set at entry sets.other
    go (purges at entry sets file dead same) = ap (is_adopted_with n version) sets.slots ∙ stays_set at entry sets.other
    go (fills at entry sets file) = ap (is_adopted_with n version) sets.slots ∙ stays_set at entry sets.other
    go (inserts at entry puts file) =
        let le : at ≤ length slots = omega (arith, puts.last) in
        ap (is_adopted_with n version) puts.slots
        ∙ any_from [] (is_redo_entry n version) (insert slots at entry) (at + 1) (omega (arith, puts.last, length-insert slots at entry le))
        (ap (is_redo_entry n version) (get_or-insert_above slots at entry [] at (omega arith) le ∙ ap (λ (k : ℕ). get_or slots k []) (puts.own ∙ sym place)) ∙ found.2)

-- A slot that keeps its place and its records until the end of the batch: a live one other than the redo entry, or a barred one.
pub record IsKept (slots : List (List ℕ)) (barred : List ℕ) (j start count : ℕ) : Type 0 where
  pub within : j < length slots
  pub other : j ≢ redo_place slots
  pub starts : start_of (get_or slots j []) ≡ start
  pub longs : length_of (get_or slots j []) ≡ count
  pub there : (is_live (get_or slots j []) ≡ true) ⊎ (list_any (nat_eq j) barred ≡ true)

abbrev pub IsKeptIn : Midway → ℕ → ℕ → ℕ → Type 0
IsKeptIn m j start count = IsKept m.volume.slots m.barred j start count

-- the same, where a slot stays as it is
kept_as_is : (slots later : List (List ℕ)) (barred more : List ℕ) (j start count : ℕ) → IsKept slots barred j start count → j < length later → j ≢ redo_place later
    → get_or later j [] ≡ get_or slots j [] → (list_any (nat_eq j) barred ≡ true → list_any (nat_eq j) more ≡ true) → IsKept later more j start count
kept_as_is slots later barred more j start count is within other same bars = record {
  within = within;
  other = other;
  starts = ap start_of same ∙ is.starts;
  longs = ap length_of same ∙ is.longs;
  there = elim is.there [ inl live ↦ inl (ap is_live same ∙ live) | inr on ↦ inr (bars on) ];
}

-- a slot that is set, and one that is not
kept_set : (slots later : List (List ℕ)) (barred more : List ℕ) (at : ℕ) (entry : List ℕ) (j start count : ℕ) → IsKept slots barred j start count → at < length slots
    → later ≡ set slots at entry → redo_place later ≡ redo_place slots → (list_any (nat_eq j) barred ≡ true → list_any (nat_eq j) more ≡ true)
    → (j ≡ at → (start_of entry ≡ start_of (get_or slots at [])) × (length_of entry ≡ length_of (get_or slots at []))
    × ((is_live entry ≡ true) ⊎ (list_any (nat_eq j) more ≡ true)))
    → IsKept later more j start count
kept_set slots later barred more at entry j start count is lt same redo bars here =
    let within : j < length later = omega (arith, is.within, ap (λ (xs : List (List ℕ)). length xs) same, length-set slots at entry) in
    let other : j ≢ redo_place later = λ e. is.other (e ∙ redo) in
    elim (cases_eq j at) [
      | inl e ↦
          let now : get_or later j [] ≡ entry = ap (λ (xs : List (List ℕ)). get_or xs j []) same ∙ ap (λ (k : ℕ). get_or (set slots at entry) k []) e ∙ get_or-set_same slots at entry [] lt in
          let before : get_or slots j [] ≡ get_or slots at [] = ap (λ (k : ℕ). get_or slots k []) e in
          let extent = here e in
          record {
            within = within;
            other = other;
            starts = ap start_of now ∙ extent.0 ∙ sym (ap start_of before) ∙ is.starts;
            longs = ap length_of now ∙ extent.1 ∙ sym (ap length_of before) ∙ is.longs;
            there = elim extent.2 [ inl live ↦ inl (ap is_live now ∙ live) | inr on ↦ inr on ];
          }
      | inr ne ↦ kept_as_is slots later barred more j start count is within other (ap (λ (xs : List (List ℕ)). get_or xs j []) same ∙ get_or-set_other slots at j entry [] ne) bars
    ]

-- a slot that is kept is none that a file may take
kept_is_taken : (slots : List (List ℕ)) (barred : List ℕ) (j start count at : ℕ) → IsKept slots barred j start count → j ≡ at → is_live (get_or slots at []) ≡ false
    → list_any (nat_eq at) barred ≡ false → ⊥
kept_is_taken slots barred j start count at is e dead free = elim is.there [
  | inl live ↦ let no : true ≡ false = sym live ∙ ap (λ (k : ℕ). is_live (get_or slots k [])) e ∙ dead in cc
  | inr on ↦ let no : true ≡ false = sym on ∙ ap (λ (k : ℕ). list_any (nat_eq k) barred) e ∙ free in cc
]

-- a slot that a file fills has been purged
pub filled_is_dead : (n : ℕ) (m : Midway) (p : Part) (at : ℕ) (entry : List ℕ) → SetsSlot n m p at entry → StoresFile n m p at entry → is_live (get_or m.volume.slots at []) ≡ false
filled_is_dead n m p at entry sets file = elim file.place.candidate [
  | inl purged ↦ not_from_true _ purged.2
  | inr own ↦ absurd (sets.other own.0)
]

pub kept_next : (n : ℕ) (m : Midway) (p : Part) → IsAdopted n m.volume → IsAdopted n (after_part n p m).volume → PartDoes n m p
    → (j start count : ℕ) → IsKeptIn m j start count → IsKeptIn (after_part n p m) j start count
kept_next n m p is is_later does j start count kept = go does
  where
    later : Midway
    later = after_part n p m

    slots : List (List ℕ)
    slots = m.volume.slots

    redo_stays : (at : ℕ) (entry : List ℕ) → SetsSlot n m p at entry → redo_place later.volume.slots ≡ redo_place slots
    redo_stays at entry sets = redo_after_set n m.volume later.volume at entry is is_later sets.other sets.slots

    go : PartDoes n m p → IsKeptIn later j start count
    go (nothing does) = kept_as_is slots later.volume.slots m.barred later.barred j start count kept
        (omega (arith, kept.within, ap (λ (v : Volume). length v.slots) does.volume)) (λ e. kept.other (e ∙ ap (λ (v : Volume). redo_place v.slots) does.volume))
        (ap (λ (v : Volume). get_or v.slots j []) does.volume) (λ on. ap (list_any (nat_eq j)) does.barred ∙ on)
    go (renames at entry sets file live same) = kept_set slots later.volume.slots m.barred later.barred at entry j start count kept sets.within sets.slots (redo_stays at entry sets)
        (λ on. ap (list_any (nat_eq j)) same ∙ on) (λ e. (file.starts, file.longs, inl live))
    go (purges at entry sets file dead same) = kept_set slots later.volume.slots m.barred later.barred at entry j start count kept sets.within sets.slots (redo_stays at entry sets)
        (λ on. ap (list_any (nat_eq j)) same ∙ list_any-append (nat_eq j) m.barred (at ∷ []) ∙ or_left (list_any (nat_eq j) m.barred) (nat_eq j at || false) on)
        (λ e. (
          file.starts,
          file.longs,
          inr (ap (list_any (nat_eq j)) same ∙ list_any-append (nat_eq j) m.barred (at ∷ [])
              ∙ or_right (list_any (nat_eq j) m.barred) (nat_eq j at || false) (or_left (nat_eq j at) false (eq-eqb j at e))),
        ))
    go (fills at entry sets file) = kept_set slots later.volume.slots m.barred later.barred at entry j start count kept sets.within sets.slots (redo_stays at entry sets)
        (λ on. ap (list_any (nat_eq j)) file.barred ∙ on)
        (λ e. absurd (kept_is_taken slots m.barred j start count at kept e (filled_is_dead n m p at entry sets file) file.free))
    go (inserts at entry puts file) =
        let le : at ≤ length slots = omega (arith, puts.last) in
        let under : j < at = omega (arith, kept.within, kept.other, puts.own, puts.last) in
        kept_as_is slots later.volume.slots m.barred later.barred j start count kept
        (omega (arith, kept.within, ap (λ (xs : List (List ℕ)). length xs) puts.slots, length-insert slots at entry le))
        (λ e. absurd (omega (arith, e, under, redo_after_insert n m.volume later.volume at entry is is_later puts.own puts.slots)))
        (ap (λ (xs : List (List ℕ)). get_or xs j []) puts.slots ∙ get_or-insert_below slots at entry [] j under le) (λ on. ap (list_any (nat_eq j)) file.barred ∙ on)

-- the slot of a new file is kept from then on
stored_kept : (n : ℕ) (m : Midway) (p : Part) (at : ℕ) (entry : List ℕ) (file : StoresFile n m p at entry) (later : List (List ℕ)) → (after_part n p m).volume.slots ≡ later
    → at < length later → at ≢ redo_place (after_part n p m).volume.slots → get_or later at [] ≡ entry
    → IsKeptIn (after_part n p m) at file.first (file_length file.bytes)
stored_kept n m p at entry file later same within other here =
    let slot : get_or (after_part n p m).volume.slots at [] ≡ entry = ap (λ (xs : List (List ℕ)). get_or xs at []) same ∙ here in
    record {
      within = omega (arith, within, ap (λ (xs : List (List ℕ)). length xs) same);
      other = other;
      starts = ap start_of slot ∙ file.starts;
      longs = ap length_of slot ∙ file.longs;
      there = inl (ap is_live slot ∙ file.live);
    }

of_files : (P : NewFile → Type 0) (fs : List NewFile) (at first : ℕ) (bytes : List ℕ) → fs ≡ record { slot = at; start = first; bytes = bytes } ∷ [] → P (record { slot = at; start = first; bytes = bytes }) → All P fs
of_files P fs at first bytes same here = subst (All P) (sym same) (All-cons P (record { slot = at; start = first; bytes = bytes }) [] here (All-nil P))

no_file : (P : NewFile → Type 0) (fs : List NewFile) → fs ≡ [] → All P fs
no_file P fs same = subst (All P) (sym same) (All-nil P)

pub file_kept : (n : ℕ) (m : Midway) (p : Part) → IsAdopted n m.volume → IsAdopted n (after_part n p m).volume → PartDoes n m p
    → All (λ f. IsKeptIn (after_part n p m) f.slot f.start (file_length f.bytes)) (part_files p (part_place n m p))
file_kept n m p is is_later does = go does
  where
    P : NewFile → Type 0
    P f = IsKeptIn (after_part n p m) f.slot f.start (file_length f.bytes)

    slots : List (List ℕ)
    slots = m.volume.slots

    go : PartDoes n m p → All P (part_files p (part_place n m p))
    go (nothing does) = no_file P (part_files p (part_place n m p)) does.files
    go (renames at entry sets file live same) = no_file P (part_files p (part_place n m p)) file.files
    go (purges at entry sets file dead same) = no_file P (part_files p (part_place n m p)) file.files
    go (fills at entry sets file) = of_files P (part_files p (part_place n m p)) at file.first file.bytes file.files
        (stored_kept n m p at entry file (set slots at entry) sets.slots (omega (arith, sets.within, length-set slots at entry))
        (λ e. sets.other (e ∙ redo_after_set n m.volume (after_part n p m).volume at entry is is_later sets.other sets.slots)) (get_or-set_same slots at entry [] sets.within))
    go (inserts at entry puts file) =
        let le : at ≤ length slots = omega (arith, puts.last) in
        of_files P (part_files p (part_place n m p)) at file.first file.bytes file.files
        (stored_kept n m p at entry file (insert slots at entry) puts.slots (omega (arith, puts.last, length-insert slots at entry le))
        (λ e. absurd (omega (arith, e, redo_after_insert n m.volume (after_part n p m).volume at entry is is_later puts.own puts.slots))) (get_or-insert_at slots at entry [] le))

-- and its records are none of a slot that is kept
pub file_apart : (n : ℕ) (m : Midway) (p : Part) → PartDoes n m p → (j start count : ℕ) → IsKeptIn m j start count → 0 < count
    → All (λ f. (start + count ≤ f.start) ⊎ (f.start + file_length f.bytes ≤ start)) (part_files p (part_place n m p))
file_apart n m p does j start count kept some = go does
  where
    P : NewFile → Type 0
    P f = (start + count ≤ f.start) ⊎ (f.start + file_length f.bytes ≤ start)

    slot : List ℕ
    slot = get_or m.volume.slots j []

    apart : (at : ℕ) (entry : List ℕ) (file : StoresFile n m p at entry) → (j ≡ at → at ≡ redo_place m.volume.slots) → (start + count ≤ file.first) ⊎ (file.first + file_length file.bytes ≤ start)
    apart at entry file own = elim (place_is_free n (directory_end m.volume.header) (capacity_of m.volume.header) m.volume.slots (file_length file.bytes) at file.first j file.place kept.within own
        (lt-ltb 0 (length_of slot) (omega (arith, some, kept.longs)))) [
          | inl le ↦ inl (omega (arith, le, kept.starts, kept.longs))
          | inr le ↦ inr (omega (arith, le, kept.starts))
        ]

    go : PartDoes n m p → All P (part_files p (part_place n m p))
    go (nothing does) = no_file P (part_files p (part_place n m p)) does.files
    go (renames at entry sets file live same) = no_file P (part_files p (part_place n m p)) file.files
    go (purges at entry sets file dead same) = no_file P (part_files p (part_place n m p)) file.files
    go (fills at entry sets file) = of_files P (part_files p (part_place n m p)) at file.first file.bytes file.files
        (apart at entry file (λ e. absurd (kept_is_taken m.volume.slots m.barred j start count at kept e (filled_is_dead n m p at entry sets file) file.free)))
    go (inserts at entry puts file) = of_files P (part_files p (part_place n m p)) at file.first file.bytes file.files (apart at entry file (λ e. puts.own))

-- a new file lies between the directory and the redo file
pub file_within : (n : ℕ) (m : Midway) (p : Part) (version : Version) → IsAdopted n m.volume → PartDoes n m p → is_adopted_with n version m.volume.slots ≡ true
    → All (λ f. (directory_end m.volume.header ≤ f.start) × (f.start + file_length f.bytes ≤ redo_start version n)) (part_files p (part_place n m p))
file_within n m p version is does with = go does
  where
    P : NewFile → Type 0
    P f = (directory_end m.volume.header ≤ f.start) × (f.start + file_length f.bytes ≤ redo_start version n)

    within : (at : ℕ) (entry : List ℕ) (file : StoresFile n m p at entry) → (directory_end m.volume.header ≤ file.first) × (file.first + file_length file.bytes ≤ redo_start version n)
    within at entry file = (file.place.low, place_below_redo n m.volume version (file_length file.bytes) at file.first is.volume with file.place)

    go : PartDoes n m p → All P (part_files p (part_place n m p))
    go (nothing does) = no_file P (part_files p (part_place n m p)) does.files
    go (renames at entry sets file live same) = no_file P (part_files p (part_place n m p)) file.files
    go (purges at entry sets file dead same) = no_file P (part_files p (part_place n m p)) file.files
    go (fills at entry sets file) = of_files P (part_files p (part_place n m p)) at file.first file.bytes file.files (within at entry file)
    go (inserts at entry puts file) = of_files P (part_files p (part_place n m p)) at file.first file.bytes file.files (within at entry file)

-- ---- parts and more parts

pub after_more : (n : ℕ) (parts more : List Part) (m : Midway) → after_parts n (parts ++ more) m ≡ after_parts n more (after_parts n parts m)
after_more n [] more m = refl
after_more n (p ∷ parts) more m = after_more n parts more (after_part n p m)

pub checks_more : (n : ℕ) (parts more : List Part) (m : Midway) → parts_checks n (parts ++ more) m ≡ parts_checks n parts m ++ parts_checks n more (after_parts n parts m)
checks_more n [] more m = refl
checks_more n (p ∷ parts) more m =
    let first : List (Bool × Refusal) = part_checks n m.volume (part_place n m p) p in
    ap (λ (checks : List (Bool × Refusal)). first ++ checks) (checks_more n parts more (after_part n p m))
    ∙ sym (append_assoc first (parts_checks n parts (after_part n p m)) (parts_checks n more (after_parts n parts (after_part n p m))))

pub writes_more : (n : ℕ) (parts more : List Part) (m : Midway) (u : Tape) → parts_writes n (parts ++ more) m u ≡ parts_writes n parts m u ++ parts_writes n more (after_parts n parts m) u
writes_more n [] more m u = refl
writes_more n (p ∷ parts) more m u =
    let first : SlotWrites = part_writes p m.volume (part_place n m p) u in
    ap (λ (ws : SlotWrites). first ++ ws) (writes_more n parts more (after_part n p m) u)
    ∙ sym (append_assoc first (parts_writes n parts (after_part n p m) u) (parts_writes n more (after_parts n parts (after_part n p m)) u))

pub files_of_more : (n : ℕ) (parts more : List Part) (m : Midway) → parts_files n (parts ++ more) m ≡ parts_files n parts m ++ parts_files n more (after_parts n parts m)
files_of_more n [] more m = refl
files_of_more n (p ∷ parts) more m =
    let first : List NewFile = part_files p (part_place n m p) in
    ap (λ (fs : List NewFile). first ++ fs) (files_of_more n parts more (after_part n p m))
    ∙ sym (append_assoc first (parts_files n parts (after_part n p m)) (parts_files n more (after_parts n parts (after_part n p m))))

-- ---- all parts

-- parts of which none is refused
pub record AreUnrefused (n : ℕ) (parts : List Part) (m : Midway) : Type 0 where
  pub midway : IsMidway n m.volume m.barred
  pub formed : All IsWellFormedPart parts
  pub unmet : NoneMet (parts_checks n parts m)

module _ (n : ℕ) (p : Part) (parts : List Part) (m : Midway) (are : AreUnrefused n (p ∷ parts) m) where
  first_formed : IsWellFormedPart p
  first_formed = All-head IsWellFormedPart p parts are.formed

  both_unmet : NoneMet (part_checks n m.volume (part_place n m p) p) × NoneMet (parts_checks n parts (after_part n p m))
  both_unmet = unmet_parts (part_checks n m.volume (part_place n m p) p) (parts_checks n parts (after_part n p m)) are.unmet

  pub first_is_formed : IsWellFormedPart p
  first_is_formed = first_formed

  pub first_unmet : NoneMet (part_checks n m.volume (part_place n m p) p)
  first_unmet = both_unmet.0

  pub first_does : PartDoes n m p
  first_does = part_does n m p are.midway.adopted first_formed both_unmet.0

  pub rest_unrefused : AreUnrefused n parts (after_part n p m)
  rest_unrefused = record {
    midway = midway_next n m p are.midway first_formed both_unmet.0;
    formed = All-tail IsWellFormedPart p parts are.formed;
    unmet = both_unmet.1;
  }

pub midway_after : (n : ℕ) (parts : List Part) (m : Midway) → AreUnrefused n parts m → IsMidway n (after_parts n parts m).volume (after_parts n parts m).barred
midway_after n [] m are = are.midway
midway_after n (p ∷ parts) m are = midway_after n parts (after_part n p m) (rest_unrefused n p parts m are)

pub header_after : (n : ℕ) (parts : List Part) (m : Midway) → AreUnrefused n parts m → (after_parts n parts m).volume.header ≡ m.volume.header
header_after n [] m are = refl
header_after n (p ∷ parts) m are = header_after n parts (after_part n p m) (rest_unrefused n p parts m are) ∙ header_next n m p (first_does n p parts m are)

-- the redo file of a version is there after all parts
pub version_after : (n : ℕ) (parts : List Part) (m : Midway) (version : Version) → AreUnrefused n parts m → is_adopted_with n version m.volume.slots ≡ true
    → is_adopted_with n version (after_parts n parts m).volume.slots ≡ true
version_after n [] m version are with = with
version_after n (p ∷ parts) m version are with = version_after n parts (after_part n p m) version (rest_unrefused n p parts m are)
    (version_next n m p version are.midway.adopted (first_does n p parts m are) with)

pub kept_after : (n : ℕ) (parts : List Part) (m : Midway) → AreUnrefused n parts m → (j start count : ℕ) → IsKeptIn m j start count → IsKeptIn (after_parts n parts m) j start count
kept_after n [] m are j start count kept = kept
kept_after n (p ∷ parts) m are j start count kept =
    let rest = rest_unrefused n p parts m are in
    kept_after n parts (after_part n p m) rest j start count (kept_next n m p are.midway.adopted rest.midway.adopted (first_does n p parts m are) j start count kept)

-- a fact of each file from another one
pub each_file : (P Q : NewFile → Type 0) (fs : List NewFile) → ((f : NewFile) → P f → Q f) → All P fs → All Q fs
each_file P Q fs then_too all = λ k d lt. then_too (get_or fs k d) (all k d lt)

-- the slot of each new file is kept
pub files_kept : (n : ℕ) (parts : List Part) (m : Midway) → AreUnrefused n parts m
    → All (λ f. IsKeptIn (after_parts n parts m) f.slot f.start (file_length f.bytes)) (parts_files n parts m)
files_kept n [] m are = All-nil (λ f. IsKeptIn m f.slot f.start (file_length f.bytes))
files_kept n (p ∷ parts) m are =
    let rest = rest_unrefused n p parts m are in
    let P : NewFile → Type 0 = λ f. IsKeptIn (after_parts n (p ∷ parts) m) f.slot f.start (file_length f.bytes) in
    let here : NewFile → Type 0 = λ f. IsKeptIn (after_part n p m) f.slot f.start (file_length f.bytes) in
    All-append P (part_files p (part_place n m p)) (parts_files n parts (after_part n p m))
    (each_file here P (part_files p (part_place n m p)) (λ f kept. kept_after n parts (after_part n p m) rest f.slot f.start (file_length f.bytes) kept)
    (file_kept n m p are.midway.adopted rest.midway.adopted (first_does n p parts m are)))
    (files_kept n parts (after_part n p m) rest)

-- No new file meets the records of a slot that is kept.
pub files_apart : (n : ℕ) (parts : List Part) (m : Midway) → AreUnrefused n parts m → (j start count : ℕ) → IsKeptIn m j start count → 0 < count
    → All (λ f. (start + count ≤ f.start) ⊎ (f.start + file_length f.bytes ≤ start)) (parts_files n parts m)
files_apart n [] m are j start count kept some = All-nil (λ f. (start + count ≤ f.start) ⊎ (f.start + file_length f.bytes ≤ start))
files_apart n (p ∷ parts) m are j start count kept some =
    let rest = rest_unrefused n p parts m are in
    let does = first_does n p parts m are in
    All-append (λ f. (start + count ≤ f.start) ⊎ (f.start + file_length f.bytes ≤ start)) (part_files p (part_place n m p)) (parts_files n parts (after_part n p m))
    (file_apart n m p does j start count kept some)
    (files_apart n parts (after_part n p m) rest j start count (kept_next n m p are.midway.adopted rest.midway.adopted does j start count kept) some)

-- Each lies between the directory and the redo file.
pub files_within : (n : ℕ) (parts : List Part) (m : Midway) (version : Version) → AreUnrefused n parts m → is_adopted_with n version m.volume.slots ≡ true
    → All (λ f. (directory_end m.volume.header ≤ f.start) × (f.start + file_length f.bytes ≤ redo_start version n)) (parts_files n parts m)
files_within n [] m version are with = All-nil (λ f. (directory_end m.volume.header ≤ f.start) × (f.start + file_length f.bytes ≤ redo_start version n))
files_within n (p ∷ parts) m version are with =
    let rest = rest_unrefused n p parts m are in
    let does = first_does n p parts m are in
    let P : NewFile → Type 0 = λ f. (directory_end m.volume.header ≤ f.start) × (f.start + file_length f.bytes ≤ redo_start version n) in
    let same : directory_end (after_part n p m).volume.header ≡ directory_end m.volume.header = ap directory_end (header_next n m p does) in
    All-append P (part_files p (part_place n m p)) (parts_files n parts (after_part n p m))
    (file_within n m p version are.midway.adopted does with)
    (each_file (λ f. (directory_end (after_part n p m).volume.header ≤ f.start) × (f.start + file_length f.bytes ≤ redo_start version n)) P (parts_files n parts (after_part n p m))
    (λ f both. (omega (arith, both.0, same), both.1))
    (files_within n parts (after_part n p m) version rest (version_next n m p version are.midway.adopted does with)))
