-- Packing of a volume of version 2 that is in order: what it makes is such a volume too, and packed; its files stay.
use Rattle.std.proofs.Common.{filter, map, ◌≡◌, ◌≢◌, ◌<◌, ◌≤◌, ◌+◌, ◌++◌, ◌==◌, ℕ, suc, List, [], ◌∷◌, Bool, true, false, if◌then◌else◌, Some, length, get_or, take, drop, inl, inr, refl, sym, ◌∙◌, ap, subst, arith, append-nil}
use Rattle.std.specs.List.{list_all}
use Rattle.std.proofs.lemmas.Bool.{and_from, cases_eq, ltb-true, ltb-false, lt-ltb, false_from_ne_true}
use Rattle.std.proofs.lemmas.List.{length_push, take_at, drop_all}
use Rattle.std.proofs.lemmas.List.Elements.{filter-append}
use Rattle.std.proofs.lemmas.Slice.Eq.{bytes_eq-Decides}
use Rattle.lif_model.specs.Header.{directory_end}
use Rattle.lif_model.specs.Directory.{name_of, start_of, length_of, is_end, is_purged}
use Rattle.lif_model.specs.Pairs.{all_pairs}
use Rattle.lif_model.specs.declared.version.Version.TheVariants.{Two}
use Rattle.lif_model.specs.Redo.{redo_start, redo_length}
use Rattle.lif_model.specs.Legal.{is_live, has_records, occupies, end_of, is_live_named, have_other_names, IsLegal}
use Rattle.lif_model.specs.Volume.{Volume, IsVolume, redo_name, is_redo_entry, is_redo_file, is_file}
use Rattle.lif_model.specs.Fit.{redo_place}
use Rattle.lif_model.specs.Apply.{is_upgraded}
use Rattle.lif_model.proofs.Lists.{filter_pairs_tell, pairs_tell}
use Rattle.lif_model.proofs.Legal.{names_tell, names_from}
use Rattle.lif_model.proofs.Slots.{HasNew, push_new, legal_with_new, each_with_new, occupies_tells}
use Rattle.lif_model.proofs.Adopted.{redo_is_alone, redo_file_tells, redo_file_is_live, redo_file_is_named, redo_entry_tells, is_file_tells, ends_before_redo}
use Rattle.lif_model.proofs.Named.{file_from}
use Rattle.lif_model.specs.Packing.{rises, is_in_order, live_records, are_packed, redo_slot, marked_slot, marked_count, unmarked, bears_mark, without_start, files_shown, packed_from, packed}
use Rattle.lif_pack.specs.Steps.{AreLive}
use Rattle.lif_pack.proofs.Entries.{unmarked_size, unmarked_name, unmarked_type, unmarked_start, unmarked_length, unmarked_slot, unmarked_count, unmarked_redo}
use Rattle.lif_pack.proofs.Order.{rise, packed_within, live_whole}
use Rattle.lif_pack.proofs.Walking.{live_append}
use Rattle.lif_pack.proofs.Finishing.{upgraded_is_adopted, redo_here, redo_is_two, clear_of, live_alike}
use Rattle.lif_pack.proofs.Filtering.{filter_at, filter_fewer, filter_all}
use Rattle.lif_pack.proofs.MovedVolume.{unmarked_same}
use Rattle.lif_pack.proofs.PackedVolume.{packed_apart, length_packed, packed_at, packed_are, packed_bare}
use Rattle.lif_pack.proofs.SamePacked.{packed_same}

-- the files' records have room between two places, if each lies between them and they do not overlap
pub room_between : (n low high : ℕ) (slots : List (List ℕ)) → low ≤ high
    → ((k : ℕ) → k < length slots → is_file n (get_or slots k []) ≡ true → has_records (get_or slots k []) ≡ true
    → (low ≤ start_of (get_or slots k [])) × (end_of (get_or slots k []) ≤ high))
    → ((i j : ℕ) → i < j → j < length slots → is_file n (get_or slots i []) ≡ true → has_records (get_or slots i []) ≡ true
    → is_file n (get_or slots j []) ≡ true → has_records (get_or slots j []) ≡ true → end_of (get_or slots i []) ≤ start_of (get_or slots j []))
    → low + live_records (filter (is_file n) slots) ≤ high
room_between n low high [] le within apart = omega (arith, le)
room_between n low high (slot ∷ slots) le within apart =
    go (is_file n slot) (has_records slot) refl refl
    (λ next some. room_between n next high slots some)
  where
    pairs : (i j : ℕ) → i < j → j < length slots → is_file n (get_or slots i []) ≡ true → has_records (get_or slots i []) ≡ true
        → is_file n (get_or slots j []) ≡ true → has_records (get_or slots j []) ≡ true → end_of (get_or slots i []) ≤ start_of (get_or slots j [])
    pairs i j lt long = apart (suc i) (suc j) (omega arith) (omega arith)

    go : (b c : Bool) → is_file n slot ≡ b → has_records slot ≡ c
        → ((next : ℕ) → next ≤ high
        → ((k : ℕ) → k < length slots → is_file n (get_or slots k []) ≡ true → has_records (get_or slots k []) ≡ true
        → (next ≤ start_of (get_or slots k [])) × (end_of (get_or slots k []) ≤ high))
        → ((i j : ℕ) → i < j → j < length slots → is_file n (get_or slots i []) ≡ true → has_records (get_or slots i []) ≡ true
        → is_file n (get_or slots j []) ≡ true → has_records (get_or slots j []) ≡ true → end_of (get_or slots i []) ≤ start_of (get_or slots j []))
        → next + live_records (filter (is_file n) slots) ≤ high)
        → low + live_records (if b then slot ∷ filter (is_file n) slots else filter (is_file n) slots) ≤ high
    go false c file some rest = rest low le (λ k lt. within (suc k) (omega arith)) pairs
    go true false file none rest =
        let empty : (if is_live slot then length_of slot else 0) ≡ 0 = empty_slot (is_live slot) none in
        let more = rest low le (λ k lt. within (suc k) (omega arith)) pairs in
        omega (arith, more, empty)
      where
        empty_slot : (b : Bool) → has_records slot ≡ false → (if b then length_of slot else 0) ≡ 0
        empty_slot false off = refl
        empty_slot true off = omega (arith, ltb-false 0 (length_of slot) off)
    go true true file some rest =
        let live : is_live slot ≡ true = (is_file_tells n slot file).0 in
        let here = within 0 (omega arith) file some in
        let counted : (if is_live slot then length_of slot else 0) ≡ length_of slot = ap (λ (b : Bool). if b then length_of slot else 0) live in
        let more = rest (end_of slot) here.1
        (λ k lt file_k some_k. (apart 0 (suc k) (omega arith) (omega arith) file some file_k some_k, (within (suc k) (omega arith) file_k some_k).1)) pairs in
        omega (arith, more, here.0, counted)

module _ (n : ℕ) (v : Volume) (is : IsVolume n v) (up : is_upgraded n v ≡ true) (in_order : is_in_order v.slots ≡ true) where
  abbrev r : ℕ
  r = redo_place v.slots

  abbrev files : List (List ℕ)
  files = filter (is_file n) v.slots

  abbrev low : ℕ
  low = directory_end v.header

  abbrev front : List (List ℕ)
  front = packed_from low files

  abbrev last : List ℕ
  last = unmarked (redo_slot v)

  abbrev later : List (List ℕ)
  later = front ++ last ∷ []

  within_r : r < length v.slots
  within_r = redo_here n v is up

  entry_size : length (redo_slot v) ≡ 32
  entry_size = is.entries r within_r

  redo_tells : (is_redo_file n (redo_slot v) ≡ true) × (occupies (redo_slot v) ≡ true) × (start_of (redo_slot v) ≡ redo_start Two n) × (length_of (redo_slot v) ≡ redo_length Two)
  redo_tells = redo_entry_tells n Two (redo_slot v) (redo_is_two n v is up)

  last_is_redo : is_redo_entry n Two last ≡ true
  last_is_redo = unmarked_redo (redo_slot v) entry_size n Two ∙ redo_is_two n v is up

  -- ---- the slots of the files

  pub record IsFileSlot (slot : List ℕ) : Type 0 where
    pub size : length slot ≡ 32
    pub kind : is_end slot ≡ false
    pub live : is_live slot ≡ true
    pub other : name_of slot ≢ redo_name

  file_slot : (k : ℕ) → k < length files → IsFileSlot (get_or files k [])
  file_slot k lt =
      let found = filter_at (is_file n) v.slots k lt in
      let tells = is_file_tells n (get_or v.slots found.0 []) found.2 in
      subst IsFileSlot (sym found.3) (record {
        size = is.entries found.0 found.1;
        kind = is.kinds found.0 found.1;
        live = tells.0;
        other = λ same.
            let named = and_from _ _ tells.0 ((bytes_eq-Decides (name_of (get_or v.slots found.0 [])) redo_name).1 same) in
            let at : found.0 ≡ r = redo_is_alone n v found.0 (upgraded_is_adopted n v is up) found.1 named in
            let no : true ≡ false = sym redo_tells.0 ∙ sym (ap (λ (m : ℕ). is_redo_file n (get_or v.slots m [])) at) ∙ tells.1 in
            cc;
      })

  sizes : (k : ℕ) → k < length files → length (get_or files k []) ≡ 32
  sizes k lt = (file_slot k lt).size

  count : length front ≡ length files
  count = length_packed low files

  front_slot : (k : ℕ) → k < length front → IsFileSlot (get_or front k [])
  front_slot k lt =
      let under : k < length files = omega (arith, lt, count) in
      let old = file_slot k under in
      let new = packed_at low files sizes k under in
      record {
        size = new.1.size;
        kind = ap (λ (m : ℕ). m == 0xFFFF) new.1.type ∙ old.kind;
        live = live_alike (get_or front k []) (get_or files k []) new.1.type ∙ old.live;
        other = λ same. old.other (sym new.1.name ∙ same);
      }

  front_is_file : (k : ℕ) → k < length front → is_file n (get_or front k []) ≡ true
  front_is_file k lt = let slot = front_slot k lt in file_from n (get_or front k []) slot.live slot.other

  are : (are_packed low front ≡ true) × (live_records front ≡ live_records files)
  are = packed_are low files sizes (λ k lt. (file_slot k lt).live)

  -- the slots that packing makes have the records of the files, and those of the redo file
  pub packed_records : live_records (packed_from (directory_end v.header) (filter (is_file n) v.slots) ++ unmarked (redo_slot v) ∷ []) ≡ live_records (filter (is_file n) v.slots) + redo_length Two
  packed_records =
      let tells = redo_entry_tells n Two last last_is_redo in
      omega (arith, live_append front last, are.1, live_whole last (redo_file_is_live n last tells.0), tells.3)

  -- they have room before the redo file
  pub files_have_room : low + live_records files ≤ redo_start Two n
  files_have_room =
      let before = ends_before_redo Two n v is up in
      room_between n low (redo_start Two n) v.slots before.0
      (λ k lt file some.
      let tells = is_file_tells n (get_or v.slots k []) file in
      let on : occupies (get_or v.slots k []) ≡ true = and_from _ _ tells.0 some in
      ((is.legal.within k lt on).0, before.1 k lt on tells.1))
      (λ i j lt long file some file_j some_j.
      let first : occupies (get_or v.slots i []) ≡ true = and_from _ _ (is_file_tells n (get_or v.slots i []) file).0 some in
      let second : occupies (get_or v.slots j []) ≡ true = and_from _ _ (is_file_tells n (get_or v.slots j []) file_j).0 some_j in
      elim (is.legal.apart i j lt long first second) [
        | inl le ↦ le
        | inr le ↦ absurd (omega (arith, le, rise v.slots in_order i j lt long first second))
      ])

  room : low + live_records front ≤ redo_start Two n
  room = omega (arith, files_have_room, are.1)

  -- ---- legal

  front_named : (i j : ℕ) → i < j → j < length front → name_of (get_or front i []) ≢ name_of (get_or front j [])
  front_named i j lt long same =
      let under_j : j < length files = omega (arith, long, count) in
      let under_i : i < length files = omega (arith, lt, under_j) in
      let pairs : all_pairs have_other_names files ≡ true = (filter_pairs_tell [] (is_file n) have_other_names v.slots).1 (λ a b less more file_a file_b.
      names_from (get_or v.slots a []) (get_or v.slots b [])
      (is.legal.distinct a b less more (is_file_tells n (get_or v.slots a []) file_a).0 (is_file_tells n (get_or v.slots b []) file_b).0)) in
      names_tell (get_or files i []) (get_or files j []) ((pairs_tell [] have_other_names files).0 pairs i j lt under_j)
      (sym (packed_at low files sizes i under_i).1.name ∙ same ∙ (packed_at low files sizes j under_j).1.name)

  front_legal : IsLegal n v.header front
  front_legal = record {
    readable = is.legal.readable;
    within = λ k lt on.
        let ends = packed_within low front are.0 k lt on in
        (ends.0, omega (arith, ends.1, room));
    apart = λ i j lt long first second. inl (packed_apart low front are.0 i j lt long first second);
    distinct = λ i j lt long first second. front_named i j lt long;
  }

  has : HasNew front later (length front) last (λ k. k)
  has = push_new front last

  last_start : start_of last ≡ redo_start Two n
  last_start = unmarked_start (redo_slot v) entry_size ∙ redo_tells.2

  last_length : length_of last ≡ redo_length Two
  last_length = unmarked_length (redo_slot v) entry_size ∙ redo_tells.3

  -- and end before the last slot's
  front_below : (k : ℕ) → k < length later → k ≢ length front → occupies (get_or later k []) ≡ true → end_of (get_or later k []) ≤ start_of last
  front_below k lt off on =
      let old = has.others k lt off in
      let ends = packed_within low front are.0 k old.0 (sym (ap occupies old.1) ∙ on) in
      omega (arith, ap end_of old.1, ends.1, room, last_start)

  last_name : name_of last ≡ redo_name
  last_name = unmarked_name (redo_slot v) entry_size ∙ (redo_file_tells n (redo_slot v) redo_tells.0).0

  later_legal : IsLegal n v.header later
  later_legal = legal_with_new n v.header front later (length front) last (λ k. k) front_legal has
      (omega (arith, last_start, (ends_before_redo Two n v is up).0))
      (omega (arith, last_start, last_length, redo_tells.2, redo_tells.3, (is.legal.within r within_r redo_tells.1).1))
      (λ k lt off on. inl (front_below k lt off on))
      (λ k lt off live same. let old = has.others k lt off in (front_slot k old.0).other (sym (ap name_of old.1) ∙ same ∙ last_name))

  later_count : length later ≡ length front + 1
  later_count = length_push front last

  pub packed_is_volume : IsVolume n (packed n v)
  packed_is_volume = record {
    header = is.header;
    legal = later_legal;
    room = omega (arith, later_count, count, is.room, filter_fewer (is_file n) v.slots r within_r redo_is_none);
    entries = each_with_new (λ e. length e ≡ 32) front later (length front) last (λ k. k) has (unmarked_size (redo_slot v) entry_size) (λ k lt. (front_slot k lt).size);
    kinds = each_with_new (λ e. is_end e ≡ false) front later (length front) last (λ k. k) has
        (ap (λ (m : ℕ). m == 0xFFFF) (unmarked_type (redo_slot v) entry_size) ∙ is.kinds r within_r) (λ k lt. (front_slot k lt).kind);
  }
    where
      redo_is_none : is_file n (redo_slot v) ≡ false
      redo_is_none = false_from_ne_true _ (λ file. let no : true ≡ false = sym redo_tells.0 ∙ (is_file_tells n (redo_slot v) file).1 in cc)

  last_here : length front < length later
  last_here = omega (arith, later_count)

  pub packed_is_upgraded : (is_upgraded n (packed n v) ≡ true) × (bears_mark n (packed n v) ≡ false)
  packed_is_upgraded = clear_of n (packed n v) (length front) packed_is_volume last_here (ap (is_redo_entry n Two) has.here ∙ last_is_redo)
      (ap marked_slot has.here ∙ unmarked_slot (redo_slot v) entry_size) (ap marked_count has.here ∙ unmarked_count (redo_slot v) entry_size)

  -- the redo entry is the last slot
  pub redo_is_last : redo_place later ≡ length front
  redo_is_last = sym (redo_is_alone n (packed n v) (length front) (upgraded_is_adopted n (packed n v) packed_is_volume packed_is_upgraded.0) last_here
      (ap (is_live_named redo_name) has.here ∙ redo_file_is_named n last (redo_entry_tells n Two last last_is_redo).0))

  -- ---- in order

  pub packed_is_in_order : is_in_order later ≡ true
  packed_is_in_order =
      let rising : all_pairs rises (filter occupies later) ≡ true = (filter_pairs_tell [] occupies rises later).1 (λ i j lt long first second.
      lt-ltb _ _ (up_to i j lt long first second)) in
      let none : drop (suc (redo_place later)) later ≡ [] = drop_all (suc (redo_place later)) later (omega (arith, later_count, redo_is_last)) in
      and_from _ _ rising (ap (list_all is_purged) none)
    where
      up_to : (i j : ℕ) → i < j → j < length later → occupies (get_or later i []) ≡ true → occupies (get_or later j []) ≡ true
          → start_of (get_or later i []) < start_of (get_or later j [])
      up_to i j lt long first second =
          let some : 0 < length_of (get_or later i []) = ltb-true 0 _ (occupies_tells (get_or later i []) first).1 in
          let off : i ≢ length front = λ e. absurd (omega (arith, e, lt, long, later_count)) in
          elim (cases_eq j (length front)) [
            | inl e ↦
                let at : get_or later j [] ≡ last = ap (λ (m : ℕ). get_or later m []) e ∙ has.here in
                omega (arith, some, front_below i (omega (arith, lt, long)) off first, ap start_of at)
            | inr ne ↦
                let a = has.others i (omega (arith, lt, long)) off in
                let b = has.others j long ne in
                omega (
                  arith,
                  some,
                  ap length_of a.1,
                  ap start_of a.1,
                  ap start_of b.1,
                  packed_apart low front are.0 i j lt b.0 (sym (ap occupies a.1) ∙ first) (sym (ap occupies b.1) ∙ second),
                )
          ]

  -- ---- packed

  -- the slots before the redo entry
  pub before_last : take (redo_place later) later ≡ front
  before_last = ap (λ (m : ℕ). take m later) redo_is_last ∙ take_at front (last ∷ []) (length front) refl

  pub packed_is_packed : are_packed (directory_end v.header) (take (redo_place later) later) ≡ true
  packed_is_packed = ap (are_packed low) before_last ∙ are.0

  -- each slot is live
  packed_are_live : AreLive later
  packed_are_live k lt = elim (cases_eq k (length front)) [
    | inl e ↦ ap (λ (m : ℕ). is_live (get_or later m [])) e ∙ ap is_live has.here ∙ redo_file_is_live n last (redo_entry_tells n Two last last_is_redo).0
    | inr off ↦ let old = has.others k lt off in ap is_live old.1 ∙ (front_slot k old.0).live
  ]

  -- ---- the files that are shown

  last_is_none : filter (is_file n) (last ∷ []) ≡ []
  last_is_none =
      let none : is_file n last ≡ false = false_from_ne_true _ (λ file.
      let no : true ≡ false = sym (redo_entry_tells n Two last last_is_redo).0 ∙ (is_file_tells n last file).1 in cc) in
      ap (λ (b : Bool). if b then last ∷ [] else []) none

  pub files_of_packed : filter (is_file n) later ≡ front
  files_of_packed = filter-append (is_file n) front (last ∷ [])
      ∙ (λ i. filter_all (is_file n) front front_is_file i ++ last_is_none i) ∙ append-nil front

  pub packed_shows : files_shown n (Some (packed n v)) ≡ files_shown n (Some v)
  packed_shows =
      let bare : map without_start (filter (is_file n) later) ≡ map without_start files = ap (map without_start) files_of_packed ∙ packed_bare low files sizes in
      λ i. Some (record { header = v.header; slots = bare i; files = v.files })

  -- ---- packed again

  last_again : unmarked last ≡ last
  last_again = unmarked_same last (unmarked_size (redo_slot v) entry_size) (unmarked_slot (redo_slot v) entry_size) (unmarked_count (redo_slot v) entry_size)

  front_again : packed_from low (filter (is_file n) later) ≡ front
  front_again =
      ap (packed_from low) (files_of_packed ∙ sym (filter_all (is_file n) front front_is_file))
      ∙ packed_same n low files front count (λ k lt.
      let is = (packed_at low files sizes k lt).1 in
      (front_is_file k (omega (arith, lt, count)) ∙ sym (files_are k lt), record { long = is.long; started = is.again; empty = is.empty }))
      ∙ ap (packed_from low) (filter_all (is_file n) files files_are)
    where
      files_are : (k : ℕ) → k < length files → is_file n (get_or files k []) ≡ true
      files_are k lt = let found = filter_at (is_file n) v.slots k lt in ap (is_file n) found.3 ∙ found.2

  -- packing makes the same of what it made
  pub packed_again : packed n (packed n v) ≡ packed n v
  packed_again =
      let redo : redo_slot (packed n v) ≡ last = ap (λ (m : ℕ). get_or later m []) redo_is_last ∙ has.here in
      λ i. record v { slots = front_again i ++ (ap unmarked redo ∙ last_again) i ∷ [] }

-- a volume of which packing makes the same: its files stand at their places, and each slot is live
pub packed_stands : (n : ℕ) (v : Volume) → IsVolume n v → is_upgraded n v ≡ true → is_in_order v.slots ≡ true → packed n v ≡ v
    → AreLive v.slots × (are_packed (directory_end v.header) (take (redo_place v.slots) v.slots) ≡ true)
packed_stands n v is up in_order same =
    let slots = ap (λ (w : Volume). w.slots) same in (
      subst AreLive slots (packed_are_live n v is up in_order),
      subst (λ (xs : List (List ℕ)). are_packed (directory_end v.header) (take (redo_place xs) xs) ≡ true) slots (packed_is_packed n v is up in_order),
    )
