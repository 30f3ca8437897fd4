-- The volume of a finished tape: the same without the mark, and with a file that moves at its place.
use Rattle.std.proofs.Common.{◌≡◌, ◌≢◌, ◌⊎◌, ◌<◌, ◌≤◌, ◌+◌, ◌-◌, ◌++◌, ◌&&◌, ◌==◌, ℕ, List, [], ◌∷◌, Bool, true, false, if◌then◌else◌, Option, Some, None, length, get_or, set, map, filter, inl, inr, sym, ◌∙◌, ap, subst, arith, length-set, get_or-set_same, get_or-set_other, bytes_eq}
use Rattle.std.specs.Prelude.{option_map}
use Rattle.std.specs.FinMap.{get, insert}
use Rattle.std.proofs.lemmas.Bool.{and_from, cases_eq, cases_lt, cases_order, lt-ltb}
use Rattle.std.proofs.lemmas.Slice.Eq.{bytes_eq-Decides}
use Rattle.lif_model.specs.Tape.{Tape, IsTape, record_at, bytes_from}
use Rattle.lif_model.specs.Header.{directory_start, directory_length, directory_end, capacity_of}
use Rattle.lif_model.specs.Directory.{name_of, start_of, length_of}
use Rattle.lif_model.specs.declared.version.Version.TheVariants.{Two}
use Rattle.lif_model.specs.Redo.{redo_start}
use Rattle.lif_model.specs.Legal.{is_live, occupies, end_of, holds}
use Rattle.lif_model.specs.Volume.{Volume, Files, IsVolume, redo_name, is_redo_entry, is_redo_file, is_file, content_of, files_of, volume_in}
use Rattle.lif_model.specs.Fit.{redo_place}
use Rattle.lif_model.specs.Apply.{is_upgraded}
use Rattle.lif_model.specs.Writing.{SlotWrites, with_slots}
use Rattle.lif_model.proofs.Volume.{slots_agree, content_agree}
use Rattle.lif_model.proofs.Files.{same_files, get_file, get_stored}
use Rattle.lif_model.proofs.Adopted.{redo_is_alone, redo_entry_tells, is_file_tells, holds_tells, ends_before_redo}
use Rattle.lif_model.proofs.Named.{file_from, Names, equal, other, names_of, named_at_place}
use Rattle.lif_model.proofs.Directory.{volume_tells}
use Rattle.lif_model.proofs.Recorded.{length_records, records_before, records_behind, records_replaced}
use Rattle.lif_model.proofs.Writing.{AreEntries, untouched, slots_elsewhere}
use Rattle.lif_model.proofs.Slotted.{IsOn, is_on}
use Rattle.lif_model.proofs.Written.{volume_by_parts}
use Rattle.lif_model.specs.Packing.{packed_start, with_start, redo_slot, marked_slot, marked_count, unmarked, bears_mark, move_of, records_from, finishing_slots, with_moved, finished_with, slots_after, finished_files, without_start}
use Rattle.lif_pack.proofs.Entries.{started_size, started_name, started_type, started_start, started_length, started_bare, unmarked_slot, unmarked_count, unmarked_redo}
use Rattle.lif_pack.proofs.Order.{CanMove, move_is, takes, above_directory, others_clear}
use Rattle.lif_pack.proofs.Order as order
use Rattle.lif_pack.proofs.Pointwise.{kept_same, bytes_same, bytes_split, length_from, record_from}
use Rattle.lif_pack.proofs.Slotting.{MayStand, set_is_on}
use Rattle.lif_pack.proofs.Finishing.{upgraded_is_adopted, redo_here, redo_is_two, unmarked_may_stand, other_is_file, cleared, clear_of, occupies_alike, live_alike, cleared_is_alike, cleared_is_file, lookup_same}

module _ (n : ℕ) (u : Tape) (v : Volume) (tape : IsTape n u) (is : volume_in u ≡ Some v) (up : is_upgraded n v ≡ true) where
  abbrev on : IsOn n u v
  on = is_on n u v tape is

  abbrev start : ℕ
  start = directory_start v.header

  abbrev r : ℕ
  r = redo_place v.slots

  abbrev redo_write : ℕ × List ℕ
  redo_write = (r, unmarked (redo_slot v))

  abbrev v1 : Volume
  v1 = cleared n v on.volume up

  kept_files : v.files ≡ files_of u v.slots
  kept_files = let tells = volume_tells u v is in tells.3 ∙ sym (ap (files_of u) tells.2)

  redo_within : r < length v.slots
  redo_within = redo_here n v on.volume up

  -- writes of slots leave all records after the directory
  after_directory : (ws : SlotWrites) (t : Tape) (k : ℕ) → AreEntries (capacity_of v.header) ws → directory_end v.header ≤ k
      → record_at (with_slots start ws t) k ≡ record_at t k
  after_directory ws t k are le = slots_elsewhere start ws t k (untouched start (directory_length v.header) ws k are (inr le))

  redo_is_entry : AreEntries (capacity_of v.header) (redo_write ∷ [])
  redo_is_entry = let may = unmarked_may_stand n v on.volume up in (omega (arith, may.here, on.volume.room), may.size, tt)

  -- a record of a file is after the directory
  held_after : (k j : ℕ) → k < length v.slots → is_file n (get_or v.slots k []) ≡ true → holds j (get_or v.slots k []) ≡ true
      → (occupies (get_or v.slots k []) ≡ true) × (directory_end v.header ≤ j)
  held_after k j lt file held =
      let slot : List ℕ = get_or v.slots k [] in
      let ends = holds_tells j slot held in
      let on_k : occupies slot ≡ true = and_from (is_live slot) _ (is_file_tells n slot file).0 (lt-ltb 0 (length_of slot) (omega (arith, ends.0, ends.1))) in
      (on_k, omega (arith, (on.volume.legal.within k lt on_k).0, ends.0))

  -- what the finished tape and its volume are to be
  pub record Ends (x : Tape) (w : Volume) : Type 0 where
    pub shape : IsTape n x
    pub volume : volume_in x ≡ Some w
    pub upgraded : is_upgraded n w ≡ true
    pub clear : bears_mark n w ≡ false
    pub bare : map without_start (filter (is_file n) w.slots) ≡ map without_start (filter (is_file n) v.slots)
    pub above : (k : ℕ) → redo_start Two n ≤ k → record_at x k ≡ record_at u k

  -- the redo entry is no file
  not_redo : (k : ℕ) → is_file n (get_or v.slots k []) ≡ true → k ≢ r
  not_redo k file e =
      let redo : is_redo_file n (get_or v.slots k []) ≡ true = subst (λ (m : ℕ). is_redo_file n (get_or v.slots m []) ≡ true) (sym e)
      (redo_entry_tells n Two (redo_slot v) (redo_is_two n v on.volume up)).0 in
      let no : true ≡ false = sym redo ∙ (is_file_tells n (get_or v.slots k []) file).1 in
      cc

  cleared_other : (k : ℕ) → k ≢ r → get_or v1.slots k [] ≡ get_or v.slots k []
  cleared_other k off = get_or-set_other v.slots r k (unmarked (redo_slot v)) [] off

  cleared_redo : get_or v1.slots r [] ≡ unmarked (redo_slot v)
  cleared_redo = get_or-set_same v.slots r (unmarked (redo_slot v)) [] redo_within

  entry_size : length (redo_slot v) ≡ 32
  entry_size = on.volume.entries r redo_within

  -- the redo entry of these slots is the one without a mark
  clears : (later : List (List ℕ)) (files : Files) → IsVolume n (record { header = v.header; slots = later; files = files }) → length later ≡ length v.slots
      → get_or later r [] ≡ unmarked (redo_slot v)
      → (is_upgraded n (record { header = v.header; slots = later; files = files }) ≡ true) × (bears_mark n (record { header = v.header; slots = later; files = files }) ≡ false)
  clears later files volume count here =
      clear_of n (record { header = v.header; slots = later; files = files }) r volume (omega (arith, count, redo_within))
      (ap (is_redo_entry n Two) here ∙ unmarked_redo (redo_slot v) entry_size n Two ∙ redo_is_two n v on.volume up)
      (ap marked_slot here ∙ unmarked_slot (redo_slot v) entry_size) (ap marked_count here ∙ unmarked_count (redo_slot v) entry_size)

  above_all : directory_end v.header ≤ redo_start Two n
  above_all = (ends_before_redo Two n v on.volume up).0

  -- ---- the mark alone is taken off

  abbrev x1 : Tape
  x1 = with_slots start (redo_write ∷ []) u

  on1 : IsOn n x1 v1
  on1 = set_is_on n v r (unmarked (redo_slot v)) (unmarked_may_stand n v on.volume up) u on

  count1 : length v1.slots ≡ length v.slots
  count1 = length-set v.slots r (unmarked (redo_slot v))

  files1 : files_of x1 v1.slots ≡ v.files
  files1 = same_files (files_of x1 v1.slots) (files_of u v.slots) (λ q.
      lookup_same n x1 u v.slots v1.slots q on1.tape.records tape.records count1 (λ k lt. cleared_is_file n v on.volume up k)
      (λ k lt. (cleared_is_alike n v on.volume up k).name)
      (λ k lt file named.
      ap (content_of x1) (cleared_other k (not_redo k file))
      ∙ content_agree x1 u (get_or v.slots k []) (λ j held. after_directory (redo_write ∷ []) u j redo_is_entry (held_after k j lt file held).1)))
      ∙ sym kept_files

  pub clears_mark : Ends x1 v1
  clears_mark =
      let both = clears v1.slots v.files on1.volume count1 cleared_redo in
      record {
        shape = on1.tape;
        volume = volume_by_parts n x1 v.header v1.slots v.files (sym on1.tape.records) on1.volume.legal (sym on1.header) (sym on1.slots) files1;
        upgraded = both.0;
        clear = both.1;
        bare = kept_same (is_file n) without_start without_start v.slots v1.slots count1
            (λ k lt. (cleared_is_file n v on.volume up k, λ file. ap without_start (cleared_other k (not_redo k file))));
        above = λ k le. after_directory (redo_write ∷ []) u k redo_is_entry (omega (arith, above_all, le));
      }

  -- ---- a file is moved

  module _ (i j : ℕ) (can : CanMove v i j) where
    abbrev slot : List ℕ
    slot = get_or v.slots i []

    abbrev place : ℕ
    place = packed_start v i

    abbrev moved : List ℕ
    moved = with_start place slot

    abbrev left : ℕ
    left = length_of slot - j

    abbrev rest : List (List ℕ)
    rest = records_from u (start_of slot + j) left

    abbrev writes : SlotWrites
    writes = redo_write ∷ (i, moved) ∷ []

    at_i : i < length v.slots
    at_i = order.here n v i j on.volume redo_within can

    takes_i : occupies slot ≡ true
    takes_i = takes n v i j on.volume redo_within can

    off_redo : i ≢ r
    off_redo e = absurd (omega (arith, e, can.before_redo))

    file_i : is_file n slot ≡ true
    file_i = other_is_file n v on.volume up i at_i off_redo can.live

    size_i : length slot ≡ 32
    size_i = on.volume.entries i at_i

    -- the records at the old place end before the redo file, and those at the new one before that
    end_i : end_of slot ≤ redo_start Two n
    end_i = (ends_before_redo Two n v on.volume up).1 i at_i takes_i (is_file_tells n slot file_i).1

    long : length rest ≡ left
    long = length_from u (start_of slot + j) left

    within_i : end_of slot ≤ n
    within_i = (on.volume.legal.within i at_i takes_i).1

    -- ---- the records are moved

    abbrev x0 : Tape
    x0 = with_moved v (Some (i, j)) u

    pub size0 : length x0 ≡ n
    size0 = length_records (place + j) rest u ∙ tape.records

    pub outside : (k : ℕ) → (k < place + j) ⊎ (place + length_of slot ≤ k) → record_at x0 k ≡ record_at u k
    outside k (inl lt) = records_before (place + j) rest u k lt
    outside k (inr le) = records_behind (place + j) rest u k (omega (arith, le, long, can.fewer))

    pub inside : (m : ℕ) → m < left → record_at x0 (place + j + m) ≡ record_at u (start_of slot + j + m)
    inside m lt =
        (records_replaced (place + j) rest u (omega (arith, long, can.fewer, can.down, within_i, tape.records))).within m (omega (arith, long, lt))
        ∙ record_from u (start_of slot + j) left m lt

    tape0 : IsTape n x0
    tape0 = record {
      records = size0;
      bytes = λ k lt. elim (cases_lt k (place + j)) [
        | inl under ↦ ap (λ (b : List ℕ). length b) (outside k (inl under)) ∙ tape.bytes k lt
        | inr over ↦ elim (cases_lt k (place + length_of slot)) [
          | inl less ↦
              let m : ℕ = k - (place + j) in
              let at : k ≡ place + j + m = omega (arith, over) in
              ap (λ (b : ℕ). length (record_at x0 b)) at ∙ ap (λ (b : List ℕ). length b) (inside m (omega (arith, over, less, can.fewer)))
              ∙ tape.bytes (start_of slot + j + m) (omega (arith, over, less, within_i))
          | inr more ↦ ap (λ (b : List ℕ). length b) (outside k (inr more)) ∙ tape.bytes k lt
        ]
      ];
    }

    on0 : IsOn n x0 v
    on0 = record {
      tape = tape0;
      volume = on.volume;
      header = on.header ∙ sym header0;
      slots = on.slots ∙ sym (slots_agree x0 u header0 (λ k le lt.
          outside k (inl (omega (arith, lt, ap directory_end on.header)))));
      starts = on.starts;
      ends = on.ends;
    }
      where
        header0 : record_at x0 0 ≡ record_at u 0
        header0 = outside 0 (inl (omega (arith, on.starts)))

    -- ---- and the slots are written

    abbrev x2 : Tape
    x2 = finished_with v (Some (i, j)) u

    on_cleared : IsOn n (with_slots start (redo_write ∷ []) x0) v1
    on_cleared = set_is_on n v r (unmarked (redo_slot v)) (unmarked_may_stand n v on.volume up) x0 on0

    moved_size : length moved ≡ 32
    moved_size = started_size place slot size_i

    moved_start : start_of moved ≡ place
    moved_start = started_start place slot size_i

    moved_length : length_of moved ≡ length_of slot
    moved_length = started_length place slot size_i

    may_move : MayStand n v1 i moved
    may_move = record {
      here = omega (arith, at_i, count1);
      size = moved_size;
      kind = ap (λ (k : ℕ). k == 0xFFFF) (started_type place slot size_i) ∙ on.volume.kinds i at_i;
      above = omega (arith, moved_start);
      below = omega (arith, moved_start, moved_length, can.down, within_i);
      apart = λ k lt off takes_k.
          let alike = cleared_is_alike n v on.volume up k in
          elim (others_clear n v i j on.volume redo_within can k (omega (arith, lt, count1)) off (sym (occupies_alike (get_or v1.slots k []) (get_or v.slots k []) alike) ∙ takes_k)) [
            | inl le ↦ inl (omega (arith, le, alike.start, alike.long, moved_start))
            | inr le ↦ inr (omega (arith, le, alike.start, moved_start, moved_length, can.down))
          ];
      named = λ k lt off live same.
          let alike = cleared_is_alike n v on.volume up k in
          let live_k : is_live (get_or v.slots k []) ≡ true = sym (live_alike (get_or v1.slots k []) (get_or v.slots k []) alike.type) ∙ live in
          let one : name_of (get_or v.slots k []) ≡ name_of slot = sym alike.name ∙ same ∙ started_name place slot size_i in
          elim (cases_order k i) [
            | inl e ↦ off e
            | inr (inl under) ↦ on.volume.legal.distinct k i under at_i live_k can.live one
            | inr (inr over) ↦ on.volume.legal.distinct i k over (omega (arith, lt, count1)) can.live live_k (sym one)
          ];
    }

    abbrev v2 : Volume
    v2 = record v1 { slots = set v1.slots i moved }

    on2 : IsOn n x2 v2
    on2 = set_is_on n v1 i moved may_move (with_slots start (redo_write ∷ []) x0) on_cleared

    count2 : length v2.slots ≡ length v.slots
    count2 = length-set v1.slots i moved ∙ count1

    moved_here : get_or v2.slots i [] ≡ moved
    moved_here = get_or-set_same v1.slots i moved [] (omega (arith, at_i, count1))

    moved_other : (k : ℕ) → k ≢ i → get_or v2.slots k [] ≡ get_or v1.slots k []
    moved_other k off = get_or-set_other v1.slots i k moved [] off

    moved_is_file : is_file n moved ≡ true
    moved_is_file = file_from n moved (live_alike moved slot (started_type place slot size_i) ∙ can.live)
        (λ same. off_redo (redo_is_alone n v i (upgraded_is_adopted n v on.volume up) at_i
        (and_from _ _ can.live ((bytes_eq-Decides (name_of slot) redo_name).1 (sym (started_name place slot size_i) ∙ same)))))

    later_is_file : (k : ℕ) → k < length v.slots → is_file n (get_or v2.slots k []) ≡ is_file n (get_or v.slots k [])
    later_is_file k lt = elim (cases_eq k i) [
      | inl e ↦ ap (λ (m : ℕ). is_file n (get_or v2.slots m [])) e ∙ ap (is_file n) moved_here ∙ moved_is_file ∙ sym file_i
          ∙ ap (λ (m : ℕ). is_file n (get_or v.slots m [])) (sym e)
      | inr off ↦ ap (is_file n) (moved_other k off) ∙ cleared_is_file n v on.volume up k
    ]

    later_name : (k : ℕ) → k < length v.slots → name_of (get_or v2.slots k []) ≡ name_of (get_or v.slots k [])
    later_name k lt = elim (cases_eq k i) [
      | inl e ↦ ap (λ (m : ℕ). name_of (get_or v2.slots m [])) e ∙ ap name_of moved_here ∙ started_name place slot size_i
          ∙ ap (λ (m : ℕ). name_of (get_or v.slots m [])) (sym e)
      | inr off ↦ ap name_of (moved_other k off) ∙ (cleared_is_alike n v on.volume up k).name
    ]

    moved_bare : (k : ℕ) → k < length v.slots → is_file n (get_or v.slots k []) ≡ true
        → without_start (get_or v2.slots k []) ≡ without_start (get_or v.slots k [])
    moved_bare k lt file = elim (cases_eq k i) [
      | inl e ↦ ap (λ (m : ℕ). without_start (get_or v2.slots m [])) e ∙ ap without_start moved_here ∙ started_bare place slot size_i
          ∙ ap (λ (m : ℕ). without_start (get_or v.slots m [])) (sym e)
      | inr off ↦ ap without_start (moved_other k off ∙ cleared_other k (not_redo k file))
    ]

    -- ---- the bytes of the files

    pub are_writes : AreEntries (capacity_of v.header) writes
    are_writes = (redo_is_entry.0, redo_is_entry.1, (omega (arith, at_i, on.volume.room), moved_size, tt))

    -- every record after the directory, but for those that were moved
    elsewhere : (k : ℕ) → directory_end v.header ≤ k → (k < place + j) ⊎ (place + length_of slot ≤ k) → record_at x2 k ≡ record_at u k
    elsewhere k le out = after_directory writes x0 k are_writes le ∙ outside k out

    -- another file stays
    other_content : (k : ℕ) → k < length v.slots → k ≢ i → is_file n (get_or v.slots k []) ≡ true
        → content_of x2 (get_or v2.slots k []) ≡ content_of u (get_or v.slots k [])
    other_content k lt off file =
        ap (content_of x2) (moved_other k off ∙ cleared_other k (not_redo k file))
        ∙ content_agree x2 u (get_or v.slots k []) (λ m held.
        let after = held_after k m lt file held in
        let ends = holds_tells m (get_or v.slots k []) held in
        elsewhere m after.1 (elim (others_clear n v i j on.volume redo_within can k lt off after.0) [
          | inl le ↦ inl (omega (arith, le, ends.1))
          | inr le ↦ inr (omega (arith, le, ends.0, can.down))
        ]))

    abbrev bytes : List ℕ
    bytes = bytes_from u place j ++ bytes_from u (start_of slot + j) left

    -- the file that was moved has the records that stood at its place, and then those that were left
    moved_content : content_of x2 moved ≡ bytes
    moved_content =
        let all : length_of moved ≡ j + left = omega (arith, moved_length, can.fewer) in
        ap (λ (k : ℕ). bytes_from x2 k (length_of moved)) moved_start ∙ ap (bytes_from x2 place) all ∙ bytes_split x2 place j left
        ∙ (λ q. first q ++ second q)
      where
        first : bytes_from x2 place j ≡ bytes_from u place j
        first = bytes_same x2 u place place j (λ m lt.
            elsewhere (place + m) (omega (arith, above_directory n v i j on.volume redo_within can)) (inl (omega (arith, lt))))

        second : bytes_from x2 (place + j) left ≡ bytes_from u (start_of slot + j) left
        second = bytes_same x2 u (place + j) (start_of slot + j) left (λ m lt.
            after_directory writes x0 (place + j + m) are_writes (omega (arith, above_directory n v i j on.volume redo_within can)) ∙ inside m lt)

    abbrev files2 : Files
    files2 = insert v.files (name_of slot) bytes

    abbrev w : Volume
    w = record { header = v.header; slots = v2.slots; files = files2 }

    find_moved : (q : List ℕ) → get (files_of x2 v2.slots) q ≡ get files2 q
    find_moved q = go (names_of q (name_of slot))
      where
        go : Names q (name_of slot) → get (files_of x2 v2.slots) q ≡ get files2 q
        go (equal same e) =
            let named : (is_file n (get_or v2.slots i []) && bytes_eq q (name_of (get_or v2.slots i []))) ≡ true =
            and_from _ _ (ap (is_file n) moved_here ∙ moved_is_file)
            ((bytes_eq-Decides q (name_of (get_or v2.slots i []))).1 (same ∙ sym (later_name i at_i))) in
            get_file x2 v2.slots n q (sym on2.tape.records)
            ∙ ap (option_map (content_of x2)) (named_at_place n v.header v2.slots on2.volume.legal q i (omega (arith, at_i, count2)) named ∙ ap Some moved_here)
            ∙ ap Some moved_content ∙ sym (get_stored v.files (name_of slot) bytes q ∙ ap (λ (b : Bool). if b then Some bytes else get v.files q) e)
        go (other off e) =
            lookup_same n x2 u v.slots v2.slots q on2.tape.records tape.records count2 later_is_file later_name
            (λ k lt file named. other_content k lt (λ at. off (sym named ∙ ap (λ (m : ℕ). name_of (get_or v.slots m [])) at)) file)
            ∙ ap (λ (m : Files). get m q) (sym kept_files)
            ∙ sym (get_stored v.files (name_of slot) bytes q ∙ ap (λ (b : Bool). if b then Some bytes else get v.files q) e)

    pub moves_file : Ends x2 w
    moves_file =
        let both = clears v2.slots files2 (record {
          header = on2.volume.header;
          legal = on2.volume.legal;
          room = on2.volume.room;
          entries = on2.volume.entries;
          kinds = on2.volume.kinds;
        }) count2 (moved_other r (λ e. off_redo (sym e)) ∙ cleared_redo) in
        record {
          shape = on2.tape;
          volume = volume_by_parts n x2 v.header v2.slots files2 (sym on2.tape.records) on2.volume.legal (sym on2.header) (sym on2.slots)
              (same_files (files_of x2 v2.slots) files2 find_moved);
          upgraded = both.0;
          clear = both.1;
          bare = kept_same (is_file n) without_start without_start v.slots v2.slots count2 (λ k lt. (later_is_file k lt, moved_bare k lt));
          above = λ k le. elsewhere k (omega (arith, above_all, le)) (inr (omega (arith, le, end_i, can.down)));
        }

  -- ---- whichever of the two it is

  pub ends_by : (move : Option (ℕ × ℕ)) → move_of v ≡ move
      → Ends (finished_with v move u) (record v { slots = slots_after (finishing_slots v move) v.slots; files = finished_files v move u })
  ends_by None e = clears_mark
  ends_by (Some move) e = moves_file move.0 move.1 (move_is v move.0 move.1 e)
