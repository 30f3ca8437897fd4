-- One file more stands at its place: the slots in memory, and the tape.
use Rattle.std.proofs.Common.{◌≡◌, ◌≢◌, ◌⊎◌, ◌<◌, ◌≤◌, ◌+◌, ◌++◌, ◌/◌, ◌&&◌, ◌==◌, nat_lt, not, ℕ, zero, suc, List, [], ◌∷◌, Bool, true, false, if◌then◌else◌, Some, Option, length, get_or, set, take, filter, inl, inr, refl, sym, ◌∙◌, ap, subst, arith, length-set, get_or-set_same, get_or-set_other}
use Rattle.std.proofs.lemmas.Bool.{and_parts, and_from, cases_eq, cases_lt, cases_order, cases_Bool, ltb-true, lt-ltb, eq-eqb, not_from_false}
use Rattle.std.proofs.lemmas.List.{take-set-le, get_or-take, length-take}
use Rattle.lif_model.specs.Tape.{Tape, IsTape}
use Rattle.lif_model.specs.Header.{directory_start, directory_end}
use Rattle.lif_model.specs.Directory.{name_of, type_of, start_of, length_of, is_purged}
use Rattle.lif_model.specs.Pairs.{all_pairs}
use Rattle.lif_model.specs.declared.version.Version.TheVariants.{Two}
use Rattle.lif_model.specs.Redo.{redo_start, IsSettled}
use Rattle.lif_model.specs.Legal.{is_live, has_records, occupies, is_live_named, end_of}
use Rattle.lif_model.specs.Volume.{Volume, IsVolume, redo_name, is_redo_entry, is_file, volume_of}
use Rattle.lif_model.specs.Fit.{redo_place}
use Rattle.lif_model.specs.Apply.{is_upgraded}
use Rattle.lif_model.proofs.Lists.{filter_pairs_tell}
use Rattle.lif_model.proofs.Adopted.{is_file_tells, ends_before_redo, redo_is_alone, redo_file_is_named, redo_entry_tells}
use Rattle.lif_model.specs.Packing.{rises, is_in_order, live_length, live_records, stands_at, are_packed, packed_start, with_start, redo_slot, unmarked, marked_slot, marked_count, bears_mark, packed_from, repacked}
use Rattle.lif_pack.specs.declared.marks.Move.{Move}
use Rattle.lif_pack.specs.Marks.{IsMoveAt}
use Rattle.lif_pack.specs.Moving.{MayMove, HasMoved, IsUnderWay}
use Rattle.lif_pack.specs.Tasks.{KeepsFiles}
use Rattle.lif_pack.specs.Steps.{volume_with, HasPlainStart, MayPack, ArePlaced, OfSlots, HasSlotsOf, ArePackedAlike, MayStillPack, TapeHasSlots}
use Rattle.lif_pack.proofs.Entries.{started_size, started_name, started_type, started_start, started_length, started_again}
use Rattle.lif_pack.proofs.Order.{CanMove, standing, rise, live_before_redo, live_whole, others_clear}
use Rattle.lif_pack.proofs.Walking.{live_grows, live_more, packed_more, purged_all}
use Rattle.lif_pack.proofs.Counted.{files_kept}
use Rattle.lif_pack.proofs.Outside.{outside_moved, outside_same, outside_then, outside_wider}
use Rattle.lif_pack.proofs.Slotting.{MayStand, set_is_volume}
use Rattle.lif_pack.proofs.Finishing.{redo_here, redo_is_two, other_is_file, clear_of, upgraded_is_adopted}
use Rattle.lif_pack.proofs.Refused.{may_never}
use Rattle.lif_pack.proofs.SamePacked.{packed_same}
use Rattle.lif_pack.proofs.MovedVolume.{no_mark_is_zero, moved_volume}
use Rattle.lif_pack.proofs.Plain.{plain_started}
use Rattle.lif_pack.proofs.Keeping.{keeps_itself, way_keeps}

module _ (n first end redo : ℕ) (slots : List (List ℕ)) (may : MayPack n first end redo slots) where
  abbrev w : Volume
  w = volume_with may.header slots

  pub redo_lies : redo < length slots
  redo_lies = omega (arith, redo_here n w may.volume may.version, may.redo_is)

  -- the file of slot i, which does not stand at its place yet
  module _ (i place : ℕ) (placed : ArePlaced end i place slots) (before : i < redo) (takes : occupies (get_or slots i []) ≡ true) (down : place < start_of (get_or slots i [])) where
    abbrev slot : List ℕ
    slot = get_or slots i []

    here : i < length slots
    here = omega (arith, before, redo_lies)

    live : is_live slot ≡ true
    live = (and_parts (is_live slot) (has_records slot) takes).0

    some_records : 0 < length_of slot
    some_records = ltb-true 0 (length_of slot) (and_parts (is_live slot) (has_records slot) takes).1

    size : length slot ≡ 32
    size = may.volume.entries i here

    at_place : packed_start w i ≡ place
    at_place = omega (arith, placed.next, may.ends)

    can : CanMove w i 0
    can = record {
      before_redo = omega (arith, before, may.redo_is);
      live = live;
      fewer = some_records;
      in_order = may.in_order;
      packed = ap (λ (e : ℕ). are_packed e (take i slots)) may.ends ∙ placed.packed;
      down = omega (arith, at_place, down);
    }

    low : end ≤ place
    low = omega (arith, placed.next)

    file_ends : start_of slot + length_of slot ≤ redo_start Two n
    file_ends =
        let file = other_is_file n w may.volume may.version i here (λ e. absurd (omega (arith, e, before, may.redo_is))) live in
        (ends_before_redo Two n w may.volume may.version).1 i here takes (is_file_tells n slot file).1

    pub may_move : (move : Move) → move.slot ≡ i → move.place ≡ place → move.start ≡ start_of slot → move.length ≡ length_of slot → move.moved ≡ 0 → i < 65535
        → MayMove n first move.place redo move
    may_move move slot_is place_is start_is long_is none number =
        let within : first + redo / 8 < end = omega (arith, redo_lies, may.volume.room, may.starts, may.ends) in
        record {
          redo_slot = omega (arith, within, low, place_is);
          file_slot = omega (arith, within, low, place_is, slot_is, before);
          other = λ e. absurd (omega (arith, e, slot_is, before));
          number = omega (arith, slot_is, number);
          above = omega arith;
          down = omega (arith, place_is, start_is, down);
          part = omega (arith, none, long_is, some_records);
          below = omega (arith, start_is, long_is, file_ends);
        }

    -- ---- the slots then

    abbrev entry : List ℕ
    entry = with_start place slot

    abbrev later : List (List ℕ)
    later = set slots i entry

    count : length later ≡ length slots
    count = length-set slots i entry

    new_start : start_of entry ≡ place
    new_start = started_start place slot size

    new_length : length_of entry ≡ length_of slot
    new_length = started_length place slot size

    there : get_or later i [] ≡ entry
    there = get_or-set_same slots i entry [] here

    other : (k : ℕ) → k ≢ i → get_or later k [] ≡ get_or slots k []
    other k off = get_or-set_other slots i k entry [] off

    stand : MayStand n w i entry
    stand = record {
      here = here;
      size = started_size place slot size;
      kind = ap (λ (k : ℕ). k == 0xFFFF) (started_type place slot size) ∙ may.volume.kinds i here;
      above = omega (arith, new_start, low, may.ends);
      below = omega (arith, new_start, new_length, down, (may.volume.legal.within i here takes).1);
      apart = λ k lt off on. elim (others_clear n w i 0 may.volume (redo_here n w may.volume may.version) can k lt off on) [
        | inl le ↦ inl (omega (arith, le, at_place, new_start))
        | inr le ↦ inr (omega (arith, le, new_start, new_length, down))
      ];
      named = λ k lt off on same.
          let one : name_of (get_or slots k []) ≡ name_of slot = same ∙ started_name place slot size in
          elim (cases_order k i) [
            | inl e ↦ off e
            | inr (inl under) ↦ may.volume.legal.distinct k i under here on live one
            | inr (inr over) ↦ may.volume.legal.distinct i k over lt live on (sym one)
          ];
    }

    abbrev w' : Volume
    w' = volume_with may.header later

    volume' : IsVolume n w'
    volume' = set_is_volume n w i entry stand may.volume

    off_redo : redo ≢ i
    off_redo e = absurd (omega (arith, e, before))

    redo_stays : get_or later redo [] ≡ redo_slot w
    redo_stays = other redo off_redo ∙ ap (λ (k : ℕ). get_or slots k []) (sym may.redo_is)

    both : (is_upgraded n w' ≡ true) × (bears_mark n w' ≡ false)
    both =
        let zero = no_mark_is_zero n w may.version may.unmarked in
        clear_of n w' redo volume' (omega (arith, redo_lies, count)) (ap (is_redo_entry n Two) redo_stays ∙ redo_is_two n w may.volume may.version)
        (ap (λ (e : List ℕ). marked_slot e) redo_stays ∙ zero.0) (ap (λ (e : List ℕ). marked_count e) redo_stays ∙ zero.1)

    redo_later : redo_place later ≡ redo
    redo_later = sym (redo_is_alone n w' redo (upgraded_is_adopted n w' volume' both.0) (omega (arith, redo_lies, count))
        (ap (is_live_named redo_name) redo_stays ∙ redo_file_is_named n (redo_slot w) (redo_entry_tells n Two (redo_slot w) (redo_is_two n w may.volume may.version)).0))

    type_stays : (k : ℕ) → type_of (get_or later k []) ≡ type_of (get_or slots k [])
    type_stays k = elim (cases_eq k i) [
      | inl e ↦ ap (λ (m : ℕ). type_of (get_or later m [])) e ∙ ap type_of there ∙ started_type place slot size ∙ ap (λ (m : ℕ). type_of (get_or slots m [])) (sym e)
      | inr off ↦ ap type_of (other k off)
    ]

    length_stays : (k : ℕ) → length_of (get_or later k []) ≡ length_of (get_or slots k [])
    length_stays k = elim (cases_eq k i) [
      | inl e ↦ ap (λ (m : ℕ). length_of (get_or later m [])) e ∙ ap length_of there ∙ new_length ∙ ap (λ (m : ℕ). length_of (get_or slots m [])) (sym e)
      | inr off ↦ ap length_of (other k off)
    ]

    live_stays : (k : ℕ) → is_live (get_or later k []) ≡ is_live (get_or slots k [])
    live_stays k = ap (λ (m : ℕ). not (m == 0)) (type_stays k)

    occupies_stays : (k : ℕ) → occupies (get_or later k []) ≡ occupies (get_or slots k [])
    occupies_stays k = λ q. live_stays k q && nat_lt 0 (length_stays k q)

    -- no file begins later than it did, and one before the place ends before it
    in_order' : is_in_order later ≡ true
    in_order' =
        let rising : all_pairs rises (filter occupies later) ≡ true = (filter_pairs_tell [] occupies rises later).1 (λ a b less long on_a on_b.
        let was_a : occupies (get_or slots a []) ≡ true = sym (occupies_stays a) ∙ on_a in
        let was_b : occupies (get_or slots b []) ≡ true = sym (occupies_stays b) ∙ on_b in
        let up_to = rise slots may.in_order a b less (omega (arith, long, count)) was_a was_b in
        lt-ltb _ _ (elim (cases_eq b i) [
          | inl e ↦
              let off : a ≢ i = λ same. absurd (omega (arith, same, e, less)) in
              let start_b : start_of (get_or later b []) ≡ place = ap (λ (m : ℕ). start_of (get_or later m [])) e ∙ ap start_of there ∙ new_start in
              let start_a : start_of (get_or later a []) ≡ start_of (get_or slots a []) = ap start_of (other a off) in
              let some_a : 0 < length_of (get_or slots a []) = ltb-true 0 _ (and_parts (is_live (get_or slots a [])) (has_records (get_or slots a [])) was_a).1 in
              elim (others_clear n w i 0 may.volume (redo_here n w may.volume may.version) can a (omega (arith, less, e, here)) off was_a) [
                | inl le ↦ omega (arith, le, some_a, at_place, start_a, start_b)
                | inr le ↦ absurd (omega (arith, le, some_records, up_to, ap (λ (m : ℕ). start_of (get_or slots m [])) e))
              ]
          | inr off_b ↦
              let start_b : start_of (get_or later b []) ≡ start_of (get_or slots b []) = ap start_of (other b off_b) in
              elim (cases_eq a i) [
                | inl e ↦ omega (arith, ap (λ (m : ℕ). start_of (get_or later m [])) e ∙ ap start_of there ∙ new_start, down, up_to, ap (λ (m : ℕ). start_of (get_or slots m [])) e, start_b)
                | inr off_a ↦ omega (arith, ap start_of (other a off_a), start_b, up_to)
              ]
        ])) in
        and_from (all_pairs rises (filter occupies later)) _ rising (purged_all later (suc (redo_place later)) (λ k le lt. elim (cases_Bool (is_purged (get_or later k []))) [
          | inl purged ↦ purged
          | inr alive ↦ absurd (omega (arith, le, redo_later, may.redo_is, live_before_redo slots may.in_order k (omega (arith, lt, count)) (sym (live_stays k) ∙ not_from_false _ alive)))
        ]))

    pub may_pack_on : MayPack n first end redo (set slots i (with_start place (get_or slots i [])))
    may_pack_on = record {
      header = may.header;
      volume = volume';
      starts = may.starts;
      ends = may.ends;
      version = both.0;
      unmarked = both.1;
      in_order = in_order';
      redo_is = redo_later;
      plain = λ k lt on. elim (cases_eq k i) [
        | inl e ↦ subst HasPlainStart (sym (ap (λ (m : ℕ). get_or later m []) e ∙ there)) (plain_started place slot size)
        | inr off ↦ subst HasPlainStart (sym (other k off)) (may.plain k (omega (arith, lt, count)) (sym (occupies_stays k) ∙ on))
      ];
    }

    pub placed_on : ArePlaced end (i + 1) (place + length_of (get_or slots i [])) (set slots i (with_start place (get_or slots i [])))
    placed_on =
        let front : take i later ≡ take i slots = take-set-le i slots i entry (omega arith) in
        let here' : i < length later = omega (arith, here, count) in
        let live' : is_live (get_or later i []) ≡ true = live_stays i ∙ live in
        let stands : stands_at (end + live_records (take i later)) (get_or later i []) ≡ true =
        ap (λ (b : Bool). if b then start_of (get_or later i []) == end + live_records (take i later) else true) (occupies_stays i ∙ takes)
        ∙ eq-eqb _ _ (ap start_of there ∙ new_start ∙ placed.next ∙ ap (λ (xs : List (List ℕ)). end + live_records xs) (sym front)) in
        record {
          packed = packed_more end later i here' ∙ and_from _ _ (ap (are_packed end) front ∙ placed.packed) stands;
          next = omega (arith, live_more later i here', live_whole (get_or later i []) live', length_stays i, ap live_records front, placed.next);
        }

    -- ---- what packing makes of them

    pub packed_alike : ArePackedAlike n end slots (set slots i (with_start place (get_or slots i [])))
    packed_alike v ends =
        let front : packed_from (directory_end v.header) (filter (is_file n) later) ≡ packed_from (directory_end v.header) (filter (is_file n) slots) =
        packed_same n (directory_end v.header) slots later count (λ k lt. elim (cases_eq k i) [
          | inl e ↦
              let now : get_or later k [] ≡ entry = ap (λ (m : ℕ). get_or later m []) e ∙ there in
              let was : slot ≡ get_or slots k [] = ap (λ (m : ℕ). get_or slots m []) (sym e) in (
                ap (is_file n) now ∙ moved_is_file ∙ sym file_i ∙ ap (is_file n) was,
                record {
                  long = ap length_of now ∙ new_length ∙ ap length_of was;
                  started = λ p. ap (with_start p) now ∙ started_again place slot size p ∙ ap (with_start p) was;
                  empty = λ none. let no : true ≡ false = sym has_some ∙ ap has_records was ∙ none in cc;
                },
              )
          | inr off ↦ (ap (is_file n) (other k off), record { long = ap length_of (other k off); started = λ p. ap (with_start p) (other k off); empty = λ none. other k off })
        ]) in
        let redo_same : redo_slot (record v { slots = later }) ≡ redo_slot (record v { slots = slots }) =
        ap (λ (m : ℕ). get_or later m []) redo_later ∙ redo_stays in
        λ q. record v { slots = front q ++ unmarked (redo_same q) ∷ [] }
      where
        has_some : has_records slot ≡ true
        has_some = (and_parts (is_live slot) (has_records slot) takes).1

        file_i : is_file n slot ≡ true
        file_i = other_is_file n w may.volume may.version i here (λ e. absurd (omega (arith, e, before, may.redo_is))) live

        moved_is_file : is_file n entry ≡ true
        moved_is_file = ap (is_file n) (sym there)
            ∙ other_is_file n w' volume' both.0 i (omega (arith, here, count)) (λ e. absurd (omega (arith, e, before, redo_later))) (live_stays i ∙ live)

    -- ---- the tape

    -- a volume with these slots, and the move of the file
    module _ (v : Volume) (same : v.slots ≡ slots) (ends : directory_end v.header ≡ end)
        (move : Move) (slot_is : move.slot ≡ i) (place_is : move.place ≡ place) (start_is : move.start ≡ start_of slot) (long_is : move.length ≡ length_of slot) (none : move.moved ≡ 0) where
      abbrev v0 : Volume
      v0 = record v { slots = slots }

      start0 : packed_start v0 i ≡ place
      start0 = omega (arith, placed.next, ends)

      can0 : CanMove v0 i 0
      can0 = record {
        before_redo = can.before_redo;
        live = live;
        fewer = some_records;
        in_order = may.in_order;
        packed = ap (λ (e : ℕ). are_packed e (take i slots)) ends ∙ placed.packed;
        down = omega (arith, start0, down);
      }

      at_file : IsMoveAt v0 i 0 move
      at_file = record { slot = slot_is; moved = none; place = place_is ∙ sym start0; start = start_is; long = long_is }

    pub moved_slots : (t x : Tape) (move : Move) → IsTape n t → IsSettled t → IsSettled x → move.slot ≡ i → move.place ≡ place → move.start ≡ start_of slot → move.length ≡ length_of slot
        → move.moved ≡ 0 → HasMoved first move.place redo move t x → HasSlotsOf first end slots (set slots i (with_start place (get_or slots i []))) t x
    moved_slots t x move is quiet quiet_x slot_is place_is start_is long_is none has = record {
      volume = stands_so;
      outside = outside_wider first (move.place + move.length) (end + live_records (take (redo_place slots) slots)) t x reach (outside_moved first redo move t x starts_below has);
    }
      where
        starts_below : first ≤ move.place
        starts_below = omega (arith, low, place_is, may.starts, may.ends)

        reach : move.place + move.length ≤ end + live_records (take (redo_place slots) slots)
        reach = omega (arith, placed.next, place_is, long_is, live_more slots i here, live_whole slot live, live_grows slots (i + 1) (redo_place slots) (omega (arith, before, may.redo_is)))

        stands_so : OfSlots first end slots t (λ v. volume_of x ≡ Some (record v { slots = set slots i (with_start place (get_or slots i [])) }))
        stands_so v some same starts ends =
            let some0 : volume_of t ≡ Some (v0 v same ends move slot_is place_is start_is long_is none) = some ∙ (λ q. Some (record v { slots = same q })) in
            moved_volume n t _ is some0 quiet may.version may.unmarked i (can0 v same ends move slot_is place_is start_is long_is none) move
            (at_file v same ends move slot_is place_is start_is long_is none) x quiet_x
            (subst (λ (r : ℕ). HasMoved (directory_start v.header) move.place r move t x) (sym may.redo_is) (subst (λ (d : ℕ). HasMoved d move.place redo move t x) (sym starts) has))
            ∙ ap (λ (p : ℕ). Some (record v { slots = set slots i (with_start p slot) })) (start0 v same ends move slot_is place_is start_is long_is none)

    -- a stop leaves the files as they were
    pub move_keeps : (t y : Tape) (move : Move) → IsTape n t → IsSettled t → move.slot ≡ i → move.place ≡ place → move.start ≡ start_of slot → move.length ≡ length_of slot
        → move.moved ≡ 0 → i < 65535 → IsUnderWay first move.place redo move t y → OfSlots first end slots t (λ v. KeepsFiles n t y)
    move_keeps t y move is quiet slot_is place_is start_is long_is none number way v some same starts ends =
        let some0 : volume_of t ≡ Some (v0 v same ends move slot_is place_is start_is long_is none) = some ∙ (λ q. Some (record v { slots = same q })) in
        way_keeps n t _ is some0 quiet may.version may.unmarked i (can0 v same ends move slot_is place_is start_is long_is none) move
        (at_file v same ends move slot_is place_is start_is long_is none)
        (subst (λ (r : ℕ). MayMove n (directory_start v.header) move.place r move) (sym may.redo_is)
        (subst (λ (d : ℕ). MayMove n d move.place redo move) (sym starts) (may_move move slot_is place_is start_is long_is none number)))
        (ap (λ (p : ℕ). repacked n (Some (record v { slots = set slots i (with_start p slot) }))) (start0 v same ends move slot_is place_is start_is long_is none)
        ∙ (λ q. ((may_never n first end redo later may_pack_on v ∙ sym (may_never n first end redo slots may v)) q, Some (packed_alike v ends q))))
        y
        (subst (λ (r : ℕ). IsUnderWay (directory_start v.header) move.place r move t y) (sym may.redo_is) (subst (λ (d : ℕ). IsUnderWay d move.place redo move t y) (sym starts) way))

-- ---- a file that stands there already, or none

-- where files are packed, the last one that has records ends where the next one is to begin
packed_last : (place : ℕ) (xs : List (List ℕ)) → are_packed place xs ≡ true
    → (live_records xs ≡ 0) ⊎ ((k : ℕ) × (k < length xs) × (occupies (get_or xs k []) ≡ true) × (end_of (get_or xs k []) ≡ place + live_records xs))
packed_last place [] are = inl refl
packed_last place (x ∷ xs) are =
    let parts = and_parts (stands_at place x) (are_packed (place + live_length x) xs) are in
    elim (packed_last (place + live_length x) xs parts.1) [
      | inr found ↦ inr (suc found.0, omega (arith, found.1), found.2, omega (arith, found.3))
      | inl none ↦ elim (cases_eq (live_length x) 0) [
        | inl zero_is ↦ inl (omega (arith, zero_is, none))
        | inr some ↦
            let on : occupies x ≡ true = lives x some in
            let start : start_of x ≡ place = standing place x parts.0 on in
            let long : live_length x ≡ length_of x = live_whole x (and_parts (is_live x) (has_records x) on).0 in
            inr (0, omega arith, on, omega (arith, start, long, none))
      ]
    ]
  where
    lives : (x : List ℕ) → live_length x ≢ 0 → occupies x ≡ true
    lives x some = by (is_live x) refl
      where
        by : (b : Bool) → is_live x ≡ b → occupies x ≡ true
        by true e = and_from (is_live x) (has_records x) e (lt-ltb 0 (length_of x) (omega (arith, some, live_whole x e)))
        by false e = absurd (some (ap (λ (b : Bool). if b then length_of x else 0) e))

module _ (n first end redo : ℕ) (slots : List (List ℕ)) (may : MayPack n first end redo slots) (i place : ℕ) (placed : ArePlaced end i place slots) (before : i < redo) where
  here_too : i < length slots
  here_too = omega (arith, before, redo_lies n first end redo slots may)

  -- no file begins below its place
  pub not_below : occupies (get_or slots i []) ≡ true → place ≤ start_of (get_or slots i [])
  not_below takes =
      let legal = may.volume.legal in
      elim (packed_last end (take i slots) placed.packed) [
        | inl none ↦ omega (arith, none, placed.next, may.ends, (legal.within i here_too takes).0)
        | inr found ↦
            let k : ℕ = found.0 in
            let less : k < i = omega (arith, found.1, length-take i slots) in
            let same : get_or (take i slots) k [] ≡ get_or slots k [] = get_or-take i slots k [] less in
            let takes_k : occupies (get_or slots k []) ≡ true = sym (ap occupies same) ∙ found.2 in
            let up_to = rise slots may.in_order k i less here_too takes_k takes in
            elim (legal.apart k i less here_too takes_k takes) [
              | inl le ↦ omega (arith, le, found.3, ap end_of same, placed.next)
              | inr le ↦ absurd (omega (arith, le, up_to))
            ]
      ]

  pub stays_placed : stands_at place (get_or slots i []) ≡ true → ArePlaced end (i + 1) (place + live_length (get_or slots i [])) slots
  stays_placed stands = record {
    packed = packed_more end slots i here_too ∙ and_from _ _ placed.packed (ap (λ (p : ℕ). stands_at p (get_or slots i [])) (sym placed.next) ∙ stands);
    next = omega (arith, live_more slots i here_too, placed.next);
  }

  -- the place after it is not past the redo file
  pub next_below : place ≤ redo_start Two n → place + live_length (get_or slots i []) ≤ redo_start Two n
  next_below below = by (is_live (get_or slots i [])) refl
    where
      some : is_live (get_or slots i []) ≡ true → (m : ℕ) → length_of (get_or slots i []) ≡ m → place + m ≤ redo_start Two n
      some live zero none = omega (arith, below)
      some live (suc m) long =
          let takes : occupies (get_or slots i []) ≡ true = and_from (is_live (get_or slots i [])) _ live (lt-ltb 0 (length_of (get_or slots i [])) (omega (arith, long))) in
          let w : Volume = volume_with may.header slots in
          let file = other_is_file n w may.volume may.version i here_too (λ e. absurd (omega (arith, e, before, may.redo_is))) live in
          omega (arith, not_below takes, long, (ends_before_redo Two n w may.volume may.version).1 i here_too takes (is_file_tells n (get_or slots i []) file).1)

      by : (b : Bool) → is_live (get_or slots i []) ≡ b → place + live_length (get_or slots i []) ≤ redo_start Two n
      by true e = omega (arith, some e (length_of (get_or slots i [])) refl, live_whole (get_or slots i []) e)
      by false e = omega (arith, below, ap (λ (b : Bool). if b then length_of (get_or slots i []) else 0) e)

  -- a file that does not begin above its place stands there
  pub stands_there : (place < start_of (get_or slots i []) → occupies (get_or slots i []) ≡ true → ⊥) → stands_at place (get_or slots i []) ≡ true
  stands_there not_above = by (occupies (get_or slots i [])) refl
    where
      by : (b : Bool) → occupies (get_or slots i []) ≡ b → (if b then start_of (get_or slots i []) == place else true) ≡ true
      by true takes = eq-eqb _ _ (elim (cases_lt place (start_of (get_or slots i []))) [
        | inl down ↦ absurd (not_above down takes)
        | inr over ↦ omega (arith, over, not_below takes)
      ])
      by false off = refl

-- ---- one step after the other

pub same_slots_of : (first end : ℕ) (slots : List (List ℕ)) (t : Tape) → HasSlotsOf first end slots slots t t
same_slots_of first end slots t = record {
  volume = λ v some same starts ends. some ∙ (λ q. Some (record v { slots = same q }));
  outside = outside_same first (end + live_records (take (redo_place slots) slots)) t;
}

pub slots_keep : (n first end redo : ℕ) (slots : List (List ℕ)) (t : Tape) → MayPack n first end redo slots → IsTape n t → IsSettled t → OfSlots first end slots t (λ v. KeepsFiles n t t)
slots_keep n first end redo slots t may is quiet v some same starts ends =
    keeps_itself n t (record v { slots = slots }) is (some ∙ (λ q. Some (record v { slots = same q }))) quiet may.version

pub slots_then : (first end : ℕ) (a b c : List (List ℕ)) (t x y : Tape) → live_records (take (redo_place b) b) ≡ live_records (take (redo_place a) a)
    → HasSlotsOf first end a b t x → HasSlotsOf first end b c x y → HasSlotsOf first end a c t y
slots_then first end a b c t x y kept one two =
    let until : ℕ = end + live_records (take (redo_place a) a) in
    record {
      volume = λ v some same starts ends. two.volume (record v { slots = b }) (one.volume v some same starts ends) refl starts ends;
      outside = outside_then first until until t x y (omega arith) one.outside (outside_wider first (end + live_records (take (redo_place b) b)) until x y (omega (arith, kept)) two.outside);
    }

pub end_below : (n first end redo : ℕ) (slots : List (List ℕ)) → MayPack n first end redo slots → end ≤ redo_start Two n
end_below n first end redo slots may = omega (arith, (ends_before_redo Two n (volume_with may.header slots) may.volume may.version).0, may.ends)

-- where the files before a slot stand at their places, the next place is not past the redo file
pub placed_below : (n first end redo : ℕ) (slots : List (List ℕ)) → MayPack n first end redo slots → (i place : ℕ) → ArePlaced end i place slots → i ≤ redo
    → place ≤ redo_start Two n
placed_below n first end redo slots may i place placed le = elim (packed_last end (take i slots) placed.packed) [
  | inl none ↦ omega (arith, none, placed.next, end_below n first end redo slots may)
  | inr found ↦
      let k : ℕ = found.0 in
      let slot : List ℕ = get_or slots k [] in
      let less : k < i = omega (arith, found.1, length-take i slots) in
      let same : get_or (take i slots) k [] ≡ slot = get_or-take i slots k [] less in
      let takes : occupies slot ≡ true = sym (ap occupies same) ∙ found.2 in
      let here : k < length slots = omega (arith, less, le, redo_lies n first end redo slots may) in
      let w : Volume = volume_with may.header slots in
      let file = other_is_file n w may.volume may.version k here (λ e. absurd (omega (arith, e, less, le, may.redo_is))) (and_parts (is_live slot) (has_records slot) takes).0 in
      omega (arith, found.3, ap end_of same, placed.next, (ends_before_redo Two n w may.volume may.version).1 k here takes (is_file_tells n slot file).1)
]

pub placed_none : (end : ℕ) (slots : List (List ℕ)) → ArePlaced end 0 end slots
placed_none end slots = record { packed = refl; next = omega arith }

pub packed_then : (n end : ℕ) (a b c : List (List ℕ)) → ArePackedAlike n end a b → ArePackedAlike n end b c → ArePackedAlike n end a c
packed_then n end a b c one two v ends = two v ends ∙ one v ends

pub still_then : (n first : ℕ) (a b c : List (List ℕ)) → MayStillPack n first a b → MayStillPack n first b c → MayStillPack n first a c
still_then n first a b c one two end redo may =
    let was = one end redo may in
    let now = two end was.0 was.1 in
    (now.0, now.1, packed_then n end a b c was.2 now.2)

pub tape_then : (n first : ℕ) (a b c : List (List ℕ)) (x y z : Option Tape) → MayStillPack n first a b → TapeHasSlots n first a b x y → TapeHasSlots n first b c y z → TapeHasSlots n first a c x z
tape_then n first a b c x y z still one two end redo t may is =
    let mid = still end redo may in
    let was = one end redo t may is in
    let now = two end mid.0 was.0 mid.1 was.1 in
    (now.0, now.1, slots_then first end a b c t was.0 now.0 (files_kept n first end redo mid.0 a b may mid.1 mid.2) was.2 now.2)
