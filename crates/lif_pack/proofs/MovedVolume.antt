-- A file of a packed volume that is moved as a whole: its slot has the new start, and all else of the volume stays.
use Rattle.std.proofs.Common.{◌≡◌, ◌<◌, ◌≤◌, ◌+◌, ◌-◌, ◌*◌, ◌++◌, ◌&&◌, ◌==◌, not, ℕ, List, [], Bool, true, false, if◌then◌else◌, Some, length, get_or, set, take, replicate, inl, inr, refl, sym, ◌∙◌, ap, subst, arith, bytes_eq}
use Rattle.std.specs.Prelude.{option_map, slice_index}
use Rattle.std.specs.FinMap.{get, insert}
use Rattle.std.proofs.lemmas.Bool.{and_parts, and_from, cases_eq, cases_lt, eqb-true}
use Rattle.std.proofs.lemmas.List.{ext_get_or, length-append, length-take, get_or_append_left, get_or-append-add, get_or-take, get_or-replicate, set-get_or}
use Rattle.std.proofs.lemmas.Slice.Eq.{bytes_eq-Decides}
use Rattle.lif_model.specs.Numbers.{two_at}
use Rattle.lif_model.specs.Tape.{Tape, IsTape, record_at, bytes_from}
use Rattle.lif_model.specs.Header.{directory_start}
use Rattle.lif_model.specs.Directory.{name_of, start_of, length_of, slots_of}
use Rattle.lif_model.specs.declared.version.Version.TheVariants.{Two}
use Rattle.lif_model.specs.Gate.{gate_of}
use Rattle.lif_model.specs.Redo.{targets_place, settled, IsSettled}
use Rattle.lif_model.specs.Volume.{Volume, Files, is_adopted_with, is_file, content_of, files_of, volume_in, volume_of, is_foreign_gated}
use Rattle.lif_model.specs.Fit.{redo_place}
use Rattle.lif_model.specs.Apply.{is_upgraded}
use Rattle.lif_model.proofs.Redo.{settled_none, length_settled, redo_places}
use Rattle.lif_model.proofs.Volume.{quiet_agree}
use Rattle.lif_model.proofs.Files.{same_files, get_file, get_stored}
use Rattle.lif_model.proofs.Adopted.{settles_below_adopted}
use Rattle.lif_model.proofs.Named.{Names, equal, other, names_of, named_at_place}
use Rattle.lif_model.proofs.Directory.{volume_tells}
use Rattle.lif_model.proofs.Slotted.{IsOn, is_on}
use Rattle.lif_model.specs.Packing.{packed_start, with_start, redo_slot, marked_slot, marked_count, unmarked, bears_mark, has_mark, finished_with, files_shown, repacked}
use Rattle.lif_pack.specs.declared.marks.Move.{Move}
use Rattle.lif_pack.specs.Marks.{IsMoveAt}
use Rattle.lif_pack.specs.Moving.{HasMoved}
use Rattle.lif_pack.specs.Tasks.{KeepsFiles}
use Rattle.lif_pack.proofs.Order.{CanMove}
use Rattle.lif_pack.proofs.Order as order
use Rattle.lif_pack.proofs.Finishing.{redo_here, other_is_file}
use Rattle.lif_pack.proofs.Finishes.{unmarked_volume}
use Rattle.lif_pack.proofs.FinishedTape.{moved_below}
use Rattle.lif_pack.proofs.FinishedVolume as moved

-- ---- an entry whose field is zero

module _ (entry : List ℕ) (size : length entry ≡ 32) (none : marked_slot entry ≡ 0) (no_count : marked_count entry ≡ 0) where
  slot_bytes : 256 * slice_index entry 28 + slice_index entry 29 ≡ 0
  unfolding two_at
  slot_bytes = none

  count_bytes : 256 * slice_index entry 30 + slice_index entry 31 ≡ 0
  unfolding two_at
  count_bytes = no_count

  zero_at : (k : ℕ) → 28 ≤ k → k < 32 → get_or entry k 0 ≡ 0
  zero_at k le lt = elim (cases_eq k 28) [
    | inl e ↦ ap (λ (m : ℕ). get_or entry m 0) e ∙ omega (arith, slot_bytes)
    | inr a ↦ elim (cases_eq k 29) [
      | inl e ↦ ap (λ (m : ℕ). get_or entry m 0) e ∙ omega (arith, slot_bytes)
      | inr b ↦ elim (cases_eq k 30) [
        | inl e ↦ ap (λ (m : ℕ). get_or entry m 0) e ∙ omega (arith, count_bytes)
        | inr c ↦ let e : k ≡ 31 = omega (arith, le, lt, a, b, c) in ap (λ (m : ℕ). get_or entry m 0) e ∙ omega (arith, count_bytes)
      ]
    ]
  ]

  pub unmarked_same : unmarked entry ≡ entry
  unfolding unmarked
  unmarked_same =
      let front : length (take 28 entry) ≡ 28 = omega (arith, length-take 28 entry, size) in
      ext_get_or 0 (take 28 entry ++ replicate 4 0) entry (length-append (take 28 entry) (replicate 4 0) ∙ omega (arith, front, size)) (λ k lt. elim (cases_lt k 28) [
        | inl under ↦ get_or_append_left (take 28 entry) (replicate 4 0) 0 k (omega (arith, under, front)) ∙ get_or-take 28 entry k 0 under
        | inr over ↦
            let less : k < 32 = omega (arith, lt, length-append (take 28 entry) (replicate 4 0), front) in
            let m : ℕ = k - 28 in
            let at : k ≡ length (take 28 entry) + m = omega (arith, over, front) in
            ap (λ (q : ℕ). get_or (take 28 entry ++ replicate 4 0) q 0) at ∙ get_or-append-add (take 28 entry) (replicate 4 0) m 0
            ∙ get_or-replicate 4 m 0 0 (omega (arith, less, over)) ∙ sym (zero_at k over less)
      ])

-- a volume of version 2 without a mark
pub no_mark_is_zero : (n : ℕ) (v : Volume) → is_upgraded n v ≡ true → bears_mark n v ≡ false → (marked_slot (redo_slot v) ≡ 0) × (marked_count (redo_slot v) ≡ 0)
no_mark_is_zero n v up clear =
    let both : (marked_slot (redo_slot v) == 0 && marked_count (redo_slot v) == 0) ≡ true = by (is_upgraded n v) up (marked_slot (redo_slot v) == 0 && marked_count (redo_slot v) == 0) clear in
    let parts = and_parts (marked_slot (redo_slot v) == 0) (marked_count (redo_slot v) == 0) both in
    (eqb-true (marked_slot (redo_slot v)) 0 parts.0, eqb-true (marked_count (redo_slot v)) 0 parts.1)
  where
    by : (a : Bool) → a ≡ true → (b : Bool) → (a && not b) ≡ false → b ≡ true
    by true on true off = refl
    by true on false off = sym off
    by false on b off = cc

-- ---- the file is moved

module _ (n : ℕ) (u : Tape) (v : Volume) (is : IsTape n u) (some : volume_of u ≡ Some v) (quiet : IsSettled u) (up : is_upgraded n v ≡ true) (clear : bears_mark n v ≡ false)
    (i : ℕ) (can : CanMove v i 0) where
  inside : volume_in u ≡ Some v
  inside = ap volume_in (sym quiet) ∙ some

  abbrev on : IsOn n u v
  on = is_on n u v is inside

  abbrev r : ℕ
  r = redo_place v.slots

  within : r < length v.slots
  within = redo_here n v on.volume up

  abbrev slot : List ℕ
  slot = get_or v.slots i []

  abbrev place : ℕ
  place = packed_start v i

  abbrev y : Tape
  y = finished_with v (Some (i, 0)) u

  abbrev bytes : List ℕ
  bytes = bytes_from u place 0 ++ bytes_from u (start_of slot + 0) (length_of slot - 0)

  abbrev written : List (List ℕ)
  written = set (set v.slots r (unmarked (redo_slot v))) i (with_start place slot)

  abbrev w : Volume
  w = record { header = v.header; slots = written; files = insert v.files (name_of slot) bytes }

  ends : moved.Ends n u v is inside up y w
  ends = moved.moves_file n u v is inside up i 0 can

  -- the tape on which it is moved at once
  pub moved_is_settled : IsSettled (finished_with v (Some (i, 0)) u)
  moved_is_settled =
      let places = redo_places Two n in
      settled_none y (quiet_agree u y quiet (ends.shape.records ∙ sym is.records)
      (subst (λ (m : ℕ). record_at y (gate_of m) ≡ record_at u (gate_of m)) (sym is.records) (ends.above (gate_of n) places.0))
      (subst (λ (m : ℕ). record_at y (targets_place m) ≡ record_at u (targets_place m)) (sym is.records) (ends.above (targets_place n) places.1)))

  redo_stays : set v.slots r (unmarked (redo_slot v)) ≡ v.slots
  redo_stays =
      let zero = no_mark_is_zero n v up clear in
      ap (set v.slots r) (unmarked_same (redo_slot v) (on.volume.entries r within) zero.0 zero.1) ∙ set-get_or v.slots r []

  -- the file has the bytes that it had
  content : get v.files (name_of slot) ≡ Some bytes
  content =
      let here : i < length v.slots = order.here n v i 0 on.volume within can in
      let file : is_file n slot ≡ true = other_is_file n v on.volume up i here (λ e. absurd (omega (arith, e, can.before_redo))) can.live in
      let tells = volume_tells u v inside in
      let named : (is_file n slot && bytes_eq (name_of slot) (name_of slot)) ≡ true = and_from _ _ file ((bytes_eq-Decides (name_of slot) (name_of slot)).1 refl) in
      let from : start_of slot ≡ start_of slot + 0 = omega arith in
      let count : length_of slot ≡ length_of slot - 0 = omega arith in
      ap (λ (m : Files). get m (name_of slot)) (tells.3 ∙ sym (ap (files_of u) tells.2))
      ∙ get_file u v.slots n (name_of slot) (sym is.records)
      ∙ ap (option_map (content_of u)) (named_at_place n v.header v.slots on.volume.legal (name_of slot) i here named)
      ∙ ap Some (λ q. bytes_from u (from q) (count q))

  files_stay : insert v.files (name_of slot) bytes ≡ v.files
  files_stay = same_files (insert v.files (name_of slot) bytes) v.files (λ q. get_stored v.files (name_of slot) bytes q ∙ by q (names_of q (name_of slot)))
    where
      by : (q : List ℕ) → Names q (name_of slot) → (if bytes_eq q (name_of slot) then Some bytes else get v.files q) ≡ get v.files q
      by q (equal same e) = ap (λ (b : Bool). if b then Some bytes else get v.files q) e ∙ sym (ap (get v.files) same ∙ content)
      by q (other off e) = ap (λ (b : Bool). if b then Some bytes else get v.files q) e

  w_is : Some w ≡ Some (record v { slots = set v.slots i (with_start (packed_start v i) (get_or v.slots i [])) })
  w_is = λ q. Some (record { header = v.header; slots = set (redo_stays q) i (with_start place slot); files = files_stay q })

  -- with the new start the same files are shown
  pub moved_shows : files_shown n (Some (record v { slots = set v.slots i (with_start (packed_start v i) (get_or v.slots i [])) })) ≡ files_shown n (Some v)
  moved_shows = sym (ap (files_shown n) w_is) ∙ (λ q. Some (record { header = v.header; slots = ends.bare q; files = files_stay q }))

  -- the file is moved on the tape x
  module _ (move : Move) (at_file : IsMoveAt v i 0 move) (x : Tape) (quiet_x : IsSettled x) (has : HasMoved (directory_start v.header) move.place (redo_place v.slots) move u x) where
    -- what settles to it has that volume, and no gate that is not ours
    settles_to : (c : Tape) → settled c ≡ x → (volume_of c ≡ Some w) × (is_foreign_gated c ≡ false)
    settles_to c to =
        let tells = volume_tells y w ends.volume in
        let adopted : is_adopted_with (length y) Two (slots_of y) ≡ true = (λ q. is_adopted_with (ends.shape.records q) Two (sym tells.2 q)) ∙ ends.upgraded in
        let both = settles_below_adopted Two y c tells.0 adopted (record {
          records = sym (length_settled c) ∙ ap (λ (q : Tape). length q) to ∙ has.records ∙ is.records ∙ sym ends.shape.records;
          same = λ k lt. ap (λ (q : Tape). record_at q k) to ∙ moved_below n u v is some quiet up i 0 can move at_file x has k (omega (arith, lt, ends.shape.records));
        }) in
        (both.0 ∙ ends.volume, both.1)

    pub moved_volume : volume_of x ≡ Some (record v { slots = set v.slots i (with_start (packed_start v i) (get_or v.slots i [])) })
    moved_volume = (settles_to x quiet_x).0 ∙ w_is

    -- and is shown with the same files
    pub moved_keeps : repacked n (Some (record v { slots = set v.slots i (with_start (packed_start v i) (get_or v.slots i [])) })) ≡ repacked n (Some v)
        → (c : Tape) → settled c ≡ x → KeepsFiles n u c
    moved_keeps alike c to =
        let both = settles_to c to in
        let size : length c ≡ n = sym (length_settled c) ∙ ap (λ (q : Tape). length q) to ∙ has.records ∙ is.records in
        let after = unmarked_volume c ((λ q. has_mark (size q) (both.0 q)) ∙ ends.clear) ∙ both.0 ∙ w_is in
        let before = unmarked_volume u ((λ q. has_mark (is.records q) (some q)) ∙ clear) ∙ some in
        record {
          files = ap (files_shown n) after ∙ moved_shows ∙ sym (ap (files_shown n) before);
          again = ap (repacked n) after ∙ alike ∙ sym (ap (repacked n) before);
          own_gate = both.1;
        }
