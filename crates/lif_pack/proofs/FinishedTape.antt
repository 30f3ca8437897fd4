-- A tape on which a task was carried out is the finished one in all records below the redo file.
use Rattle.std.proofs.Common.{◌≡◌, ◌<◌, ◌≤◌, ◌+◌, ◌-◌, ℕ, List, [], ◌∷◌, Bool, true, false, if◌then◌else◌, Option, Some, None, length, get_or, inl, inr, sym, ◌∙◌, ap, subst, arith, refl, suc}
use Rattle.std.specs.Prelude.{Result, Ok, Err, OnOk}
use Rattle.std.proofs.lemmas.Bool.{cases_lt}
use Rattle.lif_model.proofs.Redo.{settled_twice, length_settled}
use Rattle.lif_model.specs.Tape.{Tape, IsTape, record_at}
use Rattle.lif_model.specs.Header.{directory_start, directory_length, directory_end}
use Rattle.lif_model.specs.Directory.{start_of, length_of, slots_of}
use Rattle.lif_model.specs.declared.version.Version.TheVariants.{Two}
use Rattle.lif_model.specs.Redo.{redo_start, IsSettled, settled}
use Rattle.lif_model.specs.Volume.{Volume, is_adopted_with, volume_in, volume_of}
use Rattle.lif_model.specs.Fit.{redo_place}
use Rattle.lif_model.specs.Apply.{is_upgraded}
use Rattle.lif_model.specs.Writing.{SlotWrites, entry_from, with_slots}
use Rattle.lif_model.proofs.Adopted.{settles_below_adopted}
use Rattle.lif_model.proofs.Directory.{volume_tells}
use Rattle.lif_model.proofs.Writing.{untouched, rewritten, slots_record, slots_elsewhere}
use Rattle.lif_model.proofs.Slotted.{IsOn, is_on, slot_here}
use Rattle.lif_model.specs.Packing.{has_mark, marked_slot, marked_count, packed_start, with_start, redo_slot, unmarked, bears_mark, move_of, finishing_slots, with_moved, finished_with, finished_by, finished, finished_volume}
use Rattle.lif_pack.specs.declared.marks.Move.{Move}
use Rattle.lif_pack.specs.declared.tasks.Task.{Task}
use Rattle.lif_pack.specs.Marks.{IsMoveAt, IsMarked}
use Rattle.lif_pack.specs.Moving.{IsMarkedAs, HasMoved}
use Rattle.lif_pack.specs.Tasks.{IsTaskOf, IsCleared}
use Rattle.lif_model.specs.Finished.{IsFinished}
use Rattle.lif_pack.proofs.Order.{CanMove, move_is, above_directory}
use Rattle.lif_pack.proofs.Order as order
use Rattle.lif_pack.proofs.Finishing.{redo_here}
use Rattle.lif_pack.proofs.Marking.{mark_tells}
use Rattle.lif_pack.proofs.FinishedVolume as moved
use Rattle.lif_pack.proofs.Finishes.{finishes, finished_unmarked, unmarked_volume}
use Rattle.lif_pack.proofs.Tasking.{marked_is_upgraded}

-- a settled tape that agrees with the finished one below the redo file
pub finished_from : (n : ℕ) (t x : Tape) (v : Volume) → IsTape n t → volume_of t ≡ Some v → bears_mark n v ≡ true → length x ≡ n → IsSettled x
    → ((k : ℕ) → k < redo_start Two n → record_at x k ≡ record_at (finished t) k) → IsFinished t x
finished_from n t x v is some marked size quiet same =
    let done = finishes n t v is some in
    let w : Volume = finished_volume v (settled t) in
    let f : Tape = finished t in
    let tells = volume_tells f w done.volume in
    let adopted : is_adopted_with (length f) Two (slots_of f) ≡ true =
    (λ i. is_adopted_with (done.shape.records i) Two (sym tells.2 i)) ∙ done.upgraded ∙ marked_is_upgraded n v marked in
    let settles = settles_below_adopted Two f x tells.0 adopted (record {
      records = size ∙ sym done.shape.records;
      same = λ k lt. ap (λ (z : Tape). record_at z k) quiet ∙ same k (omega (arith, lt, done.shape.records));
    }) in
    record {
      is_settled = quiet;
      records = size ∙ sym is.records;
      plain = λ none. let no : true ≡ false = sym marked ∙ sym (λ i. has_mark (is.records i) (some i)) ∙ none in cc;
      below = λ k lt. same k (omega (arith, lt, is.records));
      volume = settles.0;
      clear = (λ i. has_mark (size i) ((settles.0 ∙ done.volume) i)) ∙ done.clear;
    }

-- ---- a file of a volume of version 2 was moved, of which so many records stood at its place

module _ (n : ℕ) (t : Tape) (v : Volume) (is : IsTape n t) (some : volume_of t ≡ Some v) (quiet : IsSettled t) (up : is_upgraded n v ≡ true) where
  inside : volume_in t ≡ Some v
  inside = ap volume_in (sym quiet) ∙ some

  abbrev on_tape : IsOn n t v
  on_tape = is_on n t v is inside

  abbrev first : ℕ
  first = directory_start v.header

  abbrev redo : ℕ
  redo = redo_place v.slots

  pub redo_stands : entry_from t (directory_start v.header) (redo_place v.slots) ≡ redo_slot v
  redo_stands = slot_here n t v on_tape redo (redo_here n v on_tape.volume up)

  module _ (i j : ℕ) (can : CanMove v i j) (move : Move) (at_file : IsMoveAt v i j move) where
    redo_lies : redo < length v.slots
    redo_lies = redo_here n v on_tape.volume up

    abbrev to_place : ℕ
    to_place = packed_start v i

    abbrev of_slot : List ℕ
    of_slot = get_or v.slots i []

    file_stands : entry_from t first i ≡ of_slot
    file_stands = slot_here n t v on_tape i (order.here n v i j on_tape.volume redo_lies can)

    -- the writes of the directory, by what stands there
    abbrev there : SlotWrites
    there = (redo, unmarked (entry_from t first redo)) ∷ (move.slot, with_start move.place (entry_from t first move.slot)) ∷ []

    pub same_writes : ◌≡◌ {A = SlotWrites} ((redo_place v.slots, unmarked (entry_from t (directory_start v.header) (redo_place v.slots)))
        ∷ (move.slot, with_start move.place (entry_from t (directory_start v.header) move.slot)) ∷ []) (finishing_slots v (Some (i, j)))
    same_writes = λ q. (redo, unmarked (redo_stands q)) ∷ (at_file.slot q, with_start (at_file.place q) ((ap (entry_from t first) at_file.slot ∙ file_stands) q)) ∷ []

    abbrev moved_tape : Tape
    moved_tape = with_moved v (Some (i, j)) t

    pub low_place : directory_end v.header ≤ packed_start v i
    low_place = above_directory n v i j on_tape.volume redo_lies can

    -- below the redo file the tape is that with the file moved and the slots written
    pub moved_below : (x : Tape) → HasMoved (directory_start v.header) move.place (redo_place v.slots) move t x → (k : ℕ) → k < redo_start Two n
        → record_at x k ≡ record_at (finished_with v (Some (i, j)) t) k
    moved_below x has k lt = elim (cases_lt k first) [
      | inl under ↦
          has.others k (omega (arith, lt, is.records)) (inl under) (inl (omega (arith, under, at_file.place, low_place)))
          ∙ sym (moved.outside n t v is inside up i j can k (inl (omega (arith, under, low_place))))
          ∙ sym (slots_elsewhere first (finishing_slots v (Some (i, j))) moved_tape k (untouched first (directory_length v.header) (finishing_slots v (Some (i, j))) k (moved.are_writes n t v is inside up i j can) (inl under)))
      | inr over ↦ elim (cases_lt k to_place) [
        | inl below ↦
            let under : k < n = omega (arith, lt) in
            has.directory k over (omega (arith, below, at_file.place))
            ∙ ap (λ (ws : SlotWrites). record_at (with_slots first ws t) k) same_writes
            ∙ slots_record first (finishing_slots v (Some (i, j))) t k (omega (arith, under, is.records))
            ∙ ap (rewritten first (finishing_slots v (Some (i, j))) k) (sym (moved.outside n t v is inside up i j can k (inl (omega (arith, below)))))
            ∙ sym (slots_record first (finishing_slots v (Some (i, j))) moved_tape k (omega (arith, under, moved.size0 n t v is inside up i j can)))
        | inr above ↦
            after k lt above
            ∙ sym (slots_elsewhere first (finishing_slots v (Some (i, j))) moved_tape k (untouched first (directory_length v.header) (finishing_slots v (Some (i, j))) k (moved.are_writes n t v is inside up i j can) (inr (omega (arith, above, low_place)))))
      ]
    ]
      where
        after : (k : ℕ) → k < redo_start Two n → to_place ≤ k → record_at x k ≡ record_at moved_tape k
        after k lt above = elim (cases_lt k (to_place + j)) [
          | inl early ↦ has.others k (omega (arith, lt, is.records)) (inr (omega (arith, above, at_file.place))) (inl (omega (arith, early, at_file.place, at_file.moved)))
              ∙ sym (moved.outside n t v is inside up i j can k (inl early))
          | inr late ↦ elim (cases_lt k (to_place + length_of of_slot)) [
            | inl inner ↦
                let m : ℕ = k - (to_place + j) in
                let to : k ≡ move.place + (j + m) = omega (arith, late, at_file.place) in
                let from : move.start + (j + m) ≡ start_of of_slot + j + m = omega (arith, at_file.start) in
                let there_k : to_place + j + m ≡ k = omega (arith, late) in
                ap (record_at x) to ∙ has.moved (j + m) (omega (arith, at_file.moved)) (omega (arith, late, inner, at_file.long)) ∙ ap (record_at t) from
                ∙ sym (moved.inside n t v is inside up i j can m (omega (arith, late, inner))) ∙ ap (record_at moved_tape) there_k
            | inr outer ↦ has.others k (omega (arith, lt, is.records)) (inr (omega (arith, above, at_file.place))) (inr (omega (arith, outer, at_file.place, at_file.long)))
                ∙ sym (moved.outside n t v is inside up i j can k (inr outer))
          ]
        ]

    -- and that is one on which the file was moved
    pub with_has_moved : HasMoved (directory_start v.header) move.place (redo_place v.slots) move t (finished_with v (Some (i, j)) t)
    with_has_moved = record {
      records = (moved.moves_file n t v is inside up i j can).shape.records ∙ sym is.records;
      moved = λ q le lt.
          let m : ℕ = q - j in
          let to : move.place + q ≡ to_place + j + m = omega (arith, le, at_file.moved, at_file.place) in
          let from : start_of of_slot + j + m ≡ move.start + q = omega (arith, le, at_file.moved, at_file.start) in
          ap (record_at (finished_with v (Some (i, j)) t)) to ∙ past (to_place + j + m) (omega arith)
          ∙ moved.inside n t v is inside up i j can m (omega (arith, le, lt, at_file.moved, at_file.long)) ∙ ap (record_at t) from;
      directory = λ k over below.
          let under : k < n = omega (arith, below, at_file.place, place_below) in
          slots_record first (finishing_slots v (Some (i, j))) moved_tape k (omega (arith, under, moved.size0 n t v is inside up i j can))
          ∙ ap (rewritten first (finishing_slots v (Some (i, j))) k) (moved.outside n t v is inside up i j can k (inl (omega (arith, below, at_file.place))))
          ∙ sym (slots_record first (finishing_slots v (Some (i, j))) t k (omega (arith, under, is.records)))
          ∙ sym (ap (λ (ws : SlotWrites). record_at (with_slots first ws t) k) same_writes);
      others = λ k lt out apart.
          let here : record_at (finished_with v (Some (i, j)) t) k ≡ record_at moved_tape k = elim out [
            | inl under ↦ slots_elsewhere first (finishing_slots v (Some (i, j))) moved_tape k
                (untouched first (directory_length v.header) (finishing_slots v (Some (i, j))) k (moved.are_writes n t v is inside up i j can) (inl under))
            | inr over ↦ past k (omega (arith, over, at_file.place))
          ] in
          here ∙ elim apart [
            | inl early ↦ moved.outside n t v is inside up i j can k (inl (omega (arith, early, at_file.place, at_file.moved)))
            | inr late ↦ moved.outside n t v is inside up i j can k (inr (omega (arith, late, at_file.place, at_file.long)))
          ];
    }
      where
        -- after the directory
        past : (k : ℕ) → to_place ≤ k → record_at (finished_with v (Some (i, j)) t) k ≡ record_at moved_tape k
        past k above = slots_elsewhere first (finishing_slots v (Some (i, j))) moved_tape k
            (untouched first (directory_length v.header) (finishing_slots v (Some (i, j))) k (moved.are_writes n t v is inside up i j can) (inr (omega (arith, above, low_place))))

        place_below : to_place ≤ n
        place_below = omega (arith, can.down, (on_tape.volume.legal.within i (order.here n v i j on_tape.volume redo_lies can) (order.takes n v i j on_tape.volume redo_lies can)).1)

-- ---- a settled tape with a mark

module _ (n : ℕ) (t : Tape) (v : Volume) (is : IsTape n t) (some : volume_of t ≡ Some v) (quiet : IsSettled t) (marked : bears_mark n v ≡ true) where
  pub some_in : volume_in t ≡ Some v
  some_in = ap volume_in (sym quiet) ∙ some

  pub up : is_upgraded n v ≡ true
  up = marked_is_upgraded n v marked

  abbrev pub on : IsOn n t v
  on = is_on n t v is some_in

  abbrev start : ℕ
  start = directory_start v.header

  abbrev r : ℕ
  r = redo_place v.slots

  -- what it is finished to
  pub finished_is : finished t ≡ finished_with v (move_of v) t
  finished_is =
      let here : bears_mark (length t) v ≡ true = ap (λ (m : ℕ). bears_mark m v) is.records ∙ marked in
      (λ i. finished_by (some i) (quiet i)) ∙ ap (λ (b : Bool). if b then finished_with v (move_of v) t else t) here

  pub redo_there : entry_from t start r ≡ redo_slot v
  redo_there = slot_here n t v on r (redo_here n v on.volume up)

  -- the mark alone was taken off
  pub cleared_is_finished : (x : Tape) → move_of v ≡ None → length x ≡ n → IsSettled x
      → ((k : ℕ) → k < redo_start Two n → record_at x k ≡ record_at (with_slots start ((r, unmarked (entry_from t start r)) ∷ []) t) k)
      → IsFinished t x
  cleared_is_finished x none size settled_x same = finished_from n t x v is some marked size settled_x (λ k lt.
      same k lt ∙ ap (λ (e : List ℕ). record_at (with_slots start ((r, unmarked e) ∷ []) t) k) redo_there
      ∙ sym (ap (λ (z : Tape). record_at z k) (finished_is ∙ ap (λ (move : Option (ℕ × ℕ)). finished_with v move t) none)))

  -- a file was moved
  module _ (i j : ℕ) (named : move_of v ≡ Some (i, j)) (move : Move) (at_file : IsMoveAt v i j move) where
    can : CanMove v i j
    can = move_is v i j named

    finished_here : finished t ≡ finished_with v (Some (i, j)) t
    finished_here = finished_is ∙ ap (λ (m : Option (ℕ × ℕ)). finished_with v m t) named

    pub moved_is_finished : (x : Tape) → IsSettled x → HasMoved start move.place r move t x → IsFinished t x
    moved_is_finished x settled_x has = finished_from n t x v is some marked (has.records ∙ is.records) settled_x (λ k lt.
        moved_below n t v is some quiet up i j can move at_file x has k lt ∙ sym (ap (λ (z : Tape). record_at z k) finished_here))

    -- the finished tape is one on which the file was moved
    pub finished_has_moved : HasMoved start move.place r move t (finished t)
    finished_has_moved = subst (HasMoved start move.place r move t) (sym finished_here) (with_has_moved n t v is some quiet up i j can move at_file)

-- ---- a task that was carried out

pub task_clears : (n : ℕ) (t : Tape) (v : Volume) (task : Task) (x : Tape) → IsTape n t → volume_of t ≡ Some v → IsSettled t → IsTaskOf n v task
    → task.moving ≡ None → IsCleared task.first task.redo t x → IsSettled x → IsFinished t x
task_clears n t v task x is some quiet of none cleared settled_x =
    cleared_is_finished n t v is some quiet of.marked x (subst (IsMarked v) none of.moving) (cleared.records ∙ is.records) settled_x
    (λ k lt. cleared.below k (omega (arith, lt, is.records))
    ∙ (λ i. record_at (with_slots (of.first i) ((of.redo i, unmarked (entry_from t (of.first i) (of.redo i))) ∷ []) t) k))

-- the mark of the task's file is that of the redo entry
pub task_marks : (n : ℕ) (t : Tape) (v : Volume) (task : Task) (move : Move) → IsTape n t → volume_of t ≡ Some v → IsSettled t → IsTaskOf n v task
    → task.moving ≡ Some move → IsMarkedAs move.slot move.moved (entry_from t task.first task.redo)
task_marks n t v task move is some quiet of named =
    let at : IsMarked v (Some move) = subst (IsMarked v) named of.moving in
    let mark = mark_tells v at.0 at.1 at.2 in
    let there : entry_from t task.first task.redo ≡ redo_slot v = (λ i. entry_from t (of.first i) (of.redo i)) ∙ redo_there n t v is some quiet of.marked in
    (ap marked_slot there ∙ mark.0 ∙ ap suc (sym at.3.slot), ap marked_count there ∙ mark.1 ∙ sym at.3.moved)

pub task_moves : (n : ℕ) (t : Tape) (v : Volume) (task : Task) (x : Tape) (move : Move) → IsTape n t → volume_of t ≡ Some v → IsSettled t → IsTaskOf n v task
    → task.moving ≡ Some move → HasMoved task.first move.place task.redo move t x → IsSettled x → IsFinished t x
task_moves n t v task x move is some quiet of named has settled_x =
    let at : IsMarked v (Some move) = subst (IsMarked v) named of.moving in
    moved_is_finished n t v is some quiet of.marked at.0 at.1 at.2 move at.3 x settled_x
    (subst (λ (r : ℕ). HasMoved (directory_start v.header) move.place r move t x) of.redo (subst (λ (d : ℕ). HasMoved d move.place task.redo move t x) of.first has))

-- ---- nothing to do

-- where there is no mark, the settled tape is the finished one
pub settled_is_finished : (n : ℕ) (t : Tape) → IsTape n t → has_mark n (volume_of t) ≡ false → IsFinished t (settled t)
settled_is_finished n t is none =
    let off : has_mark (length t) (volume_of t) ≡ false = ap (λ (m : ℕ). has_mark m (volume_of t)) is.records ∙ none in
    record {
      is_settled = settled_twice t;
      records = length_settled t;
      plain = λ off. refl;
      below = λ k lt. sym (ap (λ (z : Tape). record_at z k) (finished_unmarked t off));
      volume = ap volume_in (settled_twice t) ∙ sym (unmarked_volume t off);
      clear = (λ i. has_mark (length_settled t i) (volume_in (settled_twice t i))) ∙ off;
    }

-- what is finished once the tape is settled is finished
pub finished_after : (t x : Tape) → IsFinished (settled t) x → IsFinished t x
finished_after t x is =
    let same : finished (settled t) ≡ finished t = λ i. finished_by (volume_in (settled_twice t i)) (settled_twice t i) in
    record {
      is_settled = is.is_settled;
      records = is.records ∙ length_settled t;
      plain = λ none. is.plain ((λ i. has_mark (length_settled t i) (volume_in (settled_twice t i))) ∙ none) ∙ settled_twice t;
      below = λ k lt. is.below k (omega (arith, lt, length_settled t)) ∙ ap (λ (z : Tape). record_at z k) same;
      volume = is.volume ∙ ap volume_in same;
      clear = is.clear;
    }

-- ---- answers

pub on_ok_two : {T E A B C : Type 0} (r : Result T E) → (A → B → C) → OnOk r A → OnOk r B → OnOk r C
on_ok_two (Ok x) both a b = both a b
on_ok_two (Err e) both a b = tt
