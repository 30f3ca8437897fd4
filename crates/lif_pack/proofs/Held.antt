-- What was left to finish is done, on the tape and in the slots in memory.
use Rattle.std.proofs.Common.{◌≡◌, ◌<◌, ◌≤◌, ◌+◌, ◌-◌, ◌*◌, ◌/◌, ℕ, List, [], Bool, true, if◌then◌else◌, Option, Some, None, length, get_or, set, take, refl, sym, ◌∙◌, ap, subst, arith, get_or-set_other}
use Rattle.std.specs.Prelude.{IfSome}
use Rattle.std.proofs.lemmas.List.{set-get_or}
use Rattle.lif_model.specs.Tape.{Tape, IsTape}
use Rattle.lif_model.specs.Header.{directory_start, directory_end}
use Rattle.lif_model.specs.declared.version.Version.TheVariants.{Two}
use Rattle.lif_model.specs.Redo.{redo_start, settled, IsSettled}
use Rattle.lif_model.specs.Volume.{Volume, volume_of}
use Rattle.lif_model.specs.Fit.{redo_place}
use Rattle.lif_model.proofs.Directory.{settled_shape}
use Rattle.lif_model.specs.Packing.{live_records, are_packed, packed_start, with_start, redo_slot, unmarked, bears_mark, has_mark, move_of, finishing_slots, finished_volume_of, slots_after, finished_files, finished_volume}
use Rattle.lif_pack.specs.declared.marks.Move.{Move}
use Rattle.lif_pack.specs.declared.tasks.Task.{Task}
use Rattle.lif_pack.specs.Marks.{IsMarked}
use Rattle.lif_pack.specs.Moving.{MayMove}
use Rattle.lif_pack.specs.Steps.{MayPack, ArePlaced}
use Rattle.lif_pack.specs.Tasks.{MayFinish, calls_to_finish}
use Rattle.lif_model.specs.Finished.{IsFinished, StaysOutside}
use Rattle.lif_pack.specs.Packs.{IsFileLeft, IsTaskWith, AreThoseOf, slots_finished, calls_left_to, IsFinishedTo}
use Rattle.lif_pack.proofs.Finishing.{redo_here}
use Rattle.lif_pack.proofs.Finishes.{unmarked_volume, finishes}
use Rattle.lif_pack.proofs.MovedVolume.{unmarked_same, no_mark_is_zero}
use Rattle.lif_pack.proofs.Walking.{live_grows}
use Rattle.lif_pack.proofs.Beyond.{task_outside}
use Rattle.lif_pack.proofs.Placing.{may_pack_on, placed_on, placed_below, end_below}

-- ---- the slots in memory

module _ (n first end redo : ℕ) (slots : List (List ℕ)) (may : MayPack n first end redo slots) (move : Move) (is : IsFileLeft end redo slots move) where
  pub file_may : MayPack n first end redo (slots_finished slots (Some move))
  file_may = may_pack_on n first end redo slots may move.slot move.place is.placed is.before is.takes is.down

  pub file_front : ArePlaced end (move.slot + 1) (move.place + move.length) (slots_finished slots (Some move))
  file_front = subst (λ (m : ℕ). ArePlaced end (move.slot + 1) (move.place + m) (slots_finished slots (Some move))) (sym is.long)
      (placed_on n first end redo slots may move.slot move.place is.placed is.before is.takes is.down)

-- ---- nothing is left to do

-- the slots are those of the volume
pub held_same : (n first end redo : ℕ) (slots : List (List ℕ)) (v : Volume) → AreThoseOf n first end redo None slots v → slots ≡ v.slots
held_same n first end redo slots v those =
    let zero = no_mark_is_zero n v those.version those.task_is in
    let bare : unmarked (redo_slot v) ≡ redo_slot v = unmarked_same (redo_slot v) (those.volume.entries (redo_place v.slots) (redo_here n v those.volume those.version)) zero.0 zero.1 in
    those.slots_are ∙ sym (ap (λ (r : ℕ). set v.slots r (unmarked (redo_slot v))) those.redo_is) ∙ ap (set v.slots (redo_place v.slots)) bare ∙ set-get_or v.slots (redo_place v.slots) []

module _ (n first end redo : ℕ) (slots : List (List ℕ)) (t : Tape) (v : Volume) (is : IsTape n t) (some : volume_of t ≡ Some v) where
  pub none_left : AreThoseOf n first end redo None slots v → IsFinishedTo first end slots t t
  none_left those =
      record {
        volume = v;
        shown = unmarked_volume t ((λ i. has_mark (is.records i) (some i)) ∙ those.task_is) ∙ some;
        stands = some;
        slots_are = sym (held_same n first end redo slots v those);
        starts = those.starts;
        ends = those.ends;
        outside = record { records = refl; same = λ k lt out. refl };
      }

  -- ---- a task was carried out

  module _ (quiet : IsSettled t) (task : Task) (may : MayFinish n task) (those : AreThoseOf n first end redo (Some task) slots v) (x : Tape) (done : IsFinished t x) where
    abbrev w : Volume
    w = finished_volume v (settled t)

    shown : finished_volume_of t ≡ Some w
    shown = (finishes n t v is some).volume

    header : w.header ≡ v.header
    header = (finishes n t v is some).header

    slots_w : w.slots ≡ slots_after (finishing_slots v (move_of v)) v.slots
    slots_w =
        let marked : bears_mark (length (settled t)) v ≡ true = ap (λ (m : ℕ). bears_mark m v) (settled_shape n t is).records ∙ those.task_is.marked in
        ap (λ (b : Bool). (if b then record v { slots = slots_after (finishing_slots v (move_of v)) v.slots; files = finished_files v (move_of v) (settled t) } else v).slots) marked

    abbrev until : ℕ
    until = packed_start w (redo_place w.slots)

    finished_to : (later : List (List ℕ)) → w.slots ≡ later → IfSome task.moving (λ move. move.place + move.length ≤ until) → IsFinishedTo first end later t x
    finished_to later same fits = record {
      volume = w;
      shown = shown;
      stands = done.volume ∙ shown;
      slots_are = same;
      starts = ap directory_start header ∙ those.starts;
      ends = ap directory_end header ∙ those.ends;
      outside = subst (λ (d : ℕ). StaysOutside d until t x) those.starts
          (task_outside n t v is some quiet those.task_is.marked task until x those.task_is may (omega (arith, ap directory_end header)) fits done);
    }

    cleared_slots : set v.slots (redo_place v.slots) (unmarked (redo_slot v)) ≡ slots
    cleared_slots = ap (λ (r : ℕ). set v.slots r (unmarked (redo_slot v))) those.redo_is ∙ sym those.slots_are

    pub mark_left : task.moving ≡ None → IsFinishedTo first end slots t x
    mark_left none = finished_to slots
        (slots_w ∙ ap (λ (move : Option (ℕ × ℕ)). slots_after (finishing_slots v move) v.slots) (subst (IsMarked v) none those.task_is.moving) ∙ cleared_slots)
        (subst (λ (o : Option Move). IfSome o (λ move. move.place + move.length ≤ until)) (sym none) tt)

    -- the slots may be packed, as slots of a directory that ends before some record
    pub file_left : (move : Move) → task.moving ≡ Some move → IsFileLeft end redo slots move → (first' end' redo' : ℕ) → MayPack n first' end' redo' slots → IsFileLeft end' redo' slots move
        → IsFinishedTo first end (slots_finished slots (Some move)) t x
    file_left move named file first' end' redo' pack file' =
        let later : List (List ℕ) = slots_finished slots (Some move) in
        let before : move.slot < redo = file.before in
        let marked = subst (IsMarked v) named those.task_is.moving in
        let i : ℕ = marked.0 in
        let at_file = marked.3 in
        let off : i ≡ redo_place v.slots → ⊥ = λ e. absurd (omega (arith, e, before, at_file.slot, those.redo_is)) in
        let here : get_or slots i [] ≡ get_or v.slots i [] = ap (λ (xs : List (List ℕ)). get_or xs i []) (sym cleared_slots) ∙ get_or-set_other v.slots (redo_place v.slots) i (unmarked (redo_slot v)) [] off in
        let slots_are : w.slots ≡ later =
        slots_w ∙ ap (λ (m : Option (ℕ × ℕ)). slots_after (finishing_slots v m) v.slots) marked.2
        ∙ sym (λ q. set (sym cleared_slots q) i (with_start (at_file.place q) (here q)))
        ∙ sym (ap (λ (k : ℕ). set slots k (with_start move.place (get_or slots k []))) at_file.slot) in
        let redo_is : redo_place w.slots ≡ redo' = ap redo_place slots_are ∙ (file_may n first' end' redo' slots pack move file').redo_is in
        let counted : live_records (take (redo_place w.slots) w.slots) ≡ live_records (take redo' later) = λ q. live_records (take (redo_is q) (slots_are q)) in
        let fits : move.place + move.length ≤ until = omega (
          arith,
          (file_front n first' end' redo' slots pack move file').next,
          live_grows later (move.slot + 1) redo' (omega (arith, file'.before)),
          counted,
          ap directory_end header,
          those.ends,
          file.placed.next,
          file'.placed.next,
        ) in
        finished_to later slots_are (subst (λ (o : Option Move). IfSome o (λ move. move.place + move.length ≤ until)) (sym named) fits)

-- ---- how many records are read and written

-- where the files stand at their places up to one that was finished, it takes no more than the records that they have
left_within : (n end redo place : ℕ) (slots : List (List ℕ)) (task : Option Task) → IsTaskWith n end redo slots task → end ≤ place → place ≤ redo_start Two n
    → IfSome task (λ task. IfSome task.moving (λ move. move.place + move.length ≤ place))
    → calls_left_to task + 15 * (redo_start Two n - place) ≤ 15 * (redo_start Two n - end) + 9
left_within n end redo place slots None with_it low below front = omega (arith, low, below)
left_within n end redo place slots (Some task) with_it low below front = by task.moving with_it.0.moving with_it.1 front
  where
    by : (moving : Option Move) → IfSome moving (λ move. MayMove n task.first move.place task.redo move) → IfSome moving (IsFileLeft end redo slots) → IfSome moving (λ move. move.place + move.length ≤ place)
        → calls_to_finish moving + 15 * (redo_start Two n - place) ≤ 15 * (redo_start Two n - end) + 9
    by None may is front = omega (arith, low, below)
    by (Some move) may is front = omega (arith, low, below, front, is.some, is.placed.next, may.part)

-- the files that stand at their places reach as far as one that was finished
front_reaches : (end redo front place : ℕ) (held slots : List (List ℕ)) (task : Option Task) (n : ℕ) → IsTaskWith n end redo held task
    → IfSome task (λ task. IfSome task.moving (λ move. ArePlaced end (move.slot + 1) (move.place + move.length) slots)) → ArePlaced end front place slots
    → ((count : ℕ) → count ≤ redo → are_packed end (take count slots) ≡ true → count ≤ front)
    → IfSome task (λ task. IfSome task.moving (λ move. move.place + move.length ≤ place))
front_reaches end redo front place held slots None n with_it at placed longest = tt
front_reaches end redo front place held slots (Some task) n with_it at placed longest = by task.moving with_it.1 at
  where
    by : (moving : Option Move) → IfSome moving (IsFileLeft end redo held) → IfSome moving (λ move. ArePlaced end (move.slot + 1) (move.place + move.length) slots)
        → IfSome moving (λ move. move.place + move.length ≤ place)
    by None file here = tt
    by (Some move) file here = omega (arith, here.next, placed.next, live_grows slots (move.slot + 1) front (longest (move.slot + 1) (omega (arith, file.before)) here.packed))

-- by itself it takes fewer
pub left_few : (n end redo : ℕ) (slots : List (List ℕ)) (task : Option Task) → IsTaskWith n end redo slots task → end ≤ redo_start Two n → calls_left_to task ≤ 15 * (redo_start Two n - end) + 9
left_few n end redo slots task with_it below =
    omega (arith, left_within n end redo (redo_start Two n) slots task with_it below (omega arith) (by task with_it))
  where
    by : (task : Option Task) → IsTaskWith n end redo slots task → IfSome task (λ task. IfSome task.moving (λ move. move.place + move.length ≤ redo_start Two n))
    by None with_it = tt
    by (Some task) with_it = of task.moving with_it.0.moving
      where
        of : (moving : Option Move) → IfSome moving (λ move. MayMove n task.first move.place task.redo move) → IfSome moving (λ move. move.place + move.length ≤ redo_start Two n)
        of None may = tt
        of (Some move) may = omega (arith, may.down, may.below)

-- closing up and the end of a directory
closing_few : (n first end redo : ℕ) (slots : List (List ℕ)) → MayPack n first end redo slots → 13 * (length slots / 8 + 1) + 9 ≤ 13 * (end - first) + 22
closing_few n first end redo slots may = omega (arith, may.volume.room, may.starts, may.ends)

-- all of it
pub packing_few : (n first end redo front place : ℕ) (held slots later : List (List ℕ)) (task : Option Task) → MayPack n first end redo held → IsTaskWith n end redo held task
    → MayPack n first end redo slots × IfSome task (λ task. IfSome task.moving (λ move. ArePlaced end (move.slot + 1) (move.place + move.length) slots))
    → ArePlaced end front place slots → front ≤ redo → ((count : ℕ) → count ≤ redo → are_packed end (take count slots) ≡ true → count ≤ front) → MayPack n first end redo later
    → calls_left_to task + 15 * (redo_start Two n - place) + (13 * (length later / 8 + 1) + 9) ≤ 15 * n + 49 - (end - first)
packing_few n first end redo front place held slots later task may with_it now placed within longest may_later =
    let at = front_reaches end redo front place held slots task n with_it now.1 placed longest in
    let under = placed_below n first end redo slots now.0 front place placed within in
    omega (
      arith,
      left_within n end redo place held task with_it (omega (arith, placed.next)) under at,
      closing_few n first end redo later may_later,
      end_below n first end redo held may,
    )

-- ---- whatever was left

module _ (n first end redo : ℕ) (slots : List (List ℕ)) (may : MayPack n first end redo slots) where
  pub task_may : (task : Task) → IsTaskWith n end redo slots (Some task) → MayPack n first end redo (slots_finished slots task.moving)
      × IfSome task.moving (λ move. ArePlaced end (move.slot + 1) (move.place + move.length) (slots_finished slots task.moving))
  task_may task with_it = by task.moving with_it.1
    where
      by : (moving : Option Move) → IfSome moving (IsFileLeft end redo slots) → MayPack n first end redo (slots_finished slots moving)
          × IfSome moving (λ move. ArePlaced end (move.slot + 1) (move.place + move.length) (slots_finished slots moving))
      by None none = (may, tt)
      by (Some move) is = (file_may n first end redo slots may move is, file_front n first end redo slots may move is)

pub task_finished : (n first end redo : ℕ) (slots : List (List ℕ)) (t : Tape) (v : Volume) → IsTape n t → volume_of t ≡ Some v → IsSettled t → (task : Task) → IsTaskWith n end redo slots (Some task)
    → (first' end' redo' : ℕ) → MayPack n first' end' redo' slots → IsTaskWith n end' redo' slots (Some task)
    → AreThoseOf n first end redo (Some task) slots v → (x : Tape) → IsFinished t x → IsFinishedTo first end (slots_finished slots task.moving) t x
task_finished n first end redo slots t v is some quiet task with_it first' end' redo' pack with_it' those x done = by task.moving refl with_it.1 with_it'.1
  where
    by : (moving : Option Move) → task.moving ≡ moving → IfSome moving (IsFileLeft end redo slots) → IfSome moving (IsFileLeft end' redo' slots)
        → IsFinishedTo first end (slots_finished slots moving) t x
    by None none with_none with_none' = mark_left n first end redo slots t v is some quiet task with_it.0 those x done none
    by (Some move) named file file' = file_left n first end redo slots t v is some quiet task with_it.0 those x done move named file first' end' redo' pack file'
