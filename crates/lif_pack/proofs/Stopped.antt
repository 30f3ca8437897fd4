-- What a stop within finishing leaves is shown as what the tape before is shown as.
use Rattle.std.proofs.Common.{⊎_elim, ◌≡◌, ◌<◌, ◌≤◌, ◌+◌, ◌-◌, ◌*◌, ◌/◌, ◌++◌, ◌&&◌, ℕ, List, [], ◌∷◌, Bool, true, false, Option, Some, None, length, take, drop, inl, inr, refl, sym, ◌∙◌, ap, subst, arith}
use Rattle.std.specs.Prelude.{IfSome, is_some}
use Rattle.std.proofs.lemmas.Bool.{cases_lt, and_left, not_from_true}
use Rattle.std.proofs.lemmas.List.{length-append, length-take, length-drop, get_or_append_left, get_or-append-add, get_or-take, get_or-drop}
use Rattle.lif_model.specs.Tape.{Tape, IsTape, record_at}
use Rattle.lif_model.specs.Gate.{gate_of}
use Rattle.lif_model.specs.Header.{directory_start}
use Rattle.lif_model.specs.Directory.{slots_of}
use Rattle.lif_model.specs.declared.version.Version.TheVariants.{Two}
use Rattle.lif_model.specs.Redo.{redo_start, targets_place, settled, IsSettled}
use Rattle.lif_model.specs.Commit.{SettlesAs, SettlesBelow}
use Rattle.lif_model.specs.Legal.{is_legal}
use Rattle.lif_model.specs.Volume.{Volume, is_adopted, volume_in, volume_of, is_gate_held, is_foreign_gated}
use Rattle.lif_model.specs.Fit.{redo_place}
use Rattle.lif_model.specs.Apply.{is_upgraded}
use Rattle.lif_model.specs.Writing.{with_slots}
use Rattle.lif_model.proofs.Moments.{follows, reads_too}
use Rattle.lif_model.proofs.Redo.{settled_none, settled_twice, length_settled, redo_places}
use Rattle.lif_model.proofs.Volume.{quiet_agree}
use Rattle.lif_model.proofs.Directory.{volume_tells, settled_shape}
use Rattle.lif_model.proofs.Adopted.{adopted_some}
use Rattle.lif_model.proofs.Writing.{slots_shape}
use Rattle.il_ports.specs.Stores.{RecordsView, IsStore, RunLeaves}
use Rattle.il_ports.proofs.Stores.{quiet_run, quiet_nowhere}
use Rattle.lif_volume.specs.Answers.{HasVolumeOf}
use Rattle.lif_volume.specs.Commands.{VolumeStays, SettlesOnly}
use Rattle.lif_model.specs.Packing.{bears_mark, has_mark, finished, finished_volume_of}
use Rattle.lif_pack.specs.declared.marks.Move.{Move}
use Rattle.lif_pack.specs.declared.tasks.Task.{Task}
use Rattle.lif_pack.specs.Marks.{IsMoveAt, IsMarked}
use Rattle.lif_pack.specs.Moving.{MayMove, IsMidway, HasMoved, IsUnderWay}
use Rattle.lif_pack.specs.Tasks.{IsTaskOf, IsClearedOrOld, IsLeftToDo, IsShownAs, StaysShown, calls_to_finish}
use Rattle.lif_model.specs.Finished.{IsFinished}
use Rattle.lif_pack.proofs.MovedParts.{midway_same}
use Rattle.lif_pack.proofs.MidwayTape.{midway_shows, midway_marked}
use Rattle.lif_pack.proofs.Tasking.{marked_is_upgraded}
use Rattle.lif_pack.proofs.Order.{CanMove, move_is, move_some}
use Rattle.lif_pack.proofs.FinishedTape.{finished_has_moved, task_clears, task_moves}
use Rattle.lif_pack.proofs.Finishes.{finishes, finished_shape, finished_is_settled, volume_of_finished, finished_twice, unmarked_volume}
use Rattle.lif_pack.proofs.Agreeing.{settles_shown, settles_finished}

-- ---- what is finished below the redo file

module _ (n : ℕ) (t : Tape) (v : Volume) (is : IsTape n t) (some : volume_of t ≡ Some v) (up : is_upgraded n v ≡ true) where
  pub finished_shown : (y : Tape) → IsFinished t (settled y) → IsShownAs t y
  finished_shown y done =
      let ends = finishes n t v is some in
      let shape : IsTape n (finished t) = finished_shape n t is in
      let settles : SettlesBelow Two (finished t) y = record {
        records = sym (length_settled y) ∙ done.records ∙ is.records ∙ sym shape.records;
        same = λ k lt. done.below k (omega (arith, lt, shape.records, is.records));
      } in
      let shown = settles_shown n (finished t) _ shape (volume_of_finished n t is ∙ ends.volume) (finished_is_settled n t is) (ends.upgraded ∙ up) y settles in
      record { volume = shown.volume ∙ ap volume_in (finished_twice n t is); own_gate = shown.own_gate }

-- ---- a tape with the records from one on of another

module _ (n low : ℕ) (x u : Tape) (size : length x ≡ n) (tape_u : IsTape n u) (within : low ≤ n) where
  abbrev pub mended : Tape
  mended = take low x ++ drop low u

  front_size : length (take low x) ≡ low
  front_size = omega (arith, length-take low x, size, within)

  pub mended_size : length mended ≡ n
  mended_size = omega (arith, length-append (take low x) (drop low u), front_size, length-drop low u, tape_u.records, within)

  pub mended_below : (k : ℕ) → k < low → record_at mended k ≡ record_at x k
  mended_below k lt = get_or_append_left (take low x) (drop low u) [] k (omega (arith, lt, front_size)) ∙ get_or-take low x k [] lt

  pub mended_above : (k : ℕ) → low ≤ k → record_at mended k ≡ record_at u k
  mended_above k le =
      let m : ℕ = k - low in
      let at : k ≡ length (take low x) + m = omega (arith, le, front_size) in
      let to : low + m ≡ k = omega (arith, le) in
      ap (record_at mended) at ∙ get_or-append-add (take low x) (drop low u) m [] ∙ get_or-drop low u m [] ∙ ap (record_at u) to

-- ---- between two commits of a move

-- The tape f is one on which the whole file was moved.
module _ (n : ℕ) (t : Tape) (v : Volume) (is : IsTape n t) (some : volume_of t ≡ Some v) (quiet : IsSettled t) (up : is_upgraded n v ≡ true)
    (i j0 j : ℕ) (can : CanMove v i j0) (move : Move) (at_file : IsMoveAt v i j0 move)
    (f : Tape) (quiet_f : IsSettled f) (there : HasMoved (directory_start v.header) move.place (redo_place v.slots) move t f) where
  abbrev start : ℕ
  start = directory_start v.header

  abbrev r : ℕ
  r = redo_place v.slots

  abbrev low : ℕ
  low = redo_start Two n

  module _ (y : Tape) (may : MayMove n start move.place r move) (was : IsMidway start move.place r move j t (settled y))
      (more : j0 ≤ j) (some_moved : 0 < j) (less : j < move.length) where
    size_x : length (settled y) ≡ n
    size_x = was.tape.records ∙ is.records

    low_within : low ≤ n
    low_within = omega arith

    -- each record below is one of the tape before, or of its directory with another redo entry
    written : IsTape n (with_slots start ((r, was.entry) ∷ []) t)
    written = slots_shape start n (r / 8 + 1) ((r, was.entry) ∷ []) t is (omega (arith, may.redo_slot, may.above, may.down, may.part, may.below)) (omega arith, was.size, tt)

    whole : (k : ℕ) → k < low → length (record_at (settled y) k) ≡ 256
    whole k lt = elim (cases_lt k start) [
      | inl under ↦ as_before (was.tape.others k (omega (arith, lt, is.records)) (inl under) (inl (omega (arith, under, may.redo_slot, may.above))))
      | inr over ↦ elim (cases_lt k move.place) [
        | inl below ↦ ap (λ (b : List ℕ). length b) (was.tape.directory k over below) ∙ written.bytes k (omega (arith, lt))
        | inr out ↦ elim (cases_lt k (move.place + move.moved)) [
          | inl early ↦ as_before (was.tape.others k (omega (arith, lt, is.records)) (inr out) (inl early))
          | inr late ↦ elim (cases_lt k (move.place + j)) [
            | inl inner ↦
                let q : ℕ = k - move.place in
                let to : k ≡ move.place + q = omega (arith, out) in
                ap (λ (m : ℕ). length (record_at (settled y) m)) to ∙ ap (λ (b : List ℕ). length b) (was.tape.moved q (omega (arith, late, out)) (omega (arith, inner, out)))
                ∙ is.bytes (move.start + q) (omega (arith, inner, out, less, may.below))
            | inr past ↦ as_before (was.tape.others k (omega (arith, lt, is.records)) (inr out) (inr past))
          ]
        ]
      ]
    ]
      where
        as_before : record_at (settled y) k ≡ record_at t k → length (record_at (settled y) k) ≡ 256
        as_before same = ap (λ (b : List ℕ). length b) same ∙ is.bytes k (omega (arith, lt))

    abbrev z : Tape
    z = mended n low (settled y) t size_x is low_within

    size_z : length z ≡ n
    size_z = mended_size n low (settled y) t size_x is low_within

    below : (k : ℕ) → k < low → record_at z k ≡ record_at (settled y) k
    below k lt = mended_below n low (settled y) t size_x is low_within k lt

    above : (k : ℕ) → low ≤ k → record_at z k ≡ record_at t k
    above k le = mended_above n low (settled y) t size_x is low_within k le

    tape_z : IsTape n z
    tape_z = record {
      records = size_z;
      bytes = λ k lt. elim (cases_lt k low) [
        | inl under ↦ ap (λ (b : List ℕ). length b) (below k under) ∙ whole k under
        | inr over ↦ ap (λ (b : List ℕ). length b) (above k over) ∙ is.bytes k lt
      ];
    }

    quiet_z : IsSettled z
    quiet_z =
        let places = redo_places Two n in
        settled_none z (quiet_agree t z quiet (size_z ∙ sym is.records) (above (gate_of (length t)) (omega (arith, places.0, is.records))) (above (targets_place (length t)) (omega (arith, places.1, is.records))))

    was_z : IsMidway start move.place r move j t z
    was_z = midway_same n start move.place r move j t (settled y) z is may (omega (arith, less)) was (size_z ∙ sym size_x) (λ k lt. below k (omega (arith, lt, size_x)))

    pub midway_shown : (finished_volume_of y ≡ volume_of f) × (is_foreign_gated y ≡ false)
    midway_shown =
        let mark = midway_marked n t v is some quiet up i j0 j can move at_file f quiet_f there z tape_z quiet_z may was_z more some_moved less in
        let shown = settles_shown n z mark.0 tape_z mark.1 quiet_z (marked_is_upgraded n mark.0 mark.2) y (record {
          records = sym (length_settled y) ∙ size_x ∙ sym size_z;
          same = λ k lt. sym (below k (omega (arith, lt, size_z)));
        }) in
        (shown.volume ∙ midway_shows n t v is some quiet up i j0 j can move at_file f quiet_f there z tape_z quiet_z may was_z more some_moved less, shown.own_gate)

-- ---- while a task is carried out

module _ (n : ℕ) (t : Tape) (v : Volume) (task : Task) (is : IsTape n t) (some : volume_of t ≡ Some v) (quiet : IsSettled t) (of : IsTaskOf n v task) where
  up : is_upgraded n v ≡ true
  up = marked_is_upgraded n v of.marked

  pub clear_shown : task.moving ≡ None → (y : Tape) → IsClearedOrOld task.first task.redo t y → IsShownAs t y
  clear_shown none y (inl old) = settles_shown n t v is some quiet up y old
  clear_shown none y (inr cleared) = finished_shown n t v is some up y (task_clears n t v task (settled y) is some quiet of none cleared (settled_twice y))

  pub move_shown : (move : Move) → task.moving ≡ Some move → MayMove n task.first move.place task.redo move → (y : Tape) → IsUnderWay task.first move.place task.redo move t y → IsShownAs t y
  move_shown move named may y (inr has) = finished_shown n t v is some up y (task_moves n t v task (settled y) move is some quiet of named has (settled_twice y))
  move_shown move named may y (inl way) =
      let at : IsMarked v (Some move) = subst (IsMarked v) named of.moving in
      let shown = midway_shown n t v is some quiet up at.0 at.1 way.0 (move_is v at.0 at.1 at.2) move at.3 (finished t) (finished_is_settled n t is)
      (finished_has_moved n t v is some quiet of.marked at.0 at.1 at.2 move at.3) y
      (subst (λ (r : ℕ). MayMove n (directory_start v.header) move.place r move) of.redo (subst (λ (d : ℕ). MayMove n d move.place task.redo move) of.first may))
      (subst (λ (r : ℕ). IsMidway (directory_start v.header) move.place r move way.0 t (settled y)) of.redo (subst (λ (d : ℕ). IsMidway d move.place task.redo move way.0 t (settled y)) of.first way.3))
      (omega (arith, way.1, at.3.moved)) (omega (arith, way.1, at.3.moved, move_some v at.0 at.1 at.2)) way.2 in
      record { volume = shown.0 ∙ volume_of_finished n t is; own_gate = shown.1 }

-- ---- while the tape is settled

and_false : (a b : Bool) → b ≡ false → (a && b) ≡ false
and_false true b is = is
and_false false b is = refl

-- a volume of version 2 has no file over the gate record that is not ours
pub upgraded_not_held : (n : ℕ) (u : Tape) (v : Volume) → length u ≡ n → volume_in u ≡ Some v → is_upgraded n v ≡ true → is_gate_held u ≡ false
upgraded_not_held n u v size some up =
    let tells = volume_tells u v some in
    let all : is_adopted (length u) (slots_of u) ≡ true = (λ i. is_adopted (size i) (sym tells.2 i)) ∙ adopted_some n Two v.slots up in
    and_false (is_legal u) _ (and_left _ _ (not_from_true _ all))

-- a tape with the same volume that settles to the same in all records but the gate
module _ (n : ℕ) (t x : Tape) (is : IsTape n t) (same : volume_of x ≡ volume_of t) (settles : SettlesAs (settled t) x) where
  shape : IsTape n (settled t)
  shape = settled_shape n t is

  size : length x ≡ n
  size = settles.records ∙ shape.records

  pub settles_volume : finished_volume_of x ≡ finished_volume_of t
  settles_volume = by (volume_of t) refl
    where
      plain : has_mark n (volume_of t) ≡ false → finished_volume_of x ≡ finished_volume_of t
      plain off = unmarked_volume x ((λ i. has_mark (size i) (same i)) ∙ off) ∙ same ∙ sym (unmarked_volume t (ap (λ (m : ℕ). has_mark m (volume_of t)) is.records ∙ off))

      marks : (v : Volume) → volume_of t ≡ Some v → (b : Bool) → bears_mark n v ≡ b → finished_volume_of x ≡ finished_volume_of t
      marks v some false off = plain (ap (has_mark n) some ∙ off)
      marks v some true on =
          let shown = settles_shown n (settled t) v shape (ap volume_in (settled_twice t) ∙ some) (settled_twice t) (marked_is_upgraded n v on) x
          (record { records = settles.records; same = λ k lt. settles.same k (λ e. absurd (omega (arith, e, lt, (redo_places Two (length (settled t))).0))) }) in
          shown.volume ∙ ap volume_in (settles_finished t)

      by : (o : Option Volume) → volume_of t ≡ o → finished_volume_of x ≡ finished_volume_of t
      by None none = plain (ap (has_mark n) none)
      by (Some v) some = marks v some (bears_mark n v) refl

-- ---- of a whole call

-- two things that are left together
both_left : {S : Type 0} (v w : RecordsView S) (P Q U : Tape → Type 0) → RunLeaves v w P → RunLeaves v w Q → ((c : Tape) → P c → Q c → U c) → RunLeaves v w U
both_left v w P Q U first second both = record {
  later = first.later;
  each = λ c left. both c (first.each c left) (second.each c left);
  earlier = λ m c le left. ⊎_elim (λ was. inl was) (λ p. ⊎_elim (λ was. inl was) (λ q. inr (both c p q)) (second.earlier m c le left)) (first.earlier m c le left);
}

-- the tape after it is one that a stop then leaves
pub stays_after : {S : Type 0} (v w : RecordsView S) (P : Tape → Type 0) → IsStore w → RunLeaves v w P → is_some w.tape ≡ true → (u : Tape) × (w.tape ≡ Some u) × P u
stays_after v w P store run told = by w.tape refl
  where
    by : (o : Option Tape) → w.tape ≡ o → (u : Tape) × (w.tape ≡ Some u) × P u
    by None none = let no : true ≡ false = sym told ∙ ap is_some none in cc
    by (Some u) now = (u, now, reads_too _ _ _ _ P u run (λ m le. store.leaves_now m u le now))

-- nothing is done
pub shown_here : {S : Type 0} (v : RecordsView S) (t : Tape) → IsStore v → v.tape ≡ Some t → is_foreign_gated t ≡ false → StaysShown v v t
shown_here v t store told own =
    let here : IsShownAs t t = record { volume = refl; own_gate = own } in
    record { stops = quiet_run v v (IsShownAs t) t store (quiet_nowhere v) told here; after = (t, told, here) }

pub settles_here : {S : Type 0} (v : RecordsView S) (t : Tape) → IsStore v → v.tape ≡ Some t → SettlesOnly v v t
settles_here v t store told =
    let here : SettlesAs (settled t) t = record { records = sym (length_settled t); same = λ k other. refl } in
    record { stops = quiet_run v v (SettlesAs (settled t)) t store (quiet_nowhere v) told here; after = (t, told, here) }

-- the tape is settled alone
pub shown_settling : {S : Type 0} (v w : RecordsView S) (t : Tape) → IsStore v → IsStore w → v.tape ≡ Some t → SettlesOnly v w t → VolumeStays v w t → StaysShown v w t
shown_settling v w t store store_w told settles stays =
    let is : IsTape v.record_count t = store.is_tape t told in
    let run : RunLeaves v w (IsShownAs t) = both_left v w (SettlesAs (settled t)) (HasVolumeOf t) (IsShownAs t) settles.stops stays.stops
    (λ c settled_so has. record { volume = settles_volume v.record_count t c is has.volume settled_so; own_gate = has.own_gate }) in
    record { stops = run; after = stays_after v w (IsShownAs t) store_w run (ap is_some settles.after.1) }

-- and then a task is carried out
pub shown_further : {S : Type 0} (v w u : RecordsView S) (t : Tape) → IsStore u → is_some u.tape ≡ true → StaysShown v w t → RunLeaves w u (IsShownAs (settled t)) → StaysShown v u t
shown_further v w u t store told first next =
    let run : RunLeaves v u (IsShownAs t) = follows _ _ _ _ _ _ (IsShownAs t) (IsShownAs (settled t)) first.stops next
    (λ c is. record { volume = is.volume ∙ ap volume_in (settles_finished t); own_gate = is.own_gate }) in
    record { stops = run; after = stays_after v u (IsShownAs t) store run told }

-- no file that is not ours holds the gate record of a tape with something left to do
pub task_not_held : (n : ℕ) (t : Tape) (task : Task) → IsTape n t → IsLeftToDo n t (Some task) → is_gate_held (settled t) ≡ true → ⊥
task_not_held n t task is left held =
    let clear = upgraded_not_held n (settled t) left.0 (length_settled t ∙ is.records) (sym (ap volume_in (settled_twice t)) ∙ left.1) (marked_is_upgraded n left.0 left.2.marked) in
    let no : true ≡ false = sym held ∙ clear in cc

-- ---- how many records are moved to finish

pub few_to_finish : (n first redo : ℕ) (moving : Option Move) → IfSome moving (λ move. MayMove n first move.place redo move) → calls_to_finish moving ≤ 4 * n + 12
few_to_finish n first redo None may = omega arith
few_to_finish n first redo (Some move) may = omega (arith, may.below)

-- a test that comes out false says that its premises do not hold
pub never : {X V : Type 0} (o : Option X) (P : V → Type 0) (Q : V → Type 0) (b : Bool) (A : Type 0) → b ≡ false → IfSome o (λ _. (v : V) → P v → Q v → b ≡ true) → IfSome o (λ _. (v : V) → P v → Q v → A)
never None P Q b A off is = tt
never (Some x) P Q b A off is = λ v p q. let no : true ≡ false = sym (is v p q) ∙ off in cc
