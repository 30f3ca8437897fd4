-- The records that a packing leaves.
use Rattle.std.proofs.Common.{◌≡◌, ◌∙◌, ◌⊎◌, ◌<◌, ◌≤◌, ◌+◌, ◌%◌, true, inl, inr, ℕ, List, [], ◌∷◌, Option, Some, None, length, take, refl, sym, ap, arith}
use Rattle.std.specs.Prelude.{IfSome}
use Rattle.lif_model.specs.Tape.{Tape, IsTape, record_at}
use Rattle.lif_model.specs.declared.version.Version.TheVariants.{Two}
use Rattle.lif_pack.specs.declared.marks.Move.{Move}
use Rattle.lif_pack.specs.declared.tasks.Task.{Task}
use Rattle.lif_pack.specs.Marks.{IsMarked}
use Rattle.lif_pack.specs.Moving.{MayMove}
use Rattle.lif_pack.specs.Tasks.{MayFinish, IsTaskOf}
use Rattle.lif_model.specs.Finished.{IsFinished, StaysOutside}
use Rattle.lif_model.specs.Volume.{Volume, IsVolume, volume_of}
use Rattle.lif_model.specs.Fit.{redo_place}
use Rattle.lif_model.specs.Packing.{live_records, redo_slot, unmarked, bears_mark, move_of, finished_with, finished}
use Rattle.lif_model.specs.Header.{capacity_of, directory_start, directory_length, directory_end}
use Rattle.lif_model.specs.Made.{with_type}
use Rattle.lif_model.specs.Redo.{Changes, IsSettled, changed}
use Rattle.lif_model.specs.Commit.{IsCommitted}
use Rattle.lif_model.specs.Writing.{SlotWrites, changes_by, entry_from, slot_record}
use Rattle.lif_model.proofs.Writing.{AreEntries, changes_write, slots_elsewhere, untouched}
use Rattle.lif_model.proofs.Made.{typed_size}
use Rattle.lif_model.proofs.Directory.{entry_size, volume_is}
use Rattle.lif_commit.specs.Staged.{AreBefore}
use Rattle.lif_pack.specs.Steps.{MayPack}
use Rattle.lif_pack.proofs.Entries.{unmarked_size}
use Rattle.lif_pack.proofs.Finishing.{redo_here}
use Rattle.lif_pack.proofs.Finishes.{finishes}
use Rattle.lif_pack.proofs.FinishedTape.{finished_is, finished_has_moved}
use Rattle.lif_pack.proofs.Tasking.{marked_is_upgraded}
use Rattle.lif_pack.proofs.Outside.{outside_moved, outside_wider}
use Rattle.lif_pack.proofs.ClosedTape.{before_wider, ends_within, entries_of}

-- a commit of slots of the directory
module _ (n first end redo : ℕ) (old : List (List ℕ)) (may : MayPack n first end redo old) (t x : Tape) (tape : IsTape n t) where
  abbrev room : ℕ
  room = directory_length may.header

  ends : first + room ≡ end
  ends = omega (arith, may.starts, may.ends)

  abbrev until : ℕ
  until = end + live_records (take (redo_place old) old)

  pub committed_outside : (ws : SlotWrites) (cs : Changes) → AreEntries (capacity_of may.header) ws → cs ≡ changes_by first ws t → IsCommitted Two cs t x → StaysOutside first (end + live_records (take (redo_place old) old)) t x
  committed_outside ws cs are is done = record {
    records = done.records;
    same = λ k lt out.
        let below : first + room ≤ n = omega (arith, ends, (ends_within n first end redo old may).1) in
        done.below k lt ∙ ap (λ (c : Changes). record_at (changed c t) k) is
        ∙ ap (λ (y : Tape). record_at y k) (changes_write first room ws are n t t below tape.records tape.records (λ j low high. refl))
        ∙ slots_elsewhere first ws t k (untouched first room ws k are (apart k out));
  }
    where
      apart : (k : ℕ) → (k < first) ⊎ (until ≤ k) → (k < first) ⊎ (first + room ≤ k)
      apart k (inl a) = inl a
      apart k (inr b) = inr (omega (arith, b, ends))

  -- of slots of the directory
  pub closed_outside : (ws : SlotWrites) (cs : Changes) → AreBefore (length old) (length old) ws → cs ≡ changes_by first ws t → IsCommitted Two cs t x → StaysOutside first (end + live_records (take (redo_place old) old)) t x
  closed_outside ws cs before = committed_outside ws cs (entries_of (capacity_of may.header) (length old) ws (before_wider (length old) (capacity_of may.header) (length old) ws may.volume.room before))

  -- of the end of it
  pub ended_outside : (count : ℕ) (cs : Changes) → count < length old → cs ≡ changes_by first ((count, with_type 0xFFFF (entry_from t first count)) ∷ []) t → IsCommitted Two cs t x → StaysOutside first (end + live_records (take (redo_place old) old)) t x
  ended_outside count cs less =
      let within : slot_record first count < n = omega (arith, less, may.volume.room, ends, (ends_within n first end redo old may).1) in
      committed_outside ((count, with_type 0xFFFF (entry_from t first count)) ∷ []) cs
      (omega (arith, less, may.volume.room), typed_size 0xFFFF (entry_from t first count) ∙ entry_size (record_at t (slot_record first count)) (count % 8) (tape.bytes (slot_record first count) within) (omega arith), tt)

-- ---- the tape that a marked one is finished to

module _ (n : ℕ) (t : Tape) (v : Volume) (is : IsTape n t) (some : volume_of t ≡ Some v) (quiet : IsSettled t) (marked : bears_mark n v ≡ true) where
  abbrev cleared : SlotWrites
  cleared = (redo_place v.slots, unmarked (redo_slot v)) ∷ []

  volume : IsVolume n v
  volume = volume_is n t v is some

  redo_within : redo_place v.slots < length v.slots
  redo_within = redo_here n v volume (marked_is_upgraded n v marked)

  are : AreEntries (capacity_of v.header) cleared
  are = (omega (arith, redo_within, volume.room), unmarked_size (redo_slot v) (volume.entries (redo_place v.slots) redo_within), tt)

  -- the mark alone is taken off
  cleared_outside : move_of v ≡ None → StaysOutside (directory_start v.header) (directory_end v.header) t (finished t)
  cleared_outside none = record {
    records = (finishes n t v is some).shape.records ∙ sym is.records;
    same = λ k lt out. ap (λ (y : Tape). record_at y k) (finished_is n t v is some quiet marked ∙ ap (λ (m : Option (ℕ × ℕ)). finished_with v m t) none)
        ∙ slots_elsewhere (directory_start v.header) cleared t k (untouched (directory_start v.header) (directory_length v.header) cleared k are out);
  }

  -- a task that was carried out
  pub task_outside : (task : Task) (until : ℕ) (x : Tape) → IsTaskOf n v task → MayFinish n task → directory_end v.header ≤ until
      → IfSome task.moving (λ move. move.place + move.length ≤ until) → IsFinished t x → StaysOutside (directory_start v.header) until t x
  task_outside task until x of may above fits done =
      let was = by task.moving of.moving may.moving fits in
      record { records = done.records; same = λ k lt out. done.below k lt ∙ was.same k lt out }
    where
      by : (moving : Option Move) → IsMarked v moving → IfSome moving (λ move. MayMove n task.first move.place task.redo move)
          → IfSome moving (λ move. move.place + move.length ≤ until) → StaysOutside (directory_start v.header) until t (finished t)
      by None none all reach = outside_wider (directory_start v.header) (directory_end v.header) until t (finished t) above (cleared_outside none)
      by (Some move) named all reach =
          outside_wider (directory_start v.header) (move.place + move.length) until t (finished t) reach
          (outside_moved (directory_start v.header) (redo_place v.slots) move t (finished t) (omega (arith, all.redo_slot, of.first)) (finished_has_moved n t v is some quiet marked named.0 named.1 named.2 move named.3))
