-- What packing a volume does: its answer, the tape after it, and what a stop leaves.
use Rattle.std.specs.Prelude.{◌≡◌, ◌<◌, ◌+◌, ◌-◌, ℕ, true, false, List, [], ◌∷◌, set, get_or}
use Rattle.std.specs.Prelude.{Option, Some, None, Result, Ok, Err, IfSome}
use Rattle.lif_model.specs.Tape.{Tape}
use Rattle.lif_model.specs.Header.{HeaderParts, directory_start, directory_end}
use Rattle.lif_model.specs.Directory.{start_of, length_of}
use Rattle.lif_model.specs.Redo.{settled, IsSettled}
use Rattle.lif_model.specs.Legal.{occupies}
use Rattle.lif_model.specs.Volume.{Volume, IsVolume, volume_of, is_foreign_gated}
use Rattle.lif_model.specs.Fit.{redo_place}
use Rattle.lif_model.specs.Apply.{is_upgraded}
use Rattle.lif_model.specs.declared.refusal.Refusal.{Refusal}
use Rattle.lif_model.specs.declared.refusal.Refusal.TheVariants.{NotLif, NoRedo, NeedsUpgrade, OutOfOrder}
use Rattle.il_ports.specs.Stores.{RecordsView, RunLeaves}
use Rattle.lif_volume.specs.declared.fault.VolumeFault.{VolumeFault}
use Rattle.lif_volume.specs.declared.fault.VolumeFault.TheVariants.{Refused, Trouble as Troubled}
use Rattle.lif_volume.specs.declared.volume.Listing.{Listing}
use Rattle.lif_volume.specs.Answers.{IsSettledAs}
use Rattle.lif_volume.specs.Views.{VolumeView}
use Rattle.lif_volume.specs.Commands.{IsTold, OnlySettles, WritesBySettling}
use Rattle.lif_model.specs.Packing.{with_start, packed_start, redo_slot, unmarked, finished_volume_of}
use Rattle.lif_model.specs.Packing.{pack_refusal, packed, files_moved, records_free}
use Rattle.lif_model.specs.Finished.{IsPackedOn, StaysOutside}
use Rattle.lif_pack.specs.declared.marks.Move.{Move}
use Rattle.lif_pack.specs.declared.tasks.Task.{Task}
use Rattle.lif_pack.specs.declared.pack.Packed.{Packed}
use Rattle.lif_pack.specs.declared.reading.Readable.{Readable}
use Rattle.lif_pack.specs.Tasks.{MayFinish, IsTask, KeepsFiles, calls_to_finish}
use Rattle.lif_pack.specs.Steps.{ArePlaced}

-- ---- the answer

-- The volume that t is finished to was packed: the settled tape u has what packing makes of it, and is packed. The
-- answer counts the files whose start changed, and the records that are free before the redo file. The records outside
-- the directory and the packed files, and below the redo file, are those of the settled tape.
pub record IsPacking (n : ℕ) (t u : Tape) (answer : Packed) : Type 0 where
  pub volume : Volume
  pub shown : finished_volume_of t ≡ Some volume
  pub may : pack_refusal n (Some volume) ≡ None
  pub after : volume_of u ≡ Some (packed n volume)
  pub shown_after : finished_volume_of u ≡ Some (packed n volume)
  pub is_packed : IsPackedOn n u
  pub is_settled : IsSettled u
  pub outside : StaysOutside (directory_start volume.header) (packed_start volume (redo_place volume.slots))
      (settled t) u
  pub files : answer.files ≡ files_moved n volume
  pub free : answer.free ≡ records_free n volume

-- After a refusal the tape is the settled one, and a mark is still there. Of an Ok nothing is said here.
abbrev pub IsRefusedTo : {T : Type 0} → ℕ → Tape → Tape → Result T VolumeFault → Type 0
IsRefusedTo n t u (Ok _) = Unit {0}
IsRefusedTo n t u (Err (Refused why)) = (pack_refusal n (finished_volume_of t) ≡ Some why) × (u ≡ settled t)
IsRefusedTo n t u (Err (Troubled _)) = Unit {0}

abbrev pub PacksTo : ℕ → Tape → Tape → Result Packed VolumeFault → Type 0
PacksTo n t u (Ok answer) = IsPacking n t u answer
PacksTo n t u (Err fault) = IsRefusedTo {T = Packed} n t u (Err fault)

abbrev pub AnswersPack : {R S : Type 0} → (R → RecordsView S) → (old new : VolumeView R)
    → Result Packed VolumeFault → Type 0
AnswersPack view old new answer = (t u : Tape) → IsTold view old t → IsTold view new u
    → PacksTo (view old.records).record_count t u answer

-- the refusals
abbrev pub pack_refusals : List Refusal
pack_refusals = NotLif ∷ NoRedo ∷ NeedsUpgrade ∷ OutOfOrder ∷ []

-- ---- what is read before

-- what record 0 says
abbrev pub header_in : Listing → HeaderParts
header_in listing = record { label = listing.label; start = listing.start; length = listing.length }

-- how many records are read and written at most on a medium of n records
abbrev pub calls_to_read : ℕ → Result Readable VolumeFault → ℕ
calls_to_read n (Ok found) = 71 + (found.end - found.first)
calls_to_read n (Err _) = n + 66

-- ---- stops

-- at any moment, and after the call, a tape that is not foreign-gated has its files
pub record StaysFiled {S : Type 0} (v w : RecordsView S) (t : Tape) : Type 0 where
  pub stops : RunLeaves v w (KeepsFiles v.record_count t)
  pub after : (u : Tape) × (w.tape ≡ Some u) × KeepsFiles v.record_count t u

abbrev pub KeepsFiled : {R S : Type 0} → (R → RecordsView S) → (old new : VolumeView R) → Type 0
KeepsFiled view old new = (t : Tape) → IsTold view old t → is_foreign_gated t ≡ false
    → StaysFiled (view old.records) (view new.records) t

-- ---- packing it again

-- If the volume of a tape is packed, nothing is changed except by settling, the reads and writes go on by writes of settling
-- alone, and after an Ok the tape is the settled one.
abbrev pub StaysPacked : {R S : Type 0} → (R → RecordsView S) → (old new : VolumeView R)
    → Result Packed VolumeFault → Type 0
StaysPacked view old new answer = (t : Tape) → IsTold view old t → IsPackedOn (view old.records).record_count t
    → OnlySettles view old new × WritesBySettling view old new answer × IsSettledAs t (view new.records).tape answer

-- a refused packing writes by settling alone
abbrev pub SettlesRefused : {R S : Type 0} → (R → RecordsView S) → (old new : VolumeView R)
    → Result Packed VolumeFault → Type 0
SettlesRefused view old new answer = (why : Refusal) → answer ≡ Err (Refused why)
    → WritesBySettling view old new answer

-- ---- a volume whose slots, without the mark, are in memory

-- the file stands before the redo entry and after files that are at their places, and begins above its place
pub record IsFileLeft (end redo : ℕ) (slots : List (List ℕ)) (move : Move) : Type 0 where
  pub before : move.slot < redo
  pub placed : ArePlaced end move.slot move.place slots
  pub takes : occupies (get_or slots move.slot []) ≡ true
  pub down : move.place < start_of (get_or slots move.slot [])
  pub long : move.length ≡ length_of (get_or slots move.slot [])
  pub some : 0 < move.moved

-- what is left to do, if anything is, is to be done with these slots
abbrev pub IsTaskWith : (n end redo : ℕ) → List (List ℕ) → Option Task → Type 0
IsTaskWith n end redo slots None = Unit {0}
IsTaskWith n end redo slots (Some task) = MayFinish n task × IfSome task.moving (IsFileLeft end redo slots)

-- the slots, and what is left to do, are those of this volume
pub record AreThoseOf (n first end redo : ℕ) (task : Option Task) (slots : List (List ℕ)) (v : Volume) : Type 0 where
  pub starts : directory_start v.header ≡ first
  pub ends : directory_end v.header ≡ end
  pub volume : IsVolume n v
  pub version : is_upgraded n v ≡ true
  pub redo_is : redo_place v.slots ≡ redo
  pub slots_are : slots ≡ set v.slots redo (unmarked (redo_slot v))
  pub task_is : IsTask n v task

-- the slots with the file that is being moved at its place, if one is
abbrev pub slots_finished : List (List ℕ) → Option Move → List (List ℕ)
slots_finished slots None = slots
slots_finished slots (Some move) = set slots move.slot (with_start move.place (get_or slots move.slot []))

-- how many records are read and written at most to do it
abbrev pub calls_left_to : Option Task → ℕ
calls_left_to None = 0
calls_left_to (Some task) = calls_to_finish task.moving

-- The tape x has the volume that t is finished to, and these are its slots. The records outside the directory and the
-- places of the files, and below the redo file, are those of t.
pub record IsFinishedTo (first end : ℕ) (slots : List (List ℕ)) (t x : Tape) : Type 0 where
  pub volume : Volume
  pub shown : finished_volume_of t ≡ Some volume
  pub stands : volume_of x ≡ Some volume
  pub slots_are : volume.slots ≡ slots
  pub starts : directory_start volume.header ≡ first
  pub ends : directory_end volume.header ≡ end
  pub outside : StaysOutside first (packed_start volume (redo_place volume.slots)) t x
