-- What each command of a volume does: the one clause of its call.
use Rattle.std.specs.Prelude.{◌≡◌, ◌≤◌, ◌+◌, ℕ, List, [], ◌∷◌, map, Option, None, IfErr, Result, is_some}
use Rattle.lif_model.specs.Tape.{Tape}
use Rattle.lif_model.specs.Header.{HeaderParts}
use Rattle.lif_model.specs.Redo.{settled}
use Rattle.lif_model.specs.Volume.{volume_of}
use Rattle.lif_model.specs.Apply.{VolumeCommand, Dir, Label, Fetch, Store, Rename, Purge, Adopt, Upgrade, Batch, Format}
use Rattle.lif_model.specs.declared.refusal.Refusal.{Refusal}
use Rattle.lif_model.specs.declared.refusal.Refusal.TheVariants.{NotLif, NoFile, Exists, NoSlot, NoRoom, NoRedo, InUse, Protected, NeedsUpgrade}
use Rattle.il_ports.specs.Stores.{RecordsView, GoesOn}
use Rattle.lif_dir.specs.Entries.{slot_bytes}
use Rattle.lif_plan.specs.Refusals.{IsAmong}
use Rattle.lif_volume.specs.declared.fault.VolumeFault.{VolumeFault}
use Rattle.lif_volume.specs.declared.fault.VolumeFault.TheVariants.{Refused, Trouble as Troubled}
use Rattle.lif_volume.specs.Views.{VolumeView}
use Rattle.lif_volume.specs.Answers.{store_answer}
use Rattle.lif_volume.specs.Commands.{IsTold, Consults, mounting, mounting_on, fetching, fetching_on, AnswersTo, KeepsVolume, OnlySettles, WritesBySettling}
use Rattle.lif_volume.specs.Changing.{changing, carrying, carrying_on, keeps_behind_command, Writes, TurnsVolume, SettlesForeign, WritesByCommit}
use Rattle.lif_model.specs.Changing.{files_when, changes_filed}

-- ---- refusals

-- it is refused by one of these alone
abbrev pub IsOneOf : List Refusal → VolumeFault → Type 0
IsOneOf names (Refused why) = IsAmong names why
IsOneOf names (Troubled _) = Unit {0}

-- those that a command may answer
abbrev pub refusals_of : VolumeCommand → List Refusal
refusals_of Dir = NotLif ∷ []
refusals_of Label = NotLif ∷ []
refusals_of (Fetch name) = NotLif ∷ Protected ∷ NoFile ∷ []
refusals_of (Store name kind implementation bytes) = NotLif ∷ NoRedo ∷ Protected ∷ Exists ∷ NoSlot ∷ NoRoom ∷ []
refusals_of (Rename old new) = NotLif ∷ NoRedo ∷ Protected ∷ NoFile ∷ Exists ∷ []
refusals_of (Purge name) = NotLif ∷ NoRedo ∷ Protected ∷ NoFile ∷ []
refusals_of Adopt = NotLif ∷ Exists ∷ NoSlot ∷ InUse ∷ []
refusals_of Upgrade = NotLif ∷ NoRedo ∷ InUse ∷ []
refusals_of (Batch parts) = NotLif ∷ NoRedo ∷ NeedsUpgrade ∷ Protected ∷ NoFile ∷ Exists ∷ NoSlot ∷ NoRoom ∷ []
refusals_of (Format label slots) = NoRoom ∷ InUse ∷ []

-- ---- a command that changes no volume

-- how many records it reads and writes at most
abbrev pub consulting : {T : Type 0} → ℕ → VolumeCommand → (old new : Option HeaderParts) → List (List ℕ) → Result T VolumeFault → ℕ
consulting n (Fetch name) old new slots answer = fetching n name old slots answer
consulting n command old new slots answer = mounting n old new

-- the same on a tape that is told
abbrev pub consulting_on : {T : Type 0} → VolumeCommand → Option HeaderParts → Result T VolumeFault → Tape → ℕ
consulting_on (Fetch name) old answer t = fetching_on t name old answer
consulting_on command old answer t = mounting_on t old

-- It settles the tape, and changes nothing else of any tape: a stop at any moment, and a trouble, leave one that settles
-- to the same in all records but the gate. The volume of a tape that is not foreign-gated stays then too.
pub record Reads {R S T : Type 0} (command : VolumeCommand) (view : R → RecordsView S) (old new : VolumeView R) (answer : Result T VolumeFault) : Type 0 where
  pub consults : Consults (consulting (view old.records).record_count command old.kept new.kept (map slot_bytes old.slots) answer)
      (consulting_on command old.kept answer) view old new answer
  pub only : IfErr answer (IsOneOf (refusals_of command))
  pub answers : AnswersTo command view old new answer
  pub settling : OnlySettles view old new
  pub stays : KeepsVolume view old new
  pub transfers : WritesBySettling view old new answer

-- ---- a command that changes the volume

-- It settles the tape, writes the file of a store or those of a batch, and makes one commit at most. Where it may make no call, or has
-- neither a file nor a change, the store is as it was. A stop at any moment leaves the volume before or the one after, where the tape is not foreign-gated, and so does
-- a trouble. Of a tape whose gate record, once it is settled, a file holds that is not ours it changes nothing but by
-- settling.
pub record Alters {R S T : Type 0} (command : VolumeCommand) (view : R → RecordsView S) (old new : VolumeView R) (answer : Result T VolumeFault) : Type 0 where
  pub goes_on : GoesOn (changing (view old.records).record_count command old.kept new.kept answer)
      (view old.records) (view new.records) (store_answer answer)
  pub few : (t : Tape) → IsTold view old t → (view old.records).calls_left ≤ (view new.records).calls_left
      + (mounting_on t old.kept + carrying_on (view old.records).record_count command (settled t)
      (changes_filed (view old.records).record_count command (volume_of t) (settled t)) answer)
  pub most : (t : Tape) → IsTold view old t → (view old.records).calls_left ≤ (view new.records).calls_left
      + (mounting_on t old.kept + carrying (view old.records).record_count command None answer)
  pub idle : changing (view old.records).record_count command old.kept new.kept answer ≡ 0 → new.records ≡ old.records
  pub idle_on : (t : Tape) → IsTold view old t → mounting_on t old.kept ≡ 0 → files_when (view old.records).record_count command (volume_of t) ≡ []
      → changes_filed (view old.records).record_count command (volume_of t) (settled t) ≡ [] → new.records ≡ old.records
  pub kept : is_some new.kept ≡ keeps_behind_command command (is_some old.kept) answer
  pub only : IfErr answer (IsOneOf (refusals_of command))
  pub answers : AnswersTo command view old new answer
  pub written : Writes command view old new answer
  pub stops : TurnsVolume command view old new
  pub foreign : SettlesForeign view old new
  pub transfers : WritesByCommit command view old new answer

-- ---- every command

abbrev pub Did : {R S T : Type 0} → VolumeCommand → (R → RecordsView S) → (old new : VolumeView R) → Result T VolumeFault → Type 0
Did Dir view old new answer = Reads Dir view old new answer
Did Label view old new answer = Reads Label view old new answer
Did (Fetch name) view old new answer = Reads (Fetch name) view old new answer
Did (Store name kind implementation bytes) view old new answer = Alters (Store name kind implementation bytes) view old new answer
Did (Rename before later) view old new answer = Alters (Rename before later) view old new answer
Did (Purge name) view old new answer = Alters (Purge name) view old new answer
Did Adopt view old new answer = Alters Adopt view old new answer
Did Upgrade view old new answer = Alters Upgrade view old new answer
Did (Batch parts) view old new answer = Alters (Batch parts) view old new answer
Did (Format label slots) view old new answer = Alters (Format label slots) view old new answer
