-- What jobs see of the image that is in the drive, and what a command of its volume does.
use Rattle.std.specs.Prelude.{◌≡◌, ◌⊎◌, ℕ, Bool, true, false, List, map, option_map, option_and_then, Option, Some, None, is_some, IfSome}
use Rattle.std.specs.FinMap.{get}
use Rattle.lif_model.specs.Causes.{Rose}
use Rattle.lif_model.specs.Directory.{type_of, implementation_of}
use Rattle.lif_model.specs.Legal.{slot_named}
use Rattle.lif_model.specs.Stops.{LeavesOnly}
use Rattle.lif_model.specs.Tape.{IsTape, Tape}
use Rattle.lif_model.specs.Shelf.{Shelf}
use Rattle.lif_model.specs.Header.{HeaderParts, header_of}
use Rattle.lif_model.specs.Redo.{settled}
use Rattle.lif_model.specs.Commit.{SettlesAs}
use Rattle.lif_model.specs.Volume.{Volume, is_foreign_gated, volume_of}
use Rattle.lif_model.specs.Packing.{finished_volume_of, has_mark}
use Rattle.lif_model.specs.Finished.{IsFinished}
use Rattle.lif_model.specs.Apply.{VolumeCommand, Dir, Label, Fetch, apply}
use Rattle.lif_model.specs.declared.refusal.Refusal.{Refusal}
use Rattle.lif_dir.specs.Entries.{slot_bytes, slot_from}
use Rattle.lif_dir.specs.declared.entries.Slot.{Slot}
use Rattle.il_ports.specs.Inserting.{OthersAreKept}
use Rattle.il_script.specs.Replies.{code_of}
use Rattle.il_script.specs.declared.reply.Reply.{Reply}
use Rattle.il_script.specs.declared.reply.Reply.TheVariants as reply
use Rattle.tape_volumes.specs.declared.volumes.FileRead.{FileRead}
use Rattle.tape_volumes.specs.declared.went.Went.{Went}
use Rattle.tape_volumes.specs.declared.went.Went.TheVariants as went

-- the medium with the image in the drive
pub record Mounted : Type 0 where
  -- how many records it has
  pub records : ℕ
  -- the tape, if contracts can see it
  pub tape : Option Tape
  -- the directory is kept in memory
  pub kept : Bool
  -- the medium's count of faults
  pub faults : ℕ

pub record VolumesView : Type 1 where
  -- what holds between the calls
  pub valid : Type 0
  pub mounted : Mounted
  -- the name of the image in the drive, and the images, if contracts can see them
  pub inside : Option (List ℕ)
  pub images : Option Shelf
  -- the medium's time, and the tapes that a power stop since some moment may have left
  pub moment : ℕ
  pub left_since : ℕ → Tape → Type 0

-- what holds of each image in a drive, between the calls
pub record IsMounted (v : VolumesView) : Type 0 where
  -- a tape that contracts can see has its number of records
  pub is_tape : (t : Tape) → v.mounted.tape ≡ Some t → IsTape v.mounted.records t
  -- a power stop that comes now leaves no other tape
  pub leaves_only : (t x : Tape) → v.mounted.tape ≡ Some t → v.left_since v.moment x → x ≡ t

-- The volume on a tape, if contracts can see the tape. The inner None is that of a tape without a volume.
abbrev pub volume_shown : Option Tape → Option (Option Volume)
volume_shown tape = option_map finished_volume_of tape

-- the volume on a tape, if there is one and contracts can see the tape
abbrev pub volume_seen : Option Tape → Option Volume
volume_seen tape = option_and_then finished_volume_of tape

-- no redo is open on the tape whose gate record is in a file that is not ours
abbrev pub OwnsGate : Option Tape → Type 0
OwnsGate tape = IfSome tape (λ t. is_foreign_gated t ≡ false)

-- the reply to a command, by its refusal
abbrev pub reply_by : Option Refusal → Reply
reply_by None = reply.Ok
reply_by (Some refusal) = reply.No (code_of refusal)

-- Without a fault, the reply and the volume are those of the command. After one, all of the command was done, or nothing.
abbrev pub DoneWhole : Reply → Reply → (own : Type 0) → (before after : Option Volume) → Option (Option Volume) → Type 0
DoneWhole reply.FaultMedium answer own before after now = own → (now ≡ Some before) ⊎ (now ≡ Some after)
DoneWhole reply.FaultFrame answer own before after now = ⊥
DoneWhole r answer own before after now = (r ≡ answer) × (now ≡ Some after)

-- the medium's count of faults rose if and only if the reply is a fault
abbrev pub CountsFault : Reply → ℕ → ℕ → Type 0
CountsFault reply.FaultMedium before now = Rose before now
CountsFault reply.FaultFrame before now = ⊥
CountsFault r before now = now ≡ before

-- a command that changes nothing
abbrev pub is_reading : VolumeCommand → Bool
is_reading Dir = true
is_reading Label = true
is_reading (Fetch name) = true
is_reading command = false

-- by its reply, a command changed nothing: it only reads, or it was refused
abbrev pub changes_nothing : Reply → VolumeCommand → Bool
changes_nothing reply.Ok command = is_reading command
changes_nothing (reply.No code) command = true
changes_nothing reply.FaultFrame command = false
changes_nothing reply.FaultMedium command = false

-- What a command did to the medium, by its reply.
pub record CommandDid (command : VolumeCommand) (r : Reply) (s t : Mounted) : Type 0 where
  pub records : t.records ≡ s.records
  pub seen : is_some t.tape ≡ is_some s.tape
  pub own : OwnsGate s.tape → OwnsGate t.tape
  pub cause : CountsFault r s.faults t.faults
  pub whole : (before : Option Volume) → volume_shown s.tape ≡ Some before
      → DoneWhole r (reply_by (apply s.records command before).0) (OwnsGate s.tape) before (apply s.records command before).1 (volume_shown t.tape)
  -- one that changed nothing settled the tape and finished a stopped packing, and changed nothing else
  pub same : changes_nothing r command ≡ true → (x y : Tape) → s.tape ≡ Some x → t.tape ≡ Some y → IsFinished x y
  -- One that only reads changed nothing else after a fault, either: the tape settles to the same, in all records except the gate.
  pub reads : is_reading command ≡ true → (x y : Tape) → s.tape ≡ Some x → t.tape ≡ Some y → has_mark s.records (volume_of x) ≡ false → SettlesAs (settled x) y
  pub kept : r ≡ reply.Ok → t.kept ≡ true

-- a power stop within a command leaves the volume before it, or the one that it makes
abbrev pub StopLeaves : VolumeCommand → Mounted → Tape → Type 0
StopLeaves command s x = OwnsGate s.tape
    → (finished_volume_of x ≡ volume_seen s.tape) ⊎ (finished_volume_of x ≡ (apply s.records command (volume_seen s.tape)).1)

-- Beside the tape nothing changed, and each tape that a stop since then may have left has the property `leaves`.
pub record StaysBeside (leaves : Tape → Type 0) (v w : VolumesView) : Type 0 where
  pub stops : is_some v.mounted.tape ≡ true → LeavesOnly v.moment w.moment v.left_since w.left_since leaves
  pub same : w.inside ≡ v.inside
  pub others : OthersAreKept v.inside v.images w.images

-- A command of the volume was performed, and this was the reply.
pub record Commanded (command : VolumeCommand) (r : Reply) (v w : VolumesView) : Type 0 where
  pub valid : w.valid
  pub did : CommandDid command r v.mounted w.mounted
  pub beside : StaysBeside (StopLeaves command v.mounted) v w

-- The job was done, and went so; or there was no memory for it, and then nothing was done.
abbrev pub DoneOrNot : (does : Went → Mounted → Mounted → Type 0) (nothing : Type 0) → Went → Mounted → Mounted → Type 0
DoneOrNot does nothing w s t = ((w ≡ went.OutOfMemory) × (t ≡ s) × nothing) ⊎ does w s t

-- these are what record 0 of the volume says, and its slots
pub record IsDirectoryIn (header : HeaderParts) (slots : List Slot) (v : Volume) : Type 0 where
  pub header_is : header ≡ header_of v.header
  pub slots_are : slots ≡ map slot_from v.slots
  pub bytes_are : map slot_bytes slots ≡ v.slots

-- the same of the volume on a tape, if contracts can see the tape
abbrev pub IsDirectoryAt : Option (Option Volume) → HeaderParts → List Slot → Type 0
IsDirectoryAt shown header slots = (before : Option Volume) → shown ≡ Some before
    → (v : Volume) × (before ≡ Some v) × IsDirectoryIn header slots v

-- ---- a file

-- a file of a volume: its type, its implementation field, and the bytes of all its records
pub record FileContent : Type 0 where
  pub kind : ℕ
  pub field : List ℕ
  pub bytes : List ℕ

-- what was read of it
abbrev pub content_in : FileRead → FileContent
content_in file = record { kind = file.kind; field = file.field; bytes = file.bytes.now }

abbrev pub content_by : Option (List ℕ) → Option (List ℕ) → Option FileContent
content_by (Some slot) (Some bytes) = Some (record { kind = type_of slot; field = implementation_of slot; bytes = bytes })
content_by _ _ = None

-- the file of that name
abbrev pub file_on : Volume → List ℕ → Option FileContent
file_on v name = content_by (slot_named v.slots name) (get v.files name)

-- this is the file of that name, if contracts can see the volume
abbrev pub IsFileAt : Option (Option Volume) → List ℕ → FileContent → Type 0
IsFileAt shown name file = (v : Volume) → shown ≡ Some (Some v) → file_on v name ≡ Some file
