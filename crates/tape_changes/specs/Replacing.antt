-- What a job does that stores a file, in place of the one of its name if that has the same type.
use Rattle.std.specs.Prelude.{◌≡◌, ◌==◌, ◌⊎◌, ℕ, true, List, [], ◌∷◌, replicate, Option, Some, None, option_map, if◌then◌else◌}
use Rattle.lif_model.specs.Apply.{VolumeCommand, Batch, Dir, apply}
use Rattle.lif_model.specs.Directory.{type_of}
use Rattle.lif_model.specs.Legal.{slot_named}
use Rattle.lif_model.specs.Packing.{finished_volume_of}
use Rattle.lif_model.specs.Parts as part
use Rattle.lif_model.specs.Parts.{Part}
use Rattle.lif_model.specs.Tape.{Tape}
use Rattle.lif_model.specs.Volume.{Volume}
use Rattle.lif_dir.specs.Entries.{name_bytes}
use Rattle.lif_dir.specs.Names.{made_name}
use Rattle.lif_dir.specs.declared.names.NewName.{NewName}
use Rattle.il_script.specs.declared.reply.Reply.{Reply}
use Rattle.il_script.specs.declared.reply.Reply.TheVariants as reply
use Rattle.tape_volumes.specs.Changes.{change_command}
use Rattle.tape_volumes.specs.Volumes.{CommandDid, Mounted, OwnsGate, volume_seen, volume_shown}
use Rattle.tape_volumes.specs.declared.change.Change.{Change}
use Rattle.tape_volumes.specs.declared.change.Change.TheVariants as change
use Rattle.tape_volumes.specs.declared.went.Went.{Went}
use Rattle.tape_volumes.specs.declared.went.Went.TheVariants as went
use Rattle.tape_changes.specs.declared.changing.Next.{Next}
use Rattle.tape_changes.specs.declared.changing.Next.TheVariants as next
use Rattle.tape_changes.specs.declared.replacing.NewFile.{NewFile}
use Rattle.tape_changes.specs.declared.replacing.Stored.{Stored}
use Rattle.tape_changes.specs.declared.replacing.Stored.TheVariants as stored
use Rattle.tape_changes.specs.Changing.{NextBy, Output}

-- the type of a text file
abbrev pub text_kind : ℕ
text_kind = 1

-- a text file of that name with these bytes
pub record IsTextFile (name : NewName) (bytes : List ℕ) (file : NewFile) : Type 0 where
  pub named : file.name ≡ name
  pub kind : file.kind ≡ text_kind
  pub field : file.field ≡ replicate 4 0
  pub bytes_are : file.bytes.now ≡ bytes

-- ---- the command that stores a file

-- the ten bytes of its name
abbrev pub new_name_bytes : NewFile → List ℕ
new_name_bytes file = name_bytes (made_name file.name)

-- the change that stores it
abbrev pub store_change : NewFile → Change
store_change file = change.Store file.name file.kind file.field file.bytes

-- a purge of the file of its name, and a store of it
abbrev pub replacing_parts : NewFile → List Part
replacing_parts file =
    part.Purge (new_name_bytes file) ∷ part.Store (new_name_bytes file) file.kind file.field file.bytes.now ∷ []

-- The command that stores it, by the type of the file of its name, if there is one. For another type there is none.
abbrev pub command_by : NewFile → Option ℕ → Option VolumeCommand
command_by file None = Some (change_command (store_change file))
command_by file (Some kind) = if kind == file.kind then Some (Batch (replacing_parts file)) else None

-- the type of the file of that name
abbrev pub kind_named : Volume → List ℕ → Option ℕ
kind_named v name = option_map type_of (slot_named v.slots name)

-- this is the type of the file of that name, if contracts can see the volume
abbrev pub IsKindAt : Option (Option Volume) → List ℕ → Option ℕ → Type 0
IsKindAt shown name found = (v : Volume) → shown ≡ Some (Some v) → found ≡ kind_named v name

-- ---- what the job did

-- nothing more was done, and nothing was printed
abbrev pub EndsThere : Went → (s t : Mounted) (old now : Output) → Type 0
EndsThere w s t old now = (w ≡ went.NotAll) × (t ≡ s) × (now ≡ old)

-- how the job went, by what is next after its change
abbrev pub replaced_went : Next → Went
replaced_went next.GoesOn = went.Done
replaced_went next.Ends = went.NotAll
replaced_went next.LosesOutput = went.Unwritten

-- This command was asked for. The line is written to standard output if and only if the reply is ok.
pub record AskedFor (command : VolumeCommand) (line : List ℕ) (st : Stored) (w : Went) (s t : Mounted)
    (old now : Output) : Type 0 where
  pub reply : Reply
  pub next : Next
  pub did : CommandDid command reply s t
  pub tells : NextBy true reply line next old.text now.text old.faults now.faults
  pub told : st ≡ stored.Asked reply
  pub went_so : w ≡ replaced_went next

-- What was done after that, by the command that stores the file. If there is none, the file of that name stays, and its
-- type is known.
abbrev pub StoredBy : Option VolumeCommand → (found : Option ℕ) → (line : List ℕ) → Stored → Went → (s t : Mounted)
    (old now : Output) → Type 0
StoredBy (Some command) found line st w s t old now = AskedFor command line st w s t old now
StoredBy None found line st w s t old now = (option_map stored.OtherType found ≡ Some st) × EndsThere w s t old now

-- what was done after the directory was listed with this reply
abbrev pub AfterListing : NewFile → Reply → (line : List ℕ) → Stored → Went → (s t : Mounted)
    (old now : Output) → Type 0
AfterListing file reply.Ok line st w s t old now =
    (found : Option ℕ) × IsKindAt (volume_shown s.tape) (new_name_bytes file) found
    × StoredBy (command_by file found) found line st w s t old now
AfterListing file r line st w s t old now = (st ≡ stored.Unlisted r) × EndsThere w s t old now

-- The directory was listed. Then the file was stored, or it was not, and the job went so.
pub record ReplaceDid (file : NewFile) (line : List ℕ) (st : Stored) (w : Went) (s t : Mounted)
    (old now : Output) : Type 0 where
  pub listed : Reply
  pub between : Mounted
  pub did : CommandDid Dir listed s between
  pub rest : AfterListing file listed line st w between t old now

-- ---- what a power stop leaves

-- the volume after a command, on a medium of n records
abbrev pub after_any : ℕ → Option VolumeCommand → Volume → Option Volume
after_any n (Some command) v = (apply n command (Some v)).1
after_any n None v = Some v

-- the volume after the job
abbrev pub with_stored : ℕ → NewFile → Option Volume → Option Volume
with_stored n file (Some v) = after_any n (command_by file (kind_named v (new_name_bytes file))) v
with_stored n file None = None

-- A power stop within the job leaves the volume before it, or the one after it.
abbrev pub OldOrNewIsLeft : NewFile → Mounted → Tape → Type 0
OldOrNewIsLeft file s x = OwnsGate s.tape
    → (finished_volume_of x ≡ volume_seen s.tape)
    ⊎ (finished_volume_of x ≡ with_stored s.records file (volume_seen s.tape))
