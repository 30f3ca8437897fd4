-- What the jobs `get` and `raw` do, which read one file.
use Rattle.std.specs.Prelude.{◌≡◌, ◌≢◌, ◌≤◌, ◌==◌, ◌/◌, ℕ, [], List, length, take, Option, Some, None, option_map, if◌then◌else◌}
use Rattle.lif_model.specs.Apply.{Fetch}
use Rattle.lif_model.specs.Shelf.{largest_image}
use Rattle.lif_model.specs.Volume.{Volume}
use Rattle.il_script.specs.Sheet.{Sheet}
use Rattle.il_script.specs.declared.reply.Code.TheVariants.{NotText}
use Rattle.il_script.specs.declared.reply.Reply.{Reply}
use Rattle.il_script.specs.declared.reply.Reply.TheVariants as reply
use Rattle.tape_names.specs.Sizes.{bytes_told}
use Rattle.tape_text.specs.Texts.{text_lines, text_size}
use Rattle.tape_volumes.specs.Outputs.{WritesNothing, WritesText}
use Rattle.tape_volumes.specs.Volumes.{CommandDid, FileContent, IsFileAt, Mounted, volume_shown}
use Rattle.tape_jobs.specs.declared.reading.Part.{Part}
use Rattle.tape_jobs.specs.declared.reading.Part.TheVariants as part
use Rattle.tape_volumes.specs.declared.went.Went.{Went}
use Rattle.tape_volumes.specs.declared.went.Went.TheVariants as went

-- an empty page with room for every file
abbrev pub HasRoomForFile : Sheet → Type 0
HasRoomForFile page = (page.text ≡ []) × (largest_image ≤ page.room)

-- the lines of a text file; None if it is none
abbrev pub lines_told : FileContent → Option (List ℕ)
lines_told file = if file.kind == 1 then text_lines file.bytes else None

-- how many bytes of its records a file has, if it tells that: a text by its end, and any other file by its field
abbrev pub size_of : FileContent → Option ℕ
size_of file = if file.kind == 1 then text_size file.bytes else bytes_told file.kind file.field (length file.bytes / 256)

-- what is written of a file
abbrev pub part_told : Part → FileContent → Option (List ℕ)
part_told part.Lines file = lines_told file
part_told part.Bytes file = option_map (λ n. take n file.bytes) (size_of file)

-- how the job goes if the file has no such part
abbrev pub without : Part → Went
without part.Lines = went.Refused NotText
without part.Bytes = went.NoSize

-- The part of the file was written: all of it; or a front of it, and then standard output failed. Or the file has no such part.
abbrev pub WritesFilePart : Went → Part → Option (List ℕ) → (before now : Option (List ℕ)) (faults faults_now : ℕ) → Type 0
WritesFilePart w p (Some text) before now faults faults_now = (w ≢ went.OutOfMemory) × WritesText w text before now faults faults_now
WritesFilePart w p None before now faults faults_now = (w ≡ without p) × WritesNothing before now faults faults_now

-- the job went so by the reply to the command that reads the file
abbrev pub ReadBy : Reply → Went → Part → (name : List ℕ) → Option (Option Volume) → (before now : Option (List ℕ)) (faults faults_now : ℕ) → Type 0
ReadBy reply.Ok w p name shown before now faults faults_now =
    (file : FileContent) × IsFileAt shown name file × WritesFilePart w p (part_told p file) before now faults faults_now
ReadBy (reply.No code) w p name shown before now faults faults_now = (w ≡ went.Refused code) × WritesNothing before now faults faults_now
ReadBy reply.FaultMedium w p name shown before now faults faults_now = (w ≡ went.Fault) × WritesNothing before now faults faults_now
ReadBy reply.FaultFrame w p name shown before now faults faults_now = ⊥

-- The file of that name was read, and by the reply the job went so.
pub record ReadDid (w : Went) (p : Part) (name : List ℕ) (s t : Mounted) (before now : Option (List ℕ)) (faults faults_now : ℕ) : Type 0 where
  pub answer : Reply
  pub did : CommandDid (Fetch name) answer s t
  pub went_so : ReadBy answer w p name (volume_shown s.tape) before now faults faults_now
