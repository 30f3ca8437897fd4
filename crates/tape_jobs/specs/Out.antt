-- What the job `out` does, which copies files of an image into a folder.
use Rattle.std.specs.Prelude.{◌≡◌, ◌≢◌, ◌⊎◌, ◌≤◌, ◌+◌, ◌-◌, ◌*◌, ◌^◌, ◌&&◌, ◌||◌, ℕ, suc, min, Bool, true, false, List, [], ◌∷◌, length, map, Option, Some, None, is_some}
use Rattle.std.specs.List.{count_by}
use Rattle.lif_model.specs.Apply.{Dir, Fetch, apply}
use Rattle.lif_model.specs.Causes.{Rose}
use Rattle.lif_model.specs.Finished.{IsFinished}
use Rattle.lif_model.specs.Tape.{Tape}
use Rattle.lif_model.specs.Redo.{settled}
use Rattle.lif_model.specs.Commit.{SettlesAs}
use Rattle.lif_model.specs.Volume.{Volume, volume_of}
use Rattle.lif_model.specs.Packing.{has_mark}
use Rattle.lif_dir.specs.Entries.{name_bytes, slot_bytes, slot_from}
use Rattle.lif_dir.specs.declared.entries.Name.{Name}
use Rattle.il_script.specs.declared.reply.Code.{Code}
use Rattle.il_script.specs.declared.reply.Reply.TheVariants as reply
use Rattle.il_script.specs.Sheet.{Sheet}
use Rattle.tape_names.specs.HostNames.{host_name_of}
use Rattle.tape_text.specs.Listing.{shown_files}
use Rattle.tape_folder.specs.Folders.{FolderView, IsUnusedName, SameFolder, ShowsFiles, file_in_folder, is_hidden}
use Rattle.tape_folder.specs.Keeping.{AreTaken, IsPartName, part_numbers}
use Rattle.tape_folder.specs.declared.keeping.Kept.{Kept}
use Rattle.tape_folder.specs.declared.keeping.Kept.TheVariants as kept
use Rattle.il_ports.specs.Inserting.{OthersAreKept}
use Rattle.tape_volumes.specs.Volumes.{DoneOrNot, FileContent, Mounted, OwnsGate, VolumesView, file_on, reply_by, volume_shown}
use Rattle.tape_jobs.specs.declared.copying.FileEnd.{FileEnd}
use Rattle.tape_jobs.specs.declared.copying.FileEnd.TheVariants as file_end
use Rattle.tape_jobs.specs.declared.copying.Taken.{Taken}
use Rattle.tape_volumes.specs.declared.went.Went.{Went}
use Rattle.tape_volumes.specs.declared.went.Went.TheVariants as went

-- the name that a file has on the host
abbrev pub host_name : List ℕ → FileContent → List ℕ
host_name name file = host_name_of name file.kind file.field

-- a page has room for every host name
abbrev pub HasRoomForName : Sheet → Type 0
HasRoomForName page = 44 ≤ page.room

-- ---- which files are copied

-- The names of the files that are copied: those that are asked for, in their order. If none is, they are the names of
-- all files of the volume, if contracts can see it, except the redo file.
abbrev pub AreNamesCopied : (n : ℕ) → (asked : List Name) → (shown : Option (Option Volume)) → (names : List Name) → Type 0
AreNamesCopied n [] shown names = (v : Volume) → shown ≡ Some (Some v) → names ≡ map (λ e. e.name) (shown_files false n (map slot_from v.slots))
AreNamesCopied n (name ∷ rest) shown names = names ≡ name ∷ rest

-- if contracts can see the volume, the bytes of each slot are those for which its entry stands
abbrev pub AreSlotsExact : (shown : Option (Option Volume)) → Type 0
AreSlotsExact shown = (v : Volume) → shown ≡ Some (Some v) → map slot_bytes (map slot_from v.slots) ≡ v.slots

-- how many files are copied at most: a directory on a medium of n records has no more than 8 * n slots
abbrev pub most_copied : (n : ℕ) → (asked : List Name) → ℕ
most_copied n [] = 8 * n
most_copied n (name ∷ rest) = length (name ∷ rest)

-- a name, if there is one
abbrev pub named : Option Name → List Name
named None = []
named (Some name) = name ∷ []

-- ---- what became of them

-- the folder has the file
abbrev pub is_copied : FileEnd → Bool
is_copied (file_end.Kept kept.Written) = true
is_copied (file_end.Kept kept.WasThere) = true
is_copied (file_end.Kept kept.Differs) = false
is_copied (file_end.Kept kept.NotWritten) = false
is_copied (file_end.Refused code) = false
is_copied file_end.Fault = false

abbrev pub all_copied : List Taken → Bool
all_copied [] = true
all_copied (taken ∷ rest) = is_copied taken.end && all_copied rest

-- the medium failed
abbrev pub is_failed_read : FileEnd → Bool
is_failed_read (file_end.Kept k) = false
is_failed_read (file_end.Refused code) = false
is_failed_read file_end.Fault = true

abbrev pub has_fault : List Taken → Bool
has_fault [] = false
has_fault (taken ∷ rest) = is_failed_read taken.end || has_fault rest

-- how often the medium failed
abbrev pub fault_count : List Taken → ℕ
fault_count ends = count_by (λ taken. is_failed_read taken.end) ends

-- the folder could not write or compare the file
abbrev pub is_not_written : FileEnd → Bool
is_not_written (file_end.Kept kept.Written) = false
is_not_written (file_end.Kept kept.WasThere) = false
is_not_written (file_end.Kept kept.Differs) = false
is_not_written (file_end.Kept kept.NotWritten) = true
is_not_written (file_end.Refused code) = false
is_not_written file_end.Fault = false

abbrev pub not_written_count : List Taken → ℕ
not_written_count ends = count_by (λ taken. is_not_written taken.end) ends

-- a count rose by this much or more, or is at its last value
abbrev pub RoseBy : (more before now : ℕ) → Type 0
RoseBy more before now = min (before + more) (2 ^ 64 - 1) ≤ now

-- ---- the image

-- by whether the medium failed: its count of faults rose; or the tape is as before, or settled and finished
abbrev pub IsReadOnly : (failed : Bool) → (s t : Mounted) → Type 0
IsReadOnly true s t = Rose s.faults t.faults
IsReadOnly false s t = (t.faults ≡ s.faults) × ((x y : Tape) → s.tape ≡ Some x → t.tape ≡ Some y → (y ≡ x) ⊎ IsFinished x y)

-- Only commands that read were performed.
pub record OnlyReads (failed : Bool) (s t : Mounted) : Type 0 where
  pub records : t.records ≡ s.records
  pub seen : is_some t.tape ≡ is_some s.tape
  pub own : OwnsGate s.tape → OwnsGate t.tape
  pub volume : OwnsGate s.tape → volume_shown t.tape ≡ volume_shown s.tape
  pub tape : IsReadOnly failed s t
  -- Also after a fault, a tape whose volume has no mark settles to the same, in all records except the gate.
  pub reads : (x y : Tape) → s.tape ≡ Some x → t.tape ≡ Some y → has_mark s.records (volume_of x) ≡ false → SettlesAs (settled x) y

-- Beside the tape nothing changed, and each tape that a stop may have left has the property `leaves`, or could be left
-- before.
pub record GoesOnBeside (leaves : Tape → Type 0) (v w : VolumesView) : Type 0 where
  pub later : is_some v.mounted.tape ≡ true → v.moment ≤ w.moment
  pub stops : is_some v.mounted.tape ≡ true → (m : ℕ) (x : Tape) → m ≤ v.moment → w.left_since m x → v.left_since m x ⊎ leaves x
  pub same : w.inside ≡ v.inside
  pub others : OthersAreKept v.inside v.images w.images

-- ---- the folder

-- What holds of the folder, whatever is copied.
pub record FolderKeeps (f g : FolderView) : Type 0 where
  pub folder : SameFolder f g
  -- no part file is open
  pub closed : g.part ≡ None
  pub known : is_some g.files ≡ is_some f.files
  -- a file that the folder has stays as it is
  pub keeps : (other bytes : List ℕ) → file_in_folder other f.files ≡ Some bytes → file_in_folder other g.files ≡ Some bytes
  -- a part file was not removed, or the part files are as before
  pub parts : Rose f.unremoved g.unremoved ⊎ ((other : List ℕ) → IsPartName other → file_in_folder other g.files ≡ file_in_folder other f.files)
  -- no count falls
  pub failures : f.failures ≤ g.failures
  pub unremoved : f.unremoved ≤ g.unremoved

-- Each file that is no part file is as before, or as it is made. So is what a stop may leave under its name.
pub record FolderGains (makes : List ℕ → Option (List ℕ) → Type 0) (f g : FolderView) : Type 0 where
  pub files : (other : List ℕ) → (file_in_folder other g.files ≡ file_in_folder other f.files) ⊎ (makes other (file_in_folder other g.files) ⊎ IsPartName other)
  pub leaves : (other : List ℕ) (content : Option (List ℕ)) → ShowsFiles f → (IsPartName other → ⊥) → g.leaves other content → f.leaves other content ⊎ makes other content
  pub left : (other : List ℕ) (content : Option (List ℕ)) → ShowsFiles f → (IsPartName other → ⊥) → g.left other content → f.left other content ⊎ makes other content

-- a call failed; or the numbers of part files are taken, at the start or after one was not removed
abbrev pub WasUnableSince : FolderView → FolderView → Type 0
WasUnableSince f g = Rose f.failures g.failures ⊎ (Rose f.unremoved g.unremoved ⊎ AreTaken part_numbers f)

-- this many files were not written: that many calls failed, or more; or the numbers of part files are taken
abbrev pub WereUnable : ℕ → FolderView → FolderView → Type 0
WereUnable count f g = RoseBy count f.failures g.failures ⊎ (Rose f.unremoved g.unremoved ⊎ AreTaken part_numbers f)

-- a file of that name has other bytes, or something that is no file has the name
abbrev pub HasOther : (name bytes : List ℕ) → FolderView → Type 0
HasOther name bytes g = ((is_some (file_in_folder name g.files) ≡ true) × (file_in_folder name g.files ≢ Some bytes)) ⊎ (g.other name ≡ true)

-- what the folder did with a file of that host name and these bytes, from f to g
abbrev pub IsKeptSo : (name bytes : List ℕ) → Kept → (f g : FolderView) → Type 0
IsKeptSo name bytes kept.Written f g = ShowsFiles f → IsUnusedName name f × (file_in_folder name g.files ≡ Some bytes)
IsKeptSo name bytes kept.WasThere f g = ShowsFiles f → file_in_folder name g.files ≡ Some bytes
IsKeptSo name bytes kept.Differs f g = ShowsFiles f → (file_in_folder name f.files ≢ Some bytes) × HasOther name bytes g
IsKeptSo name bytes kept.NotWritten f g = WasUnableSince f g

-- The file of that name on the volume v of a medium of n records ended so: it was read; or the command that reads it is
-- refused; or the medium failed.
abbrev pub EndIs : (n : ℕ) → Volume → Name → FileEnd → (f g : FolderView) → Type 0
EndIs n v name (file_end.Kept k) f g = (file : FileContent) × (file_on v (name_bytes name) ≡ Some file)
    × (is_hidden (host_name (name_bytes name) file) ≡ false) × IsKeptSo (host_name (name_bytes name) file) file.bytes k f g
EndIs n v name (file_end.Refused code) f g = reply_by (apply n (Fetch (name_bytes name)) (Some v)).0 ≡ reply.No code
EndIs n v name file_end.Fault f g = Unit {0}

abbrev pub EndsAre : (n : ℕ) → Volume → List Taken → (f g : FolderView) → Type 0
EndsAre n v [] f g = Unit {0}
EndsAre n v (taken ∷ rest) f g = EndIs n v taken.name taken.end f g × EndsAre n v rest f g

-- the file was written under that name, with this content
abbrev pub WritesFile : Volume → Name → FileEnd → List ℕ → Option (List ℕ) → Type 0
WritesFile v name (file_end.Kept kept.Written) other content = (file : FileContent) × (file_on v (name_bytes name) ≡ Some file)
    × (other ≡ host_name (name_bytes name) file) × (content ≡ Some file.bytes)
WritesFile v name _ other content = ⊥

-- one of the files was
abbrev pub WrittenBy : Volume → List Taken → List ℕ → Option (List ℕ) → Type 0
WrittenBy v [] other content = ⊥
WrittenBy v (taken ∷ rest) other content = WritesFile v taken.name taken.end other content ⊎ WrittenBy v rest other content

-- Files of the volume v were copied, with these ends.
pub record AreCopied (n : ℕ) (v : Volume) (ends : List Taken) (f g : FolderView) : Type 0 where
  pub ends_are : EndsAre n v ends f g
  pub gains : FolderGains (WrittenBy v ends) f g

-- The commands only read, and files were copied with these ends.
pub record Copied (failed : Bool) (ends : List Taken) (s t : Mounted) (f g : FolderView) : Type 0 where
  pub reads : OnlyReads failed s t
  -- the medium counts each fault
  pub faults : RoseBy (fault_count ends) s.faults t.faults
  pub keeps : FolderKeeps f g
  -- each file that was not written has a cause of its own
  pub not_written : WereUnable (not_written_count ends) f g
  -- if contracts can see the volume
  pub are_copied : (v : Volume) → OwnsGate s.tape → volume_shown s.tape ≡ Some (Some v) → AreCopied s.records v ends f g

-- ---- the job

-- a stop leaves each file that is not hidden as it is
abbrev pub IsOnDisk : FolderView → Type 0
IsOnDisk g = (name : List ℕ) (content : Option (List ℕ)) → ShowsFiles g → is_hidden name ≡ false → g.leaves name content → content ≡ file_in_folder name g.files

-- by what became of the files
abbrev pub FilesWentBy : Went → List Taken → Type 0
FilesWentBy went.Done ends = all_copied ends ≡ true
FilesWentBy went.NotAll ends = all_copied ends ≡ false
FilesWentBy _ ends = ⊥

-- By how the job went: all files were copied, or one was not, the folder is there, and the disk has the names. Or a call
-- of the folder failed: before a file was to be copied, or besides the calls that failed for the files.
abbrev pub FolderWent : Went → (AreNames : List Name → Type 0) → (ends : List Taken) → (f g : FolderView) → Type 0
FolderWent went.Done AreNames ends f g = (all_copied ends ≡ true) × AreNames (map (λ taken. taken.name) ends) × IsOnDisk g × (g.made ≡ true)
FolderWent went.NotAll AreNames ends f g = (all_copied ends ≡ false) × AreNames (map (λ taken. taken.name) ends) × IsOnDisk g × (g.made ≡ true)
FolderWent went.FolderLost AreNames ends f g = Rose f.failures g.failures
    × ((ends ≡ []) ⊎ (AreNames (map (λ taken. taken.name) ends) × WereUnable (suc (not_written_count ends)) f g × (g.made ≡ true)))
FolderWent _ AreNames ends f g = ⊥

-- the command `dir` is refused
abbrev pub IsRefused : Code → (n : ℕ) → (shown : Option (Option Volume)) → Type 0
IsRefused code n shown = (before : Option Volume) → shown ≡ Some before → reply_by (apply n Dir before).0 ≡ reply.No code

-- Why the job went so. After the directory was read, memory can be short only if contracts cannot see the volume.
abbrev pub WentSo : Went → (n : ℕ) → (asked : List Name) → (shown : Option (Option Volume)) → (ends : List Taken) → (f g : FolderView) → Type 0
WentSo (went.Refused code) n asked shown ends f g = (ends ≡ []) × IsRefused code n shown
WentSo went.Fault n asked shown ends f g = ends ≡ []
WentSo went.OutOfMemory n asked shown ends f g = (ends ≡ []) × (shown ≡ None)
WentSo w n asked shown ends f g = FolderWent w (AreNamesCopied n asked shown) ends f g

-- no call of the folder was made
abbrev pub is_before_folder : Went → Bool
is_before_folder (went.Refused code) = true
is_before_folder went.Fault = true
is_before_folder went.OutOfMemory = true
is_before_folder _ = false

-- the medium failed
abbrev pub has_failed : Went → List Taken → Bool
has_failed went.Fault ends = true
has_failed _ ends = has_fault ends

-- The files were copied, after the directory was read.
pub record CopyDid (w : Went) (asked : List Name) (ends : List Taken) (s t : Mounted) (f g : FolderView) : Type 0 where
  pub copied : Copied (has_failed w ends) ends s t f g
  pub went_so : WentSo w s.records asked (volume_shown s.tape) ends f g

-- The directory was read, and files were copied. Without a fault the tape is finished.
pub record CopiedSo (w : Went) (asked : List Name) (ends : List Taken) (s t : Mounted) (f g : FolderView) : Type 0 where
  pub did : CopyDid w asked ends s t f g
  pub finished : has_failed w ends ≡ false → (x y : Tape) → s.tape ≡ Some x → t.tape ≡ Some y → IsFinished x y

-- That was done; or there was no memory for it, and then nothing was read or copied.
abbrev pub OutDid : (w : Went) (asked : List Name) (ends : List Taken) (s t : Mounted) (f g : FolderView) → Type 0
OutDid w asked ends s t f g = DoneOrNot (λ w s t. CopiedSo w asked ends s t f g) (ends ≡ []) w s t
