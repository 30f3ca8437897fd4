-- The files of an image, which a job collects in memory.
use Rattle.std.specs.Prelude.{◌≡◌, ◌++◌, ◌∷◌, ℕ, Bool, true, false, List, [], All, Contains, map, Option, Some, Result, Ok, Err}
use Rattle.lif_model.specs.Apply.{Fetch, apply}
use Rattle.lif_model.specs.Volume.{Volume}
use Rattle.lif_dir.specs.Entries.{name_bytes, slot_from}
use Rattle.lif_dir.specs.declared.entries.Name.{Name}
use Rattle.il_script.specs.declared.reply.Code.{Code}
use Rattle.il_script.specs.declared.reply.Reply.TheVariants as reply
use Rattle.tape_text.specs.Listing.{shown_files}
use Rattle.tape_volumes.specs.Volumes.{FileContent, Mounted, file_on, reply_by, volume_shown}
use Rattle.tape_jobs.specs.Out.{IsRefused, OnlyReads}
use Rattle.tape_jobs.specs.declared.collecting.Collected.{Collected}
use Rattle.tape_volumes.specs.declared.went.Went.{Went}
use Rattle.tape_volumes.specs.declared.went.Went.TheVariants as went

-- what was collected of a file
abbrev pub collected_content : Collected → FileContent
collected_content file = record { kind = file.kind; field = file.field; bytes = file.bytes.items }

-- the volume has this file, if contracts can see the volume
abbrev pub IsFileShown : Option (Option Volume) → Collected → Type 0
IsFileShown shown file = (v : Volume) → shown ≡ Some (Some v) → file_on v (name_bytes file.name) ≡ Some (collected_content file)

-- these are all files of the volume except the redo file, in the order of their slots
pub record AreFilesOf (n : ℕ) (shown : Option (Option Volume)) (files : List Collected) : Type 0 where
  pub names : (v : Volume) → shown ≡ Some (Some v) → map (λ file. file.name) files ≡ map (λ e. e.name) (shown_files false n (map slot_from v.slots))
  pub contents : All (IsFileShown shown) files

-- why the files were not collected
abbrev pub IsNotCollected : Went → (n : ℕ) → (shown : Option (Option Volume)) → Type 0
IsNotCollected (went.Refused code) n shown = IsRefused code n shown
IsNotCollected went.Fault n shown = Unit {0}
IsNotCollected went.OutOfMemory n shown = Unit {0}
IsNotCollected _ n shown = ⊥

abbrev pub CollectedBy : Went → (n : ℕ) → (shown : Option (Option Volume)) → List Collected → Type 0
CollectedBy went.Done n shown files = AreFilesOf n shown files
CollectedBy w n shown files = IsNotCollected w n shown

-- the medium failed
abbrev pub is_failure : Went → Bool
is_failure went.Fault = true
is_failure _ = false

-- the same volume is on the tape
abbrev pub SameVolume : (s t : Mounted) → Type 0
SameVolume s t = volume_shown t.tape ≡ volume_shown s.tape

-- a file of that name with this content was added
abbrev pub IsAdded : Name → FileContent → (files files_now : List Collected) → Type 0
IsAdded name content files files_now = (file : Collected) × (files_now ≡ files ++ file ∷ []) × (file.name ≡ name) × (collected_content file ≡ content)

-- the command that reads the file of that name is refused
abbrev pub IsFetchRefused : Code → Name → (n : ℕ) → (shown : Option (Option Volume)) → Type 0
IsFetchRefused code name n shown = (before : Option Volume) → shown ≡ Some before → reply_by (apply n (Fetch (name_bytes name)) before).0 ≡ reply.No code

-- why the file of that name was not collected
abbrev pub IsFileLeftOut : Went → Name → (n : ℕ) → (shown : Option (Option Volume)) → Type 0
IsFileLeftOut (went.Refused code) name n shown = IsFetchRefused code name n shown
IsFileLeftOut w name n shown = IsNotCollected w n shown

-- The file of that name was added to those that were collected; or it was not, and the job goes so.
abbrev pub FileCollected : Name → (files files_now : List Collected) → Result (Unit {0}) Went → (s t : Mounted) → Type 0
FileCollected name files files_now (Ok _) s t = OnlyReads false s t × SameVolume s t
    × ((file : Collected) × (files_now ≡ files ++ file ∷ []) × (file.name ≡ name) × IsFileShown (volume_shown s.tape) file)
FileCollected name files files_now (Err w) s t = OnlyReads (is_failure w) s t × IsFileLeftOut w name s.records (volume_shown s.tape)

abbrev pub NamedBy : Went → (names : List Name) → (files : List Collected) → (s t : Mounted) → Type 0
NamedBy went.Done names files s t = SameVolume s t × (map (λ file. file.name) files ≡ names) × All (IsFileShown (volume_shown s.tape)) files
NamedBy w names files s t = (name : Name) × Contains names name × IsFileLeftOut w name s.records (volume_shown s.tape)

-- The files of these names were collected, and the job went so.
pub record NamedCollected (w : Went) (names : List Name) (files : List Collected) (s t : Mounted) : Type 0 where
  pub reads : OnlyReads (is_failure w) s t
  pub named : NamedBy w names files s t

-- The files were collected, and the job went so.
pub record CollectDid (w : Went) (files : List Collected) (s t : Mounted) : Type 0 where
  pub reads : OnlyReads (is_failure w) s t
  pub went_so : CollectedBy w s.records (volume_shown s.tape) files
