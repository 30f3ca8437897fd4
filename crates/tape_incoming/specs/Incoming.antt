-- Files of the host that are to be stored: what each path states, the name that each file gets, and what was read.
use Rattle.std.specs.Prelude.{◌≡◌, ◌==◌, ◌||◌, ℕ, Bool, true, false, List, [], ◌∷◌, Option, Some, None, Result, Ok, Err, Vec, IfOk, if◌then◌else◌}
use Rattle.std.specs.declared.alloc.Global.{Global}
use Rattle.lif_model.specs.Shelf.{largest_image}
use Rattle.lif_dir.specs.declared.entries.Name.{Name}
use Rattle.lif_dir.specs.declared.names.NewName.{NewName}
use Rattle.il_ports.specs.Files.{FileView}
use Rattle.il_ports.specs.NamedImages.{ImagesView}
use Rattle.tape_names.specs.HostNames.{entry_of_host_name}
use Rattle.tape_names.specs.declared.host_names.HostEntry.{HostEntry}
use Rattle.mended_names.specs.Mending.{names_for}
use Rattle.host_files.specs.HostFiles.{HostFileRead, IsHostContent}
use Rattle.host_files.specs.declared.reading.NotRead.{NotRead}
use Rattle.host_files.specs.declared.reading.NotRead.TheVariants as not_read
use Rattle.tape_changes.specs.declared.storing.Incoming.{Incoming}
use Rattle.tape_incoming.specs.declared.arriving.NotStored.{NotStored}
use Rattle.tape_incoming.specs.declared.arriving.NotStored.TheVariants as not_stored
use Rattle.tape_incoming.specs.declared.arriving.Refused.{Refused}

-- ---- what a path states

-- the bytes after the last slash (47), where `part` are those after the last one so far
abbrev pub after_slash : (part path : List ℕ) → List ℕ
after_slash part [] = part
after_slash part (byte ∷ path) = if byte == 47 then after_slash path path else after_slash part path

abbrev pub last_part : List ℕ → List ℕ
last_part path = after_slash path path

-- the entry that the last part of a path states, NAME.TYPE.FIELD
abbrev pub entry_stated : List ℕ → Option HostEntry
entry_stated path = entry_of_host_name (last_part path)

-- a type that no file has
abbrev pub is_no_type : ℕ → Bool
is_no_type kind = kind == 0 || kind == 0xFFFF

-- ---- the names

abbrev pub with_stated : Option HostEntry → List Name → List Name
with_stated None names = names
with_stated (Some entry) names = entry.name ∷ names

-- the names that these paths state, of those that state an entry
abbrev pub names_stated : List (List ℕ) → List Name
names_stated [] = []
names_stated (path ∷ paths) = with_stated (entry_stated path) (names_stated paths)

-- the names that the files of these paths get, one for each path that states an entry
abbrev pub names_given : (mend : Bool) → List (List ℕ) → List (Option NewName)
names_given mend paths = names_for mend (names_stated paths)

-- ---- what becomes of one file

-- a file that is not stored, and why
pub record RefusedFile : Type 0 where
  pub path : List ℕ
  pub why : NotStored

abbrev pub refused_file : Refused → RefusedFile
refused_file refused = record { path = refused.path.now; why = refused.why }

-- This file is stored: it had the name and has the type and the field that its path states, and these bytes.
pub record IsIncoming (entry : HostEntry) (name : NewName) (bytes : List ℕ) (file : Incoming) : Type 0 where
  pub from : file.from ≡ entry.name
  pub named : file.name ≡ name
  pub kind : file.kind ≡ entry.kind
  pub field : file.field ≡ entry.field
  pub bytes_are : file.bytes.items ≡ bytes

-- A file that was read is stored, and any other one is refused. Want of memory is no refusal.
abbrev pub OutcomeBy : HostEntry → NewName → Result (Vec ℕ Global) NotRead → Result Incoming NotStored → Type 0
OutcomeBy entry name (Ok bytes) (Ok file) = IsIncoming entry name bytes.items file
OutcomeBy entry name (Ok bytes) (Err why) = ⊥
OutcomeBy entry name (Err reason) (Ok file) = ⊥
OutcomeBy entry name (Err not_read.OutOfMemory) (Err why) = ⊥
OutcomeBy entry name (Err reason) (Err why) = why ≡ not_stored.NotRead reason

-- the file was read, and the bytes are its, if contracts can see it
pub record ReadsOne {F I : Type 0} (view : F → FileView) (seen : I → ImagesView) (path : List ℕ) (entry : HostEntry) (name : NewName) (old new : I) (outcome : Result Incoming NotStored) : Type 0 where
  pub answer : Result (Vec ℕ Global) NotRead
  pub read : HostFileRead view seen path largest_image old new answer
  pub content : IfOk answer (λ bytes. IsHostContent path (seen new).shelf bytes.items)
  pub outcome_is : OutcomeBy entry name answer outcome

-- A file whose path states this entry is read, unless its type is that of no file, or no file can be given its name.
abbrev pub ByName : {F I : Type 0} → (F → FileView) → (I → ImagesView) → (path : List ℕ) → HostEntry → (no_type : Bool) → Option NewName → (old new : I) → Result Incoming NotStored → Type 0
ByName view seen path entry true name old new outcome = (new ≡ old) × (outcome ≡ Err not_stored.NoType)
ByName view seen path entry false None old new outcome = (new ≡ old) × (outcome ≡ Err not_stored.NoNewName)
ByName view seen path entry false (Some name) old new outcome = ReadsOne view seen path entry name old new outcome

-- What became of the file of a path. The names are for the paths that state an entry, this one and those after it.
abbrev pub ByEntry : {F I : Type 0} → (F → FileView) → (I → ImagesView) → (path : List ℕ) → Option HostEntry → (names rest : List (Option NewName)) → (old new : I) → Result Incoming NotStored → Type 0
ByEntry view seen path None names rest old new outcome = (rest ≡ names) × (new ≡ old) × (outcome ≡ Err not_stored.NoHostName)
ByEntry view seen path (Some entry) names rest old new outcome =
    (name : Option NewName) × (names ≡ name ∷ rest) × ByName view seen path entry (is_no_type entry.kind) name old new outcome

-- ---- what becomes of all

-- the file is one of those that are stored, or of those that are refused, before the others
abbrev pub Adds : (path : List ℕ) → Result Incoming NotStored → (files : List Incoming) (refused : List RefusedFile) (more : List Incoming) (others : List RefusedFile) → Type 0
Adds path (Ok file) files refused more others = (files ≡ file ∷ more) × (refused ≡ others)
Adds path (Err why) files refused more others = (files ≡ more) × (refused ≡ record { path = path; why = why } ∷ others)

-- Files of the host were read, one after the other: these are stored and those are refused, in the order of their paths.
abbrev pub Arrive : {F I : Type 0} → (F → FileView) → (I → ImagesView) → (paths : List (List ℕ)) → (names : List (Option NewName)) → (old new : I) → (files : List Incoming) → (refused : List RefusedFile) → Type 0
Arrive view seen [] names old new files refused = (new ≡ old) × (files ≡ []) × (refused ≡ [])
Arrive {F} {I} view seen (path ∷ paths) names old new files refused =
    (rest : List (Option NewName)) × (between : I) × (outcome : Result Incoming NotStored) × (more : List Incoming) × (others : List RefusedFile)
    × ByEntry view seen path (entry_stated path) names rest old between outcome
    × Adds path outcome files refused more others × Arrive view seen paths rest between new more others
