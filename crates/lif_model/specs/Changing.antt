-- What a command that changes a volume writes of a settled tape, whose volume is that one or none: first the files of a
-- store or a batch, and then the records of one commit.
use Rattle.std.specs.Prelude.{◌≡◌, ℕ, List, [], ◌∷◌, Option, Some, None, if◌then◌else◌}
use Rattle.lif_model.specs.Tape.{Tape}
use Rattle.lif_model.specs.Made.{file_length}
use Rattle.lif_model.specs.declared.version.Version.{Version}
use Rattle.lif_model.specs.declared.version.Version.TheVariants.{One, Two}
use Rattle.lif_model.specs.Redo.{Changes}
use Rattle.lif_model.specs.Commit.{IsCommitted}
use Rattle.lif_model.specs.Volume.{Volume, is_adopted_with}
use Rattle.lif_model.specs.Parts as part
use Rattle.lif_model.specs.Apply.{VolumeCommand, Store, Batch, Format}
use Rattle.lif_model.specs.Fit.{Place, NoSlot, fit_in}
use Rattle.lif_model.specs.Writing.{NewFile, changes_of, files_left, format_changes, part_files, with_files}

-- ---- the version of the redo file

-- the version of the redo file in the directory, and version 1 if there is none
abbrev pub redo_version : ℕ → List (List ℕ) → Version
redo_version n slots = if is_adopted_with n Two slots then Two else One

-- The version of the redo file by which a command commits. `format` makes one of version 1.
abbrev pub version_for : ℕ → VolumeCommand → Option Volume → Version
version_for n (Format label slots) volume = One
version_for n command None = One
version_for n command (Some v) = redo_version n v.slots

-- ---- files

-- the place of a store's file
abbrev pub place_when : ℕ → List ℕ → Option Volume → Place
place_when n bytes (Some v) = fit_in n v (file_length bytes)
place_when n bytes None = NoSlot

-- the files that a command writes
abbrev pub files_when : ℕ → VolumeCommand → Option Volume → List NewFile
files_when n (Store name kind implementation bytes) volume =
    part_files (part.Store name kind implementation bytes) (place_when n bytes volume)
files_when n (Batch parts) (Some v) = files_left n parts v
files_when n (Batch parts) None = []
files_when n command volume = []

-- the tape once they are written
abbrev pub file_when : ℕ → VolumeCommand → Option Volume → Tape → Tape
file_when n command volume tape = with_files (files_when n command volume) tape

-- ---- the commit

-- the records that a command changes at once on a tape
abbrev pub changes_when : ℕ → VolumeCommand → Option Volume → Tape → Changes
changes_when n command (Some v) tape = changes_of n command v tape
changes_when n (Format label slots) None tape = format_changes n label slots
changes_when n command None tape = []

-- the records that it changes once its files are written
abbrev pub changes_filed : ℕ → VolumeCommand → Option Volume → Tape → Changes
changes_filed n command volume tape = changes_when n command volume (file_when n command volume tape)

-- the tape after a commit of these changes, or the same tape if there are none
abbrev pub IsChanged : Version → Changes → Tape → Tape → Type 0
IsChanged version [] t u = u ≡ t
IsChanged version (c ∷ cs) t u = IsCommitted version (c ∷ cs) t u

-- The tape u is what the command makes of the tape t: its files are written, and on the tape with the files its changes
-- are committed. All else below the redo file is as on t, and the gate is closed. A command without changes leaves t.
abbrev pub IsWrittenOn : ℕ → VolumeCommand → Option Volume → Tape → Tape → Type 0
IsWrittenOn n command volume t u =
    IsChanged (version_for n command volume) (changes_filed n command volume t) (file_when n command volume t) u
