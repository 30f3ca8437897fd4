-- What the jobs `put` and `set` do, which store a text from standard input.
use Rattle.std.specs.Prelude.{◌≡◌, ◌⊎◌, ◌∷◌, ℕ, Bool, true, false, List, [], Option, Some, None, Result, Ok, Err}
use Rattle.lif_dir.specs.declared.names.NewName.{NewName}
use Rattle.lif_text.specs.Buffer.{BufferView}
use Rattle.tape_changes.specs.Changing.{output_of}
use Rattle.tape_changes.specs.ReplaceMessages.{replaced_message}
use Rattle.tape_changes.specs.Replacing.{IsTextFile, OldOrNewIsLeft, ReplaceDid}
use Rattle.tape_changes.specs.Steps.{store_step}
use Rattle.tape_changes.specs.declared.replacing.NewFile.{NewFile}
use Rattle.tape_changes.specs.declared.replacing.Stored.{Stored}
use Rattle.tape_changes.specs.declared.replacing.Stored.TheVariants as became
use Rattle.tape_drives.specs.Lending.{IsUnused}
use Rattle.tape_input.specs.Input.{ReadsText}
use Rattle.tape_input.specs.Messages.{no_text_line, no_text_status, stored_line}
use Rattle.tape_input.specs.declared.input.NoText.{NoText}
use Rattle.tape_volumes.specs.Endings.{ending_status}
use Rattle.tape_volumes.specs.Messages.{WritesMessage}
use Rattle.tape_volumes.specs.Outputs.{PrintsNothing, WritesError, Written}
use Rattle.tape_volumes.specs.declared.ending.Ending.{Ending}
use Rattle.tape_arguments.specs.Names.{new_name_spelt, no_new_name_line}
use Rattle.tape.specs.Changes.{ChangesBy, RefusesArgument}
use Rattle.tape.specs.Images.{DriveSight, EndsInDrive, LacksMemoryFor}

-- standard input: the bytes that are still to come, if contracts can see them, and the count of its faults
pub record Input : Type 0 where
  pub left : Option (List ℕ)
  pub faults : ℕ

abbrev pub input_of : Option (List ℕ) → ℕ → Input
input_of left faults = record { left = left; faults = faults }

-- ---- put

-- the file was stored, if there was none of its name
abbrev pub FileIsPut : {M : Type 0} → DriveSight M → (quiet : Bool) → (image text : List ℕ) → NewFile → (status : ℕ) → (old now : Written) → Type 0
FileIsPut drives quiet image text file status old now =
    ChangesBy drives image (store_step file text (stored_line quiet text) ∷ []) status old now

-- ---- set

-- The file was stored, in place of a text file of its name if there was one, whole or not at all. A file of another type
-- stays. The job ended so, and its message was written.
pub record FileIsSet {M : Type 0} (drives : DriveSight M) (quiet : Bool) (image text : List ℕ) (file : NewFile) (status : ℕ) (old now : Written) : Type 0 where
  pub ending : Ending
  pub stored : Stored
  pub ends : EndsInDrive drives (λ w s t. ReplaceDid file (stored_line quiet text) stored w s t (output_of old.out old.out_faults) (output_of now.out now.out_faults)) (OldOrNewIsLeft file)
      ((stored ≡ became.Untried) × (output_of now.out now.out_faults ≡ output_of old.out old.out_faults)) ending image
  pub status_is : status ≡ ending_status ending
  pub says : WritesMessage (replaced_message image text ending file stored) old.error now.error old.error_faults now.error_faults

-- ---- either

abbrev pub FileIsStored : {M : Type 0} → DriveSight M → (over quiet : Bool) → (image text : List ℕ) → NewFile → (status : ℕ) → (old now : Written) → Type 0
FileIsStored drives true quiet image text file status old now = FileIsSet drives quiet image text file status old now
FileIsStored drives false quiet image text file status old now = FileIsPut drives quiet image text file status old now

-- a text file with these bytes was stored; or there was no memory to begin with, and no drive was used
abbrev pub StoresBytes : {M : Type 0} → DriveSight M → (over quiet : Bool) → (image text : List ℕ) → NewName → (bytes : List ℕ) → (status : ℕ) → (old now : Written) → Type 0
StoresBytes drives over quiet image text name bytes status old now =
    LacksMemoryFor drives status old now ⊎ ((file : NewFile) × IsTextFile name bytes file × FileIsStored drives over quiet image text file status old now)

-- there is no text, a message says why, and no drive was used
pub record TextIsRefused {M : Type 0} (drives : DriveSight M) (text : List ℕ) (why : NoText) (status : ℕ) (old now : Written) : Type 0 where
  pub unused : IsUnused drives.before drives.now
  pub status_is : status ≡ no_text_status why
  pub prints : PrintsNothing old now
  pub says : WritesError (no_text_line text why) old now

abbrev pub StoresRead : {M : Type 0} → DriveSight M → (over quiet : Bool) → (image text : List ℕ) → NewName → Result BufferView NoText → (status : ℕ) → (old now : Written) → Type 0
StoresRead drives over quiet image text name (Ok read) status old now = StoresBytes drives over quiet image text name read.bytes status old now
StoresRead drives over quiet image text name (Err why) status old now = TextIsRefused drives text why status old now

abbrev pub StoresFor : {M : Type 0} → DriveSight M → (over quiet : Bool) → (image text : List ℕ) → Option NewName → (from left : Input) → (status : ℕ) → (old now : Written) → Type 0
StoresFor drives over quiet image text None from left status old now = (left ≡ from) × RefusesArgument (no_new_name_line text) status old now
StoresFor drives over quiet image text (Some name) from left status old now =
    (read : Result BufferView NoText) × ReadsText from.left left.left from.faults left.faults read × StoresRead drives over quiet image text name read status old now

-- Standard input was read to its end, and then its text was stored as the file whose name the argument spells; or it was
-- refused. A name that no file can be given is refused before anything is read.
abbrev pub StoresText : {M : Type 0} → DriveSight M → (over quiet : Bool) → (image text : List ℕ) → (from left : Input) → (status : ℕ) → (old now : Written) → Type 0
StoresText drives over quiet image text from left status old now = StoresFor drives over quiet image text (new_name_spelt text) from left status old now
