-- What the program writes on standard error.
use Rattle.std.specs.Prelude.{◌≡◌, ◌⊎◌, ◌++◌, ℕ, true, false, List, [], Option, codes}
use Rattle.std.specs.Io.KnownBytes.{Appends}
use Rattle.lif_model.specs.Causes.{Rose}
use Rattle.il_ports.specs.Writing.{WritesFront}
use Rattle.tape_volumes.specs.declared.went.Went.TheVariants as went
use Rattle.tape_volumes.specs.declared.ending.Ending.{Ending}
use Rattle.tape_volumes.specs.declared.ending.Ending.TheVariants as ending
use Rattle.tape_volumes.specs.Endings.{ending_message, file_message, is_of_file, told_line}

-- a line of the program
abbrev pub program_line : List ℕ → List ℕ
program_line text = codes "tape: " ++ text ++ codes "\n"

-- there is no memory to begin with
abbrev pub memory_line : List ℕ
memory_line = program_line (codes "there is not enough memory")

-- standard output failed
abbrev pub output_line : List ℕ
output_line = program_line (codes "standard output could not be written")

-- the arguments could not be read
abbrev pub unread_line : List ℕ
unread_line = program_line (codes "an argument is not UTF-8, or there is not enough memory")

-- a text spells the name of no file
abbrev pub no_name_line : List ℕ → List ℕ
no_name_line text = told_line text (codes "a file has a name of one to ten bytes, of which %HH spells one") []

-- the text was written; or a front of it, and then standard error failed
abbrev pub WritesMessage : List ℕ → (before now : Option (List ℕ)) (faults faults_now : ℕ) → Type 0
WritesMessage text before now faults faults_now =
    (Appends before now text × (faults_now ≡ faults)) ⊎ (WritesFront before now text × Rose faults faults_now)

-- the message of a job on the image of that name, unless all was done
abbrev pub WritesEnding : List ℕ → Ending → (before now : Option (List ℕ)) (faults faults_now : ℕ) → Type 0
WritesEnding name (ending.Went went.Done) before now faults faults_now = (now ≡ before) × (faults_now ≡ faults)
WritesEnding name e before now faults faults_now = WritesMessage (ending_message name e) before now faults faults_now

-- The message of a job on one file of the image, unless all was done. It names the file if the ending concerns the file.
abbrev pub WritesFileEnding : (image file : List ℕ) → Ending → (before now : Option (List ℕ)) (faults faults_now : ℕ) → Type 0
WritesFileEnding image file e before now faults faults_now =
    ((is_of_file e ≡ true) × WritesMessage (file_message image file e) before now faults faults_now)
    ⊎ ((is_of_file e ≡ false) × WritesEnding image e before now faults faults_now)
