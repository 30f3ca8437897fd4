-- What the program writes on standard output and on standard error.
use Rattle.std.specs.Prelude.{◌≡◌, ◌⊎◌, ℕ, List, Option}
use Rattle.std.specs.Io.KnownBytes.{Appends}
use Rattle.lif_model.specs.Causes.{Rose}
use Rattle.il_ports.specs.Writing.{WritesFront}
use Rattle.tape_volumes.specs.Messages.{WritesMessage, memory_line, output_line}
use Rattle.tape_volumes.specs.declared.went.Went.{Went}
use Rattle.tape_volumes.specs.declared.went.Went.TheVariants as went

-- standard output, and its count of faults, are as before
abbrev pub WritesNothing : (before now : Option (List ℕ)) (faults faults_now : ℕ) → Type 0
WritesNothing before now faults faults_now = (now ≡ before) × (faults_now ≡ faults)

-- The text was written: all of it; or a front of it, and then standard output failed; or there was no memory.
abbrev pub WritesText : Went → List ℕ → (before now : Option (List ℕ)) (faults faults_now : ℕ) → Type 0
WritesText went.Done text before now faults faults_now = Appends before now text × (faults_now ≡ faults)
WritesText went.Unwritten text before now faults faults_now = WritesFront before now text × Rose faults faults_now
WritesText went.OutOfMemory text before now faults faults_now = WritesNothing before now faults faults_now
WritesText _ text before now faults faults_now = ⊥

-- what was written to standard output and to standard error, if contracts can see it, and the counts of their faults
pub record Written : Type 0 where
  pub out : Option (List ℕ)
  pub out_faults : ℕ
  pub error : Option (List ℕ)
  pub error_faults : ℕ

abbrev pub written : (out : Option (List ℕ)) (out_faults : ℕ) (error : Option (List ℕ)) (error_faults : ℕ) → Written
written out out_faults error error_faults = record { out = out; out_faults = out_faults; error = error; error_faults = error_faults }

-- standard output is as before
abbrev pub PrintsNothing : Written → Written → Type 0
PrintsNothing old now = (now.out ≡ old.out) × (now.out_faults ≡ old.out_faults)

-- standard error is as before
abbrev pub TellsNothing : Written → Written → Type 0
TellsNothing old now = (now.error ≡ old.error) × (now.error_faults ≡ old.error_faults)

-- this was written to standard error, or standard error failed
abbrev pub WritesError : List ℕ → Written → Written → Type 0
WritesError text old now = WritesMessage text old.error now.error old.error_faults now.error_faults

-- there was no memory to begin with, and a message says so
abbrev pub LacksMemory : (status : ℕ) → Written → Written → Type 0
LacksMemory status old now = (status ≡ 7) × PrintsNothing old now × WritesError memory_line old now

-- a front of the text was written to standard output, which then failed, and a message says so
abbrev pub LosesOutput : List ℕ → (status : ℕ) → Written → Written → Type 0
LosesOutput text status old now =
    (status ≡ 6) × WritesFront old.out now.out text × Rose old.out_faults now.out_faults × WritesError output_line old now

-- The text was written to standard output, and then the exit status is this one; or standard output failed.
abbrev pub PrintsWith : (done : ℕ) → List ℕ → (status : ℕ) → Written → Written → Type 0
PrintsWith done text status old now =
    ((status ≡ done) × Appends old.out now.out text × (now.out_faults ≡ old.out_faults) × TellsNothing old now)
    ⊎ LosesOutput text status old now
