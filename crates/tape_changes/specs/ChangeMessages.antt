-- What a job that changes an image writes on standard error.
use Rattle.std.specs.Prelude.{◌++◌, ℕ, true, false, Bool, List, [], ◌∷◌, codes, Option, Some, None, if◌then◌else◌}
use Rattle.il_script.specs.declared.reply.Code.{Code}
use Rattle.il_script.specs.declared.reply.Code.TheVariants as code
use Rattle.il_script.specs.declared.reply.Reply.{Reply}
use Rattle.il_script.specs.declared.reply.Reply.TheVariants as reply
use Rattle.tape_volumes.specs.declared.change.Change.{Change}
use Rattle.tape_volumes.specs.declared.change.Change.TheVariants as change
use Rattle.tape_volumes.specs.declared.went.Went.TheVariants as went
use Rattle.tape_volumes.specs.declared.ending.Ending.{Ending}
use Rattle.tape_volumes.specs.declared.ending.Ending.TheVariants as ending
use Rattle.tape_volumes.specs.Endings.{cause_of, code_text, ending_message, of_image, told_line}
use Rattle.tape_changes.specs.declared.changing.Step.{Step}

-- what an error of the volume means for a change, and what to do about it
abbrev pub change_advice : Change → Code → List ℕ
change_advice c code.NotLif = codes ": the image has no LIF volume that can be read; 'tape why IMAGE' tells why"
change_advice c code.NoFile = codes ": there is no file of that name"
change_advice change.Adopt code.Exists = codes ": there is a file REDOFILE, which is no redo file at its place"
change_advice (change.Rename old new) code.Exists = codes ": there is a file of the new name already"
change_advice c code.Exists = codes ": there is a file of that name already"
change_advice c code.NoSlot = codes ": the directory has no free slot"
change_advice (change.Format label slots) code.NoRoom = codes ": the medium has no room for that many slots"
change_advice c code.NoRoom = codes ": no free place is large enough"
change_advice c code.NoRedo = codes ": the volume has no redo file; 'tape adopt IMAGE' makes one"
change_advice change.Upgrade code.InUse = codes ": a file or the directory lies in the records that the redo file needs"
change_advice c code.InUse = codes ": a file lies in the records that the redo file needs"
change_advice (change.Rename old new) code.Protected = codes ": REDOFILE is the name of the redo file"
change_advice c code.Protected = codes ": it is the redo file"
change_advice c code.NeedsUpgrade = codes ": run 'tape upgrade IMAGE' first; that takes 30 records"
change_advice c code = []

-- The message of a change that concerns this subject, by the reply to it. One without a reply was not tried, since the job
-- ended before.
abbrev pub change_message : (image subject : List ℕ) → Change → Option Reply → List ℕ
change_message image subject c (Some reply.Ok) = []
change_message image subject c (Some (reply.No code)) = told_line (of_image image subject) (code_text code) (change_advice c code)
change_message image subject c (Some r) = told_line (of_image image subject) (cause_of (ending.Went went.Fault)) []
change_message image subject c None = told_line (of_image image subject) (codes "it was not tried") []

-- the message of a step
abbrev pub step_message : (image : List ℕ) → Step → Option Reply → List ℕ
step_message image step reply = change_message image step.subject.now step.change reply

-- one for each step whose change is not known to be made; the steps without a reply are the last ones
abbrev pub step_messages : (image : List ℕ) → List Step → List Reply → List ℕ
step_messages image [] replies = []
step_messages image (step ∷ steps) [] = step_message image step None ++ step_messages image steps []
step_messages image (step ∷ steps) (r ∷ replies) = step_message image step (Some r) ++ step_messages image steps replies

-- the messages of the steps tell all that was not done
abbrev pub is_by_steps : Ending → Bool
is_by_steps (ending.Went went.Done) = true
is_by_steps (ending.Went went.NotAll) = true
is_by_steps e = false

abbrev pub image_message : (image : List ℕ) → Ending → List ℕ
image_message image e = if is_by_steps e then [] else ending_message image e

-- the steps have messages: the image was opened
abbrev pub tells_steps : Ending → Bool
tells_steps (ending.Went went.Done) = true
tells_steps (ending.Went went.NotAll) = true
tells_steps (ending.Went went.Unwritten) = true
tells_steps e = false

-- the messages of the job: that of its ending, and one for each step whose change was not made
abbrev pub change_messages : (image : List ℕ) → Ending → List Step → List Reply → List ℕ
change_messages image e steps replies = image_message image e ++ (if tells_steps e then step_messages image steps replies else [])
