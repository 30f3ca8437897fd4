-- How a job on one image ends, with its exit status and its message.
use Rattle.std.specs.Prelude.{◌-◌, ◌++◌, ℕ, Bool, true, false, List, [], length, take, codes}
use Rattle.il_script.specs.Replies.{error_line}
use Rattle.il_script.specs.declared.reply.Code.{Code}
use Rattle.il_script.specs.declared.reply.Code.TheVariants.{NoFile, NotLif, NotText, Protected}
use Rattle.tape_volumes.specs.declared.went.Went.TheVariants as went
use Rattle.tape_volumes.specs.declared.ending.Ending.{Ending}
use Rattle.tape_volumes.specs.declared.ending.Ending.TheVariants as ending

-- the exit status, if the job has this image alone
abbrev pub ending_status : Ending → ℕ
ending_status (ending.Went went.Done) = 0
ending_status (ending.Went (went.Refused code)) = 1
ending_status (ending.Went went.Fault) = 1
ending_status (ending.Went went.NoSize) = 1
ending_status (ending.Went went.NotAll) = 1
ending_status ending.NoImage = 3
ending_status ending.ImageTooLarge = 4
ending_status (ending.Went went.Unwritten) = 6
ending_status (ending.Went went.FolderLost) = 6
ending_status (ending.Went went.OutOfMemory) = 7
ending_status ending.NotOpened = 9

-- a job ends here though it has more images
abbrev pub is_last : Ending → Bool
is_last (ending.Went went.Unwritten) = true
is_last (ending.Went went.OutOfMemory) = true
is_last e = false

abbrev pub is_done : Ending → Bool
is_done (ending.Went went.Done) = true
is_done e = false

-- an error of the volume, by its number and name: the reply's line without its end
abbrev pub code_text : Code → List ℕ
code_text code = take (length (error_line code) - 1) (error_line code)

-- why something was not done
abbrev pub cause_of : Ending → List ℕ
cause_of (ending.Went went.Done) = []
cause_of (ending.Went (went.Refused code)) = code_text code
cause_of (ending.Went went.Fault) = codes "the image could not be read or written"
cause_of (ending.Went went.Unwritten) = codes "standard output could not be written"
cause_of (ending.Went went.OutOfMemory) = codes "there is not enough memory"
cause_of (ending.Went went.NotAll) = codes "not all was done"
cause_of (ending.Went went.FolderLost) = codes "the folder could not be made or written"
cause_of (ending.Went went.NoSize) = codes "it does not tell how many bytes it has"
cause_of ending.NoImage = codes "there is no such image"
cause_of ending.ImageTooLarge = codes "the image has more than 630784 bytes, the size of a disc"
cause_of ending.NotOpened = codes "the image could not be opened, or another program is using it"

-- what an error of the volume means
abbrev pub advice_of : Ending → List ℕ
advice_of (ending.Went (went.Refused NotLif)) = codes ": it has no LIF volume that can be read; 'tape why IMAGE' tells why"
advice_of (ending.Went (went.Refused NoFile)) = codes ": there is no file of that name"
advice_of (ending.Went (went.Refused NotText)) = codes ": it is no text file"
advice_of (ending.Went (went.Refused Protected)) = codes ": it is the redo file"
advice_of e = []

-- what was not done concerns one file, and not the whole image
abbrev pub is_of_file : Ending → Bool
is_of_file (ending.Went (went.Refused NotLif)) = false
is_of_file (ending.Went (went.Refused code)) = true
is_of_file (ending.Went went.NoSize) = true
is_of_file e = false

-- a message: what it concerns, why something was not done, and what that means
abbrev pub told_line : (subject cause advice : List ℕ) → List ℕ
told_line subject cause advice = codes "tape: " ++ subject ++ codes ": " ++ cause ++ advice ++ codes "\n"

-- the message of a job on the image of that name that was not all done
abbrev pub ending_message : List ℕ → Ending → List ℕ
ending_message name e = told_line name (cause_of e) (advice_of e)

-- a file of an image
abbrev pub of_image : (image file : List ℕ) → List ℕ
of_image image file = image ++ codes ": " ++ file

-- the message of a job on one file of the image
abbrev pub file_message : (image file : List ℕ) → Ending → List ℕ
file_message image file e = ending_message (of_image image file) e
