-- What a job that stores a file writes on standard error.
use Rattle.std.specs.Prelude.{◌/◌, ◌%◌, ◌++◌, ℕ, List, [], ◌∷◌, codes, get_or, Some, if◌then◌else◌}
use Rattle.il_script.specs.declared.reply.Reply.{Reply}
use Rattle.il_script.specs.declared.reply.Reply.TheVariants as reply
use Rattle.tape_volumes.specs.declared.went.Went.TheVariants as went
use Rattle.tape_volumes.specs.declared.ending.Ending.{Ending}
use Rattle.tape_volumes.specs.declared.ending.Ending.TheVariants as ending
use Rattle.tape_volumes.specs.Endings.{ending_message, of_image, told_line}
use Rattle.tape_changes.specs.declared.replacing.NewFile.{NewFile}
use Rattle.tape_changes.specs.declared.replacing.Stored.{Stored}
use Rattle.tape_changes.specs.declared.replacing.Stored.TheVariants as stored
use Rattle.tape_changes.specs.ChangeMessages.{change_message, is_by_steps}
use Rattle.tape_changes.specs.Replacing.{store_change}

-- the directory was not listed, by this reply
abbrev pub unlisted_message : (image : List ℕ) → Reply → List ℕ
unlisted_message image reply.Ok = []
unlisted_message image (reply.No code) = ending_message image (ending.Went (went.Refused code))
unlisted_message image r = ending_message image (ending.Went went.Fault)

-- a number below 16 as a hex digit, in upper case
abbrev pub kind_digit : ℕ → ℕ
kind_digit n = get_or (codes "0123456789ABCDEF") n 0

-- a number of two bytes in four hex digits, high byte first
abbrev pub kind_digits : ℕ → List ℕ
kind_digits k = kind_digit (k / 4096) ∷ kind_digit (k / 256 % 16) ∷ kind_digit (k / 16 % 16) ∷ kind_digit (k % 16) ∷ []

-- a file of the name has this type
abbrev pub other_type : ℕ → List ℕ
other_type kind = codes "no text file (" ++ kind_digits kind ++ codes ")"

-- The message of a text file that was to be stored, whose name is this text, by what became of it. It is empty if the
-- file was stored.
abbrev pub stored_message : (image text : List ℕ) → NewFile → Stored → List ℕ
stored_message image text file stored.Untried = []
stored_message image text file (stored.Unlisted r) = unlisted_message image r
stored_message image text file (stored.OtherType kind) =
    told_line (of_image image text) (other_type kind) (codes ": purge it first")
stored_message image text file (stored.Asked r) = change_message image text (store_change file) (Some r)

-- the message of the job: that of the file if all else went well, and otherwise that of the ending
abbrev pub replaced_message : (image text : List ℕ) → Ending → NewFile → Stored → List ℕ
replaced_message image text e file st =
    if is_by_steps e then stored_message image text file st else ending_message image e
