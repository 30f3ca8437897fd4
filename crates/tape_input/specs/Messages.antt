-- What is written on standard error if there is no text, and the exit status.
use Rattle.std.specs.Prelude.{◌++◌, ℕ, Bool, true, false, List, [], codes, decimal}
use Rattle.tape_volumes.specs.Endings.{told_line}
use Rattle.tape_volumes.specs.Messages.{memory_line, program_line}
use Rattle.tape_input.specs.declared.input.NoText.{NoText}
use Rattle.tape_input.specs.declared.input.NoText.TheVariants as no_text

-- this line is too long
abbrev pub long_line_text : ℕ → List ℕ
long_line_text number = codes "line " ++ decimal number ++ codes " has more than 32767 bytes"

abbrev pub unread_input_line : List ℕ
unread_input_line = program_line (codes "standard input could not be read")

abbrev pub too_large_line : (name : List ℕ) → List ℕ
too_large_line name = told_line name (codes "the text, or its file, has more than 630784 bytes, the size of a disc") []

-- why there is no text for the file of that name
abbrev pub no_text_line : (name : List ℕ) → NoText → List ℕ
no_text_line name no_text.Unread = unread_input_line
no_text_line name no_text.TooLarge = too_large_line name
no_text_line name (no_text.LongLine number) = told_line name (long_line_text number) []
no_text_line name no_text.OutOfMemory = memory_line

abbrev pub no_text_status : NoText → ℕ
no_text_status no_text.Unread = 5
no_text_status no_text.TooLarge = 1
no_text_status (no_text.LongLine number) = 1
no_text_status no_text.OutOfMemory = 7

-- what is printed once a file is stored whose name is this text, unless the job is to be quiet
abbrev pub stored_line : (quiet : Bool) → List ℕ → List ℕ
stored_line true text = []
stored_line false text = text ++ codes "\n"
