-- What a line of a script asks for.
use Rattle.std.specs.Prelude.{ℕ, ◌==◌, Bool, false, List, [], ◌∷◌, Option, Some, None, Result, Ok, Err, if◌then◌else◌, codes, option_and_then, option_map}
use Rattle.std.specs.Str.{bytes_eq}
use Rattle.lif_dir.specs.Names.{name_of_bytes, new_name, new_label}
use Rattle.lif_dir.specs.declared.entries.Name.{Name}
use Rattle.lif_dir.specs.declared.names.NewName.{NewName}
use Rattle.il_script.specs.Words.{words_of, without_return, is_none, only_one, only_two, only_four}
use Rattle.il_script.specs.Digits.{number_up_to, hex_bytes, payload_of, type_in}
use Rattle.il_script.specs.Spelling.{spelt}
use Rattle.il_script.specs.declared.limits.TheConstants.{MOST_SLOTS}
use Rattle.il_script.specs.declared.command.Command.{Command}
use Rattle.il_script.specs.declared.command.Command.TheVariants.{Dir, Label, Fetch, Store, Put, Get, Rename, Purge, Format, Adopt, Upgrade, Pack, Begin, Commit, Devices, Status, Poll, Say, Paper, Lend}
use Rattle.il_script.specs.declared.command.LineFault.{LineFault}
use Rattle.il_script.specs.declared.command.LineFault.TheVariants.{BadLine, BadName}

-- a command, and the bytes that it carries
pub record Asked : Type 0 where
  pub command : Command
  pub bytes : List ℕ

-- a line in none of the forms is bad
abbrev pub in_form : {X Y : Type 0} → Option X → (X → Result Y LineFault) → Result Y LineFault
in_form None f = Err BadLine
in_form (Some x) f = f x

-- a line in one of the forms may have a name that does not serve
abbrev pub with_name : {X Y : Type 0} → Option X → (X → Result Y LineFault) → Result Y LineFault
with_name None f = Err BadName
with_name (Some x) f = f x

-- a name that a file can be given, from its bytes
abbrev pub new_name_of_bytes : List ℕ → Option NewName
new_name_of_bytes bytes = option_and_then new_name (name_of_bytes bytes)

-- the name that a spelling stands for, where it serves; None where it is no spelling
abbrev pub spelt_as : {X : Type 0} → (List ℕ → Option X) → List ℕ → Option (Option X)
spelt_as rule text = option_map rule (spelt text)

-- ---- the forms, by the parts after the first word

-- a name that is the only part
abbrev pub name_of_part : List (List ℕ) → Result Name LineFault
name_of_part parts = in_form (only_one parts) (λ part. in_form (spelt_as name_of_bytes part) (λ name. with_name name (λ name. Ok name)))

-- the command of a name
abbrev pub naming : (Name → Command) → Result Name LineFault → Result Command LineFault
naming command (Ok name) = Ok (command name)
naming command (Err fault) = Err fault

-- `fetch NAME`
abbrev pub fetch_of : List (List ℕ) → Result Command LineFault
fetch_of parts = naming Fetch (name_of_part parts)

-- `get NAME`
abbrev pub get_of : List (List ℕ) → Result Command LineFault
get_of parts = naming Get (name_of_part parts)

-- `purge NAME`
abbrev pub purge_of : List (List ℕ) → Result Command LineFault
purge_of parts = naming Purge (name_of_part parts)

-- `rename OLD NEW`
abbrev pub rename_of : List (List ℕ) → Result Command LineFault
rename_of parts = in_form (only_two parts) (λ p. in_form (spelt_as name_of_bytes p.0) (λ old. in_form (spelt_as new_name_of_bytes p.1) (λ new.
    with_name old (λ old. with_name new (λ new. Ok (Rename old new))))))

-- `format LABEL SLOTS`: SLOTS is a number in decimal
abbrev pub format_of : List (List ℕ) → Result Command LineFault
format_of parts = in_form (only_two parts) (λ p. in_form (spelt_as new_label p.0) (λ label. in_form (number_up_to MOST_SLOTS p.1) (λ slots.
    with_name label (λ label. Ok (Format label slots)))))

-- `lend FRAMES`: FRAMES is a number in decimal, at most 4096
abbrev pub lend_of : List (List ℕ) → Result Command LineFault
lend_of parts = in_form (only_one parts) (λ part. in_form (number_up_to 4096 part) (λ frames. Ok (Lend frames)))

-- a command of the name that a file is given, with the bytes that a text spells
abbrev pub carrying : (NewName → Command) → Option NewName → List ℕ → Result Asked LineFault
carrying command name text = in_form (payload_of text) (λ bytes. with_name name (λ name. Ok (record { command = command name; bytes = bytes })))

-- `store NAME TYPE IMPL HEX`: TYPE has four hex digits, IMPL, the implementation field, eight
abbrev pub store_of : List (List ℕ) → Result Asked LineFault
store_of parts = in_form (only_four parts) (λ p. in_form (spelt_as new_name_of_bytes p.0) (λ name. in_form (type_in p.1) (λ kind. in_form (hex_bytes 4 p.2) (λ implementation.
    carrying (λ name. Store name kind implementation) name p.3))))

-- `put NAME HEX`
abbrev pub put_of : List (List ℕ) → Result Asked LineFault
put_of parts = in_form (only_two parts) (λ p. in_form (spelt_as new_name_of_bytes p.0) (λ name. carrying Put name p.1))

-- `say HEX`
abbrev pub say_of : List (List ℕ) → Result Asked LineFault
say_of parts = in_form (only_one parts) (λ part. in_form (payload_of part) (λ bytes. Ok (record { command = Say; bytes = bytes })))

-- the commands without parts
abbrev pub word_command : List ℕ → Option Command
word_command word =
    if bytes_eq word (codes "dir") then Some Dir else
    if bytes_eq word (codes "label") then Some Label else
    if bytes_eq word (codes "adopt") then Some Adopt else
    if bytes_eq word (codes "upgrade") then Some Upgrade else
    if bytes_eq word (codes "pack") then Some Pack else
    if bytes_eq word (codes "begin") then Some Begin else
    if bytes_eq word (codes "commit") then Some Commit else
    if bytes_eq word (codes "devices") then Some Devices else
    if bytes_eq word (codes "status") then Some Status else
    if bytes_eq word (codes "poll") then Some Poll else
    if bytes_eq word (codes "paper") then Some Paper else None

abbrev pub lone_of : List ℕ → List (List ℕ) → Result Command LineFault
lone_of word parts = in_form (word_command word) (λ command. if is_none parts then Ok command else Err BadLine)

-- ---- the table of commands

-- those that carry no bytes
abbrev pub command_of : List ℕ → List (List ℕ) → Result Command LineFault
command_of word parts =
    if bytes_eq word (codes "fetch") then fetch_of parts else
    if bytes_eq word (codes "get") then get_of parts else
    if bytes_eq word (codes "purge") then purge_of parts else
    if bytes_eq word (codes "rename") then rename_of parts else
    if bytes_eq word (codes "format") then format_of parts else
    if bytes_eq word (codes "lend") then lend_of parts else lone_of word parts

abbrev pub without_bytes : Result Command LineFault → Result Asked LineFault
without_bytes (Ok command) = Ok (record { command = command; bytes = [] })
without_bytes (Err fault) = Err fault

-- all of them, by the first word and the parts
abbrev pub asked_of : List ℕ → List (List ℕ) → Result Asked LineFault
asked_of word parts =
    if bytes_eq word (codes "store") then store_of parts else
    if bytes_eq word (codes "put") then put_of parts else
    if bytes_eq word (codes "say") then say_of parts else without_bytes (command_of word parts)

-- ---- lines

abbrev pub is_comment : List ℕ → Bool
is_comment [] = false
is_comment (first ∷ word) = first == 35

abbrev pub not_skipped : Result Asked LineFault → Result (Option Asked) LineFault
not_skipped (Ok asked) = Ok (Some asked)
not_skipped (Err fault) = Err fault

-- a line without words is skipped, and so is one whose first word begins with a number sign
abbrev pub reading_of_words : List (List ℕ) → Result (Option Asked) LineFault
reading_of_words [] = Ok None
reading_of_words (word ∷ parts) = if is_comment word then Ok None else not_skipped (asked_of word parts)

-- what a line asks for
abbrev pub reading_of : List ℕ → Result (Option Asked) LineFault
reading_of line = reading_of_words (words_of (without_return line))

-- ---- the two parts of a reading

abbrev pub command_in : Result Asked LineFault → Result Command LineFault
command_in (Ok asked) = Ok asked.command
command_in (Err fault) = Err fault

abbrev pub bytes_in : Result Asked LineFault → List ℕ
bytes_in (Ok asked) = asked.bytes
bytes_in (Err fault) = []

-- the command of a line that is not skipped
abbrev pub command_read : Result (Option Asked) LineFault → Result (Option Command) LineFault
command_read (Ok None) = Ok None
command_read (Ok (Some asked)) = Ok (Some asked.command)
command_read (Err fault) = Err fault

-- the bytes that it carries, none where there is no command
abbrev pub bytes_read : Result (Option Asked) LineFault → List ℕ
bytes_read (Ok None) = []
bytes_read (Ok (Some asked)) = asked.bytes
bytes_read (Err fault) = []
