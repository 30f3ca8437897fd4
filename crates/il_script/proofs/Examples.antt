-- Worked examples, computed by the checker.
use Rattle.std.proofs.Common.{◌≡◌, ◌++◌, ◌+◌, ◌-◌, ◌*◌, ◌^◌, [], ◌∷◌, Some, None, Ok, Err, refl, codes}
use Rattle.std.specs.Fmt.{digits}
use Rattle.hex.proofs.OnLiterals.{hex_on_literals}
use Rattle.lif_dir.specs.Names.{name_of_bytes, new_label}
use Rattle.lif_dir.specs.declared.names.NewName.{NewName}
use Rattle.il_script.specs.LineCut.{line_cut, lines_of, line_told, HasNoFeed}
use Rattle.il_script.specs.Told.{line_of_length}
use Rattle.il_script.specs.Words.{words_of, without_return, only_two}
use Rattle.il_script.specs.Digits.{value_of, number_up_to, hex_bytes, payload_of, type_in}
use Rattle.il_script.specs.Spelling.{spelt}
use Rattle.il_script.specs.Commands.{spelt_as, reading_of, command_read, bytes_read}
use Rattle.il_script.specs.Replies.{text_line, reply_line}
use Rattle.il_script.specs.declared.lines.Line.TheVariants.{Text, TooLong}
use Rattle.il_script.specs.declared.limits.TheConstants.{LONGEST_LINE, LONGEST_PAYLOAD, LONGEST_SCRIPT, MOST_SLOTS}
use Rattle.il_script.specs.declared.command.Command.TheVariants.{Dir, Label, Fetch, Store, Put, Get, Rename, Purge, Format, Adopt, Upgrade, Begin, Commit, Devices, Status, Poll, Say, Paper, Lend}
use Rattle.il_script.specs.declared.command.LineFault.TheVariants.{BadLine, BadName}
use Rattle.il_script.specs.declared.reply.Code.TheVariants as code
use Rattle.il_script.specs.declared.reply.Reply.TheVariants as reply

-- ---- lines

-- a last line without a line feed
cut_lines : line_cut (codes "dir" ++ 10 ∷ 10 ∷ codes "list") ≡ record { whole = codes "dir" ∷ [] ∷ []; open_line = codes "list" }
cut_lines = refl

lines : lines_of (codes "dir" ++ 10 ∷ 10 ∷ codes "list") ≡ codes "dir" ∷ [] ∷ codes "list" ∷ []
lines = refl

-- after the last line feed there is no line
lines_ended : lines_of (codes "dir" ++ 10 ∷ []) ≡ codes "dir" ∷ []
lines_ended = refl

told_lines : (line_told (codes "dir") ≡ Some (codes "dir")) × (line_of_length LONGEST_LINE ≡ Text) × (line_of_length (LONGEST_LINE + 1) ≡ TooLong)
told_lines = (refl, refl, refl)

no_feed : HasNoFeed (codes "dir")
no_feed = record { is = refl }

-- ---- words

words : words_of (codes "  store  A 0001 ") ≡ codes "store" ∷ codes "A" ∷ codes "0001" ∷ []
words = refl

-- a tab is a byte like others
no_words : (words_of (codes "   ") ≡ []) × (words_of (9 ∷ []) ≡ (9 ∷ []) ∷ [])
no_words = (refl, refl)

-- one carriage return is dropped, and only at the end
returns : (without_return (codes "dir" ++ 13 ∷ []) ≡ codes "dir") × (without_return (codes "dir" ++ 13 ∷ 13 ∷ []) ≡ codes "dir" ++ 13 ∷ [])
    × (without_return (13 ∷ codes "dir") ≡ 13 ∷ codes "dir") × (without_return [] ≡ [])
returns = (refl, refl, refl, refl)

two_words : (only_two (codes "A" ∷ codes "B" ∷ []) ≡ Some (codes "A", codes "B")) × (only_two (codes "A" ∷ []) ≡ None) × (only_two (codes "A" ∷ codes "B" ∷ codes "C" ∷ []) ≡ None)
two_words = (refl, refl, refl)

-- ---- numbers and hex digits

numbers : (value_of (codes "4048") ≡ 4048) × (number_up_to 19664 (codes "4048") ≡ Some 4048) × (number_up_to 19664 (codes "19664") ≡ Some 19664)
numbers = (refl, refl, refl)

no_numbers : (number_up_to 19664 (codes "19665") ≡ None) × (number_up_to 19664 (codes "0") ≡ None) × (number_up_to 19664 (codes "01") ≡ None)
    × (number_up_to 19664 (codes "1x") ≡ None) × (number_up_to 19664 [] ≡ None)
no_numbers = (refl, refl, refl, refl, refl)

hex_digits : (hex_bytes 4 (codes "00fFFf01") ≡ Some (0 ∷ 255 ∷ 255 ∷ 1 ∷ [])) × (hex_bytes 4 (codes "00FF01") ≡ None) × (hex_bytes 1 (codes "0g") ≡ None)
unfolding hex_on_literals
hex_digits = (refl, refl, refl)

types : (type_in (codes "E0D0") ≡ Some 0xE0D0) × (type_in (codes "0001") ≡ Some 1) × (type_in (codes "0000") ≡ None) × (type_in (codes "ffff") ≡ None) × (type_in (codes "001") ≡ None)
unfolding hex_on_literals
types = (refl, refl, refl, refl, refl)

payloads : (payload_of (codes "-") ≡ Some []) × (payload_of (codes "4142") ≡ Some (codes "AB")) × (payload_of (codes "414") ≡ None) × (payload_of (codes "4-") ≡ None) × (payload_of [] ≡ None)
unfolding hex_on_literals
payloads = (refl, refl, refl, refl, refl)

-- the bounds, by the 2,464 records of an HP 9114 disc
bounds : (LONGEST_PAYLOAD ≡ 256 * 2464) × (LONGEST_LINE ≡ 2 * LONGEST_PAYLOAD) × (MOST_SLOTS ≡ 8 * (2464 - 6)) × (LONGEST_SCRIPT ≡ 2 ^ 24)
bounds = (refl, refl, refl, refl)

-- ---- spellings

spellings : (spelt (codes "A%20b%25") ≡ Some (codes "A b%")) × (spelt (codes "%fF") ≡ Some (255 ∷ [])) × (spelt [] ≡ Some [])
unfolding hex_on_literals
spellings = (refl, refl, refl)

no_spellings : (spelt (codes "%") ≡ None) × (spelt (codes "A%2") ≡ None) × (spelt (codes "%2g") ≡ None) × (spelt (codes "A B") ≡ None) × (spelt (127 ∷ []) ≡ None)
unfolding hex_on_literals
no_spellings = (refl, refl, refl, refl, refl)

-- a spelling whose name does not serve is a spelling still
long_name : spelt_as name_of_bytes (codes "ELEVENCHARS") ≡ Some None
long_name = refl

long_label : (spelt_as new_label (codes "SEVENTH") ≡ Some None) × (spelt_as new_label (codes "%") ≡ None)
long_label = (refl, refl)

-- ---- lines as commands

abbrev made : NewName
made = record { name = record { bytes = codes "A         " } }

-- a carriage return, spaces, a comment
dir_line : reading_of (codes " dir " ++ 13 ∷ []) ≡ Ok (Some (record { command = Dir; bytes = [] }))
dir_line = refl

skipped : (reading_of [] ≡ Ok None) × (reading_of (codes "  ") ≡ Ok None) × (reading_of (codes " # dir") ≡ Ok None)
skipped = (refl, refl, refl)

lone_lines : (reading_of (codes "label") ≡ Ok (Some (record { command = Label; bytes = [] }))) × (reading_of (codes "adopt") ≡ Ok (Some (record { command = Adopt; bytes = [] })))
    × (reading_of (codes "upgrade") ≡ Ok (Some (record { command = Upgrade; bytes = [] })))
    × (reading_of (codes "begin") ≡ Ok (Some (record { command = Begin; bytes = [] }))) × (reading_of (codes "commit") ≡ Ok (Some (record { command = Commit; bytes = [] })))
    × (reading_of (codes "devices") ≡ Ok (Some (record { command = Devices; bytes = [] }))) × (reading_of (codes "status") ≡ Ok (Some (record { command = Status; bytes = [] })))
    × (reading_of (codes "poll") ≡ Ok (Some (record { command = Poll; bytes = [] }))) × (reading_of (codes "paper") ≡ Ok (Some (record { command = Paper; bytes = [] })))
lone_lines = (refl, refl, refl, refl, refl, refl, refl, refl, refl)

-- a part too many, and a word that is none of the commands
bad_lines : (reading_of (codes "dir A") ≡ Err BadLine) × (reading_of (codes "list") ≡ Err BadLine) × (reading_of (codes "fetch") ≡ Err BadLine)
bad_lines = (refl, refl, refl)

fetch_line : reading_of (codes "fetch a") ≡ Ok (Some (record { command = Fetch (record { bytes = codes "a         " }); bytes = [] }))
fetch_line = refl

purge_line : reading_of (codes "purge a") ≡ Ok (Some (record { command = Purge (record { bytes = codes "a         " }); bytes = [] }))
purge_line = refl

rename_line : reading_of (codes "rename a A") ≡ Ok (Some (record { command = Rename (record { bytes = codes "a         " }) made; bytes = [] }))
rename_line = refl

format_line : reading_of (codes "format TAPE 16") ≡ Ok (Some (record { command = Format (record { bytes = codes "TAPE  " }) 16; bytes = [] }))
format_line = refl

lend_lines : (reading_of (codes "lend 1") ≡ Ok (Some (record { command = Lend 1; bytes = [] })))
    × (reading_of (codes "lend 4096") ≡ Ok (Some (record { command = Lend 4096; bytes = [] })))
lend_lines = (refl, refl)

-- the loop is lent for some frames and not for more than that
no_lend_lines : (reading_of (codes "lend 0") ≡ Err BadLine) × (reading_of (codes "lend 4097") ≡ Err BadLine)
    × (reading_of (codes "lend 01") ≡ Err BadLine) × (reading_of (codes "lend") ≡ Err BadLine)
    × (reading_of (codes "lend 1 2") ≡ Err BadLine)
no_lend_lines = (refl, refl, refl, refl, refl)

store_line : reading_of (codes "store A E080 00000180 4142") ≡ Ok (Some (record { command = Store made 0xE080 (0 ∷ 0 ∷ 1 ∷ 0x80 ∷ []); bytes = codes "AB" }))
unfolding hex_on_literals
store_line = refl

-- the bytes of a text stand as they are spelt
put_line : reading_of (codes "put A 790a") ≡ Ok (Some (record { command = Put made; bytes = 121 ∷ 10 ∷ [] }))
unfolding hex_on_literals
put_line = refl

get_line : reading_of (codes "get a") ≡ Ok (Some (record { command = Get (record { bytes = codes "a         " }); bytes = [] }))
get_line = refl

say_line : reading_of (codes "say -") ≡ Ok (Some (record { command = Say; bytes = [] }))
say_line = refl

-- a name counts only where the line is in a form
bad_names : (reading_of (codes "fetch ELEVENCHARS") ≡ Err BadName) × (reading_of (codes "rename A a") ≡ Err BadName) × (reading_of (codes "format a 8") ≡ Err BadName)
    × (reading_of (codes "put a -") ≡ Err BadName) × (reading_of (codes "get ELEVENCHARS") ≡ Err BadName) × (reading_of (codes "put a") ≡ Err BadLine)
    × (reading_of (codes "format a 0") ≡ Err BadLine) × (reading_of (codes "rename ELEVENCHARS %") ≡ Err BadLine)
bad_names = (refl, refl, refl, refl, refl, refl, refl, refl)

-- the two parts of a reading
said : (command_read (Ok (Some (record { command = Say; bytes = codes "A" }))) ≡ Ok (Some Say)) × (bytes_read (Ok (Some (record { command = Say; bytes = codes "A" }))) ≡ codes "A") × (bytes_read (Err BadName) ≡ [])
said = (refl, refl, refl)

-- ---- replies

texts : (reply_line reply.Ok ≡ text_line (codes "ok")) × (reply_line (reply.No code.Protected) ≡ text_line (codes "error 11 Protected")) × (reply_line reply.FaultMedium ≡ text_line (codes "fault medium"))
    × (reply_line (reply.No code.NoTaker) ≡ text_line (codes "error 17 NoTaker"))
unfolding digits
texts = (refl, refl, refl, refl)
