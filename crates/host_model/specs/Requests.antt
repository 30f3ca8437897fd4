-- What the lines of a script ask a host for.
use Rattle.std.specs.Prelude.{ℕ, ◌+◌, ◌++◌, ◌&&◌, if◌then◌else◌, nat_lt, nat_le, Bool, true, false, List, [], ◌∷◌, length, Option, Some, None, Result, Ok, Err, map, replicate}
use Rattle.std.specs.List.{cons_option, filter_map}
use Rattle.lif_text.specs.Cutting.{cut_lines, long_line}
use Rattle.lif_text.specs.Format.{encode}
use Rattle.lif_model.specs.Apply.{VolumeCommand}
use Rattle.lif_model.specs.Apply as volume
use Rattle.lif_model.specs.Parts.{Part, most_parts}
use Rattle.lif_model.specs.Parts as part
use Rattle.lif_dir.specs.Entries.{name_bytes}
use Rattle.lif_dir.specs.Names.{made_name, label_bytes}
use Rattle.il_script.specs.Commands.{Asked, reading_of}
use Rattle.il_script.specs.LineCut.{lines_of, line_told}
use Rattle.il_script.specs.Replies.{fault_code}
use Rattle.il_script.specs.declared.command.Command.{Command}
use Rattle.il_script.specs.declared.command.Command.TheVariants as command
use Rattle.il_script.specs.declared.command.LineFault.{LineFault}
use Rattle.il_script.specs.declared.reply.Code.{Code}
use Rattle.il_script.specs.declared.reply.Code.TheVariants as code

-- ---- requests

-- A command with all that it carries: one of the volume, or one of the loop. `Get` is a fetch that tells the lines of a text; `Pack`
-- moves the files of the volume together; `Say` carries the bytes for the printer; `Lend` hands control to a second controller until so
-- many frames of its have come to the host.
pub data Request : Type 0 where
  OfVolume : VolumeCommand → Request
  Get : (name : List ℕ) → Request
  Pack : Request
  Devices : Request
  Status : Request
  Poll : Request
  Say : (bytes : List ℕ) → Request
  Paper : Request
  Lend : (frames : ℕ) → Request

-- the type of a text file
abbrev pub text_type : ℕ
text_type = 1

-- What a command of a script asks for, with the bytes that its line carries. `Put` stores the text of the lines that these are.
abbrev pub request_of : Command → List ℕ → Request
request_of command.Dir bytes = OfVolume volume.Dir
request_of command.Label bytes = OfVolume volume.Label
request_of (command.Fetch name) bytes = OfVolume (volume.Fetch (name_bytes name))
request_of (command.Store name kind implementation) bytes =
    OfVolume (volume.Store (name_bytes (made_name name)) kind implementation bytes)
request_of (command.Put name) bytes =
    OfVolume (volume.Store (name_bytes (made_name name)) text_type (replicate 4 0) (encode (cut_lines bytes)))
request_of (command.Get name) bytes = Get (name_bytes name)
request_of (command.Rename old new) bytes = OfVolume (volume.Rename (name_bytes old) (name_bytes (made_name new)))
request_of (command.Purge name) bytes = OfVolume (volume.Purge (name_bytes name))
request_of (command.Format label slots) bytes = OfVolume (volume.Format (label_bytes label) slots)
request_of command.Adopt bytes = OfVolume volume.Adopt
request_of command.Upgrade bytes = OfVolume volume.Upgrade
request_of command.Pack bytes = Pack
request_of command.Begin bytes = OfVolume (volume.Batch [])
request_of command.Commit bytes = OfVolume (volume.Batch [])
request_of command.Devices bytes = Devices
request_of command.Status bytes = Status
request_of command.Poll bytes = Poll
request_of command.Say bytes = Say bytes
request_of command.Paper bytes = Paper
request_of (command.Lend frames) bytes = Lend frames

-- ---- items

-- what a run answers one after the other: a request; or a line that is no command, by the code that tells why
pub data Item : Type 0 where
  Asks : Request → Item
  NoCommand : Code → Item

-- what is asked for, where no line of a text is too long
abbrev pub unless_long : Option ℕ → Request → Item
unless_long None request = Asks request
unless_long (Some number) request = NoCommand code.NotText

-- A command as an item, where no other line is: where a line is too long for a text, the lines that are to be put are no text; and
-- there is no batch to be committed, nor is one that begins ever committed.
abbrev pub item_for : Command → List ℕ → Item
item_for (command.Put name) bytes = unless_long (long_line (cut_lines bytes)) (request_of (command.Put name) bytes)
item_for command.Begin bytes = NoCommand code.BadLine
item_for command.Commit bytes = NoCommand code.BadLine
item_for command bytes = Asks (request_of command bytes)

-- a reading by the code that refuses it
abbrev pub coded : {X : Type 0} → Result X LineFault → Result X Code
coded (Ok x) = Ok x
coded (Err fault) = Err (fault_code fault)

-- what a line asks for, or why it is no command; a line that is too long is told as None, whatever it holds
abbrev pub reads : Option (List ℕ) → Result (Option Asked) Code
reads None = Err code.LineTooLong
reads (Some line) = coded (reading_of line)

-- a line that is skipped is no item
abbrev pub item_of_read : Result (Option Asked) Code → Option Item
item_of_read (Ok None) = None
item_of_read (Ok (Some asked)) = Some (item_for asked.command asked.bytes)
item_of_read (Err why) = Some (NoCommand why)

abbrev pub item_of : Option (List ℕ) → Option Item
item_of line = item_of_read (reads line)

-- the items of lines of which none begins a batch
abbrev pub lone_items : List (Option (List ℕ)) → List Item
lone_items lines = filter_map item_of lines

-- ---- batches of a script

-- What stands open after some lines: no batch; one with these parts; or one that a line has spoilt, by the code that tells why.
pub data Gathering : Type 0 where
  Outside : Gathering
  Within : List Part → Gathering
  Spoilt : Code → Gathering

-- the part that a command asks for, where it is one
abbrev pub part_asked : Command → List ℕ → Option Part
part_asked (command.Store name kind implementation) bytes = Some (part.Store (name_bytes (made_name name)) kind implementation bytes)
part_asked (command.Rename old new) bytes = Some (part.Rename (name_bytes old) (name_bytes (made_name new)))
part_asked (command.Purge name) bytes = Some (part.Purge (name_bytes name))
part_asked command bytes = None

-- how many bytes a part brings
abbrev pub bytes_brought : Part → ℕ
bytes_brought (part.Store name kind implementation bytes) = length bytes
bytes_brought (part.Rename old new) = 0
bytes_brought (part.Purge name) = 0

abbrev pub all_brought : List Part → ℕ
all_brought [] = 0
all_brought (p ∷ parts) = bytes_brought p + all_brought parts

-- a batch takes 31 parts, and as many bytes as the largest medium has
abbrev pub has_room_for : List Part → Part → Bool
has_room_for parts p = nat_lt (length parts) most_parts && nat_le (all_brought parts + bytes_brought p) 630784

-- with a part more, where there is one and room for it
abbrev pub with_part : List Part → Option Part → Gathering
with_part parts None = Spoilt code.BadLine
with_part parts (Some p) = if has_room_for parts p then Within (parts ++ p ∷ []) else Spoilt code.BatchTooLarge

-- a command within a batch: `commit` ends it, and what is no part spoils it
abbrev pub within_by : List Part → Command → List ℕ → Gathering
within_by parts command.Commit bytes = Outside
within_by parts command bytes = with_part parts (part_asked command bytes)

abbrev pub within_read : List Part → Result (Option Asked) Code → Gathering
within_read parts (Ok None) = Within parts
within_read parts (Ok (Some asked)) = within_by parts asked.command asked.bytes
within_read parts (Err why) = Spoilt why

-- a command of one of these two
abbrev pub is_begin : Command → Bool
is_begin command.Begin = true
is_begin command = false

abbrev pub is_commit : Command → Bool
is_commit command.Commit = true
is_commit command = false

-- the line reads as such a command
abbrev pub reads_as : (Command → Bool) → Result (Option Asked) Code → Bool
reads_as test (Ok None) = false
reads_as test (Ok (Some asked)) = test asked.command
reads_as test (Err why) = false

-- what stands open after a line more
abbrev pub gathering_by : Gathering → Result (Option Asked) Code → Gathering
gathering_by Outside read = if reads_as is_begin read then Within [] else Outside
gathering_by (Within parts) read = within_read parts read
gathering_by (Spoilt why) read = if reads_as is_commit read then Outside else Spoilt why

-- The item that a line makes: `commit` that of a batch, its parts or the reply that spoils it; and outside a batch each line that
-- is not skipped its own.
abbrev pub item_by : Gathering → Result (Option Asked) Code → Option Item
item_by Outside read = if reads_as is_begin read then None else item_of_read read
item_by (Within parts) read = if reads_as is_commit read then Some (Asks (OfVolume (volume.Batch parts))) else None
item_by (Spoilt why) read = if reads_as is_commit read then Some (NoCommand why) else None

-- the items of some lines, a batch being complete with its line `commit`
abbrev pub items_from : Gathering → List (Option (List ℕ)) → List Item
items_from g [] = []
items_from g (line ∷ lines) = cons_option (item_by g (reads line)) (items_from (gathering_by g (reads line)) lines)

abbrev pub items_in : List (Option (List ℕ)) → List Item
items_in lines = items_from Outside lines

-- what stands open after some lines
abbrev pub gathered : Gathering → List (Option (List ℕ)) → Gathering
gathered g [] = g
gathered g (line ∷ lines) = gathered (gathering_by g (reads line)) lines

-- a batch that the script's end leaves open is one item
abbrev pub left_open : Gathering → List Item
left_open Outside = []
left_open (Within parts) = NoCommand code.BadLine ∷ []
left_open (Spoilt why) = NoCommand code.BadLine ∷ []

-- the items of a script
abbrev pub items_of : List ℕ → List Item
items_of script = items_in (map line_told (lines_of script)) ++ left_open (gathered Outside (map line_told (lines_of script)))

-- ---- kinds of items

-- a command of the volume: it uses the tape
abbrev pub is_of_volume : Item → Bool
is_of_volume (Asks (OfVolume command)) = true
is_of_volume (Asks (Get name)) = true
is_of_volume (Asks Pack) = true
is_of_volume _ = false

-- it hands control of the loop to a second controller
abbrev pub is_lending : Item → Bool
is_lending (Asks (Lend frames)) = true
is_lending _ = false

-- every command but `paper` sends frames
abbrev pub uses_frames : Item → Bool
uses_frames (Asks Paper) = false
uses_frames (Asks _) = true
uses_frames (NoCommand code) = false
