-- What a command replies where no fault comes in between, and the texts of replies and logs.
use Rattle.std.specs.Prelude.{ℕ, ◌+◌, ◌==◌, List, [], ◌∷◌, ◌++◌, Option, Some, None, option_map, if◌then◌else◌, codes, decimal}
use Rattle.std.specs.List.{flat_map}
use Rattle.std.specs.FinMap.{get}
use Rattle.hex.specs.Hex.{encode_upper}
use Rattle.lif_text.specs.Pieces.{lines_in}
use Rattle.lif_model.specs.Header.{label_of}
use Rattle.lif_model.specs.Directory.{type_of, implementation_of}
use Rattle.lif_model.specs.Legal.{slot_named}
use Rattle.lif_model.specs.Printed.{printed}
use Rattle.lif_model.specs.Volume.{Volume}
use Rattle.lif_model.specs.Apply.{VolumeCommand, apply}
use Rattle.lif_model.specs.Apply as volume
use Rattle.lif_model.specs.declared.refusal.Refusal.{Refusal}
use Rattle.lif_model.specs.Packing.{pack_refusal, packed, files_moved, records_free}
use Rattle.il_frames.specs.declared.entry.Entry.{Entry}
use Rattle.il_frames.specs.declared.frame.Frame.{Frame}
use Rattle.il_frames.specs.Frames.{byte_of, has_service}
use Rattle.il_frames.specs.Entries.{entry_text}
use Rattle.il_script.specs.Replies.{text_line, next, reply_line, code_of}
use Rattle.il_script.specs.declared.reply.Code.TheVariants as code
use Rattle.il_script.specs.declared.reply.Reply.{Reply}
use Rattle.il_script.specs.declared.reply.Reply.TheVariants as reply
use Rattle.il_ring.specs.Statuses.{last_known}
use Rattle.host_model.specs.Requests.{OfVolume, Get, Pack, Devices, Status, Poll, Say, Paper, Lend, Item, Asks, NoCommand, text_type}
use Rattle.host_model.specs.LoopStates.{addresses_asked, all_ids, device_count, status_byte, poll_frame, printer_at, paper_on}
use Rattle.host_model.specs.HostStates.{HostState, volume_at}
use Rattle.host_model.specs.Listing.{type_text, listing}

-- ---- text files

-- the lines of a file of this type with these bytes; None where it is no text
abbrev pub lines_of_type : ℕ → List ℕ → Option (List (List ℕ))
lines_of_type kind bytes = if kind == text_type then lines_in bytes else None

abbrev pub lines_of_found : Option (List ℕ) → Option (List ℕ) → Option (List (List ℕ))
lines_of_found (Some slot) (Some bytes) = lines_of_type (type_of slot) bytes
lines_of_found _ _ = None

-- the lines of the file of that name, by its slot and all bytes of its records
abbrev pub lines_of_file : List ℕ → Option Volume → Option (List (List ℕ))
lines_of_file name None = None
lines_of_file name (Some v) = lines_of_found (slot_named v.slots name) (get v.files name)

-- ---- replies

abbrev pub refused_as : Option Refusal → Reply
refused_as None = reply.Ok
refused_as (Some refusal) = reply.No (code_of refusal)

-- ok where there is such a printer
abbrev pub if_printer : {X : Type 0} → Option X → Reply
if_printer None = reply.No code.NoPrinter
if_printer (Some x) = reply.Ok

-- ok where a second controller stands on the loop, that takes control
abbrev pub if_taker : {X : Type 0} → Option X → Reply
if_taker None = reply.No code.NoTaker
if_taker (Some x) = reply.Ok

-- ok where there are lines
abbrev pub if_text : Option (List (List ℕ)) → Reply
if_text None = reply.No code.NotText
if_text (Some lines) = reply.Ok

-- a refusal of the fetch goes before
abbrev pub got_as : Option Refusal → Option (List (List ℕ)) → Reply
got_as None lines = if_text lines
got_as (Some refusal) lines = reply.No (code_of refusal)

-- the reply to an item by what stands before it, where no fault comes in between
abbrev pub reply_of : Item → HostState → Reply
reply_of (Asks (OfVolume command)) s = refused_as (apply s.records command (volume_at s)).0
reply_of (Asks (Get name)) s = got_as (apply s.records (volume.Fetch name) (volume_at s)).0 (lines_of_file name (volume_at s))
reply_of (Asks Pack) s = refused_as (pack_refusal s.records (volume_at s))
reply_of (Asks (Say bytes)) s = if_printer (printer_at s.loop)
reply_of (Asks Paper) s = if_printer (paper_on s.loop)
reply_of (Asks (Lend frames)) s = if_taker s.loop.guest
reply_of (Asks _) s = reply.Ok
reply_of (NoCommand c) s = reply.No c

-- the packed volume, or the same one where it is refused
abbrev pub packed_unless : ℕ → Option Refusal → Option Volume → Option Volume
packed_unless n None volume = option_map (packed n) volume
packed_unless n (Some refusal) volume = volume

-- the volume after an item, where no fault comes in between
abbrev pub volume_behind : Item → HostState → Option Volume
volume_behind (Asks (OfVolume command)) s = (apply s.records command (volume_at s)).1
volume_behind (Asks Pack) s = packed_unless s.records (pack_refusal s.records (volume_at s)) (volume_at s)
volume_behind _ s = volume_at s

-- ---- the lines before the last one, of a reply with ok

-- bytes in hex digits; no bytes are a minus sign
abbrev pub bytes_text : List ℕ → List ℕ
bytes_text [] = codes "-"
bytes_text (byte ∷ bytes) = encode_upper (byte ∷ bytes)

-- a byte in two hex digits
abbrev pub byte_text : ℕ → List ℕ
byte_text byte = encode_upper (byte ∷ [])

-- `label LABEL`
unfoldable pub label_line : Volume → List ℕ
label_line v = text_line (codes "label" ++ next (printed (label_of v.header)))

-- `data TYPE IMPL HEX`: the type and the implementation field of the file's slot, and all bytes of its records
abbrev pub data_line : Option (List ℕ) → Option (List ℕ) → List ℕ
data_line (Some slot) (Some bytes) = text_line (codes "data" ++ next (type_text (type_of slot)) ++ next (bytes_text (implementation_of slot)) ++ next (bytes_text bytes))
data_line _ _ = []

-- `line HEX` of each line of a text
abbrev pub line_text : List ℕ → List ℕ
line_text line = text_line (codes "line" ++ next (bytes_text line))

abbrev pub lines_text : Option (List (List ℕ)) → List ℕ
lines_text None = []
lines_text (Some lines) = flat_map line_text lines

-- of the commands of a volume these three tell something
abbrev pub told_of_volume : VolumeCommand → Volume → List ℕ
told_of_volume volume.Dir v = listing v
told_of_volume volume.Label v = label_line v
told_of_volume (volume.Fetch name) v = data_line (slot_named v.slots name) (get v.files name)
told_of_volume _ v = []

abbrev pub told_of : VolumeCommand → Option Volume → List ℕ
told_of command None = []
told_of command (Some v) = told_of_volume command v

-- `packed F R`: so many files were moved, and so many records are free after them
unfoldable pub packed_text : ℕ → ℕ → List ℕ
packed_text files free = text_line (codes "packed" ++ next (decimal files) ++ next (decimal free))

-- those that begin elsewhere once the volume is packed, and the records before the redo file
abbrev pub packed_line : ℕ → Option Volume → List ℕ
packed_line n None = []
packed_line n (Some v) = packed_text (files_moved n v) (records_free n v)

-- two hex digits, or `--` for a device that has no accessory ID, or told no status
abbrev pub id_text : Option ℕ → List ℕ
id_text None = codes "--"
id_text (Some id) = byte_text id

-- `device A ID` of each, of which the first has that address
abbrev pub device_lines : ℕ → List (Option ℕ) → List ℕ
device_lines address [] = []
device_lines address (id ∷ ids) = text_line (codes "device" ++ next (decimal address) ++ next (id_text id)) ++ device_lines (address + 1) ids

-- `status HH`
abbrev pub status_line : ℕ → List ℕ
status_line byte = text_line (codes "status" ++ next (byte_text byte))

-- `poll HH service` where a device asked for service, and else `poll HH quiet`
abbrev pub poll_line : Frame → List ℕ
poll_line f = text_line (codes "poll" ++ next (byte_text (byte_of f)) ++ next (if has_service f then codes "service" else codes "quiet"))

-- `paper HEX COUNT`: the bytes that are kept, and how many were heard
abbrev pub paper_line : Option (List ℕ × ℕ) → List ℕ
paper_line None = []
paper_line (Some paper) = text_line (codes "paper" ++ next (bytes_text paper.0) ++ next (decimal paper.1))

-- `guest A HH`, or `guest A --` where that address told no status
abbrev pub guest_line : ℕ → Option ℕ → List ℕ
guest_line address status = text_line (codes "guest" ++ next (decimal address) ++ next (id_text status))

-- of each of these addresses its last status that this log tells to party k
abbrev pub guest_lines : ℕ → List Entry → List ℕ → List ℕ
guest_lines k log addresses = flat_map (λ a. guest_line a (last_known k a log)) addresses

-- By what stands before the command. That of a lend are told by its log.
abbrev pub lines_before : Item → HostState → List Entry → List ℕ
lines_before (Asks (OfVolume command)) s log = told_of command (volume_at s)
lines_before (Asks (Get name)) s log = lines_text (lines_of_file name (volume_at s))
lines_before (Asks Pack) s log = packed_line s.records (volume_at s)
lines_before (Asks Devices) s log = device_lines 1 (all_ids s.loop)
lines_before (Asks Status) s log = status_line (status_byte s.loop)
lines_before (Asks Poll) s log = poll_line (poll_frame s.loop)
lines_before (Asks (Say bytes)) s log = []
lines_before (Asks Paper) s log = paper_line (paper_on s.loop)
lines_before (Asks (Lend frames)) s log = guest_lines (device_count s.loop) log (addresses_asked s.loop)
lines_before (NoCommand c) s log = []

-- ---- texts

-- The text of a reply, by what stands before its item, and by the log of it: only one with ok has lines before the last.
abbrev pub reply_text : Item → HostState → List Entry → Reply → List ℕ
reply_text item s log reply.Ok = lines_before item s log ++ reply_line reply.Ok
reply_text item s log r = reply_line r

-- the text of a log: a line for each entry, oldest first
abbrev pub trace_text : List Entry → List ℕ
trace_text log = flat_map (λ e. text_line (entry_text e)) log
