-- The lines of replies, by what the calls of a volume and of the loop answer.
use Rattle.std.specs.Prelude.{ℕ, List, [], ◌++◌, Option, Some, None, length, map, codes, decimal}
use Rattle.std.specs.Int.{w16, to_be_bytes}
use Rattle.std.specs.List.{flat_map}
use Rattle.hex.specs.Hex.{encode_upper}
use Rattle.lif_model.specs.Header.{HeaderParts}
use Rattle.lif_model.specs.Printed.{printed}
use Rattle.lif_dir.specs.Entries.{name_bytes, slot_bytes}
use Rattle.lif_dir.specs.declared.entries.FileEntry.{FileEntry}
use Rattle.lif_dir.specs.declared.entries.Slot.{Slot}
use Rattle.lif_volume.specs.declared.volume.Listing.{Listing}
use Rattle.il_script.specs.Replies.{text_line, next}
use Rattle.il_guest.specs.Rounds.{addresses}
use Rattle.il_guest.specs.State.{GuestState}
use Rattle.host_model.specs.Listing.{type_text, volume_line, slot_lines}
use Rattle.il_frames.specs.declared.entry.Entry.{Entry}
use Rattle.host_model.specs.Replies.{bytes_text, guest_lines, id_text}

-- what record 0 says
abbrev pub parts_of : Listing → HeaderParts
parts_of listing = record { label = listing.label; start = listing.start; length = listing.length }

-- the lines of a volume with these slots: its own, and one for each live slot, in order
abbrev pub listing_text : Listing → List Slot → List ℕ
listing_text listing slots = volume_line (parts_of listing) (length slots) ++ flat_map slot_lines (map slot_bytes slots)

-- the line of an entry: that of its 32 bytes, told by its parts
unfoldable pub entry_line : FileEntry → List ℕ
entry_line entry = text_line (codes "file" ++ next (printed (name_bytes entry.name)) ++ next (encode_upper (to_be_bytes w16 entry.kind))
    ++ next (decimal entry.start) ++ next (decimal entry.length) ++ next (encode_upper entry.implementation))

-- `label LABEL`
abbrev pub label_text : List ℕ → List ℕ
label_text label = text_line (codes "label" ++ next (printed label))

-- `data TYPE IMPL HEX`
abbrev pub data_text : ℕ → List ℕ → List ℕ → List ℕ
data_text kind implementation bytes = text_line (codes "data" ++ next (type_text kind) ++ next (bytes_text implementation) ++ next (bytes_text bytes))

-- `device A ID`
abbrev pub device_line : ℕ → Option ℕ → List ℕ
device_line address id = text_line (codes "device" ++ next (decimal address) ++ next (id_text id))

-- what the log tells of the addresses that a second controller of address `own` asks, if there is one
abbrev pub found_lines : ℕ → Option GuestState → List Entry → List ℕ
found_lines own None log = []
found_lines own (Some g) log = guest_lines own log (addresses (Some own) g.last)
