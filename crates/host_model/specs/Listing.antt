-- The text that `dir` gives.
use Rattle.std.specs.Prelude.{ℕ, ◌*◌, List, [], ◌++◌, if◌then◌else◌, length, codes, decimal}
use Rattle.std.specs.List.{flat_map}
use Rattle.std.specs.Int.{bytes_high_first}
use Rattle.hex.specs.Hex.{encode_upper}
use Rattle.lif_model.specs.Header.{HeaderParts, header_of}
use Rattle.lif_model.specs.Directory.{name_of, type_of, start_of, length_of, implementation_of, is_purged}
use Rattle.lif_model.specs.Printed.{printed}
use Rattle.lif_model.specs.Volume.{Volume}
use Rattle.il_script.specs.Replies.{text_line, next}

-- a type in four hex digits
abbrev pub type_text : ℕ → List ℕ
type_text kind = encode_upper (bytes_high_first 2 kind)

-- `volume LABEL START LENGTH USED CAPACITY`: USED counts the slots, live and purged, and CAPACITY those that there is room for
unfoldable pub volume_line : HeaderParts → ℕ → List ℕ
volume_line header used = text_line (codes "volume" ++ next (printed header.label) ++ next (decimal header.start) ++ next (decimal header.length)
    ++ next (decimal used) ++ next (decimal (8 * header.length)))

-- `file NAME TYPE START LENGTH IMPL`: TYPE and IMPL are hex digits, the other numbers decimal
unfoldable pub file_line : List ℕ → List ℕ
file_line slot = text_line (codes "file" ++ next (printed (name_of slot)) ++ next (type_text (type_of slot))
    ++ next (decimal (start_of slot)) ++ next (decimal (length_of slot)) ++ next (encode_upper (implementation_of slot)))

-- a purged slot has no line
abbrev pub slot_lines : List ℕ → List ℕ
slot_lines slot = if is_purged slot then [] else file_line slot

-- the lines of a volume: its own, and one for each live slot, in order
unfoldable pub listing : Volume → List ℕ
listing v = volume_line (header_of v.header) (length v.slots) ++ flat_map slot_lines v.slots
