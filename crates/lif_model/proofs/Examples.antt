-- Worked examples, computed by the checker. The volume is one as `format` makes it, on a tape of twelve records.
use Rattle.std.proofs.Common.{◌≡◌, ◌++◌, ◌-◌, ℕ, List, [], ◌∷◌, Some, None, true, false, refl, length, replicate, codes}
use Rattle.lif_model.specs.Numbers.{two_at, four_at}
use Rattle.lif_model.specs.Tape.{Tape}
use Rattle.lif_model.specs.Shelf.{image_of, piece, cut, records_for, largest_image}
use Rattle.lif_model.specs.Gate.{is_open, has_open_gate}
use Rattle.lif_model.specs.Header.{label_of, capacity_of, is_readable, header_of}
use Rattle.lif_model.specs.Directory.{name_of, type_of, start_of, length_of, date_of, volume_word_of, implementation_of, entry_at, entries_of, slots_of}
use Rattle.lif_model.specs.Printed.{printed}
use Rattle.hex.specs.Hex.{encode_with}

-- bytes filled up with zeros to a record
abbrev pub filled : List ℕ → List ℕ
filled bytes = bytes ++ replicate (256 - length bytes) 0

abbrev pub blank : List ℕ
blank = replicate 256 0

-- 8000, the label HPTAPE, start 2, 1000 hex, zero, length 2
abbrev pub header : List ℕ
header = filled (0x80 ∷ 0x00 ∷ codes "HPTAPE" ++ 0 ∷ 0 ∷ 0 ∷ 2 ∷ 0x10 ∷ 0 ∷ 0 ∷ 0 ∷ 0 ∷ 0 ∷ 0 ∷ 2 ∷ [])

-- the redo file of a tape of twelve records: type E0D0, start 8, length 4
abbrev pub redo_entry : List ℕ
redo_entry = codes "REDOFILE  " ++ 0xE0 ∷ 0xD0 ∷ 0 ∷ 0 ∷ 0 ∷ 8 ∷ 0 ∷ 0 ∷ 0 ∷ 4 ∷ 0 ∷ 0 ∷ 0 ∷ 0 ∷ 0 ∷ 0 ∷ 0x80 ∷ 0x01 ∷ 0 ∷ 0 ∷ 0 ∷ 0 ∷ []

abbrev pub end_entry : List ℕ
end_entry = replicate 10 0 ++ 0xFF ∷ 0xFF ∷ replicate 20 0

-- a directory record that begins with these entries and goes on with zeros
abbrev pub tape_with : List ℕ → Tape
tape_with directory = header ∷ blank ∷ filled directory ∷ blank ∷ blank ∷ blank ∷ blank ∷ blank ∷ blank ∷ blank ∷ blank ∷ blank ∷ []

abbrev pub formatted : Tape
formatted = tape_with (redo_entry ++ end_entry)

-- ---- numbers

two_bytes : two_at (0x12 ∷ 0xE0 ∷ 0xD0 ∷ []) 1 ≡ 0xE0D0
unfolding two_at
two_bytes = refl

four_bytes : four_at (0xFF ∷ 0x00 ∷ 0x00 ∷ 0x01 ∷ 0xFC ∷ []) 1 ≡ 508
unfolding four_at two_at
four_bytes = refl

-- ---- the header

header_is_readable : is_readable 12 header ≡ true
unfolding four_at two_at
header_is_readable = refl

-- its directory would reach the redo file's records
tape_too_short : is_readable 7 header ≡ false
unfolding four_at two_at
tape_too_short = refl

blank_is_not_readable : is_readable 12 blank ≡ false
unfolding two_at
blank_is_not_readable = refl

header_parts : header_of header ≡ record { label = codes "HPTAPE"; start = 2; length = 2 }
unfolding label_of four_at two_at
header_parts = refl

header_capacity : capacity_of header ≡ 16
unfolding four_at two_at
header_capacity = refl

-- ---- entries

entry_parts : (name_of redo_entry ≡ codes "REDOFILE  ") × (type_of redo_entry ≡ 0xE0D0) × (start_of redo_entry ≡ 8) × (length_of redo_entry ≡ 4)
unfolding name_of four_at two_at
entry_parts = (refl, refl, refl, refl)

entry_rest : (date_of redo_entry ≡ replicate 6 0) × (volume_word_of redo_entry ≡ 0x8001) × (implementation_of redo_entry ≡ replicate 4 0)
unfolding date_of implementation_of two_at
entry_rest = (refl, refl, refl)

-- ---- slots

one_slot : slots_of formatted ≡ redo_entry ∷ []
unfolding entries_of entry_at four_at two_at
one_slot = refl

-- a directory that begins with its end
no_slot : slots_of (tape_with end_entry) ≡ []
unfolding entries_of entry_at four_at two_at
no_slot = refl

-- an entry of type 0 is a slot, and does not end the directory: sixteen purged ones fill it
all_purged : length (slots_of (tape_with [])) ≡ 16
unfolding entries_of entry_at four_at two_at
all_purged = refl

-- ---- gates

open_gate : is_open (filled (codes "LIFREDO1 OPEN   ")) ≡ true
unfolding is_open
open_gate = refl

-- one byte of the sixteen is another
shut_gate : is_open (filled (codes "LIFREDO1 OPEN  X")) ≡ false
unfolding is_open
shut_gate = refl

formatted_is_shut : has_open_gate formatted ≡ false
unfolding is_open
formatted_is_shut = refl

-- ---- images

first_of_two : image_of (codes "B") ((codes "A", 1 ∷ []) ∷ (codes "B", 2 ∷ []) ∷ (codes "B", 3 ∷ []) ∷ []) ≡ Some (2 ∷ [])
first_of_two = refl

no_image : image_of (codes "C") ((codes "A", 1 ∷ []) ∷ []) ≡ None
no_image = refl

-- an image of 257 bytes ends in its second record
cut_short : cut 2 (replicate 256 1 ++ 2 ∷ []) ≡ replicate 256 1 ∷ (2 ∷ replicate 255 0) ∷ []
unfolding piece
cut_short = refl

-- ---- names in print

spaces_dropped : printed (codes "PROG1     ") ≡ codes "PROG1"
unfolding printed
spaces_dropped = refl

only_spaces : printed (codes "      ") ≡ codes "%20"
unfolding printed
only_spaces = refl

-- a space inside, a percent sign, a control byte and a high byte
spelt_out : printed (65 ∷ 32 ∷ 37 ∷ 10 ∷ 0xFF ∷ 0x7E ∷ 32 ∷ []) ≡ codes "A%20%25%0A%FF~"
unfolding printed encode_with
spelt_out = refl

-- an image of at most 131,072 bytes is a tape, and one of a byte more a disc, which has 630,784 bytes
tape_at_most : records_for 131072 ≡ 512
tape_at_most = refl

disc_beyond : records_for 131073 ≡ 2464
disc_beyond = refl

disc_size : largest_image ≡ 630784
disc_size = refl
