-- The text that `free` prints: the volume's line, and the largest file that can be added.
use Rattle.std.specs.Prelude.{◌+◌, ◌*◌, ◌++◌, ℕ, zero, suc, Bool, true, false, List, map, codes, decimal, if◌then◌else◌}
use Rattle.lif_model.specs.Header.{HeaderParts}
use Rattle.lif_model.specs.Fit.{Place, At, fit}
use Rattle.lif_model.specs.Fit as place
use Rattle.lif_model.specs.Volume.{is_adopted}
use Rattle.lif_dir.specs.Entries.{slot_bytes}
use Rattle.lif_dir.specs.declared.entries.Slot.{Slot}
use Rattle.tape_text.specs.Listing.{plural_of, room_of, volume_summary}

-- ---- the largest file

-- the place of a new file of `count` records
abbrev pub place_for : ℕ → HeaderParts → List Slot → ℕ → Place
place_for n h slots count = fit n (h.start + h.length) (8 * h.length) (map slot_bytes slots) count

abbrev pub is_placed : Place → Bool
is_placed (At slot start) = true
is_placed place.NoSlot = false
is_placed place.NoRoom = false

-- the largest number up to k that has the property, or 0
abbrev pub largest_until : (ℕ → Bool) → ℕ → ℕ
largest_until holds zero = 0
largest_until holds (suc k) = if holds (suc k) then suc k else largest_until holds k

-- how many records the largest file has that can be added to a volume on a medium of n records
abbrev pub largest_new : ℕ → HeaderParts → List Slot → ℕ
largest_new n h slots = largest_until (λ count. is_placed (place_for n h slots count)) n

-- ---- the text

-- `the largest file that can be added: 200 records, 51200 bytes`
unfoldable pub largest_text : ℕ → List ℕ
largest_text records =
    codes "the largest file that can be added: " ++ plural_of records (codes "record") ++ codes ", " ++ decimal (256 * records) ++ codes " bytes\n"

-- by the place of a file of one record, and by the largest file
abbrev pub addition_by : Place → ℕ → List ℕ
addition_by (At slot start) largest = largest_text largest
addition_by place.NoSlot largest = codes "no file can be added: the directory has no slot for it\n"
addition_by place.NoRoom largest = codes "no file can be added: no record is free where a slot is free\n"

-- which file can be added
abbrev pub addition_line : ℕ → HeaderParts → List Slot → List ℕ
addition_line n h slots =
    if is_adopted n (map slot_bytes slots) then addition_by (place_for n h slots 1) (largest_new n h slots)
    else codes "no file can be added: the volume has no redo file\n"

abbrev pub free_text : ℕ → HeaderParts → List Slot → List ℕ
free_text n h slots = volume_summary h (room_of n h slots) ++ addition_line n h slots
