-- Worked examples of packing, computed by the checker. On the tape of forty records files stand in records 4 and 5, after
-- a directory of two records, and the redo file of version 2 begins at record 6; on that of forty-four it begins at
-- record 10.
use Rattle.std.proofs.Common.{◌≡◌, ◌⊎◌, ◌<◌, ◌≤◌, ◌++◌, inl, inr, ℕ, List, [], ◌∷◌, Option, Some, None, Bool, true, false, get_or, length, Ok, refl, sym, ◌∙◌, ap, subst, arith, replicate, codes}
use Rattle.std.specs.Prelude.{unwrap_or}
use Rattle.std.proofs.lemmas.Bool.{cases_eq}
use Rattle.std.specs.FinMap.{empty, insert}
use Rattle.lif_model.specs.Numbers.{two_at, four_at}
use Rattle.lif_model.specs.Tape.{Tape, record_at}
use Rattle.lif_model.specs.Redo.{settled}
use Rattle.lif_model.specs.Fit.{redo_place}
use Rattle.lif_model.specs.Gate.{is_open}
use Rattle.lif_model.specs.Directory.{name_of, start_of, entry_at, entries_of}
use Rattle.lif_model.specs.Made.{in_two, new_entry, with_type}
use Rattle.lif_model.specs.declared.version.Version.TheVariants.{One, Two}
use Rattle.lif_model.specs.Volume.{Volume, Files, redo_name, redo_type, redo_entry, volume_of}
use Rattle.lif_model.specs.declared.refusal.Refusal.{Refusal}
use Rattle.lif_model.specs.declared.refusal.Refusal.TheVariants.{NotLif, NoRedo, NeedsUpgrade, OutOfOrder}
use Rattle.lif_model.specs.Writing.{with_entry}
use Rattle.lif_model.specs.Legal.{is_live}
use Rattle.lif_model.specs.Header.{HeaderParts, directory_start}
use Rattle.il_ports.specs.Stores.{RecordsView}
use Rattle.lif_volume.specs.Views.{VolumeView}
use Rattle.lif_volume.specs.Commands.{mounting_on}
use Rattle.lif_pack.specs.Tasks.{MountsAlone, IsShownAs}
use Rattle.lif_model.specs.Finished.{IsPackedOn, StaysOutside}
use Rattle.lif_pack.specs.declared.pack.Packed.{Packed}
use Rattle.lif_pack.specs.Packs.{IsPacking}
use Rattle.lif_pack.specs.Steps.{ArePlaced, IsGap}
use Rattle.lif_model.proofs.Examples as base
use Rattle.lif_model.proofs.VolumeExamples.{file, a_name, b_name, numbered}
use Rattle.lif_model.proofs.VolumeExamples as slot
use Rattle.lif_model.specs.Packing.{rises, is_in_order, live_records, packed_start, are_packed, with_start, redo_slot, marked_slot, marked_count, unmarked, bears_mark, move_of, finished, finished_volume_of, without_start, files_shown, pack_refusal, packed, repacked, files_moved, records_free}

abbrev c_name : List ℕ
c_name = codes "C         "

abbrev gone : List ℕ → List ℕ
gone entry = slot.purged entry

abbrev with : List (List ℕ) → Files → Volume
with slots files = record { header = base.header; slots = slots; files = files }

-- ---- order and places

-- of two records the lower one rises to the higher one
rising : (rises (file a_name 4 2) (file b_name 6 1) ≡ true) × (rises (file b_name 6 1) (file a_name 4 2) ≡ false)
unfolding two_at four_at
rising = (refl, refl)

abbrev small_redo : List ℕ
small_redo = redo_entry Two 40

-- purged slots and files without records are in order wherever they stand
in_order : (is_in_order (gone (file b_name 200 3) ∷ file a_name 4 1 ∷ file b_name 0 0 ∷ file c_name 5 1 ∷ small_redo ∷ []) ≡ true)
    × (is_in_order (file a_name 4 1 ∷ small_redo ∷ gone (file c_name 5 1) ∷ []) ≡ true)
unfolding two_at four_at name_of with_type new_entry
in_order = (refl, refl)

-- C begins before A; a file stands after the redo entry, with records or without
out_of_order : (is_in_order (file a_name 5 1 ∷ file c_name 4 1 ∷ small_redo ∷ []) ≡ false)
    × (is_in_order (file a_name 4 1 ∷ small_redo ∷ file c_name 9 1 ∷ []) ≡ false)
    × (is_in_order (file a_name 4 1 ∷ small_redo ∷ file c_name 9 0 ∷ []) ≡ false)
unfolding two_at four_at name_of with_type new_entry
out_of_order = (refl, refl, refl)

-- a purged slot takes no records
places : (live_records (file a_name 4 2 ∷ gone (file b_name 6 9) ∷ file c_name 15 1 ∷ []) ≡ 3)
    × (packed_start (with (file a_name 4 2 ∷ gone (file b_name 6 9) ∷ file c_name 15 1 ∷ []) empty) 2 ≡ 6)
unfolding two_at four_at with_type
places = (refl, refl)

-- C has its place, and then not
at_places : (are_packed 4 (gone (file b_name 9 9) ∷ file a_name 4 2 ∷ file b_name 0 0 ∷ file c_name 6 1 ∷ []) ≡ true)
    × (are_packed 4 (file a_name 4 2 ∷ file c_name 7 1 ∷ []) ≡ false)
unfolding two_at four_at with_type
at_places = (refl, refl)

moved_slot : with_start 4 (file c_name 5 1) ≡ file c_name 4 1
unfolding with_start
moved_slot = refl

-- ---- packing

abbrev small : List ℕ → List ℕ → List ℕ → Tape
small directory fourth fifth =
    base.header ∷ base.blank ∷ base.filled directory ∷ base.blank ∷ fourth ∷ fifth ∷ replicate 34 base.blank

abbrev c_alone : Files
c_alone = insert empty c_name (numbered 5)

-- A is purged, and C after it
abbrev before : Volume
before = with (gone (file a_name 4 1) ∷ file c_name 5 1 ∷ small_redo ∷ []) c_alone

on_tape : volume_of (small (gone (file a_name 4 1) ++ file c_name 5 1 ++ small_redo ++ base.end_entry) (numbered 4) (numbered 5))
    ≡ Some before
unfolding two_at four_at entries_of entry_at name_of is_open with_type new_entry
on_tape = refl

not_refused : pack_refusal 40 (Some before) ≡ None
unfolding two_at four_at name_of with_type new_entry
not_refused = refl

-- C is moved by one record, the slot of A is dropped, and one record is free
after : (packed 40 before ≡ with (file c_name 4 1 ∷ small_redo ∷ []) c_alone)
    × (files_moved 40 before ≡ 1) × (records_free 40 before ≡ 1)
unfolding two_at four_at name_of with_type new_entry with_start unmarked
after = (refl, refl, refl)

-- and then nothing is left to do
again : (packed 40 (packed 40 before) ≡ packed 40 before) × (files_moved 40 (packed 40 before) ≡ 0)
unfolding two_at four_at name_of with_type new_entry with_start unmarked
again = (refl, refl)

-- a tape with that volume is packed
abbrev packed_tape : Tape
packed_tape = small (file c_name 4 1 ++ small_redo ++ base.end_entry) (numbered 5) (numbered 4)

is_packed : IsPackedOn 40 packed_tape
unfolding two_at four_at entries_of entry_at name_of is_open with_type new_entry with_start unmarked
is_packed = record { volume = with (file c_name 4 1 ∷ small_redo ∷ []) c_alone; has = refl; unmarked = refl; same = refl }

-- and one with a gap is not
abbrev slots_of : Volume → ℕ
slots_of v = length v.slots

not_three : ◌≡◌ {A = ℕ} 2 3 → ⊥
not_three e = cc

has_gap : IsPackedOn 40 (small (gone (file a_name 4 1) ++ file c_name 5 1 ++ small_redo ++ base.end_entry) (numbered 4) (numbered 5)) → ⊥
unfolding two_at four_at entries_of entry_at name_of is_open with_type new_entry with_start unmarked
has_gap is =
    let volume : is.volume ≡ before = ap (λ (o : Option Volume). unwrap_or o before) (sym is.has) in
    not_three (ap slots_of (ap (packed 40) (sym volume) ∙ is.same ∙ volume))

-- C is moved from record 5, which is free then and stays as it was
abbrev gap_tape : Tape
gap_tape = small (gone (file a_name 4 1) ++ file c_name 5 1 ++ small_redo ++ base.end_entry) (numbered 4) (numbered 5)

abbrev left_free : Tape
left_free = small (file c_name 4 1 ++ small_redo ++ base.end_entry) (numbered 5) (numbered 5)

-- below the redo file, records 0, 1 and 5 are outside the directory and the packed files
three_stay : (k : ℕ) → k < 6 → (k < 2) ⊎ (5 ≤ k) → record_at left_free k ≡ record_at gap_tape k
three_stay k lt (inr over) = let last : 5 ≡ k = omega (arith, lt, over) in subst (λ (m : ℕ). record_at left_free m ≡ record_at gap_tape m) last refl
three_stay k lt (inl under) = elim (cases_eq k 0) [
  | inl e ↦ subst (λ (m : ℕ). record_at left_free m ≡ record_at gap_tape m) (sym e) refl
  | inr off ↦ let one : 1 ≡ k = omega (arith, under, off) in subst (λ (m : ℕ). record_at left_free m ≡ record_at gap_tape m) one refl
]

is_packing : IsPacking 40 gap_tape left_free (record { files = 1; free = 1 })
unfolding two_at four_at entries_of entry_at name_of is_open with_type new_entry with_start unmarked
is_packing = record {
  volume = before;
  shown = refl;
  may = refl;
  after = refl;
  shown_after = refl;
  is_packed = record { volume = with (file c_name 4 1 ∷ small_redo ∷ []) c_alone; has = refl; unmarked = refl; same = refl };
  is_settled = refl;
  outside = record { records = refl; same = three_stay };
  files = refl;
  free = refl;
}

-- but a packing that writes that record too is none
not_four : ◌≡◌ {A = ℕ} 4 5 → ⊥
not_four e = cc

writes_free : (answer : Packed) → IsPacking 40 gap_tape packed_tape answer → ⊥
unfolding two_at four_at entries_of entry_at name_of is_open with_type new_entry with_start unmarked
writes_free answer is =
    let volume : is.volume ≡ before = ap (λ (o : Option Volume). unwrap_or o before) (sym is.shown) in
    let outside = subst (λ (v : Volume). StaysOutside (directory_start v.header) (packed_start v (redo_place v.slots)) (settled gap_tape) packed_tape) volume is.outside in
    let free : 5 ≤ 5 = omega arith in
    let below : 5 < 6 = omega arith in
    not_four (ap (λ (bytes : List ℕ). get_or bytes 0 0) (outside.same 5 below (inr free)))

-- purged slots are packed away, and a file out of order is refused
abbrev packs_to : List (List ℕ) → Option Refusal × Option Volume → Type 0
packs_to slots answer = repacked 40 (Some (with slots c_alone)) ≡ answer

packs_alike : packs_to (gone (file a_name 4 1) ∷ file c_name 5 1 ∷ small_redo ∷ []) (None, Some (with (file c_name 4 1 ∷ small_redo ∷ []) c_alone))
    × packs_to (file c_name 4 1 ∷ gone (file a_name 5 1) ∷ small_redo ∷ []) (None, Some (with (file c_name 4 1 ∷ small_redo ∷ []) c_alone))
unfolding two_at four_at name_of with_type new_entry with_start unmarked
packs_alike = (refl, refl)

packs_never : packs_to (file c_name 4 1 ∷ small_redo ∷ []) (Some OutOfOrder, Some (with (file c_name 4 1 ∷ small_redo ∷ []) c_alone)) → ⊥
unfolding two_at four_at name_of with_type new_entry with_start unmarked
packs_never is = let no : ◌≡◌ {A = Option Refusal} None (Some OutOfOrder) = ap (λ (a : Option Refusal × Option Volume). a.0) is in cc

-- without files all records from the directory's end on are free
no_files : (packed 40 (with (gone (file a_name 4 1) ∷ small_redo ∷ []) empty) ≡ with (small_redo ∷ []) empty)
    × (records_free 40 (with (small_redo ∷ []) empty) ≡ 2)
unfolding two_at four_at name_of with_type new_entry with_start unmarked
no_files = (refl, refl)

-- a file without records keeps its start, and does not count
no_records : (packed 40 (with (file b_name 77 0 ∷ file c_name 5 1 ∷ small_redo ∷ []) empty)
    ≡ with (file b_name 77 0 ∷ file c_name 4 1 ∷ small_redo ∷ []) empty)
    × (files_moved 40 (with (file b_name 77 0 ∷ file c_name 5 1 ∷ small_redo ∷ []) empty) ≡ 1)
unfolding two_at four_at name_of with_type new_entry with_start unmarked
no_records = (refl, refl)

-- ---- refusals, in their order

refused : (pack_refusal 40 None ≡ Some NotLif)
    × (pack_refusal 40 (Some (with (file a_name 5 1 ∷ file c_name 4 1 ∷ []) empty)) ≡ Some NoRedo)
    × (pack_refusal 40 (Some (with (file a_name 5 1 ∷ file c_name 4 1 ∷ redo_entry One 40 ∷ []) empty)) ≡ Some NeedsUpgrade)
    × (pack_refusal 40 (Some (with (file a_name 5 1 ∷ file c_name 4 1 ∷ small_redo ∷ []) empty)) ≡ Some OutOfOrder)
    × (pack_refusal 40 (Some (with (file a_name 4 1 ∷ small_redo ∷ file c_name 9 0 ∷ []) empty)) ≡ Some OutOfOrder)
unfolding two_at four_at name_of with_type new_entry
refused = (refl, refl, refl, refl, refl)

-- ---- what packing leaves as it was

bare : without_start (file c_name 5 1) ≡ without_start (file c_name 4 1)
unfolding without_start
bare = refl

-- the purged slot and the starts are not shown
same_files : files_shown 40 (Some (packed 40 before)) ≡ files_shown 40 (Some before)
unfolding two_at four_at name_of with_type new_entry with_start without_start unmarked
same_files = refl

-- but names are, and so are bytes
abbrev shows : Volume → List (List ℕ) → Files → Type 0
shows v slots files = files_shown 40 (Some v) ≡ Some (record { header = base.header; slots = slots; files = files })

other_files : shows before (without_start (file c_name 4 1) ∷ []) c_alone
    × shows (with (file b_name 5 1 ∷ small_redo ∷ []) empty) (without_start (file b_name 5 1) ∷ []) empty
    × (files_shown 40 None ≡ None)
unfolding two_at four_at name_of with_type new_entry without_start
other_files = (refl, refl, refl)

-- ---- the mark

-- the redo entry on a tape of forty-four records, with a mark
abbrev entry : ℕ → ℕ → List ℕ
entry number count = new_entry redo_name redo_type 10 34 (in_two number ++ in_two count)

plain_entry : entry 0 0 ≡ redo_entry Two 44
unfolding new_entry
plain_entry = refl

mark : (marked_slot (entry 3 258) ≡ 3) × (marked_count (entry 3 258) ≡ 258) × (unmarked (entry 3 258) ≡ entry 0 0)
unfolding two_at new_entry unmarked
mark = (refl, refl, refl)

-- A at its place, a purged slot, and C of three records, which may move down by one record
abbrev three : List ℕ → List (List ℕ)
three redo = file a_name 4 1 ∷ gone (file b_name 200 9) ∷ file c_name 6 3 ∷ redo ∷ []

redo_found : redo_slot (with (three (entry 3 1)) empty) ≡ entry 3 1
unfolding two_at name_of with_type new_entry
redo_found = refl

marked : (bears_mark 44 (with (three (entry 3 1)) empty) ≡ true) × (bears_mark 44 (with (three (entry 0 1)) empty) ≡ true)
    × (bears_mark 44 (with (three (entry 3 0)) empty) ≡ true) × (bears_mark 44 (with (three (entry 0 0)) empty) ≡ false)
    × (bears_mark 44 (with [] empty) ≡ false)
unfolding two_at four_at name_of with_type new_entry
marked = (refl, refl, refl, refl, refl)

-- one or two of its records can stand at its place, and not all
moves : (move_of (with (three (entry 3 1)) empty) ≡ Some (2, 1)) × (move_of (with (three (entry 3 2)) empty) ≡ Some (2, 2))
    × (move_of (with (three (entry 3 3)) empty) ≡ None)
unfolding two_at four_at name_of with_type new_entry
moves = (refl, refl, refl)

-- ---- finished

abbrev on : List (List ℕ) → List (List ℕ) → Tape
on (a ∷ b ∷ c ∷ d ∷ []) records = base.header ∷ base.blank ∷ base.filled (a ++ b ++ c ++ d ++ base.end_entry) ∷ base.blank
    ∷ (records ++ replicate 34 base.blank)
on slots records = base.header ∷ base.blank ∷ base.filled [] ∷ base.blank ∷ (records ++ replicate 34 base.blank)

-- records 4 to 9, of which each byte is the number
abbrev six : (a b c d e f : ℕ) → List (List ℕ)
six a b c d e f = numbered a ∷ numbered b ∷ numbered c ∷ numbered d ∷ numbered e ∷ numbered f ∷ []

abbrev c_at_five : List (List ℕ)
c_at_five = file a_name 4 1 ∷ gone (file b_name 200 9) ∷ file c_name 5 3 ∷ entry 0 0 ∷ []

-- one of its records stands at its place, and then two: the others follow
one_moved : finished (on (three (entry 3 1)) (six 4 16 6 17 18 9)) ≡ on c_at_five (six 4 16 17 18 18 9)
unfolding two_at four_at entries_of entry_at name_of is_open with_type new_entry with_entry with_start unmarked
one_moved = refl

two_moved : finished (on (three (entry 3 2)) (six 4 16 17 7 18 9)) ≡ on c_at_five (six 4 16 17 18 18 9)
unfolding two_at four_at entries_of entry_at name_of is_open with_type new_entry with_entry with_start unmarked
two_moved = refl

-- C as a whole, whichever of its records have moved
shown_moved : finished_volume_of (on (three (entry 3 2)) (six 4 16 17 7 18 9))
    ≡ Some (with c_at_five (insert (insert empty c_name (numbered 16 ++ numbered 17 ++ numbered 18)) a_name (numbered 4)))
unfolding two_at four_at entries_of entry_at name_of is_open with_type new_entry with_entry with_start unmarked
shown_moved = refl

-- a stop between two commits of the move leaves what is shown as the tape before is
midway_shown : IsShownAs (on (three (entry 3 1)) (six 4 16 6 17 18 9)) (on (three (entry 3 2)) (six 4 16 17 7 18 9))
unfolding two_at four_at entries_of entry_at name_of is_open with_type new_entry with_entry with_start unmarked
midway_shown = record { volume = refl; own_gate = refl }

-- but a mark that is lost shows another start
abbrev start_shown : Option Volume → ℕ
start_shown None = 0
start_shown (Some v) = start_of (get_or v.slots 2 [])

not_five : ◌≡◌ {A = ℕ} 6 5 → ⊥
not_five e = cc

mark_lost : IsShownAs (on (three (entry 3 1)) (six 4 16 6 17 18 9)) (on (three (entry 0 0)) (six 4 16 6 17 18 9)) → ⊥
unfolding two_at four_at entries_of entry_at name_of is_open with_type new_entry with_entry with_start unmarked
mark_lost is = not_five (ap start_shown is.volume)

-- ---- marks that are not good: the field becomes zero, and nothing else changes

abbrev fades : (List ℕ → List (List ℕ)) → ℕ → ℕ → Type 0
fades slots number count =
    finished (on (slots (entry number count)) (six 4 5 6 7 8 9)) ≡ on (slots (entry 0 0)) (six 4 5 6 7 8 9)

-- a count without a slot; the slot is purged; there is no slot of the number
no_slot : fades three 0 1 × fades three 2 1 × fades three 9 1
unfolding two_at four_at entries_of entry_at name_of is_open with_type new_entry with_entry with_start unmarked
no_slot = (refl, refl, refl)

-- none of the records has moved, or all of them, or more
no_part : fades three 3 0 × fades three 3 3 × fades three 3 300
unfolding two_at four_at entries_of entry_at name_of is_open with_type new_entry with_entry with_start unmarked
no_part = (refl, refl, refl)

-- the redo entry itself, which would have a place below its start, and a purged slot after it
abbrev redo_third : List ℕ → List (List ℕ)
redo_third redo = file a_name 4 1 ∷ file c_name 5 3 ∷ redo ∷ gone (file b_name 200 9) ∷ []

not_before_redo : fades redo_third 3 1 × fades redo_third 4 1
unfolding two_at four_at entries_of entry_at name_of is_open with_type new_entry with_entry with_start unmarked
not_before_redo = (refl, refl)

-- C stands at its place
packed_already : fades redo_third 2 1
unfolding two_at four_at entries_of entry_at name_of is_open with_type new_entry with_entry with_start unmarked
packed_already = refl

-- a file after C begins before it
abbrev b_before_c : List ℕ → List (List ℕ)
b_before_c redo = file a_name 4 1 ∷ file c_name 6 3 ∷ file b_name 5 1 ∷ redo ∷ []

-- A does not stand at its place
abbrev a_not_packed : List ℕ → List (List ℕ)
a_not_packed redo = gone (file b_name 200 9) ∷ file a_name 5 1 ∷ file c_name 7 3 ∷ redo ∷ []

not_in_order : fades b_before_c 2 1 × fades a_not_packed 3 1
unfolding two_at four_at entries_of entry_at name_of is_open with_type new_entry with_entry with_start unmarked
not_in_order = (refl, refl)

-- ---- where nothing changes

-- a field of zeros; a volume of version 1, whose field is not zero; and no volume
abbrev stays : Tape → Type 0
stays tape = finished tape ≡ tape

abbrev of_version_one : List (List ℕ)
of_version_one = file a_name 4 1 ∷ gone (file b_name 200 9) ∷ file c_name 6 3
    ∷ new_entry redo_name redo_type 40 4 (in_two 3 ++ in_two 1) ∷ []

unmarked_stays : stays (on (three (entry 0 0)) (six 4 5 6 7 8 9)) × stays (on of_version_one (six 4 5 6 7 8 9))
    × stays (replicate 44 base.blank)
unfolding two_at four_at entries_of entry_at name_of is_open with_type new_entry with_entry with_start unmarked
unmarked_stays = (refl, refl, refl)

-- ---- a tape without a mark

abbrev plain : Tape
plain = on (three (entry 0 0)) (six 4 5 6 7 8 9)

-- a volume on it, from whose store so many records may still be read and written
abbrev store : ℕ → RecordsView ℕ
store left = record {
  valid = Unit {0};
  tape = Some plain;
  record_count = 44;
  ready = true;
  sound = true;
  calls_left = left;
  room = 100;
  frame_faults = 0;
  medium_faults = 0;
  moment = 0;
  left_since = λ m c. c ≡ plain;
  transferred = λ list. list ≡ [];
  present = left;
  emptied = λ s u. Unit {0};
  stood = λ s. Unit {0};
  failed = λ trouble. Unit {0};
  resumed = λ k. Unit {0};
}

abbrev over : ℕ → Option HeaderParts → VolumeView ℕ
over left kept = record { records = left; kept = kept; is_open = false; last = []; slots = []; room = 0 }

abbrev its_header : Option HeaderParts
its_header = Some (record { label = codes "HPTAPE"; start = 2; length = 2 })

abbrev mounted : ℕ → Option HeaderParts → Type 0
mounted left kept = MountsAlone {T = Unit {0}} {E = Unit {0}} store (over 100 None) (over left kept) plain (Ok tt)

takes : mounting_on plain None ≡ 73
unfolding two_at four_at is_open with_type new_entry
takes = refl

not_true : ◌≡◌ {A = Bool} false true → ⊥
not_true e = cc

-- 73 records are read and written, and not one more
mounts : mounted 27 its_header
mounts = record { few = omega (arith, takes); keeps = refl }

no_more : mounted 26 its_header → ⊥
no_more is = absurd (omega (arith, is.few, takes))

-- and the directory is kept
not_kept : mounted 27 None → ⊥
not_kept is = not_true is.keeps

-- ---- the steps of packing

abbrev two_placed : List (List ℕ)
two_placed = file a_name 4 2 ∷ gone (file b_name 200 9) ∷ file c_name 9 1 ∷ []

-- A stands at its place, and the next place is record 6; C does not
placed_to : ArePlaced 4 2 6 two_placed
unfolding two_at four_at with_type
placed_to = record { packed = refl; next = refl }

not_placed : ArePlaced 4 3 7 two_placed → ⊥
unfolding two_at four_at with_type
not_placed is = not_true is.packed

-- slot 1 is purged, and slot 0 is not
gap : IsGap 1 2 two_placed
unfolding two_at four_at with_type
gap = record {
  order = omega arith;
  closed = λ k lt. let first : k ≡ 0 = omega (arith, lt) in ap (λ (m : ℕ). is_live (get_or two_placed m [])) first;
  purged = λ k le lt. let one : k ≡ 1 = omega (arith, le, lt) in ap (λ (m : ℕ). is_live (get_or two_placed m [])) one;
}

no_gap : IsGap 0 2 two_placed → ⊥
unfolding two_at four_at with_type
no_gap is = not_true (sym (is.purged 0 (omega arith) (omega arith)))

not_closed : IsGap 2 2 two_placed → ⊥
unfolding two_at four_at with_type
not_closed is = not_true (is.closed 1 (omega arith))
