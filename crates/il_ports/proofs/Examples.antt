-- Worked examples, computed by the checker.
use Rattle.std.proofs.Common.{◌≡◌, ◌-◌, ◌^◌, ℕ, List, [], ◌∷◌, Some, None, true, false, refl, codes}
use Rattle.std.specs.Prelude.{Err, Ok}
use Rattle.lif_model.specs.Shelf.{Shelf, image_of}
use Rattle.lif_model.specs.Tape.{Tape}
use Rattle.il_ports.specs.Counted.{faults_after, frame_faults_after, medium_faults_after, failing}
use Rattle.il_ports.specs.declared.records.Trouble.{Trouble}
use Rattle.il_ports.specs.declared.records.Trouble.TheVariants.{Frame, Medium}
use Rattle.il_ports.specs.Drive.{place_of, with_bytes, shelf_with, name_in, tape_in, records_in, is_made, is_inside, is_empty}
use Rattle.il_ports.specs.MemoryMedium.{listed_bytes, bytes_left, with_image, shelf_holding, tape_holding}
use Rattle.il_ports.specs.declared.memory_medium.Drive.TheVariants.{Empty, Shelved, Made}

-- ---- counts

third_fault : faults_after {T = ℕ} {E = ℕ} 2 (Err 0) ≡ 3
third_fault = refl

no_fault : faults_after {T = ℕ} {E = ℕ} 2 (Ok 0) ≡ 2
no_fault = refl

stands_still : faults_after {T = ℕ} {E = ℕ} (2 ^ 64 - 1) (Err 0) ≡ 2 ^ 64 - 1
stands_still = refl

-- each trouble has a count of its own
one_frame : (frame_faults_after {T = ℕ} 2 (Err Frame) ≡ 3) × (medium_faults_after {T = ℕ} 2 (Err Frame) ≡ 2) × (frame_faults_after {T = ℕ} 2 (Ok 0) ≡ 2)
one_frame = (refl, refl, refl)

one_medium : (frame_faults_after {T = ℕ} 2 (Err Medium) ≡ 2) × (medium_faults_after {T = ℕ} 2 (Err Medium) ≡ 3) × (medium_faults_after {T = ℕ} 2 (Ok 0) ≡ 2)
one_medium = (refl, refl, refl)

-- ---- listed failures

abbrev three_fails : List (ℕ × Trouble)
three_fails = (4, Medium) ∷ (2, Frame) ∷ (4, Frame) ∷ []

first_entry : (failing 4 three_fails ≡ Some Medium) × (failing 2 three_fails ≡ Some Frame) × (failing 3 three_fails ≡ None)
first_entry = (refl, refl, refl)

-- ---- a shelf of three images, two of one name, and a tape of two records that are cut short

abbrev three : Shelf
three = (codes "A", 1 ∷ []) ∷ (codes "B", 2 ∷ []) ∷ (codes "B", 3 ∷ []) ∷ []

abbrev tape : Tape
tape = (7 ∷ 8 ∷ []) ∷ (9 ∷ 10 ∷ []) ∷ []

first_of_two : place_of (codes "B") three ≡ Some 1
first_of_two = refl

no_place : place_of (codes "C") three ≡ None
no_place = refl

other_bytes : with_bytes 1 (5 ∷ 6 ∷ []) three ≡ (codes "A", 1 ∷ []) ∷ (codes "B", 5 ∷ 6 ∷ []) ∷ (codes "B", 3 ∷ []) ∷ []
other_bytes = refl

empty_drive : shelf_with Empty (codes "B") tape three ≡ three
empty_drive = refl

-- the image in the drive reads as its tape, whatever name was made last
shelved : image_of (codes "B") (shelf_with (Shelved 1) (codes "A") tape three) ≡ Some (7 ∷ 8 ∷ 9 ∷ 10 ∷ [])
shelved = refl

beside_it : image_of (codes "A") (shelf_with (Shelved 1) (codes "A") tape three) ≡ Some (1 ∷ [])
beside_it = refl

made : image_of (codes "C") (shelf_with Made (codes "C") tape three) ≡ Some (7 ∷ 8 ∷ 9 ∷ 10 ∷ [])
made = refl

no_tape : records_in (tape_in Empty tape) ≡ 0
no_tape = refl

two_records : records_in (tape_in (Shelved 0) tape) ≡ 2
two_records = refl

made_name : (is_made Made (codes "C") (codes "C") ≡ true) × (is_made (Shelved 0) (codes "C") (codes "C") ≡ false)
made_name = (refl, refl)

inside : (is_inside (Shelved 1) 1 ≡ true) × (is_inside (Shelved 1) 0 ≡ false) × (is_inside Empty 1 ≡ false)
inside = (refl, refl, refl)

names : (name_in (Shelved 1) (codes "C") three ≡ Some (codes "B")) × (name_in Made (codes "C") three ≡ Some (codes "C")) × (name_in Empty (codes "C") three ≡ None)
names = (refl, refl, refl)

none_in : (is_empty Empty ≡ true) × (is_empty Made ≡ false)
none_in = (refl, refl)

-- ---- writes

abbrev listed : List (ℕ × List ℕ)
listed = (2, 9 ∷ []) ∷ (2, 8 ∷ []) ∷ (4, 7 ∷ []) ∷ []

first_listed : listed_bytes 2 listed ≡ Some (9 ∷ [])
first_listed = refl

left_by_writes : (bytes_left 1 listed (5 ∷ []) ≡ 5 ∷ []) × (bytes_left 4 listed (5 ∷ []) ≡ 7 ∷ [])
left_by_writes = (refl, refl)

other_image : with_image (codes "B") (5 ∷ []) three ≡ (codes "A", 1 ∷ []) ∷ (codes "B", 5 ∷ []) ∷ (codes "B", 3 ∷ []) ∷ []
other_image = refl

no_image : with_image (codes "C") (5 ∷ []) three ≡ three
no_image = refl

-- record 1 of the tape in the drive is written
written : image_of (codes "B") (shelf_holding (Some (codes "B")) (tape_holding 1 (5 ∷ 6 ∷ []) (Some tape)) three) ≡ Some (7 ∷ 8 ∷ 5 ∷ 6 ∷ [])
written = refl
