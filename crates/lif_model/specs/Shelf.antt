-- A shelf of named images, and the tape that an image reads as.
use Rattle.std.specs.Prelude.{◌≡◌, ◌≢◌, ◌==◌, ◌||◌, ◌++◌, ◌-◌, ◌*◌, nat_le, ℕ, zero, suc, Bool, true, List, [], ◌∷◌, if◌then◌else◌, length, take, drop, replicate, Option, Some, None}
use Rattle.std.specs.List.{flat_map}
use Rattle.std.specs.Str.{bytes_eq}
use Rattle.lif_model.specs.Tape.{Tape}

-- names and bytes
abbrev pub Shelf : Type 0
Shelf = List (List ℕ × List ℕ)

-- the bytes of the first image of that name
abbrev pub image_of : List ℕ → Shelf → Option (List ℕ)
image_of name [] = None
image_of name (image ∷ images) = if bytes_eq image.0 name then Some image.1 else image_of name images

-- the records of a tape of the HP 82161A: two tracks of 256 (HP 82161A Owner's Manual)
abbrev pub cassette_records : ℕ
cassette_records = 512

-- the records of a disc of the HP 9114: 77 tracks on two surfaces, of 16 records each
abbrev pub disc_records : ℕ
disc_records = 2464

-- the bytes of an image of n records
abbrev pub image_bytes : ℕ → ℕ
image_bytes n = 256 * n

-- the most bytes of an image
abbrev pub largest_image : ℕ
largest_image = image_bytes disc_records

-- an image that is no larger than a tape's reads as a tape, and a larger one as a disc
abbrev pub records_for : ℕ → ℕ
records_for size = if nat_le size (image_bytes cassette_records) then cassette_records else disc_records

-- a medium has one of these two numbers of records
abbrev pub is_size : ℕ → Bool
is_size n = n == cassette_records || n == disc_records

-- the same as a fact
abbrev pub IsSize : ℕ → Type 0
IsSize n = is_size n ≡ true

-- 256 bytes from the front, followed by zeros where there are fewer
unfoldable pub piece : List ℕ → List ℕ
piece bytes = take 256 bytes ++ replicate (256 - length bytes) 0

-- n records from the front
abbrev pub cut : ℕ → List ℕ → Tape
cut zero bytes = []
cut (suc n) bytes = piece bytes ∷ cut n (drop 256 bytes)

-- an image reads as if followed by zeros
unfoldable pub tape_of : List ℕ → Tape
tape_of bytes = cut (records_for (length bytes)) bytes

-- a medium of n records of zeros
unfoldable pub blank : ℕ → Tape
blank n = replicate n (replicate 256 0)

-- the bytes of a tape, record after record
abbrev pub bytes_of : Tape → List ℕ
bytes_of tape = flat_map (λ r. r) tape

-- The tape that comes into the drive, by the image of that name: where there is none, a blank one of so many records, if
-- one is to be made. An image that is too large gives none.
abbrev pub inserted : Option (List ℕ) → Option ℕ → Option Tape
inserted None None = None
inserted None (Some n) = Some (blank n)
inserted (Some image) made = if nat_le (length image) largest_image then Some (tape_of image) else None

-- each other image is as before
abbrev pub OthersStay : List ℕ → Shelf → Shelf → Type 0
OthersStay name old new = (other : List ℕ) → other ≢ name → image_of other new ≡ image_of other old
