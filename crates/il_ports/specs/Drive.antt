-- A shelf in memory and the drive beside it.
use Rattle.std.specs.Prelude.{◌≡◌, ◌≢◌, ◌==◌, ◌<◌, ◌≤◌, ℕ, zero, suc, Bool, true, false, List, [], ◌∷◌, if◌then◌else◌, length, get_or, map, Option, Some, None, Vec, String, string_bytes}
use Rattle.std.specs.Option.{option_map}
use Rattle.std.specs.Str.{bytes_eq}
use Rattle.std.specs.declared.alloc.Global.{Global}
use Rattle.lif_model.specs.Tape.{Tape}
use Rattle.lif_model.specs.Shelf.{Shelf, bytes_of, image_of, is_size, disc_records, records_for, largest_image}
use Rattle.lif_model.specs.Redo.{Changes}
use Rattle.il_ports.specs.declared.memory_medium.Drive.{Drive}
use Rattle.il_ports.specs.declared.memory_medium.Drive.TheVariants.{Empty, Shelved, Made}
use Rattle.il_ports.specs.Inserting.{records_made}
use Rattle.il_ports.specs.declared.medium.New.{New}
use Rattle.il_ports.specs.declared.medium.New.TheVariants as new
use Rattle.il_ports.specs.declared.memory_medium.Offer.{Offer}
use Rattle.il_ports.specs.declared.memory_medium.Offer.TheVariants as offer

-- the longest name of an image that is made
abbrev pub longest_name : ℕ
longest_name = 4096

-- names and bytes
abbrev pub images_of : List (String Global × Vec ℕ Global) → Shelf
images_of images = map (λ image. (string_bytes image.0, image.1.items)) images

-- the place of the first image of that name
abbrev pub place_of : List ℕ → Shelf → Option ℕ
place_of name [] = None
place_of name (image ∷ images) = if bytes_eq image.0 name then Some 0 else option_map suc (place_of name images)

-- the shelf with other bytes at a place
abbrev pub with_bytes : ℕ → List ℕ → Shelf → Shelf
with_bytes place bytes [] = []
with_bytes zero bytes (image ∷ images) = (image.0, bytes) ∷ images
with_bytes (suc place) bytes (image ∷ images) = image ∷ with_bytes place bytes images

-- The shelf as it reads: the image in the drive has the tape's bytes, and one that was made stands before the others.
abbrev pub shelf_with : Drive → List ℕ → Tape → Shelf → Shelf
shelf_with Empty made tape images = images
shelf_with (Shelved place) made tape images = with_bytes place (bytes_of tape) images
shelf_with Made made tape images = (made, bytes_of tape) ∷ images

-- an image of that name was made
abbrev pub is_made : Drive → List ℕ → List ℕ → Bool
is_made Made made name = bytes_eq made name
is_made Empty made name = false
is_made (Shelved place) made name = false

-- the image at that place is in the drive
abbrev pub is_inside : Drive → ℕ → Bool
is_inside (Shelved inside) place = inside == place
is_inside Empty place = false
is_inside Made place = false

-- the name of the image in the drive
abbrev pub name_in : Drive → List ℕ → Shelf → Option (List ℕ)
name_in Empty made images = None
name_in (Shelved place) made images = Some (get_or images place ([], [])).0
name_in Made made images = Some made

-- no tape is in
abbrev pub is_empty : Drive → Bool
is_empty Empty = true
is_empty (Shelved place) = false
is_empty Made = false

-- while no tape is in, no write is kept
abbrev pub IsUnwritten : Drive → Changes → Type 0
IsUnwritten drive history = is_empty drive ≡ true → history ≡ []

-- an image of the shelf that is in the drive is the first of its name
abbrev pub IsFirst : Drive → Shelf → Type 0
IsFirst drive images = (place : ℕ) → is_inside drive place ≡ true → place_of (get_or images place ([], [])).0 images ≡ Some place

-- the tape in the drive
abbrev pub tape_in : Drive → Tape → Option Tape
tape_in Empty tape = None
tape_in (Shelved place) tape = Some tape
tape_in Made tape = Some tape

-- the number of its records
abbrev pub records_in : Option Tape → ℕ
records_in None = 0
records_in (Some tape) = length tape

-- A disc is laid in while no tape is in, and a medium of one of the two sizes afterwards.
abbrev pub has_size : Drive → ℕ → Bool
has_size Empty n = n == disc_records
has_size (Shelved place) n = is_size n
has_size Made n = is_size n

-- what an insert of that name finds
abbrev pub IsOffer : List ℕ → New → Shelf → Offer → Type 0
IsOffer name made shelf (offer.Take place bytes records) =
    (place_of name shelf ≡ Some place) × (image_of name shelf ≡ Some bytes.now) × (length bytes.now ≤ largest_image) × (records ≡ records_for (length bytes.now))
IsOffer name made shelf (offer.BadSize size) = (bytes : List ℕ) × (image_of name shelf ≡ Some bytes) × (length bytes ≡ size) × (largest_image < size)
IsOffer name made shelf offer.NoSuch = (image_of name shelf ≡ None) × (made ≡ new.No)
IsOffer name made shelf (offer.Make records) = (image_of name shelf ≡ None) × (records_made made ≡ Some records) × (length name ≤ longest_name)
IsOffer name made shelf offer.TooLong = (image_of name shelf ≡ None) × (made ≢ new.No) × (longest_name < length name)
