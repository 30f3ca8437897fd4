-- What the answers of an insert say.
use Rattle.std.specs.Prelude.{◌≡◌, ◌<◌, ℕ, List, length, Option, Some, None, Result, Ok, Err}
use Rattle.lif_model.specs.Tape.{Tape}
use Rattle.lif_model.specs.Shelf.{Shelf, image_of, inserted, bytes_of, OthersStay, IsSize, cassette_records, disc_records, largest_image}
use Rattle.il_ports.specs.declared.stream.Failed.{Failed}
use Rattle.il_ports.specs.declared.medium.Inserted.{Inserted}
use Rattle.il_ports.specs.declared.medium.Inserted.TheVariants as inserted
use Rattle.il_ports.specs.declared.medium.New.{New}
use Rattle.il_ports.specs.declared.medium.New.TheVariants as making

-- the number of records of the medium that is made where the image is missing
abbrev pub records_made : New → Option ℕ
records_made making.No = None
records_made making.Tape = Some cassette_records
records_made making.Disc = Some disc_records

-- The image of that name is in the drive: the tape reads as its bytes, and the shelf has the tape's bytes under its
-- name and every other image as before.
pub record TakesImage (name : List ℕ) (made : New) (old : Shelf) (new : Option Shelf) (inside : Option (List ℕ)) (tape : Option Tape) : Type 0 where
  pub content : Tape
  pub inserted_is : inserted (image_of name old) (records_made made) ≡ Some content
  pub tape_is : tape ≡ Some content
  pub shelf : Shelf
  pub shelf_is : new ≡ Some shelf
  pub inside_is : inside ≡ Some name
  pub image : image_of name shelf ≡ Some (bytes_of content)
  pub others : OthersStay name old shelf

-- no tape is in, and every image is as before
pub record Refuses (old new : Option Shelf) (inside : Option (List ℕ)) (tape : Option Tape) (count : ℕ) : Type 0 where
  pub out : count ≡ 0
  pub no_name : inside ≡ None
  pub no_tape : tape ≡ None
  pub same : new ≡ old

abbrev pub InsertAnswers : List ℕ → New → Option Shelf → Option Shelf → Option (List ℕ) → Option Tape → ℕ → Inserted → Type 0
InsertAnswers name made old new inside tape count inserted.Tape =
    IsSize count × ((s : Shelf) → old ≡ Some s → TakesImage name made s new inside tape)
InsertAnswers name made old new inside tape count inserted.NoSuch =
    Refuses old new inside tape count × (made ≡ making.No) × ((s : Shelf) → old ≡ Some s → image_of name s ≡ None)
InsertAnswers name made old new inside tape count (inserted.BadSize size) =
    Refuses old new inside tape count × (largest_image < size)
    × ((s : Shelf) → old ≡ Some s → (bytes : List ℕ) × (image_of name s ≡ Some bytes) × (length bytes ≡ size))

-- The three answers exclude one another where the shelf is told, so each comes exactly where its condition holds and
-- the call does not fail.
abbrev pub InsertResult : List ℕ → New → Option Shelf → Option Shelf → Option (List ℕ) → Option Tape → ℕ → Result Inserted Failed → Type 0
InsertResult name made old new inside tape count (Ok answer) = InsertAnswers name made old new inside tape count answer
InsertResult name made old new inside tape count (Err _) = Refuses old new inside tape count

-- Every image but the one in the drive is as before.
abbrev pub OthersAreKept : Option (List ℕ) → Option Shelf → Option Shelf → Type 0
OthersAreKept inside old new = (name : List ℕ) (s : Shelf) → inside ≡ Some name → old ≡ Some s → (u : Shelf) × (new ≡ Some u) × OthersStay name s u
