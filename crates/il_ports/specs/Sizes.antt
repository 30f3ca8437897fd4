-- The sizes of media by name.
use Rattle.std.specs.Prelude.{ℕ, refl}
use Rattle.lif_model.specs.Shelf.{cassette_records, disc_records, IsSize}
use Rattle.il_ports.specs.declared.image.Size.{Size}
use Rattle.il_ports.specs.declared.image.Size.TheVariants.{Tape, Disc}

abbrev pub records_of_size : Size → ℕ
records_of_size Tape = cassette_records
records_of_size Disc = disc_records

pub is_size_of : (size : Size) → IsSize (records_of_size size)
is_size_of Tape = refl
is_size_of Disc = refl
