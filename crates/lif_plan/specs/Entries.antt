-- What is taken of the entries of a directory.
use Rattle.std.specs.Prelude.{◌≡◌, ◌&&◌, nat_le, ℕ, Bool, List}
use Rattle.lif_model.specs.Directory.{type_of, start_of, length_of, implementation_of}
use Rattle.lif_model.specs.Legal.{end_of}
use Rattle.lif_plan.specs.declared.directory.File.{File}
use Rattle.lif_plan.specs.declared.extents.Extent.{Extent}

-- ---- extents

-- that of a slot
abbrev pub extent_of : List ℕ → Extent
extent_of slot = record { start = start_of slot; end = end_of slot }

abbrev pub lies_within : ℕ → ℕ → Extent → Bool
lies_within low high extent = nat_le low extent.start && nat_le extent.end high

-- the first one ends at or before the start of the other
abbrev pub ends_first : Extent → Extent → Bool
ends_first a b = nat_le a.end b.start

-- ---- files

-- the file has these parts of a slot
pub record IsFileOf (slot : List ℕ) (file : File) : Type 0 where
  pub kind : file.kind ≡ type_of slot
  pub first : file.first ≡ start_of slot
  pub count : file.count ≡ length_of slot
  pub implementation : file.implementation ≡ implementation_of slot
