-- Batches: changes of files that are made as one. This project's own.
use Rattle.std.specs.Prelude.{◌≡◌, ◌≢◌, ℕ, List, length}

-- Names have ten bytes and an implementation field four; kind is a file's type.
pub data Part : Type 0 where
  Store : (name : List ℕ) (kind : ℕ) (implementation bytes : List ℕ) → Part
  Rename : (old new : List ℕ) → Part
  Purge : (name : List ℕ) → Part

-- a batch has at most so many: with the end of the directory they touch as many of its records as one commit takes
abbrev pub most_parts : ℕ
most_parts = 31

-- the lengths of names and fields, and what a file's type may be
abbrev pub IsWellFormedPart : Part → Type 0
IsWellFormedPart (Store name kind implementation bytes) =
    (length name ≡ 10) × (kind ≢ 0) × (kind ≢ 0xFFFF) × (length implementation ≡ 4)
IsWellFormedPart (Rename old new) = (length old ≡ 10) × (length new ≡ 10)
IsWellFormedPart (Purge name) = length name ≡ 10
