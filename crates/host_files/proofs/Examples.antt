-- What is read of a file, and what is not.
use Rattle.std.proofs.Common.{◌≡◌, ◌∷◌, [], Some, refl, sym, ap, length, arith}
use Rattle.std.specs.Prelude.{codes}
use Rattle.lif_model.specs.Shelf.{Shelf, image_of}
use Rattle.host_files.specs.HostFiles.{IsHostContent, IsLarger}

-- a file of three bytes
abbrev files : Shelf
files = (codes "A", codes "xyz") ∷ []

-- its bytes, and no fewer
whole : IsHostContent (codes "A") (Some files) (codes "xyz")
whole s is = let same : files ≡ s = cc in ap (image_of (codes "A")) (sym same)

not_front : IsHostContent (codes "A") (Some files) (codes "xy") → ⊥
not_front content = let bytes = content files refl in cc

-- a file that is missing has no content, also not that of an empty one
not_empty : IsHostContent (codes "B") (Some files) [] → ⊥
not_empty content = let bytes = content files refl in cc

-- it has more than two bytes, and not more than three
larger : IsLarger (codes "A") 2 (Some files)
larger s is = let same : files ≡ s = cc in (codes "xyz", ap (image_of (codes "A")) (sym same), omega arith)

not_larger : IsLarger (codes "A") 3 (Some files) → ⊥
not_larger more = let is = more files refl in let same : is.0 ≡ codes "xyz" = cc (is.1) in let size = ap length same in omega (arith, size, is.2)
