-- The sizes of media.
use Rattle.std.proofs.Common.{◌≡◌, ◌≤◌, ◌⊎◌, ◌==◌, ℕ, zero, suc, [], ◌∷◌, Bool, true, false, if◌then◌else◌, replicate, inl, inr, refl, arith}
use Rattle.std.specs.Prelude.{nat_le}
use Rattle.std.proofs.lemmas.Bool.{or_cases, eqb-true}
use Rattle.lif_model.specs.Shelf.{cassette_records, disc_records, image_bytes, records_for, IsSize, piece, cut, blank}

-- one of the two
pub sizes_are : (n : ℕ) → IsSize n → (n ≡ cassette_records) ⊎ (n ≡ disc_records)
sizes_are n is = elim (or_cases (n == cassette_records) (n == disc_records) is) [
  | inl e ↦ inl (eqb-true n cassette_records e)
  | inr e ↦ inr (eqb-true n disc_records e)
]

-- so at least 512, and no more than 2,464
pub size_bounds : (n : ℕ) → IsSize n → (cassette_records ≤ n) × (n ≤ disc_records)
size_bounds n is = elim (sizes_are n is) [
  | inl e ↦ (omega (arith, e), omega (arith, e))
  | inr e ↦ (omega (arith, e), omega (arith, e))
]

pub size_for : (bytes : ℕ) → IsSize (records_for bytes)
size_for bytes = go (nat_le bytes (image_bytes cassette_records))
  where
    go : (b : Bool) → IsSize (if b then cassette_records else disc_records)
    go true = refl
    go false = refl

blank_piece : piece [] ≡ replicate 256 0
unfolding piece
blank_piece = refl

-- no bytes read as a blank medium
pub cut_nothing : (n : ℕ) → cut n [] ≡ blank n
unfolding blank
cut_nothing zero = refl
cut_nothing (suc n) = λ i. blank_piece i ∷ cut_nothing n i
