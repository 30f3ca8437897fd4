-- Worked examples, computed by the checker, on the header of a volume HPTAPE whose directory has records 2 and 3.
use Rattle.std.proofs.Common.{◌++◌, ℕ, List, [], ◌∷◌, refl, lit≤, lit<, codes}
use Rattle.lif_model.specs.Numbers.{two_at, four_at}
use Rattle.lif_model.specs.Header.{header_of}
use Rattle.lif_header.specs.declared.header.HeaderFault.TheVariants as fault
use Rattle.lif_header.specs.Reading.{IsFault, LiesWithin}

abbrev pub four : ℕ → List ℕ
four n = 0 ∷ 0 ∷ 0 ∷ n ∷ []

-- the first twenty bytes, with this mark, first record and number of records
abbrev pub header : ℕ → ℕ → ℕ → List ℕ
header mark start count = mark ∷ 0 ∷ codes "HPTAPE" ++ four start ++ 0x10 ∷ 0 ∷ 0 ∷ 0 ∷ [] ++ four count

-- the directory ends at record 4: a tape of 8 records is the smallest that has room for it
within_eight : LiesWithin 8 (header_of (header 0x80 2 2))
unfolding four_at two_at
within_eight = record { start = lit≤ tt; length = lit≤ tt; end = lit≤ tt }

past_the_gate : IsFault 7 (header 0x80 2 2) (fault.Past 4)
unfolding four_at two_at
past_the_gate = (refl, refl, lit≤ tt, lit≤ tt, lit< tt)

no_mark : IsFault 8 (header 0x00 0 0) (fault.Id 0)
unfolding two_at
no_mark = (refl, refl)

-- the start is told before the length
no_start : IsFault 8 (header 0x80 0 0) (fault.Start 0)
unfolding four_at two_at
no_start = (refl, refl, refl)

no_length : IsFault 8 (header 0x80 2 0) (fault.Length 0)
unfolding four_at two_at
no_length = (refl, refl, lit≤ tt, refl)
