-- What the reading of record 0 answers (the LIF volume header).
use Rattle.std.specs.Prelude.{◌≡◌, ◌<◌, ◌≤◌, ◌+◌, ℕ, List, true, false}
use Rattle.lif_model.specs.Numbers.{two_at}
use Rattle.lif_model.specs.Gate.{gate_of}
use Rattle.lif_model.specs.Header.{HeaderParts, is_marked, directory_start, directory_length, directory_end}
use Rattle.lif_header.specs.declared.header.HeaderFault.{HeaderFault}
use Rattle.lif_header.specs.declared.header.HeaderFault.TheVariants as fault

-- The first test that record 0 of a tape of n records fails, with the number that fails it. Each case has passed the
-- tests of the cases above it, so no record has two of them, and a readable one has none.
abbrev pub IsFault : ℕ → List ℕ → HeaderFault → Type 0
IsFault n header (fault.Id mark) =
    (mark ≡ two_at header 0) × (is_marked header ≡ false)
IsFault n header (fault.Start start) =
    (start ≡ directory_start header) × (is_marked header ≡ true) × (start ≡ 0)
IsFault n header (fault.Length count) =
    (count ≡ directory_length header) × (is_marked header ≡ true) × (1 ≤ directory_start header) × (count ≡ 0)
IsFault n header (fault.Past end) =
    (end ≡ directory_end header) × (is_marked header ≡ true) × (1 ≤ directory_start header)
    × (1 ≤ directory_length header) × (gate_of n < end)

-- the directory is not empty, does not begin in record 0 and ends before the gate of a tape of n records
pub record LiesWithin (n : ℕ) (header : HeaderParts) : Type 0 where
  pub start : 1 ≤ header.start
  pub length : 1 ≤ header.length
  pub end : header.start + header.length ≤ gate_of n
