-- Numbers in bytes, high byte first.
use Rattle.std.specs.Prelude.{◌+◌, ◌*◌, ℕ, List, slice_index}

-- the number in the two bytes from place i
unfoldable pub two_at : List ℕ → ℕ → ℕ
two_at bytes i = 256 * slice_index bytes i + slice_index bytes (i + 1)

-- the number in the four bytes from place i
unfoldable pub four_at : List ℕ → ℕ → ℕ
four_at bytes i = 65536 * two_at bytes i + two_at bytes (i + 2)
