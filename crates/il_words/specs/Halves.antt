-- Two values with a colon between them.
use Rattle.std.specs.Prelude.{ℕ, ◌==◌, nat_lt, Bool, List, length, Option, Some, None, if◌then◌else◌}
use Rattle.std.specs.List.{position_or_len, before_first, after_first}

-- a colon
abbrev pub is_colon : ℕ → Bool
is_colon byte = byte == 58

-- what stands before the first colon and after it, where there is one
abbrev pub halves_of : List ℕ → Option (List ℕ × List ℕ)
halves_of text = if nat_lt (position_or_len is_colon text) (length text) then Some (before_first is_colon text, after_first is_colon text) else None
