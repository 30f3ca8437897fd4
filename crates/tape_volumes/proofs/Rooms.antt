-- Vectors that have room.
use Rattle.std.proofs.Common.{◌≡◌, ◌≤◌, ℕ, List, arith}
use Rattle.std.specs.Prelude.{◌<◌, OnErr, Result, Ok, Err, is_ok, if◌then◌else◌}

-- a push into a vector that has room
pub pushed : {A T E : Type 0} (result : Result T E) (len cap : ℕ) (items more less : List A) → OnErr result (cap ≤ len) → len < cap → items ≡ (if is_ok result then more else less) → items ≡ more
pushed (Ok x) len cap items more less full room is = is
pushed (Err e) len cap items more less full room is = absurd (omega (arith, full, room))
