-- Exit statuses.
use Rattle.std.specs.Prelude.{◌≡◌, ◌≢◌, ℕ}
use Rattle.std.specs.declared.io.ErrorKind.{ErrorKind}
use Rattle.std.specs.declared.io.ErrorKind.TheVariants as kinds

-- the exit status if the arguments were not read, by the kind of the error
abbrev pub IsUnreadStatus : ErrorKind → ℕ → Type 0
IsUnreadStatus kind status = (kind ≡ kinds.OutOfMemory → status ≡ 7) × (kind ≢ kinds.OutOfMemory → status ≡ 2)
