-- The ring that a log is read on.
use Rattle.std.specs.Prelude.{ℕ}

-- how many devices it has, which party the controller is, the host being party 0, and which the drive
pub record Loop : Type 0 where
  pub devices : ℕ
  pub controller : ℕ
  pub drive : ℕ

-- a ring of k devices that the host controls, with the drive at party d
abbrev pub host_loop : ℕ → ℕ → Loop
host_loop k d = record { devices = k; controller = 0; drive = d }
