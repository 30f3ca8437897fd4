-- The places in the parallel poll that a call leaves, device by device.
use Rattle.std.specs.Prelude.{◌≡◌, ◌==◌, ℕ, if◌then◌else◌, Some}
use Rattle.il_poll.specs.Service.{assigned}
use Rattle.il_device.specs.State.{DeviceState}
use Rattle.il_ring.specs.Outcomes.{HearsNothing}

-- party a has this place, and every other device the one that it had
pub record GivenPlace (a n k : ℕ) (d e : DeviceState) : Type 0 where
  pub place : e.assignment ≡ (if k == a then Some (assigned n) else d.assignment)
  pub nothing : HearsNothing d e
  pub wants : e.wants ≡ d.wants
