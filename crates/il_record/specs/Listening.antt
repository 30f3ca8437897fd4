-- What each device hears of bytes that were sent to one of them.
use Rattle.std.specs.Prelude.{◌==◌, ℕ, MatchBool, List}
use Rattle.il_device.specs.State.{DeviceState}
use Rattle.loop_model.specs.Listening.{HearsAll, HearsInPart}
use Rattle.il_ring.specs.Outcomes.{HearsNothing}
use Rattle.il_ring.specs.Polls.{KeepsPlace}

-- party a heard these bytes, and every other device nothing; each has its place in the poll
abbrev pub Hears : ℕ → List ℕ → ℕ → DeviceState → DeviceState → Type 0
Hears a bytes k d e = KeepsPlace d e × MatchBool (k == a) (HearsAll bytes d e) (HearsNothing d e)

-- party a heard the first `whole` of them, and then at most one byte of any value
abbrev pub HearsPart : ℕ → ℕ → List ℕ → ℕ → DeviceState → DeviceState → Type 0
HearsPart a whole bytes k d e = KeepsPlace d e × MatchBool (k == a) (HearsInPart whole bytes d e) (HearsNothing d e)
