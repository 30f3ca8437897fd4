-- The drive answers wherever a second controller asks it.
use Rattle.std.specs.Prelude.{◌≡◌, ◌++◌, ℕ, true, List, length, Option, Some, None, IfSome}
use Rattle.il_frames.specs.declared.entry.Entry.{Entry}
use Rattle.il_guest.specs.declared.control.Command.{Command}
use Rattle.il_guest.specs.declared.control.Command.TheVariants as command
use Rattle.il_guest.specs.declared.control.Control.{Control}
use Rattle.il_guest.specs.declared.control.Control.TheVariants as control
use Rattle.il_guest.specs.declared.control.Place.{Place}
use Rattle.il_guest.specs.declared.control.Place.TheVariants as place
use Rattle.il_ring.specs.Rings.{RingView, devices_of, drive_party}
use Rattle.il_ring.specs.Statuses.{answers_always, asked_all}

-- ---- while it polls

abbrev pub KnowsReady : Option ℕ → Command → Type 0
KnowsReady asked command.Nop = Unit {0}
KnowsReady asked (command.Unl a) = Unit {0}
KnowsReady asked (command.Tad a) = asked ≡ Some a
KnowsReady asked (command.Unt a) = Unit {0}

-- the address that was asked is that of the place
abbrev pub KnowsPlace : Option ℕ → Place → Type 0
KnowsPlace asked (place.Command c) = Unit {0}
KnowsPlace asked (place.Ready c) = KnowsReady asked c
KnowsPlace asked (place.Start a) = asked ≡ Some a
KnowsPlace asked (place.Held a d) = Unit {0}
KnowsPlace asked (place.Relayed a d) = Unit {0}

abbrev pub KnowsAsked : Option ℕ → Control → Type 0
KnowsAsked asked control.Host = Unit {0}
KnowsAsked asked (control.Rounds p) = KnowsPlace asked p
KnowsAsked asked control.Silent = Unit {0}

-- While a second controller polls, and the log has these entries since it took control: the drive answered wherever it was asked, and this is
-- known of the address that is asked.
pub record AnswersPolling {M : Type 0} (base : List Entry) (r : RingView M) : Type 0 where
  pub entries : List Entry
  pub log : r.books.log ≡ base ++ entries
  pub answered : answers_always (length (devices_of r)) (drive_party r) None entries ≡ true
  pub knows : IfSome r.guest (λ mind. KnowsAsked (asked_all (length (devices_of r)) None entries) mind.control)

-- what is left of that if the rounds broke off
pub record AnswersBrokeOff {M : Type 0} (base : List Entry) (s : RingView M) : Type 0 where
  pub entries : List Entry
  pub log : s.books.log ≡ base ++ entries
  pub answered : answers_always (length (devices_of s)) (drive_party s) None entries ≡ true
