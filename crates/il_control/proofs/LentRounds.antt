-- The frame that is at the host goes on: a second controller comes to the next place of its rounds, or they break off.
use Rattle.std.proofs.Common.{◌≡◌, ◌∙◌, ◌⊎◌, ◌≤◌, ◌<◌, ◌+◌, ℕ, zero, suc, List, ◌∷◌, Option, Some, None, length, refl, sym, ap, subst, arith, length-append}
use Rattle.il_frames.specs.declared.entry.Entry.{Entry}
use Rattle.il_frames.specs.declared.frame.Frame.{Frame}
use Rattle.il_frames.specs.NamedFrames.{nrd, rfc}
use Rattle.il_drive.specs.State.{device_of}
use Rattle.il_ports.specs.Media.{MediumView}
use Rattle.il_guest.specs.declared.control.Place.{Place}
use Rattle.il_guest.specs.declared.control.Place.TheVariants as place
use Rattle.il_guest.specs.Frames.{sst}
use Rattle.il_guest.specs.Steps.{command_frame}
use Rattle.il_ring.specs.declared.flight.Flight.{Flight}
use Rattle.il_ring.specs.declared.plan.Arrival.{Arrival}
use Rattle.il_ring.specs.Flights.{sourced}
use Rattle.il_ring.specs.Lending.{IsControlled, going_on}
use Rattle.il_ring.specs.Rings.{RingView, devices_of}
use Rattle.il_ring.specs.Turned.{HalvesOfRound, turned, turned_flight}
use Rattle.il_control.proofs.LentAsking.{asking_step}
use Rattle.il_control.proofs.LentCommands.{command_step, handshake_step}
use Rattle.il_control.proofs.LentTelling.{byte_stands, byte_step, held_stands, nrd_step, within}
use Rattle.il_control.proofs.LentWalks.{BrokeOff, Polling, StandsSo, Stays, stays}

-- What a pass did, in two halves: whatever frame the others' ring holds meanwhile, and whichever of its frames is at the host.
abbrev pub Passed : {M : Type 0} → (M → MediumView) → RingView M → Arrival → RingView M → Type 0
Passed view r answer s =
    (held : Option Flight) → (f : Flight) → r.books.lent ≡ Some (turned_flight (length (devices_of r)) f) → f.source < length (devices_of r) → HalvesOfRound view (going_on r) held f answer s

-- a device's flight is the same to both
pub turned_same : (k : ℕ) (f : Flight) → 1 ≤ f.source → turned_flight k f ≡ f
turned_same k f some = ap (λ source. record f { source = source }) (by f.source some)
  where
    by : (p : ℕ) → 1 ≤ p → turned k p ≡ p
    by zero some = let no : ⊥ = omega (arith, some) in absurd no
    by (suc p) some = refl

module _ {M : Type 0} (view : M → MediumView) (k last : ℕ) (own : Option ℕ) (base : List Entry) (r s : RingView M) (arrived : ℕ) (answer : Arrival) (old : Polling view k last own base r arrived) (passed : Passed view r answer s) (controlled : IsControlled s) where
  abbrev pub GoesOrBreaks : Type 0
  GoesOrBreaks = Polling view k last own base s (arrived + 1) ⊎ BrokeOff view k last own base s (arrived + 1)

  many_some : 1 ≤ length (devices_of r)
  many_some =
      let all = length-append r.before (device_of r.drive.state ∷ r.after) in
      omega (arith, all)

  -- a frame of its own went round
  pub own_so : (held : Option Flight) (f : Frame) → r.books.lent ≡ Some (sourced k f) → Stays view k last own base r s arrived old answer held (sourced 0 f)
  own_so held f lent =
      stays view k last own base r s arrived answer held (sourced 0 f) old
      (passed held (sourced 0 f) (lent ∙ ap (λ k. Some (sourced k f)) (sym old.many)) many_some) controlled

  by_place : (p : Place) → old.place ≡ p → GoesOrBreaks
  by_place (place.Command c) at =
      let stands = subst (λ p. StandsSo view k last own base p r old.boxed old.entries) at old.stands in
      command_step view k last own base r s arrived answer c old (own_so None (command_frame c) stands.2.lent_is) at
  by_place (place.Ready c) at =
      let stands = subst (λ p. StandsSo view k last own base p r old.boxed old.entries) at old.stands in
      handshake_step view k last own base r s arrived answer c old (own_so None rfc stands.2.lent_is) at
  by_place (place.Start a) at =
      let stands = subst (λ p. StandsSo view k last own base p r old.boxed old.entries) at old.stands in
      asking_step view k last own base r s arrived answer a old (own_so None sst stands.2.lent_is) at
  by_place (place.Held a d) at =
      let stands = held_stands view k last own base r s arrived answer a d old at in
      nrd_step view k last own base r s arrived answer a d old at (own_so (Some stands.2.flight) nrd stands.2.lent_is)
  by_place (place.Relayed a d) at =
      let stands = byte_stands view k last own base r s arrived answer a d old at in
      let flight = stands.2.flight in
      let on = within view k last own base r old.boxed old.device flight old.after old.many stands.2.holding stands.2.holding_is in
      let lent : r.books.lent ≡ Some (turned_flight (length (devices_of r)) flight) = stands.2.lent_is ∙ ap (λ f. Some f) (sym (turned_same (length (devices_of r)) flight on.0)) in
      byte_step view k last own base r s arrived answer a d old at (stays view k last own base r s arrived answer None flight old (passed None flight lent (omega (arith, on.1, old.many))) controlled)

  -- from any place
  pub goes_or_breaks : GoesOrBreaks
  goes_or_breaks = by_place old.place refl
