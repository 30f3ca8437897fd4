-- What the clauses of `send` and `pass` say of a ring that is lent, or was.
use Rattle.std.proofs.Common.{◌≡◌, ◌<◌, ◌⊎◌, ◌∙◌, true, Option, Some, None, length, refl, sym, subst}
use Rattle.std.specs.Prelude.{IsSome}
use Rattle.il_frames.specs.declared.frame.Frame.{Frame}
use Rattle.il_ports.specs.Media.{MediumView}
use Rattle.il_frames.specs.NamedFrames.{ifc}
use Rattle.il_ring.specs.declared.plan.Arrival.{Arrival}
use Rattle.il_ring.specs.declared.plan.Arrival.TheVariants as arrival
use Rattle.il_ring.specs.declared.flight.Flight.{Flight}
use Rattle.il_ring.specs.Flights.{sourced}
use Rattle.il_ring.specs.Guests.{GuestMind, IsUnderHost}
use Rattle.il_ring.specs.Lending.{IsControlled, ControlledRound, StandsNow, going_on, about_to_send, leads}
use Rattle.il_ring.specs.Rings.{RingView, IsRing, devices_of}
use Rattle.il_ring.specs.Turned.{HalvesOfRound, turned_flight}
use Rattle.il_ring.proofs.ControlledRings.{IsControlled-back, IsControlled-handed, IsControlled-pass, stands_now}
use Rattle.il_ring.proofs.SendLaws.{back_sent, handed_sent, ifc_alone}
use Rattle.il_ring.proofs.TurnedRounds.{halves}
use Rattle.il_ring.proofs.Turnings.{some_flight}

pub lent_sent : {M : Type 0} (view : M → MediumView) (r t s : RingView M) (f : Frame) (flight : Flight) (answer : Arrival) → ControlledRound view t flight answer s → t ≡ about_to_send r → flight ≡ sourced 0 f → IsRing r → IsUnderHost r.guest → (IsRing s × IsUnderHost s.guest) ⊎ (IsControlled s × StandsNow answer s.books.lent)
lent_sent view r t s f flight answer round at is ring under = IsControlled-handed view r s f answer (handed_sent view r t s f flight answer round at is under) ring under

pub back_controlled : {M : Type 0} (view : M → MediumView) (r t s : RingView M) (f : Frame) (flight : Flight) (answer : Arrival) → ControlledRound view t flight answer s → t ≡ about_to_send r → flight ≡ sourced 0 f → IsUnderHost r.guest ⊎ (f ≡ ifc) → IsControlled r
    → (IsRing s × IsUnderHost s.guest) ⊎ (IsControlled s × (answer ≡ arrival.Lost) × (s.books.lent ≡ None))
back_controlled view r t s f flight answer round at is alone controlled = IsControlled-back view r s f answer (back_sent view r t s f flight answer round at is alone controlled.leads) (ifc_alone r f alone controlled.leads) controlled

pub pass_controlled : {M : Type 0} (view : M → MediumView) (r t s : RingView M) (flight : Flight) (answer : Arrival) → t ≡ going_on r → r.books.lent ≡ Some flight → ControlledRound view t flight answer s → IsControlled r → IsControlled s × StandsNow answer s.books.lent
pass_controlled view r t s flight answer at lent round controlled =
    let went = subst (λ t. ControlledRound view t flight answer s) at round in
    let on = IsControlled-pass view r s flight answer went controlled lent in
    (on, stands_now view (going_on r) s flight answer went on.leads)

-- in two halves
pub pass_halves : {M : Type 0} (view : M → MediumView) (r t s : RingView M) (flight : Flight) (answer : Arrival) → t ≡ going_on r → r.books.lent ≡ Some flight → ControlledRound view t flight answer s → IsControlled r
    → (held : Option Flight) → (f : Flight) → r.books.lent ≡ Some (turned_flight (length (devices_of r)) f) → f.source < length (devices_of r) → HalvesOfRound view (going_on r) held f answer s
pass_halves view r t s flight answer at lent round controlled held f is within =
    let same : flight ≡ turned_flight (length (devices_of r)) f = some_flight flight (turned_flight (length (devices_of r)) f) (sym lent ∙ is) in
    let went = subst (λ flight. ControlledRound view (going_on r) flight answer s) same (subst (λ t. ControlledRound view t flight answer s) at round) in
    halves view (going_on r) s f answer went held within (controlled_some r.guest controlled.leads)
  where
    controlled_some : (mind : Option GuestMind) → leads mind ≡ true → IsSome mind
    controlled_some None none = cc
    controlled_some (Some m) lead = refl
