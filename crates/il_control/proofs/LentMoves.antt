-- One move of a second controller: a frame of its own goes round, which every device passes on.
use Rattle.std.proofs.Common.{◌≡◌, ◌≢◌, ◌∙◌, ◌⊎◌, inl, inr, ⊎_elim, ◌≤◌, ◌++◌, ℕ, zero, suc, true, false, List, [], ◌∷◌, Option, Some, None, length, refl, ap, subst, arith}
use Rattle.il_frames.specs.declared.entry.Outcome.TheVariants as outcome
use Rattle.il_frames.specs.declared.frame.Frame.{Frame}
use Rattle.il_frames.specs.Frames.{is_data}
use Rattle.il_frames.specs.Messages.{message_of}
use Rattle.il_frames.specs.NamedFrames.{entry, is_ifc}
use Rattle.il_device.specs.Passing.{is_plain}
use Rattle.il_device.specs.State.{DeviceState}
use Rattle.il_ports.specs.Media.{MediumView}
use Rattle.loop_model.specs.Exchanges.{returned}
use Rattle.il_guest.specs.declared.control.Control.TheVariants as control
use Rattle.il_guest.specs.declared.control.Place.{Place}
use Rattle.il_guest.specs.declared.control.Place.TheVariants as place
use Rattle.il_guest.specs.Courses.{control_next}
use Rattle.il_guest.specs.State.{is_leading}
use Rattle.il_guest.specs.Steps.{IsControl, IsRoundPlace, control_after, sent_at}
use Rattle.il_ring.specs.declared.plan.Arrival.{Arrival}
use Rattle.il_ring.specs.declared.flight.Flight.{Flight}
use Rattle.il_ring.specs.Flights.{sourced}
use Rattle.il_ring.specs.Lending.{IsControlled, going_on}
use Rattle.il_ring.specs.Outcomes.{Returned, WasLost, met_between}
use Rattle.il_ring.specs.Rings.{RingView, devices_of}
use Rattle.il_ring.specs.Turned.{HalvesOfRound, StandsNot, goes_out, keeps_then, ring_before_last, turned, turned_entries}
use Rattle.il_ring.proofs.ControlledSteps.{IsOwn}
use Rattle.il_ring.proofs.SendLaws.{plain_sent}
use Rattle.il_control.specs.Calls.{IsFree, Obeyed, Whole, Broke, arrives}
use Rattle.il_control.proofs.Asking.{plain_obeyed}
use Rattle.il_control.proofs.Calls.{Done, plain_call}
use Rattle.il_control.proofs.LentRings.{own_ring, own_ring-IsFree, own_ring-length}
use Rattle.il_control.proofs.LentSteps.{GoesOut, goes_half, lost_half, out_half}

-- a frame of its own goes out at such a place, and what it keeps stays
pub own_out : (k : ℕ) (p : Place) (kept : Option Flight) → IsOwn p → (goes_out k (control.Rounds p) kept ≡ Some (sourced k (sent_at p))) × (keeps_then (control.Rounds p) kept ≡ kept)
own_out k (place.Command c) kept is = (refl, refl)
own_out k (place.Ready c) kept is = (refl, refl)
own_out k (place.Start a) kept is = (refl, refl)
own_out k (place.Held a d) kept is = absurd is
own_out k (place.Relayed a d) kept is = absurd is

-- a party of the others, or the last
module _ {M : Type 0} (r : RingView M) (boxed : List DeviceState) (last : DeviceState) (after : r.after ≡ boxed ++ last ∷ []) where
  pub party_some : (q : ℕ) → 1 ≤ turned (length (devices_of r)) q
  party_some zero = let many = own_ring-length r boxed last None after in omega (arith, many)
  party_some (suc q) = omega arith

  pub party_on : (q : ℕ) → q ≤ length (devices_of (own_ring boxed None (going_on r))) → turned (length (devices_of r)) q ≤ length (devices_of r)
  party_on zero on = omega arith
  party_on (suc q) on = let many = own_ring-length r boxed last None after in omega (arith, many, on)

module _ {M : Type 0} (view : M → MediumView) (r s : RingView M) (f : Frame) (answer : Arrival) (two : HalvesOfRound view (going_on r) None (sourced 0 f) answer s) where
  abbrev k : ℕ
  k = length (devices_of r)

  -- the others, before and after
  abbrev pub others : RingView M
  others = own_ring two.boxed None (going_on r)

  abbrev pub others_then : RingView M
  others_then = ring_before_last two.boxed_then two.own s

  -- it came back, and the next one goes out
  pub record MovedOn (q : Place) : Type 0 where
    pub whole : Whole view others (returned 0 f ∷ []) others_then
    pub obeyed : Obeyed (message_of f) others others_then
    pub control : two.h.control ≡ control.Rounds q
    pub last : two.h.last ≡ two.g.last
    pub address : two.h.device.roles.address ≡ two.g.device.roles.address
    pub range : IsRoundPlace q
    pub out : GoesOut (going_on r) (returned k f ∷ []) (sourced k (sent_at q)) None answer s

  -- it was lost
  pub record MoveLost : Type 0 where
    pub own_party : ℕ
    pub some : 1 ≤ turned k own_party
    pub on_ring : turned k own_party ≤ k
    pub own_log : two.own.log ≡ entry 0 f (outcome.Lost own_party) ∷ []
    pub met_some : met_between others others_then ≢ []
    pub broke : Broke view others (returned 0 f ∷ []) others_then
    pub ends : StandsNot (going_on r) [] None (entry k f (outcome.Lost (turned k own_party)) ∷ []) two.own.crossings answer s
    pub same : two.h ≡ two.g

  module _ (controlled : IsControlled r) (kept : r.books.kept ≡ None) (p q : Place) (at : two.g.control ≡ control.Rounds p) (own : IsOwn q) (plain : is_plain (message_of f) ≡ true) (other : is_data f ≡ false) (no_ifc : is_ifc (message_of f) ≡ false)
      (next : control_after two.g.device.roles.address two.g.last p f ≡ control.Rounds q) where
    free : IsFree others
    free = own_ring-IsFree r two.boxed two.g.device two.after controlled

    lead : is_leading two.g.control ≡ true
    lead = ap is_leading at

    done : Done view others (returned 0 f ∷ []) (arrives two.arrives) others_then
    done = plain_call view others others_then None f two.arrives two.its_round refl free plain

    came_back : Returned others None f f two.arrives others_then → MovedOn q
    came_back back =
        let so = goes_half view (going_on r) s None (sourced 0 f) answer two lead f back.answer_is other no_ifc in
        let to : two.h.control ≡ control.Rounds q = so.control ∙ ap (λ c. control_next two.g.device.roles.address two.g.last c f) at ∙ next in
        let out = own_out k q r.books.kept own in
        record {
          whole = subst (λ answer. Done view others (returned 0 f ∷ []) (arrives answer) others_then) back.answer_is done;
          obeyed = plain_obeyed view others others_then None f two.arrives two.its_round free plain (ap arrives back.answer_is);
          control = to;
          last = so.last;
          address = so.address;
          range = subst IsControl to so.range;
          out =
              subst (λ kept. GoesOut (going_on r) (returned k f ∷ []) (sourced k (sent_at q)) kept answer s) (ap (λ c. keeps_then c r.books.kept) to ∙ out.1 ∙ kept)
              (out_half view (going_on r) s None (sourced 0 f) answer two lead f so (returned k f ∷ []) (ap (turned_entries k) back.log) (sourced k (sent_at q)) (ap (λ c. goes_out k c r.books.kept) to ∙ out.0) (ap is_leading to));
        }

    was_lost : WasLost others 0 f two.arrives others_then → MoveLost
    was_lost lost =
        let ends = lost_half view (going_on r) s None (sourced 0 f) answer two lead lost.answer_is [] (entry k f (outcome.Lost (turned k lost.party))) (ap (turned_entries k) lost.log) in
        record {
          own_party = lost.party;
          some = party_some r two.boxed two.g.device two.after lost.party;
          on_ring = party_on r two.boxed two.g.device two.after lost.party lost.on_ring;
          own_log = lost.log;
          met_some = lost.met_some;
          broke = subst (λ answer. Done view others (returned 0 f ∷ []) (arrives answer) others_then) lost.answer_is done;
          ends = subst (λ kept. StandsNot (going_on r) [] kept (entry k f (outcome.Lost (turned k lost.party)) ∷ []) two.own.crossings answer s) kept ends.0;
          same = ends.1;
        }

    pub plain_move : MovedOn q ⊎ MoveLost
    plain_move = ⊎_elim (λ back. inl (came_back back)) (λ lost. inr (was_lost lost)) (plain_sent view others others_then None f (sourced 0 f) two.arrives two.its_round refl free.ring plain)
