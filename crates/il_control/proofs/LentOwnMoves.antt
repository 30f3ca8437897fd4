-- A command of a second controller, or its handshake, goes round from the place of its rounds: it comes back as it was, or is lost.
use Rattle.std.proofs.Common.{◌≡◌, ◌∙◌, ◌⊎◌, ℕ, List, Option, None, refl, ap, subst}
use Rattle.il_frames.specs.declared.entry.Entry.{Entry}
use Rattle.il_frames.specs.NamedFrames.{is_ifc, rfc}
use Rattle.il_device.specs.Passing.{is_plain}
use Rattle.il_ports.specs.Media.{MediumView}
use Rattle.il_guest.specs.declared.control.Command.{Command}
use Rattle.il_guest.specs.declared.control.Command.TheVariants as command
use Rattle.il_guest.specs.declared.control.Control.TheVariants as control
use Rattle.il_guest.specs.declared.control.Place.TheVariants as place
use Rattle.il_guest.specs.Steps.{IsRoundPlace, command_frame, command_then, control_after, expecting}
use Rattle.il_guest.proofs.RoundLaws.{is_same-refl}
use Rattle.il_guest.proofs.SentLemmas.{message_of-command}
use Rattle.il_ring.specs.declared.plan.Arrival.{Arrival}
use Rattle.il_ring.specs.Flights.{sourced}
use Rattle.il_ring.specs.Lending.{IsControlled}
use Rattle.il_ring.specs.Rings.{RingView}
use Rattle.il_ring.proofs.ControlledSteps.{IsOwn}
use Rattle.il_control.proofs.LentCommands.{command_other, said_other}
use Rattle.il_control.proofs.LentMoves.{MoveLost, MovedOn, plain_move}
use Rattle.il_control.proofs.LentPlaces.{command_plain}
use Rattle.il_control.proofs.LentRounds.{Passed, own_so}
use Rattle.il_control.proofs.LentWalks.{Polling, StandsSo, Stays}

then_own : (own : Option ℕ) (last : ℕ) (c : Command) → IsOwn (command_then own last c)
then_own own last command.Nop = tt
then_own own last (command.Unl a) = tt
then_own own last (command.Tad a) = tt
then_own own last (command.Unt a) = tt

module _ {M : Type 0} (view : M → MediumView) (k last : ℕ) (own : Option ℕ) (base : List Entry) (r s : RingView M) (arrived : ℕ) (answer : Arrival) (old : Polling view k last own base r arrived) (passed : Passed view r answer s) (controlled : IsControlled s) where
  pub command_moved : (c : Command) → old.place ≡ place.Command c
      → (so : Stays view k last own base r s arrived old answer None (sourced 0 (command_frame c))) × (MovedOn view r s (command_frame c) answer so.two (place.Ready c) ⊎ MoveLost view r s (command_frame c) answer so.two)
  command_moved c at =
      let stands = subst (λ p. StandsSo view k last own base p r old.boxed old.entries) at old.stands in
      let f = command_frame c in
      let so = own_so view k last own base r s arrived answer old passed controlled None f stands.2.lent_is in
      let says = message_of-command c (subst IsRoundPlace at old.range) in
      let to : control_after so.two.g.device.roles.address so.two.g.last old.place f ≡ control.Rounds (place.Ready c) =
      ap (λ p. control_after so.two.g.device.roles.address so.two.g.last p f) at ∙ ap (λ right. expecting right (place.Ready c)) (is_same-refl f) in
      (so, plain_move view r s f answer so.two old.controlled stands.2.kept_is old.place (place.Ready c) so.control_is tt (ap is_plain says ∙ command_plain c) (command_other view k last own base c) (ap is_ifc says ∙ said_other view k last own base c) to)

  pub ready_moved : (c : Command) → old.place ≡ place.Ready c
      → (so : Stays view k last own base r s arrived old answer None (sourced 0 rfc)) × (MovedOn view r s rfc answer so.two (command_then so.two.g.device.roles.address so.two.g.last c) ⊎ MoveLost view r s rfc answer so.two)
  ready_moved c at =
      let stands = subst (λ p. StandsSo view k last own base p r old.boxed old.entries) at old.stands in
      let so = own_so view k last own base r s arrived answer old passed controlled None rfc stands.2.lent_is in
      let q = command_then so.two.g.device.roles.address so.two.g.last c in
      let to : control_after so.two.g.device.roles.address so.two.g.last old.place rfc ≡ control.Rounds q = ap (λ p. control_after so.two.g.device.roles.address so.two.g.last p rfc) at in
      (so, plain_move view r s rfc answer so.two old.controlled stands.2.kept_is old.place q so.control_is (then_own so.two.g.device.roles.address so.two.g.last c) refl refl refl to)
