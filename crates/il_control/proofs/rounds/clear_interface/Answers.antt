use Rattle.std.proofs.Common.{arith, refl}
use Rattle.il_frames.specs.NamedFrames.{ifc}
use Rattle.il_ring.specs.Seen.{ring_seen}
use Rattle.il_control.proofs.Asking.{obeyed_then_rfc, part_then_rfc}
use Rattle.il_control.proofs.Calls.{command_done, command_not}
use Rattle.il_control.proofs.LendFronts.{ifc_short}
use Rattle.il_control.proofs.TakingControl.{about_spare}
use Rattle.il_control.proofs.rounds.clear_interface.Goals as goal

pub take_control-requires-clause-room : goal.take_control-requires-clause-room
take_control-requires-clause-room g c = about_spare (ring_seen (λ b. (goal.Device-dyn g (b.vtable, b.value)).state b.value) c.args.ring.now) 32 (omega (arith, c.requires.room))

pub returns-then-take_control-clause-done : goal.returns-then-take_control-clause-done
returns-then-take_control-clause-done g c = command_done g.M.Medium.view _ _ _ ifc _ _ c.requires.free.ring c.of.ensures.value c.if-take_control.ensures.done c.pass_round.ensures.done

pub returns-then-take_control-clause-obeyed : goal.returns-then-take_control-clause-obeyed
returns-then-take_control-clause-obeyed g c = λ done. obeyed_then_rfc g.M.Medium.view _ _ _ _ _ _ _ c.if-take_control.ensures.done c.pass_round.ensures.done c.of.ensures.value (c.if-take_control.ensures.obeyed refl) (c.pass_round.ensures.obeyed done)

pub returns-then-take_control-clause-part : goal.returns-then-take_control-clause-part
returns-then-take_control-clause-part g c = part_then_rfc g.M.Medium.view _ _ _ _ _ _ _ c.if-take_control.ensures.done c.pass_round.ensures.done c.of.ensures.value (c.if-take_control.ensures.obeyed refl) c.pass_round.ensures.part

pub returns-else-take_control-clause-done : goal.returns-else-take_control-clause-done
returns-else-take_control-clause-done g c = command_not g.M.Medium.view _ _ ifc _ c.if-take_control.false c.if-take_control.ensures.done

pub returns-then-take_control-clause-ready : goal.returns-then-take_control-clause-ready
returns-then-take_control-clause-ready g c = λ long. c.pass_round.ensures.host

pub returns-else-take_control-clause-ready : goal.returns-else-take_control-clause-ready
returns-else-take_control-clause-ready g c = λ long. absurd (ifc_short g.M.Medium.view _ _ c.if-take_control.ensures.done long)
