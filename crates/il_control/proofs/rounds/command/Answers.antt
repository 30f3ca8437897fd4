use Rattle.std.proofs.Common.{refl}
use Rattle.il_control.proofs.Asking.{obeyed_then_rfc, part_then_rfc}
use Rattle.il_control.proofs.Calls.{command_done, command_not}
use Rattle.il_control.proofs.rounds.command.Goals as goal

pub returns-then-pass_round-clause-done : goal.returns-then-pass_round-clause-done
returns-then-pass_round-clause-done g c = command_done g.M.Medium.view _ _ _ _ _ _ c.requires.free.ring c.of.ensures.value c.if-pass_round.ensures.done c.pass_round-then-pass_round.ensures.done

pub returns-then-pass_round-clause-obeyed : goal.returns-then-pass_round-clause-obeyed
returns-then-pass_round-clause-obeyed g c = λ done. obeyed_then_rfc g.M.Medium.view _ _ _ _ _ _ _ c.if-pass_round.ensures.done c.pass_round-then-pass_round.ensures.done c.of.ensures.value (c.if-pass_round.ensures.obeyed refl) (c.pass_round-then-pass_round.ensures.obeyed done)

pub returns-else-pass_round-clause-done : goal.returns-else-pass_round-clause-done
returns-else-pass_round-clause-done g c = command_not g.M.Medium.view _ _ _ _ c.if-pass_round.false c.if-pass_round.ensures.done

pub returns-then-pass_round-clause-part : goal.returns-then-pass_round-clause-part
returns-then-pass_round-clause-part g c = part_then_rfc g.M.Medium.view _ _ _ _ _ _ _ c.if-pass_round.ensures.done c.pass_round-then-pass_round.ensures.done c.of.ensures.value (c.if-pass_round.ensures.obeyed refl) c.pass_round-then-pass_round.ensures.part
