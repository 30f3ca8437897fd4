use Rattle.std.proofs.Common.{refl}
use Rattle.il_control.proofs.Asking.{talk_calm}
use Rattle.il_control.proofs.Calls.{told_then, told_not}
use Rattle.il_control.proofs.receiving.ask_one.Goals as goal

pub returns-then-command-clause-done : goal.returns-then-command-clause-done
returns-then-command-clause-done g c = told_then g.M.Medium.view _ _ _ _ _ _ _ c.requires.free.ring c.of.ensures.value c.if-command.ensures.done c.command_of.ensures.done

pub returns-then-command-clause-calm : goal.returns-then-command-clause-calm
returns-then-command-clause-calm g c = talk_calm g.M.Medium.view _ _ _ _ _ _ _ c.if-command.ensures.done c.command_of.ensures.done c.of.ensures.value c.requires.address (c.if-command.ensures.obeyed refl) c.command_of.ensures.calm

pub returns-else-command-clause-done : goal.returns-else-command-clause-done
returns-else-command-clause-done g c = told_not g.M.Medium.view _ _ _ _ _ _ c.of.ensures.value c.if-command.false c.if-command.ensures.done
