use Rattle.std.proofs.Common.{refl}
use Rattle.il_control.proofs.Asking.{asked_done, not_asked}
use Rattle.il_control.proofs.receiving.ask.Goals as goal

pub returns-then-command-clause-asked : goal.returns-then-command-clause-asked
returns-then-command-clause-asked g c = asked_done g.M.Medium.view _ _ _ _ _ _ _ c.requires.free.ring c.of.ensures.value c.if-command.ensures.done (c.if-command.ensures.obeyed refl) c.ask_one.ensures.done c.ask_one.ensures.calm

pub returns-else-command-clause-asked : goal.returns-else-command-clause-asked
returns-else-command-clause-asked g c = not_asked g.M.Medium.view _ _ _ _ _ _ c.of.ensures.value c.if-command.false c.if-command.ensures.done
