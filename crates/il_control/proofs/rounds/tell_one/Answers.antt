use Rattle.il_control.proofs.Calls.{told_then, told_not}
use Rattle.il_control.proofs.Places.{broke_stay, lad_asks, stay_then_more, whole_stay}
use Rattle.il_control.proofs.rounds.tell_one.Goals as goal

pub returns-then-command-clause-done : goal.returns-then-command-clause-done
returns-then-command-clause-done g c = told_then g.M.Medium.view _ _ _ _ _ _ _ c.requires.free.ring c.of.ensures.value c.if-command.ensures.done c.command_of.ensures.done

pub returns-then-command-clause-stays : goal.returns-then-command-clause-stays
returns-then-command-clause-stays g c =
    let asks = lad_asks _ c.requires.address in
    stay_then_more g.M.Medium.view _ _ _ _ _ _ _ c.if-command.ensures.done c.command_of.ensures.done (whole_stay g.M.Medium.view _ _ _ _ _ c.if-command.ensures.done c.of.ensures.value asks.0 asks.1 c.if-command.ensures.part) c.command_of.ensures.stays

pub returns-else-command-clause-done : goal.returns-else-command-clause-done
returns-else-command-clause-done g c = told_not g.M.Medium.view _ _ _ _ _ _ c.of.ensures.value c.if-command.false c.if-command.ensures.done

pub returns-else-command-clause-stays : goal.returns-else-command-clause-stays
returns-else-command-clause-stays g c = let asks = lad_asks _ c.requires.address in broke_stay g.M.Medium.view _ _ _ _ _ c.if-command.ensures.done c.of.ensures.value asks.0 asks.1 c.if-command.ensures.part
