use Rattle.std.proofs.Common.{refl}
use Rattle.il_frames.specs.NamedFrames.{unl}
use Rattle.il_control.proofs.Places.{broke_stay, stay_then_more, whole_stay}
use Rattle.il_control.proofs.Telling.{tell_done, tell_not}
use Rattle.il_control.proofs.rounds.tell.Goals as goal

pub returns-then-command-clause-done : goal.returns-then-command-clause-done
returns-then-command-clause-done g c = tell_done g.M.Medium.view _ _ _ _ _ _ _ c.requires.free.ring c.of.ensures.value c.if-command.ensures.done c.tell_one.ensures.done

pub returns-then-command-clause-stays : goal.returns-then-command-clause-stays
returns-then-command-clause-stays g c =
    stay_then_more g.M.Medium.view _ _ _ _ _ _ _ c.if-command.ensures.done c.tell_one.ensures.done (whole_stay g.M.Medium.view _ _ _ _ unl c.if-command.ensures.done c.of.ensures.value refl refl c.if-command.ensures.part) c.tell_one.ensures.stays

pub returns-else-command-clause-done : goal.returns-else-command-clause-done
returns-else-command-clause-done g c = tell_not g.M.Medium.view _ _ _ _ _ _ c.of.ensures.value c.if-command.false c.if-command.ensures.done

pub returns-else-command-clause-stays : goal.returns-else-command-clause-stays
returns-else-command-clause-stays g c = broke_stay g.M.Medium.view _ _ _ _ unl c.if-command.ensures.done c.of.ensures.value refl refl c.if-command.ensures.part
