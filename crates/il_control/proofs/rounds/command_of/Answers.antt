use Rattle.il_frames.specs.NamedFrames.{ddl}
use Rattle.il_control.proofs.Places.{no_number_stay, number_stay}
use Rattle.il_control.proofs.Telling.{no_number}
use Rattle.il_control.proofs.rounds.command_of.Goals as goal

pub returns-in-None-clause-done : goal.returns-in-None-clause-done
returns-in-None-clause-done g c = no_number g.M.Medium.view _ ddl _ c.in-None.is c.requires.free

pub returns-in-None-clause-stays : goal.returns-in-None-clause-stays
returns-in-None-clause-stays g c = no_number_stay g.M.Medium.view _ _ c.requires.free

pub returns-in-Some-clause-stays : goal.returns-in-Some-clause-stays
returns-in-Some-clause-stays g c = number_stay g.M.Medium.view _ _ _ _ _ _ c.command.ensures.done c.of.ensures.value c.in-Some.is c.requires.number c.command.ensures.part
