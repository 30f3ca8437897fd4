use Rattle.il_frames.specs.NamedFrames.{ddt}
use Rattle.il_control.proofs.Asking.{number_calm}
use Rattle.il_control.proofs.Telling.{no_number}
use Rattle.il_control.proofs.receiving.command_of.Goals as goal

pub returns-in-None-clause-done : goal.returns-in-None-clause-done
returns-in-None-clause-done g c = no_number g.M.Medium.view _ ddt _ c.in-None.is c.requires.free

pub returns-in-Some-clause-calm : goal.returns-in-Some-clause-calm
returns-in-Some-clause-calm g c = number_calm g.M.Medium.view _ _ _ _ _ _ c.command.ensures.done c.of.ensures.value c.in-Some.is c.requires.number c.command.ensures.obeyed
