use Rattle.il_control.proofs.Received.{passed_answered, lost_answered, bytes_answered}
use Rattle.il_control.proofs.receiving.answer.Goals as goal

pub returns-in-NotTaken : goal.returns-in-NotTaken
returns-in-NotTaken g c = passed_answered g.M.Medium.view _ _ _ _ c.requires.some c.in-NotTaken.ensures

pub returns-in-Broken : goal.returns-in-Broken
returns-in-Broken g c = lost_answered g.M.Medium.view _ _ _ _ c.requires.some c.in-Broken.ensures

pub returns-in-Taken : goal.returns-in-Taken
returns-in-Taken g c = bytes_answered g.M.Medium.view _ _ _ _ _ _ _ c.requires.free.ring c.in-Taken.ensures c.take_bytes.ensures
