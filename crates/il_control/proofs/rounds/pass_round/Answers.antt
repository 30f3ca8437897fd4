use Rattle.std.proofs.Common.{◌∙◌, subst, sym}
use Rattle.il_ring.specs.Guests.{IsUnderHost}
use Rattle.il_control.proofs.Asking.{plain_obeyed, plain_part}
use Rattle.il_control.proofs.Calls.{done_as, plain_call}
use Rattle.il_control.proofs.rounds.pass_round.Goals as goal

pub returns-clause-done : goal.returns-clause-done
returns-clause-done g c = done_as g.M.Medium.view _ _ _ _ _ c.came_back.ensures (plain_call g.M.Medium.view _ _ _ _ _ (c.send.ensures.round (record { host = c.requires.host; hands = c.requires.hands })) c.requires.free.held c.requires.free c.requires.plain)

pub returns-clause-obeyed : goal.returns-clause-obeyed
returns-clause-obeyed g c = λ done. plain_obeyed g.M.Medium.view _ _ _ _ _ (c.send.ensures.round (record { host = c.requires.host; hands = c.requires.hands })) c.requires.free c.requires.plain (sym c.came_back.ensures ∙ done)

pub returns-clause-part : goal.returns-clause-part
returns-clause-part g c = plain_part g.M.Medium.view _ _ _ _ _ (c.send.ensures.round (record { host = c.requires.host; hands = c.requires.hands })) c.requires.free c.requires.plain

pub returns-clause-host : goal.returns-clause-host
returns-clause-host g c = subst IsUnderHost (sym (c.send.ensures.round (record { host = c.requires.host; hands = c.requires.hands })).guest) c.requires.host
