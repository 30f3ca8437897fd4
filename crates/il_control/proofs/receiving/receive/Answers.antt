use Rattle.std.proofs.Common.{arith}
use Rattle.il_control.proofs.Received.{not_asked, not_answered, not_ended, received_all, asked_room, answered_room}
use Rattle.il_control.proofs.Talking.{one_asked_talks}
use Rattle.il_control.proofs.Telling.{number_fits}
use Rattle.il_control.proofs.receiving.receive.Goals as goal

pub returns-then-not-ask-clause-not_received : goal.returns-then-not-ask-clause-not_received
returns-then-not-ask-clause-not_received g c = not_asked g.M.Medium.view _ _ _ _ c.requires.idle c.requires.address.0 c.requires.address.1 c.requires.number _ _ c.if-not-ask.ensures.asked

pub answer-requires-clause-room : goal.answer-requires-clause-room
answer-requires-clause-room g c = asked_room g.M.Medium.view _ _ _ _ _ c.if-not-ask.ensures.asked (omega (arith, c.requires.room))

pub answer-requires-clause-one : goal.answer-requires-clause-one
answer-requires-clause-one g c = one_asked_talks g.M.Medium.view _ _ _ _ c.requires.idle c.requires.address.1 (number_fits _ c.requires.number) c.if-not-ask.ensures.asked

pub returns-in_default-clause-not_received : goal.returns-in_default-clause-not_received
returns-in_default-clause-not_received g c = not_answered g.M.Medium.view _ _ _ _ c.requires.idle c.requires.address.0 c.requires.address.1 c.requires.number _ c.if-not-ask.ensures.asked _ _ c.in_default.ensures

pub command-requires-clause-room : goal.command-requires-clause-room
command-requires-clause-room g c = answered_room g.M.Medium.view _ _ _ _ 33 _ _ c.in-Some.ensures (asked_room g.M.Medium.view _ _ _ _ _ c.if-not-ask.ensures.asked (omega (arith, c.requires.room)))

pub returns-then-command-clause-received : goal.returns-then-command-clause-received
returns-then-command-clause-received g c = received_all g.M.Medium.view _ _ _ _ c.requires.idle c.requires.address.0 c.requires.address.1 c.requires.number _ c.if-not-ask.ensures.asked _ _ _ _ c.in-Some.ensures _ _ c.of.ensures.value c.if-command.ensures.done

pub returns-else-command-clause-not_received : goal.returns-else-command-clause-not_received
returns-else-command-clause-not_received g c = not_ended g.M.Medium.view _ _ _ _ c.requires.idle c.requires.address.0 c.requires.address.1 c.requires.number _ c.if-not-ask.ensures.asked _ _ _ _ c.in-Some.ensures _ _ c.of.ensures.value c.if-command.ensures.done
