use Rattle.std.proofs.Common.{refl}
use Rattle.il_control.proofs.LendCalls.{back_free, back_room, hands_broke, nobody_broke, nobody_made, not_asked, taken_broke, taken_lent, taken_made, taken_not, taken_room, untalk_free, untalk_room}
use Rattle.il_control.proofs.lending.lend.Goals as goal

pub returns-then-not-ask-clause-broken : goal.returns-then-not-ask-clause-broken
returns-then-not-ask-clause-broken g c = not_asked g.M.Medium.view _ c.args.limit _ c.requires.idle c.requires.address.0 c.requires.address.1 _ c.if-not-ask.ensures.asked

pub command-requires-clause-room : goal.command-requires-clause-room
command-requires-clause-room g c = untalk_room g.M.Medium.view _ c.args.limit _ c.requires.idle c.requires.address.0 c.requires.address.1 _ c.if-not-ask.ensures.asked _ c.in-NotTaken.ensures c.requires.room

pub command-requires-clause-free : goal.command-requires-clause-free
command-requires-clause-free g c = untalk_free g.M.Medium.view _ c.args.limit _ c.requires.idle c.requires.address.0 c.requires.address.1 _ c.if-not-ask.ensures.asked _ c.in-NotTaken.ensures

pub poll-requires-clause-room : goal.poll-requires-clause-room
poll-requires-clause-room g c = taken_room g.M.Medium.view _ c.args.limit _ c.requires.idle c.requires.address.0 c.requires.address.1 _ c.if-not-ask.ensures.asked _ c.in-Taken.ensures c.requires.limit.0 c.requires.room

pub poll-requires-clause-lent : goal.poll-requires-clause-lent
poll-requires-clause-lent g c = taken_lent g.M.Medium.view _ c.args.limit _ c.requires.idle c.requires.address.0 c.requires.address.1 _ c.if-not-ask.ensures.asked _ c.in-Taken.ensures c.requires.limit.0

pub clear_interface-requires-clause-room : goal.clear_interface-requires-clause-room
clear_interface-requires-clause-room g c = back_room g.M.Medium.view _ c.args.limit _ c.requires.idle c.requires.address.0 c.requires.address.1 _ c.if-not-ask.ensures.asked _ c.in-Taken.ensures c.requires.limit.0 _ c.if-not-poll.ensures c.requires.room

pub clear_interface-requires-clause-free : goal.clear_interface-requires-clause-free
clear_interface-requires-clause-free g c = back_free g.M.Medium.view _ c.args.limit _ c.requires.idle c.requires.address.0 c.requires.address.1 _ c.if-not-ask.ensures.asked _ c.in-Taken.ensures c.requires.limit.0 _ c.if-not-poll.ensures

pub returns-in-Broken-clause-broken : goal.returns-in-Broken-clause-broken
returns-in-Broken-clause-broken g c = hands_broke g.M.Medium.view _ c.args.limit _ c.requires.idle c.requires.address.0 c.requires.address.1 _ c.if-not-ask.ensures.asked _ c.requires.limit.0 c.in-Broken.ensures

pub returns-then-command-clause-made : goal.returns-then-command-clause-made
returns-then-command-clause-made g c = nobody_made g.M.Medium.view _ c.args.limit _ c.requires.idle c.requires.address.0 c.requires.address.1 _ c.if-not-ask.ensures.asked _ c.in-NotTaken.ensures _ c.of.ensures.value _ c.if-command.ensures.done c.if-command.ensures.host

pub returns-else-command-clause-broken : goal.returns-else-command-clause-broken
returns-else-command-clause-broken g c = nobody_broke g.M.Medium.view _ c.args.limit _ c.requires.idle c.requires.address.0 c.requires.address.1 _ c.if-not-ask.ensures.asked _ c.in-NotTaken.ensures _ c.of.ensures.value _ c.if-command.ensures.done

pub returns-then-clear_interface-clause-made : goal.returns-then-clear_interface-clause-made
returns-then-clear_interface-clause-made g c = taken_made g.M.Medium.view _ c.args.limit _ c.requires.idle c.requires.address.0 c.requires.address.1 _ c.if-not-ask.ensures.asked _ c.in-Taken.ensures c.requires.limit.0 _ c.if-not-poll.ensures _ c.if-clear_interface.ensures.done (c.if-clear_interface.ensures.host refl)

pub returns-else-clear_interface-clause-broken : goal.returns-else-clear_interface-clause-broken
returns-else-clear_interface-clause-broken g c = taken_not g.M.Medium.view _ c.args.limit _ c.requires.idle c.requires.address.0 c.requires.address.1 _ c.if-not-ask.ensures.asked _ c.in-Taken.ensures c.requires.limit.0 _ c.if-not-poll.ensures _ c.if-clear_interface.ensures.done c.if-clear_interface.ensures.ready

pub returns-then-not-poll-clause-broken : goal.returns-then-not-poll-clause-broken
returns-then-not-poll-clause-broken g c = taken_broke g.M.Medium.view _ c.args.limit _ c.requires.idle c.requires.address.0 c.requires.address.1 _ c.if-not-ask.ensures.asked _ c.in-Taken.ensures c.requires.limit.0 _ c.if-not-poll.ensures
