use Rattle.std.proofs.Common.{arith, refl}
use Rattle.il_control.proofs.LentPasses.{poll_breaks, poll_ends, poll_lent, poll_next, poll_room}
use Rattle.il_control.proofs.lending.poll.Goals as goal

pub pass-requires-clause-lent : goal.pass-requires-clause-lent
pass-requires-clause-lent g c = poll_lent g.M.Medium.view _ _ c.requires.lent _ c.args.limit c.loop.invariant

pub pass-requires-clause-room : goal.pass-requires-clause-room
pass-requires-clause-room g c = poll_room g.M.Medium.view _ _ c.requires.lent _ c.args.limit c.loop.invariant (omega (arith, c.loop-test.true)) c.requires.room

pub returns-in-Lost : goal.returns-in-Lost
returns-in-Lost g c = poll_breaks g.M.Medium.view _ _ c.requires.lent _ c.args.limit c.loop.invariant _ _ c.in-Lost.ensures.controlled c.in-Lost.ensures.round c.in-Lost.ensures.halves c.in-Lost.ensures.counts c.loop-test.true refl

pub loop-preserved : goal.loop-preserved
loop-preserved g c = poll_next g.M.Medium.view _ _ c.requires.lent _ c.args.limit c.loop.invariant _ _ c.in-Frame.ensures.controlled c.in-Frame.ensures.round c.in-Frame.ensures.halves c.in-Frame.ensures.counts _ refl

pub returns : goal.returns
returns g c = poll_ends g.M.Medium.view _ _ c.requires.lent _ c.args.limit c.loop.invariant (c.loop.auto.counter-end c.requires.some) c.loop-test.false
