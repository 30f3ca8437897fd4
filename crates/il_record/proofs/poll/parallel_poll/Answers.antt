use Rattle.std.proofs.Common.{arith}
use Rattle.il_record.proofs.Collecting.{assigned_none, assigned_more, broke_collecting, broke_placing, polled}
use Rattle.il_record.proofs.Readings.{idle_silent}
use Rattle.il_record.proofs.Sends.{if_err, ok_as, err_as}
use Rattle.il_record.proofs.poll.parallel_poll.Goals as goal

pub loop-place-init : goal.loop-place-init
loop-place-init g c = assigned_none g.M.Medium.view _ c.requires.idle (idle_silent _ c.requires.idle)

pub returns-in_err-assign-clause-broken : goal.returns-in_err-assign-clause-broken
returns-in_err-assign-clause-broken g c = if_err _ _ _ c.from_residual.ensures (broke_placing g.M.Medium.view _ c.requires.idle c.loop-place.place c.devices-count.result _ _ (omega (arith, c.loop-place-test.true, c.min-place-end.ensures)) c.devices-count.ensures.count c.loop-place.invariant c.in_err-assign.ensures.broken)

pub loop-place-preserved : goal.loop-place-preserved
loop-place-preserved g c = assigned_more g.M.Medium.view _ c.requires.idle _ _ _ (omega (arith, c.loop-place-test.true, c.min-place-end.ensures)) c.loop-place.invariant c.in_ok-assign.ensures.assigned

pub returns-clause-polled : goal.returns-clause-polled
returns-clause-polled g c =
    ok_as _ _ _
    (λ told got. polled g.M.Medium.view _ c.requires.idle _ _ _ _ _ (omega (arith, c.loop-place-test.false, c.loop-place.auto.place-end, c.min-place-end.ensures)) c.devices-count.ensures.count c.requires.places c.loop-place.invariant got)
    c.collect.ensures.collected

pub returns-clause-broken : goal.returns-clause-broken
returns-clause-broken g c = err_as _ _ _ (λ lost broke. broke_collecting g.M.Medium.view _ c.requires.idle c.loop-place.place c.devices-count.result _ _ (omega (arith, c.loop-place-test.false, c.loop-place.auto.place-end, c.min-place-end.ensures)) c.devices-count.ensures.count c.requires.places c.loop-place.invariant broke) c.collect.ensures.broken
