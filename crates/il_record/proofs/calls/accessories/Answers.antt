use Rattle.std.proofs.Common.{◌*◌, length, arith}
use Rattle.il_ring.specs.Rings.{devices_of}
use Rattle.il_ring.specs.Seen.{ring_seen}
use Rattle.il_record.proofs.Naming.{named_none, named_more, named_part}
use Rattle.il_record.proofs.Readings.{idle_silent}
use Rattle.il_record.proofs.Sends.{if_err}
use Rattle.il_record.proofs.Used.{used_on}
use Rattle.il_record.proofs.calls.accessories.Goals as goal

pub loop-place-init : goal.loop-place-init
loop-place-init g c = named_none g.M.Medium.view _ c.requires.idle (idle_silent _ c.requires.idle) _ c.clear.ensures

pub returns-in_err-accessory-clause-broken : goal.returns-in_err-accessory-clause-broken
returns-in_err-accessory-clause-broken g c = if_err _ _ _ c.from_residual.ensures (named_part g.M.Medium.view _ c.requires.idle c.loop-place.place (length (devices_of (ring_seen (λ b. (goal.Device-dyn g (b.vtable, b.value)).state b.value) c.args.ring.now))) _ _ _ (omega (arith, c.loop-place-test.true, c.devices-count.ensures.count)) c.loop-place.invariant c.in_err-accessory.ensures.broken)

pub returns-in_err-accessory-clause-used : goal.returns-in_err-accessory-clause-used
returns-in_err-accessory-clause-used g c =
    let within = c.loop-place-test.true in
    let few = c.devices-count.ensures.range.1 in
    used_on _ _ _ (13 * c.loop-place.place) 14 _ c.loop-place.invariant.room c.in_err-accessory.ensures.used (omega (arith, within, few))

pub loop-place-preserved : goal.loop-place-preserved
loop-place-preserved g c = named_more g.M.Medium.view _ c.requires.idle _ _ _ _ _ _ (omega (arith, c.devices-count.ensures.count, c.loop-place-test.true)) c.push.ensures.items c.loop-place.invariant c.in_ok-accessory.ensures.named
