use Rattle.std.proofs.Common.{◌∙◌, Some, length, arith, sym, subst}
use Rattle.il_ring.specs.Books.{IsClear}
use Rattle.il_ring.specs.Journeys.{trip_of}
use Rattle.il_ring.proofs.Journeys.{Journey-more, rest_more}
use Rattle.il_ring.proofs.Passed.{clear_on}
use Rattle.il_ring.proofs.walk.walk_clear.Goals as goal

pub pass_clear-on-requires-clause-clear : goal.pass_clear-on-requires-clause-clear
pass_clear-on-requires-clause-clear g c =
    let inv = c.loop-device.invariant in
    subst (λ plan. IsClear plan c.loop-device.books.crossings 1) (sym inv.2.plan)
    (clear_on c.args.books.now.plan c.args.books.now.crossings c.loop-device.books.crossings (length c.args.devices.now) 1 (omega (arith, inv.4)) (omega (arith, inv.4)) c.requires.clear)

pub loop-device-preserved : goal.loop-device-preserved
loop-device-preserved g c =
    let inv = c.loop-device.invariant in
    let kept = c.pass_clear-on.ensures.books in (
      Journey-more g.D.Device.state c.args.books.now.plan c.loop-device.books.plan c.args.first c.loop-device.party c.loop-device.device-index _ (trip_of c.loop-device.books (Some c.loop-device.on)) (trip_of c.pass_clear-on.new.books (Some c.pass_clear-on.result))
          c.args.devices.now c.loop-device.devices c.device-item.result c.pass_clear-on.new.device inv.2.plan (omega arith) (omega arith) (omega arith) inv.1 inv.0 c.pass_clear-on.ensures.passage,
      rest_more c.loop-device.device-index c.args.devices.now c.loop-device.devices c.pass_clear-on.new.device inv.1,
      record { plan = kept.plan ∙ inv.2.plan; room = kept.room ∙ inv.2.room; held = kept.held ∙ inv.2.held; lent = kept.lent ∙ inv.2.lent; kept = kept.kept ∙ inv.2.kept; begun = kept.begun ∙ inv.2.begun; grows = omega (arith, kept.grows, inv.2.grows) },
      omega arith,
      omega (arith, c.pass_clear-on.ensures.counted, inv.4),
    )
