use Rattle.std.proofs.Common.{arith, ◌∙◌, refl}
use Rattle.il_control.proofs.Taking.{front_start, front_held, front_room, front_next, front_ends, front_broken, front_full}
use Rattle.il_control.proofs.receiving.take_on.Goals as goal

pub loop-slot-init : goal.loop-slot-init
loop-slot-init g c = (front_start g.M.Medium.view _ _, refl)

pub byte_on-requires : goal.byte_on-requires
byte_on-requires g c = record { held = front_held g.M.Medium.view _ _ _ _ _ _ c.requires.holding c.loop-slot.invariant.0 }

pub relay_on-requires-clause-room : goal.relay_on-requires-clause-room
relay_on-requires-clause-room g c = front_room g.M.Medium.view _ _ _ _ _ _ c.requires.holding c.loop-slot.invariant.0 32 (omega (arith, c.loop-slot.invariant.0.many)) (omega (arith, c.requires.room))

pub relay_on-requires-clause-held : goal.relay_on-requires-clause-held
relay_on-requires-clause-held g c = front_held g.M.Medium.view _ _ _ _ _ _ c.requires.holding c.loop-slot.invariant.0

pub returns-in-Ended-clause-fronts : goal.returns-in-Ended-clause-fronts
returns-in-Ended-clause-fronts g c = front_ends g.M.Medium.view _ _ _ _ _ _ _ _ c.loop-slot.invariant.0 (omega arith) c.byte_on.ensures c.in-Ended.ensures.went

pub returns-in-Broken-clause-fronts : goal.returns-in-Broken-clause-fronts
returns-in-Broken-clause-fronts g c = λ h. front_broken g.M.Medium.view _ _ _ _ _ _ h c.loop-slot.invariant.0 _ (omega (arith, c.loop-slot.invariant.0.many)) c.in-Broken.ensures.went

pub loop-slot-preserved : goal.loop-slot-preserved
loop-slot-preserved g c = (front_next g.M.Medium.view _ _ _ _ _ _ _ _ c.loop-slot.invariant.0 (omega arith) c.byte_on.ensures c.in-More.ensures.went, c.in-More.ensures.same_reference ∙ c.loop-slot.invariant.1)

pub returns-clause-fronts : goal.returns-clause-fronts
returns-clause-fronts g c = front_full g.M.Medium.view _ _ _ _ _ _ c.loop-slot.invariant.0 (omega arith)
