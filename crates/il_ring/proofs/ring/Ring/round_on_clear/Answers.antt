use Rattle.std.proofs.Common.{◌∙◌, None, Some, ap, false, refl, sym}
use Rattle.il_ring.specs.Journeys.{trip_of}
use Rattle.il_ring.specs.Lending.{leads}
use Rattle.il_ring.specs.Rings.{RingView, drive_party, with_held}
use Rattle.il_ring.specs.Seen.{parts_seen}
use Rattle.il_ring.proofs.ControlledWalks.{keeps_released, keeps_same, controlled_from_walks, controlled_round_at, passes_none}
use Rattle.il_ring.proofs.ring.Ring.round_on_clear.Goals as goal

pub returns : goal.returns
returns g c =
    let seen = ap (parts_seen (λ b. (goal.Device-dyn g (b.vtable, b.value)).state b.value)) c.deref_mut.ensures.value in
    let alone = ap (λ (r : RingView _). r.guest) seen ∙ c.requires.alone in
    let start = c.deref_mut.result.now.books in
    let one = c.walk_past_clear-on in
    let two = c.pass_drive_clear-on in
    let three = c.walk_past_clear-on-2 in
    let there = record three.new.books { held = None } in
    controlled_round_at g.M.Medium.view _ _ _ _ _ (ap (λ r. with_held r None) seen)
    (controlled_from_walks g.M.Medium.view _ _ _ _ _ _ _ _ _ _ (record start { held = None }) (record one.new.books { held = None }) (record two.new.books { held = None }) there
    c.args.flight (Some one.result) (Some two.result) (Some three.result)
    (keeps_released one.ensures.books) (keeps_released two.ensures.books) (keeps_released three.ensures.books) (c.party-party.ensures.party ∙ sym (ap (λ (r : RingView _). drive_party r) seen))
    one.ensures.journey two.ensures.passage three.ensures.journey
    c.deref_mut.result.now.boxes.last c.deref_mut.result.now.boxes.last _ there (Some three.result) (keeps_same there)
    (passes_none there.plan _ (trip_of there (Some three.result)) there.kept c.deref_mut.result.now.boxes.last alone)
    (record c.come_clear.new.self { held = c.come_clear.result }) _ false refl (sym (ap leads alone)) c.come_clear.ensures.books c.come_clear.ensures.answer)
