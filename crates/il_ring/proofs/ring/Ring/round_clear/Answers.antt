use Rattle.std.proofs.Common.{◌≡◌, ◌≤◌, ◌+◌, ◌⊎◌, ◌∙◌, Some, ap, arith, length, refl, subst, sym, false}
use Rattle.std.specs.Prelude.{◌-◌}
use Rattle.il_frames.specs.NamedFrames.{ifc}
use Rattle.il_ring.specs.Flights.{sourced}
use Rattle.il_ring.specs.Journeys.{trip_of}
use Rattle.il_ring.specs.Lending.{leads}
use Rattle.il_ring.specs.Rings.{RingView, drive_party}
use Rattle.il_ring.specs.Seen.{parts_seen}
use Rattle.il_ring.proofs.ControlledWalks.{ifc_comes_grows, keeps_same, controlled_from_walks, controlled_round_at, left_home, passes_none}
use Rattle.il_ring.proofs.ring.Ring.round_clear.Goals as goal

pub home_clear-requires-clause-room : goal.home_clear-requires-clause-room
home_clear-requires-clause-room g c =
    let few = c.deref_mut.result.now.boxes.few in
    let seen = ap (parts_seen (λ b. (goal.Device-dyn g (b.vtable, b.value)).state b.value)) c.deref_mut.ensures.value in
    let first = c.walk_past_clear-on.ensures.books in
    let middle = c.pass_drive_clear-on.ensures.books in
    let more = c.walk_past_clear-on-2.ensures.books in
    let left = subst (λ parts. (32 ≤ parts.books.room - length parts.books.log) ⊎ ((30 ≤ parts.books.room - length parts.books.log) × (c.args.flight ≡ sourced 0 ifc))) (sym c.deref_mut.ensures.value) c.requires.room in
    let home = left_home (length c.deref_mut.result.now.books.log) c.deref_mut.result.now.books.room (length c.walk_past_clear-on-2.new.books.log) (length c.deref_mut.result.now.boxes.before.items + 1 + length c.deref_mut.result.now.boxes.after.items) (c.args.flight ≡ sourced 0 ifc) left
    (omega (arith, first.grows, middle.grows, more.grows)) (omega (arith, few))
    (ifc_comes_grows g.M.Medium.view _ _ _ _ _ _ _ _ _ _ c.deref_mut.result.now.books c.walk_past_clear-on.new.books c.pass_drive_clear-on.new.books c.walk_past_clear-on-2.new.books c.args.flight (Some c.walk_past_clear-on.result) (Some c.pass_drive_clear-on.result) (Some c.walk_past_clear-on-2.result)
    first middle more (c.party-party.ensures.party ∙ sym (ap (λ (r : RingView _). drive_party r) seen)) c.walk_past_clear-on.ensures.journey c.pass_drive_clear-on.ensures.passage c.walk_past_clear-on-2.ensures.journey) in
    omega (arith, home, first.room, middle.room, more.room)

pub returns : goal.returns
returns g c =
    let seen = ap (parts_seen (λ b. (goal.Device-dyn g (b.vtable, b.value)).state b.value)) c.deref_mut.ensures.value in
    let alone = ap (λ (r : RingView _). r.guest) seen ∙ c.requires.alone in
    let there = c.walk_past_clear-on-2.new.books in
    controlled_round_at g.M.Medium.view _ _ _ _ _ seen
    (controlled_from_walks g.M.Medium.view _ _ _ _ _ _ _ _ _ _ c.deref_mut.result.now.books c.walk_past_clear-on.new.books c.pass_drive_clear-on.new.books there c.args.flight (Some c.walk_past_clear-on.result) (Some c.pass_drive_clear-on.result) (Some c.walk_past_clear-on-2.result)
    c.walk_past_clear-on.ensures.books c.pass_drive_clear-on.ensures.books c.walk_past_clear-on-2.ensures.books (c.party-party.ensures.party ∙ sym (ap (λ (r : RingView _). drive_party r) seen))
    c.walk_past_clear-on.ensures.journey c.pass_drive_clear-on.ensures.passage c.walk_past_clear-on-2.ensures.journey
    c.deref_mut.result.now.boxes.last c.deref_mut.result.now.boxes.last _ there (Some c.walk_past_clear-on-2.result) (keeps_same there)
    (passes_none there.plan _ (trip_of there (Some c.walk_past_clear-on-2.result)) there.kept c.deref_mut.result.now.boxes.last alone)
    c.home_clear.new.self c.home_clear.result false refl (sym (ap leads alone)) c.home_clear.ensures.books c.home_clear.ensures.answer)
