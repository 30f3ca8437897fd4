use Rattle.std.proofs.Common.{◌≡◌, ◌≤◌, ◌+◌, ◌⊎◌, ◌∙◌, ap, arith, length, subst, sym, true, false}
use Rattle.std.specs.Prelude.{◌-◌}
use Rattle.std.proofs.lemmas.List.{length-map}
use Rattle.il_frames.specs.NamedFrames.{ifc}
use Rattle.il_ring.specs.Flights.{sourced}
use Rattle.il_ring.specs.Rings.{RingView, drive_party}
use Rattle.il_ring.specs.Seen.{parts_seen}
use Rattle.il_ring.proofs.ControlledWalks.{if_some, ifc_comes_grows, ifc_grows, controlled_from_walks, controlled_one, controlled_round_at, left_home, left_lent}
use Rattle.il_ring.proofs.ring.Ring.round_apart.Goals as goal

pub pass-on-requires : goal.pass-on-requires
pass-on-requires g c =
    let few = c.deref_mut.result.now.boxes.few in
    let seen = ap (parts_seen (λ b. (goal.Device-dyn g (b.vtable, b.value)).state b.value)) c.deref_mut.ensures.value in
    let first = c.walk_past-on.ensures.books in
    let middle = c.pass_drive-on.ensures.books in
    let more = c.walk_past-on-2.ensures.books in
    let left = subst (λ parts. (32 ≤ parts.books.room - length parts.books.log) ⊎ ((30 ≤ parts.books.room - length parts.books.log) × (c.args.flight ≡ sourced 0 ifc))) (sym c.deref_mut.ensures.value) c.requires.room in
    let home = left_home (length c.deref_mut.result.now.books.log) c.deref_mut.result.now.books.room (length c.walk_past-on-2.new.books.log) (length c.deref_mut.result.now.boxes.before.items + 1 + length c.deref_mut.result.now.boxes.after.items) (c.args.flight ≡ sourced 0 ifc) left
    (omega (arith, first.grows, middle.grows, more.grows)) (omega (arith, few))
    (ifc_comes_grows g.M.Medium.view _ _ _ _ _ _ _ _ _ _ c.deref_mut.result.now.books c.walk_past-on.new.books c.pass_drive-on.new.books c.walk_past-on-2.new.books c.args.flight c.walk_past-on.result c.pass_drive-on.result c.walk_past-on-2.result
    first middle more (c.party-party.ensures.party ∙ sym (ap (λ (r : RingView _). drive_party r) seen)) c.walk_past-on.ensures.journey c.pass_drive-on.ensures.passage c.walk_past-on-2.ensures.journey) in
    omega (arith, home, first.room, middle.room, more.room)

pub lent_home-requires : goal.lent_home-requires
lent_home-requires g c =
    let few = c.deref_mut.result.now.boxes.few in
    let one = controlled_one c.pass-on.new.self (sym c.leads.ensures ∙ c.if-leads.true) in
    let count = c.pass-on.ensures.count in
    let seen = ap (parts_seen (λ b. (goal.Device-dyn g (b.vtable, b.value)).state b.value)) c.deref_mut.ensures.value in
    let first = c.walk_past-on.ensures.books in
    let middle = c.pass_drive-on.ensures.books in
    let more = c.walk_past-on-2.ensures.books in
    let last = c.pass-on.ensures.books in
    let left = subst (λ parts. (32 ≤ parts.books.room - length parts.books.log) ⊎ ((30 ≤ parts.books.room - length parts.books.log) × (c.args.flight ≡ sourced 0 ifc))) (sym c.deref_mut.ensures.value) c.requires.room in
    let lent = left_lent (length c.deref_mut.result.now.books.log) c.deref_mut.result.now.books.room (length c.pass-on.new.books.log) (length c.deref_mut.result.now.boxes.before.items + 1 + length c.deref_mut.result.now.boxes.after.items + 1) (c.args.flight ≡ sourced 0 ifc) left
    (omega (arith, first.grows, middle.grows, more.grows, last.grows)) (omega (arith, few, one, count))
    (ifc_grows g.M.Medium.view _ _ _ _ _ _ _ _ _ _ c.deref_mut.result.now.books c.walk_past-on.new.books c.pass_drive-on.new.books c.walk_past-on-2.new.books c.args.flight c.walk_past-on.result c.pass_drive-on.result c.walk_past-on-2.result
    first middle more (c.party-party.ensures.party ∙ sym (ap (λ (r : RingView _). drive_party r) seen)) c.walk_past-on.ensures.journey c.pass_drive-on.ensures.passage c.walk_past-on-2.ensures.journey _ _ _ c.pass-on.new.books c.pass-on.result last c.pass-on.ensures.passage) in
    omega (arith, lent, first.room, middle.room, more.room, last.room)

pub home-requires : goal.home-requires
home-requires g c =
    let few = c.deref_mut.result.now.boxes.few in
    let seen = ap (parts_seen (λ b. (goal.Device-dyn g (b.vtable, b.value)).state b.value)) c.deref_mut.ensures.value in
    let first = c.walk_past-on.ensures.books in
    let middle = c.pass_drive-on.ensures.books in
    let more = c.walk_past-on-2.ensures.books in
    let last = c.pass-on.ensures.books in
    let left = subst (λ parts. (32 ≤ parts.books.room - length parts.books.log) ⊎ ((30 ≤ parts.books.room - length parts.books.log) × (c.args.flight ≡ sourced 0 ifc))) (sym c.deref_mut.ensures.value) c.requires.room in
    let home = left_home (length c.deref_mut.result.now.books.log) c.deref_mut.result.now.books.room (length c.pass-on.new.books.log) (length c.deref_mut.result.now.boxes.before.items + 1 + length c.deref_mut.result.now.boxes.after.items + 1) (c.args.flight ≡ sourced 0 ifc) left
    (omega (arith, first.grows, middle.grows, more.grows, last.grows)) (omega (arith, few))
    (ifc_grows g.M.Medium.view _ _ _ _ _ _ _ _ _ _ c.deref_mut.result.now.books c.walk_past-on.new.books c.pass_drive-on.new.books c.walk_past-on-2.new.books c.args.flight c.walk_past-on.result c.pass_drive-on.result c.walk_past-on-2.result
    first middle more (c.party-party.ensures.party ∙ sym (ap (λ (r : RingView _). drive_party r) seen)) c.walk_past-on.ensures.journey c.pass_drive-on.ensures.passage c.walk_past-on-2.ensures.journey _ _ _ c.pass-on.new.books c.pass-on.result last c.pass-on.ensures.passage) in
    if_some c.pass-on.result _ (omega (arith, home, first.room, middle.room, more.room, last.room))

pub returns-then-leads : goal.returns-then-leads
returns-then-leads g c =
    let seen = ap (parts_seen (λ b. (goal.Device-dyn g (b.vtable, b.value)).state b.value)) c.deref_mut.ensures.value in
    let devices = length-map c.deref_mut.result.now.boxes.after.items (λ b. (goal.Device-dyn g (b.vtable, b.value)).state b.value) in
    controlled_round_at g.M.Medium.view _ _ _ _ _ seen
    (controlled_from_walks g.M.Medium.view _ _ _ _ _ _ _ _ _ _ c.deref_mut.result.now.books c.walk_past-on.new.books c.pass_drive-on.new.books c.walk_past-on-2.new.books c.args.flight c.walk_past-on.result c.pass_drive-on.result c.walk_past-on-2.result
    c.walk_past-on.ensures.books c.pass_drive-on.ensures.books c.walk_past-on-2.ensures.books (c.party-party.ensures.party ∙ sym (ap (λ (r : RingView _). drive_party r) seen))
    c.walk_past-on.ensures.journey c.pass_drive-on.ensures.passage c.walk_past-on-2.ensures.journey _ _ _ c.pass-on.new.books c.pass-on.result c.pass-on.ensures.books c.pass-on.ensures.passage c.lent_home.new.self c.lent_home.result true
    (omega (arith, devices, c.walk_past-on-2.ensures.len)) (sym c.if-leads.true ∙ c.leads.ensures) c.lent_home.ensures.books c.lent_home.ensures.answer)

pub returns-else-leads : goal.returns-else-leads
returns-else-leads g c =
    let seen = ap (parts_seen (λ b. (goal.Device-dyn g (b.vtable, b.value)).state b.value)) c.deref_mut.ensures.value in
    let devices = length-map c.deref_mut.result.now.boxes.after.items (λ b. (goal.Device-dyn g (b.vtable, b.value)).state b.value) in
    controlled_round_at g.M.Medium.view _ _ _ _ _ seen
    (controlled_from_walks g.M.Medium.view _ _ _ _ _ _ _ _ _ _ c.deref_mut.result.now.books c.walk_past-on.new.books c.pass_drive-on.new.books c.walk_past-on-2.new.books c.args.flight c.walk_past-on.result c.pass_drive-on.result c.walk_past-on-2.result
    c.walk_past-on.ensures.books c.pass_drive-on.ensures.books c.walk_past-on-2.ensures.books (c.party-party.ensures.party ∙ sym (ap (λ (r : RingView _). drive_party r) seen))
    c.walk_past-on.ensures.journey c.pass_drive-on.ensures.passage c.walk_past-on-2.ensures.journey _ _ _ c.pass-on.new.books c.pass-on.result c.pass-on.ensures.books c.pass-on.ensures.passage c.home.new.self c.home.result false
    (omega (arith, devices, c.walk_past-on-2.ensures.len)) (sym c.if-leads.false ∙ c.leads.ensures) c.home.ensures.books c.home.ensures.answer)
