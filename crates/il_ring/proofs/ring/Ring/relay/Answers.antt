use Rattle.std.proofs.Common.{◌∙◌, None, ap, subst, sym}
use Rattle.il_ring.specs.Books.{IsHeld}
use Rattle.il_ring.specs.Rings.{RingView}
use Rattle.il_ring.specs.Seen.{parts_seen}
use Rattle.il_ring.proofs.SendLaws.{relay_counts, relay_keeps, relayed_round, relay_told}
use Rattle.il_ring.proofs.ring.Ring.relay.Goals as goal

pub returns-clause-round : goal.returns-clause-round
returns-clause-round g c =
    let at = ap (λ books. record (parts_seen (λ b. (goal.Device-dyn g (b.vtable, b.value)).state b.value) c.deref_mut.result.now) { books = books }) c.take_held.ensures.released ∙ ap (λ (r : RingView _). record r { books = record r.books { held = None } }) (ap (parts_seen (λ b. (goal.Device-dyn g (b.vtable, b.value)).state b.value)) c.deref_mut.ensures.value) in
    let held = sym (ap (λ parts. parts.books.held) c.deref_mut.ensures.value) ∙ sym c.take_held.ensures.value ∙ c.unwrap-flight.ensures in
    λ under. relayed_round g.M.Medium.view _ _ _ _ _ at held (subst IsHeld c.unwrap-flight.ensures c.take_held.ensures.held) c.round.ensures under

pub returns-clause-relayed : goal.returns-clause-relayed
returns-clause-relayed g c =
    let at = ap (λ books. record (parts_seen (λ b. (goal.Device-dyn g (b.vtable, b.value)).state b.value) c.deref_mut.result.now) { books = books }) c.take_held.ensures.released ∙ ap (λ (r : RingView _). record r { books = record r.books { held = None } }) (ap (parts_seen (λ b. (goal.Device-dyn g (b.vtable, b.value)).state b.value)) c.deref_mut.ensures.value) in
    let held = sym (ap (λ parts. parts.books.held) c.deref_mut.ensures.value) ∙ sym c.take_held.ensures.value ∙ c.unwrap-flight.ensures in
    λ under ring. relay_told g.M.Medium.view _ _ _ _ (relayed_round g.M.Medium.view _ _ _ _ _ at held (subst IsHeld c.unwrap-flight.ensures c.take_held.ensures.held) c.round.ensures under) ring

pub returns-clause-counts : goal.returns-clause-counts
returns-clause-counts g c =
    let at = ap (λ books. record (parts_seen (λ b. (goal.Device-dyn g (b.vtable, b.value)).state b.value) c.deref_mut.result.now) { books = books }) c.take_held.ensures.released ∙ ap (λ (r : RingView _). record r { books = record r.books { held = None } }) (ap (parts_seen (λ b. (goal.Device-dyn g (b.vtable, b.value)).state b.value)) c.deref_mut.ensures.value) in
    let held = sym (ap (λ parts. parts.books.held) c.deref_mut.ensures.value) ∙ sym c.take_held.ensures.value ∙ c.unwrap-flight.ensures in
    λ under. relay_counts g.M.Medium.view _ _ _ _ (relayed_round g.M.Medium.view _ _ _ _ _ at held (subst IsHeld c.unwrap-flight.ensures c.take_held.ensures.held) c.round.ensures under)

pub returns-clause-kept : goal.returns-clause-kept
returns-clause-kept g c =
    let at = ap (λ books. record (parts_seen (λ b. (goal.Device-dyn g (b.vtable, b.value)).state b.value) c.deref_mut.result.now) { books = books }) c.take_held.ensures.released ∙ ap (λ (r : RingView _). record r { books = record r.books { held = None } }) (ap (parts_seen (λ b. (goal.Device-dyn g (b.vtable, b.value)).state b.value)) c.deref_mut.ensures.value) in
    let held = sym (ap (λ parts. parts.books.held) c.deref_mut.ensures.value) ∙ sym c.take_held.ensures.value ∙ c.unwrap-flight.ensures in
    λ under. relay_keeps g.M.Medium.view _ _ _ _ _ at held (subst IsHeld c.unwrap-flight.ensures c.take_held.ensures.held) c.round.ensures under
