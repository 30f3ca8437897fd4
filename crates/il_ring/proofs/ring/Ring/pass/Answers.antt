use Rattle.std.proofs.Common.{◌∙◌, ap, sym}
use Rattle.il_ring.specs.Lending.{going_on}
use Rattle.il_ring.specs.Rings.{RingView}
use Rattle.il_ring.specs.Seen.{parts_seen}
use Rattle.il_ring.proofs.SendLaws.{pass_round}
use Rattle.il_ring.proofs.ControlledSends.{pass_halves, pass_controlled}
use Rattle.il_ring.proofs.ControlledSums.{pass_adds}
use Rattle.il_ring.proofs.ring.Ring.pass.Goals as goal

pub returns-clause-round : goal.returns-clause-round
returns-clause-round g c =
    let at = ap (λ books. record (parts_seen (λ b. (goal.Device-dyn g (b.vtable, b.value)).state b.value) c.deref_mut.result.now) { books = books }) c.take_lent.ensures.gone ∙ ap (λ (r : RingView _). going_on r) (ap (parts_seen (λ b. (goal.Device-dyn g (b.vtable, b.value)).state b.value)) c.deref_mut.ensures.value) in
    let lent = sym (ap (λ parts. parts.books.lent) c.deref_mut.ensures.value) ∙ sym c.take_lent.ensures.value ∙ c.unwrap-flight.ensures in
    pass_round g.M.Medium.view _ _ _ _ _ at lent c.round.ensures

pub returns-clause-controlled : goal.returns-clause-controlled
returns-clause-controlled g c =
    let at = ap (λ books. record (parts_seen (λ b. (goal.Device-dyn g (b.vtable, b.value)).state b.value) c.deref_mut.result.now) { books = books }) c.take_lent.ensures.gone ∙ ap (λ (r : RingView _). going_on r) (ap (parts_seen (λ b. (goal.Device-dyn g (b.vtable, b.value)).state b.value)) c.deref_mut.ensures.value) in
    let lent = sym (ap (λ parts. parts.books.lent) c.deref_mut.ensures.value) ∙ sym c.take_lent.ensures.value ∙ c.unwrap-flight.ensures in
    λ controlled. pass_controlled g.M.Medium.view _ _ _ _ _ at lent c.round.ensures controlled

pub returns-clause-halves : goal.returns-clause-halves
returns-clause-halves g c =
    let at = ap (λ books. record (parts_seen (λ b. (goal.Device-dyn g (b.vtable, b.value)).state b.value) c.deref_mut.result.now) { books = books }) c.take_lent.ensures.gone ∙ ap (λ (r : RingView _). going_on r) (ap (parts_seen (λ b. (goal.Device-dyn g (b.vtable, b.value)).state b.value)) c.deref_mut.ensures.value) in
    let lent = sym (ap (λ parts. parts.books.lent) c.deref_mut.ensures.value) ∙ sym c.take_lent.ensures.value ∙ c.unwrap-flight.ensures in
    λ controlled held f is within. pass_halves g.M.Medium.view _ _ _ _ _ at lent c.round.ensures controlled held f is within

pub returns-clause-counts : goal.returns-clause-counts
returns-clause-counts g c =
    let at = ap (λ books. record (parts_seen (λ b. (goal.Device-dyn g (b.vtable, b.value)).state b.value) c.deref_mut.result.now) { books = books }) c.take_lent.ensures.gone ∙ ap (λ (r : RingView _). going_on r) (ap (parts_seen (λ b. (goal.Device-dyn g (b.vtable, b.value)).state b.value)) c.deref_mut.ensures.value) in
    let lent = sym (ap (λ parts. parts.books.lent) c.deref_mut.ensures.value) ∙ sym c.take_lent.ensures.value ∙ c.unwrap-flight.ensures in
    λ controlled f way. pass_adds g.M.Medium.view _ _ _ _ _ at lent c.round.ensures controlled f way
