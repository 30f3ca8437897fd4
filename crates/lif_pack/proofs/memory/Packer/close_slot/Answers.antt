use Rattle.std.proofs.Common.{◌<◌, ◌∙◌, [], get_or, filter, ap, arith}
use Rattle.lif_model.specs.Legal.{is_live}
use Rattle.lif_pack.specs.Packers.{slots_held}
use Rattle.lif_pack.proofs.Swapping.{swapped_live, swap_stays}
use Rattle.lif_pack.proofs.memory.Packer.close_slot.Goals as goal

pub returns-clause-live : goal.returns-clause-live
returns-clause-live c =
    let slots = slots_held c.args.self.now in
    let less : c.args.closed.next < c.args.slot = omega (arith, c.requires.gap.order, c.if-closed-slot.false) in
    ap (filter is_live) c.swap.ensures.slots ∙ swapped_live slots c.args.closed.next c.args.slot less c.requires.slot c.requires.gap.purged

pub returns-clause-others : goal.returns-clause-others
returns-clause-others c = λ k out off.
    let slots = slots_held c.args.self.now in
    let one = c.args.closed.next in
    ap (λ xs. get_or xs k []) c.swap.ensures.slots ∙ swap_stays one c.args.slot slots (get_or slots c.args.slot []) (get_or slots one []) k out off
