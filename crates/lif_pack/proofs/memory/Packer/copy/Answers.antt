use Rattle.std.proofs.Common.{◌≡◌, ◌+◌, ◌++◌, ◌∷◌, ◌∙◌, [], ap, sym, take}
use Rattle.std.proofs.lemmas.List.{take_more}
use Rattle.std.proofs.lemmas.Option.{slice_get_within, get_or_from_slice_get}
use Rattle.lif_dir.specs.declared.entries.Slot.TheVariants.{End}
use Rattle.lif_dir.specs.Tables.{Table}
use Rattle.lif_pack.proofs.memory.Packer.copy.Goals as goal

pub loop-k-preserved : goal.loop-k-preserved
loop-k-preserved c =
    let slots = c.args.slots.now.slots in
    let k = c.loop-k.k in
    let slot = c.get.result.now in
    let here = get_or_from_slice_get slots k slot End c.get.ensures.slot in
    let more : take k slots ++ slot ∷ [] ≡ take (k + 1) slots = sym (take_more slots k End (slice_get_within slots k slot c.get.ensures.slot) ∙ ap (λ s. take k slots ++ s ∷ []) here) in
    c.push.ensures ∙ ap (λ (t : Table). record t { slots = t.slots ++ slot ∷ [] }) c.loop-k.invariant ∙ ap (λ xs. record c.args.self.now.slots { slots = xs }) more
