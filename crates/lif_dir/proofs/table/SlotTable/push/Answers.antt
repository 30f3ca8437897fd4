use Rattle.std.proofs.Common.{◌∙◌, ◌++◌, ◌-◌, ◌∷◌, [], if◌then◌else◌, is_ok, ap, sym, length, arith}
use Rattle.std.proofs.lemmas.List.{length_push}
use Rattle.lif_dir.proofs.TableLemmas.{pushed_index, pushed_count}
use Rattle.lif_dir.proofs.table.SlotTable.push.Goals as goal

pub put_in-requires-clause-index : goal.put_in-requires-clause-index
put_in-requires-clause-index c =
    let items = c.push.ensures.items ∙ ap (λ r. if is_ok r then c.self.inside.slots.items ++ c.args.slot ∷ [] else c.self.inside.slots.items) c.unwrap.ensures in
    pushed_index c.self.inside.slots.items c.deref.result.now c.args.slot (c.len.result - 1) (c.deref.ensures.value ∙ items) (omega (arith, c.push.ensures.len, ap length items, length_push c.self.inside.slots.items c.args.slot)) c.self.inside.index.places.items c.self.invariant.1.index

pub put_in-requires-clause-count : goal.put_in-requires-clause-count
put_in-requires-clause-count c =
    let items = c.push.ensures.items ∙ ap (λ r. if is_ok r then c.self.inside.slots.items ++ c.args.slot ∷ [] else c.self.inside.slots.items) c.unwrap.ensures in
    c.self.invariant.1.count ∙ sym (pushed_count c.self.inside.slots.items c.deref.result.now c.args.slot (c.len.result - 1) (c.deref.ensures.value ∙ items) (omega (arith, c.push.ensures.len, ap length items, length_push c.self.inside.slots.items c.args.slot)))
