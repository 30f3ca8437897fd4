use Rattle.std.proofs.Common.{◌∙◌, [], List, ℕ, map, set, length, filter, ap, sym, subst}
use Rattle.lif_model.specs.Legal.{is_live}
use Rattle.lif_dir.specs.Entries.{slot_bytes}
use Rattle.lif_dir.specs.Indexes.{IsIndex}
use Rattle.lif_dir.proofs.TableLemmas.{out_set}
use Rattle.lif_dir.proofs.table.SlotTable.set.Goals as goal

pub put_in-requires-clause-index : goal.put_in-requires-clause-index
put_in-requires-clause-index c =
    let same = ap (λ xs. set (map slot_bytes xs) c.args.k []) c.deref-2.ensures.value ∙ out_set c.self.inside.slots.items c.args.k c.args.slot ∙ sym (ap (λ xs. set (map slot_bytes xs) c.args.k []) c.deref.ensures.value) in
    subst (λ (xs : List (List ℕ)). IsIndex xs c.take_out.new.self.places.items) (sym same) c.take_out.ensures.index

pub put_in-requires-clause-count : goal.put_in-requires-clause-count
put_in-requires-clause-count c =
    let same = ap (λ xs. set (map slot_bytes xs) c.args.k []) c.deref-2.ensures.value ∙ out_set c.self.inside.slots.items c.args.k c.args.slot ∙ sym (ap (λ xs. set (map slot_bytes xs) c.args.k []) c.deref.ensures.value) in
    c.take_out.ensures.count ∙ sym (ap (λ (xs : List (List ℕ)). length (filter is_live xs)) same)
