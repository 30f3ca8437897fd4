use Rattle.std.proofs.Common.{ℕ, List, map, filter, sym, ap, subst, ◌∙◌}
use Rattle.lif_model.specs.Pairs.{all_pairs}
use Rattle.lif_model.specs.Legal.{is_live, have_other_names}
use Rattle.lif_dir.specs.declared.entries.Slot.{Slot}
use Rattle.lif_dir.specs.Entries.{slot_bytes}
use Rattle.lif_dir.specs.Indexes.{AreSorted, IsIndex}
use Rattle.lif_dir.specs.Tables.{Table}
use Rattle.lif_dir.proofs.Searching.{sorted_here}
use Rattle.lif_dir.proofs.TableLemmas.{distinct_is}
use Rattle.lif_dir.proofs.table.SlotTable.distinct.Goals as goal

pub is_distinct-requires-clause-sorted : goal.is_distinct-requires-clause-sorted
is_distinct-requires-clause-sorted c =
    subst (λ (xs : List Slot). AreSorted (map slot_bytes xs) c.self.inside.index.places.items) (sym c.deref.ensures.value) (sorted_here _ _ c.self.invariant.1.index)

pub returns : goal.returns
returns c =
    let places : List ℕ = c.self.inside.index.places.items in
    let index : IsIndex (map slot_bytes c.deref.result.now) places =
    subst (λ (xs : List Slot). IsIndex (map slot_bytes xs) places) (sym c.deref.ensures.value) c.self.invariant.1.index in
    distinct_is (map slot_bytes c.deref.result.now) places index c.is_distinct.result c.is_distinct.ensures.apart c.is_distinct.ensures.twins
    ∙ ap (λ (xs : List Slot). all_pairs have_other_names (filter is_live (map slot_bytes xs))) (c.deref.ensures.value ∙ ap (λ (t : Table). t.slots) c.self.view_is)
