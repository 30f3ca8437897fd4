use Rattle.std.proofs.Common.{length, ap, arith, rules}
use Rattle.lif_dir.proofs.TableLemmas.{empty_indexed}
use Rattle.lif_dir.proofs.table.SlotTable.new.Goals as goal

pub invariant_of-result : goal.invariant_of-result
invariant_of-result c = (
  search rules,
  empty_indexed _ _ _ _ _ c.in_ok-new.ensures.room c.in_ok-with_capacity.ensures.items c.in_ok-new.ensures.places (omega (arith, ap length c.in_ok-new.ensures.places)),
)
