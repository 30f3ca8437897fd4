use Rattle.std.proofs.Common.{length, ap, arith, rules}
use Rattle.lif_dir.proofs.TableLemmas.{empty_indexed}
use Rattle.lif_dir.proofs.table.SlotTable.clear.Goals as goal

pub invariant_of-self : goal.invariant_of-self
invariant_of-self c = (
  search rules,
  empty_indexed _ _ _ _ _ (omega (arith, c.clear-2.ensures.capacity, c.self.invariant.1.reserved)) c.clear.ensures.items c.clear-2.ensures.places (omega (arith, ap length c.clear-2.ensures.places)),
)
