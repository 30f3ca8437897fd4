use Rattle.std.proofs.Common.{◌+◌, map, sym, subst, ◌∙◌, rules, arith}
use Rattle.lif_dir.specs.Entries.{slot_bytes}
use Rattle.lif_commit.specs.Staged.{HoldsSlots}
use Rattle.lif_commit.proofs.Ends.{one_slot_more}
use Rattle.lif_commit.proofs.staged.record_of.Goals as goal

pub overflow_mul-i : goal.overflow_mul-i
overflow_mul-i c = omega (arith, c.requires.whole, c.requires.small)

pub overflow_add-i : goal.overflow_add-i
overflow_add-i c = omega (arith, c.requires.whole, c.requires.small, c.loop-k-test.true)

pub loop-k-preserved : goal.loop-k-preserved
loop-k-preserved c =
    record {
      holds = subst (HoldsSlots (map slot_bytes c.args.table.now.slots) c.args.i (c.loop-k.k + 1)) (sym c.put_entry.ensures)
          (one_slot_more (map slot_bytes c.args.table.now.slots) c.args.i c.loop-k.k c.loop-k.bytes c.bytes.result c.loop-k-test.true (search rules) (c.bytes.ensures.bytes ∙ c.entry.ensures) c.loop-k.invariant.holds);
    }
