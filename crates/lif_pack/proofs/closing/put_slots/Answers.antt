use Rattle.std.proofs.Common.{◌≡◌, ◌<◌, ◌+◌, ℕ, List, map, length, sym, ap, subst, ◌∙◌, rules, arith}
use Rattle.lif_model.specs.Directory.{entry_at}
use Rattle.lif_dir.specs.Entries.{slot_bytes}
use Rattle.lif_commit.specs.Staged.{HoldsSlots}
use Rattle.lif_commit.proofs.Ends.{one_slot_more}
use Rattle.lif_pack.proofs.SetAside.{slot_put}
use Rattle.lif_pack.proofs.closing.put_slots.Goals as goal

pub loop-k-preserved : goal.loop-k-preserved
loop-k-preserved c =
    let slots = map slot_bytes c.args.table.now.slots in
    let inv = c.loop-k.invariant in
    let less : c.loop-k.k < 8 = omega (arith, c.loop-k-test.true, c.requires.few) in
    let size : length c.bytes.result ≡ 32 = search rules in
    record {
      holds = subst (HoldsSlots slots c.args.i (c.loop-k.k + 1)) (sym c.put_entry.ensures)
          (one_slot_more slots c.args.i c.loop-k.k c.loop-k.bytes c.bytes.result less size (c.bytes.ensures.bytes ∙ c.entry.ensures) inv.holds);
      rest = λ j low high. ap (λ (b : List ℕ). entry_at b j) c.put_entry.ensures
          ∙ slot_put c.loop-k.k c.args.bytes.now c.loop-k.bytes c.bytes.result less size inv.rest inv.holds.size j low high;
    }
