use Rattle.std.proofs.Common.{◌≡◌, ◌∙◌, ℕ, true, [], get_or, inl, inr, ap, arith}
use Rattle.lif_model.specs.Legal.{is_live}
use Rattle.lif_pack.specs.Packers.{slots_held}
use Rattle.lif_pack.proofs.Swapping.{stay_longer}
use Rattle.lif_pack.proofs.memory.Packer.close_slots.Goals as goal

pub loop-slot-preserved : goal.loop-slot-preserved
loop-slot-preserved c =
    let inv = c.loop-slot.invariant in
    let done = c.close_slot-closed.ensures in
    let k : ℕ = c.loop-slot.slot in
    record {
      room = done.room ∙ inv.room;
      long = done.long ∙ inv.long;
      gap = done.gap;
      begins = omega (arith, inv.begins, done.begins);
      few = omega (arith, inv.few, done.few);
      moved = λ on. elim (done.moved on) [
        | inl was ↦ omega (arith, inv.moved was, done.begins)
        | inr less ↦ omega (arith, inv.begins, less)
      ];
      still = λ off. done.still off ∙ inv.still (done.before off);
      idle = λ same live.
          let was = inv.idle same live in
          let here : is_live (get_or (slots_held c.loop-slot.self) k []) ≡ true =
          ap (λ xs. is_live (get_or xs k [])) (inv.still was.1) ∙ live k (omega (arith, c.loop-slot-test.true, c.requires.until)) in
          let next = done.idle was.0 here in
          (next.0, next.1 ∙ was.1);
      changes = done.changes ∙ inv.changes;
      live = done.live ∙ inv.live;
      others = stay_longer c.args.front c.loop-slot.closed.next c.close_slot-closed.result.next c.args.from k (slots_held c.args.self.now) (slots_held c.loop-slot.self)
          (slots_held c.close_slot-closed.new.self) inv.begins done.begins c.loop-slot.auto.slot inv.others done.others;
    }
