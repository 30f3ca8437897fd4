use Rattle.std.proofs.Common.{◌≡◌, ◌<◌, ◌≤◌, ◌+◌, true, false, length, filter}
use Rattle.lif_model.specs.Legal.{is_live}
use Rattle.lif_pack.specs.Packers.{slots_held}
use Rattle.lif_pack.specs.Steps.{AreLive, IsGap, StayBut}
use Rattle.lif_pack.proofs.memory.Packer.close_slots.Given as goal

abbrev pub invariant-loop-slot : goal.invariant-loop-slot
invariant-loop-slot l = record {
  room : l.self.slots.room ≡ l.initial.self.slots.room;
  long : length (slots_held l.self) ≡ length (slots_held l.initial.self);
  gap : IsGap l.closed.next l.slot (slots_held l.self);
  begins : l.fn.front ≤ l.closed.next;
  few : l.closed.next + l.fn.from ≤ l.fn.front + l.slot;
  moved : l.closed.moved ≡ true → l.fn.front < l.closed.next;
  still : l.closed.moved ≡ false → slots_held l.self ≡ slots_held l.initial.self;
  idle : l.fn.front ≡ l.fn.from → AreLive (slots_held l.initial.self) → (l.closed.next ≡ l.slot) × (l.closed.moved ≡ false);
  changes : l.self.changes ≡ l.initial.self.changes;
  live : filter is_live (slots_held l.self) ≡ filter is_live (slots_held l.initial.self);
  others : StayBut l.fn.front l.closed.next l.fn.from l.slot (slots_held l.initial.self) (slots_held l.self);
}
