use Rattle.std.proofs.Common.{◌≡◌, length, take}
use Rattle.lif_dir.proofs.table.SlotTable.truncate.Given as goal

abbrev pub decreases-loop-self : goal.decreases-loop-self
decreases-loop-self l = length l.self.slots

-- the slots that are to be kept stand still
abbrev pub invariant-loop-self : goal.invariant-loop-self
invariant-loop-self l = record {
  kept : take l.count l.self.slots ≡ take l.count l.fn.self.slots;
  room : l.self.room ≡ l.fn.self.room;
}
