use Rattle.std.proofs.Common.{◌≡◌, take}
use Rattle.lif_pack.proofs.memory.Packer.copy.Given as goal

abbrev pub invariant-loop-k : goal.invariant-loop-k
invariant-loop-k l = l.self.slots ≡ record l.fn.self.slots { slots = take l.k l.slots.slots }
