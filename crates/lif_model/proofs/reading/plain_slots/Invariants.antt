use Rattle.std.proofs.Common.{◌≡◌, ◌++◌, drop}
use Rattle.lif_model.specs.Directory.{entries_from, before_end, slots_of}
use Rattle.lif_model.proofs.reading.plain_slots.Given as goal

abbrev pub invariant-loop-k : goal.invariant-loop-k
invariant-loop-k l = l.slots.items ++ before_end (drop l.k (entries_from l.tape l.start l.count)) ≡ slots_of l.tape
