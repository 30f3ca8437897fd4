use Rattle.std.proofs.Common.{◌≡◌, take}
use Rattle.lif_model.specs.Tape.{record_at}
use Rattle.lif_model.specs.Redo.{changed}
use Rattle.il_ports.proofs.memory_medium.MemoryMedium.record_at.Given as goal

abbrev pub invariant-loop-write : goal.invariant-loop-write
invariant-loop-write l = l.bytes ≡ record_at (changed (take l.write-index l.self.history.items) l.self.first.items) l.n
