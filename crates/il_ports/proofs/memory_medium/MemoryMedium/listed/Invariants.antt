use Rattle.std.proofs.Common.{◌≡◌, drop}
use Rattle.il_ports.specs.MemoryMedium.{listed_bytes}
use Rattle.il_ports.proofs.memory_medium.MemoryMedium.listed.Given as goal

abbrev pub invariant-loop-write : goal.invariant-loop-write
invariant-loop-write l = listed_bytes l.self.writes_made l.self.writes.items ≡ listed_bytes l.self.writes_made (drop l.write-index l.self.writes.items)
