use Rattle.std.proofs.Common.{◌≡◌, drop}
use Rattle.il_ports.specs.MemoryFiles.{failing_kind}
use Rattle.tape_folder.proofs.memory_folder.listed.Given as goal

abbrev pub invariant-loop-fail : goal.invariant-loop-fail
invariant-loop-fail l = failing_kind l.call l.fails ≡ failing_kind l.call (drop l.fail-index l.fails)
