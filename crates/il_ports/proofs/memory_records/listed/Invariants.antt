use Rattle.std.proofs.Common.{◌≡◌, drop}
use Rattle.il_ports.specs.Counted.{failing}
use Rattle.il_ports.proofs.memory_records.listed.Given as goal

abbrev pub invariant-loop-fail : goal.invariant-loop-fail
invariant-loop-fail l = failing l.call l.fails ≡ failing l.call (drop l.fail-index l.fails)
