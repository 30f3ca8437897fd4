use Rattle.std.proofs.Common.{◌-◌, ◌≤◌}
use Rattle.il_ports.specs.Storing.{Writing}
use Rattle.il_ports.proofs.file_tape.put.Given as goal

abbrev pub invariant-pieces : goal.invariant-pieces
invariant-pieces g l = record {
  bound : l.written ≤ 256;
  writing : Writing l.from l.written l.bytes (g.F.TapeFile.view l.fn.file) (g.F.TapeFile.view l.file);
}

abbrev pub decreases-pieces : goal.decreases-pieces
decreases-pieces g l = 256 - l.written
