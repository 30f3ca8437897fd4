use Rattle.std.proofs.Common.{◌-◌, ◌≡◌, ◌≤◌, length, Ok}
use Rattle.il_ports.specs.Files.{FileAnswers, Rests}
use Rattle.il_ports.specs.Storing.{Filled}
use Rattle.il_ports.proofs.file_tape.fetch.Given as goal

abbrev pub invariant-pieces : goal.invariant-pieces
invariant-pieces g l = record {
  bound : l.filled ≤ 256;
  size : length l.into ≡ 256;
  answers : FileAnswers {T = Unit {0}} {E = Unit {0}} (g.F.TapeFile.view l.fn.file) (g.F.TapeFile.view l.file) (Ok tt);
  rests : Rests (g.F.TapeFile.view l.fn.file) (g.F.TapeFile.view l.file);
  filled : Filled l.from l.filled l.into (g.F.TapeFile.view l.fn.file).seen;
}

abbrev pub decreases-pieces : goal.decreases-pieces
decreases-pieces g l = 256 - l.filled
