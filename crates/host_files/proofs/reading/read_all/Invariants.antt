use Rattle.std.proofs.Common.{◌≡◌, ◌≤◌, ◌-◌, length}
use Rattle.std.specs.Vec.{vec_capacity}
use Rattle.il_ports.specs.Files.{HasLock, IsClean}
use Rattle.host_files.specs.HostFiles.{ReadsFrom}
use Rattle.host_files.proofs.reading.read_all.Given as goal

abbrev pub invariant-pieces : goal.invariant-pieces
invariant-pieces g l = record {
  reads : ReadsFrom g.F.TapeFile.view l.fn.file l.file l.bytes.items;
  few : length l.bytes.items ≤ l.size;
  room : l.size ≤ vec_capacity l.bytes;
  piece : length l.piece ≡ 4096;
  held : HasLock (g.F.TapeFile.view l.file);
  clean : IsClean (g.F.TapeFile.view l.file);
}

abbrev pub decreases-pieces : goal.decreases-pieces
decreases-pieces g l = l.size - length l.bytes.items
