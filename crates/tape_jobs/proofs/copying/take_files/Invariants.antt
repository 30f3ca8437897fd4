use Rattle.std.proofs.Common.{◌≡◌, ◌≤◌, length, map, take}
use Rattle.std.specs.Vec.{vec_capacity}
use Rattle.lif_model.specs.Apply.{Dir}
use Rattle.tape_jobs.specs.Out.{Copied, GoesOnBeside, has_fault}
use Rattle.tape_volumes.specs.Volumes.{StopLeaves}
use Rattle.tape_jobs.proofs.copying.take_files.Given as goal

abbrev pub invariant-loop-name : goal.invariant-loop-name
invariant-loop-name g l = record {
  valid : (g.V.Volumes.seen l.volumes).valid;
  room : l.page.room ≡ l.fn.page.room;
  names : map (λ taken. taken.name) l.ends.items ≡ take l.name-index l.names;
  space : length l.names ≤ vec_capacity l.ends;
  copied : Copied (has_fault l.ends.items) l.ends.items (g.V.Volumes.seen l.fn.volumes).mounted (g.V.Volumes.seen l.volumes).mounted (g.F.Folder.view l.fn.folder) (g.F.Folder.view l.folder);
  beside : GoesOnBeside (StopLeaves Dir (g.V.Volumes.seen l.fn.volumes).mounted) (g.V.Volumes.seen l.fn.volumes) (g.V.Volumes.seen l.volumes);
}
