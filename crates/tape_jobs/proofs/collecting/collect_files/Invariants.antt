use Rattle.std.proofs.Common.{◌≡◌, false, map, take}
use Rattle.std.specs.Prelude.{All}
use Rattle.lif_model.specs.Apply.{Dir}
use Rattle.tape_jobs.specs.Collecting.{IsFileShown, SameVolume}
use Rattle.tape_jobs.specs.Out.{GoesOnBeside, OnlyReads}
use Rattle.tape_volumes.specs.Volumes.{StopLeaves, volume_shown}
use Rattle.tape_jobs.proofs.collecting.collect_files.Given as goal

abbrev pub invariant-names : goal.invariant-names
invariant-names g l = record {
  valid : (g.V.Volumes.seen l.volumes).valid;
  reads : OnlyReads false (g.V.Volumes.seen l.fn.volumes).mounted (g.V.Volumes.seen l.volumes).mounted;
  same : SameVolume (g.V.Volumes.seen l.fn.volumes).mounted (g.V.Volumes.seen l.volumes).mounted;
  named : map (λ file. file.name) l.files.items ≡ take l.name-index l.names;
  contents : All (IsFileShown (volume_shown (g.V.Volumes.seen l.fn.volumes).mounted.tape)) l.files.items;
  beside : GoesOnBeside (StopLeaves Dir (g.V.Volumes.seen l.fn.volumes).mounted) (g.V.Volumes.seen l.fn.volumes) (g.V.Volumes.seen l.volumes);
}
