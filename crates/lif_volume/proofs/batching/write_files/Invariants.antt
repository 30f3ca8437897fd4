use Rattle.std.proofs.Common.{map, take}
use Rattle.std.specs.Prelude.{Ok}
use Rattle.lif_plan.specs.Batches.{file_of}
use Rattle.lif_volume.specs.Carrying.{WritesFiles}
use Rattle.lif_volume.proofs.batching.write_files.Given as goal

abbrev pub invariant-loop-k : goal.invariant-loop-k
invariant-loop-k g l = record {
  written : WritesFiles {T = Unit {0}} (map (file_of l.bytes) (take l.k l.files)) (g.R.Records.view l.fn.records) (g.R.Records.view l.records) (Ok tt);
}
