use Rattle.lif_volume.specs.Seen.{seen}
use Rattle.lif_volume.specs.Views.{IsOpen}
use Rattle.lif_rows.proofs.batched.has_all_or_none.Given as goal

abbrev pub invariant-loop-name : goal.invariant-loop-name
invariant-loop-name g l = IsOpen g.R.Records.view (seen l.volume)
