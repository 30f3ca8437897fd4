use Rattle.std.proofs.Common.{List, ℕ, Bor, subst}
use Rattle.std.specs.Prelude.{Option, option_map}
use Rattle.lif_volume.specs.Seen.{seen}
use Rattle.lif_volume.specs.Carrying.{HasFile}
use Rattle.lif_volume.proofs.Carrying.{file_none, file_some}
use Rattle.lif_volume.proofs.volume.Volume.put_file.Goals as goal

pub returns-in-None-clause-files : goal.returns-in-None-clause-files
returns-in-None-clause-files g c = λ command header has kept plan.
    file_none g.R.Records.view (seen c.args.self.now) header c.requires.open kept (g.met.R.Records.is_store c.args.self.now.records) command c.args.change.now plan _ c.requires.plan.4
    (subst (λ (file : Option (Bor (List ℕ))). HasFile command (option_map (λ bytes. bytes.now) file)) c.in-None.is has)

pub returns-in-Some-clause-files : goal.returns-in-Some-clause-files
returns-in-Some-clause-files g c = λ command header has kept plan.
    file_some g.R.Records.view (seen c.args.self.now) header c.requires.open kept (g.met.R.Records.is_store c.args.self.now.records) command c.args.change.now plan _ c.requires.plan.4
    (g.R.Records.view c.write_run.new.self) c.write_run.result c.in-Some.bytes.now
    (subst (λ (file : Option (Bor (List ℕ))). HasFile command (option_map (λ bytes. bytes.now) file)) c.in-Some.is has) c.write_run.ensures
