use Rattle.std.proofs.Common.{sym, ◌∙◌}
use Rattle.lif_volume.specs.Seen.{seen}
use Rattle.lif_volume.proofs.Renewing.{names_there, clears_used, clears_free, clears_none}
use Rattle.lif_volume.proofs.volume.Volume.clear_for_format.Goals as goal

pub returns-then-is_in_use-clause-clears : goal.returns-then-is_in_use-clause-clears
returns-then-is_in_use-clause-clears g c =
    let e = c.in-Ok.ensures in
    clears_used g.R.Records.view (seen c.args.self.now) (seen c.mount.new.self) c.in-Ok.field-0 e.open e.kept e.consults c.size.result c.size.ensures
    (λ v same. sym c.if-is_in_use.true ∙ c.is_in_use.ensures v same)

pub returns-else-is_in_use-clause-clears : goal.returns-else-is_in_use-clause-clears
returns-else-is_in_use-clause-clears g c =
    let e = c.in-Ok.ensures in
    clears_free g.R.Records.view (seen c.args.self.now) (seen c.mount.new.self) c.in-Ok.field-0 e.open e.kept e.consults c.size.result c.size.ensures
    (λ v same. sym c.if-is_in_use.false ∙ c.is_in_use.ensures v same)

pub is_in_use-requires : goal.is_in_use-requires
is_in_use-requires g c =
    let e = c.in-Ok.ensures in
    record { distinct = names_there g.R.Records.view (seen c.args.self.now) (seen c.mount.new.self) c.in-Ok.field-0 e.open e.kept e.consults }

pub returns-in-Err-Refused-clause-clears : goal.returns-in-Err-Refused-clause-clears
returns-in-Err-Refused-clause-clears g c =
    let e = c.in-Err-Refused.ensures in
    clears_none g.R.Records.view (seen c.args.self.now) (seen c.mount.new.self) c.in-Err-Refused.field-0 c.in-Err-Refused.field-0-0 c.in-Err-Refused.field-0-is e.consults e.only e.exactly
