use Rattle.std.proofs.Common.{sym, subst}
use Rattle.il_host.specs.Gathering.{stands_open, read_with, Gathers}
use Rattle.il_host.specs.declared.gathering.Gathering.{Gathering}
use Rattle.il_host.proofs.gathering.gather.Goals as goal

pub returns-in-Spoilt-clause-gathers : goal.returns-in-Spoilt-clause-gathers
returns-in-Spoilt-clause-gathers c =
    subst (λ (g : Gathering). Gathers (read_with c.args.read c.args.bytes.now) (stands_open g c.args.batch.now) c.spoilt.result.0 c.args.batch.now c.spoilt.result.1 c.args.bytes.now) (sym c.in-Spoilt.is)
    (c.spoilt.ensures.gathers c.args.bytes.now c.args.batch.now)
