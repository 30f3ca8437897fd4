use Rattle.std.proofs.Common.{refl}
use Rattle.il_check.proofs.StepLemmas.{nothing_taken}
use Rattle.il_check.proofs.tracing.Tracing.new.Goals as goal

pub returns-clause-taken : goal.returns-clause-taken
returns-clause-taken c = λ d old effect. nothing_taken c.args.devices d old _ refl refl c.new-3.ensures c.new.ensures c.new-2.ensures effect
