use Rattle.std.proofs.Common.{rules}
use Rattle.il_check.proofs.StepLemmas.{end_within}
use Rattle.il_check.proofs.tracing.Tracing.end.Goals as goal

pub returns-then-not-is_empty-clause-known : goal.returns-then-not-is_empty-clause-known
returns-then-not-is_empty-clause-known c = λ k d old bytes taken.
    end_within k d old bytes c.args.self.now c.end_line.new.self (λ lines line. c.end_line.ensures.known k d old lines line)
    (search rules) taken
