use Rattle.std.proofs.Common.{◌∷◌, [], arith, length-append}
use Rattle.il_check.proofs.tracing.Tracing.end_line.Goals as goal

pub returns-clause-known : goal.returns-clause-known
returns-clause-known c = λ k d old lines line front has. record {
  count = omega (arith, c.read_kept-self.ensures.lines, has.count, length-append lines (line ∷ []));
  known = c.read_kept-self.ensures.known k d old lines line front (omega (arith, has.count)) has.known;
}
