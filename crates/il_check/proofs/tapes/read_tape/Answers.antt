use Rattle.std.proofs.Common.{◌∙◌, arith}
use Rattle.std.proofs.lemmas.List.{take_all}
use Rattle.il_check.proofs.tapes.read_tape.Goals as goal

pub returns-clause-tape : goal.returns-clause-tape
returns-clause-tape g c = record {
  size = omega (arith, c.records.invariant.so_far, c.records-test.false);
  told = λ t is.
      let shape = (g.met.M.Medium.is_medium c.args.medium.now).is_tape t is in
      c.records.invariant.told t is ∙ take_all c.records.n t (omega (arith, shape.records, c.records-test.false));
}
