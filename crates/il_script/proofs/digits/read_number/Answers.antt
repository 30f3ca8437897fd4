use Rattle.std.proofs.Common.{arith, ◌∙◌}
use Rattle.il_script.proofs.Numerals.{too-large}
use Rattle.il_script.proofs.digits.read_number.Goals as goal

pub returns-in_err-checked_mul-clause-number : goal.returns-in_err-checked_mul-clause-number
returns-in_err-checked_mul-clause-number c =
    c.from_residual.ensures ∙ too-large c.args.most c.args.text.now c.loop-digit.digit-index c.loop-digit.value c.loop-digit-test.true c.loop-digit.invariant.value (omega (arith, c.in_err-checked_mul.ensures))

pub returns-in_err-value-clause-number : goal.returns-in_err-value-clause-number
returns-in_err-value-clause-number c =
    c.from_residual-in_err-value.ensures ∙ too-large c.args.most c.args.text.now c.loop-digit.digit-index c.loop-digit.value c.loop-digit-test.true c.loop-digit.invariant.value (omega (arith, c.in_err-value.ensures, c.in_ok-checked_mul.ensures, c.from.ensures))

pub returns-then-value-most-clause-number : goal.returns-then-value-most-clause-number
returns-then-value-most-clause-number c =
    too-large c.args.most c.args.text.now c.loop-digit.digit-index c.loop-digit.value c.loop-digit-test.true c.loop-digit.invariant.value (omega (arith, c.if-value-most.true, c.in_ok-value.ensures, c.in_ok-checked_mul.ensures, c.from.ensures))
