use Rattle.std.proofs.Common.{decimal, length, ap, arith, length-append}
use Rattle.std.proofs.lemmas.Fmt.{length-decimal-le}
use Rattle.il_script.specs.Sheet.{Sheet}
use Rattle.tape_text.proofs.picture.put_short.Goals as goal

pub returns-clause-size : goal.returns-clause-size
returns-clause-size c =
    omega (
      arith,
      ap (λ (s : Sheet). length s.text) c.put_number.ensures.text,
      length-append c.args.page.now.text (decimal c.args.number),
      length-decimal-le 5 c.args.number (omega arith) (omega arith) (omega arith),
    )

pub returns-clause-small : goal.returns-clause-small
returns-clause-small c few =
    omega (
      arith,
      ap (λ (s : Sheet). length s.text) c.put_number.ensures.text,
      length-append c.args.page.now.text (decimal c.args.number),
      length-decimal-le 3 c.args.number (omega arith) (omega arith) (omega arith),
    )
