use Rattle.std.proofs.Common.{length, ap, arith, length-append}
use Rattle.csv.specs.Writing.{default_writer, field_text}
use Rattle.il_script.specs.Sheet.{Sheet}
use Rattle.tape_text.proofs.Quoted.{field_double}
use Rattle.tape_text.proofs.fields.put_first.Goals as goal

pub put_field-requires : goal.put_field-requires
put_field-requires c = record { room = omega (arith, c.requires.room, field_double c.args.field.now) }

pub returns-clause-size : goal.returns-clause-size
returns-clause-size c =
    omega (
      arith,
      ap (λ (s : Sheet). length s.text) c.put_field.ensures.text,
      length-append c.args.page.now.text (field_text default_writer c.args.field.now),
      field_double c.args.field.now,
    )
