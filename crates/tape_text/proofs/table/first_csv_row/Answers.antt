use Rattle.std.proofs.Common.{refl}
use Rattle.csv.specs.Writing.{is_blank, escaped, fields_text}
use Rattle.tape_text.proofs.table.first_csv_row.Goals as goal

pub returns : goal.returns
unfolding is_blank escaped fields_text
returns c = refl
