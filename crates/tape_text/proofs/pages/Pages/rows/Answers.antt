use Rattle.std.proofs.Common.{◌++◌, ◌∙◌, ℕ, List, ap}
use Rattle.csv.specs.Reading.{default_config, records}
use Rattle.il_script.specs.Sheet.{Sheet}
use Rattle.tape_text.specs.Rows.{rows_of, rows_text}
use Rattle.tape_text.proofs.Reading.{rows_read}
use Rattle.tape_text.proofs.pages.Pages.rows.Goals as goal

pub returns-clause-read : goal.returns-clause-read
returns-clause-read c =
    let rows = rows_of c.args.all c.args.size c.args.image.now c.args.header.now c.args.slots.now.slots in
    ap (records default_config) (ap (λ (s : Sheet). s.text) c.put_rows.ensures ∙ ap (λ (l : List ℕ). l ++ rows_text rows) c.self.invariant.0)
    ∙ rows_read c.args.all c.args.size c.args.image.now c.args.header.now c.args.slots.now.slots
