use Rattle.std.proofs.Common.{◌∙◌, nat_lt, rules}
use Rattle.std.proofs.lemmas.Bool.{lt-leb}
use Rattle.lif_dir.proofs.Bytes.{HasWidths}
use Rattle.tape_text.proofs.Holdings.{has_from, has_not}
use Rattle.tape_text.proofs.holders.has_record.Goals as goal

pub returns-then-entry-record_number : goal.returns-then-entry-record_number
returns-then-entry-record_number c =
    let widths : HasWidths c.args.entry = search rules in
    (λ i. nat_lt (c.from.ensures i) (c.end.ensures.end i)) ∙ has_from c.args.record_number c.args.entry widths c.if-entry-record_number.true

pub returns-else-entry-record_number : goal.returns-else-entry-record_number
returns-else-entry-record_number c =
    let widths : HasWidths c.args.entry = search rules in
    lt-leb c.args.entry.start c.args.record_number c.if-entry-record_number.false ∙ has_not c.args.record_number c.args.entry widths c.if-entry-record_number.false
