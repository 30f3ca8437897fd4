use Rattle.std.proofs.Common.{◌≡◌, Ok, Err, ap, ◌∙◌, arith}
use Rattle.std.proofs.lemmas.Grind.{common_steps}
use Rattle.lif_text.specs.declared.pieces.Piece.TheVariants.{End}
use Rattle.lif_text.specs.declared.pieces.TextFault.TheVariants.{Short}
use Rattle.lif_text.specs.Pieces.{piece_at, lines_from}
use Rattle.lif_text.proofs.Reading.{bytes_after, texts_read, from_place}
use Rattle.lif_text.proofs.pieces.next.Goals as goal

pub returns-in-empty-clause-lines : goal.returns-in-empty-clause-lines
returns-in-empty-clause-lines c =
    let is : piece_at c.args.bytes.now c.args.at ≡ Ok End = grind (arith, common_steps) in
    from_place c.args.at c.args.bytes.now ∙ ap (lines_from c.args.bytes.now) is

pub returns-in-empty-clause-text : goal.returns-in-empty-clause-text
returns-in-empty-clause-text c = texts_read _ (bytes_after c.args.at c.args.bytes.now (λ i. omega (arith, c.type_inv.bytes i)))

pub returns-in-len1-clause-lines : goal.returns-in-len1-clause-lines
returns-in-len1-clause-lines c =
    let is : piece_at c.args.bytes.now c.args.at ≡ Err (Short c.args.at) = grind (arith, common_steps) in
    from_place c.args.at c.args.bytes.now ∙ ap (lines_from c.args.bytes.now) is

pub returns-in-len1-clause-text : goal.returns-in-len1-clause-text
returns-in-len1-clause-text c = texts_read _ (bytes_after c.args.at c.args.bytes.now (λ i. omega (arith, c.type_inv.bytes i)))

pub returns-in-len2-up-clause-lines : goal.returns-in-len2-up-clause-lines
returns-in-len2-up-clause-lines c = from_place c.args.at c.args.bytes.now ∙ ap (lines_from c.args.bytes.now) (grind (arith, common_steps))

pub returns-in-len2-up-clause-text : goal.returns-in-len2-up-clause-text
returns-in-len2-up-clause-text c = texts_read _ (bytes_after c.args.at c.args.bytes.now (λ i. omega (arith, c.type_inv.bytes i)))
