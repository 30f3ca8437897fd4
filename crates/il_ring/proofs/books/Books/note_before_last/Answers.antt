use Rattle.std.proofs.Common.{rules, ◌≡◌, ◌-◌, ◌∷◌, [], ◌++◌, ◌∙◌, ap, arith, slice_set}
use Rattle.il_ring.specs.Lending.{before_last}
use Rattle.il_ring.proofs.BeforeLast.{put_before_last}
use Rattle.il_ring.proofs.books.Books.note_before_last.Goals as goal

pub returns : goal.returns
returns c =
    let log = c.self.inside.log.items in
    let put : slice_set log (c.len-len.result - 1) c.args.entry ++ c.index-last.result.now ∷ [] ≡ before_last c.args.entry log =
    ap (λ last. slice_set log (c.len-len.result - 1) c.args.entry ++ last ∷ []) c.index-last.ensures
    ∙ put_before_last log c.args.entry c.index-last.result.now (c.len-len.result - 1) (omega (arith, c.len-len.ensures)) (omega (arith, c.len-len.ensures, c.if-len-eq0.false)) in
    search (rules, put)
