use Rattle.std.proofs.Common.{◌+◌, ◌∷◌, List, ℕ, sym, ap, ◌∙◌, take, drop}
use Rattle.std.proofs.lemmas.List.{drop_min, take_rest}
use Rattle.lif_text.specs.Cutting.{cut_lines}
use Rattle.lif_text.proofs.Cuts.{first_cut}
use Rattle.lif_text.proofs.cutting.first_line.Goals as goal

pub returns-clause-lines : goal.returns-clause-lines
returns-clause-lines c =
    let text = c.args.text.now in
    let end = c.first_length-end.result in
    first_cut text end c.requires c.first_length-end.ensures.count
    ∙ ap (λ (rest : List ℕ). take end text ∷ cut_lines rest)
    (sym (drop_min (end + 1) text) ∙ ap (λ (n : ℕ). drop n text) (sym c.min.ensures) ∙ sym (take_rest text c.min.result))
