use Rattle.std.proofs.Common.{◌≡◌, ◌≤◌, ◌++◌, ◌-◌, ◌∙◌, ap, sym, ℕ, List, length, drop, replicate, arith}
use Rattle.std.proofs.lemmas.List.{take_all, drop-replicate}
use Rattle.lif_model.specs.Shelf.{piece}
use Rattle.tape_why.proofs.image.first_piece.Goals as goal

pub returns-then-bytes-lt256-clause-content : goal.returns-then-bytes-lt256-clause-content
unfolding piece
returns-then-bytes-lt256-clause-content c =
    let rest : List ℕ = c.args.bytes.now in
    let short : length rest ≤ 256 = omega arith in
    let filled : c.copy_from_slice.new.self ≡ rest = c.copy_from_slice.ensures.after in
    let zeros : drop (length rest) (replicate 256 0) ≡ replicate (256 - length rest) 0 = drop-replicate (length rest) 256 0 in
    (λ i. filled i ++ zeros i) ∙ ap (λ (l : List ℕ). l ++ replicate (256 - length rest) 0) (sym (take_all 256 rest short))
