use Rattle.std.proofs.Common.{◌∙◌, ◌/◌, ◌%◌, ◌+◌, ◌*◌, ℕ, List, get_or, set, ap}
use Rattle.lif_redo.proofs.Numbers.{partly_more, partly_all}
use Rattle.lif_redo.proofs.texts.targets_record.Goals as goal

pub loop-i-preserved : goal.loop-i-preserved
loop-i-preserved c =
    let t : ℕ = get_or c.args.targets.now c.loop-i.i 0 in
    c.put_number-in-loop-i.ensures
    ∙ ap (λ (bs : List ℕ). set (set bs (10 + 2 * c.loop-i.i) (t / 256)) (10 + 2 * c.loop-i.i + 1) (t % 256)) c.loop-i.invariant
    ∙ partly_more c.args.version _ c.loop-i.i c.args.targets.now c.loop-i-test.true c.requires

pub returns : goal.returns
returns c = c.loop-i.invariant ∙ partly_all c.args.version c.loop-i.i c.args.targets.now c.loop-i-test.false c.requires
