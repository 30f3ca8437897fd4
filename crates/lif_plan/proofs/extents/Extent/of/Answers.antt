use Rattle.std.proofs.Common.{sym, rules}
use Rattle.lif_dir.proofs.Bytes.{HasWidths, start_back}
use Rattle.lif_plan.proofs.extents.Extent.of.Goals as goal

pub returns : goal.returns
returns c =
    let widths : HasWidths c.args.entry = search rules in
    let start = sym (start_back c.args.entry widths) in
    λ i. record { start = start i; end = c.end.ensures.end i }
