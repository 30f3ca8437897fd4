use Rattle.std.proofs.Common.{sym, rules}
use Rattle.lif_dir.proofs.Bytes.{HasWidths, length_back}
use Rattle.lif_pack.proofs.placed.length_of.Goals as goal

pub returns : goal.returns
returns c =
    let widths : HasWidths c.args.entry = search rules in
    sym (length_back c.args.entry widths)
