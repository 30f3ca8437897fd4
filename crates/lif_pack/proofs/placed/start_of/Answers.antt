use Rattle.std.proofs.Common.{sym, rules}
use Rattle.lif_dir.proofs.Bytes.{HasWidths, start_back}
use Rattle.lif_pack.proofs.placed.start_of.Goals as goal

pub returns : goal.returns
returns c =
    let widths : HasWidths c.args.entry = search rules in
    sym (start_back c.args.entry widths)
