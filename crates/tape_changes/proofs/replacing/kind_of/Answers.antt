use Rattle.std.proofs.Common.{sym, rules}
use Rattle.lif_dir.proofs.Bytes.{HasWidths, kind_back}
use Rattle.tape_changes.proofs.replacing.kind_of.Goals as goal

pub returns : goal.returns
returns c =
    let widths : HasWidths c.args.entry = search rules in
    sym (kind_back c.args.entry widths)
