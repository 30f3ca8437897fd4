use Rattle.std.proofs.Common.{sym, rules}
use Rattle.lif_dir.proofs.Bytes.{HasWidths, kind_back, start_back, length_back, implementation_back}
use Rattle.lif_plan.proofs.directory.File.of.Goals as goal

pub returns : goal.returns
returns c =
    let widths : HasWidths c.args.entry = search rules in
    record {
      kind = sym (kind_back c.args.entry widths);
      first = sym (start_back c.args.entry widths);
      count = sym (length_back c.args.entry widths);
      implementation = sym (implementation_back c.args.entry widths);
    }
