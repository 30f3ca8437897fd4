use Rattle.std.proofs.Common.{ap, ◌∙◌}
use Rattle.lif_model.specs.Directory.{name_of, date_of, implementation_of}
use Rattle.lif_dir.specs.Entries.{entry_bytes}
use Rattle.lif_dir.proofs.Bytes.{bytes_back, same_entry}
use Rattle.lif_dir.proofs.entries.FileEntry.of.Goals as goal

pub returns-clause-bytes : goal.returns-clause-bytes
unfolding name_of date_of implementation_of
returns-clause-bytes c =
    ap entry_bytes
    (same_entry c.bytes_at.ensures c.two_at.ensures c.four_at.ensures c.four_at-2.ensures c.bytes_at-2.ensures c.two_at-2.ensures c.bytes_at-3.ensures)
    ∙ bytes_back c.args.bytes.now c.told-bytes c.fits-bytes
