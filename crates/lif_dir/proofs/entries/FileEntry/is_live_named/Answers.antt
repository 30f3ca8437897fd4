use Rattle.std.proofs.Common.{◌&&◌, ◌∙◌, rules, sym}
use Rattle.std.specs.Str.{bytes_eq}
use Rattle.lif_dir.proofs.Bytes.{name_back}
use Rattle.lif_dir.proofs.entries.FileEntry.is_live_named.Goals as goal

pub returns-then-is_live : goal.returns-then-is_live
returns-then-is_live c =
    c.eq.ensures ∙ (λ i. (sym c.if-is_live.true ∙ c.is_live.ensures) i && bytes_eq (sym (name_back c.args.self (search rules)) i) c.args.name.now)
