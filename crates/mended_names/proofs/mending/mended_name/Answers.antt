use Rattle.std.proofs.Common.{◌≡◌, ◌∙◌, ◌++◌, Option, None, map, sym, ap}
use Rattle.std.specs.Option.{option_or}
use Rattle.lif_dir.specs.Names.{new_name}
use Rattle.lif_dir.specs.declared.names.NewName.{NewName}
use Rattle.mended_names.specs.Mending.{mended}
use Rattle.mended_names.proofs.mending.mended_name.Goals as goal

pub returns-in-None : goal.returns-in-None
returns-in-None c =
    let own : new_name c.args.name.now ≡ None = sym c.of.ensures ∙ c.in-None.is in
    c.mended.ensures ∙ sym (ap (λ (o : Option NewName). option_or o (mended (map new_name c.args.names.now ++ c.args.given.now) c.args.name.now)) own)
