use Rattle.std.proofs.Common.{◌∷◌, [], refl, rules}
use Rattle.lif_dir.proofs.Edited.{new_is}
use Rattle.lif_dir.proofs.entries.FileEntry.new.Goals as goal

pub returns : goal.returns
returns c = new_is (record { name = c.args.name; kind = c.args.kind; start = c.args.start; length = c.args.length; date = 0 ∷ 0 ∷ 0 ∷ 0 ∷ 0 ∷ 0 ∷ []; volume = 0x8001; implementation = c.args.implementation }) (search rules) refl refl
