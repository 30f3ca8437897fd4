use Rattle.std.proofs.Common.{map, arith}
use Rattle.lif_dir.specs.Entries.{slot_bytes}
use Rattle.lif_dir.proofs.Searching.{all_apart}
use Rattle.lif_dir.proofs.index.NameIndex.is_distinct.Goals as goal

pub returns-clause-apart : goal.returns-clause-apart
returns-clause-apart c = λ is j k less lt.
    all_apart (map slot_bytes c.args.slots.now) c.args.self.now.places.items c.requires.sorted (λ i under. c.loop-j.invariant i (omega (arith, under))) j k less (omega (arith, lt))
