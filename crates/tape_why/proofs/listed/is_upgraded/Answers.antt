use Rattle.std.proofs.Common.{ℕ, List, [], map, sym, arith}
use Rattle.std.proofs.lemmas.List.{length-map}
use Rattle.lif_model.specs.declared.version.Version.TheVariants.{Two}
use Rattle.lif_model.specs.Volume.{is_redo_entry}
use Rattle.lif_model.proofs.Lists.{none_from}
use Rattle.lif_dir.specs.Entries.{slot_bytes}
use Rattle.tape_why.proofs.listed.is_upgraded.Goals as goal

pub returns : goal.returns
returns c =
    let slots : List (List ℕ) = map slot_bytes c.args.table.now.slots in
    sym (none_from [] (is_redo_entry c.args.size Two) slots (λ i lt. c.slots.invariant.none i (omega (arith, lt, length-map c.args.table.now.slots slot_bytes))))
