use Rattle.std.proofs.Common.{◌≡◌, ◌∙◌, List, ℕ, [], ap, get_or, map, set}
use Rattle.std.proofs.lemmas.List.{map-set}
use Rattle.lif_dir.specs.Entries.{entry_bytes, slot_bytes}
use Rattle.lif_dir.specs.Tables.{Table}
use Rattle.lif_model.specs.Packing.{unmarked}
use Rattle.lif_pack.proofs.memory.Packer.hold.Goals as goal

pub returns-clause-slots : goal.returns-clause-slots
returns-clause-slots c =
    let copied : map slot_bytes c.copy.new.self.slots.slots ≡ map slot_bytes c.args.slots.now.slots = ap (λ (t : Table). map slot_bytes t.slots) c.copy.ensures in
    let entry : entry_bytes c.entry-entry.result.now ≡ get_or (map slot_bytes c.args.slots.now.slots) c.args.redo [] =
    c.entry-entry.ensures ∙ ap (λ (xs : List (List ℕ)). get_or xs c.args.redo []) copied in
    ap (λ (t : Table). map slot_bytes t.slots) c.set.ensures ∙ map-set slot_bytes c.copy.new.self.slots.slots c.args.redo c.without_mark.result
    ∙ (λ i. set (copied i) c.args.redo ((c.without_mark.ensures.bytes ∙ ap unmarked entry) i))
