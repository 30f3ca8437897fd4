use Rattle.std.proofs.Common.{◌∙◌, ap, map}
use Rattle.std.specs.Prelude.{option_map}
use Rattle.lif_dir.specs.Entries.{name_bytes, slot_bytes}
use Rattle.lif_model.specs.Directory.{type_of}
use Rattle.lif_model.specs.Legal.{slot_named}
use Rattle.tape_changes.proofs.ByName.{kind_at}
use Rattle.tape_changes.proofs.replacing.kind_listed.Goals as goal

pub returns : goal.returns
returns g c =
    let slots = c.in-Some.slots.now.slots in
    kind_at _ _ slots _ c.kind_in.result c.in-Some.ensures.known
    (c.kind_in.ensures ∙ ap (λ name. option_map type_of (slot_named (map slot_bytes slots) name)) (c.bytes.ensures ∙ ap name_bytes c.name.ensures))
