use Rattle.std.proofs.Common.{◌<◌, ◌∙◌, length, map, arith, sym}
use Rattle.std.proofs.lemmas.List.{length-map}
use Rattle.lif_dir.specs.Entries.{entry_bytes, slot_bytes}
use Rattle.tape_changes.proofs.ByName.{kind_here}
use Rattle.tape_changes.proofs.replacing.kind_in.Goals as goal

pub returns-then-is_live_named : goal.returns-then-is_live_named
returns-then-is_live_named c =
    let slots = c.args.slots.now.slots in
    let within : c.slots.place < length (map slot_bytes slots) = omega (arith, c.slots-test.true, c.slots.auto.place-end, c.len-place-end.ensures.count, length-map slots slot_bytes) in
    kind_here (map slot_bytes slots) c.args.name.now c.slots.place (entry_bytes c.entry-entry.result.now) c.kind_of.result within c.entry-entry.ensures c.slots.invariant
    (sym c.is_live_named.ensures ∙ c.if-is_live_named.true) c.kind_of.ensures
