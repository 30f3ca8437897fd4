use Rattle.std.proofs.Common.{get_or, [], map, sym, ap, ◌∙◌}
use Rattle.std.specs.Prelude.{Some, option_map}
use Rattle.lif_dir.specs.Entries.{slot_bytes, name_bytes, entry_bytes}
use Rattle.lif_plan.proofs.Found.{slot_is}
use Rattle.lif_plan.proofs.directory.Directory.entry_named.Goals as goal

pub returns-in_err-place : goal.returns-in_err-place
returns-in_err-place c =
    let slots = map slot_bytes c.args.self.now.table.slots in
    ap (option_map entry_bytes) c.from_residual.ensures ∙ sym (slot_is slots (name_bytes c.args.name.now) ∙ ap (option_map (λ k. get_or slots k [])) (sym c.in_err-place.ensures.place))

pub returns : goal.returns
returns c =
    let slots = map slot_bytes c.args.self.now.table.slots in
    ap Some c.entry.ensures ∙ sym (slot_is slots (name_bytes c.args.name.now) ∙ ap (option_map (λ k. get_or slots k [])) (sym c.in_ok-place.ensures.place))
