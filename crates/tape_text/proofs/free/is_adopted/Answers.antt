use Rattle.std.proofs.Common.{[], map, sym, ap, ◌∙◌, arith}
use Rattle.std.proofs.lemmas.List.{length-map, at_drop_all}
use Rattle.std.specs.List.{list_any}
use Rattle.lif_model.specs.Volume.{is_redo_file}
use Rattle.lif_dir.specs.Entries.{slot_bytes}
use Rattle.tape_text.proofs.Places.{any_here, any_next}
use Rattle.tape_text.proofs.free.is_adopted.Goals as goal

pub slots-preserved : goal.slots-preserved
slots-preserved c =
    any_next (is_redo_file c.args.size) (map slot_bytes c.args.slots.now.slots) c.slots.place [] (omega (arith, length-map c.args.slots.now.slots slot_bytes))
    (sym (ap (is_redo_file c.args.size) c.entry.ensures) ∙ sym c.is_redo_file.ensures ∙ c.if-is_redo_file.false)
    ∙ c.slots.invariant

pub returns-then-is_redo_file : goal.returns-then-is_redo_file
returns-then-is_redo_file c =
    sym (any_here (is_redo_file c.args.size) (map slot_bytes c.args.slots.now.slots) c.slots.place [] (omega (arith, length-map c.args.slots.now.slots slot_bytes))
    (sym (ap (is_redo_file c.args.size) c.entry.ensures) ∙ sym c.is_redo_file.ensures ∙ c.if-is_redo_file.true))
    ∙ c.slots.invariant

pub returns : goal.returns
returns c = sym (at_drop_all (list_any (is_redo_file c.args.size)) (map slot_bytes c.args.slots.now.slots) c.slots.place (omega (arith, length-map c.args.slots.now.slots slot_bytes))) ∙ c.slots.invariant
