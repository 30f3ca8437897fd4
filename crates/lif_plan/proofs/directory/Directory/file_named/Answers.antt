use Rattle.std.proofs.Common.{◌≡◌, ◌&&◌, false, map, refl, sym, ap, ◌∙◌}
use Rattle.std.specs.Prelude.{is_some}
use Rattle.std.specs.Str.{bytes_eq}
use Rattle.std.proofs.lemmas.Bool.{and_left, and_right}
use Rattle.lif_model.specs.Volume.{redo_name, is_adopted}
use Rattle.lif_dir.specs.Entries.{name_bytes, entry_bytes, slot_bytes}
use Rattle.lif_plan.proofs.Found.{has_slot}
use Rattle.lif_plan.proofs.directory.Directory.file_named.Goals as goal
use Rattle.lif_plan.proofs.directory.Directory.file_named.Goals.{else-eq-via-then-eq+else-is_adopted, else-eq-via-else-eq}

pub returns-in-Some-clause-refusal : goal.returns-in-Some-clause-refusal
returns-in-Some-clause-refusal c = λ v same.
    let slots = map slot_bytes c.args.self.now.table.slots in
    let off : (is_adopted c.args.size slots && bytes_eq (name_bytes c.args.name.now) redo_name) ≡ false = elim c.else-eq.branch [
      | else-eq-via-then-eq+else-is_adopted w ↦ and_left _ _ (sym w.is_adopted.ensures ∙ w.if-is_adopted.false)
      | else-eq-via-else-eq w ↦ and_right _ _ (ap (λ b. bytes_eq b redo_name) (sym c.bytes.ensures) ∙ sym c.eq.ensures ∙ w.if-eq.false)
    ] in
    simp (same, off, has_slot slots (name_bytes c.args.name.now) ∙ ap is_some (sym c.in-Some.ensures)) refl

pub returns-in-None-clause-refusal : goal.returns-in-None-clause-refusal
returns-in-None-clause-refusal c = λ v same.
    let slots = map slot_bytes c.args.self.now.table.slots in
    let off : (is_adopted c.args.size slots && bytes_eq (name_bytes c.args.name.now) redo_name) ≡ false = elim c.else-eq.branch [
      | else-eq-via-then-eq+else-is_adopted w ↦ and_left _ _ (sym w.is_adopted.ensures ∙ w.if-is_adopted.false)
      | else-eq-via-else-eq w ↦ and_right _ _ (ap (λ b. bytes_eq b redo_name) (sym c.bytes.ensures) ∙ sym c.eq.ensures ∙ w.if-eq.false)
    ] in
    simp (same, off, has_slot slots (name_bytes c.args.name.now) ∙ ap is_some (sym c.in-None.ensures)) refl

pub returns-in-Some-clause-slot : goal.returns-in-Some-clause-slot
returns-in-Some-clause-slot c = (entry_bytes c.in-Some.entry, sym c.in-Some.ensures, c.of.ensures)
