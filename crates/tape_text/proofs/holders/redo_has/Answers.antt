use Rattle.std.proofs.Common.{◌∙◌, List, true, sym, arith}
use Rattle.std.proofs.lemmas.List.{at_drop_all}
use Rattle.std.specs.List.{list_any}
use Rattle.lif_dir.specs.declared.entries.Slot.{Slot}
use Rattle.tape_text.specs.Listing.{shown_files}
use Rattle.tape_text.specs.Map.{is_of_redo}
use Rattle.tape_text.proofs.Holdings.{any_skips, any_passes, any_finds}
use Rattle.tape_text.proofs.holders.redo_has.Goals as goal
use Rattle.tape_text.proofs.holders.redo_has.Goals.{in-Some+else-is_of_redo, in_default}

pub returns-then-is_of_redo : goal.returns-then-is_of_redo
returns-then-is_of_redo c =
    sym (any_finds (is_of_redo c.args.size c.args.record_number) true c.args.size c.args.slots.now.slots c.slots.place c.get.result.now c.get.ensures.slot
    c.in-Some.entry.now c.in-Some.ensures (sym c.is_of_redo.ensures ∙ c.if-is_of_redo.true))
    ∙ c.slots.invariant

pub returns : goal.returns
returns c =
    sym (at_drop_all (λ (s : List Slot). list_any (is_of_redo c.args.size c.args.record_number) (shown_files true c.args.size s)) c.args.slots.now.slots c.slots.place (omega arith))
    ∙ c.slots.invariant

pub slots-preserved : goal.slots-preserved
slots-preserved c =
    let test = is_of_redo c.args.size c.args.record_number in
    let n = c.args.size in
    let slots = c.args.slots.now.slots in
    let x = c.get.result.now in
    elim c.match-shown.branch [
      | in-Some+else-is_of_redo w ↦
          any_passes test true n slots c.slots.place x c.get.ensures.slot w.in-Some.entry.now w.in-Some.ensures (sym w.is_of_redo.ensures ∙ w.if-is_of_redo.false) ∙ c.slots.invariant
      | in_default w ↦ any_skips test true n slots c.slots.place x c.get.ensures.slot w.in_default.ensures ∙ c.slots.invariant
    ]
