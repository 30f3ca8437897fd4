use Rattle.std.proofs.Common.{◌+◌, ◌∙◌, List, false, drop, sym, arith}
use Rattle.std.proofs.lemmas.List.{at_drop_all}
use Rattle.lif_dir.specs.declared.entries.Slot.{Slot}
use Rattle.tape_text.specs.Listing.{shown_files}
use Rattle.tape_text.specs.Map.{file_holding}
use Rattle.tape_text.proofs.Holdings.{holding_skips, holding_passes, holding_finds}
use Rattle.tape_text.proofs.holders.file_holding.Goals as goal
use Rattle.tape_text.proofs.holders.file_holding.Goals.{in-Some+else-has_record, in_default}

pub returns-then-has_record : goal.returns-then-has_record
returns-then-has_record c =
    sym (holding_finds c.args.record_number c.slots.number c.args.size c.args.slots.now.slots c.slots.place c.get.result.now c.get.ensures.slot
    c.in-Some.entry.now c.in-Some.ensures (sym c.has_record.ensures ∙ c.if-has_record.true))
    ∙ c.slots.invariant.rest

pub returns : goal.returns
returns c =
    sym (at_drop_all (λ (s : List Slot). file_holding c.args.record_number c.slots.number (shown_files false c.args.size s)) c.args.slots.now.slots c.slots.place (omega arith))
    ∙ c.slots.invariant.rest

pub slots-preserved : goal.slots-preserved
slots-preserved c =
    let k = c.args.record_number in
    let n = c.args.size in
    let slots = c.args.slots.now.slots in
    let left = shown_files false n (drop (c.slots.place + 1) slots) in
    let x = c.get.result.now in
    elim c.match-shown.branch [
      | in-Some+else-has_record w ↦ record {
        rest = (λ i. file_holding k (w.number-is i) left)
            ∙ holding_passes k c.slots.number n slots c.slots.place x c.get.ensures.slot w.in-Some.entry.now w.in-Some.ensures (sym w.has_record.ensures ∙ w.if-has_record.false)
            ∙ c.slots.invariant.rest;
        few = omega (arith, w.number-is, c.slots.invariant.few);
        end = c.slots.invariant.end;
      }
      | in_default w ↦ record {
        rest = (λ i. file_holding k (w.number-is i) left)
            ∙ holding_skips k c.slots.number n slots c.slots.place x c.get.ensures.slot w.in_default.ensures
            ∙ c.slots.invariant.rest;
        few = omega (arith, w.number-is, c.slots.invariant.few);
        end = c.slots.invariant.end;
      }
    ]
