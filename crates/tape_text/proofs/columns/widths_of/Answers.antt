use Rattle.std.proofs.Common.{◌∙◌, ap, sym}
use Rattle.std.specs.Prelude.{fold}
use Rattle.tape_text.specs.declared.columns.Widths.{Widths}
use Rattle.tape_text.specs.Listing.{wider, shown_slot}
use Rattle.tape_text.proofs.Steps.{widths_next}
use Rattle.tape_text.proofs.columns.widths_of.Goals as goal

pub slots-preserved : goal.slots-preserved
slots-preserved c = record {
  widths = c.with_slot-widths.ensures.widths ∙ ap (λ (w : Widths). fold wider w (shown_slot c.args.all c.args.size c.get.result.now)) c.slots.invariant.widths
      ∙ sym (widths_next c.args.all c.args.size c.args.slots.now.slots c.slots.place c.get.result.now c.get.ensures.slot);
  narrow = c.with_slot-widths.ensures.narrow;
  room = c.with_slot-widths.ensures.room;
}
