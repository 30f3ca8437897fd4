use Rattle.std.proofs.Common.{◌+◌, ◌++◌, ◌∙◌, List, ℕ, false, length, take, ap, sym, arith}
use Rattle.std.proofs.lemmas.List.{append_assoc}
use Rattle.il_script.specs.Sheet.{Sheet}
use Rattle.tape_text.specs.Listing.{shown_slot, shown_files, widths_of}
use Rattle.tape_text.specs.Map.{legend_from}
use Rattle.tape_text.proofs.Records.{legend_next}
use Rattle.tape_text.proofs.Steps.{files_next}
use Rattle.tape_text.proofs.map.put_legend.Goals as goal

pub slots-preserved : goal.slots-preserved
slots-preserved c =
    let n = c.args.size in
    let slots = c.args.slots.now.slots in
    let widths = widths_of (shown_files false n slots) in
    let files = shown_files false n (take c.slots.place slots) in
    let more = shown_slot false n c.get.result.now in
    record {
      text = ap (λ (s : Sheet). s.text) c.put_legend_of-number.ensures.text
          ∙ (λ i. c.slots.invariant.text i ++ legend_from (c.slots.invariant.widths_are i) (c.slots.invariant.number_is i) more)
          ∙ append_assoc c.args.page.now.text (legend_from widths 0 files) (legend_from widths (length files) more)
          ∙ ap (λ (l : List ℕ). c.args.page.now.text ++ l) (sym (legend_next widths n slots c.slots.place c.get.result.now c.get.ensures.slot));
      number_is = c.put_legend_of-number.ensures.number ∙ (λ i. c.slots.invariant.number_is i + length more)
          ∙ sym (files_next false n slots c.slots.place c.get.result.now c.get.ensures.slot);
      few = omega (arith, c.put_legend_of-number.ensures.bound, c.slots.invariant.few);
      end = omega arith;
      size = omega (arith, c.put_legend_of-number.ensures.size, c.slots.invariant.size);
      room = ap (λ (s : Sheet). s.room) c.put_legend_of-number.ensures.text ∙ c.slots.invariant.room;
      cell = c.put_legend_of-number.ensures.cell;
      widths_are = c.slots.invariant.widths_are;
      narrow = c.slots.invariant.narrow;
    }
