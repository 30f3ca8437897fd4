use Rattle.std.proofs.Common.{◌≡◌, ◌++◌, ◌∙◌, ℕ, List, take, ap, sym, arith}
use Rattle.std.specs.List.{flat_map}
use Rattle.std.proofs.lemmas.List.{append_assoc}
use Rattle.il_script.specs.Sheet.{Sheet}
use Rattle.tape_text.specs.Listing.{shown_slot, shown_files, listed_line, volume_summary, room_of, widths_of}
use Rattle.tape_text.proofs.Steps.{lines_next}
use Rattle.tape_text.proofs.lines.put_listing.Goals as goal

after : (first volume lines more : List ℕ) → (first ++ (volume ++ lines)) ++ more ≡ first ++ (volume ++ (lines ++ more))
after first volume lines more = append_assoc first (volume ++ lines) more ∙ ap (λ (l : List ℕ). first ++ l) (append_assoc volume lines more)

pub slots-preserved : goal.slots-preserved
slots-preserved c =
    let all = c.args.all in
    let n = c.args.size in
    let slots = c.args.slots.now.slots in
    let widths = widths_of (shown_files all n slots) in
    let volume = volume_summary c.args.header.now (room_of n c.args.header.now slots) in
    let lines = flat_map (listed_line widths) (shown_files all n (take c.slots.place slots)) in
    record {
      text = ap (λ (s : Sheet). s.text) c.put_slot.ensures.text
          ∙ (λ i. c.slots.invariant.text i ++ flat_map (listed_line (c.slots.invariant.widths_are i)) (shown_slot all n c.get.result.now))
          ∙ after c.args.page.now.text volume lines (flat_map (listed_line widths) (shown_slot all n c.get.result.now))
          ∙ ap (λ (l : List ℕ). c.args.page.now.text ++ (volume ++ l)) (sym (lines_next widths all n slots c.slots.place c.get.result.now c.get.ensures.slot));
      size = omega (arith, c.put_slot.ensures.size, c.slots.invariant.size);
      room = ap (λ (s : Sheet). s.room) c.put_slot.ensures.text ∙ c.slots.invariant.room;
      cell = c.put_slot.ensures.cell;
      widths_are = c.slots.invariant.widths_are;
      narrow = c.slots.invariant.narrow;
    }
