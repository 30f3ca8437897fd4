use Rattle.std.proofs.Common.{◌≡◌, ◌+◌, ◌*◌, ◌++◌, ◌∙◌, ℕ, List, map, take, suc, ap, sym, arith}
use Rattle.std.proofs.Math.Nat.{mul-suc}
use Rattle.std.proofs.lemmas.List.{append_assoc}
use Rattle.il_script.specs.Sheet.{Sheet}
use Rattle.tape_text.specs.Listing.{shown_files, shown_slot}
use Rattle.tape_text.specs.Pages.{row_room}
use Rattle.tape_text.specs.Rows.{file_row, rows_text}
use Rattle.tape_text.proofs.Reading.{rows_next}
use Rattle.tape_text.proofs.table.put_files.Goals as goal

one_more : (row k : ℕ) → row * (k + 1) ≡ row * k + row
one_more row k =
    let one : k + 1 ≡ suc k = omega arith in
    ap (λ (j : ℕ). row * j) one ∙ mul-suc row k

pub slots-preserved : goal.slots-preserved
slots-preserved c =
    let page = c.args.page.now in
    let image = c.args.image.now in
    let row = file_row image c.args.header.now in
    let all = c.args.all in
    let n = c.args.size in
    let slots = c.args.slots.now.slots in
    let before = rows_text (map row (shown_files all n (take c.slots.place slots))) in
    let one = rows_text (map row (shown_slot all n c.get.result.now)) in
    record {
      text = ap (λ (s : Sheet). s.text) c.put_slot.ensures.text
          ∙ (λ i. c.slots.invariant.text i ++ one)
          ∙ append_assoc page.text before one
          ∙ ap (λ (l : List ℕ). page.text ++ l) (sym (rows_next image c.args.header.now all n slots c.slots.place c.get.result.now c.get.ensures.slot));
      size = omega (arith, c.put_slot.ensures.size, c.slots.invariant.size, one_more (row_room image) c.slots.place);
      room = ap (λ (s : Sheet). s.room) c.put_slot.ensures.text ∙ c.slots.invariant.room;
      cell = c.put_slot.ensures.cell;
    }
