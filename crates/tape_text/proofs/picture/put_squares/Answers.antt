use Rattle.std.proofs.Common.{◌++◌, ◌∙◌, List, ℕ, ap, sym, arith}
use Rattle.std.proofs.lemmas.List.{append_assoc}
use Rattle.il_script.specs.Sheet.{Sheet}
use Rattle.tape_text.specs.Map.{for_records}
use Rattle.tape_text.specs.Picture.{record_square}
use Rattle.tape_text.proofs.Records.{records_next}
use Rattle.tape_text.proofs.picture.put_squares.Goals as goal

pub records-preserved : goal.records-preserved
records-preserved c =
    let text = record_square c.args.size c.args.header.now c.args.slots.now.slots in
    let k = c.records.record_number in
    record {
      text = ap (λ (s : Sheet). s.text) c.put_square.ensures.text
          ∙ (λ i. c.records.invariant.text i ++ text k)
          ∙ append_assoc c.args.page.now.text (for_records text 0 k) (text k)
          ∙ ap (λ (l : List ℕ). c.args.page.now.text ++ l) (sym (records_next text k));
      size = omega (arith, c.put_square.ensures.size, c.records.invariant.size);
      room = ap (λ (s : Sheet). s.room) c.put_square.ensures.text ∙ c.records.invariant.room;
      cell = c.put_square.ensures.cell;
    }
