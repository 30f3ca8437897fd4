use Rattle.std.proofs.Common.{arith, ◌≡◌, ℕ, ◌+◌, ◌-◌, ◌≤◌, [], ◌++◌, List, length, take, drop, ap, ap₂, sym, refl, ◌∙◌, length-drop}
use Rattle.std.proofs.lemmas.List.{take_all, length-take-le}
use Rattle.il_script.specs.declared.limits.TheConstants.{KEPT_OF_LINE}
use Rattle.il_script.specs.LineCut.{LineCut, line_cut}
use Rattle.il_script.specs.Told.{line_of_length}
use Rattle.il_script.proofs.Scans.{window, window-held, length-window, scans-line-from}
use Rattle.il_script.proofs.lines.Lines.scan.Goals as goal

pub returns-then-found-clause-scans : goal.returns-then-found-clause-scans
returns-then-found-clause-scans c =
    let chunk = c.self.inside.chunk.items in
    let h = c.move_line-count.ensures.found c.if-found.true in
    let w : window c.deref.result.now c.self.inside.from c.min-ahead.result ≡ window chunk c.self.inside.from c.min-ahead.result = ap (λ l. window l c.self.inside.from c.min-ahead.result) c.deref.ensures.value in
    let size : length (window c.deref.result.now c.self.inside.from c.min-ahead.result) ≡ c.min-ahead.result = ap length w ∙ length-window chunk c.self.inside.from c.self.inside.to c.min-ahead.result (omega arith) (omega arith) in
    let size-2 : length (window chunk c.self.inside.from c.min-ahead.result) ≡ c.min-ahead.result = length-window chunk c.self.inside.from c.self.inside.to c.min-ahead.result (omega arith) (omega arith) in
    let few : c.move_line-count.result.0 ≤ c.min-ahead.result = omega (arith, c.move_line-count.ensures.count, size) in
    let t = c.told_as-line.ensures in let v = c.len.ensures in let z = c.move_line-count.new.line.ok.0 in
    scans-line-from _ _ _ _ (take c.move_line-count.result.0 (window chunk c.self.inside.from c.min-ahead.result)) h.0 c.self.view_is (record {
      held = window-held chunk c.self.inside.from c.self.inside.to c.min-ahead.result c.move_line-count.result.0 (omega arith) few;
      taken = ap (λ k. c.self.inside.taken + k) (sym (length-take-le c.move_line-count.result.0 (window chunk c.self.inside.from c.min-ahead.result) (omega (arith, few, size-2))));
      ended = refl;
      line = ap (λ l. line_cut (take c.move_line-count.result.0 l)) (sym w) ∙ h.1;
      begun = refl;
      text = h.2 ∙ ap (λ l. take KEPT_OF_LINE (l ++ h.0)) c.begin_line.ensures.items;
    }) (t ∙ ap line_of_length (v ∙ z))

pub returns-then-self-clause-scans : goal.returns-then-self-clause-scans
returns-then-self-clause-scans c =
    let chunk = c.self.inside.chunk.items in
    let h = c.move_line-count.ensures.none c.if-found.false in
    let w : window c.deref.result.now c.self.inside.from c.min-ahead.result ≡ window chunk c.self.inside.from c.min-ahead.result = ap (λ l. window l c.self.inside.from c.min-ahead.result) c.deref.ensures.value in
    let size : length (window chunk c.self.inside.from c.min-ahead.result) ≡ c.min-ahead.result = length-window chunk c.self.inside.from c.self.inside.to c.min-ahead.result (omega arith) (omega arith) in
    let all : c.move_line-count.result.0 ≡ c.min-ahead.result = h.0 ∙ ap length w ∙ size in
    let moved : take c.move_line-count.result.0 (window chunk c.self.inside.from c.min-ahead.result) ≡ window chunk c.self.inside.from c.min-ahead.result = take_all _ _ (omega arith) in
    rw (← c.self.view_is) (
      window chunk c.self.inside.from c.min-ahead.result,
      record {
        held = window-held chunk c.self.inside.from c.self.inside.to c.min-ahead.result c.move_line-count.result.0 (omega arith) (omega arith) ∙ ap (λ l. l ++ take (c.self.inside.to - (c.self.inside.from + c.move_line-count.result.0)) (drop (c.self.inside.from + c.move_line-count.result.0) chunk)) moved;
        taken = ap (λ k. c.self.inside.taken + k) (all ∙ sym size);
        ended = refl;
        none = ap line_cut (sym w) ∙ h.1.is ∙ ap (λ (l : List ℕ). let k : LineCut = record { whole = []; open_line = l } in k) w;
        begun = h.2 ∙ ap₂ (λ a b. take KEPT_OF_LINE (a ++ b)) c.begin_line.ensures.items w;
      },
      (omega (arith, all, c.move_line-count.ensures.count), rw (length-take-le (c.self.inside.to - (c.self.inside.from + c.move_line-count.result.0)) (drop (c.self.inside.from + c.move_line-count.result.0) chunk) (omega (arith, length-drop (c.self.inside.from + c.move_line-count.result.0) chunk))) (omega arith)),
    )
