use Rattle.std.proofs.Common.{arith, None, ap, subst, sym, ◌+◌, ◌∙◌}
use Rattle.std.specs.Prelude.{Ok}
use Rattle.il_script.specs.Sheet.{Sheet}
use Rattle.host_model.specs.Runs.{Summary, Tally}
use Rattle.il_host.specs.Generating.{line_at, total}
use Rattle.il_host.proofs.Answered.{answers-grow}
use Rattle.il_host.proofs.GeneratedRuns.{Generating, put_line_is, line_is_item, none_generated, one_more_generated, generated_ok, generated_not_ok, generated_front}
use Rattle.il_host.proofs.generating.answer_generated.Goals as goal

pub lines-init : goal.lines-init
lines-init g c =
    let v = g.P.Performer.view c.args.host.now in
    record {
      valid = c.requires.valid;
      made = subst (λ (t : Tally). Generating c.args.seed c.args.count 0 c.args.seed v v t) (sym c.new-counts.ensures)
          (none_generated c.args.seed c.args.count v (g.met.P.Performer.is_host c.args.host.now c.requires.valid));
      total = ap total c.new-counts.ensures;
      room = ap (λ (p : Sheet). p.room) c.requires.page;
      medium = omega arith;
    }

pub answer_line-requires-clause-item : goal.answer_line-requires-clause-item
answer_line-requires-clause-item g c =
    let state = c.lines.draws.state in
    line_is_item c.lines.place state c.text.result.now (put_line_is c.lines.page c.put_line.new.page (line_at c.lines.place state) c.text.result.now c.put_line.ensures.text c.text.ensures)

pub lines-preserved : goal.lines-preserved
lines-preserved g c =
    let v = g.P.Performer.view c.args.host.now in
    let w = g.P.Performer.view c.lines.host in
    let x = g.P.Performer.view c.answer_line.new.host in
    let s = c.lines.invariant in
    let a = c.answer_line.ensures in
    let answers = a.answers None in
    let grown = answers-grow a.item c.answer_line.result Summary w x None None (Ok tt) answers in
    let state = c.lines.draws.state in
    let line = put_line_is c.lines.page c.put_line.new.page (line_at c.lines.place state) c.text.result.now c.put_line.ensures.text c.text.ensures in
    record {
      valid = answers.valid;
      made = one_more_generated c.args.seed c.args.count c.lines.place state c.put_line.new.draws.state v w x c.lines.counts c.count.new.self c.text.result.now c.answer_line.result
          s.made c.lines-test.true line c.put_line.ensures.draws a c.count.ensures.counted;
      total = c.count.ensures.total ∙ ap (λ n. n + 1) s.total;
      room = ap (λ (p : Sheet). p.room) c.put_line.ensures.text ∙ s.room;
      medium = omega (arith, grown, s.medium);
    }

pub returns-in-Err-clause-answers : goal.returns-in-Err-clause-answers
returns-in-Err-clause-answers g c = λ left.
    generated_front c.args.seed c.args.count c.lines.place c.lines.draws.state _ _ c.lines.counts c.lines.page c.clear.new.self c.put_summary.new.page c.text-2.result.now left _ _
    c.lines.invariant.made c.lines-test.false c.clear.ensures c.put_summary.ensures c.text-2.ensures c.in-Err.ensures.bytes

pub returns-in-Ok-clause-answers : goal.returns-in-Ok-clause-answers
returns-in-Ok-clause-answers g c = λ left.
    generated_ok c.args.seed c.args.count c.lines.place c.lines.draws.state _ _ c.lines.counts c.lines.page c.clear.new.self c.put_summary.new.page c.text-2.result.now left _ _
    c.lines.invariant.made c.lines-test.false c.clear.ensures c.put_summary.ensures c.text-2.ensures c.in-Ok.ensures.bytes (sym c.is_all_ok.ensures ∙ c.if-is_all_ok.true)

pub returns-clause-answers : goal.returns-clause-answers
returns-clause-answers g c = λ left.
    generated_not_ok c.args.seed c.args.count c.lines.place c.lines.draws.state _ _ c.lines.counts c.lines.page c.clear.new.self c.put_summary.new.page c.text-2.result.now left _ _
    c.lines.invariant.made c.lines-test.false c.clear.ensures c.put_summary.ensures c.text-2.ensures c.in-Ok-2.ensures.bytes (sym c.is_all_ok.ensures ∙ c.if-is_all_ok.false)
