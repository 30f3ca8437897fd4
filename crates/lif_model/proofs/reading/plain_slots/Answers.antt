use Rattle.std.proofs.Common.{◌∙◌, ◌++◌, ◌+◌, ap, sym, arith, ℕ, List, [], drop}
use Rattle.lif_model.specs.Directory.{entries_from, before_end}
use Rattle.lif_model.proofs.Directory.{entries_count, entry_of_all}
use Rattle.lif_model.proofs.Plain.{before_more, before_stops, before_ends}
use Rattle.lif_model.proofs.reading.plain_slots.Goals as goal

pub returns-then-is_end : goal.returns-then-is_end
returns-then-is_end c =
    let entry = c.entry_of-entry.ensures ∙ sym (entry_of_all c.args.tape.now c.four_at-start.result c.four_at-count.result c.loop-k.k c.loop-k-test.true) in
    before_stops (entries_from c.args.tape.now c.four_at-start.result c.four_at-count.result) c.loop-k.k c.loop-k.slots.items c.entry_of-entry.result _
    (omega (arith, entries_count c.args.tape.now c.four_at-start.result c.four_at-count.result, c.loop-k-test.true)) entry (sym c.is_end.ensures ∙ c.if-is_end.true) c.loop-k.invariant

pub loop-k-preserved : goal.loop-k-preserved
loop-k-preserved c =
    let entry = c.entry_of-entry.ensures ∙ sym (entry_of_all c.args.tape.now c.four_at-start.result c.four_at-count.result c.loop-k.k c.loop-k-test.true) in
    let all = entries_from c.args.tape.now c.four_at-start.result c.four_at-count.result in
    ap (λ (items : List (List ℕ)). items ++ before_end (drop (c.loop-k.k + 1) all)) c.in_ok-push.ensures.items
    ∙ before_more all c.loop-k.k c.loop-k.slots.items c.entry_of-entry.result _
    (omega (arith, entries_count c.args.tape.now c.four_at-start.result c.four_at-count.result, c.loop-k-test.true)) entry (sym c.is_end.ensures ∙ c.if-is_end.false) c.loop-k.invariant

pub returns : goal.returns
returns c =
    before_ends (entries_from c.args.tape.now c.four_at-start.result c.four_at-count.result) c.loop-k.k c.loop-k.slots.items [] _
    (omega (arith, entries_count c.args.tape.now c.four_at-start.result c.four_at-count.result, c.loop-k-test.false)) c.loop-k.invariant
