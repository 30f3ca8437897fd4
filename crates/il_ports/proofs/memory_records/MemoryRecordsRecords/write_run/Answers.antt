use Rattle.std.proofs.Common.{◌≡◌, ◌<◌, ◌∙◌, ◌+◌, ◌++◌, ℕ, List, [], ◌∷◌, ap, sym, subst, rules, arith, length, get_or, set, drop}
use Rattle.std.specs.Prelude.{Some, Err, Result}
use Rattle.lif_model.specs.Shelf.{piece, cut}
use Rattle.lif_model.specs.Stops.{Torn}
use Rattle.lif_model.specs.Transfers.{PartlyReplaced}
use Rattle.lif_model.proofs.History.{elapses_same_first}
use Rattle.lif_model.proofs.Made.{length_cut}
use Rattle.lif_model.proofs.Runs.{piece_at, drop_next, torn_next, partly_replaced, replaced_all, elapses_further}
use Rattle.il_ports.specs.Counted.{failing}
use Rattle.il_ports.specs.MemoryRecords.{state_of, written_run}
use Rattle.il_ports.specs.declared.records.Trouble.{Trouble}
use Rattle.il_ports.proofs.RunsInMemory.{passed_more, failed_run, written_more, written_part, replaced_next, wrote_part, wrote_all}
use Rattle.il_ports.proofs.memory_records.MemoryRecordsRecords.write_run.Goals as goal

pub returns-in_err-count-clause-content : goal.returns-in_err-count-clause-content
returns-in_err-count-clause-content c =
    let v = c.loop-i.invariant in
    let err : c.from_residual.result ≡ Err c.in_err-count.field-0.0 = search rules in
    let same : c.count.new.self.records.items ≡ c.loop-i.self.records.items = ap (λ s. s.records) c.count.ensures.counts in
    wrote_part _ _ c.args.self.now.records.items c.count.new.self.records.items _ c.in_err-count.field-0.0 err
    (subst (PartlyReplaced c.args.first (cut c.args.count c.args.from.now) c.args.self.now.records.items) (sym same) (partly_replaced _ c.loop-i.i _ _ _ v.replaced))

pub returns-in_err-count-clause-ran : goal.returns-in_err-count-clause-ran
returns-in_err-count-clause-ran c =
    let v = c.loop-i.invariant in
    let old = c.args.self.now in
    let pieces = cut c.args.count c.args.from.now in
    let long : length pieces ≡ c.args.count = length_cut c.args.count c.args.from.now in
    let trouble = c.in_err-count.field-0.0 in
    let err : c.from_residual.result ≡ Err trouble = search rules in
    let listed : failing (old.calls + c.loop-i.i + 1) old.fails.items ≡ Some trouble = ap (λ s. failing (s.calls + 1) s.fails) (sym v.state) ∙ sym c.in_err-count.ensures.listed in
    let now = written_part c.args.first c.loop-i.i pieces (state_of old) (state_of c.loop-i.self) (state_of c.count.new.self) trouble v.state c.in_err-count.ensures.counts in
    record {
      done = c.loop-i.i;
      ends = failed_run (length pieces) c.loop-i.i (state_of old) _ trouble err (omega (arith, c.loop-i-test.true, c.loop-i.auto.i-end, long)) v.passed listed;
      state = now ∙ ap (λ (r : Result (Unit {0}) Trouble). written_run c.args.first pieces c.loop-i.i (state_of old) r) (sym err);
    }

pub loop-i-preserved : goal.loop-i-preserved
loop-i-preserved c =
    let v = c.loop-i.invariant in
    let old = c.args.self.now in
    let loop = c.loop-i.self in
    let pieces = cut c.args.count c.args.from.now in
    let long : length pieces ≡ c.args.count = length_cut c.args.count c.args.from.now in
    let more : c.loop-i.i < length pieces = omega (arith, c.loop-i-test.true, c.loop-i.auto.i-end, long) in
    let bytes : c.next_record.result ≡ get_or pieces c.loop-i.i [] =
    c.next_record.ensures.content ∙ ap piece v.rest ∙ sym (piece_at c.args.count c.loop-i.i c.args.from.now (omega (arith, more, long))) in
    let put : c.put.new.self.records.items ≡ set loop.records.items (c.args.first + c.loop-i.i) c.next_record.result =
    ap (λ s. s.records) c.put.ensures ∙ ap (λ s. set s.records (c.args.first + c.loop-i.i) c.next_record.result) c.in_ok-count.ensures.counts in
    let w : ℕ × List ℕ = (c.args.first + c.loop-i.i, c.next_record.result) in
    let within : w.0 < length loop.records.items = omega (arith, c.requires.within, more, long, v.replaced.records) in
    record {
      state = written_more c.args.first c.loop-i.i pieces (state_of old) (state_of loop) (state_of c.count.new.self) (state_of c.put.new.self) c.next_record.result more v.state c.in_ok-count.ensures.counts bytes c.put.ensures;
      passed = passed_more old.calls c.loop-i.i old.fails.items v.passed (ap (λ s. failing (s.calls + 1) s.fails) (sym v.state) ∙ sym c.in_ok-count.ensures.listed);
      rest = c.after_record-rest.ensures ∙ ap (λ (l : List ℕ). drop 256 l) v.rest ∙ drop_next c.loop-i.i c.args.from.now;
      replaced = replaced_next c.args.first c.loop-i.i pieces old.records.items loop.records.items _ c.next_record.result more bytes put (omega (arith, c.requires.within, long)) v.replaced;
      time = elapses_further _ _ _ _ _ _ old.records.items loop.records.items (PartlyReplaced c.args.first pieces) (Torn w.0) v.time
          (elapses_same_first loop.first.items c.put.new.self.first.items loop.writes.items c.put.new.self.writes.items w
          (ap (λ s. s.first) c.put.ensures ∙ ap (λ s. s.first) c.in_ok-count.ensures.counts) (ap (λ s. s.writes) c.put.ensures ∙ ap (λ s. s.writes ++ w ∷ []) c.in_ok-count.ensures.counts)
          loop.records.items loop.replays (c.next_record.ensures.whole ∙ sym (loop.shaped w.0 within)) within)
          (λ x torn. torn_next c.args.first c.loop-i.i pieces old.records.items loop.records.items more v.replaced x torn);
    }

pub returns-clause-content : goal.returns-clause-content
returns-clause-content c =
    let pieces = cut c.args.count c.args.from.now in
    let long : length pieces ≡ c.args.count = length_cut c.args.count c.args.from.now in
    wrote_all c.args.first pieces c.args.self.now.records.items c.loop-i.self.records.items (replaced_all c.args.first c.loop-i.i pieces _ _ (omega (arith, long, c.loop-i-test.false, c.loop-i.auto.i-end)) c.loop-i.invariant.replaced)

pub returns-clause-ran : goal.returns-clause-ran
returns-clause-ran c =
    let pieces = cut c.args.count c.args.from.now in
    let long : length pieces ≡ c.args.count = length_cut c.args.count c.args.from.now in
    record {
      done = c.loop-i.i;
      ends = record { in_range = omega (arith, long, c.loop-i.auto.i-end); passed = c.loop-i.invariant.passed; ended = omega (arith, long, c.loop-i-test.false, c.loop-i.auto.i-end) };
      state = c.loop-i.invariant.state;
    }
