use Rattle.std.proofs.Common.{◌∙◌, ◌+◌, ◌*◌, ◌++◌, take, ap, sym, arith}
use Rattle.std.specs.Prelude.{Ok}
use Rattle.il_ports.specs.Counted.{failing}
use Rattle.il_ports.specs.MemoryRecords.{state_of, counted}
use Rattle.il_ports.proofs.RunsInMemory.{counted_more, passed_more, bytes_more, record_here}
use Rattle.il_ports.proofs.memory_records.MemoryRecordsRecords.read_run.Goals as goal

pub loop-i-preserved : goal.loop-i-preserved
loop-i-preserved c =
    let v = c.loop-i.invariant in
    let old = c.args.self.now in
    record {
      state = c.in_ok-count.ensures.counts ∙ ap (λ s. counted {T = Unit {0}} s (Ok tt)) v.state ∙ counted_more c.loop-i.i (state_of old);
      passed = passed_more old.calls c.loop-i.i old.fails.items v.passed (ap (λ s. failing (s.calls + 1) s.fails) (sym v.state) ∙ sym c.in_ok-count.ensures.listed);
      size = c.lay_out.ensures.size ∙ v.size;
      bytes = bytes_more old.records.items c.args.first c.loop-i.i _ _ v.bytes
          (c.lay_out.ensures.front ∙ ap (λ l. take (256 * c.loop-i.i) c.loop-i.into ++ l) (record_here old.records.items c.count.new.self.records.items (c.args.first + c.loop-i.i) _ c.index.result.now c.index.ensures
          (ap (λ s. s.records) c.in_ok-count.ensures.counts ∙ ap (λ s. s.records) v.state) (omega (arith, c.from.ensures)) (omega (arith, c.requires.within, c.loop-i-test.true, c.loop-i.auto.i-end))));
    }
