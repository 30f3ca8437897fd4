use Rattle.std.proofs.Common.{◌≡◌, take}
use Rattle.host_model.specs.Replies.{trace_text}
use Rattle.il_host.specs.Writing.{Waits}
use Rattle.il_host.proofs.write.write_trace.Given as goal

abbrev pub invariant-entries : goal.invariant-entries
invariant-entries g l = record {
  waits : Waits (g.K.Sink.written l.fn.out) (g.K.Sink.written l.out) (trace_text (take l.entry-index l.log)) l.waiting.items;
  faults : g.K.Sink.faults l.out ≡ g.K.Sink.faults l.fn.out;
}
