use Rattle.std.proofs.Common.{◌≡◌, ◌+◌, ◌++◌, take, drop, get_or, ap, sym, subst, ◌∙◌, arith, rules}
use Rattle.std.proofs.Math.Seq.{take-length}
use Rattle.il_frames.specs.declared.entry.Entry.{Entry}
use Rattle.il_frames.specs.declared.entry.Outcome.TheVariants.{Back}
use Rattle.il_frames.specs.declared.frame.Class.TheVariants.{Dab}
use Rattle.il_frames.specs.Entries.{entry_text}
use Rattle.il_script.specs.Replies.{text_line}
use Rattle.host_model.specs.Replies.{trace_text}
use Rattle.il_ports.specs.Writing.{WritesAll}
use Rattle.il_host.specs.Writing.{Waits}
use Rattle.il_host.proofs.Known.{stopped_as, stopped_within, waits_stopped, waits_then, waits_more, waits_written, trace-split, trace-more}
use Rattle.il_host.proofs.write.write_trace.Goals as goal

-- stands where a log has no entry
abbrev no_entry : Entry
no_entry = record { source = 0; frame = record { class = Dab; byte = 0 }; outcome = Back (record { class = Dab; byte = 0 }) }

pub returns-in_err-make_room-clause-bytes : goal.returns-in_err-make_room-clause-bytes
returns-in_err-make_room-clause-bytes g c =
    let log = c.args.log.now in
    let i = c.entries.entry-index in
    let before = g.K.Sink.written c.args.out.now in
    let here = g.K.Sink.written c.entries.out in
    let now = g.K.Sink.written c.make_room.new.out in
    stopped_as before now (trace_text log) c.from_residual.result c.from_residual.ensures.0
    (stopped_within before now (trace_text log) (trace_text (take i log)) (trace_text (drop i log)) (trace-split log i)
    (waits_stopped before here now (trace_text (take i log)) c.entries.waiting.items c.entries.invariant.waits c.in_err-make_room.ensures.bytes))

pub entries-preserved : goal.entries-preserved
entries-preserved g c =
    let log = c.args.log.now in
    let i = c.entries.entry-index in
    let line = text_line (entry_text (get_or log i no_entry)) in
    let before = g.K.Sink.written c.args.out.now in
    let here = g.K.Sink.written c.entries.out in
    let now = g.K.Sink.written c.make_room.new.out in
    let waited = waits_then before here now (trace_text (take i log)) c.entries.waiting.items c.make_room.new.waiting.items c.entries.invariant.waits c.in_ok-make_room.ensures.bytes in
    let more = waits_more before now (trace_text (take i log)) c.make_room.new.waiting.items line waited in
    let text = subst (λ t. Waits before now t (c.make_room.new.waiting.items ++ line)) (sym (trace-more log i no_entry c.entries-test.true)) more in
    record {
      waits = subst (λ w. Waits before now (trace_text (take (i + 1) log)) w) (sym c.put_entry.ensures) text;
      faults = search rules;
    }

pub returns-clause-bytes : goal.returns-clause-bytes
returns-clause-bytes g c =
    let log = c.args.log.now in
    let before = g.K.Sink.written c.args.out.now in
    let here = g.K.Sink.written c.entries.out in
    let now = g.K.Sink.written c.write_all.new.out in
    let waiting = c.entries.waiting.items in
    let all : take c.entries.entry-index log ≡ log = ap (λ i. take i log) (omega arith) ∙ take-length log in
    waits_written before here now (trace_text log) waiting c.write_all.result (subst (λ l. Waits before here (trace_text l) waiting) all c.entries.invariant.waits)
    (subst (λ bytes. WritesAll here now bytes c.write_all.result) c.deref.ensures.0 c.write_all.ensures.bytes)
