use Rattle.std.proofs.Common.{length, arith}
use Rattle.il_ports.proofs.ImageBytes.{cut_next, cut_end, shaped_next}
use Rattle.il_ports.proofs.image.lay_in.Goals as goal

pub loop-record-preserved : goal.loop-record-preserved
loop-record-preserved c = record {
  so_far = cut_next (length c.args.tape.now) c.loop-record.record-index c.loop-record.tape c.loop-record.rest.now _ _ _ c.next_record.ensures.content c.after_record-rest.ensures (omega arith) (omega arith) c.loop-record.invariant.so_far;
  shaped = shaped_next c.loop-record.record-index c.loop-record.tape _ (omega arith) c.next_record.ensures.whole c.loop-record.invariant.shaped;
}

pub returns-clause-content : goal.returns-clause-content
returns-clause-content c = cut_end (length c.args.tape.now) c.loop-record.record-index _ c.loop-record.rest.now _ (omega arith) (omega arith) c.loop-record.invariant.so_far
