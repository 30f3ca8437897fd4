use Rattle.std.proofs.Common.{Bool, ap}
use Rattle.host_model.specs.Replies.{trace_text}
use Rattle.il_host.specs.Writing.{told_text}
use Rattle.il_host.proofs.Known.{written_on}
use Rattle.il_host.proofs.write.write_told.Goals as goal

pub returns-clause-bytes : goal.returns-clause-bytes
returns-clause-bytes g c =
    let told = ap (λ (quiet : Bool). told_text quiet c.args.log.now c.args.text.now) c.if-quiet.false in
    written_on _ _ _ _ (trace_text c.args.log.now) c.args.text.now c.write_all-2.result told c.in_ok-write_trace.ensures.bytes c.write_all-2.ensures.bytes
