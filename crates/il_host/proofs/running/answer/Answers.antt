use Rattle.std.proofs.Common.{sym, ap₂, subst}
use Rattle.il_script.specs.declared.reply.Reply.TheVariants as reply
use Rattle.lif_dir.specs.Batches.{parts_of}
use Rattle.host_model.specs.Orders.{quiet_mode}
use Rattle.il_host.specs.Run.{Answers, item_asked}
use Rattle.il_ports.specs.Writing.{WritesAll}
use Rattle.il_host.specs.Writing.{told_text}
use Rattle.il_host.specs.declared.running.Asked.{Asked}
use Rattle.il_host.proofs.Asking.{answers_command, answers_no_command}
use Rattle.il_host.proofs.running.answer.Goals as goal

pub returns-in-Command-clause-answers : goal.returns-in-Command-clause-answers
returns-in-Command-clause-answers g c =
    let v = g.P.Performer.view c.args.host.now in
    let w = g.P.Performer.view c.perform-reply.new.self in
    let before = g.K.Sink.written c.args.out.now in
    let now = g.K.Sink.written c.write_told.new.out in
    let text = ap₂ (told_text c.args.quiet) c.log.ensures c.text.ensures in
    let written = subst (λ l. WritesAll before now l c.write_told.result) text c.write_told.ensures.bytes in
    let answers = answers_command _ c.perform-reply.result c.args.quiet v w before now c.write_told.result c.perform-reply.ensures written in
    subst (λ (a : Asked). Answers (item_asked a c.args.bytes.now (parts_of c.args.batch.now)) c.perform-reply.result (quiet_mode c.args.quiet) v w before now c.write_told.result) (sym c.in-Command.is) answers

pub returns-in-Batch-clause-answers : goal.returns-in-Batch-clause-answers
returns-in-Batch-clause-answers g c =
    let v = g.P.Performer.view c.args.host.now in
    let w = g.P.Performer.view c.perform_batch-reply.new.self in
    let before = g.K.Sink.written c.args.out.now in
    let now = g.K.Sink.written c.write_told-in-Batch.new.out in
    let text = ap₂ (told_text c.args.quiet) c.log-in-Batch.ensures c.text-in-Batch.ensures in
    let written = subst (λ l. WritesAll before now l c.write_told-in-Batch.result) text c.write_told-in-Batch.ensures.bytes in
    let answers = answers_command _ c.perform_batch-reply.result c.args.quiet v w before now c.write_told-in-Batch.result c.perform_batch-reply.ensures written in
    subst (λ (a : Asked). Answers (item_asked a c.args.bytes.now (parts_of c.args.batch.now)) c.perform_batch-reply.result (quiet_mode c.args.quiet) v w before now c.write_told-in-Batch.result) (sym c.in-Batch.is) answers

pub returns-in-NoCommand-clause-answers : goal.returns-in-NoCommand-clause-answers
returns-in-NoCommand-clause-answers g c =
    let v = g.P.Performer.view c.args.host.now in
    let before = g.K.Sink.written c.args.out.now in
    let now = g.K.Sink.written c.write_all.new.out in
    let written = subst (λ l. WritesAll before now l c.write_all.result) c.last_line.ensures.text c.write_all.ensures.bytes in
    let answers = answers_no_command c.in-NoCommand.code c.args.quiet v before now c.write_all.result c.requires.valid (g.met.P.Performer.is_host c.args.host.now c.requires.valid) written in
    subst (λ (a : Asked). Answers (item_asked a c.args.bytes.now (parts_of c.args.batch.now)) (reply.No c.in-NoCommand.code) (quiet_mode c.args.quiet) v v before now c.write_all.result) (sym c.in-NoCommand.is) answers
