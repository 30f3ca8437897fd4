use Rattle.std.proofs.Common.{[], sym, subst}
use Rattle.std.specs.Prelude.{Ok}
use Rattle.il_script.specs.declared.reply.Reply.TheVariants as reply
use Rattle.host_model.specs.Runs.{Summary}
use Rattle.il_host.specs.Run.{Answers, item_asked}
use Rattle.il_host.specs.declared.running.Asked.{Asked}
use Rattle.il_host.proofs.Asking.{answers_performed, answers_refusal}
use Rattle.il_host.proofs.Known.{appends-none}
use Rattle.il_host.proofs.generating.reply_to.Goals as goal

pub returns-in-NoCommand : goal.returns-in-NoCommand
returns-in-NoCommand g c = λ written.
    let v = g.P.Performer.view c.args.host.now in
    let code = c.in-NoCommand.code in
    subst (λ (a : Asked). Answers {E = Unit {0}} (item_asked a c.args.bytes.now []) (reply.No code) Summary v v written written (Ok tt)) (sym c.in-NoCommand.is)
    (answers_refusal code Summary v written written (Ok tt) c.requires.valid (g.met.P.Performer.is_host c.args.host.now c.requires.valid) (appends-none written))

pub returns-in-Command : goal.returns-in-Command
returns-in-Command g c = λ written.
    let v = g.P.Performer.view c.args.host.now in
    let w = g.P.Performer.view c.perform.new.self in
    subst (λ (a : Asked). Answers {E = Unit {0}} (item_asked a c.args.bytes.now []) c.perform.result Summary v w written written (Ok tt)) (sym c.in-Command.is)
    (answers_performed _ c.perform.result Summary v w written written (Ok tt) c.perform.ensures (appends-none written))
