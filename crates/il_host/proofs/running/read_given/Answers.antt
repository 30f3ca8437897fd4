use Rattle.std.proofs.Common.{◌∙◌, List, ℕ, Option, sym, ap}
use Rattle.std.specs.Prelude.{Result, Err}
use Rattle.il_script.specs.Commands.{reading_of, command_read}
use Rattle.il_script.specs.declared.command.Command.{Command}
use Rattle.il_script.specs.declared.command.LineFault.{LineFault}
use Rattle.il_script.specs.declared.lines.Line.{Line}
use Rattle.il_script.specs.Progress.{line_given}
use Rattle.host_model.specs.Requests.{coded, reads}
use Rattle.il_host.specs.Gathering.{read_with}
use Rattle.il_host.proofs.Asking.{reads_back}
use Rattle.il_host.proofs.PlainCommands.{read_formed}
use Rattle.il_host.proofs.running.read_given.Goals as goal

pub returns-in-Ok-clause-reads : goal.returns-in-Ok-clause-reads
returns-in-Ok-clause-reads c =
    let read : Result (Option Command) LineFault = command_read (reading_of c.text.result.now) in
    (λ i. read_with (coded ((sym c.in-Ok.is ∙ c.read_line.ensures.command) i)) (c.read_line.ensures.payload i))
    ∙ reads_back (reading_of c.text.result.now)
    ∙ ap (λ (line : List ℕ). coded (reading_of line)) c.text.ensures
    ∙ ap (λ (l : Line). reads (line_given c.args.lines.now l)) (sym c.in-Text.is)

pub returns-in-Ok-clause-formed : goal.returns-in-Ok-clause-formed
returns-in-Ok-clause-formed c = read_formed c.text.result.now c.in-Ok.read (sym (sym c.in-Ok.is ∙ c.read_line.ensures.command))

pub returns-in-Err-clause-reads : goal.returns-in-Err-clause-reads
returns-in-Err-clause-reads c =
    ap Err c.from.ensures
    ∙ (λ i. read_with (coded ((sym c.in-Err.is ∙ c.read_line.ensures.command) i)) (c.read_line.ensures.payload i))
    ∙ reads_back (reading_of c.text.result.now)
    ∙ ap (λ (line : List ℕ). coded (reading_of line)) c.text.ensures
    ∙ ap (λ (l : Line). reads (line_given c.args.lines.now l)) (sym c.in-Text.is)
