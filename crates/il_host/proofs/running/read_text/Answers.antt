use Rattle.std.proofs.Common.{◌∙◌, Some, sym, ap}
use Rattle.std.specs.Prelude.{Ok}
use Rattle.il_script.specs.Commands.{reading_of}
use Rattle.host_model.specs.Requests.{NoCommand}
use Rattle.il_host.proofs.Asking.{skipped, understood, refused}
use Rattle.il_host.proofs.PlainCommands.{plain_read}
use Rattle.il_host.proofs.running.read_text.Goals as goal

pub returns-in-Ok-None-clause-item : goal.returns-in-Ok-None-clause-item
returns-in-Ok-None-clause-item c =
    let command = sym (c.in-Ok-None.is ∙ ap Ok c.in-Ok-None.field-0-is) ∙ c.read_line.ensures.command in
    λ parts. sym (skipped (reading_of c.args.text.now) (sym command))

pub returns-in-Ok-Some-clause-item : goal.returns-in-Ok-Some-clause-item
returns-in-Ok-Some-clause-item c =
    let command = sym (c.in-Ok-Some.is ∙ ap Ok c.in-Ok-Some.field-0-is) ∙ c.read_line.ensures.command in
    λ parts. ap Some (c.alone.ensures.item c.read_line.new.payload parts) ∙ sym (understood (reading_of c.args.text.now) c.in-Ok-Some.command c.read_line.new.payload (sym command) c.read_line.ensures.payload)

pub returns-in-Err-clause-item : goal.returns-in-Err-clause-item
returns-in-Err-clause-item c =
    let command = sym c.in-Err.is ∙ c.read_line.ensures.command in
    λ parts. sym (refused (reading_of c.args.text.now) c.in-Err.fault (sym command) ∙ ap (λ code. Some (NoCommand code)) (sym c.from.ensures))

pub alone-requires : goal.alone-requires
alone-requires c = record {
  formed = plain_read c.args.text.now c.in-Ok-Some.command (sym (sym (c.in-Ok-Some.is ∙ ap Ok c.in-Ok-Some.field-0-is) ∙ c.read_line.ensures.command));
}
