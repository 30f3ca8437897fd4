use Rattle.std.proofs.Common.{ap, sym, ◌∙◌}
use Rattle.il_script.specs.Words.{words_of}
use Rattle.il_script.specs.Commands.{asked_of, command_read, bytes_read}
use Rattle.il_script.proofs.Readings.{asked-line, read-command, read-fault, read-bytes}
use Rattle.il_script.proofs.reading.read_line.Goals as goal

pub returns-in-Ok-clause-command : goal.returns-in-Ok-clause-command
returns-in-Ok-clause-command c =
    let word = c.next_word.result.0.now in
    let rest = c.next_word.result.1.now in
    let line = asked-line c.args.line.now c.without_return.result.now word rest c.without_return.ensures.text c.next_word.ensures.words c.if-is_empty.ensures (sym c.is_note.ensures ∙ c.if-is_note.false) in
    read-command (asked_of word (words_of rest)) c.in-Ok.command c.in-Ok.ensures.command ∙ ap command_read (sym line)

pub returns-in-Ok-clause-payload : goal.returns-in-Ok-clause-payload
returns-in-Ok-clause-payload c =
    let word = c.next_word.result.0.now in
    let rest = c.next_word.result.1.now in
    let line = asked-line c.args.line.now c.without_return.result.now word rest c.without_return.ensures.text c.next_word.ensures.words c.if-is_empty.ensures (sym c.is_note.ensures ∙ c.if-is_note.false) in
    c.read_command.ensures.payload ∙ read-bytes (asked_of word (words_of rest)) ∙ ap bytes_read (sym line)

pub returns-in-Err-clause-command : goal.returns-in-Err-clause-command
returns-in-Err-clause-command c =
    let word = c.next_word.result.0.now in
    let rest = c.next_word.result.1.now in
    let line = asked-line c.args.line.now c.without_return.result.now word rest c.without_return.ensures.text c.next_word.ensures.words c.if-is_empty.ensures (sym c.is_note.ensures ∙ c.if-is_note.false) in
    read-fault (asked_of word (words_of rest)) c.in-Err.fault c.in-Err.ensures.command ∙ ap command_read (sym line)

pub returns-in-Err-clause-payload : goal.returns-in-Err-clause-payload
returns-in-Err-clause-payload c =
    let word = c.next_word.result.0.now in
    let rest = c.next_word.result.1.now in
    let line = asked-line c.args.line.now c.without_return.result.now word rest c.without_return.ensures.text c.next_word.ensures.words c.if-is_empty.ensures (sym c.is_note.ensures ∙ c.if-is_note.false) in
    c.read_command.ensures.payload ∙ read-bytes (asked_of word (words_of rest)) ∙ ap bytes_read (sym line)
