use Rattle.std.proofs.Common.{ap, ◌∙◌, Some}
use Rattle.il_script.specs.Commands.{new_name_of_bytes}
use Rattle.il_script.specs.Spelling.{spelt}
use Rattle.il_script.proofs.Names.{new-name-front, none-spelt, some-spelt}
use Rattle.il_script.proofs.spelling.spelt_new_name.Goals as goal

pub returns-in_err-bytes : goal.returns-in_err-bytes
returns-in_err-bytes c = c.from_residual.ensures ∙ none-spelt new_name_of_bytes (spelt c.args.text.now) c.in_err-bytes.ensures

pub returns : goal.returns
returns c = ap Some (c.new_name.ensures ∙ ap new_name_of_bytes c.deref.ensures.0) ∙ some-spelt new_name_of_bytes (spelt c.args.text.now) c.in_ok-bytes.bytes.items new-name-front c.in_ok-bytes.ensures
