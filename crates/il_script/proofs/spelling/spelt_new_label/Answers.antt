use Rattle.std.proofs.Common.{ap, ◌∙◌, Some}
use Rattle.lif_dir.specs.Names.{new_label}
use Rattle.il_script.specs.Spelling.{spelt}
use Rattle.il_script.proofs.Names.{label-front, none-spelt, some-spelt}
use Rattle.il_script.proofs.spelling.spelt_new_label.Goals as goal

pub returns-in_err-bytes : goal.returns-in_err-bytes
returns-in_err-bytes c = c.from_residual.ensures ∙ none-spelt new_label (spelt c.args.text.now) c.in_err-bytes.ensures

pub returns : goal.returns
returns c = ap Some (c.of.ensures ∙ ap new_label c.deref.ensures.0) ∙ some-spelt new_label (spelt c.args.text.now) c.in_ok-bytes.bytes.items label-front c.in_ok-bytes.ensures
