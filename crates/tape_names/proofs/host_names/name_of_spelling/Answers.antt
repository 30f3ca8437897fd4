use Rattle.std.proofs.Common.{◌∙◌}
use Rattle.lif_dir.specs.Names.{name_of_bytes}
use Rattle.il_script.specs.Spelling.{spelt}
use Rattle.tape_names.proofs.HostNames.{none_spelt, some_spelt}
use Rattle.tape_names.proofs.host_names.name_of_spelling.Goals as goal

pub returns-in_err-spelt_name : goal.returns-in_err-spelt_name
returns-in_err-spelt_name c = c.from_residual.ensures ∙ none_spelt name_of_bytes (spelt c.args.text.now) c.in_err-spelt_name.ensures

pub returns : goal.returns
returns c = some_spelt name_of_bytes (spelt c.args.text.now) c.in_ok-spelt_name.field-0 c.in_ok-spelt_name.ensures
