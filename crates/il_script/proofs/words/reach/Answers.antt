use Rattle.std.proofs.Common.{◌∙◌}
use Rattle.il_script.proofs.Searches.{reach_by}
use Rattle.il_script.proofs.words.reach.Goals as goal

pub returns : goal.returns
returns c = c.unwrap_or.ensures ∙ reach_by c.args.line.now c.memchr.result c.memchr.ensures
