use Rattle.il_script.proofs.Searches.{first_feed_by}
use Rattle.il_script.proofs.lines.first_feed.Goals as goal

pub returns : goal.returns
returns c = first_feed_by c.args.bytes.now c.memchr.result c.memchr.ensures
