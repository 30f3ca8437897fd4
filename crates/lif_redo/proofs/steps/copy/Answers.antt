use Rattle.std.proofs.Common.{[]}
use Rattle.lif_redo.proofs.Writes.{then_writes}
use Rattle.lif_redo.proofs.steps.copy.Goals as goal

pub returns-clause-writes : goal.returns-clause-writes
returns-clause-writes g c = (c.get.new.into, λ t is. c.in_ok-get.ensures.fetched.content t is, then_writes [] _ _ _ _ c.in_ok-get.ensures.writes c.in_ok-put.ensures.writes)
