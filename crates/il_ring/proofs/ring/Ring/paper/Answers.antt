use Rattle.std.proofs.Common.{rules}
use Rattle.il_ring.proofs.Papers.{paper_of-append}
use Rattle.il_ring.proofs.ring.Ring.paper.Goals as goal

pub returns : goal.returns
returns g c = search (rules, paper_of-append)
