use Rattle.std.proofs.Common.{sym}
use Rattle.lif_plan.proofs.Walk.{free_past}
use Rattle.lif_plan.proofs.choosing.is_free.Goals as goal

pub returns-then-end-gate : goal.returns-then-end-gate
returns-then-end-gate c = sym (free_past c.args.end c.args.gate _ c.if-end-gate.true)
