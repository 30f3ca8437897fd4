use Rattle.std.proofs.Common.{inr}
use Rattle.tape.proofs.diff.collect_copy.Goals as goal

pub returns-in-Ok : goal.returns-in-Ok
returns-in-Ok c = inr (record {
  drive = c.in-Ok.drive;
  empty = c.in-Ok.ensures.0;
  holds = c.in-Ok.ensures.1;
  ends = c.collect_in.ensures;
})
