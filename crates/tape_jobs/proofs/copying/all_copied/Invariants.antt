use Rattle.std.proofs.Common.{◌≡◌, drop}
use Rattle.tape_jobs.specs.Out.{all_copied}
use Rattle.tape_jobs.proofs.copying.all_copied.Given as goal

abbrev pub invariant-loop-taken : goal.invariant-loop-taken
invariant-loop-taken l = all_copied l.ends ≡ all_copied (drop l.taken-index l.ends)
