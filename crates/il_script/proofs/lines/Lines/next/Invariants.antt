use Rattle.std.proofs.Common.{◌≡◌, ◌≤◌, ℕ, List, Option, true}
use Rattle.il_script.specs.Progress.{Given, IsTooLong, turns_left, weight}
use Rattle.il_script.proofs.lines.Lines.next.Given as goal

abbrev pub invariant-pieces : goal.invariant-pieces
invariant-pieces g l = record {
  gives : (script : List ℕ) (given : List (Option (List ℕ))) → Given script l.fn.self (g.S.Source.left l.fn.source) given → Given script l.self (g.S.Source.left l.source) given;
  faults : g.S.Source.faults l.source ≡ g.S.Source.faults l.fn.source;
  ended : l.fn.self.ended ≡ true → (l.self.ended ≡ true) × (l.source ≡ l.fn.source);
  bound : turns_left l.self ≤ turns_left l.fn.self;
  long : IsTooLong l.fn.self → IsTooLong l.self;
}

abbrev pub decreases-pieces : goal.decreases-pieces
decreases-pieces g l = weight l.self
