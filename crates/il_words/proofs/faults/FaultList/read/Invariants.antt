use Rattle.std.proofs.Common.{◌≤◌, length, ◌∷◌, []}
use Rattle.std.specs.List.{All}
use Rattle.il_ring.specs.Plans.{IsPlan}
use Rattle.il_words.proofs.Lists.{IsLeft}
use Rattle.il_words.proofs.faults.FaultList.read.Given as goal

abbrev pub invariant-items : goal.invariant-items
invariant-items l = record {
  can_next : (goal.iterator-items).can_next l.item-iterator;
  finite : (goal.iterator-items).is_finite l.item-iterator;
  left : IsLeft l.self l.list l.faults.items l.item-iterator;
  few : length l.faults.items ≤ 64;
  planned : All (λ fault. IsPlan (fault ∷ [])) l.faults.items;
}
