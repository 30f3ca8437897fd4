use Rattle.std.proofs.Common.{◌≡◌, ◌<◌, ◌^◌, ◌++◌, [], ◌∷◌, if◌then◌else◌, map, take, drop, filter}
use Rattle.lif_model.specs.Fit.{purged_from, can_append, low_of, fit_beside}
use Rattle.lif_model.proofs.Plain.{fit_after}
use Rattle.lif_dir.specs.Entries.{slot_bytes}
use Rattle.lif_plan.proofs.Walk.{may_take}
use Rattle.lif_plan.proofs.choosing.choose_beside.Given as goal

abbrev pub invariant-loop-k : goal.invariant-loop-k
invariant-loop-k l = record {
  low : l.low ≡ low_of l.directory_end (map slot_bytes l.slots.slots) l.k;
  bound : l.low < 2 ^ 33;
  rest : fit_after l.seen l.size l.directory_end (map slot_bytes l.slots.slots) l.fn.count
      (filter (may_take l.barred) (purged_from l.k (drop l.k (take l.redo (map slot_bytes l.slots.slots))) ++ (if can_append l.capacity (map slot_bytes l.slots.slots) then l.redo ∷ [] else [])))
      ≡ fit_beside l.size l.directory_end l.capacity (map slot_bytes l.slots.slots) l.barred l.fn.count;
}
