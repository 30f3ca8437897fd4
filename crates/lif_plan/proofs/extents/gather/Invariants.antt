use Rattle.std.proofs.Common.{◌≡◌, ◌≤◌, map, take}
use Rattle.std.specs.Prelude.{vec_len, vec_capacity}
use Rattle.lif_dir.specs.Entries.{slot_bytes}
use Rattle.lif_plan.proofs.LegalExtents.{extents_of}
use Rattle.lif_plan.proofs.extents.gather.Given as goal

-- those of the slots so far, which are no more than the slots
abbrev pub invariant-loop-k : goal.invariant-loop-k
invariant-loop-k l = record {
  extents : l.extents.items ≡ extents_of (take l.k (map slot_bytes l.table.slots));
  few : vec_len l.extents ≤ l.k;
  memory : vec_capacity l.fn.extents ≤ vec_capacity l.extents;
}
