use Rattle.std.proofs.Common.{◌≡◌, ◌≤◌, ◌-◌, ◌++◌, length}
use Rattle.std.specs.Vec.{vec_capacity}
use Rattle.lif_model.specs.Shelf.{cut}
use Rattle.tape_why.proofs.image.tape_records.Given as goal

-- the records so far, and those of the rest
abbrev pub invariant-records : goal.invariant-records
invariant-records l = record {
  so_far : l.records.items ++ cut (l.count - l.place) l.rest ≡ cut l.count l.image;
  few : length l.records.items ≡ l.place;
  room : l.count ≤ vec_capacity l.records;
}
