use Rattle.std.proofs.Common.{◌≡◌, ◌≤◌, false, length, map, take}
use Rattle.std.specs.Vec.{vec_capacity}
use Rattle.tape_text.specs.Listing.{shown_files}
use Rattle.tape_jobs.proofs.copying.put_names_in.Given as goal

abbrev pub invariant-slots : goal.invariant-slots
invariant-slots l = record {
  so_far : l.names.items ≡ map (λ e. e.name) (shown_files false l.size (take l.place l.slots.slots));
  few : length l.names.items ≤ l.place;
  room : vec_capacity l.fn.names ≤ vec_capacity l.names;
}
