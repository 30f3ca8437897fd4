use Rattle.std.proofs.Common.{◌≡◌, ◌<◌, ◌-◌, ◌++◌, ℕ, [], take, length, get_or}
use Rattle.lif_model.specs.Shelf.{cut}
use Rattle.il_ports.proofs.image.lay_in.Given as goal

abbrev pub invariant-loop-record : goal.invariant-loop-record
invariant-loop-record l = record {
  so_far : take l.record-index l.tape ++ cut (length l.fn.tape - l.record-index) l.rest ≡ cut (length l.fn.tape) l.bytes;
  shaped : (k : ℕ) → k < l.record-index → length (get_or l.tape k []) ≡ 256;
}
