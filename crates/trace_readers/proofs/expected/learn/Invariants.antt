-- The records so far and those that the rest of the bytes will make are all of them.
use Rattle.std.proofs.Common.{◌≡◌, ◌-◌, ◌*◌, ◌++◌, Some, length, take, map}
use Rattle.lif_model.specs.Transfers.{cut_up}
use Rattle.trace_readers.proofs.expected.learn.Given as goal

abbrev pub invariant-loop-record : goal.invariant-loop-record
invariant-loop-record l = record {
  so_far :
      take l.record-index l.records ++ map Some (cut_up (length l.fn.records - l.record-index) l.rest)
      ≡ map Some (cut_up (length l.fn.records) l.bytes);
  left : length l.rest ≡ 256 * (length l.fn.records - l.record-index);
}
