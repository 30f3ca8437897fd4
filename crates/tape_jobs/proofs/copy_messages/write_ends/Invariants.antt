use Rattle.std.proofs.Common.{◌≡◌, take}
use Rattle.std.specs.List.{flat_map}
use Rattle.std.specs.Io.KnownBytes.{Appends}
use Rattle.tape_jobs.specs.CopyMessages.{end_message}
use Rattle.tape_jobs.proofs.copy_messages.write_ends.Given as goal

abbrev pub invariant-ends : goal.invariant-ends
invariant-ends g l = record {
  written : Appends (g.K.Sink.written l.fn.to) (g.K.Sink.written l.to) (flat_map (end_message l.image) (take l.taken-index l.ends));
  faults : g.K.Sink.faults l.to ≡ g.K.Sink.faults l.fn.to;
  room : l.line.room ≡ l.fn.line.room;
}
