use Rattle.std.proofs.Common.{◌≡◌, take}
use Rattle.std.specs.List.{flat_map}
use Rattle.std.specs.Io.KnownBytes.{Appends}
use Rattle.tape_volumes.proofs.messages.write_parts.Given as goal

abbrev pub invariant-parts : goal.invariant-parts
invariant-parts g l = record {
  written : Appends (g.K.Sink.written l.fn.to) (g.K.Sink.written l.to) (flat_map (λ part. part.now) (take l.part-index l.parts));
  faults : g.K.Sink.faults l.to ≡ g.K.Sink.faults l.fn.to;
}
