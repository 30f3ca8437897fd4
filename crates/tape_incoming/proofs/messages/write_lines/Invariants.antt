use Rattle.std.proofs.Common.{◌≡◌, take}
use Rattle.std.specs.List.{flat_map}
use Rattle.std.specs.Io.KnownBytes.{Appends}
use Rattle.tape_incoming.specs.Incoming.{refused_file}
use Rattle.tape_incoming.specs.Messages.{refused_line}
use Rattle.tape_incoming.proofs.messages.write_lines.Given as goal

abbrev pub invariant-lines : goal.invariant-lines
invariant-lines g l = record {
  written : Appends (g.E.Sink.written l.fn.to) (g.E.Sink.written l.to) (flat_map (λ file. refused_line (refused_file file)) (take l.file-index l.refused));
  faults : g.E.Sink.faults l.to ≡ g.E.Sink.faults l.fn.to;
}
