use Rattle.std.proofs.Common.{◌≡◌, take}
use Rattle.std.specs.Io.KnownBytes.{Appends}
use Rattle.tape_changes.specs.ChangeMessages.{step_messages}
use Rattle.tape_changes.proofs.change_messages.write_steps.Given as goal

abbrev pub invariant-steps : goal.invariant-steps
invariant-steps g l = record {
  written : Appends (g.K.Sink.written l.fn.to) (g.K.Sink.written l.to) (step_messages l.image (take l.place l.steps) l.replies);
  faults : g.K.Sink.faults l.to ≡ g.K.Sink.faults l.fn.to;
}
