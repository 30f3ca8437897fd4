use Rattle.std.proofs.Common.{◌≡◌, ◌≤◌, drop, length, take}
use Rattle.std.specs.Vec.{vec_capacity}
use Rattle.tape_changes.specs.Changing.{FrontIsLeft, attempts_of, output_of}
use Rattle.tape_changes.proofs.Joined.{GoesBeside, IsAfter, Joins}
use Rattle.tape_changes.proofs.changing.take_steps.Given as goal

abbrev pub invariant-steps : goal.invariant-steps
invariant-steps g l = record {
  valid : (g.V.Volumes.seen l.volumes).valid;
  count : length l.replies.items ≡ l.step-index;
  space : length l.steps ≤ vec_capacity l.replies;
  joins : Joins l.ends_early l.steps (drop l.step-index l.steps) l.replies.items (g.V.Volumes.seen l.fn.volumes).mounted (g.V.Volumes.seen l.volumes).mounted
      (output_of (g.K.Sink.written l.fn.out) (g.K.Sink.faults l.fn.out)) (output_of (g.K.Sink.written l.out) (g.K.Sink.faults l.out));
  after : IsAfter (take l.step-index (attempts_of l.steps)) (g.V.Volumes.seen l.fn.volumes).mounted (g.V.Volumes.seen l.volumes).mounted;
  beside : GoesBeside l.step-index (FrontIsLeft (attempts_of l.steps) (g.V.Volumes.seen l.fn.volumes).mounted) (g.V.Volumes.seen l.fn.volumes) (g.V.Volumes.seen l.volumes);
}
