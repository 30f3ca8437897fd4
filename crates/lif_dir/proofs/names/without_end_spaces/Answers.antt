use Rattle.std.proofs.Common.{arith, sym, ◌∙◌}
use Rattle.lif_dir.proofs.Spaces.{front-space, front-other, front-none}
use Rattle.lif_dir.proofs.names.without_end_spaces.Goals as goal
use Rattle.lif_dir.proofs.names.without_end_spaces.Goals.{then-spaces-test+else-bytes-end-eq32, else-spaces-test}

pub spaces-preserved : goal.spaces-preserved
spaces-preserved c = record {
  text = front-space c.args.bytes.now c.spaces.end (omega arith) c.spaces.invariant.size c.if-bytes-end-eq32.true ∙ c.spaces.invariant.text;
  size = omega arith;
}

pub returns-clause-text : goal.returns-clause-text
returns-clause-text c = elim c.spaces-test.branch [
  | then-spaces-test+else-bytes-end-eq32 w ↦ sym (front-other c.args.bytes.now c.spaces.end (omega arith) c.spaces.invariant.size w.if-bytes-end-eq32.false) ∙ c.spaces.invariant.text
  | else-spaces-test w ↦ sym (front-none c.args.bytes.now c.spaces.end (omega arith)) ∙ c.spaces.invariant.text
]
