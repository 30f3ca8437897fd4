use Rattle.std.proofs.Common.{rules, arith}
use Rattle.il_ports.proofs.Writing.{appends-trans, take-piece}
use Rattle.il_ports.proofs.stream.write_all.Goals as goal

pub pieces-preserved : goal.pieces-preserved
pieces-preserved g c = record {
  range = omega (arith, c.in_ok-count.ensures.bound);
  written = rw (take-piece c.args.bytes.now c.pieces.from c.in_ok-count.count) (appends-trans _ _ _ _ _ c.pieces.invariant.written c.in_ok-count.ensures.bytes);
  faults = search rules;
}
