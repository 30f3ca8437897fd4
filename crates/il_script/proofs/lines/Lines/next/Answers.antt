use Rattle.std.proofs.Common.{rules, ◌≡◌, true, false, sym, ◌∙◌, arith}
use Rattle.il_script.proofs.Gives.{turn-scans, turn-lasts, given-moves, given-fills, given-stays}
use Rattle.il_script.proofs.Falls.{lowers-scans, lowers-lasts, lowers-after, moves-bound, fills-bound, not-too-long}
use Rattle.il_script.proofs.lines.Lines.next.Goals as goal

true-not-false : true ≡ false → ⊥
true-not-false h = cc

pub returns-in-Some-clause-gives : goal.returns-in-Some-clause-gives
returns-in-Some-clause-gives g c = λ script given h. turn-scans script c.pieces.self c.scan.new.self _ given c.in-Some.line c.in-Some.ensures.scans (c.pieces.invariant.gives script given h)

pub returns-in-Some-clause-lowers : goal.returns-in-Some-clause-lowers
returns-in-Some-clause-lowers g c = lowers-after c.args.self.now c.pieces.self c.scan.new.self c.in-Some.line c.pieces.invariant.bound (lowers-scans c.pieces.self c.scan.new.self c.in-Some.line c.in-Some.ensures.scans c.in-Some.ensures.limit)

pub returns-then-is_ended-clause-lowers : goal.returns-then-is_ended-clause-lowers
returns-then-is_ended-clause-lowers g c =
    let a = moves-bound c.pieces.self c.scan.new.self c.pieces.self.held c.in-None.ensures.scans.0 c.in-None.ensures.limit in
    let b = c.pieces.invariant.bound in
    lowers-after c.args.self.now c.scan.new.self c.last.new.self c.last.result (omega (arith, a, b)) (lowers-lasts c.scan.new.self c.last.new.self c.last.result c.last.ensures)

pub returns-then-is_ended-clause-gives : goal.returns-then-is_ended-clause-gives
returns-then-is_ended-clause-gives g c = λ script given h.
    turn-lasts script c.scan.new.self c.last.new.self _ given c.last.result c.in-None.ensures.scans.1 (sym c.is_ended.ensures ∙ c.if-is_ended.true) c.in-None.ensures.limit c.last.ensures
    (given-moves script c.pieces.self c.scan.new.self _ given c.pieces.self.held c.in-None.ensures.scans.0 (c.pieces.invariant.gives script given h))

pub returns-in-Err-clause-gives : goal.returns-in-Err-clause-gives
returns-in-Err-clause-gives g c = λ script given h.
    given-stays script c.scan.new.self c.fill.new.self _ _ given c.in-None.ensures.scans.1 c.in-Err.ensures.bytes.0 c.in-Err.ensures.bytes.1
    (given-moves script c.pieces.self c.scan.new.self _ given c.pieces.self.held c.in-None.ensures.scans.0 (c.pieces.invariant.gives script given h))

pub pieces-preserved : goal.pieces-preserved
pieces-preserved g c = record {
  gives = λ script given h. given-fills script c.scan.new.self c.fill.new.self _ _ given c.in-None.ensures.scans.1 (sym c.is_ended.ensures ∙ c.if-is_ended.false) c.in-Ok.ensures.bytes
      (given-moves script c.pieces.self c.scan.new.self _ given c.pieces.self.held c.in-None.ensures.scans.0 (c.pieces.invariant.gives script given h));
  faults = search rules;
  ended = λ e. let bad : true ≡ false = sym (c.in-None.ensures.scans.0.ended ∙ (c.pieces.invariant.ended e).0) ∙ sym c.is_ended.ensures ∙ c.if-is_ended.false in absurd (true-not-false bad);
  bound = let a = moves-bound c.pieces.self c.scan.new.self c.pieces.self.held c.in-None.ensures.scans.0 c.in-None.ensures.limit in let b = fills-bound c.scan.new.self c.fill.new.self _ _ c.in-Ok.ensures.bytes in let d = c.pieces.invariant.bound in omega (arith, a, b, d);
  long = λ t. absurd (not-too-long c.pieces.self c.scan.new.self c.in-None.ensures.scans.0 c.in-None.ensures.limit (c.pieces.invariant.long t));
}
