use Rattle.std.proofs.Common.{rules, ◌≡◌, ◌++◌, ℕ, List, ap, append_assoc, append-nil, arith, length, length-append, subst, sym, take, ◌∙◌}
use Rattle.il_script.specs.LineCut.{lines_of}
use Rattle.il_check.specs.Tracing.{HasLines}
use Rattle.il_check.proofs.Known.{consumed, whole_read}
use Rattle.il_check.proofs.reading.read_trace.Goals as goal

pub returns-then-count-eq0-clause-reads : goal.returns-then-count-eq0-clause-reads
returns-then-count-eq0-clause-reads g c = λ k d old taken trace told.
    let so = c.pieces.invariant.taken k d old taken trace told in
    let ends = c.in-Ok.ensures.bytes.1 c.if-count-eq0.true (omega arith) in
    let none = whole_read _ _ _ so.1 so.2 c.in-Ok.ensures.bytes.0 (ap (λ (n : ℕ). take n c.read.new.into) c.if-count-eq0.true) ends in
    let same : trace ≡ so.0 = so.3 ∙ ap (λ (l : List ℕ). so.0 ++ l) none ∙ append-nil so.0 in (
      subst (λ (l : List ℕ). HasLines k d old (lines_of l) c.end.new.self) (sym same) (c.end.ensures.known k d old so.0 so.5),
      ends,
      omega (arith, ap (λ (l : List ℕ). length l) same, so.4),
    )

pub returns-then-count-left-clause-reads : goal.returns-then-count-left-clause-reads
returns-then-count-left-clause-reads g c = λ k d old taken trace told.
    let so = c.pieces.invariant.taken k d old taken trace told in
    let found = consumed _ _ _ so.1 so.2 c.in-Ok.ensures.bytes.0 in
    let some = sym c.in-Ok.ensures.bound.1 in
    omega (
      arith,
      ap (λ (l : List ℕ). length l) so.3,
      length-append so.0 so.1,
      so.4,
      ap (λ (l : List ℕ). length l) found.2,
      length-append (take c.in-Ok.count c.read.new.into) found.0,
      some,
      c.if-count-left.true,
    )

pub pieces-preserved : goal.pieces-preserved
pieces-preserved g c = record {
  taken = λ k d old taken trace told.
      let so = c.pieces.invariant.taken k d old taken trace told in
      let found = consumed _ _ _ so.1 so.2 c.in-Ok.ensures.bytes.0 in
      let piece = take c.in-Ok.count c.read.new.into in
      let some : length piece ≡ c.in-Ok.count = sym c.in-Ok.ensures.bound.1 in (
        so.0 ++ piece,
        found.0,
        found.1,
        so.3 ∙ ap (λ (l : List ℕ). so.0 ++ l) found.2 ∙ sym (append_assoc so.0 piece found.0),
        omega (arith, length-append so.0 piece, some, so.4, c.if-count-left.false),
        c.take.ensures.taken k d old so.0 so.5,
      );
  lines = omega (arith, c.take.ensures.lines, c.pieces.invariant.lines, c.if-count-left.false, sym c.in-Ok.ensures.bound.1);
  faults = search rules;
  size = c.take.ensures.size ∙ c.pieces.invariant.size;
}
