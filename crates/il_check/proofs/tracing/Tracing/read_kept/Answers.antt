use Rattle.std.proofs.Common.{◌∙◌, ◌++◌, ◌∷◌, [], ℕ, Option, Some, subst, sym, ap}
use Rattle.il_check.specs.declared.verdict.TraceFault.{TraceFault}
use Rattle.il_check.specs.Tracing.{IsKnown}
use Rattle.il_check.specs.Verdicts.{is_entry_line}
use Rattle.il_check.proofs.TextLemmas.{front_marks}
use Rattle.il_check.proofs.StepLemmas.{known_skipped, known_faulty, known_read, known_bad}
use Rattle.il_check.proofs.tracing.Tracing.read_kept.Goals as goal

pub returns-in-Some-clause-known : goal.returns-in-Some-clause-known
returns-in-Some-clause-known c = λ k d old lines line front count known.
    known_faulty k d old lines line c.args.self.now.readers c.args.self.now.readers c.in-Some.fault.0 c.in-Some.fault.1
    (subst (λ (o : Option (ℕ × TraceFault)). IsKnown k d old lines c.args.self.now.readers o) c.in-Some.is known)

pub returns-then-not-is_entry_line-clause-known : goal.returns-then-not-is_entry_line-clause-known
returns-then-not-is_entry_line-clause-known c = λ k d old lines line front count known.
    known_skipped k d old lines line c.args.self.now.readers
    (sym (front_marks line) ∙ sym (c.is_entry_line.ensures ∙ ap is_entry_line (c.deref.ensures.0 ∙ front)) ∙ c.if-not-is_entry_line.true)
    (subst (λ (o : Option (ℕ × TraceFault)). IsKnown k d old lines c.args.self.now.readers o) c.in_default.is known)

pub returns-in-Ok-clause-known : goal.returns-in-Ok-clause-known
returns-in-Ok-clause-known c = λ k d old lines line front count known.
    known_read k d old lines line c.args.self.now.readers c.read.new.self
    (sym (front_marks line) ∙ sym (c.is_entry_line.ensures ∙ ap is_entry_line (c.deref.ensures.0 ∙ front)) ∙ c.if-not-is_entry_line.false)
    (subst (λ (o : Option (ℕ × TraceFault)). IsKnown k d old lines c.args.self.now.readers o) c.in_default.is known)
    (λ log read. c.in-Ok.ensures.reads k d old log line (c.deref-2.ensures.0 ∙ front) read)

pub returns-in-Err-clause-known : goal.returns-in-Err-clause-known
returns-in-Err-clause-known c = λ k d old lines line front count known.
    subst (λ (n : ℕ). (IsKnown k d old (lines ++ line ∷ []) c.read.new.self (Some (n, c.in-Err.fault)))) (sym count)
    (known_bad k d old lines line c.args.self.now.readers c.read.new.self c.in-Err.fault
    (sym (front_marks line) ∙ sym (c.is_entry_line.ensures ∙ ap is_entry_line (c.deref.ensures.0 ∙ front)) ∙ c.if-not-is_entry_line.false)
    (subst (λ (o : Option (ℕ × TraceFault)). IsKnown k d old lines c.args.self.now.readers o) c.in_default.is known)
    (λ log read. c.in-Err.ensures.reads k d old log line (c.deref-2.ensures.0 ∙ front) read))
