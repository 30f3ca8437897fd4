-- The candidate is the only frame that may have the text, so the comparison with its own text decides.
use Rattle.std.proofs.Common.{◌≡◌, Option, Some, None, Bool, true, false, IfNone, sym, ◌∙◌}
use Rattle.std.proofs.lemmas.Slice.Eq.{slice_eq-Decides}
use Rattle.std.proofs.lemmas.Bool.Decides.{Decides-eqb}
use Rattle.il_frames.specs.declared.frame.Frame.{Frame}
use Rattle.il_frames.proofs.ReadBack.{only_candidate, no_candidate, other_candidate}
use Rattle.il_frames.proofs.frame.Frame.read_text.Goals as goal

on_none : (o : Option Frame) (P : Type 0) → P → IfNone o P
on_none None P p = p
on_none (Some f) P p = tt

both : (b : Bool) → b ≡ true → b ≡ false → ⊥
both true p q = cc
both false p q = cc

pub returns-in_err-frame-clause-every : goal.returns-in_err-frame-clause-every
returns-in_err-frame-clause-every c = λ f h e.
    absurd (no_candidate c.args.text.now c.in_err-frame.ensures f h e)

pub returns-in_err-frame-clause-none : goal.returns-in_err-frame-clause-none
returns-in_err-frame-clause-none c = on_none _ _ (no_candidate c.args.text.now c.in_err-frame.ensures)

pub returns-then-eq-clause-found : goal.returns-then-eq-clause-found
returns-then-eq-clause-found c =
    let same = slice_eq-Decides Decides-eqb _ _ _ c.eq.ensures in
    sym c.text.ensures.value ∙ sym c.as_slice.ensures.value ∙ same.0 c.if-eq.true

pub returns-then-eq-clause-every : goal.returns-then-eq-clause-every
returns-then-eq-clause-every c = only_candidate c.in_ok-frame.frame c.args.text.now c.in_ok-frame.ensures

pub returns-else-eq-clause-every : goal.returns-else-eq-clause-every
returns-else-eq-clause-every c = λ f h e.
    let same = slice_eq-Decides Decides-eqb _ _ _ c.eq.ensures in
    absurd (other_candidate c.in_ok-frame.frame c.args.text.now _ c.in_ok-frame.ensures
    (c.as_slice.ensures.value ∙ c.text.ensures.value) (λ s. both _ (same.1 s) c.if-eq.false) f h e)

pub returns-else-eq-clause-none : goal.returns-else-eq-clause-none
returns-else-eq-clause-none c =
    let same = slice_eq-Decides Decides-eqb _ _ _ c.eq.ensures in
    other_candidate c.in_ok-frame.frame c.args.text.now _ c.in_ok-frame.ensures
    (c.as_slice.ensures.value ∙ c.text.ensures.value) (λ s. both _ (same.1 s) c.if-eq.false)
