-- What is said at the end of a trace.
use Rattle.std.proofs.Common.{◌≡◌, ◌⊎◌, ◌<◌, ◌≤◌, ◌+◌, inl, inr, ℕ, Bool, true, false, nat_lt, List, ◌∷◌, length, Option, Some, None, refl, sym, ap, subst, arith, length-append}
use Rattle.il_frames.specs.declared.entry.Entry.{Entry}
use Rattle.il_frames.specs.Entries.{entry_text}
use Rattle.lif_model.specs.Tape.{Tape, IsTape}
use Rattle.loop_model.specs.Loops.{host_loop}
use Rattle.loop_model.specs.Exchanges.{Reading}
use Rattle.trace_readers.proofs.EffectLemmas.{effect_whole}
use Rattle.il_check.specs.declared.verdict.TraceFault.{TraceFault}
use Rattle.il_check.specs.declared.verdict.TraceFault.TheVariants as fault
use Rattle.il_check.specs.declared.tracing.Tracing.{Tracing}
use Rattle.il_check.specs.Verdicts.{IsLineAt, StopsWithin, HasLineFault, HasNoFault, IsVerdict, rank_of}
use Rattle.il_check.specs.Tracing.{HaveRead, IsKnown, HasLines, MakesUpTo}
use Rattle.il_check.proofs.VerdictLaws.{same_log}
use Rattle.il_check.proofs.LineLemmas.{at_most, below}

abbrev Lines : Type 0
Lines = List (List ℕ)

within : (lines : Lines) (x : ℕ) (front : Lines) (line : List ℕ) → IsLineAt lines x front line → length lines < x → ⊥
within lines x front line at over =
    omega (arith, at.place, over, ap (λ (l : Lines). length l) at.are, length-append front (line ∷ at.rest))

-- after the last line only the end of the trace has a fault
beyond : (k d size : ℕ) (lines : Lines) (x : ℕ) (g : TraceFault) → HasLineFault k d size lines x g → length lines < x
    → StopsWithin k d lines x × (g ≡ fault.NoExchange)
beyond k d size lines x fault.BadText has over = absurd (within lines x has.0 has.1 has.2 over)
beyond k d size lines x fault.NotTalker has over = absurd (within lines x has.2.front (entry_text has.1) has.2.stands over)
beyond k d size lines x fault.NoExchange (inl has) over = absurd (within lines x has.2.front (entry_text has.1) has.2.stands over)
beyond k d size lines x fault.NoExchange (inr has) over = (has, refl)
beyond k d size lines x fault.BadUnit has over = absurd (within lines x has.2.front (entry_text has.1) has.2.stands over)
beyond k d size lines x fault.Unclear has over = absurd (within lines x has.2.front (entry_text has.1) has.2.stands over)
beyond k d size lines x fault.SizeDiffers has over = absurd has
beyond k d size lines x fault.NoEffect has over = absurd has

module _ (k d : ℕ) (old new : Tape) (lines : Lines) (t : Tracing) (has : HasLines k d old lines t) (shape : IsTape (length old) new) where
  -- no line had one
  module _ (fine : t.fault ≡ None) where
    abbrev pub known : IsKnown k d old lines t.readers None
    known = subst (λ (o : Option (ℕ × TraceFault)). IsKnown k d old lines t.readers o) fine has.known

    abbrev pub log : List Entry
    log = known.0

    pub read : HaveRead k d old log t.readers
    read = known.2

    pub said_within : (Reading (host_loop k d) log → ⊥) → IsVerdict k d old new lines (Some (t.lines + 1, fault.NoExchange))
    said_within not = (
      sym shape.records,
      record {
        has = inr (omega (arith, has.count), log, known.1, not);
        first = λ y g bad. by y g bad (nat_lt (length lines) y) (nat_lt (length lines + 1) y) refl refl;
      },
    )
      where
        by : (y : ℕ) (g : TraceFault) → HasLineFault k d (length old) lines y g → (a b : Bool) → nat_lt (length lines) y ≡ a
            → nat_lt (length lines + 1) y ≡ b → (t.lines + 1 < y) ⊎ ((t.lines + 1 ≡ y) × (rank_of fault.NoExchange ≤ rank_of g))
        by y g bad false b e e' = absurd (known.3 y g (at_most (length lines) y e) bad)
        by y g bad true true e e' = inl (omega (arith, has.count, below (length lines + 1) y e'))
        by y g bad true false e e' = inr (
          omega (arith, has.count, below (length lines) y e, at_most (length lines + 1) y e'),
          omega (arith, ap rank_of (beyond k d (length old) lines y g bad (below (length lines) y e)).1),
        )

    -- and the last exchange is at its end
    module _ (whole : Reading (host_loop k d) log) where
      none : HasNoFault k d (length old) lines
      none x f bad = by (nat_lt (length lines) x) refl
        where
          by : (b : Bool) → nat_lt (length lines) x ≡ b → ⊥
          by false e = known.3 x f (at_most (length lines) x e) bad
          by true e =
              let ends = (beyond k d (length old) lines x f bad (below (length lines) x e)).0 in
              ends.3 (subst (λ (l : List Entry). Reading (host_loop k d) l) (same_log lines log ends.1 known.1 ends.2) whole)

      pub said_not_made : (x : ℕ) → MakesUpTo k d old log new (Some x) → IsVerdict k d old new lines (Some (x, fault.NoEffect))
      said_not_made x made = (
        sym shape.records,
        none,
        log,
        known.1,
        record { on_tape = omega (arith, made.0, shape.records); other = made.1; least = made.2 },
      )

      pub said_fine : MakesUpTo k d old log new None → IsVerdict k d old new lines None
      said_fine made = (
        sym shape.records,
        none,
        log,
        known.1,
        effect_whole k d old log t.readers.effects new known.2.effect whole shape (λ y on. made y (omega (arith, on, shape.records))),
      )
