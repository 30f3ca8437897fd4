-- Worked examples of what is said of traces and tapes, computed by the checker.
use Rattle.std.proofs.Common.{◌≡◌, ◌≢◌, ℕ, List, [], ◌∷◌, ◌∙◌, inl, inr, length, Some, None, refl, sym, ap, subst, arith, codes, replicate}
use Rattle.std.specs.Prelude.{get_or}
use Rattle.std.proofs.lemmas.List.Elements.{All-nil}
use Rattle.il_frames.specs.declared.entry.Entry.{Entry}
use Rattle.il_frames.specs.Entries.{IsEntry}
use Rattle.lif_model.specs.Tape.{Tape, record_at}
use Rattle.loop_model.specs.Loops.{host_loop}
use Rattle.loop_model.specs.Exchanges.{Reading}
use Rattle.loop_model.specs.Effect.{Effect}
use Rattle.il_check.specs.declared.verdict.TraceFault.TheVariants as fault
use Rattle.il_check.specs.Verdicts.{AreEntries, StopsWithin, HasNoFault, IsVerdict, IsLineAt}
use Rattle.trace_readers.proofs.CourseLemmas.{effect_told}
use Rattle.il_check.proofs.VerdictLaws.{same_log}

-- a tape of one record of zeros, and one of a record that begins with another byte
abbrev zeros : List ℕ
zeros = replicate 256 0

abbrev blank : Tape
blank = zeros ∷ []

abbrev marked : Tape
marked = (1 ∷ replicate 255 0) ∷ []

-- ---- lines

-- a reply's line is skipped, and an entry's is not
skipped : AreEntries (codes "status 00" ∷ []) []
skipped = record { entries = All-nil IsEntry; texts = refl }

not_skipped : AreEntries (codes "~ 0 UNL = UNL" ∷ []) [] → ⊥
not_skipped are = absurd (omega (arith, ap length are.texts))

-- ---- sizes

sizes : IsVerdict 2 1 blank [] [] (Some (0, fault.SizeDiffers))
sizes = (refl, λ same. absurd (omega (arith, same)))

sizes_elsewhere : IsVerdict 2 1 blank [] [] (Some (1, fault.SizeDiffers)) → ⊥
sizes_elsewhere said = absurd (omega (arith, said.0))

-- ---- a trace without a line

no_lines : AreEntries [] []
no_lines = record { entries = All-nil IsEntry; texts = refl }

no_line : (x : ℕ) (front : List (List ℕ)) (line : List ℕ) → IsLineAt [] x front line → ⊥
no_line x [] line stands = absurd (omega (arith, ap length stands.are))
no_line x (y ∷ front) line stands = absurd (omega (arith, ap length stands.are))

abbrev nothing_read : Reading (host_loop 2 1) []
nothing_read = record { pieces = []; legal = refl; entries = refl }

whole : (x : ℕ) → StopsWithin 2 1 [] x → ⊥
whole x ends = ends.3 (subst (Reading (host_loop 2 1)) (same_log [] [] ends.1 no_lines ends.2) nothing_read)

no_fault : HasNoFault 2 1 1 []
no_fault x fault.BadText has = no_line x has.0 has.1 has.2
no_fault x fault.NotTalker has = no_line x has.2.front _ has.2.stands
no_fault x fault.NoExchange (inl has) = no_line x has.2.front _ has.2.stands
no_fault x fault.NoExchange (inr ends) = whole x ends
no_fault x fault.BadUnit has = no_line x has.2.front _ has.2.stands
no_fault x fault.Unclear has = no_line x has.2.front _ has.2.stands
no_fault x fault.SizeDiffers has = has
no_fault x fault.NoEffect has = has

-- it leaves the tape as it was
nothing_done : Effect (host_loop 2 1) blank [] blank
nothing_done = record { reading = nothing_read; effect = refl }

passes : IsVerdict 2 1 blank blank [] None
passes = (refl, no_fault, [], no_lines, nothing_done)

stays : (new : Tape) → Effect (host_loop 2 1) blank [] new → new ≡ blank
stays new made = (effect_told 2 1 refl [] blank new nothing_read).0 made

differs : record_at blank 0 ≢ record_at marked 0
differs same = absurd (omega (arith, ap (λ (bytes : List ℕ). get_or bytes 0 0) same))

changed : IsVerdict 2 1 blank marked [] (Some (0, fault.NoEffect))
changed = (
  refl,
  no_fault,
  [],
  no_lines,
  record {
    on_tape = omega arith;
    other = λ made. differs (ap (λ (tape : Tape). record_at tape 0) (sym (stays made.0 made.1)) ∙ made.2);
    least = λ y less. absurd (omega (arith, less));
  },
)

changed_passes : IsVerdict 2 1 blank marked [] None → ⊥
changed_passes said = differs (sym (ap (λ (tape : Tape). record_at tape 0) (stays marked (subst (λ (log : List Entry). Effect (host_loop 2 1) blank log marked) (same_log [] said.2 [] said.3 no_lines) said.4))))
