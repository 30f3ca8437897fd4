-- Worked examples of checks, computed by the checker.
use Rattle.std.proofs.Common.{◌≡◌, ◌++◌, ℕ, List, [], ◌∷◌, Some, None, codes, refl, ap, arith, length}
use Rattle.std.specs.Prelude.{get_or, decimal}
use Rattle.il_check.specs.declared.ending.Ending.TheVariants as ending
use Rattle.il_check.specs.declared.verdict.TraceFault.{TraceFault}
use Rattle.il_check.specs.declared.verdict.TraceFault.TheVariants as fault
use Rattle.il_check.specs.Endings.{Says, check_status}
use Rattle.il_check.specs.Orders.{check_asked}
use Rattle.il_check.specs.Telling.{verdict_text}
use Rattle.il_check.specs.Tracing.{HasFaultAfter}
use Rattle.il_check.specs.Whole.{PutsAs}

-- ---- words

two_and_one : check_asked (codes "check" ∷ codes "2" ∷ codes "1" ∷ codes "B" ∷ codes "A" ∷ []) ≡ Some (record { devices = 2; drive = 1; before = codes "B"; after = codes "A" })
two_and_one = refl

thirty_one : check_asked (codes "check" ∷ codes "31" ∷ codes "1" ∷ codes "B" ∷ codes "A" ∷ []) ≡ None
thirty_one = refl

past_the_last : check_asked (codes "check" ∷ codes "2" ∷ codes "3" ∷ codes "B" ∷ codes "A" ∷ []) ≡ None
past_the_last = refl

leading_zero : check_asked (codes "check" ∷ codes "02" ∷ codes "1" ∷ codes "B" ∷ codes "A" ∷ []) ≡ None
leading_zero = refl

four_words : check_asked (codes "check" ∷ codes "2" ∷ codes "1" ∷ codes "B" ∷ []) ≡ None
four_words = refl

-- ---- texts

said_no : verdict_text (Some (7, fault.NoEffect)) None None ≡ codes "check no" ++ (32 ∷ decimal 7) ++ (32 ∷ decimal 4) ++ codes " NoEffect" ++ 10 ∷ []
said_no = refl

said_yes : verdict_text None None None ≡ (codes "check ok" ++ 10 ∷ []) ++ ((codes "before notlif" ++ 10 ∷ []) ++ (codes "after notlif" ++ 10 ∷ []))
said_yes = refl

-- ---- endings

yes_is_zero : check_status ending.Together ≡ 0
yes_is_zero = refl

a_fault_is_no_zero : (x : ℕ) (f : TraceFault) → Says ending.Together (Some (x, f)) → ⊥
a_fault_is_no_zero x f said = said

no_fault_is_no_one : Says ending.Differ None → ⊥
no_fault_is_no_one said = said

-- a front of the text where the sink failed, and all of it elsewhere
a_front : PutsAs ending.SinkFailed (codes "check ok") (Some []) (Some (codes "che"))
a_front = (3, omega arith, refl)

no_front : PutsAs ending.Together (codes "check ok") (Some []) (Some (codes "che")) → ⊥
no_front writes = absurd (omega (arith, ap (λ (l : List ℕ). length l) writes))

-- ---- lines

no_entry : HasFaultAfter 2 1 512 [] (codes "~") fault.BadText
no_entry e is same = absurd (omega (arith, ap (λ (l : List ℕ). get_or l 1 0) same))

no_size : HasFaultAfter 2 1 512 [] (codes "~") fault.SizeDiffers → ⊥
no_size has = has
