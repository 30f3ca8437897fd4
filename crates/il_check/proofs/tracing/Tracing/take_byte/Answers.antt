use Rattle.std.proofs.Common.{refl, ◌∙◌, ◌≡◌, ◌≢◌, ◌++◌, ◌∷◌, ◌==◌, [], ℕ, List, false, true, take, ◌≤◌, ap, arith, length, length-append, subst, sym}
use Rattle.std.proofs.lemmas.Bool.Decides.{nat_tests}
use Rattle.std.proofs.lemmas.List.{take_all, take-append-le, length-take}
use Rattle.il_check.specs.Tracing.{HasTaken}
use Rattle.il_check.proofs.StepLemmas.{feed_taken, byte_taken}
use Rattle.il_check.proofs.tracing.Tracing.take_byte.Goals as goal

no_feed : (x : ℕ) → x ≢ 10 → (x == 10) ≡ false
no_feed x other = grind (arith, nat_tests)

full : (n : ℕ) → (n == 41) ≡ true → n ≡ 41
full n e = grind (arith, nat_tests)

not_full : (n : ℕ) → (n == 41) ≡ false → n ≢ 41
not_full n e = grind (arith, nat_tests)

few : (kept line : List ℕ) → kept ≡ take 41 line → length kept ≤ 41
few kept line e = omega (arith, ap (λ (l : List ℕ). length l) e, length-take 41 line)

pub returns-then-byte-eq10-clause-taken : goal.returns-then-byte-eq10-clause-taken
returns-then-byte-eq10-clause-taken c = λ k d old bytes taken.
    subst (λ (x : ℕ). HasTaken k d old (bytes ++ x ∷ []) c.end_line.new.self) (sym c.if-byte-eq10.true)
    (feed_taken k d old bytes c.args.self.now c.end_line.new.self (λ lines line. c.end_line.ensures.known k d old lines line)
    c.end_line.ensures.kept taken)

pub returns-then-not-is_full-clause-taken : goal.returns-then-not-is_full-clause-taken
returns-then-not-is_full-clause-taken c = λ k d old bytes taken.
    byte_taken k d old bytes c.args.byte c.args.self.now _ (no_feed c.args.byte c.if-byte-eq10.false) refl refl refl
    (c.push.ensures.items ∙ sym (take_all 41 (c.args.self.now.kept.items ++ c.args.byte ∷ [])
    (roomy c.args.self.now.kept.items (few c.args.self.now.kept.items _ taken.kept) (not_full (length c.args.self.now.kept.items) (sym c.is_full.ensures.value ∙ c.if-not-is_full.true))))) taken
  where
    roomy : (kept : List ℕ) → length kept ≤ 41 → length kept ≢ 41 → length (kept ++ c.args.byte ∷ []) ≤ 41
    roomy kept most other = omega (arith, most, other, length-append kept (c.args.byte ∷ []))

pub returns-else-not-is_full-clause-taken : goal.returns-else-not-is_full-clause-taken
returns-else-not-is_full-clause-taken c = λ k d old bytes taken.
    byte_taken k d old bytes c.args.byte c.args.self.now _ (no_feed c.args.byte c.if-byte-eq10.false) refl refl refl
    (sym (take-append-le 41 c.args.self.now.kept.items (c.args.byte ∷ []) (omega (arith, all)) ∙ take_all 41 c.args.self.now.kept.items (omega (arith, all)))) taken
  where
    all : length c.args.self.now.kept.items ≡ 41
    all = full (length c.args.self.now.kept.items) (sym c.is_full.ensures.value ∙ c.if-not-is_full.false)
