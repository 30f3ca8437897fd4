-- What is said of a trace and two tapes is one thing alone.
use Rattle.std.proofs.lemmas.Bool.Decides.{nat_tests}
use Rattle.std.proofs.lemmas.List.Elements.{All-head, All-tail}
use Rattle.std.proofs.Common.{◌≡◌, ◌≢◌, ◌⊎◌, ◌∙◌, ◌<◌, ◌≤◌, inl, inr, ℕ, zero, suc, Bool, All, true, false, nat_lt, List, [], ◌∷◌, length, map, Option, Some, None, refl, sym, ap, ap₂, subst, arith}
use Rattle.std.specs.Prelude.{get_or, drop}
use Rattle.il_frames.specs.declared.entry.Entry.{Entry}
use Rattle.il_frames.specs.Entries.{IsEntry, entry_text}
use Rattle.il_frames.proofs.EntryLemmas.{only_entry}
use Rattle.lif_model.specs.Tape.{Tape, record_at}
use Rattle.loop_model.specs.Loops.{host_loop}
use Rattle.loop_model.specs.Effect.{Effect}
use Rattle.il_check.specs.declared.verdict.TraceFault.{TraceFault}
use Rattle.il_check.specs.declared.verdict.TraceFault.TheVariants as fault
use Rattle.il_check.specs.Verdicts.{AreEntries, HasNoFault, IsFirstFault, IsLeastNotMade, IsVerdict, rank_of}

-- the lines of a trace have one log
same_logs : (a b : List Entry) → All IsEntry a → All IsEntry b → map entry_text a ≡ map entry_text b → a ≡ b
same_logs [] [] ha hb e = refl
same_logs [] (y ∷ b) ha hb e = absurd (omega (arith, ap length e))
same_logs (x ∷ a) [] ha hb e = absurd (omega (arith, ap length e))
same_logs (x ∷ a) (y ∷ b) ha hb e =
    ap₂ (λ (z : Entry) (zs : List Entry). z ∷ zs) (only_entry y (entry_text x) (All-head IsEntry y b hb) (ap (λ (texts : List (List ℕ)). get_or texts 0 []) e) x (All-head IsEntry x a ha) refl)
    (same_logs a b (All-tail IsEntry x a ha) (All-tail IsEntry y b hb) (ap (drop 1) e))

pub same_log : (lines : List (List ℕ)) (a b : List Entry) → AreEntries lines a → AreEntries lines b → a ≡ b
same_log lines a b ha hb = same_logs a b ha.entries hb.entries (ha.texts ∙ sym hb.texts)

-- a rank tells its fault
abbrev fault_at : ℕ → TraceFault
fault_at zero = fault.SizeDiffers
fault_at (suc zero) = fault.BadText
fault_at (suc (suc zero)) = fault.NotTalker
fault_at (suc (suc (suc zero))) = fault.NoExchange
fault_at (suc (suc (suc (suc zero)))) = fault.BadUnit
fault_at (suc (suc (suc (suc (suc zero))))) = fault.Unclear
fault_at (suc (suc (suc (suc (suc (suc n)))))) = fault.NoEffect

ranked : (f : TraceFault) → fault_at (rank_of f) ≡ f
ranked fault.SizeDiffers = refl
ranked fault.BadText = refl
ranked fault.NotTalker = refl
ranked fault.NoExchange = refl
ranked fault.BadUnit = refl
ranked fault.Unclear = refl
ranked fault.NoEffect = refl

lower : (a b : ℕ) → nat_lt a b ≡ true → a < b
lower a b e = grind (arith, nat_tests)

not_lower : (a b : ℕ) → nat_lt a b ≡ false → b ≤ a
not_lower a b e = grind (arith, nat_tests)

-- what is said, by its kind
data Said (k d : ℕ) (old new : Tape) (lines : List (List ℕ)) (v : Option (ℕ × TraceFault)) : Type 0 where
  Fine : v ≡ None → length old ≡ length new → HasNoFault k d (length old) lines → (log : List Entry) → AreEntries lines log → Effect (host_loop k d) old log new → Said k d old new lines v
  Sized : v ≡ Some (0, fault.SizeDiffers) → length old ≢ length new → Said k d old new lines v
  Lined : (x : ℕ) (f : TraceFault) → v ≡ Some (x, f) → length old ≡ length new → IsFirstFault k d (length old) lines x f → Said k d old new lines v
  Unmade : (x : ℕ) → v ≡ Some (x, fault.NoEffect) → length old ≡ length new → HasNoFault k d (length old) lines → (log : List Entry) → AreEntries lines log → IsLeastNotMade k d old log new x → Said k d old new lines v

module _ (k d : ℕ) (old new : Tape) (lines : List (List ℕ)) where
  said : (v : Option (ℕ × TraceFault)) → IsVerdict k d old new lines v → Said k d old new lines v
  said None h = Fine refl h.0 h.1 h.2 h.3 h.4
  said (Some (x, fault.SizeDiffers)) h = Sized (ap (λ (n : ℕ). Some (n, fault.SizeDiffers)) h.0) h.1
  said (Some (x, fault.NoEffect)) h = Unmade x refl h.0 h.1 h.2 h.3 h.4
  said (Some (x, fault.BadText)) h = Lined x fault.BadText refl h.0 h.1
  said (Some (x, fault.NotTalker)) h = Lined x fault.NotTalker refl h.0 h.1
  said (Some (x, fault.NoExchange)) h = Lined x fault.NoExchange refl h.0 h.1
  said (Some (x, fault.BadUnit)) h = Lined x fault.BadUnit refl h.0 h.1
  said (Some (x, fault.Unclear)) h = Lined x fault.Unclear refl h.0 h.1

  abbrev told : ℕ → TraceFault → Option (ℕ × TraceFault)
  told x f = Some (x, f)

  -- two first faults are one
  first_one : (x y : ℕ) (f g : TraceFault) → IsFirstFault k d (length old) lines x f → IsFirstFault k d (length old) lines y g → told x f ≡ told y g
  first_one x y f g a b = by (a.first y g b.has) (b.first x f a.has)
    where
      by : (x < y) ⊎ ((x ≡ y) × (rank_of f ≤ rank_of g)) → (y < x) ⊎ ((y ≡ x) × (rank_of g ≤ rank_of f)) → told x f ≡ told y g
      by (inl less) (inl more) = absurd (omega (arith, less, more))
      by (inl less) (inr same) = absurd (omega (arith, less, same.0))
      by (inr same) (inl more) = absurd (omega (arith, same.0, more))
      by (inr same) (inr back) =
          let ranks : rank_of f ≡ rank_of g = omega (arith, same.1, back.1) in
          ap₂ told same.0 (sym (ranked f) ∙ ap fault_at ranks ∙ ranked g)

  -- and two least records that were not made
  least_one : (a b : List Entry) (x y : ℕ) → a ≡ b → IsLeastNotMade k d old a new x → IsLeastNotMade k d old b new y → x ≡ y
  least_one a b x y same p q = by (nat_lt x y) (nat_lt y x) refl refl
    where
      by : (less more : Bool) → nat_lt x y ≡ less → nat_lt y x ≡ more → x ≡ y
      by true more is other = absurd (p.other (subst (λ (log : List Entry). (between : Tape) × Effect (host_loop k d) old log between × (record_at between x ≡ record_at new x)) (sym same) (q.least x (lower x y is))))
      by false true is other = absurd (q.other (subst (λ (log : List Entry). (between : Tape) × Effect (host_loop k d) old log between × (record_at between y ≡ record_at new y)) same (p.least y (lower y x other))))
      by false false is other = omega (arith, not_lower x y is, not_lower y x other)

  one : (v w : Option (ℕ × TraceFault)) → Said k d old new lines v → Said k d old new lines w → v ≡ w
  one v w (Fine vs size none log are effect) (Fine ws size' none' log' are' effect') = vs ∙ sym ws
  one v w (Fine vs size none log are effect) (Sized ws differ) = absurd (differ size)
  one v w (Fine vs size none log are effect) (Lined x f ws size' first) = absurd (none x f first.has)
  one v w (Fine vs size none log are effect) (Unmade x ws size' none' log' are' least) =
      absurd (least.other (new, subst (λ (l : List Entry). Effect (host_loop k d) old l new) (same_log lines log log' are are') effect, refl))
  one v w (Sized vs differ) (Fine ws size none log are effect) = absurd (differ size)
  one v w (Sized vs differ) (Sized ws differ') = vs ∙ sym ws
  one v w (Sized vs differ) (Lined x f ws size first) = absurd (differ size)
  one v w (Sized vs differ) (Unmade x ws size none log are least) = absurd (differ size)
  one v w (Lined x f vs size first) (Fine ws size' none log are effect) = absurd (none x f first.has)
  one v w (Lined x f vs size first) (Sized ws differ) = absurd (differ size)
  one v w (Lined x f vs size first) (Lined y g ws size' first') = vs ∙ first_one x y f g first first' ∙ sym ws
  one v w (Lined x f vs size first) (Unmade y ws size' none log are least) = absurd (none x f first.has)
  one v w (Unmade x vs size none log are least) (Fine ws size' none' log' are' effect) =
      absurd (least.other (new, subst (λ (l : List Entry). Effect (host_loop k d) old l new) (same_log lines log' log are' are) effect, refl))
  one v w (Unmade x vs size none log are least) (Sized ws differ) = absurd (differ size)
  one v w (Unmade x vs size none log are least) (Lined y g ws size' first) = absurd (none y g first.has)
  one v w (Unmade x vs size none log are least) (Unmade y ws size' none' log' are' least') =
      vs ∙ ap (λ (n : ℕ). Some (n, fault.NoEffect)) (least_one log log' x y (same_log lines log log' are are') least least') ∙ sym ws

  -- no trace and tapes have two verdicts
  pub one_verdict : (v w : Option (ℕ × TraceFault)) → IsVerdict k d old new lines v → IsVerdict k d old new lines w → v ≡ w
  one_verdict v w a b = one v w (said v a) (said w b)
