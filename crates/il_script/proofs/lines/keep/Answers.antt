use Rattle.std.proofs.Common.{◌≡◌, ℕ, ◌+◌, ◌-◌, ◌≤◌, ◌⊎◌, List, length, take, min, ◌++◌, sym, ap, ◌∙◌, arith, rules, cond, true, is_ok, inl, inr}
use Rattle.std.proofs.lemmas.List.{take_all}
use Rattle.std.proofs.Math.Seq.{take-append-add}
use Rattle.il_script.specs.declared.limits.TheConstants.{KEPT_OF_LINE}
use Rattle.il_script.proofs.lines.keep.Goals as goal

min_cases : (m n : ℕ) → ((min m n ≡ m) × (m ≤ n)) ⊎ (min m n ≡ n)
min_cases m n = grind (arith)

take-least : (b : List ℕ) (n : ℕ) → take (min (length b) n) b ≡ take n b
take-least b n = elim (min_cases (length b) n) [
  | inl h ↦ ap (λ k. take k b) h.0 ∙ take_all (length b) b (omega arith) ∙ sym (take_all n b h.1)
  | inr h ↦ ap (λ k. take k b) h
]

kept_front : (a b : List ℕ) (k : ℕ) → length a ≤ k → a ++ take (min (length b) (k - length a)) b ≡ take k (a ++ b)
kept_front a b k h =
    let size : length a + (k - length a) ≡ k = omega arith in
    ap (λ l. a ++ l) (take-least b (k - length a)) ∙ sym (take-append-add a b (k - length a)) ∙ ap (λ n. take n (a ++ b)) size

pub returns-clause-items : goal.returns-clause-items
returns-clause-items c =
    let n : c.min-count.result ≡ min (length c.args.bytes.now) (KEPT_OF_LINE - length c.args.line.now.items) = search rules in
    let ok : is_ok c.extend_from_slice.result ≡ true = ap is_ok c.unwrap.ensures in
    c.extend_from_slice.ensures.items ∙ ap (λ b. cond b (c.args.line.now.items ++ take c.min-count.result c.args.bytes.now) c.args.line.now.items) ok
    ∙ ap (λ k. c.args.line.now.items ++ take k c.args.bytes.now) n ∙ kept_front _ _ KEPT_OF_LINE c.requires.fits
