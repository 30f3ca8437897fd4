-- Faults at their places.
use Rattle.std.proofs.Common.{◌≡◌, ℕ, suc, ◌+◌, ◌<◌, ◌≤◌, nat_lt, ◌||◌, Bool, true, false, cond, List, [], ◌∷◌, length, refl, sym, ap, ◌∙◌, arith, inl, inr}
use Rattle.std.specs.List.{prefix_len, take_while, insert}
use Rattle.std.proofs.lemmas.Bool.{cases_Bool, ltb-true, ltb-false, lt-ltb, and_parts, and_from, eqb-false}
use Rattle.std.proofs.lemmas.List.Folds.{length-prefix_len}
use Rattle.il_ring.specs.declared.plan.Planned.{Planned}
use Rattle.il_ring.specs.Plans.{is_fault, rises_from}
use Rattle.il_words.specs.Planning.{is_named, in_order}

-- at smaller crossings
abbrev pub is_before : ℕ → Planned → Bool
is_before hop planned = nat_lt planned.hop hop

at_place : (fault : Planned) (plan : List Planned) → in_order fault plan ≡ insert plan (prefix_len (is_before fault.hop) plan) fault
at_place fault [] = refl
at_place fault (first ∷ plan) = go (nat_lt first.hop fault.hop) (at_place fault plan)
  where
    go : (b : Bool) → in_order fault plan ≡ insert plan (prefix_len (is_before fault.hop) plan) fault
        → cond b (first ∷ in_order fault plan) (fault ∷ first ∷ plan) ≡ insert (first ∷ plan) (cond b (1 + prefix_len (is_before fault.hop) plan) 0) fault
    go true h = let n = prefix_len (is_before fault.hop) plan in let next : suc n ≡ 1 + n = omega arith in
        ap (λ l. first ∷ l) h ∙ ap (λ k. insert (first ∷ plan) k fault) next
    go false h = refl

-- a fault is put after those of smaller crossings
pub in_order-insert : (fault : Planned) (plan : List Planned) (at : ℕ) → at ≡ length (take_while (is_before fault.hop) plan) → insert plan at fault ≡ in_order fault plan
in_order-insert fault plan at e =
    ap (λ k. insert plan k fault) (e ∙ length-prefix_len (is_before fault.hop) plan) ∙ sym (at_place fault plan)

-- and the plan rises as before
pub rises_in_order : (n : ℕ) (fault : Planned) (plan : List Planned) → n < fault.hop → is_fault fault.fault ≡ true → rises_from n plan ≡ true → is_named fault.hop plan ≡ false
    → rises_from n (in_order fault plan) ≡ true
rises_in_order n fault [] above valid rises named = and_from _ _ (lt-ltb n fault.hop above) (and_from _ true valid refl)
rises_in_order n fault (first ∷ plan) above valid rises named =
    let parts = and_parts _ _ rises in
    let more = and_parts _ _ parts.1 in
    let others = or_parts _ _ named in
    elim (cases_Bool (nat_lt first.hop fault.hop)) [
      | inl before ↦ at_case true before (and_from _ _ parts.0 (and_from _ _ more.0 (rises_in_order first.hop fault plan (ltb-true _ _ before) valid more.1 others.1)))
      | inr behind ↦
          let apart : first.hop ≡ fault.hop → ⊥ = eqb-false _ _ others.0 in
          let not_before : fault.hop ≤ first.hop = ltb-false _ _ behind in
          let above_it : fault.hop < first.hop = omega arith in
          at_case false behind (and_from _ _ (lt-ltb n fault.hop above) (and_from _ _ valid (and_from _ _ (lt-ltb _ _ above_it) parts.1)))
    ]
  where
    at_case : (b : Bool) → nat_lt first.hop fault.hop ≡ b → rises_from n (cond b (first ∷ in_order fault plan) (fault ∷ first ∷ plan)) ≡ true → rises_from n (in_order fault (first ∷ plan)) ≡ true
    at_case b e h = ap (λ t. rises_from n (cond t (first ∷ in_order fault plan) (fault ∷ first ∷ plan))) e ∙ h

    or_parts : (x y : Bool) → (x || y) ≡ false → (x ≡ false) × (y ≡ false)
    or_parts true y e = cc
    or_parts false y e = (refl, e)
