-- Exchanges that are those asked for, one call after the other.
use Rattle.std.proofs.Common.{◌≡◌, ◌∙◌, ◌≤◌, ◌+◌, ◌++◌, inl, inr, ℕ, zero, suc, Bool, true, false, List, [], ◌∷◌, None, refl, sym, ap, subst, arith, append-nil, append_assoc}
use Rattle.std.proofs.lemmas.Bool.{cases_lt}
use Rattle.il_ports.specs.Media.{MediumView}
use Rattle.loop_model.specs.Exchanges.{Exchange, Piece, Whole as WholeOne, Cut}
use Rattle.loop_model.specs.Units.{sought as named_by}
use Rattle.il_ring.specs.Rings.{RingView}
use Rattle.il_control.specs.Calls.{IsIdle, Made, BrokenOff, loop_of}
use Rattle.il_record.specs.Asks.{Ask, Asked, CameAsked, IsFirstOf, ask_of, up_to}
use Rattle.il_record.proofs.CameLaws.{made_came, broken_came, nothing_came, came_then}

-- ---- lists of exchanges

pub asked_then : (whole : Bool) (asks more : List Ask) (ps qs : List Piece) → Asked asks ps true → Asked more qs whole → Asked (asks ++ more) (ps ++ qs) whole
asked_then whole [] more [] qs first last = last
asked_then whole [] more (p ∷ ps) qs first last = absurd first
asked_then whole (a ∷ asks) more [] qs first last = absurd first
asked_then whole (a ∷ asks) more (WholeOne x ∷ ps) qs first last = (first.0, asked_then whole asks more ps qs first.1 last)
asked_then whole (a ∷ asks) more (Cut x n b ∷ []) qs first last = absurd first
asked_then whole (a ∷ asks) more (Cut x n b ∷ p ∷ ps) qs first last = absurd first

-- what was asked for after a broken exchange did not come
pub asked_less : (asks more : List Ask) (ps : List Piece) → Asked asks ps false → Asked (asks ++ more) ps false
asked_less [] more [] first = absurd first
asked_less [] more (p ∷ ps) first = absurd first
asked_less (a ∷ asks) more [] first = absurd first
asked_less (a ∷ asks) more (WholeOne x ∷ ps) first = (first.0, asked_less asks more ps first.1)
asked_less (a ∷ asks) more (Cut x n b ∷ []) first = first
asked_less (a ∷ asks) more (Cut x n b ∷ p ∷ ps) first = absurd first

-- ---- address by address

pub up_to_next : (asks : ℕ → List Ask) (i : ℕ) → up_to asks i ++ asks (i + 1) ≡ up_to asks (i + 1)
up_to_next asks i =
    let next : suc i ≡ i + 1 = omega arith in
    ap (λ n. up_to asks i ++ asks n) (sym next) ∙ ap (up_to asks) next

pub up_to_front : (asks : ℕ → List Ask) (i n : ℕ) → i ≤ n → (more : List Ask) × (up_to asks n ≡ up_to asks i ++ more)
up_to_front asks i zero within = let none : i ≡ 0 = omega (arith, within) in ([], sym (ap (λ i. up_to asks i ++ []) none))
up_to_front asks i (suc n) within = elim (cases_lt i (suc n)) [
  | inl less ↦ (
      let front = up_to_front asks i n (omega (arith, less)) in
      (front.0 ++ asks (suc n), ap (λ list. list ++ asks (suc n)) front.1 ∙ append_assoc (up_to asks i) front.0 (asks (suc n)))
      )
  | inr past ↦ (let all : suc n ≡ i = omega (arith, past, within) in ([], ap (up_to asks) all ∙ sym (append-nil (up_to asks i))))
]

-- ---- calls

module _ {M : Type 0} (view : M → MediumView) where
  pub asked_made : (x : Exchange) (r s : RingView M) → Made view x r s → named_by (loop_of r) (WholeOne x) ≡ None → (view s.drive.medium).tape ≡ (view r.drive.medium).tape → CameAsked view true (ask_of x ∷ []) r s
  asked_made x r s made none same = record { units = made_came view x r s made none same; asked = (refl, tt) }

  -- one that broke off, with what was to come after it
  pub asked_broken : (ask : Ask) (more : List Ask) (x : Exchange) (r s : RingView M) → IsFirstOf (ask_of x) ask → BrokenOff view x r s → (view s.drive.medium).tape ≡ (view r.drive.medium).tape → CameAsked view false (ask ∷ more) r s
  asked_broken ask more x r s first broken same = record { units = broken_came view x r s broken same; asked = first }

  pub asked_nothing : (r : RingView M) → IsIdle r → CameAsked view true [] r r
  asked_nothing r idle = record { units = nothing_came view r idle; asked = tt }

  pub asked_on : (whole : Bool) (asks more : List Ask) (r m s : RingView M) → IsIdle r → CameAsked view true asks r m → CameAsked view whole more m s → CameAsked view whole (asks ++ more) r s
  asked_on whole asks more r m s idle first last = record {
    units = came_then view whole [] [] r m s idle first.units last.units;
    asked = asked_then whole asks more first.units.came.pieces last.units.came.pieces first.asked last.asked;
  }

  pub asked_in_part : (asks more : List Ask) (r s : RingView M) → CameAsked view false asks r s → CameAsked view false (asks ++ more) r s
  asked_in_part asks more r s came = record { units = came.units; asked = asked_less asks more came.units.came.pieces came.asked }

  -- a call that broke off at the address after the first i
  pub asked_up_to : (asks : ℕ → List Ask) (i n : ℕ) (more : List Ask) (r m s : RingView M) → i + 1 ≤ n → IsIdle r → CameAsked view true (up_to asks i) r m → CameAsked view false (asks (i + 1)) m s → CameAsked view false (up_to asks n ++ more) r s
  asked_up_to asks i n more r m s within idle first last =
      let front = up_to_front asks (i + 1) n within in
      let came = asked_in_part (up_to asks i ++ asks (i + 1)) (front.0 ++ more) r s (asked_on false (up_to asks i) (asks (i + 1)) r m s idle first last) in
      subst (λ list. CameAsked view false list r s)
      (ap (λ list. list ++ (front.0 ++ more)) (up_to_next asks i) ∙ sym (append_assoc (up_to asks (i + 1)) front.0 more) ∙ sym (ap (λ list. list ++ more) front.1)) came
