-- What each value that a step may come to has, and what the medium's part in it comes to.
use Rattle.std.proofs.Common.{◌≡◌, ◌⊎◌, inl, inr, ℕ, List, Bool, true, false, refl, sym, subst, ap}
use Rattle.std.specs.Prelude.{Option, Some, None}
use Rattle.lif_model.specs.Tape.{Tape}
use Rattle.il_ports.specs.Media.{MediumView}
use Rattle.lif_model.specs.Stops.{Torn, LeavesOnly}
use Rattle.lif_model.specs.Causes.{Rose}
use Rattle.lif_model.proofs.Moments.{started, goes_on, still}
use Rattle.lif_model.proofs.Runs.{torn_nothing}
use Rattle.il_drive.specs.Steps.{Step, Now, Reads, Writes, then_by, Did}
use Rattle.il_drive.specs.Facts.{IsTapeAfter, IsLeft}

-- P of each value, and of whether the medium has failed as the step comes to it
abbrev pub Every : {X : Type 0} → (Bool → X → Type 0) → Step X → Type 0
Every P (Now x) = P false x
Every P (Reads k good bad) = ((bytes : List ℕ) → P false (good bytes)) × P true bad
Every P (Writes k bytes good bad) = P false good × P true bad

pub every_then : {X Y : Type 0} (P : Bool → X → Type 0) (Q : Bool → Y → Type 0) (g : X → Y) (st : Step X)
    → ((failed : Bool) (x : X) → P failed x → Q failed (g x)) → Every P st → Every Q (then_by g st)
every_then P Q g (Now x) more all = more false x all
every_then P Q g (Reads k good bad) more all = (λ bytes. more false (good bytes) (all.0 bytes), more true bad all.1)
every_then P Q g (Writes k bytes good bad) more all = (more false good all.0, more true bad all.1)

pub every_weaker : {X : Type 0} (P Q : Bool → X → Type 0) (st : Step X) → ((failed : Bool) (x : X) → P failed x → Q failed x) → Every P st → Every Q st
every_weaker P Q (Now x) more all = more false x all
every_weaker P Q (Reads k good bad) more all = (λ bytes. more false (good bytes) (all.0 bytes), more true bad all.1)
every_weaker P Q (Writes k bytes good bad) more all = (more false good all.0, more true bad all.1)

pub every_both : {X : Type 0} (P Q : Bool → X → Type 0) (st : Step X) → Every P st → Every Q st → Every (λ (failed : Bool) (x : X). P failed x × Q failed x) st
every_both P Q (Now x) one other = (one, other)
every_both P Q (Reads k good bad) one other = (λ bytes. (one.0 bytes, other.0 bytes), (one.1, other.1))
every_both P Q (Writes k bytes good bad) one other = ((one.0, other.0), (one.1, other.1))

pub every_when : {X : Type 0} (A : Type 0) (P : Bool → X → Type 0) (st : Step X) → (A → Every P st) → Every (λ (failed : Bool) (x : X). A → P failed x) st
every_when A P (Now x) all = all
every_when A P (Reads k good bad) all = (λ bytes a. (all a).0 bytes, λ a. (all a).1)
every_when A P (Writes k bytes good bad) all = (λ a. (all a).0, λ a. (all a).1)

-- the record that a step writes, and its bytes
abbrev pub written : {X : Type 0} → Step X → Option (ℕ × List ℕ)
written (Now x) = None
written (Reads k good bad) = None
written (Writes k bytes good bad) = Some (k, bytes)

pub written_then : {X Y : Type 0} (g : X → Y) (st : Step X) → written (then_by g st) ≡ written st
written_then g (Now x) = refl
written_then g (Reads k good bad) = refl
written_then g (Writes k bytes good bad) = refl

module _ {M : Type 0} (view : M → MediumView) where
  -- what holds of each value holds of the one that it came to, and where the medium has failed its count rose
  pub every_did : {X : Type 0} (P : Bool → X → Type 0) (st : Step X) (x : X) (m n : M) → Every P st → Did view st x m n
      → P false x ⊎ (P true x × Rose (view m).faults (view n).faults)
  every_did P (Now value) x m n all did = inl (subst (P false) (sym did.0) all)
  every_did P (Reads k good bad) x m n all (still, inl gave) = inl (subst (P false) (sym gave.value) (all.0 gave.bytes))
  every_did P (Reads k good bad) x m n all (still, inr failed) = inr (subst (P true) (sym failed.0) all.1, failed.1)
  every_did P (Writes k bytes good bad) x m n all (has, inl took) = inl (subst (P false) (sym took.0) all.0)
  every_did P (Writes k bytes good bad) x m n all (has, inr torn) = inr (subst (P true) (sym torn.0) all.1, torn.2)

  pub did_size : {X : Type 0} (st : Step X) (x : X) (m n : M) → Did view st x m n → (view n).record_count ≡ (view m).record_count
  did_size (Now value) x m n did = ap (λ k. (view k).record_count) did.1
  did_size (Reads k good bad) x m n did = did.0.stays_in.size
  did_size (Writes k bytes good bad) x m n did = did.0.stays_in.size

  pub did_tape : {X : Type 0} (st : Step X) (x : X) (m n : M) → Did view st x m n → IsTapeAfter (written st) (view m).tape (view n).tape
  did_tape (Now value) x m n did = ap (λ k. (view k).tape) did.1
  did_tape (Reads k good bad) x m n did = did.0.tape
  did_tape (Writes k bytes good bad) x m n (has, inl took) = λ t is. inl (took.1 t is)
  did_tape (Writes k bytes good bad) x m n (has, inr torn) = λ t is. inr (torn.1 t is)

  -- a stop now leaves the tape as it reads, and no other
  pub did_stops : {X : Type 0} (st : Step X) (x : X) (m n : M) (t : Tape) → Did view st x m n → (view m).tape ≡ Some t
      → ((c : Tape) → (view m).left_since (view m).moment c → c ≡ t) → LeavesOnly (view m).moment (view n).moment (view m).left_since (view n).left_since (IsLeft (written st) t)
  did_stops (Now value) x m n t did is only =
      subst (λ (k : M). LeavesOnly (view m).moment (view k).moment (view m).left_since (view k).left_since (λ c. c ≡ t)) (sym did.1) (started (view m).moment (view m).left_since (λ c. c ≡ t) t only refl)
  did_stops (Reads k good bad) x m n t did is only =
      still (view m).moment (view m).moment (view n).moment (view m).left_since (view m).left_since (view n).left_since (λ c. c ≡ t) did.0.moment did.0.since (started (view m).moment (view m).left_since (λ c. c ≡ t) t only refl)
  did_stops (Writes k bytes good bad) x m n t did is only =
      goes_on (view m).moment (view m).moment (view n).moment (view m).left_since (view m).left_since (view n).left_since (Torn k t) (view m).tape (Torn k) t is (started (view m).moment (view m).left_since (Torn k t) t only (torn_nothing k t)) did.0.time (λ c torn. torn)
