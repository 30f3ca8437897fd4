-- How a store goes on over calls.
use Rattle.std.proofs.Common.{◌≡◌, ◌∙◌, ◌+◌, ◌≤◌, ℕ, refl, subst, arith}
use Rattle.std.specs.Prelude.{Bool, true, Result, Some, Ok, Err}
use Rattle.lif_model.specs.Tape.{Tape}
use Rattle.lif_model.proofs.Moments.{started, still}
use Rattle.il_ports.specs.Stores.{RecordsView, IsStore, IsReady, Continues, IsQuiet, GoesOn, RunLeaves}
use Rattle.il_ports.specs.Trouble.{HasTroubleCause, KeepsReady}
use Rattle.il_ports.specs.declared.records.Trouble.{Trouble}
use Rattle.il_ports.specs.declared.records.Trouble.TheVariants as trouble

-- before the first call
pub goes_nowhere : {S : Type 0} (calls : ℕ) (v : RecordsView S) → IsReady calls v → GoesOn {T = Unit {0}} 0 v v (Ok tt)
goes_nowhere calls v ready = record {
  continues = record { valid = ready.valid; told = refl; size = refl; sound = ready.sound; ready = λ was. was; left = omega arith; room = refl; failed = λ was. was; cause = (refl, refl) };
  stood = λ s was. was;
  resumed = λ k was. was;
}

later_cause : {T : Type 0} (f0 f1 f2 m0 m1 m2 : ℕ) (r : Result T Trouble) → f1 ≡ f0 → m1 ≡ m0 → HasTroubleCause f1 f2 m1 m2 r → HasTroubleCause f0 f2 m0 m2 r
later_cause f0 f1 f2 m0 m1 m2 r frames medium cause = subst (λ (m : ℕ). HasTroubleCause f0 f2 m m2 r) medium (subst (λ (f : ℕ). HasTroubleCause f f2 m1 m2 r) frames cause)

still_ready : {T : Type 0} (a b c : Bool) (r : Result T Trouble) → (a ≡ true → b ≡ true) → KeepsReady b c r → KeepsReady a c r
still_ready a b c (Ok x) first next = λ was. next (first was)
still_ready a b c (Err trouble.Frame) first next = tt
still_ready a b c (Err trouble.Medium) first next = λ was. next (first was)

continues_further : {S T U : Type 0} (j k : ℕ) (v w u : RecordsView S) (x : T) (r : Result U Trouble) → Continues j v w (Ok x) → Continues k w u r → Continues (j + k) v u r
continues_further j k v w u x r first next = record {
  valid = next.valid;
  told = next.told ∙ first.told;
  size = next.size ∙ first.size;
  sound = next.sound;
  ready = still_ready v.ready w.ready u.ready r first.ready next.ready;
  left = omega (arith, first.left, next.left);
  room = next.room ∙ first.room;
  failed = λ was. next.failed (first.failed was);
  cause = later_cause _ _ _ _ _ _ r first.cause.0 first.cause.1 next.cause;
}

-- more calls, after some that did not fail
pub goes_further : {S T U : Type 0} (j k : ℕ) (v w u : RecordsView S) (x : T) (r : Result U Trouble) → GoesOn j v w (Ok x) → GoesOn k w u r → GoesOn (j + k) v u r
goes_further j k v w u x r first next = record {
  continues = continues_further j k v w u x r first.continues next.continues;
  stood = λ s was. next.stood s (first.stood s was);
  resumed = λ n was. next.resumed n (first.resumed n was);
}

-- a tape with P, through calls that change none
pub quiet_run : {S : Type 0} (v w : RecordsView S) (P : Tape → Type 0) (t : Tape) → IsStore v → IsQuiet v w → v.tape ≡ Some t → P t → RunLeaves v w P
quiet_run v w P t store quiet is here = still _ _ _ _ _ _ P quiet.moment quiet.since (started v.moment v.left_since P t (λ c left. store.leaves_only t c is left) here)

pub quiet_longer : {S : Type 0} (v w u : RecordsView S) → IsQuiet v w → IsQuiet w u → IsQuiet v u
quiet_longer v w u first next = record {
  tape = next.tape ∙ first.tape;
  moment = next.moment ∙ first.moment;
  since = record { nothing_else = λ m t left. first.since.nothing_else m t (next.since.nothing_else m t left); keeps = λ m t left. next.since.keeps m t (first.since.keeps m t left) };
}

pub quiet_nowhere : {S : Type 0} (v : RecordsView S) → IsQuiet v v
quiet_nowhere v = record { tape = refl; moment = refl; since = record { nothing_else = λ m t left. left; keeps = λ m t left. left } }

-- in so many calls or fewer
pub goes_within : {S T : Type 0} (j k : ℕ) (v w : RecordsView S) (r : Result T Trouble) → j ≤ k → GoesOn j v w r → GoesOn k v w r
goes_within j k v w r few goes =
    let c = goes.continues in
    record {
      continues = record { valid = c.valid; told = c.told; size = c.size; sound = c.sound; ready = c.ready; left = omega (arith, few, c.left); room = c.room; failed = c.failed; cause = c.cause };
      stood = goes.stood;
      resumed = goes.resumed;
    }
