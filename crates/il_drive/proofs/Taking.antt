-- What a step by the table comes to: for the loop, for the status, for the tape and for a power stop.
use Rattle.std.proofs.Common.{◌≡◌, ◌≢◌, ◌⊎◌, inl, inr, ⊎_elim, ℕ, true, false, subst, arith}
use Rattle.std.specs.Prelude.{◌↔◌, Some}
use Rattle.il_frames.specs.declared.frame.Frame.{Frame}
use Rattle.il_device.specs.declared.device.Out.{Out}
use Rattle.il_device.specs.declared.device.Out.TheVariants.{Source}
use Rattle.il_device.specs.Takes.{Takes, ete}
use Rattle.il_device.specs.Interfaces.{turn_on}
use Rattle.lif_model.specs.Tape.{Tape}
use Rattle.il_ports.specs.Media.{MediumView}
use Rattle.lif_model.specs.Stops.{LeavesOnly}
use Rattle.lif_model.specs.Causes.{Rose}
use Rattle.il_drive.specs.State.{DriveState, IsDrive, status_of, device_of}
use Rattle.il_drive.specs.Steps.{Did}
use Rattle.il_drive.specs.Table.{drive_step}
use Rattle.il_drive.specs.Facts.{has_wrong_echo, lacks_record, record_put, IsTapeAfter, IsLeft}
use Rattle.il_drive.proofs.Outcomes.{every_did, did_size, did_tape, did_stops}
use Rattle.il_drive.proofs.Answering.{Fact, facts, record_written, Takes-fact, fault_is_old, lack_tells, lack_is_told}

module _ {M : Type 0} (view : M → MediumView)
    (n : ℕ) (s t : DriveState) (f : Frame) (out : Out) (m m₂ : M) (did : Did view (drive_step n s f) (t, out) m m₂) where
  abbrev Came : Type 0
  Came = Fact (turn_on s.interface f) n s f false (t, out) ⊎ (Fact (turn_on s.interface f) n s f true (t, out) × Rose (view m).faults (view m₂).faults)

  came : Came
  came = every_did view (Fact (turn_on s.interface f) n s f) (drive_step n s f) (t, out) m m₂ (facts n s f) did

  pub Takes-did : (n₂ : ℕ) → IsDrive n s → IsDrive n₂ t → Takes (device_of s) f out (device_of t)
  Takes-did n₂ before after = ⊎_elim (λ fact. Takes-fact n n₂ s t f out false before after fact) (λ fact. Takes-fact n n₂ s t f out true before after fact.0) came

  pub ete-did : (out ≡ Source ete) ↔ (has_wrong_echo s f ≡ true)
  ete-did = ⊎_elim (λ fact. fact.by_ete) (λ fact. fact.0.by_ete) came

  fault-did : (fault : ℕ) → 0 ≢ fault → 3 ≢ fault → status_of t ≡ fault → (status_of s ≡ fault) ⊎ Rose (view m).faults (view m₂).faults
  fault-did fault one two is = ⊎_elim (λ fact. inl (fault_is_old (lacks_record n s f) (status_of s) (status_of t) fault fact.status is one two)) (λ fact. inr fact.1) came

  pub unread-did : status_of t ≡ 1 → (status_of s ≡ 1) ⊎ Rose (view m).faults (view m₂).faults
  unread-did is = fault-did 1 (λ e. absurd (omega (arith, e))) (λ e. absurd (omega (arith, e))) is

  pub unwritten-did : status_of t ≡ 2 → (status_of s ≡ 2) ⊎ Rose (view m).faults (view m₂).faults
  unwritten-did is = fault-did 2 (λ e. absurd (omega (arith, e))) (λ e. absurd (omega (arith, e))) is

  pub lacks-did : lacks_record n s f ≡ true → status_of t ≡ 3
  lacks-did h = ⊎_elim (λ fact. lack_tells (lacks_record n s f) false (status_of s) (status_of t) fact.status h) (λ fact. lack_tells (lacks_record n s f) true (status_of s) (status_of t) fact.0.status h) came

  pub lacked-did : status_of t ≡ 3 → (status_of s ≡ 3) ⊎ (lacks_record n s f ≡ true)
  lacked-did is = ⊎_elim (λ fact. lack_is_told (lacks_record n s f) false (status_of s) (status_of t) fact.status is) (λ fact. lack_is_told (lacks_record n s f) true (status_of s) (status_of t) fact.0.status is) came

  pub size-did : (view m₂).record_count ≡ (view m).record_count
  size-did = did_size view (drive_step n s f) (t, out) m m₂ did

  pub tape-did : IsTapeAfter (record_put n s f) (view m).tape (view m₂).tape
  tape-did = subst (λ put. IsTapeAfter put (view m).tape (view m₂).tape) (record_written n s f) (did_tape view (drive_step n s f) (t, out) m m₂ did)

  -- a stop as the frame comes leaves the tape as it reads
  pub stops-did : (x : Tape) → (view m).tape ≡ Some x → ((c : Tape) → (view m).left_since (view m).moment c → c ≡ x) → LeavesOnly (view m).moment (view m₂).moment (view m).left_since (view m₂).left_since (IsLeft (record_put n s f) x)
  stops-did x is only =
      subst (λ put. LeavesOnly (view m).moment (view m₂).moment (view m).left_since (view m₂).left_since (IsLeft put x)) (record_written n s f) (did_stops view (drive_step n s f) (t, out) m m₂ x did is only)
