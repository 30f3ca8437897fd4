-- A run of the program, by what `run_il` leaves over what was made for it; and a check, by what `run_check` does.
use Rattle.std.proofs.Common.{◌≡◌, ℕ, List, Option, subst}
use Rattle.il_device.specs.State.{DeviceState}
use Rattle.il_guest.specs.State.{GuestState}
use Rattle.il_ports.specs.Media.{MediumView}
use Rattle.il_host.specs.Whole.{RunLeaves, outside}
use Rattle.il_check.specs.Whole.{CheckLeaves}

module _ {D : Type 0} (view : D → MediumView) (refuses : D → D → List ℕ → Option ℕ → Type 0) (status : ℕ) (words : List (List ℕ)) (now : D) (left_now written_now : Option (List ℕ)) (after before_now after_now : List DeviceState) (guest guest_now : Option GuestState) (source_faults sink_faults : ℕ) (untouched : Type 0) where
  -- over this drive, script, output and counts
  abbrev Leaves : D → Option (List ℕ) → Option (List ℕ) → List DeviceState → ℕ → ℕ → Type 0
  Leaves d left written before source sink =
      RunLeaves status words (view d) (view now) (outside (view d) left written before after guest) (outside (view now) left_now written_now before_now after_now guest_now) source source_faults sink sink_faults (refuses d now) untouched

  pub ran_by : (fresh old : D) (left left_old written written_old : Option (List ℕ)) (before before_old : List DeviceState) (source sink : ℕ) (same : Type 0)
      → Leaves old left_old written_old before_old source sink → old ≡ fresh → left_old ≡ left → written_old ≡ written → before_old ≡ before → source ≡ 0 → sink ≡ 0 → (untouched → same)
      → RunLeaves status words (view fresh) (view now) (outside (view fresh) left written before after guest) (outside (view now) left_now written_now before_now after_now guest_now) 0 source_faults 0 sink_faults (refuses fresh now) same
  ran_by fresh old left left_old written written_old before before_old source sink same ran fresh_is left_is written_is before_is source_is sink_is stays =
      let told =
      subst (λ (d : D). Leaves d left written before 0 0) fresh_is
      (subst (λ (o : Option (List ℕ)). Leaves old o written before 0 0) left_is
      (subst (λ (o : Option (List ℕ)). Leaves old left_old o before 0 0) written_is
      (subst (λ (l : List DeviceState). Leaves old left_old written_old l 0 0) before_is
      (subst (λ (n : ℕ). Leaves old left_old written_old before_old n 0) source_is
      (subst (λ (n : ℕ). Leaves old left_old written_old before_old source n) sink_is ran)))))
      in record { end = told.end; status_is = told.status_is; cause = told.cause; leaves = told.leaves; failed = told.failed; empty = told.empty; early = λ early. stays (told.early early) }

-- and a check
module _ {D : Type 0} (view : D → MediumView) (refuses : D → D → List ℕ → Type 0) (status : ℕ) (words : List (List ℕ)) (now now' : D) (left_now written_now : Option (List ℕ)) (source_faults sink_faults : ℕ) where
  abbrev ChecksOver : D → D → Option (List ℕ) → Option (List ℕ) → ℕ → ℕ → Type 0
  ChecksOver d d' left written source sink = CheckLeaves status words (view d) (view now) (view d') (view now') left left_now written written_now source source_faults sink sink_faults (refuses d now) (refuses d' now')

  pub checked_by : (fresh old fresh' old' : D) (left left_old written written_old : Option (List ℕ)) (source sink : ℕ) → ChecksOver old old' left_old written_old source sink
      → old ≡ fresh → old' ≡ fresh' → left_old ≡ left → written_old ≡ written → source ≡ 0 → sink ≡ 0 → ChecksOver fresh fresh' left written 0 0
  checked_by fresh old fresh' old' left left_old written written_old source sink checked fresh_is fresh_is' left_is written_is source_is sink_is =
      subst (λ (d : D). ChecksOver d fresh' left written 0 0) fresh_is
      (subst (λ (d : D). ChecksOver old d left written 0 0) fresh_is'
      (subst (λ (o : Option (List ℕ)). ChecksOver old old' o written 0 0) left_is
      (subst (λ (o : Option (List ℕ)). ChecksOver old old' left_old o 0 0) written_is
      (subst (λ (n : ℕ). ChecksOver old old' left_old written_old n 0) source_is
      (subst (λ (n : ℕ). ChecksOver old old' left_old written_old source n) sink_is checked)))))
