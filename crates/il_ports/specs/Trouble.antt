-- The two faults of a store of records, and their counts.
use Rattle.std.specs.Prelude.{◌≡◌, ◌≤◌, ℕ, Bool, true, false, Option, Some, None, Result, Ok, Err}
use Rattle.lif_model.specs.Causes.{Rose}
use Rattle.il_ports.specs.declared.records.Trouble.{Trouble}
use Rattle.il_ports.specs.declared.records.Trouble.TheVariants.{Frame, Medium}

-- the first count rose at Frame; only the second rose at Medium
abbrev pub TroubleIs : ℕ → ℕ → ℕ → ℕ → Trouble → Type 0
TroubleIs frames_before frames_now medium_before medium_now Frame = Rose frames_before frames_now × (medium_before ≤ medium_now)
TroubleIs frames_before frames_now medium_before medium_now Medium = (frames_now ≡ frames_before) × Rose medium_before medium_now

-- neither count moved where the call is Ok
abbrev pub HasTroubleCause : {T : Type 0} → ℕ → ℕ → ℕ → ℕ → Result T Trouble → Type 0
HasTroubleCause frames_before frames_now medium_before medium_now (Ok _) = (frames_now ≡ frames_before) × (medium_now ≡ medium_before)
HasTroubleCause frames_before frames_now medium_before medium_now (Err trouble) = TroubleIs frames_before frames_now medium_before medium_now trouble

-- is it Ok
abbrev pub answers_ok : {T E : Type 0} → Result T E → Bool
answers_ok (Ok _) = true
answers_ok (Err _) = false

-- how it failed, if it did
abbrev pub failure_of : {T E : Type 0} → Result T E → Option E
failure_of (Ok _) = None
failure_of (Err e) = Some e

-- the way to the records stays set up: only a frame ends that
abbrev pub KeepsReady : {T : Type 0} → Bool → Bool → Result T Trouble → Type 0
KeepsReady before now (Ok _) = before ≡ true → now ≡ true
KeepsReady before now (Err Frame) = Unit {0}
KeepsReady before now (Err Medium) = before ≡ true → now ≡ true
