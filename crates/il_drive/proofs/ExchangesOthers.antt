-- Exchanges with other devices: a drive that is not addressed lets all frames pass, and stays as it is. And the accessory
-- ID, which the drive tells without a change.
use Rattle.std.proofs.Common.{◌≡◌, ℕ, Bool, true, false, List, [], ◌∷◌, refl, sym, ap, ◌∙◌}
use Rattle.std.specs.Prelude.{None, ◌==◌, not, ◌&&◌}
use Rattle.il_ports.specs.Media.{MediumView}
use Rattle.il_frames.specs.declared.frame.Frame.{Frame}
use Rattle.il_frames.specs.declared.message.Message.{Message}
use Rattle.il_frames.specs.declared.message.Message.TheVariants as msg
use Rattle.il_frames.specs.Messages.{message_of}
use Rattle.il_device.specs.declared.device.Out.{Out}
use Rattle.il_drive.specs.State.{DriveView}
use Rattle.il_drive.specs.Runs.{Ran}
use Rattle.il_drive.proofs.Exchanges.{Stance, stance_of, stance_after, is_quiet, stance_all, are_quiet, Say, goes_by}
use Rattle.il_drive.proofs.ExchangesAddressed.{bystander}

-- the message is not for the drive of address p, and not for all devices either, but that listening or talking ends
abbrev pub is_for_others : ℕ → Message → Bool
is_for_others p msg.Ifc = false
is_for_others p msg.Aau = false
is_for_others p msg.Dcl = false
is_for_others p (msg.Lad a) = not (p == a)
is_for_others p (msg.Tad a) = not (p == a)
is_for_others p _ = true

abbrev pub AreForOthers : ℕ → List Frame → Type 0
AreForOthers p [] = Unit {0}
AreForOthers p (f ∷ fs) = (is_for_others p (message_of f) ≡ true) × AreForOthers p fs

-- a drive that neither talks nor listens
abbrev standing_by : ℕ → Stance → Stance
standing_by p σ = record σ { roles = bystander p; own = None }

not_own : (b : Bool) → not b ≡ true → b ≡ false
not_own true h = cc
not_own false h = refl

quiet_for : (p : ℕ) (m : Message) (σ : Stance) → is_quiet m (standing_by p σ) ≡ true
quiet_for p (msg.Dab b) σ = refl
quiet_for p (msg.Dsr b) σ = refl
quiet_for p (msg.End b) σ = refl
quiet_for p (msg.Esr b) σ = refl
quiet_for p msg.Sda σ = refl
quiet_for p msg.Sst σ = refl
quiet_for p msg.Sdi σ = refl
quiet_for p msg.Sai σ = refl
quiet_for p (msg.Ddl k) σ = refl
quiet_for p _ σ = refl

stays_by : (p : ℕ) (m : Message) (σ : Stance) → is_for_others p m ≡ true → stance_after m (standing_by p σ) ≡ standing_by p σ
stays_by p msg.Ifc σ h = cc
stays_by p msg.Aau σ h = cc
stays_by p msg.Dcl σ h = cc
stays_by p (msg.Lad a) σ h = rw (not_own (p == a) h) refl
stays_by p (msg.Tad a) σ h = rw (not_own (p == a) h) refl
stays_by p _ σ h = refl

is_standing_by : (p : ℕ) (σ : Stance) → σ.roles ≡ bystander p → σ.own ≡ None → σ ≡ standing_by p σ
is_standing_by p σ roles own = λ i. record σ { roles = roles i; own = own i }

messages_of : List Frame → List Message
messages_of [] = []
messages_of (f ∷ fs) = message_of f ∷ messages_of fs

say_so : (fs : List Frame) → Say fs (messages_of fs)
unfolding messages_of
say_so [] = tt
say_so (f ∷ fs) = (refl, say_so fs)

all_quiet : (p : ℕ) (fs : List Frame) (σ : Stance) → AreForOthers p fs → are_quiet (messages_of fs) (standing_by p σ) ≡ true
unfolding messages_of
all_quiet p [] σ others = refl
all_quiet p (f ∷ fs) σ others =
    ap (λ b. b && are_quiet (messages_of fs) (stance_after (message_of f) (standing_by p σ))) (quiet_for p (message_of f) σ)
    ∙ ap (are_quiet (messages_of fs)) (stays_by p (message_of f) σ others.0) ∙ all_quiet p fs σ others.1

all_stay : (p : ℕ) (fs : List Frame) (σ : Stance) → AreForOthers p fs → stance_all (messages_of fs) (standing_by p σ) ≡ standing_by p σ
unfolding messages_of
all_stay p [] σ others = refl
all_stay p (f ∷ fs) σ others = ap (stance_all (messages_of fs)) (stays_by p (message_of f) σ others.0) ∙ all_stay p fs σ others.1

module _ {M : Type 0} (view : M → MediumView) where
  -- frames for others leave a drive that neither talks nor listens, and its medium
  pub passes_by : (p : ℕ) (fs : List Frame) (outs : List Out) (v w : DriveView M) → v.state.interface.roles ≡ bystander p → v.state.interface.own ≡ None → AreForOthers p fs → Ran view v fs outs w
      → (stance_of w.state ≡ stance_of v.state) × (w.medium ≡ v.medium)
  passes_by p fs outs v w roles own others ran =
      let σ = stance_of v.state in
      let by = is_standing_by p σ roles own in
      let went = goes_by view (messages_of fs) fs outs v w (say_so fs) (ap (are_quiet (messages_of fs)) by ∙ all_quiet p fs σ others) ran in
      (went.stance ∙ ap (stance_all (messages_of fs)) by ∙ all_stay p fs σ others ∙ sym by, went.medium)
