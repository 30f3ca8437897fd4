-- Steps of the drive and its medium.
use Rattle.std.proofs.Common.{◌≡◌, inl, inr, ℕ, ap, sym, subst, ◌∙◌}
use Rattle.std.specs.Prelude.{◌==◌, if◌then◌else◌}
use Rattle.std.proofs.lemmas.Bool.{ne_eqb, cond-false}
use Rattle.il_ports.specs.Media.{MediumView}
use Rattle.il_frames.specs.declared.frame.Frame.{Frame}
use Rattle.il_frames.specs.Messages.{message_of}
use Rattle.il_device.specs.declared.device.Out.{Out}
use Rattle.il_device.specs.declared.device.Out.TheVariants.{Pass}
use Rattle.il_device.specs.declared.interface.Turn.{Turn}
use Rattle.il_device.specs.declared.interface.Turn.TheVariants as turn
use Rattle.il_device.specs.declared.roles.Roles.{Roles}
use Rattle.il_device.specs.Interfaces.{InterfaceState, interface_after, turn_on, passed_on}
use Rattle.il_drive.specs.State.{DriveState}
use Rattle.il_drive.specs.Steps.{Step, Now, Reads, Writes, Did, then_by}
use Rattle.il_drive.specs.Table.{answered, behind_effect, drive_step, obeyed, passes}

module _ {M : Type 0} (view : M → MediumView) where
  -- the position is on the tape
  pub on_tape : {X : Type 0} (n count position : ℕ) (off on : Step X) (x : X) (m m₂ : M) → (position ≡ count → ⊥) → count ≡ n
      → Did view on x m m₂ → Did view (if position == n then off else on) x m m₂
  on_tape n count position off on x m m₂ ne e here =
      subst (λ (step : Step _). Did view step x m m₂) (sym (cond-false (position == n) off on (ne_eqb position n (λ (h : position ≡ n). ne (h ∙ sym e))))) here

  -- a step, and then g
  pub did_then : {X Y : Type 0} (g : X → Y) (step : Step X) (x : X) (m m₂ : M) → Did view step x m m₂ → Did view (then_by g step) (g x) m m₂
  did_then g (Now value) x m m₂ did = (ap g did.0, did.1)
  did_then g (Reads k good bad) x m m₂ did = (
    did.0,
    elim did.1 [
      | inl gave ↦ inl (record { bytes = gave.bytes; content = gave.content; value = ap g gave.value; count = gave.count })
      | inr fell ↦ inr (ap g fell.0, fell.1)
    ],
  )
  did_then g (Writes k bytes good bad) x m m₂ did = (
    did.0,
    elim did.1 [
      | inl took ↦ inl (ap g took.0, took.1, took.2)
      | inr torn ↦ inr (ap g torn.0, torn.1, torn.2)
    ],
  )

  -- the drive passes the frame
  pub passed_did : (n : ℕ) (s s₂ : DriveState) (i : InterfaceState) (f : Frame) (told : Turn) (before : Roles) (out : Out) (m m₂ : M)
      → told ≡ turn_on s.interface f → i ≡ interface_after s.interface f → told ≡ turn.Pass → before ≡ s.interface.roles
      → Did view (obeyed (message_of f) n before (record s { interface = i })) s₂ m m₂ → out ≡ Pass (passed_on s₂.interface before f)
      → Did view (drive_step n s f) (s₂, out) m m₂
  passed_did n s s₂ i f told before out m m₂ is state pass roles here answer =
      let there : Did view (obeyed (message_of f) n s.interface.roles (behind_effect f s)) s₂ m m₂ =
      subst (λ r. Did view (obeyed (message_of f) n r (behind_effect f s)) s₂ m m₂) roles
      (subst (λ i. Did view (obeyed (message_of f) n before (record s { interface = i })) s₂ m m₂) state here) in
      let gone : out ≡ Pass (passed_on s₂.interface s.interface.roles f) = answer ∙ ap (λ r. Pass (passed_on s₂.interface r f)) roles in
      subst (λ t. Did view (answered t n s.interface.roles f (behind_effect f s)) (s₂, out) m m₂) (sym (sym is ∙ pass))
      (subst (λ out. Did view (then_by (passes s.interface.roles f) (obeyed (message_of f) n s.interface.roles (behind_effect f s))) (s₂, out) m m₂) (sym gone)
      (did_then (passes s.interface.roles f) (obeyed (message_of f) n s.interface.roles (behind_effect f s)) s₂ m m₂ there))
