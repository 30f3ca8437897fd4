-- What addressing the loop leaves of the drive: its status and its medium. It awaits nothing and sends nothing.
use Rattle.std.proofs.Common.{◌≡◌, ◌≤◌, ℕ, List, [], ◌∷◌, None, length, refl, ap, subst, arith}
use Rattle.il_frames.specs.declared.frame.Frame.{Frame}
use Rattle.il_ports.specs.Media.{MediumView}
use Rattle.il_drive.specs.declared.mode.Mode.TheVariants as mode
use Rattle.il_drive.specs.Runs.{Ran}
use Rattle.il_drive.specs.State.{DriveView, status_of}
use Rattle.il_drive.proofs.Exchanges.{Stance}
use Rattle.il_drive.proofs.ExchangesAddressed.{is_addressed}
use Rattle.il_frames.specs.NamedFrames.{aad, aau, ifc, rfc}
use Rattle.il_ring.specs.Rings.{RingView, devices_of, drive_party}
use Rattle.il_control.specs.Brought.{Brought}
use Rattle.il_control.specs.Calls.{Resumed, addressing}
use Rattle.il_control.proofs.Brings.{command_comes}

-- the frames that came to party q
addressing_frames : (k q n : ℕ) (gs : List Frame) → Brought k q (addressing n) gs → gs ≡ ifc ∷ rfc ∷ aau ∷ rfc ∷ aad q ∷ []
addressing_frames k q n [] brought = absurd brought
addressing_frames k q n (f ∷ []) brought = absurd brought.1
addressing_frames k q n (f ∷ g ∷ []) brought = absurd brought.1.1
addressing_frames k q n (f ∷ g ∷ h ∷ []) brought = absurd brought.1.1.1
addressing_frames k q n (f ∷ g ∷ h ∷ i ∷ []) brought = absurd brought.1.1.1.1
addressing_frames k q n (f ∷ g ∷ h ∷ i ∷ x ∷ gs) brought =
    λ j. command_comes q ifc f refl brought.0 j ∷ brought.1.0.other refl refl j ∷ command_comes q aau h refl brought.1.1.0 j ∷ brought.1.1.1.0.other refl refl j ∷ brought.1.1.1.1.0.address refl j ∷ brought.1.1.1.1.1 j

pub record DriveAddressed {M : Type 0} (v w : DriveView M) : Type 0 where
  pub status : status_of w.state ≡ status_of v.state
  pub medium : w.medium ≡ v.medium
  pub silent : w.state.interface.own ≡ None
  pub mode : w.state.mode ≡ mode.Rest

pub resumed_drive : {M : Type 0} (view : M → MediumView) (n : ℕ) (r s : RingView M) → drive_party r ≤ 30 → Resumed view n r s → DriveAddressed r.drive s.drive
resumed_drive view n r s low resumed =
    let adds = resumed.whole.adds in
    let frames = addressing_frames (length (devices_of r)) (drive_party r) n adds.came (resumed.whole.brought refl) in
    let so = is_addressed view (drive_party r) adds.answers r.drive s.drive (omega arith) low (subst (λ fs. Ran view r.drive fs adds.answers s.drive) frames adds.drive) in
    record {
      status = ap (λ (σ : Stance). σ.status) so.0;
      medium = so.1;
      silent = ap (λ (σ : Stance). σ.own) so.0;
      mode = ap (λ (σ : Stance). σ.mode) so.0;
    }
