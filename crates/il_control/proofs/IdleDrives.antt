-- The drive of an idle loop.
use Rattle.std.proofs.Common.{◌≡◌, ◌∙◌, ◌++◌, ◌+◌, ℕ, suc, true, false, List, [], ◌∷◌, Option, Some, None, length, refl, sym, ap, arith}
use Rattle.std.proofs.lemmas.Bool.{and_parts, eqb-true}
use Rattle.il_device.specs.State.{DeviceState, IsSent}
use Rattle.il_device.specs.declared.interface.OwnFrame.{OwnFrame}
use Rattle.il_device.specs.Roles.{is_own}
use Rattle.il_drive.specs.State.{device_of}
use Rattle.loop_model.specs.Roles.{are_numbered}
use Rattle.il_ring.specs.Rings.{RingView, devices_of, drive_party, roles_of}
use Rattle.il_ring.specs.Lists.{AllSilent}
use Rattle.il_ring.proofs.Talkers.{none_talk}
use Rattle.il_control.specs.Calls.{IsIdle}

pub own_is : (address : Option ℕ) (n : ℕ) → is_own address n ≡ true → address ≡ Some n
own_is None n own = cc
own_is (Some a) n own = ap Some (eqb-true a n own)

pub numbered_here : (k : ℕ) (before : List DeviceState) (d : DeviceState) (after : List DeviceState) → are_numbered k (roles_of (before ++ d ∷ after)) ≡ true → d.roles.address ≡ Some (length before + k)
numbered_here k [] d after numbers = own_is d.roles.address k (and_parts (is_own d.roles.address k) (are_numbered (suc k) (roles_of after)) numbers).0 ∙ ap Some (omega arith)
numbered_here k (b ∷ before) d after numbers =
    let sum : length before + suc k ≡ suc (length before) + k = omega arith in
    numbered_here (suc k) before d after (and_parts (is_own b.roles.address k) (are_numbered (suc k) (roles_of (before ++ d ∷ after))) numbers).1 ∙ ap Some sum

silent_here : (before : List DeviceState) (d : DeviceState) (after : List DeviceState) → AllSilent (before ++ d ∷ after) → d.roles.talks ≡ false
silent_here [] d after silent = silent.0
silent_here (b ∷ before) d after silent = silent_here before d after silent.1

-- it has its number as address, and does not talk
pub idle_address : {M : Type 0} (r : RingView M) → IsIdle r → r.drive.state.interface.roles.address ≡ Some (drive_party r)
idle_address r idle = numbered_here 1 r.before (device_of r.drive.state) r.after idle.numbered

pub idle_mute : {M : Type 0} (r : RingView M) → IsIdle r → r.drive.state.interface.roles.talks ≡ false
idle_mute r idle = silent_here r.before (device_of r.drive.state) r.after (none_talk 1 (devices_of r) idle.silent)

-- and sends nothing
pub idle_silent : {M : Type 0} (r : RingView M) → IsIdle r → r.drive.state.interface.own ≡ None
idle_silent r idle = by r.drive.state.interface.own refl idle.free.ring.drive.1.standing.standing.sender
  where
    by : (own : Option OwnFrame) → r.drive.state.interface.own ≡ own → IsSent own r.drive.state.interface.roles.talks → r.drive.state.interface.own ≡ None
    by None is sent = is
    by (Some own) is sent = let clash : false ≡ true = sym (idle_mute r idle) ∙ sent.0 in cc
