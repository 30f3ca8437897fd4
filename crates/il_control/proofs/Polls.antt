-- The identify frame as a call.
use Rattle.std.proofs.Common.{◌≡◌, ◌∙◌, ◌||◌, ◌-◌, ⊎_elim, suc, true, [], Option, None, length, drop, refl, sym, ap, subst, arith}
use Rattle.std.proofs.Math.Seq.{drop-length}
use Rattle.il_frames.specs.declared.frame.Class.{Class}
use Rattle.il_frames.specs.declared.frame.Class.TheVariants as class
use Rattle.il_frames.specs.declared.frame.Frame.{Frame}
use Rattle.il_frames.specs.declared.entry.Outcome.TheVariants as outcome
use Rattle.il_frames.specs.Frames.{class_of, same_class}
use Rattle.il_ports.specs.Media.{MediumView}
use Rattle.loop_model.specs.Exchanges.{Identify}
use Rattle.il_ring.specs.declared.plan.Arrival.{Arrival}
use Rattle.il_ring.specs.declared.plan.Arrival.TheVariants as arrival
use Rattle.il_ring.specs.declared.flight.Flight.{Flight}
use Rattle.il_ring.specs.Flights.{sourced}
use Rattle.il_ring.specs.Polls.{identified_along}
use Rattle.il_ring.specs.Rings.{RingView, Round, devices_of, drive_party}
use Rattle.il_ring.proofs.Identify.{LeadsTo, IsParty, identify_passes, parties}
use Rattle.il_ring.proofs.PassKinds.{OnlyPassed}
use Rattle.il_ring.specs.Journeys.{is_identify_class}
use Rattle.il_ring.proofs.Passing.{AsIdentify}
use Rattle.il_control.specs.Calls.{idy, IsIdle, Made, BrokenOff}
use Rattle.il_control.proofs.Brought.{poll_comes}
use Rattle.il_control.proofs.Calls.{pass_call}
use Rattle.il_control.proofs.Made.{made, quiet_broken_off}

identify_class : (k : Class) → is_identify_class k ≡ true → (same_class k class.Idy || same_class k class.Isr) ≡ true
identify_class class.Idy is = refl
identify_class class.Isr is = refl
identify_class _ is = cc

-- what came of it
abbrev pub PolledUntil : {M : Type 0} → (M → MediumView) → RingView M → Arrival → RingView M → Type 0
PolledUntil view r (arrival.Frame g) s = Made view (Identify g) r s × (g ≡ identified_along (devices_of r) idy)
PolledUntil view r arrival.Lost s = BrokenOff view (Identify idy) r s

pub identify_call : {M : Type 0} (view : M → MediumView) (r s : RingView M) (held : Option Flight) (f : Frame) (answer : Arrival) → Round view r held (sourced 0 f) answer s → f ≡ idy → held ≡ None → IsIdle r → PolledUntil view r answer s
identify_call view r s held f answer round is none idle =
    let all = devices_of r in
    let end = identified_along all idy in
    let sent = subst (λ f. Round view r held (sourced 0 f) answer s) is round in
    ⊎_elim
    (λ came.
    let back = came.0 in
    let leads = came.1 in
    let less : suc (length all) - 1 ≡ length all = omega arith in
    let past : identified_along (drop (suc (length all) - 1) all) back ≡ back = ap (λ n. identified_along (drop n all) back) less ∙ ap (λ rest. identified_along rest back) (drop-length all) in
    subst (λ answer. PolledUntil view r answer s) (sym came.2) (
      made view (Identify back) r s idle (identify_class (class_of back) leads.identify) refl refl came.3,
      sym past ∙ leads.after,
    ))
    (λ lost. subst (λ answer. PolledUntil view r answer s) (sym lost.0) (quiet_broken_off view (Identify idy) r s idle refl refl refl (lost.1 (outcome.Back idy))))
    (pass_call view (LeadsTo all end) (IsParty all) OnlyPassed (identify_passes all end) (λ d e passed. passed.0) r s held idy answer sent none idle.free (parties [] all) (record { identify = refl; after = refl }) (AsIdentify refl refl) (λ g leads. poll_comes (drive_party r) g leads.identify))
