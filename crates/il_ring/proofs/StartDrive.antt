-- What a round of a start message brings to the drive.
use Rattle.std.proofs.Common.{◌≡◌, ◌≤◌, ◌<◌, ◌+◌, ◌++◌, inl, inr, ⊎_elim, ℕ, zero, suc, true, List, [], ◌∷◌, Option, Some, None, length, refl, sym, ap, subst, ◌∙◌, arith, append_assoc}
use Rattle.std.proofs.lemmas.List.{append_cancel_left}
use Rattle.il_frames.specs.declared.frame.Frame.{Frame}
use Rattle.il_frames.specs.declared.entry.Entry.{Entry}
use Rattle.il_frames.specs.declared.entry.Outcome.TheVariants as outcome
use Rattle.il_frames.specs.declared.message.Message.{Message}
use Rattle.il_frames.specs.declared.message.Message.TheVariants as msg
use Rattle.il_frames.specs.Messages.{message_of}
use Rattle.il_device.specs.declared.device.Out.TheVariants.{Pass, Source}
use Rattle.il_device.specs.declared.interface.OwnFrame.{OwnFrame}
use Rattle.il_device.specs.declared.roles.Roles.{Roles}
use Rattle.il_device.specs.Roles.{own_after, is_start}
use Rattle.il_device.specs.State.{DeviceState, risen_by}
use Rattle.il_device.specs.Takes.{Takes}
use Rattle.il_drive.specs.State.{device_of}
use Rattle.il_ports.specs.Media.{MediumView}
use Rattle.il_frames.specs.NamedFrames.{entry}
use Rattle.loop_model.specs.Roles.{talkers, is_at_most_one}
use Rattle.il_ring.specs.declared.plan.Arrival.{Arrival}
use Rattle.il_ring.specs.declared.flight.Flight.{Flight}
use Rattle.il_ring.specs.Plans.{IsPlan, next_fault, last_crossing}
use Rattle.il_ring.specs.Flights.{sourced, ended_at}
use Rattle.il_ring.specs.Journeys.{trip}
use Rattle.il_ring.specs.Lists.{First, NoneSends}
use Rattle.il_ring.specs.Rings.{RingView, Round, devices_of, roles_of, drive_party}
use Rattle.il_ring.specs.Outcomes as ring
use Rattle.il_ring.specs.Outcomes.{LetsPass, StartReturned, StartGone, DriveTook, DriveHad, DriveDid, StartAtDrive, IsBrought}
use Rattle.il_ring.proofs.DataDrive.{data_took}
use Rattle.il_ring.proofs.DriveRounds.{NotAtDrive, plain_there, lost_ahead}
use Rattle.il_ring.proofs.Journeys.{Journey-append}
use Rattle.il_ring.proofs.PassKinds.{start_no_data}
use Rattle.il_ring.proofs.Rings.{before-length}
use Rattle.il_ring.proofs.RoundCounts.{drive_journey}
use Rattle.il_ring.proofs.Splits.{each_silent, silent_front, none_sends_front, none_sends_at, lies_before, lies_at}
use Rattle.il_ring.proofs.Starts.{StartAnswer, start_answer}
use Rattle.il_ring.proofs.StartJourneys.{StartPassed, StartLost, StartTaken, start_goes}
use Rattle.il_ring.proofs.StartRounds.{start_round, taken_round, length_split}
use Rattle.il_ring.proofs.Talkers.{one_talks}

-- ---- devices that passed it on

start_own : (r : Roles) (m : Message) → is_start m ≡ true → own_after r None m ≡ None
start_own r msg.Sda start = refl
start_own r msg.Sst start = refl
start_own r msg.Sdi start = refl
start_own r msg.Sai start = refl
start_own r _ start = cc

-- have no own frame on the loop still
passed_none : (f : Frame) (j : ℕ) (ds es : List DeviceState) → is_start (message_of f) ≡ true → First (LetsPass f) j ds es → NoneSends ds → NoneSends es
passed_none f zero [] [] start took none = tt
passed_none f (suc j) [] [] start took none = tt
passed_none f zero (d ∷ ds) (e ∷ es) start took none = (ap (λ (d : DeviceState). d.own) took.0 ∙ none.0, passed_none f zero ds es start took.1 none.1)
passed_none f (suc j) (d ∷ ds) (e ∷ es) start took none =
    (took.0.obeyed.own ∙ ap (λ own. own_after d.roles own (message_of f)) none.0 ∙ start_own d.roles (message_of f) start, passed_none f j ds es start took.1 none.1)
passed_none f j [] (e ∷ es) start took none = absurd took
passed_none f j (d ∷ ds) [] start took none = absurd took

-- ---- a message that was taken

-- its entry comes first in the log
taken_first : {M : Type 0} (r s : RingView M) (f : Frame) (answer : Arrival) → (taken : ring.StartTaken r f answer s) → (rest : List Entry) × (s.books.log ≡ r.books.log ++ entry 0 f (outcome.Taken taken.party) ∷ rest)
taken_first r s f answer taken = ⊎_elim (λ held. ([], held.1.log)) (λ lost. (entry taken.party taken.sent (outcome.Lost lost.party) ∷ [], lost.log)) taken.end

-- so it was not lost on its way
taken_not_lost : {M : Type 0} (r s : RingView M) (f : Frame) (answer : Arrival) → ring.StartTaken r f answer s → NotAtDrive r r.books.log 0 f answer s → ⊥
taken_not_lost r s f answer taken lost =
    let first = taken_first r s f answer taken in
    let same : entry 0 f (outcome.Taken taken.party) ∷ first.0 ≡ entry 0 f (outcome.Lost lost.party) ∷ [] = append_cancel_left r.books.log (entry 0 f (outcome.Taken taken.party) ∷ first.0) (entry 0 f (outcome.Lost lost.party) ∷ []) (sym first.1 ∙ lost.log_is) in
    let clash : outcome.Taken taken.party ≡ outcome.Lost lost.party = ap (λ l. elim l [ [] ↦ outcome.Lost lost.party | e ∷ es ↦ e.outcome ]) same in cc

-- it was not taken before the drive, if the devices there have no own frames after it
taken_after : {M : Type 0} (r s : RingView M) (f : Frame) (answer : Arrival) → (taken : ring.StartTaken r f answer s) → NoneSends s.before → length s.before ≡ length r.before → taken.party < drive_party r → ⊥
taken_after r s f answer taken none same low =
    let talking = taken.talking in
    let there = lies_before s.before s.after talking.before talking.after (device_of s.drive.state) talking.talker talking.devices_are (omega (arith, low, same, talking.party)) in
    let clash = sym (none_sends_at talking.before there.between talking.talker (subst NoneSends there.first none)) ∙ talking.own_is in cc

-- the drive took it, if it is that party, and answered by what this one sent
said_here : {M : Type 0} (view : M → MediumView) (r s : RingView M) (f : Frame) (answer : Arrival) → is_start (message_of f) ≡ true → NoneSends (devices_of r) → length s.before ≡ length r.before → DriveHad view (λ g. g ≡ f) r s
    → (taken : ring.StartTaken r f answer s) → drive_party r ≡ taken.party → DriveDid view (λ g out. (g ≡ f) × (out ≡ Source taken.sent)) r s
said_here view r s f answer start none same had taken at = (had.0, (had.2.0, (had.1, by_answer (start_answer d e f had.2.0 start none_here takes)), had.2.1))
  where
    d : DeviceState
    d = device_of r.drive.state

    e : DeviceState
    e = device_of s.drive.state

    none_here : d.own ≡ None
    none_here = none_sends_at r.before r.after d none

    takes : Takes d f had.2.0 e
    takes = subst (λ g. Takes d g had.2.0 e) had.1 had.2.1.takes

    own_is : e.own ≡ Some taken.own
    own_is =
        let talking = taken.talking in
        let lies = lies_at s.before s.after talking.before talking.after e talking.talker talking.devices_are (omega (arith, at, same, talking.party)) in
        ap (λ (d : DeviceState). d.own) lies.is ∙ talking.own_is

    by_answer : StartAnswer f d had.2.0 e → had.2.0 ≡ Source taken.sent
    by_answer (inl passes) = let clash = sym own_is ∙ passes.1.obeyed.own ∙ ap (λ own. own_after d.roles own (message_of f)) none_here ∙ start_own d.roles (message_of f) start in cc
    by_answer (inr sends) =
        let own : sends.2.own ≡ taken.own = ap (λ own. elim own [ None ↦ taken.own | Some own ↦ own ]) (sym sends.2.on_loop ∙ own_is) in
        sends.1 ∙ ap (λ h. Source h) (sym sends.2.frame ∙ ap (λ (own : OwnFrame). own.frame) own ∙ taken.own_frame)

-- no device took it, and the drive passed it on
passed_here : {M : Type 0} (view : M → MediumView) (r s : RingView M) (held : Option Flight) (f : Frame) (answer : Arrival) → is_start (message_of f) ≡ true → NoneSends (devices_of r) → DriveHad view (λ g. g ≡ f) r s → StartReturned r held f answer s
    → DriveDid view (λ g out. (g ≡ f) × (out ≡ Pass f)) r s
passed_here view r s held f answer start none had back = (had.0, (had.2.0, (had.1, by_answer (start_answer d e f had.2.0 start (none_sends_at r.before r.after d none) takes)), had.2.1))
  where
    d : DeviceState
    d = device_of r.drive.state

    e : DeviceState
    e = device_of s.drive.state

    takes : Takes d f had.2.0 e
    takes = subst (λ g. Takes d g had.2.0 e) had.1 had.2.1.takes

    none_then : e.own ≡ None
    none_then = none_sends_at s.before s.after e (passed_none f (length (devices_of r)) (devices_of r) (devices_of s) start back.took none)

    by_answer : StartAnswer f d had.2.0 e → had.2.0 ≡ Pass f
    by_answer (inl passes) = passes.0
    by_answer (inr sends) = let clash = sym none_then ∙ sends.2.on_loop in cc

-- ---- the whole round

module _ {M : Type 0} (view : M → MediumView) (r s : RingView M) (held : Option Flight) (f : Frame) (answer : Arrival) (within : r.books.crossings ≤ last_crossing) (plan : IsPlan r.books.plan) (start : is_start (message_of f) ≡ true) (none : NoneSends (devices_of r))
    (one : is_at_most_one (talkers (roles_of (devices_of r))) ≡ true) (round : Round view r held (sourced 0 f) answer s) where
  none_before : NoneSends r.before
  none_before = none_sends_front r.before (device_of r.drive.state ∷ r.after) none

  -- the devices before the drive passed it on, and it came to the drive
  came : First (LetsPass f) (length r.before) r.before s.before → length s.before ≡ length r.before → DriveHad view (λ g. g ≡ f) r s → StartAtDrive view r held f answer s
  came took same had =
      ⊎_elim
      (λ back. inl (back, passed_here view r s held f answer start none had back))
      (⊎_elim
      (λ gone. inr (inl (gone, inr had)))
      (λ taken. inr (inr (taken, record { up_to = λ _. had; after = λ low. absurd (taken_after r s f answer taken (passed_none f (length r.before) r.before s.before start took none_before) same low); said = said_here view r s f answer start none same had taken }))))
      (start_round view r s held f answer within plan start none one round)

  -- it was lost before
  lost : NotAtDrive r r.books.log 0 f answer s → StartAtDrive view r held f answer s
  lost gone =
      ⊎_elim
      (λ back. absurd (gone.met_some back.returned.met_none))
      (⊎_elim
      (λ lost. inr (inl (lost, inl (gone.drive, gone.met_some))))
      (λ taken. absurd (taken_not_lost r s f answer taken gone)))
      (start_round view r s held f answer within plan start none one round)

  -- a device before the drive took it, and what it sent goes on to the drive
  taken_before : StartTaken r.books.plan 1 r.books.crossings r.books.log (sourced 0 f) r.before round.at_drive s.before → StartAtDrive view r held f answer s
  taken_before here =
      let k = 1 + length here.before in
      let j = suc (length here.before) in
      let log = r.books.log ++ ended_at (sourced 0 f) k ∷ [] in
      let size = length_split r.before here.before here.after here.taker here.devices in
      let more : List DeviceState = device_of r.drive.state ∷ r.after in
      let more_then : List DeviceState = device_of s.drive.state ∷ s.after in
      let devices : devices_of r ≡ here.before ++ here.taker ∷ (here.after ++ more) = ap (λ ds. ds ++ more) here.devices ∙ append_assoc here.before (here.taker ∷ here.after) more in
      let silent = one_talks 1 here.before (here.after ++ more) here.taker (ap (λ ds. is_at_most_one (talkers (roles_of ds))) (sym devices) ∙ one) here.sends.talks in
      let whole : StartTaken r.books.plan 1 r.books.crossings r.books.log (sourced 0 f) (devices_of r) round.past_all (devices_of s) =
      record {
        before = here.before;
        before_then = here.before_then;
        taker = here.taker;
        taker_then = here.taker_then;
        after = here.after ++ more;
        after_then = here.after_then ++ more_then;
        devices = devices;
        devices_then = ap (λ es. es ++ more_then) here.devices_then ∙ append_assoc here.before_then (here.taker_then ∷ here.after_then) more_then;
        same = here.same;
        took = here.took;
        clear = here.clear;
        sent = here.sent;
        takes = here.takes;
        sends = here.sends;
        journey =
            Journey-append r.books.plan (k + 1) (length r.before + 1) (trip (risen_by j r.books.crossings) log (Some (sourced k here.sent))) round.at_drive round.past_all here.after here.after_then more more_then (omega (arith, size)) here.journey
            (drive_journey view r s held (sourced 0 f) answer round);
      } in
      let taken = taken_round view r s held f answer within plan one none round whole in
      let sent : DriveTook view (IsBrought r s here.sent) r s = data_took view r s held (sourced 0 f) answer round j (k + 1) log (sourced k here.sent) here.after here.after_then within plan here.sends.data_frame (each_silent (k + 1) here.after (silent_front here.after more silent.1)) here.journey in
      inr (inr (
        taken.0,
        record {
          up_to = λ far. absurd (omega (arith, far, size, taken.1));
          after = λ _. subst (λ g. DriveTook view (IsBrought r s g) r s) (sym taken.2) sent;
          said = λ here. absurd (omega (arith, here, size, taken.1));
        },
      ))

  -- The message comes to the drive up to the party that takes it, and after it what this one sent, or a planned hop is reached.
  pub start_at_drive : StartAtDrive view r held f answer s
  start_at_drive =
      ⊎_elim
      (λ (passed : StartPassed r.books.plan r.books.crossings r.books.log (sourced 0 f) r.before round.at_drive s.before).
      ⊎_elim
      (came passed.took (before-length view r s held (sourced 0 f) answer round))
      lost
      (plain_there view r s held (sourced 0 f) answer round 0 (length r.before) r.books.log (sourced 0 f) (next_fault r.books.plan (risen_by (length r.before) r.books.crossings)) within (start_no_data f start) passed.is refl))
      (⊎_elim
      (λ (gone : StartLost r.books.plan 1 r.books.crossings r.books.log (sourced 0 f) r.before round.at_drive s.before). lost (lost_ahead view r s held (sourced 0 f) answer round 0 gone.reached (1 + gone.reached) r.books.log (sourced 0 f) within gone.is gone.planned))
      taken_before)
      (start_goes r.books.plan 1 r.books.crossings r.books.log (sourced 0 f) r.before s.before round.at_drive start none_before round.to_drive)
