-- What a round of a held frame brings to the drive.
use Rattle.std.proofs.Common.{◌≡◌, ◌≤◌, ◌<◌, ◌+◌, ◌-◌, ◌++◌, ◌⊎◌, inl, inr, ⊎_elim, ℕ, suc, Bool, true, false, List, [], ◌∷◌, Some, None, length, refl, sym, ap, subst, ◌∙◌, arith, append_assoc}
use Rattle.std.specs.Prelude.{if◌then◌else◌}
use Rattle.std.proofs.Math.Nat.{eq-zero-or-pos}
use Rattle.std.proofs.lemmas.List.{append_cancel_left}
use Rattle.il_frames.specs.declared.frame.Frame.{Frame}
use Rattle.il_frames.specs.declared.entry.Entry.{Entry}
use Rattle.il_frames.specs.declared.entry.Outcome.TheVariants as outcome
use Rattle.il_frames.specs.Frames.{is_data, with_service}
use Rattle.il_frames.specs.Messages.{message_of}
use Rattle.il_device.specs.declared.device.Out.{Out}
use Rattle.il_device.specs.declared.device.Out.TheVariants.{Source}
use Rattle.il_device.specs.declared.interface.OwnFrame.{OwnFrame}
use Rattle.il_device.specs.State.{DeviceState, risen_by}
use Rattle.il_device.specs.Takes.{Takes, eto, ete}
use Rattle.il_device.specs.Passing.{is_plain}
use Rattle.il_drive.specs.State.{device_of}
use Rattle.il_ports.specs.Media.{MediumView}
use Rattle.il_frames.specs.NamedFrames.{entry}
use Rattle.il_ring.specs.declared.plan.Arrival.{Arrival}
use Rattle.il_ring.specs.declared.flight.Flight.{Flight}
use Rattle.il_ring.specs.Plans.{IsPlan, last_crossing}
use Rattle.il_ring.specs.Flights.{sourced, ended_at, lost_at}
use Rattle.il_ring.specs.Journeys.{trip, trip_of, answered, Journey}
use Rattle.il_ring.specs.Lists.{AllSilent}
use Rattle.il_ring.specs.Rings.{RingView, Round, devices_of, drive_party}
use Rattle.il_ring.specs.Outcomes.{DriveTook, DriveHad, DriveDid, CameAs, IsBrought, IsTalking, IsLostNow, StoodSo, SentAtDrive, RelayedAtDrive, back_entry, Obeys}
use Rattle.il_ring.proofs.DataDrive.{AtDrive, data_there, data_took}
use Rattle.il_ring.proofs.DataPasses.{data_past}
use Rattle.il_ring.proofs.DriveRounds.{NotAtDrive, came_or_not, passes_there, stays_lost}
use Rattle.il_ring.proofs.Echoes.{Arrived, AsItWas, Otherwise, Answered, Gone, to_talker}
use Rattle.il_ring.proofs.EndsHome.{any_each}
use Rattle.il_ring.proofs.Faults.{clear_at}
use Rattle.il_ring.proofs.Journeys.{Journey-append}
use Rattle.il_ring.proofs.Later.{end_later}
use Rattle.il_ring.proofs.PassKinds.{Is, Any, plain_passes}
use Rattle.il_ring.proofs.RelayRounds.{SendsThen, AnsweredSo, relay_shown, answered_round, gone_round, head_of, goes_silent}
use Rattle.il_ring.proofs.Rings.{before-length}
use Rattle.il_ring.proofs.RoundCounts.{drive_journey}
use Rattle.il_ring.proofs.Splits.{journey_parts, each_silent, silent_front, silent_up_to, lies_before, lies_at}
use Rattle.il_ring.proofs.StartRounds.{length_split}

-- ---- a frame that came back

-- its entry comes first in the log
back_first : {M : Type 0} (r s : RingView M) (held : Flight) (own : OwnFrame) (right : Bool) (back h : Frame) (answer : Arrival) → SendsThen r held own right back h answer s → (rest : List Entry) × (s.books.log ≡ r.books.log ++ back_entry held back ∷ rest)
back_first r s held own right back h answer (inl more) = ⊎_elim (λ held. ([], held.1.log)) (λ lost. (entry held.source more.0.sent (outcome.Lost lost.party) ∷ [], lost.log)) more.0.end
back_first r s held own right back h answer (inr ends) =
    let end = if right then eto else ete in
    ⊎_elim (λ taken. (entry held.source end (outcome.Taken 0) ∷ [], taken.1)) (λ lost. (entry held.source end (outcome.Lost lost.party) ∷ [], lost.log)) ends.0.end

-- so it was not lost on its way
back_not_lost : {M : Type 0} (r s : RingView M) (held : Flight) (own : OwnFrame) (right : Bool) (back h : Frame) (answer : Arrival) → SendsThen r held own right back h answer s → NotAtDrive r r.books.log held.source held.sent answer s → ⊥
back_not_lost r s held own right back h answer after lost =
    let first = back_first r s held own right back h answer after in
    let same : back_entry held back ∷ first.0 ≡ entry held.source held.sent (outcome.Lost lost.party) ∷ [] = append_cancel_left r.books.log (back_entry held back ∷ first.0) (entry held.source held.sent (outcome.Lost lost.party) ∷ []) (sym first.1 ∙ lost.log_is) in
    let clash : outcome.Back back ≡ outcome.Lost lost.party = ap (λ l. elim l [ [] ↦ outcome.Lost lost.party | e ∷ es ↦ e.outcome ]) same in cc

end_plain : (right : Bool) → is_plain (message_of (if right then eto else ete)) ≡ true
end_plain true = refl
end_plain false = refl

-- ---- the whole round

module _ {M : Type 0} (view : M → MediumView) (r s : RingView M) (held : Flight) (own : OwnFrame) (answer : Arrival) (within : r.books.crossings ≤ last_crossing) (plan : IsPlan r.books.plan) (talking : IsTalking held.source (Some own) (devices_of r)) (frame : own.frame ≡ held.sent) (stood : StoodSo held)
    (round : Round view r None held answer s) where
  -- ---- the source comes after the drive

  abbrev There : Type 0
  There = AtDrive view r s None held answer round 0 r.books.log held r.before ⊎ NotAtDrive r r.books.log held.source held.sent answer s

  -- as it came to the drive
  came_so : (m : ℕ) (out : Out) (a : AnsweredSo r held own m out answer s) → length r.before ≤ m → (came : AtDrive view r s None held answer round 0 r.books.log held r.before) → CameAs a.right held.sent came.back
  came_so m out a far came = (came.data_frame, λ right. by_way right came.came)
    where
      by_way : a.right ≡ true → Arrived r.books.plan r.books.crossings (length r.before) held came.back → with_service came.back ≡ with_service held.sent
      by_way right (AsItWas same clear) = same ∙ stood.same (a.good right).0
      by_way right (Otherwise other unaltered hop low planned) = absurd (planned (clear_at r.books.plan hop (suc m) r.books.crossings (omega (arith, low, far)) (a.good right).1))

  there : drive_party r ≤ held.source → There
  there far =
      let silent = silent_up_to r.before r.after talking.before talking.after (device_of r.drive.state) talking.talker talking.devices_are (omega (arith, far, talking.party)) talking.silent in
      data_there view r s None held answer round 0 1 r.books.log held r.before s.before within plan stood.data_frame (each_silent 1 r.before silent) round.to_drive

  beyond : drive_party r < held.source → RelayedAtDrive view r held own answer s
  beyond far =
      ⊎_elim
      (λ (lost : IsLostNow r [] held.source held.sent answer s). inl (lost, λ _. took (there (omega (arith, far))), λ low. absurd (omega (arith, far, low))))
      (λ shown.
      let a : AnsweredSo r held own shown.0 shown.2.0 answer s = shown.2.1 in
      inr (
        a.right,
        a.back,
        a.came,
        λ _. had shown.0 shown.2.0 a (omega (arith, far, shown.1)) (there (omega (arith, far))),
        far_after a.right a.back a.sent a.after,
      ))
      (relay_shown view r s held own answer within plan talking frame stood round)
    where
      took : There → DriveTook view (λ g. is_data g ≡ true) r s
      took (inl came) = inr (came.back, came.data_frame, (came.out, came.takes))
      took (inr lost) = inl (lost.drive, lost.met_some)

      had : (m : ℕ) (out : Out) (a : AnsweredSo r held own m out answer s) → length r.before ≤ m → There → DriveHad view (CameAs a.right held.sent) r s
      had m out a far (inl came) = (came.back, came_so m out a far came, (came.out, came.takes))
      had m out a far (inr lost) = absurd (back_not_lost r s held own a.right a.back a.sent answer a.after lost)

      far_after : (right : Bool) (back h : Frame) → SendsThen r held own right back h answer s → SentAtDrive view r held own right back answer s
      far_after right back h (inl more) = inl (more.0, λ low. absurd (omega (arith, far, low)), λ at. absurd (omega (arith, far, at)))
      far_after right back h (inr ends) = inr (ends.0, λ low. absurd (omega (arith, far, low)), λ at. absurd (omega (arith, far, at)))

  -- ---- the source is the drive

  -- it answered by what it sent then
  answered_here : drive_party r ≡ held.source → AtDrive view r s None held answer round 0 r.books.log held r.before → RelayedAtDrive view r held own answer s
  answered_here at came =
      let d = device_of r.drive.state in
      let e = device_of s.drive.state in
      let k = 1 + length r.before in
      let n = r.books.crossings in
      let lies = lies_at r.before r.after talking.before talking.after d talking.talker talking.devices_are (omega (arith, at, talking.party)) in
      let silent = subst AllSilent (sym lies.before) talking.silent in
      let goes = data_past r.books.plan 1 n r.books.log held r.before s.before round.at_drive plan (each_silent 1 r.before silent) stood.data_frame round.to_drive in
      let all = length_split (devices_of r) r.before r.after d refl in
      let same : length r.before + 1 ≡ k = omega arith in
      let whole : Answered Takes r.books.plan k n r.books.log held r.before d r.after round.past_all e s.after =
      record {
        back = came.back;
        altered = came.altered;
        data_frame = came.data_frame;
        came = came.came;
        out = came.out;
        takes = came.takes.takes;
        journey = subst (λ k. Journey r.books.plan (k + 1) (answered (risen_by (suc (length r.before)) n) r.books.log k (record held { now = came.back; altered = came.altered }) came.out) r.after round.past_all s.after) same came.journey;
      } in
      let a : AnsweredSo r held own (length r.before) came.out answer s =
      answered_round view r s held own answer r.before s.before d e r.after s.after round.past_all within plan (omega (arith, at)) (before-length view r s None held answer round) (omega (arith, at, all)) refl
      (goes_silent r.books.plan 1 n r.books.log held r.before s.before round.at_drive goes silent) (subst AllSilent (sym lies.after) talking.silent_after) (ap (λ (d : DeviceState). d.roles.talks) lies.is ∙ talking.talks) (ap (λ (d : DeviceState). d.own) lies.is ∙ talking.own_is) frame stood whole
      (round.books, round.answer_is) (end_later view r s None held answer round) in
      let good : CameAs a.right held.sent came.back = came_so (length r.before) came.out a (omega arith) came in
      inr (a.right, a.back, a.came, λ _. (came.back, good, (came.out, came.takes)), said_by a.right a.back a.sent good a.out_is a.after)
    where
      did : (right : Bool) (h g : Frame) → CameAs right held.sent came.back → came.out ≡ Source h → h ≡ g → DriveDid view (λ f out. CameAs right held.sent f × (out ≡ Source g)) r s
      did right h g good out is = (came.back, (came.out, (good, out ∙ ap (λ h. Source h) is), came.takes))

      said_by : (right : Bool) (back h : Frame) → CameAs right held.sent came.back → came.out ≡ Source h → SendsThen r held own right back h answer s → SentAtDrive view r held own right back answer s
      said_by right back h good out (inl more) = inl (more.0, λ low. absurd (omega (arith, at, low)), λ _. did right h more.0.sent good out (sym more.1))
      said_by right back h good out (inr ends) = inr (ends.0, λ low. absurd (omega (arith, at, low)), λ _. did right h (if right then eto else ete) good out ends.1)

  -- or it was lost before
  at_source : drive_party r ≡ held.source → RelayedAtDrive view r held own answer s
  at_source at =
      ⊎_elim
      (answered_here at)
      (λ (lost : NotAtDrive r r.books.log held.source held.sent answer s).
      ⊎_elim
      (λ (gone : IsLostNow r [] held.source held.sent answer s). inl (gone, λ _. inl (lost.drive, lost.met_some), λ low. absurd (omega (arith, at, low))))
      (λ shown.
      let a : AnsweredSo r held own shown.0 shown.2.0 answer s = shown.2.1 in
      absurd (back_not_lost r s held own a.right a.back a.sent answer a.after lost))
      (relay_shown view r s held own answer within plan talking frame stood round))
      (there (omega (arith, at)))

  -- ---- the source lies before the drive

  -- what it sent then comes to the drive
  onward : held.source < drive_party r → (k : ℕ) (log : List Entry) (j : ℕ) (h back : Frame) (right : Bool) (ds es : List DeviceState) → AllSilent ds → Journey r.books.plan (k + 1) (trip (risen_by j r.books.crossings) log (Some (sourced k h))) ds round.at_drive es → SendsThen r held own right back h answer s → SentAtDrive view r held own right back answer s
  onward low k log j h back right ds es silent journey (inl more) =
      let took : DriveTook view (IsBrought r s h) r s = data_took view r s None held answer round j (k + 1) log (sourced k h) ds es within plan (ap is_data (sym more.1) ∙ more.0.data_frame) (each_silent (k + 1) ds silent) journey in
      inl (more.0, λ _. subst (λ g. DriveTook view (IsBrought r s g) r s) (sym more.1) took, λ at. absurd (omega (arith, low, at)))
  onward low k log j h back right ds es silent journey (inr ends) =
      let plain : is_plain (message_of h) ≡ true = ap (λ h. is_plain (message_of h)) ends.1 ∙ end_plain right in
      let there = passes_there view r s None held answer round (Is h) Any (Obeys (message_of h)) (plain_passes h plain) j (k + 1) log (sourced k h) ds es within (any_each (k + 1) ds) refl journey in
      let took : DriveTook view (λ g. g ≡ h) r s = came_or_not view (λ g. g ≡ h) r s log k h answer there in
      inr (ends.0, λ _. subst (λ h. DriveTook view (λ g. g ≡ h) r s) ends.1 took, λ at. absurd (omega (arith, low, at)))

  after : held.source < drive_party r → RelayedAtDrive view r held own answer s
  after low =
      let bs = talking.before in
      let d = talking.talker in
      let n = r.books.crossings in
      let k = 1 + length bs in
      let at : held.source ≡ k = omega (arith, talking.party) in
      let lies = lies_before r.before r.after bs talking.after (device_of r.drive.state) d talking.devices_are (omega (arith, low, talking.party)) in
      let cs = lies.between in
      let more : List DeviceState = device_of r.drive.state ∷ r.after in
      let more_then : List DeviceState = device_of s.drive.state ∷ s.after in
      let size = length_split r.before bs cs d lies.first in
      let all = length_split (devices_of r) bs talking.after d talking.devices_are in
      let rest_size : length talking.after ≡ length (cs ++ more) = ap length lies.after in
      let parts = journey_parts r.books.plan 1 (trip_of r.books (Some held)) round.at_drive bs (d ∷ cs) s.before (subst (λ ds. Journey r.books.plan 1 (trip_of r.books (Some held)) ds round.at_drive s.before) lies.first round.to_drive) in
      let head = head_of r.books.plan k parts.middle round.at_drive d cs parts.more parts.from_middle in
      let goes = data_past r.books.plan 1 n r.books.log held bs parts.first parts.middle plan (each_silent 1 bs talking.silent) stood.data_frame parts.to_middle in
      let before_then : s.before ≡ parts.first ++ head.e ∷ head.rest_then = parts.both ∙ ap (λ more. parts.first ++ more) head.both in
      let devices : devices_of s ≡ parts.first ++ head.e ∷ (head.rest_then ++ more_then) = ap (λ es. es ++ more_then) before_then ∙ append_assoc parts.first (head.e ∷ head.rest_then) more_then in
      let silent : AllSilent (cs ++ more) = subst AllSilent lies.after talking.silent_after in
      ⊎_elim
      (λ (here : Answered Takes r.books.plan k n r.books.log held bs d cs round.at_drive head.e head.rest_then).
      let t = answered (risen_by (suc (length bs)) n) r.books.log k (record held { now = here.back; altered = here.altered }) here.out in
      let whole : Answered Takes r.books.plan k n r.books.log held bs d (cs ++ more) round.past_all head.e (head.rest_then ++ more_then) =
      record {
        back = here.back;
        altered = here.altered;
        data_frame = here.data_frame;
        came = here.came;
        out = here.out;
        takes = here.takes;
        journey = Journey-append r.books.plan (k + 1) (length r.before + 1) t round.at_drive round.past_all cs head.rest_then more more_then (omega (arith, size)) here.journey (drive_journey view r s None held answer round);
      } in
      let a = answered_round view r s held own answer bs parts.first d head.e (cs ++ more) (head.rest_then ++ more_then) round.past_all within plan at parts.same (omega (arith, at, all, rest_size)) devices
      (goes_silent r.books.plan 1 n r.books.log held bs parts.first parts.middle goes talking.silent) silent talking.talks talking.own_is frame stood whole (round.books, round.answer_is) (end_later view r s None held answer round) in
      let log = r.books.log ++ ended_at (record held { now = here.back; altered = here.altered }) k ∷ [] in
      let journey : Journey r.books.plan (k + 1) (trip (risen_by (suc (length bs)) n) log (Some (sourced k a.sent))) cs round.at_drive head.rest_then =
      subst (λ out. Journey r.books.plan (k + 1) (answered (risen_by (suc (length bs)) n) r.books.log k (record held { now = here.back; altered = here.altered }) out) cs round.at_drive head.rest_then) a.out_is here.journey in
      inr (a.right, a.back, a.came, λ far. absurd (omega (arith, far, low)), onward low k log (suc (length bs)) a.sent a.back a.right cs head.rest_then (silent_front cs more silent) journey a.after))
      (λ gone.
      let lost = stays_lost view r s None held answer round (risen_by (suc gone.0.crossed) n) (r.books.log ++ lost_at held gone.0.party ∷ []) gone.0.is in
      let far : Gone r.books.plan 1 k (length bs) n r.books.log held round.past_all = record { crossed = gone.0.crossed; party = gone.0.party; on_ring = gone.0.on_ring; is = lost.0; planned = gone.0.planned } in
      inl (gone_round r s held answer k (length bs) round.past_all within (omega (arith, all)) (omega (arith, all)) (omega arith) (omega (arith, at)) (omega (arith, at)) far (round.books, round.answer_is), λ far. absurd (omega (arith, far, low)), λ _. lost.1))
      (to_talker Takes r.books.plan 1 k n r.books.log held bs d cs round.at_drive head.e head.rest_then parts.middle head.middle parts.first plan goes head.passage head.journey)

  -- Up to its source the frame comes to the drive, after it what its source sent then, or a planned hop is reached; the drive,
  -- if it is the source, answers by that.
  pub relay_at_drive : RelayedAtDrive view r held own answer s
  relay_at_drive =
      ⊎_elim
      (λ (none : drive_party r - held.source ≡ 0).
      ⊎_elim
      (λ (over : held.source - drive_party r ≡ 0). at_source (omega (arith, none, over)))
      (λ some. beyond (omega (arith, some)))
      (eq-zero-or-pos (held.source - drive_party r)))
      (λ some. after (omega (arith, some)))
      (eq-zero-or-pos (drive_party r - held.source))
