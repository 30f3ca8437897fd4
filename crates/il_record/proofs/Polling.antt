-- The status poll over the loop: the drive that was asked tells its status by one byte.
use Rattle.std.proofs.Common.{◌≡◌, ◌∙◌, ◌≤◌, ◌++◌, ◌==◌, ℕ, true, false, List, [], ◌∷◌, Option, Some, None, get_or, length, refl, sym, ap, subst, arith, length-append}
use Rattle.std.specs.Prelude.{drop, IfSome}
use Rattle.std.proofs.lemmas.Bool.{eq-eqb}
use Rattle.il_frames.specs.declared.frame.Frame.{Frame}
use Rattle.il_frames.specs.Frames.{byte_of}
use Rattle.il_device.specs.declared.device.Out.{Out}
use Rattle.il_device.specs.declared.device.Out.TheVariants.{Pass, Source}
use Rattle.il_ports.specs.Media.{MediumView}
use Rattle.il_drive.specs.declared.mode.Start.TheVariants as start
use Rattle.il_drive.specs.State.{DriveView}
use Rattle.il_drive.specs.Runs.{Ran}
use Rattle.il_drive.proofs.Beginning.{joins}
use Rattle.il_drive.proofs.ExchangesStatus.{status_frame, tells}
use Rattle.il_frames.specs.NamedFrames.{unl, rfc, tad}
use Rattle.loop_model.specs.Exchanges.{Echo, Start, Sst, Answer, NotTaken, ToItsEnd, Stopped, Receive, start_frame, is_echo, is_answer, is_some_data, answers_as_asked, bytes_of}
use Rattle.il_ring.specs.Rings.{RingView, devices_of, drive_party}
use Rattle.il_control.specs.Calls.{IsIdle, Made}
use Rattle.il_control.specs.Receives.{Received, NotReceived, SpokenBy, received, is_stopped, talker_of, own_frames}
use Rattle.il_record.specs.Came.{NoneHeard}
use Rattle.il_record.specs.Runs.{Polled, NotPolled, TellsStatus}
use Rattle.il_record.proofs.Asked.{front_plain, untaken_frames, ran_asked, append_same, ran_length}
use Rattle.il_record.proofs.Cuts.{receive_cut, receive_from_here}
use Rattle.il_record.proofs.HeardLogs.{none_not_received, none_received}
use Rattle.il_record.proofs.MildCame.{not_received_for}
use Rattle.il_record.proofs.Readings.{asked_talker, legal_answer, end_echoes, stop_echoes, party_within, idle_address, idle_mute, told_status}

-- no device but the drive takes the start message that was meant for it
pub meant_for : (k a q : ℕ) (number : Option ℕ) (s : Start) (answer : Answer) → answers_as_asked k (Receive a number s answer) ≡ true → a ≡ q → IfSome (talker_of answer) (λ p. p ≡ q)
meant_for k a q number s NotTaken asked at = tt
meant_for k a q number s (ToItsEnd p ds) asked at = asked_talker k a p number s (ToItsEnd p ds) asked refl ∙ at
meant_for k a q number s (Stopped p ds last) asked at = asked_talker k a p number s (Stopped p ds last) asked refl ∙ at

module _ {M : Type 0} (view : M → MediumView) (d k₀ : ℕ) (low : d ≤ 30) (some : 1 ≤ d) (within : d ≤ k₀) where
  -- a drive that was told to talk takes SST
  untold : (came : List Frame) (outs : List Out) (v w : DriveView M) → v.state.interface.roles.address ≡ Some d → v.state.interface.roles.talks ≡ false → (sp : SpokenBy k₀ d d None Sst NotTaken came outs) → Ran view v came outs w → ⊥
  untold came outs v w address mute sp ran =
      let front = front_plain k₀ d d sp.before sp.first in
      let during = untaken_frames k₀ d Sst sp.during sp.middle in
      let so = ran_asked view sp.before sp.during sp.after [] sp.answers_before sp.answers_during sp.answers_after came outs v w sp.all sp.all_answers sp.many_before sp.many_during sp.said ran in
      let up_to : Ran view v (unl ∷ rfc ∷ tad d ∷ rfc ∷ start_frame Sst ∷ []) (so.outs_before ++ so.outs_during) so.last =
      subst (λ fs. Ran view v fs (so.outs_before ++ so.outs_during) so.last) (λ i. front i ++ during i) (joins view sp.before sp.during so.outs_before so.outs_during v so.first so.last so.ran_before so.ran_during) in
      let told = tells view d (so.outs_before ++ so.outs_during) v so.last low address mute up_to in
      let four : length so.outs_before ≡ 4 = ran_length view sp.before so.outs_before v so.first so.ran_before ∙ ap length front in
      let out = append_same so.outs_before (Pass unl ∷ Pass rfc ∷ Pass (tad d) ∷ Pass rfc ∷ []) so.outs_during (Source (status_frame view v.state) ∷ []) four told.answers in
      none (sym so.says ∙ ap own_frames out.1)
    where
      none : {g : Frame} → [] ≡ g ∷ [] → ⊥
      none is = cc

  polled_by : (answer : Answer) (n : ℕ) (old new : List ℕ) (r s : RingView M) → IsIdle r → r.drive.state.interface.roles.address ≡ Some d → r.drive.state.interface.roles.talks ≡ false → is_answer 0 answer ≡ true
      → IfSome (talker_of answer) (λ p. p ≡ d) → n ≡ length (received answer) → n ≤ 1 → new ≡ received answer ++ drop n old → is_stopped answer ≡ (n == 1)
      → (made : Made view (Receive d None Sst answer) r s) → NoneHeard r s → SpokenBy k₀ d d None Sst answer made.whole.adds.came made.whole.adds.answers → Polled view d (get_or new 0 0) r s
  polled_by NotTaken n old new r s idle address mute legal at count few bytes stops made unheard sp = absurd (untold made.whole.adds.came made.whole.adds.answers r.drive s.drive address mute sp made.whole.adds.drive)
  polled_by (ToItsEnd p ds) n old new r s idle address mute legal at count few bytes stops made unheard sp = absurd (by ds (end_echoes p ds legal).0 n count few stops)
    where
      by : (ds : List Echo) → is_some_data ds ≡ true → (n : ℕ) → n ≡ length (bytes_of ds) → n ≤ 1 → false ≡ (n == 1) → ⊥
      by [] some n count few stops = cc
      by (d ∷ ds) some n count few stops = let one : n ≡ 1 = omega (arith, count, few) in let clash : false ≡ true = stops ∙ eq-eqb n 1 one in cc
  polled_by (Stopped p [] last) n old new r s idle address mute legal at count few bytes stops made unheard sp =
      let echo = (stop_echoes p [] last legal).1 in
      by p at made sp echo
    where
      by : (p : ℕ) → p ≡ d → (made : Made view (Receive d None Sst (Stopped p [] last)) r s) → SpokenBy k₀ d d None Sst (Stopped p [] last) made.whole.adds.came made.whole.adds.answers → is_echo last ≡ true → Polled view d (get_or new 0 0) r s
      by p is made sp echo =
          let so : Made view (Receive d None Sst (Stopped d [] last)) r s = subst (λ p. Made view (Receive d None Sst (Stopped p [] last)) r s) is made in
          let spoken : SpokenBy k₀ d d None Sst (Stopped d [] last) made.whole.adds.came made.whole.adds.answers = subst (λ p. SpokenBy k₀ d d None Sst (Stopped p [] last) made.whole.adds.came made.whole.adds.answers) is sp in
          let byte : get_or new 0 0 ≡ byte_of last.sent = ap (λ bytes. get_or bytes 0 0) bytes in
          record {
            echo = last;
            byte_is = byte;
            made = so;
            unheard = unheard;
            drive = subst (λ byte. TellsStatus d byte r.drive s.drive) (sym byte) (told_status view d k₀ low some within last made.whole.adds.came made.whole.adds.answers r.drive s.drive address mute echo spoken spoken.said made.whole.adds.drive);
          }
  polled_by (Stopped p (c ∷ ds) last) n old new r s idle address mute legal at count few bytes stops made unheard sp =
      let long = length-append (bytes_of (c ∷ ds)) (byte_of last.sent ∷ []) in
      absurd (omega (arith, count, few, long))

pub polled : {M : Type 0} (view : M → MediumView) (d n : ℕ) (r : RingView M) (old new : List ℕ) (s : RingView M) → d ≤ 30 → d ≡ drive_party r → IsIdle r → length old ≡ 1 → Received view d None Sst n r old new s → Polled view (drive_party r) (get_or new 0 0) r s
polled view d n r old new s low at idle one got =
    let party = party_within r in
    let meant = meant_for (length (devices_of r)) d (drive_party r) None Sst got.answer got.asked at in
    let spoken = subst (λ q. SpokenBy (length (devices_of r)) q d None Sst got.answer got.made.whole.adds.came got.made.whole.adds.answers) (sym at) (got.spoken meant) in
    subst (λ d. Polled view d (get_or new 0 0) r s) at
    (polled_by view d (length (devices_of r)) low (omega (arith, at, party.0)) (omega (arith, at, party.1)) got.answer n old new r s idle (idle_address r idle ∙ ap Some (sym at)) (idle_mute r idle) (legal_answer r d None Sst got.answer got.made.legal)
    (subst (λ q. IfSome (talker_of got.answer) (λ p. p ≡ q)) (sym at) meant) got.count (omega (arith, one, got.within)) got.bytes (got.stops ∙ ap (λ l. n == l) one) got.made (none_received view r s d None Sst got.answer got.made got.unheard) spoken)

pub not_polled : {M : Type 0} (view : M → MediumView) (d w : ℕ) (r s : RingView M) → d ≤ 30 → d ≡ drive_party r → r.drive.state.interface.own ≡ None → NotReceived view d None Sst w r s → NotPolled view (drive_party r) r s
not_polled view d w r s low at silent got =
    let broke = got.broken.broke in
    let meant = meant_for (length (devices_of r)) d (drive_party r) None Sst got.answer got.asked at in
    let left = not_received_for start.Status Sst refl view d w r s low silent got in
    subst (λ d. NotPolled view d r s) at
    (record {
      answer = got.answer;
      broken = got.broken;
      unheard = none_not_received view r s d None Sst got.answer got.broken got.unheard;
      drive = receive_cut view (length (devices_of r)) (drive_party r) broke.standing d None Sst got.answer broke.adds.came broke.adds.answers r.drive s.drive low tt (legal_answer r d None Sst got.answer got.broken.legal)
          (broke.brought (receive_from_here (drive_party r) d None Sst got.answer meant)) broke.adds.drive;
      status = left.status;
      medium = left.medium;
    })
