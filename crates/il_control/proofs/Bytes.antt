-- A data frame of the host as a call.
use Rattle.std.proofs.Common.{◌≡◌, ◌∙◌, ◌++◌, ◌⊎◌, inl, inr, ⊎_elim, ℕ, Bool, true, false, not, List, [], ◌∷◌, Option, None, length, refl, sym, ap, subst}
use Rattle.std.specs.Prelude.{MatchBool}
use Rattle.il_frames.specs.declared.frame.Class.TheVariants as class
use Rattle.il_frames.specs.declared.frame.Frame.{Frame}
use Rattle.il_frames.specs.declared.entry.Outcome.{Outcome}
use Rattle.il_frames.specs.declared.entry.Outcome.TheVariants as outcome
use Rattle.il_frames.specs.Frames.{framed, same_but_service}
use Rattle.il_drive.specs.State.{device_of}
use Rattle.il_ports.specs.Media.{MediumView}
use Rattle.il_frames.specs.NamedFrames.{entry}
use Rattle.loop_model.specs.Roles.{talkers, is_at_most_one, are_numbered}
use Rattle.loop_model.specs.Exchanges.{FrameLost, HostAltered, echoed}
use Rattle.loop_model.proofs.RoleSteps.{kept_entry, OneTalker-silent}
use Rattle.il_ring.specs.declared.plan.Arrival.{Arrival}
use Rattle.il_ring.specs.declared.plan.Arrival.TheVariants as arrival
use Rattle.il_ring.specs.declared.flight.Flight.{Flight}
use Rattle.il_ring.specs.Flights.{sourced}
use Rattle.il_ring.specs.Lists.{AllSilent}
use Rattle.il_ring.specs.Outcomes.{met_between, DriveTook, IsBrought, CameAltered, WasLost, DataReturned, DataBroken}
use Rattle.il_ring.specs.Adds.{Adds}
use Rattle.il_ring.specs.Rings.{RingView, Round, devices_of, roles_of, drive_party}
use Rattle.il_ring.proofs.DataDrive.{data_drive}
use Rattle.il_ring.proofs.DataPasses.{same_served}
use Rattle.il_ring.proofs.PassKinds.{Silent}
use Rattle.il_ring.proofs.Passing.{AsData}
use Rattle.il_ring.proofs.RelayRounds.{wrong_echo}
use Rattle.il_ring.proofs.Rings.{IsRing-send}
use Rattle.il_ring.proofs.RoundAdds.{DriveCame}
use Rattle.il_ring.proofs.SendLaws.{data_sent}
use Rattle.il_ring.proofs.Splits.{each_silent}
use Rattle.il_ring.proofs.Talkers.{none_talk}
use Rattle.il_control.specs.Brought.{Brought, CutBrought}
use Rattle.il_control.specs.Calls.{IsIdle, IsLost, sent_as, Sent, NotSent}
use Rattle.il_control.proofs.Made.{host_still}
use Rattle.il_control.proofs.Brought.{brought_one, cut_brought_one, data_comes, data_may_come}
use Rattle.il_control.proofs.Calls.{each_front, host_added}

abbrev dab : ℕ → Frame
dab byte = framed class.Dab byte

-- what came of it
abbrev pub ByteEnd : {M : Type 0} → (M → MediumView) → ℕ → RingView M → Arrival → RingView M → Type 0
ByteEnd view byte r answer s = ((back : Frame) × (answer ≡ arrival.Frame back) × (same_but_service (dab byte) back ≡ true) × Sent view byte r s)
    ⊎ (((answer ≡ arrival.Lost) ⊎ ((back : Frame) × (answer ≡ arrival.Frame back) × (same_but_service (dab byte) back ≡ false))) × NotSent view byte r s)

module _ {M : Type 0} (view : M → MediumView) (byte : ℕ) (r s : RingView M) (held : Option Flight) (answer : Arrival) (round : Round view r held (sourced 0 (dab byte)) answer s) (none : held ≡ None) (idle : IsIdle r) where
  silent : AllSilent (devices_of r)
  silent = none_talk 1 (devices_of r) idle.silent

  took : DriveTook view (IsBrought r s (dab byte)) r s
  took = data_drive view r s held (sourced 0 (dab byte)) answer round idle.free.ring.crossings idle.free.ring.plan refl (each_front Silent 1 r.before (device_of r.drive.state ∷ r.after) (each_silent 1 (devices_of r) silent))

  -- what the round added, and what came to the drive
  added : (o : Outcome) → s.books.log ≡ r.books.log ++ entry 0 (dab byte) o ∷ [] → s.books.held ≡ None
      → (adds : Adds view r None (entry 0 (dab byte) o ∷ []) None s) × DriveCame (IsBrought r s (dab byte)) r s adds.came
  added o log free = host_added view (IsBrought r s (dab byte)) r s held (dab byte) answer o (AsData refl refl) round log free took

  brings : (back : Frame) (gs : List Frame) → met_between r s ≡ [] → DriveCame (IsBrought r s (dab byte)) r s gs → Brought (length (devices_of r)) (drive_party r) (entry 0 (dab byte) (outcome.Back back) ∷ []) gs
  brings back gs none came = brought_one (IsBrought r s (dab byte)) r s (length (devices_of r)) (drive_party r) (dab byte) back gs (λ g is. data_comes (drive_party r) byte g (is.0, is.1 none)) none came

  brings_cut : (o : Outcome) (gs : List Frame) → DriveCame (IsBrought r s (dab byte)) r s gs → CutBrought (length (devices_of r)) (drive_party r) (entry 0 (dab byte) o ∷ []) 0 gs
  brings_cut o gs came = cut_brought_one (IsBrought r s (dab byte)) r s (length (devices_of r)) (drive_party r) (dab byte) o gs (λ g is. data_may_come (drive_party r) byte g is.0) came

  still : (o : Outcome) → s.books.held ≡ None → Adds view r None (entry 0 (dab byte) o ∷ []) None s → IsIdle s
  still o free adds =
      let same : roles_of (devices_of s) ≡ roles_of (devices_of r) = adds.roles ∙ kept_entry (roles_of (devices_of r)) (entry 0 (dab byte) o) refl in
      record {
        free = record { ring = IsRing-send view r s held (dab byte) answer round idle.free.ring (inl none); held = free };
        host = host_still r s idle.host adds.guest;
        silent = ap talkers same ∙ idle.silent;
        numbered = ap (are_numbered 1) same ∙ idle.numbered;
      }

  back_whole : DataReturned r held (dab byte) answer s → ByteEnd view byte r answer s
  back_whole back =
      let returned = back.returned in
      let free = returned.held_is ∙ none in
      let end = added (outcome.Back back.back) returned.log free in
      let now = still (outcome.Back back.back) free end.0 in
      let echo = same_served (dab byte) back.back back.same in
      inl (
        back.back,
        returned.answer_is,
        echo,
        record {
          back = back.back;
          legal = echo;
          whole = record { adds = end.0; ring = now.free.ring; held = free; met_none = returned.met_none; unheard = λ none. cc; brought = λ from. brings back.back end.0.came returned.met_none end.1 };
          one = OneTalker-silent (roles_of (devices_of r)) (echoed 0 (sent_as byte back.back) ∷ []) idle.silent refl refl;
          heard = back.heard;
          idle = now;
        },
      )

  lost_at : IsIdle s → IsLost s
  lost_at now = record { free = now.free; one = ap is_at_most_one now.silent }

  broken : DataBroken r held (dab byte) answer s → ByteEnd view byte r answer s
  broken not_sent =
      ⊎_elim
      (λ (altered : CameAltered r held (dab byte) answer s).
      let free = altered.held_is ∙ none in
      let end = added (outcome.Back altered.back) altered.log free in
      let now = still (outcome.Back altered.back) free end.0 in
      let other = wrong_echo (dab byte) altered.back altered.other in
      inr (
        inr (altered.back, altered.answer_is, other),
        record {
          broke = record {
            standing = 0;
            break = HostAltered altered.back;
            legal = ap not other;
            held_at_end = None;
            told = λ none. refl;
            adds = end.0;
            ring = now.free.ring;
            held = free;
            met_some = altered.met_some;
            unheard = λ none. cc;
            brought = λ from. brings_cut (outcome.Back (dab byte)) end.0.came end.1;
          };
          one = OneTalker-silent (roles_of (devices_of r)) (entry 0 (dab byte) (outcome.Back altered.back) ∷ []) idle.silent refl refl;
          reached = not_sent.reached;
          heard = not_sent.heard;
          lost = lost_at now;
        },
      ))
      (λ (lost : WasLost r 0 (dab byte) answer s).
      let end = added (outcome.Lost lost.party) lost.log lost.held_is in
      let now = still (outcome.Lost lost.party) lost.held_is end.0 in
      inr (
        inl lost.answer_is,
        record {
          broke = record {
            standing = 0;
            break = FrameLost lost.party;
            legal = refl;
            held_at_end = None;
            told = λ none. refl;
            adds = end.0;
            ring = now.free.ring;
            held = lost.held_is;
            met_some = lost.met_some;
            unheard = λ none. cc;
            brought = λ from. brings_cut (outcome.Back (dab byte)) end.0.came end.1;
          };
          one = OneTalker-silent (roles_of (devices_of r)) (entry 0 (dab byte) (outcome.Lost lost.party) ∷ []) idle.silent refl refl;
          reached = not_sent.reached;
          heard = not_sent.heard;
          lost = lost_at now;
        },
      ))
      not_sent.how

  pub byte_call : ByteEnd view byte r answer s
  byte_call = ⊎_elim back_whole broken (data_sent view r s held (dab byte) (sourced 0 (dab byte)) answer round refl idle.free.ring refl silent)

-- ---- as a test

-- the frame came back the same apart from the service bit
abbrev pub echoes : Frame → Arrival → Bool
echoes f (arrival.Frame g) = same_but_service f g
echoes f arrival.Lost = false

pub byte_done : {M : Type 0} (view : M → MediumView) (byte : ℕ) (r s : RingView M) (held : Option Flight) (f : Frame) (answer : Arrival) (whole : Bool) → Round view r held (sourced 0 f) answer s → f ≡ framed class.Dab byte → whole ≡ echoes f answer → held ≡ None → IsIdle r
    → MatchBool whole (Sent view byte r s) (NotSent view byte r s)
byte_done view byte r s held f answer whole round is test none idle =
    ⊎_elim
    (λ sent. subst (λ whole. MatchBool whole (Sent view byte r s) (NotSent view byte r s)) (sym (tested ∙ ap (echoes (dab byte)) sent.1 ∙ sent.2)) sent.3)
    (λ not_sent. subst (λ whole. MatchBool whole (Sent view byte r s) (NotSent view byte r s)) (sym (tested ∙ ⊎_elim (λ lost. ap (echoes (dab byte)) lost) (λ other. ap (echoes (dab byte)) other.1 ∙ other.2) not_sent.0)) not_sent.1)
    (byte_call view byte r s held answer (subst (λ f. Round view r held (sourced 0 f) answer s) is round) none idle)
  where
    tested : whole ≡ echoes (dab byte) answer
    tested = test ∙ ap (λ f. echoes f answer) is
