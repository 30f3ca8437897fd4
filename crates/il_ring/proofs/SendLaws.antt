-- What the clauses of `send` and `relay` say, of every ring.
use Rattle.std.proofs.Common.{◌≡◌, ◌⊎◌, inl, inr, ⊎_elim, ◌≤◌, ◌++◌, ℕ, Bool, true, false, Option, Some, None, length, refl, sym, ap, subst, ◌∙◌, arith, length-append}
use Rattle.std.specs.Prelude.{IfSome}
use Rattle.il_frames.specs.declared.frame.Frame.{Frame}
use Rattle.il_frames.specs.Frames.{is_data}
use Rattle.il_frames.specs.Messages.{message_of}
use Rattle.il_device.specs.declared.interface.OwnFrame.{OwnFrame}
use Rattle.il_device.specs.Roles.{is_start}
use Rattle.il_device.specs.Passing.{is_plain}
use Rattle.il_ports.specs.Media.{MediumView}
use Rattle.loop_model.specs.Roles.{talkers, is_at_most_one}
use Rattle.il_ring.specs.declared.plan.Arrival.{Arrival}
use Rattle.il_ring.specs.declared.flight.Flight.{Flight}
use Rattle.il_ring.specs.Flights.{sourced}
use Rattle.il_ring.specs.Journeys.{trip_of}
use Rattle.il_frames.specs.NamedFrames.{ifc}
use Rattle.il_ring.specs.Guests.{IsUnderHost}
use Rattle.il_ring.specs.Lending.{HostKeeps, ControlledRound, TakesBack, entry_of_kept, leads, going_on, about_to_send, taken_back, taken_back_if}
use Rattle.il_ring.specs.Rings.{RingView, IsRing, Round, devices_of, roles_of, spare_of}
use Rattle.il_ring.proofs.ControlledRounds.{controlled_hands, controlled_kept, not_controlled, taken_round}
use Rattle.il_ring.proofs.Handing.{data_hands}
use Rattle.il_ring.specs.Books.{IsHeld}
use Rattle.il_ring.specs.Lists.{AllSilent, NoneSends}
use Rattle.il_ring.specs.Outcomes.{Obeys, Returned, WasLost, DataReturned, DataBroken, StartReturned, StartGone, StartTaken, AllKeep, IsTalking, StoodSo, Relayed}
use Rattle.il_ring.proofs.PassKinds.{Is, Any, plain_passes}
use Rattle.il_ring.proofs.EndsHome.{any_each}
use Rattle.il_ring.proofs.PassRounds.{passed_round}
use Rattle.il_ring.proofs.DataRounds.{host_data_round}
use Rattle.il_ring.proofs.StartRounds.{start_round}
use Rattle.il_ring.proofs.RelayRounds.{relay_round}
use Rattle.il_ring.proofs.Splits.{each_silent}
use Rattle.il_ring.proofs.Kept.{journey_keeps}
use Rattle.il_ring.specs.Rounded.{Rounded, IsReady}
use Rattle.il_ring.proofs.RoundCounts.{round_journey, round_counts}

-- ---- by who controls

-- under the host the round is one like every other
pub sent_round : {M : Type 0} (view : M → MediumView) (r t s : RingView M) (f : Frame) (flight : Flight) (answer : Arrival) → ControlledRound view t flight answer s → t ≡ about_to_send r → flight ≡ sourced 0 f → HostKeeps r f → Round view r r.books.held (sourced 0 f) answer s
sent_round view r t s f flight answer round at is keeps =
    let same : about_to_send r ≡ r = ap (λ lead. taken_back_if lead r) (not_controlled r.guest keeps.host) in
    subst (λ flight. Round view r r.books.held flight answer s) is (controlled_kept view r s flight answer (subst (λ t. ControlledRound view t flight answer s) (at ∙ same) round) f is keeps)

pub handed_sent : {M : Type 0} (view : M → MediumView) (r t s : RingView M) (f : Frame) (flight : Flight) (answer : Arrival) → ControlledRound view t flight answer s → t ≡ about_to_send r → flight ≡ sourced 0 f → IsUnderHost r.guest → ControlledRound view r (sourced 0 f) answer s
handed_sent view r t s f flight answer round at is under =
    let same : about_to_send r ≡ r = ap (λ lead. taken_back_if lead r) (not_controlled r.guest under) in
    subst (λ flight. ControlledRound view r flight answer s) is (subst (λ t. ControlledRound view t flight answer s) (at ∙ same) round)

-- what the host sends while another controls
pub ifc_alone : {M : Type 0} (r : RingView M) (f : Frame) → IsUnderHost r.guest ⊎ (f ≡ ifc) → leads r.guest ≡ true → f ≡ ifc
ifc_alone r f (inl under) lead = let clash = sym lead ∙ not_controlled r.guest under in cc
ifc_alone r f (inr is) lead = is

pub back_sent : {M : Type 0} (view : M → MediumView) (r t s : RingView M) (f : Frame) (flight : Flight) (answer : Arrival) → ControlledRound view t flight answer s → t ≡ about_to_send r → flight ≡ sourced 0 f → IsUnderHost r.guest ⊎ (f ≡ ifc) → leads r.guest ≡ true → TakesBack view r f answer s
back_sent view r t s f flight answer round at is alone lead =
    let back : about_to_send r ≡ taken_back r = ap (λ lead. taken_back_if lead r) lead in
    taken_round view r s f flight answer is (ifc_alone r f alone lead) (subst (λ t. ControlledRound view t flight answer s) (at ∙ back) round)

-- the room that is left after a lending that ended
one_at_most : (k : ℕ) (o : Option Flight) → length (entry_of_kept k o) ≤ 1
one_at_most k None = omega arith
one_at_most k (Some f) = omega arith

pub room_sent : {M : Type 0} (r t : RingView M) (f : Frame) (flight : Flight) → t ≡ about_to_send r → flight ≡ sourced 0 f → IsUnderHost r.guest ⊎ (f ≡ ifc) → 32 ≤ spare_of r → (32 ≤ spare_of t) ⊎ ((30 ≤ spare_of t) × (flight ≡ sourced 0 ifc))
room_sent r t f flight at is alone room = by_lead (leads r.guest) refl
  where
    by_lead : (lead : Bool) → leads r.guest ≡ lead → (32 ≤ spare_of t) ⊎ ((30 ≤ spare_of t) × (flight ≡ sourced 0 ifc))
    by_lead false lead = inl (subst (λ t. 32 ≤ spare_of t) (sym (at ∙ ap (λ lead. taken_back_if lead r) lead)) room)
    by_lead true lead =
        let k = length (devices_of r) in
        let ends = one_at_most k r.books.kept in
        let stands = one_at_most 0 r.books.lent in
        let log = length-append r.books.log (entry_of_kept k r.books.kept) in
        let all = length-append (r.books.log ++ entry_of_kept k r.books.kept) (entry_of_kept 0 r.books.lent) in
        let left : 30 ≤ spare_of (taken_back r) = omega (arith, ends, stands, log, all, room) in
        inr (subst (λ t. 30 ≤ spare_of t) (sym (at ∙ ap (λ lead. taken_back_if lead r) lead)) left, is ∙ ap (sourced 0) (ifc_alone r f alone lead))

round_keeps : {M : Type 0} (view : M → MediumView) (r s : RingView M) (held : Option Flight) (f : Flight) (answer : Arrival) → Round view r held f answer s → AllKeep (devices_of r) (devices_of s)
round_keeps view r s held f answer round = journey_keeps r.books.plan 1 (trip_of r.books (Some f)) round.past_all (devices_of r) (devices_of s) (round_journey view r s held f answer round)

-- the held frame goes on, which is held no more
pub round_released : {M : Type 0} (view : M → MediumView) (r s : RingView M) (f : Flight) (answer : Arrival) → Round view (record r { books = record r.books { held = None } }) None f answer s → Round view r None f answer s
round_released view r s f answer round = record {
  at_drive = round.at_drive;
  past_drive = round.past_drive;
  past_all = round.past_all;
  to_drive = round.to_drive;
  at = round.at;
  from_drive = round.from_drive;
  guest = round.guest;
  books = round.books;
  answer_is = round.answer_is;
}

module _ {M : Type 0} (view : M → MediumView) (r t s : RingView M) (flight : Flight) (answer : Arrival) (at : t ≡ record r { books = record r.books { held = None } }) (held : r.books.held ≡ Some flight) (is : IsHeld (Some flight)) (round : ControlledRound view t flight answer s) where
  pub relayed_round : IsUnderHost r.guest → IfSome r.books.held (λ f. Round view r None f answer s)
  relayed_round under =
      let controlled = subst (λ t. ControlledRound view t flight answer s) at round in
      let one : Round view r None flight answer s = round_released view r s flight answer (controlled_hands view (record r { books = record r.books { held = None } }) s flight answer controlled (data_hands flight.now is.1) under) in
      subst (λ held. IfSome held (λ f. Round view r None f answer s)) (sym held) one

  pub relay_keeps : IsUnderHost r.guest → AllKeep (devices_of r) (devices_of s)
  relay_keeps under = kept_of r.books.held held (relayed_round under)
    where
      kept_of : (o : Option Flight) → o ≡ Some flight → IfSome o (λ f. Round view r None f answer s) → AllKeep (devices_of r) (devices_of s)
      kept_of None is round = let clash = is in cc
      kept_of (Some f) is round = round_keeps view r s None f answer round

-- the frame that is at the host while the ring is lent goes on
pub pass_round : {M : Type 0} (view : M → MediumView) (r t s : RingView M) (flight : Flight) (answer : Arrival) → t ≡ going_on r → r.books.lent ≡ Some flight → ControlledRound view t flight answer s → IfSome r.books.lent (λ f. ControlledRound view (going_on r) f answer s)
pass_round view r t s flight answer at lent round = subst (λ lent. IfSome lent (λ f. ControlledRound view (going_on r) f answer s)) (sym lent) (subst (λ t. ControlledRound view t flight answer s) at round)

-- ---- by the kind of the frame

pub plain_sent : {M : Type 0} (view : M → MediumView) (r s : RingView M) (held : Option Flight) (f : Frame) (flight : Flight) (answer : Arrival) → Round view r held flight answer s → flight ≡ sourced 0 f → IsRing r → is_plain (message_of f) ≡ true → Returned r held f f answer s ⊎ WasLost r 0 f answer s
plain_sent view r s held f flight answer round is ring plain =
    let passed = passed_round view (Is f) Any (Obeys (message_of f)) (plain_passes f plain) r s held f answer ring.crossings (any_each 1 (devices_of r)) refl (subst (λ flight. Round view r held flight answer s) is round) in
    ⊎_elim (λ back. inl (subst (λ g. Returned r held f g answer s) back.1 back.3)) (λ lost. inr lost) passed.end

pub data_sent : {M : Type 0} (view : M → MediumView) (r s : RingView M) (held : Option Flight) (f : Frame) (flight : Flight) (answer : Arrival) → Round view r held flight answer s → flight ≡ sourced 0 f → IsRing r → is_data f ≡ true → AllSilent (devices_of r) → DataReturned r held f answer s ⊎ DataBroken r held f answer s
data_sent view r s held f flight answer round is ring data_frame silent = host_data_round view r s held f answer ring.crossings ring.plan data_frame (each_silent 1 (devices_of r) silent) (subst (λ flight. Round view r held flight answer s) is round)

pub start_sent : {M : Type 0} (view : M → MediumView) (r s : RingView M) (held : Option Flight) (f : Frame) (flight : Flight) (answer : Arrival) → Round view r held flight answer s → flight ≡ sourced 0 f → IsRing r → is_start (message_of f) ≡ true → NoneSends (devices_of r)
    → is_at_most_one (talkers (roles_of (devices_of r))) ≡ true → StartReturned r held f answer s ⊎ (StartGone r f answer s ⊎ StartTaken r f answer s)
start_sent view r s held f flight answer round is ring start none one = start_round view r s held f answer ring.crossings ring.plan start none one (subst (λ flight. Round view r held flight answer s) is round)

pub kept_sent : {M : Type 0} (view : M → MediumView) (r s : RingView M) (held : Option Flight) (f : Flight) (answer : Arrival) → Round view r held f answer s → AllKeep (devices_of r) (devices_of s)
kept_sent view r s held f answer round = round_keeps view r s held f answer round

pub counts_sent : {M : Type 0} (view : M → MediumView) (r s : RingView M) (held : Option Flight) (f : Frame) (flight : Flight) (answer : Arrival) → Round view r held flight answer s → flight ≡ sourced 0 f → Rounded r held (sourced 0 f) answer s
counts_sent view r s held f flight answer round is = round_counts view r s held (sourced 0 f) answer (inl refl) (subst (λ flight. Round view r held flight answer s) is round)

-- of a frame that is held, if there is one
pub relay_told : {M : Type 0} (view : M → MediumView) (r s : RingView M) (held : Option Flight) (answer : Arrival) → IfSome held (λ f. Round view r None f answer s) → IsRing r
    → IfSome held (λ f. (own : OwnFrame) → IsTalking f.source (Some own) (devices_of r) → own.frame ≡ f.sent → StoodSo f → Relayed r f own answer s)
relay_told view r s None answer round ring = tt
relay_told view r s (Some f) answer round ring = λ own talking frame stood. relay_round view r s f own answer ring.crossings ring.plan talking frame stood round

pub relay_counts : {M : Type 0} (view : M → MediumView) (r s : RingView M) (held : Option Flight) (answer : Arrival) → IfSome held (λ f. Round view r None f answer s) → IfSome held (λ f. IsReady f (devices_of r) → Rounded r None f answer s)
relay_counts view r s None answer round = tt
relay_counts view r s (Some f) answer round = λ ready. round_counts view r s None f answer ready round
