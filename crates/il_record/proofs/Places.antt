-- Which places in the poll devices have after a call, and that the drive stays free.
use Rattle.std.proofs.Common.{◌≡◌, ◌∙◌, ◌+◌, inl, inr, ⊎_elim, ◌++◌, ℕ, zero, suc, Bool, true, false, List, [], ◌∷◌, Option, length, map, ap, arith}
use Rattle.il_frames.specs.declared.message.Message.{Message}
use Rattle.il_device.specs.State.{DeviceState}
use Rattle.il_ports.specs.Media.{MediumView}
use Rattle.std.specs.List.{All}
use Rattle.il_drive.specs.State.{device_of, fresh_drive}
use Rattle.il_drive.specs.Resting.{IsFree}
use Rattle.loop_model.specs.Exchanges.{Start}
use Rattle.loop_model.specs.Units.{RecordUnit}
use Rattle.loop_model.specs.Devices.{EachBecomes}
use Rattle.il_ring.specs.Lists.{Each, First}
use Rattle.il_ring.proofs.RoundPlaces.{place_kept}
use Rattle.il_ring.specs.Outcomes.{Obeys}
use Rattle.il_ring.specs.Polls.{KeepsPlace, is_poll}
use Rattle.il_ring.specs.Rings.{IsRing, MayStand, RingView, devices_of, drive_party}
use Rattle.il_control.specs.Calls.{AllStay, IsIdle, Obeyed, ObeyedInPart, Stays}
use Rattle.il_control.specs.Receives.{NotReceived, Received}
use Rattle.il_record.specs.Asks.{Ask}
use Rattle.il_record.specs.Came.{CameUnits}
use Rattle.il_record.specs.Listening.{Hears, HearsPart}
use Rattle.il_record.specs.LoopCalls.{LeavesDrive, LeftAlone, NotSaid, Said}
use Rattle.il_record.specs.Polls.{HasPolled, MayPoll, PlacesKept, PollBroke, PollsOn, Released}
use Rattle.il_record.specs.Sends.{SendBroke, SentSo}
use Rattle.il_record.proofs.Readings.{idle_address, idle_mute}

-- ---- lists of devices

all_kept : (still : Bool) (ds es : List DeviceState) → First (Stays still) (length ds) ds es → First KeepsPlace (length ds) ds es
all_kept still [] [] stays = tt
all_kept still (d ∷ ds) (e ∷ es) stays = (stays.0.place, all_kept still ds es stays.1)
all_kept still _ _ stays = absurd stays

each_kept : (R : ℕ → DeviceState → DeviceState → Type 0) → ((k : ℕ) (d e : DeviceState) → R k d e → KeepsPlace d e) → (k : ℕ) (ds es : List DeviceState) → EachBecomes R k ds es → First KeepsPlace (length ds) ds es
each_kept R rule k [] [] each = tt
each_kept R rule k (d ∷ ds) (e ∷ es) each = (rule k d e each.0, each_kept R rule (k + 1) ds es each.1)
each_kept _ rule k _ _ each = absurd each

both_kept : (cs ds es : List DeviceState) → First KeepsPlace (length cs) cs ds → First KeepsPlace (length ds) ds es → First KeepsPlace (length cs) cs es
both_kept [] [] [] first more = tt
both_kept (c ∷ cs) (d ∷ ds) (e ∷ es) first more = (more.0 ∙ first.0, both_kept cs ds es first.1 more.1)
both_kept [] (d ∷ ds) es first more = absurd first
both_kept (c ∷ cs) [] es first more = absurd first
both_kept _ _ _ first more = absurd more

first_kept : (m : Message) → is_poll m ≡ false → (j : ℕ) (ds es : List DeviceState) → First (Obeys m) j ds es → First KeepsPlace (length ds) ds es
first_kept m none j [] [] took = tt
first_kept m none zero (d ∷ ds) (e ∷ es) took = (ap (λ (d : DeviceState). d.assignment) took.0, first_kept m none zero ds es took.1)
first_kept m none (suc j) (d ∷ ds) (e ∷ es) took = (took.0.assignment ∙ place_kept m d.roles d.assignment none, first_kept m none j ds es took.1)
first_kept m none j _ _ took = absurd took

may_on : (k : ℕ) (ds es : List DeviceState) → First KeepsPlace (length ds) ds es → Each MayPoll k ds → Each MayPoll k es
may_on k [] [] kept may = tt
may_on k (d ∷ ds) (e ∷ es) kept may = (⊎_elim (λ none. inl (kept.0 ∙ none)) (λ own. inr (kept.0 ∙ own)) may.0, may_on (k + 1) ds es kept.1 may.1)
may_on k _ _ kept may = absurd kept

polls_may : (k : ℕ) (ds es : List DeviceState) → EachBecomes PollsOn k ds es → Each MayPoll k ds → Each MayPoll k es
polls_may k [] [] each may = tt
polls_may k (d ∷ ds) (e ∷ es) each may = (each.0.place may.0, polls_may (k + 1) ds es each.1 may.1)
polls_may k _ _ each may = absurd each

released_may : (k : ℕ) (ds es : List DeviceState) → EachBecomes Released k ds es → Each MayPoll k es
released_may k [] [] each = tt
released_may k (d ∷ ds) (e ∷ es) each = (inl each.0.place, released_may (k + 1) ds es each.1)
released_may k _ _ each = absurd each

-- ---- calls

module _ {M : Type 0} (r s : RingView M) where
  pub kept_stays : (still : Bool) → AllStay still r s → PlacesKept r s
  kept_stays still stays = record { kept = all_kept still (devices_of r) (devices_of s) stays }

  -- a command that gives and takes no place, to all devices or to the first ones
  pub kept_obeyed : (m : Message) → is_poll m ≡ false → Obeyed m r s → PlacesKept r s
  kept_obeyed m none obeyed = record { kept = first_kept m none (length (devices_of r)) (devices_of r) (devices_of s) obeyed }

  pub kept_in_part : (m : Message) → is_poll m ≡ false → ObeyedInPart m r s → PlacesKept r s
  kept_in_part m none part = record { kept = first_kept m none part.0 (devices_of r) (devices_of s) part.1 }

  pub kept_heard : (a : ℕ) (bytes : List ℕ) → EachBecomes (Hears a bytes) 1 (devices_of r) (devices_of s) → PlacesKept r s
  kept_heard a bytes heard = record { kept = each_kept (Hears a bytes) (λ k d e hears. hears.0) 1 (devices_of r) (devices_of s) heard }

  pub kept_heard_part : (a whole : ℕ) (bytes : List ℕ) → EachBecomes (HearsPart a whole bytes) 1 (devices_of r) (devices_of s) → PlacesKept r s
  kept_heard_part a whole bytes heard = record { kept = each_kept (HearsPart a whole bytes) (λ k d e hears. hears.0) 1 (devices_of r) (devices_of s) heard }

  pub may_poll_kept : PlacesKept r s → Each MayPoll 1 (devices_of r) → Each MayPoll 1 (devices_of s)
  may_poll_kept kept may = may_on 1 (devices_of r) (devices_of s) kept.kept may

pub kept_then : {M : Type 0} (r m s : RingView M) → PlacesKept r m → PlacesKept m s → PlacesKept r s
kept_then r m s first more = record { kept = both_kept (devices_of r) (devices_of m) (devices_of s) first.kept more.kept }

module _ {M : Type 0} (view : M → MediumView) (r s : RingView M) where
  pub kept_sent : (a : ℕ) (number : Option ℕ) (i : ℕ) (bytes : List ℕ) → SentSo view a number i bytes r s → PlacesKept r s
  kept_sent a number i bytes so = kept_heard r s a _ so.heard

  pub kept_not_sent : (a : ℕ) (number : Option ℕ) (bytes : List ℕ) → SendBroke view a number bytes r s → PlacesKept r s
  kept_not_sent a number bytes not = kept_heard_part r s a not.whole bytes not.heard

  pub kept_received : (a : ℕ) (number : Option ℕ) (start : Start) (n : ℕ) (old new : List ℕ) → Received view a number start n r old new s → PlacesKept r s
  kept_received a number start n old new got = kept_stays r s false got.stays

  pub kept_not_received : (a : ℕ) (number : Option ℕ) (start : Start) (w : ℕ) → NotReceived view a number start w r s → PlacesKept r s
  kept_not_received a number start w got = kept_stays r s false got.stays

  pub kept_left : (whole : Bool) (asks : List Ask) → LeftAlone view whole asks r s → PlacesKept r s
  kept_left whole asks left = kept_stays r s false left.stays

  pub kept_said : (a : ℕ) (bytes : List ℕ) → Said view a bytes r s → PlacesKept r s
  kept_said a bytes said = kept_heard r s a bytes said.heard

  pub kept_not_said : (a : ℕ) (bytes : List ℕ) → NotSaid view a bytes r s → PlacesKept r s
  kept_not_said a bytes not = kept_heard_part r s a not.whole bytes not.heard

  pub may_poll_broke : (n : ℕ) (asks : List Ask) → PollBroke view n asks r s → Each MayPoll 1 (devices_of r) → Each MayPoll 1 (devices_of s)
  may_poll_broke n asks broke may = polls_may 1 (devices_of r) (devices_of s) broke.devices may

  pub may_poll_polled : (f : _) → HasPolled view f r s → Each MayPoll 1 (devices_of s)
  may_poll_polled f polled = released_may 1 (devices_of r) (devices_of s) polled.released

  -- ---- the drive

  -- a call that asks nothing of it but its name leaves it free
  pub free_on : (us : List RecordUnit) → IsFree (drive_party r) r.drive.state → CameUnits view true us r s → LeavesDrive r.drive s.drive → IsFree (drive_party s) s.drive.state
  free_on us free came drive =
      let idle : IsIdle s = came.came.talked.state in
      record {
        address = idle_address s idle;
        mute = idle_mute s idle;
        silent = drive.silent (idle_mute s idle);
        status = drive.status ∙ free.status;
      }

-- ---- a new ring

may_before : (k : ℕ) (ds rest : List DeviceState) → All MayStand ds → ((k : ℕ) → Each MayPoll k rest) → Each MayPoll k (ds ++ rest)
may_before k [] rest all more = more k
may_before k (d ∷ ds) rest all more = let first : MayStand d = all 0 d (omega (arith)) in (inl first.0.assignment, may_before (k + 1) ds rest (λ i x within. all (suc i) x (omega (arith, within))) more)

may_alone : (k : ℕ) (ds : List DeviceState) → All MayStand ds → Each MayPoll k ds
may_alone k [] all = tt
may_alone k (d ∷ ds) all = let first : MayStand d = all 0 d (omega arith) in (inl first.0.assignment, may_alone (k + 1) ds (λ i x within. all (suc i) x (omega (arith, within))))

all_behind : {A : Type 0} (P : A → Type 0) (x : A) (xs : List A) → P x → All P xs → All P (x ∷ xs)
all_behind P x xs first more zero y within = first
all_behind P x xs first more (suc k) y within = more k y (omega (arith, within))

pub all_mapped : {A B : Type 0} (P : B → Type 0) (f : A → B) (xs : List A) → All (λ x. P (f x)) xs → All P (map f xs)
all_mapped P f [] all = λ k y within. absurd (omega (arith, within))
all_mapped P f (x ∷ xs) all = all_behind P (f x) (map f xs) (all 0 x (omega arith)) (all_mapped P f xs (λ i z less. all (suc i) z (omega (arith, less))))

-- no device of it has a place in the poll
pub new_may_poll : {M : Type 0} (r : RingView M) → IsRing r → r.drive.state ≡ fresh_drive → All MayStand r.before → All MayStand r.after → Each MayPoll 1 (devices_of r)
new_may_poll r ring drive before after = may_before 1 r.before (device_of r.drive.state ∷ r.after) before (λ k. (inl (ap (λ state. (device_of state).assignment) drive), may_alone (k + 1) r.after after))
