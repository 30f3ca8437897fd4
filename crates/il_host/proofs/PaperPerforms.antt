-- The command that tells the printer's paper sends no frame: it is a step that leaves everything.
use Rattle.std.proofs.Common.{◌≡◌, ◌++◌, ◌∙◌, ℕ, Bool, true, false, List, [], Option, Some, None, refl, sym, ap, subst, arith}
use Rattle.std.specs.List.{All}
use Rattle.std.proofs.lemmas.List.Elements.{All-nil}
use Rattle.il_frames.specs.declared.entry.Entry.{Entry}
use Rattle.il_ports.specs.Media.{MediumView}
use Rattle.il_ports.specs.Stores.{Begun, IsStore}
use Rattle.loop_model.specs.Roles.{is_at_most_one, talkers}
use Rattle.il_ring.specs.Plans.{hops_of}
use Rattle.il_ring.specs.Rings.{RingView, devices_of, paper_of, roles_of}
use Rattle.il_ring.specs.Fates.{IsByPlan}
use Rattle.il_record.specs.declared.records.Since.TheVariants as since
use Rattle.il_record.specs.LoopStores.{LoopView, view_of}
use Rattle.host_model.specs.Requests.{Asks, Paper}
use Rattle.host_model.specs.LoopStates.{all_roles, device_count, paper_on}
use Rattle.host_model.specs.HostStates.{HostState}
use Rattle.host_model.specs.Replies.{if_printer}
use Rattle.host_model.specs.RingStates.{loop_on}
use Rattle.host_model.specs.Next.{BoxedBecome, DeviceBehind}
use Rattle.host_model.specs.Steps.{Event, Exchanged, HearsLog, Acts, Replied, is_frame_fault, event}
use Rattle.host_model.proofs.Steps.{boxed_same, alike_staying}
use Rattle.host_model.proofs.Fronts.{controls_still}
use Rattle.il_host.specs.Standings.{IsHostRing, event_at, state_at}
use Rattle.il_host.proofs.CommandLogs.{SaysOf, exchanged_none, met_none}
use Rattle.il_host.proofs.CommandTravels.{event_by, event_on, travels_none}
use Rattle.il_host.proofs.LoopPerforms.{quiet_stops}
use Rattle.il_host.proofs.Sounding.{travels_sounding}
use Rattle.il_host.proofs.VolumePerforms.{Performs}
use Rattle.il_host.proofs.VolumeReplied.{seen_as}
use Rattle.il_host.proofs.VolumeStarts.{Emptied, volume_begun}
use Rattle.il_host.proofs.VolumeTravels.{one_talks}

module _ {M : Type 0} (view : M → MediumView) (found : Option (List ℕ × ℕ)) (was sound : Bool) (r : RingView M) (paper : found ≡ paper_on (loop_on r)) (empty : r.books.log ≡ []) where
  abbrev paper_event : Event
  paper_event = event_by view (Asks Paper) (if_printer found) was was sound sound r r

  -- the reply
  paper_replied : Replied paper_event
  paper_replied = by found paper
    where
      by : (told : Option (List ℕ × ℕ)) → told ≡ paper_on (loop_on r) → Replied (event_by view (Asks Paper) (if_printer told) was was sound sound r r)
      by None is = record { may = tt; whole = λ tells. (ap if_printer is, refl); stays = λ other. refl; told = refl; size = refl; gate = λ own. own; foreign = alike_staying (view r.drive.medium).tape }
      by (Some found) is = record { may = tt; whole = λ tells. (ap if_printer is, refl); stays = λ other. refl; told = refl; size = refl; gate = λ own. own; foreign = alike_staying (view r.drive.medium).tape }

  no_fault : (told : Option (List ℕ × ℕ)) → is_frame_fault (if_printer told) ≡ false
  no_fault None = refl
  no_fault (Some found) = refl

  -- no frame
  paper_exchanged : Exchanged (r.books.plan) paper_event
  paper_exchanged = exchanged_none view (Asks Paper) (if_printer found) was was sound sound r r empty refl (no_fault found) (by found)
    where
      by : (told : Option (List ℕ × ℕ)) → SaysOf view (Asks Paper) (if_printer told) was sound r r []
      by None = record { course = refl; begins = λ of. cc; cause = (met_none (hops_of r.books.plan) r.books.crossings, refl, refl); carried = tt }
      by (Some found) = record { course = refl; begins = λ of. cc; cause = (met_none (hops_of r.books.plan) r.books.crossings, refl, refl); carried = tt }

  -- nothing heard
  paper_heard : (whole : Bool) → BoxedBecome (HearsLog (device_count (loop_on r)) (all_roles (loop_on r)) r.books.log whole) (loop_on r) (loop_on r)
  paper_heard whole =
      subst (λ (log : List Entry). BoxedBecome (HearsLog (device_count (loop_on r)) (all_roles (loop_on r)) log whole) (loop_on r) (loop_on r)) (sym empty)
      (boxed_same (HearsLog (device_count (loop_on r)) (all_roles (loop_on r)) [] whole)
      (λ party d. record { more = []; few = omega arith; none = λ is. refl; heard = record { heard = refl; heard_count = refl; room = refl; accessory = refl } }) (loop_on r))

  pub paper_step : is_at_most_one (talkers (roles_of (devices_of r))) ≡ true → Acts (r.books.plan) paper_event
  paper_step one = record {
    replied = paper_replied;
    next = record {
      devices = boxed_same (DeviceBehind (Asks Paper) (if_printer found) (loop_on r))
          (λ party d. record { accessory = refl; hears = record { heard = refl; heard_count = refl; room = refl; accessory = refl }; service = λ is. refl }) (loop_on r);
      status = refl;
    };
    travels = travels_sounding (event_on view (Asks Paper) (if_printer found) was was r r) sound sound (travels_none view (Asks Paper) (if_printer found) was was r r empty one refl);
    heard = λ other. paper_heard _;
    exchanged = λ other. paper_exchanged;
    lent = λ frames is. cc;
    by_plan = subst (λ log. All (IsByPlan r.books.plan r.books.crossings r.books.crossings) log) (sym empty) (All-nil (IsByPlan r.books.plan r.books.crossings r.books.crossings));
    ready = λ frames. cc;
    controls = λ on. controls_still (r.books.plan) paper_event paper_exchanged;
    clears = λ frames. cc;
    sound = λ of. cc;
    unsound = λ other frames. cc;
    still = λ none. (empty, refl);
  }

-- The log was emptied, and then the ring told of a paper, if it has one.
pub paper_performs : {M S : Type 0} (view : M → MediumView) (seen : S → RingView M) (o a : S) (old begun : LoopView M) → (view_of view seen o old).valid → seen o ≡ old.ring → seen a ≡ begun.ring
    → Begun (view_of view seen o old) (view_of view seen a begun) → IsStore (view_of view seen o old) → IsHostRing view old.ring
    → (found : Option (List ℕ × ℕ)) → found ≡ paper_of (begun.ring.before ++ begun.ring.after)
    → (found ≡ paper_on (state_at view old).loop) × Performs view seen o a (Asks Paper) (if_printer found) old begun
paper_performs {M} {S} view seen o a old begun valid here there empties store room found told = (
  told ∙ ap (λ (s : HostState). paper_on s.loop) emptied.state,
  record {
    step = subst (λ plan. Acts plan (event_at view (Asks Paper) (if_printer found) old begun)) emptied.plan
        (subst (λ (s : HostState). Acts (begun.ring.books.plan) (event_from s)) emptied.state begun_step);
    stops = quiet_stops (Asks Paper) (if_printer found) (begun.ring.books.log) (state_at view old) (state_at view begun) (view_of view seen o old) (view_of view seen a begun) (seen_as view seen o old) store empties.quiet;
    keeps = record { plan = emptied.plan; room = emptied.room room; images = emptied.images };
  },
)
  where
    emptied : Emptied view old begun
    emptied = volume_begun view seen o a old begun valid here there empties

    begun_step : Acts (begun.ring.books.plan) (event_at view (Asks Paper) (if_printer found) begun begun)
    begun_step = paper_step view found begun.ready begun.sound begun.ring told emptied.log (one_talks begun.ready begun.ring begun.sound since.Unbroken emptied.stands)

    event_from : HostState → Event
    event_from s = event (Asks Paper) (if_printer found) (begun.ring.books.log) s (state_at view begun)
