-- As TCT was taken a second controller is at the first command of its rounds, or they broke off there.
use Rattle.std.proofs.Common.{◌≡◌, ◌∙◌, ◌⊎◌, inl, inr, ⊎_elim, ◌++◌, ℕ, suc, true, List, [], ◌∷◌, Option, Some, None, length, refl, sym, ap, ap₂, arith, append_assoc, append-nil, length-append}
use Rattle.il_frames.specs.declared.entry.Entry.{Entry}
use Rattle.il_frames.specs.declared.entry.Outcome.TheVariants as outcome
use Rattle.il_frames.specs.Messages.{message_of}
use Rattle.il_frames.specs.NamedFrames.{entry}
use Rattle.il_device.specs.declared.roles.Roles.{Roles}
use Rattle.il_device.specs.State.{DeviceState, risen}
use Rattle.il_drive.specs.State.{device_of}
use Rattle.il_ports.specs.Media.{MediumView}
use Rattle.loop_model.specs.Exchanges.{FrameLost}
use Rattle.loop_model.specs.Roles.{are_numbered, talkers}
use Rattle.il_guest.specs.declared.control.Command.TheVariants as command
use Rattle.il_guest.specs.declared.control.Place.TheVariants as place
use Rattle.il_guest.specs.Frames.{nop, tct}
use Rattle.il_guest.specs.Rounds.{addresses}
use Rattle.il_ring.specs.declared.plan.Arrival.{Arrival}
use Rattle.il_ring.specs.Flights.{lost_at, sourced}
use Rattle.il_ring.specs.Guests.{mind_of}
use Rattle.il_ring.specs.HandedOver.{HandedOver}
use Rattle.il_ring.specs.Lending.{IsControlled}
use Rattle.il_ring.specs.Lends.{BreaksOff}
use Rattle.il_ring.specs.Lists.{First}
use Rattle.il_ring.specs.Outcomes.{Obeys}
use Rattle.il_ring.specs.Plans.{next_fault}
use Rattle.il_ring.specs.Remaining.{from_command}
use Rattle.il_ring.specs.Rings.{RingView, devices_of, roles_of}
use Rattle.il_ring.specs.Turned.{StandsNot, StandsThere}
use Rattle.il_ring.proofs.Remaining.{begin_rounds}
use Rattle.il_control.proofs.LentArrivals.{came_lost_home}
use Rattle.il_control.proofs.LentPlaces.{none_asked}
use Rattle.il_control.proofs.LentPolls.{own_lost}
use Rattle.il_control.proofs.LentWalks.{BrokeOff, Polling, own_hit}

-- TCT changes no roles
pub tct_roles : (ds es : List DeviceState) → First (Obeys (message_of tct)) (length ds) ds es → (roles_of es ≡ roles_of ds) × (length es ≡ length ds)
tct_roles [] [] took = (refl, refl)
tct_roles (d ∷ ds) (e ∷ es) took = let more = tct_roles ds es took.1 in (ap₂ (λ r rs. r ∷ rs) took.0.roles more.0, ap suc more.1)
tct_roles [] (e ∷ es) took = absurd took
tct_roles (d ∷ ds) [] took = absurd took

module _ {M : Type 0} (view : M → MediumView) (r s : RingView M) (answer : Arrival) (over : HandedOver r answer s) (controlled : IsControlled s) where
  abbrev pub handed_party : ℕ
  handed_party = length (devices_of r)

  abbrev pub handed_own : Option ℕ
  handed_own = over.g.device.roles.address

  abbrev pub handed_base : List Entry
  handed_base = r.books.log ++ entry 0 tct (outcome.Taken (length (devices_of r))) ∷ []

  front : List DeviceState
  front = r.before ++ device_of r.drive.state ∷ over.boxed

  -- if none of the other devices talked, and each had its number as address
  module _ (silent : talkers (roles_of (r.before ++ device_of r.drive.state ∷ over.boxed)) ≡ []) (numbered : are_numbered 1 (roles_of (r.before ++ device_of r.drive.state ∷ over.boxed)) ≡ true) where
    abbrev asked : List ℕ
    asked = addresses over.g.device.roles.address over.g.last

    many : length (devices_of s) ≡ length (devices_of r)
    many =
        let same = (tct_roles (r.before ++ device_of r.drive.state ∷ over.boxed) (s.before ++ device_of s.drive.state ∷ over.boxed_then) over.obeyed).1 in
        let here = length-append r.before (device_of r.drive.state ∷ over.boxed) in
        let there = length-append s.before (device_of s.drive.state ∷ over.boxed_then) in
        let all = length-append r.before (device_of r.drive.state ∷ r.after) in
        let all_then = length-append s.before (device_of s.drive.state ∷ s.after) in
        let after = ap length over.after ∙ length-append over.boxed (over.g.device ∷ []) in
        let after_then = ap length over.after_then ∙ length-append over.boxed_then (over.h.device ∷ []) in
        omega (arith, same, here, there, all, all_then, after, after_then)

    there : (before : ℕ) → StandsThere r (entry 0 tct (outcome.Taken (length (devices_of r))) ∷ []) (sourced (length (devices_of r)) nop) None before answer s
        → Polling view handed_party over.g.last handed_own handed_base s 1
    there before at = record {
      controlled = controlled;
      many = many;
      boxed = over.boxed_then;
      device = over.h.device;
      after = over.after_then;
      address = ap (λ (r : Roles). r.address) over.roles;
      mind = mind_of over.h;
      mind_is = over.mind_then;
      last_is = over.last;
      place = place.Command command.Nop;
      at = over.control;
      range = tt;
      entries = [];
      log = at.log_is ∙ sym (append-nil handed_base);
      arrivals = refl;
      short = omega arith;
      stands = (
        [],
        tt,
        record {
          lent_is = at.lent_is ∙ ap (λ f. Some f) (own_hit (length (devices_of r)) nop (next_fault r.books.plan before) at.at refl at.came);
          kept_is = at.kept_is;
          quiet = tt;
          since =
              let roles = (tct_roles (r.before ++ device_of r.drive.state ∷ over.boxed) (s.before ++ device_of s.drive.state ∷ over.boxed_then) over.obeyed).0 in
              none_asked (s.before ++ device_of s.drive.state ∷ over.boxed_then) (roles_of (r.before ++ device_of r.drive.state ∷ over.boxed)) silent numbered roles;
          begun = begin_rounds (length (devices_of r)) asked;
        },
      );
    }

    gone : StandsNot r (entry 0 tct (outcome.Taken (length (devices_of r))) ∷ []) None (lost_at (sourced (length (devices_of r)) nop) 0 ∷ []) (risen over.out.0) answer s
        → BrokeOff view handed_party over.g.last handed_own handed_base s 1
    gone not = record {
      entries = [];
      tail = entry (length (devices_of r)) nop (outcome.Lost 0) ∷ [];
      end = BreaksOff (FrameLost 0);
      ends = own_lost (length (devices_of r)) asked [] asked (from_command (length (devices_of r)) asked [] command.Nop) nop _ 0 (omega arith) (begin_rounds (length (devices_of r)) asked) refl refl;
      breaks = refl;
      log = not.log_is ∙ sym (append_assoc r.books.log (entry 0 tct (outcome.Taken (length (devices_of r))) ∷ []) (entry (length (devices_of r)) nop (outcome.Lost 0) ∷ []));
      arrivals = let none = came_lost_home (length (devices_of r)) (length (devices_of r)) nop in omega (arith, none);
      short = omega arith;
      lent_is = not.lent_is;
    }

    pub handed_polls : Polling view handed_party over.g.last handed_own handed_base s 1 ⊎ BrokeOff view handed_party over.g.last handed_own handed_base s 1
    handed_polls = ⊎_elim (λ at. inl (there over.out.0 at)) (λ not. inr (gone not.0)) over.out.1
