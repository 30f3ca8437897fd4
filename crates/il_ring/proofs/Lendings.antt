-- A second controller as the last party: if it passes what comes to it, it is a device like every other.
use Rattle.std.proofs.Common.{◌≡◌, ◌⊎◌, inl, inr, ⊎_elim, ◌≤◌, ◌+◌, ℕ, List, [], ◌∷◌, Option, Some, None, option_map, length, refl, sym, ap, subst, ◌∙◌, arith, length-append}
use Rattle.il_frames.specs.declared.frame.Frame.{Frame}
use Rattle.il_device.specs.declared.device.Out.TheVariants as device
use Rattle.il_device.specs.State.{risen}
use Rattle.il_device.specs.Takes.{Takes}
use Rattle.il_guest.specs.declared.control.Control.TheVariants as control
use Rattle.il_guest.specs.declared.guest.GuestOut.{GuestOut}
use Rattle.il_guest.specs.declared.guest.GuestOut.TheVariants as guest
use Rattle.il_guest.specs.State.{GuestState}
use Rattle.il_guest.specs.Takes.{GuestTakes, passed_by}
use Rattle.il_guest.proofs.GuestLaws.{PassesIt}
use Rattle.il_ring.specs.declared.plan.Planned.{Planned}
use Rattle.il_ring.specs.declared.plan.PlanFault.{PlanFault}
use Rattle.il_ring.specs.declared.flight.Flight.{Flight}
use Rattle.il_ring.specs.Plans.{next_fault}
use Rattle.il_ring.specs.Flights.{hit, lost_at}
use Rattle.il_ring.specs.Guests.{mind_of, guest_mind, guest_devices}
use Rattle.il_ring.specs.Journeys.{Trip, missed, Meets, Reaches, Journey}
use Rattle.il_ring.specs.Lending.{ControlledTrip, as_host, controlled_answers, GuestMeets, GuestReaches, LastPassage}
use Rattle.il_ring.proofs.Handing.{OnWay}
use Rattle.il_ring.proofs.Journeys.{Journey-one}

-- ---- a frame that it passes

-- What became of it as it was to come so: it has passed the frame as every device does, and the host controls; or nothing came to it.
pub record PassesLast (plan : List Planned) (k : ℕ) (t : Trip) (o : Option Flight) (kept : Option Flight) (g : GuestState) (u : ControlledTrip) (h : GuestState) : Type 0 where
  pub reaches : Reaches Takes plan k t o g.device u.trip h.device
  pub keeps : u.kept ≡ kept
  pub grows : length u.trip.log ≤ length t.log + 1
  pub mind : ((h ≡ g) × (u.trip.flight ≡ None)) ⊎ (mind_of h ≡ record (mind_of g) { control = control.Host })

-- P holds of what comes to it, also after a link, and it passes that
pub record PassesAll (P : Frame → Type 0) (g h : GuestState) : Type 0 where
  pub rule : (f : Frame) (out : GuestOut) → P f → GuestTakes g f out h → PassesIt g f out h
  pub stays : (fault : Option PlanFault) (f : Flight) (o : Option Flight) → P f.now → hit fault f ≡ o → OnWay P o

module _ (P : Frame → Type 0) (g h : GuestState) (all : PassesAll P g h) (plan : List Planned) (k : ℕ) (t : Trip) (kept : Option Flight) (u : ControlledTrip) where
  mind_passed : (f : Frame) (out : GuestOut) → PassesIt g f out h → mind_of h ≡ record (mind_of g) { control = control.Host }
  mind_passed f out passes =
      ap (λ last. record (mind_of h) { last = last }) passes.last
      ∙ ap (λ c. record (mind_of h) { last = g.last; control = c }) passes.control
      ∙ ap (λ found. record (mind_of g) { control = control.Host; found = found }) passes.found

  meets_last : (f : Flight) (o : Option Flight) → hit (next_fault plan t.crossings) f ≡ o → OnWay P o → GuestMeets k t kept f o g u h → PassesLast plan k t (Some f) kept g u h
  meets_last f None is may met =
      let lost : u.trip ≡ missed (risen t.crossings) t.log k f = ap (λ (u : ControlledTrip). u.trip) met.0 in
      record {
        reaches = subst (λ o. Meets Takes k t f o g.device u.trip h.device) (sym is) (lost, ap (λ (g : GuestState). g.device) met.1);
        keeps = ap (λ (u : ControlledTrip). u.kept) met.0;
        grows =
            let len = length-append t.log (lost_at f k ∷ []) in
            let log = ap (λ (t : Trip). length t.log) lost in
            omega (arith, len, log);
        mind = inl (met.1, ap (λ (t : Trip). t.flight) lost);
      }
  meets_last f (Some at) is may met =
      let passes = all.rule at.now met.0 may met.1 in
      let on : u ≡ controlled_answers (risen t.crossings) t.log k at kept (guest.Pass (passed_by g.device at.now)) = met.2 ∙ ap (controlled_answers (risen t.crossings) t.log k at kept) passes.answer in
      record {
        reaches = subst (λ o. Meets Takes k t f o g.device u.trip h.device) (sym is) (device.Pass (passed_by g.device at.now), passes.device, ap (λ (u : ControlledTrip). u.trip) on);
        keeps = ap (λ (u : ControlledTrip). u.kept) on;
        grows = let log = ap (λ (u : ControlledTrip). length u.trip.log) on in omega (arith, log);
        mind = inr (mind_passed at.now met.0 passes);
      }

  pub reaches_last : (o : Option Flight) → t.flight ≡ o → OnWay P o → GuestReaches plan k t kept o g u h → PassesLast plan k t o kept g u h
  reaches_last None is may reached =
      let same : u.trip ≡ t = ap (λ (u : ControlledTrip). u.trip) reached.0 in
      record {
        reaches = (same, ap (λ (g : GuestState). g.device) reached.1);
        keeps = ap (λ (u : ControlledTrip). u.kept) reached.0;
        grows = let log = ap (λ (t : Trip). length t.log) same in omega (arith, log);
        mind = inl (reached.1, ap (λ (t : Trip). t.flight) same ∙ is);
      }
  reaches_last (Some f) is may reached =
      let after = hit (next_fault plan t.crossings) f in
      meets_last f after refl (all.stays (next_fault plan t.crossings) f after may refl) reached

-- ---- and so one more device of the journey

-- what became of it, if there is one
pub record PassesEnd (plan : List Planned) (k : ℕ) (t : Trip) (kept : Option Flight) (guest : Option GuestState) (u : ControlledTrip) (later : Option GuestState) : Type 0 where
  pub journey : Journey plan k t (guest_devices guest) u.trip (guest_devices later)
  pub keeps : u.kept ≡ kept
  pub grows : length u.trip.log ≤ length t.log + 1
  pub lost : t.flight ≡ None → u.trip ≡ t
  pub mind : ((guest_mind later ≡ guest_mind guest) × ((guest ≡ None) ⊎ (u.trip.flight ≡ None))) ⊎ (guest_mind later ≡ option_map as_host (guest_mind guest))

-- each second controller that this may be passes what comes to it
abbrev pub EndPasses : (Frame → Type 0) → Option GuestState → Option GuestState → Type 0
EndPasses P None later = Unit {0}
EndPasses P (Some g) None = Unit {0}
EndPasses P (Some g) (Some h) = PassesAll P g h

pub passes_end : (P : Frame → Type 0) (guest later : Option GuestState) → EndPasses P guest later → (plan : List Planned) (k : ℕ) (t : Trip) (kept : Option Flight) (u : ControlledTrip) → OnWay P t.flight → LastPassage plan k t kept guest u later → PassesEnd plan k t kept guest u later
passes_end P None None all plan k t kept u may passage = record {
  journey = ap (λ (u : ControlledTrip). u.trip) passage;
  keeps = ap (λ (u : ControlledTrip). u.kept) passage;
  grows = let log = ap (λ (u : ControlledTrip). length u.trip.log) passage in omega (arith, log);
  lost = λ none. ap (λ (u : ControlledTrip). u.trip) passage;
  mind = inl (refl, inl refl);
}
passes_end P (Some g) (Some h) all plan k t kept u may passage =
    let passes = reaches_last P g h all plan k t kept u t.flight refl may passage in
    record {
      journey = Journey-one plan k t u.trip g.device h.device passes.reaches;
      keeps = passes.keeps;
      grows = passes.grows;
      lost = λ none. (subst (λ o. Reaches Takes plan k t o g.device u.trip h.device) none passes.reaches).0;
      mind = ⊎_elim (λ same. inl (ap (λ g. Some (mind_of g)) same.0, inr same.1)) (λ host. inr (ap (λ mind. Some mind) host)) passes.mind;
    }
passes_end P None (Some h) all plan k t kept u may passage = absurd passage
passes_end P (Some g) None all plan k t kept u may passage = absurd passage
