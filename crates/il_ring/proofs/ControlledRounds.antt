-- A round on a ring whose second controller passes what comes to it is a round like every other.
use Rattle.std.proofs.Common.{◌≡◌, ◌⊎◌, inl, inr, ⊎_elim, ◌+◌, ◌++◌, ◌&&◌, ℕ, Bool, true, false, List, [], ◌∷◌, Option, Some, None, option_map, length, refl, sym, ap, ap₂, subst, ◌∙◌, arith, length-append}
use Rattle.std.specs.Prelude.{is_some}
use Rattle.il_frames.specs.declared.frame.Frame.{Frame}
use Rattle.il_frames.specs.declared.entry.Entry.{Entry}
use Rattle.il_frames.specs.Frames.{is_data}
use Rattle.il_frames.specs.Messages.{message_of}
use Rattle.il_device.specs.State.{DeviceState}
use Rattle.il_device.specs.Takes.{Takes}
use Rattle.il_ports.specs.Media.{MediumView}
use Rattle.il_drive.specs.State.{DriveView, device_of}
use Rattle.il_frames.specs.NamedFrames.{ifc, is_frame}
use Rattle.il_guest.specs.Frames.{tct}
use Rattle.il_guest.specs.declared.control.Control.{Control}
use Rattle.il_guest.specs.declared.control.Control.TheVariants as control
use Rattle.il_guest.specs.declared.guest.GuestOut.{GuestOut}
use Rattle.il_guest.specs.State.{GuestState, is_leading}
use Rattle.il_guest.specs.Takes.{GuestTakes, is_tct}
use Rattle.il_guest.proofs.GuestLaws.{PassesIt, passes-host, passes-ifc}
use Rattle.il_ring.specs.declared.plan.Planned.{Planned}
use Rattle.il_ring.specs.declared.plan.PlanFault.{PlanFault}
use Rattle.il_ring.specs.declared.plan.Arrival.{Arrival}
use Rattle.il_ring.specs.declared.flight.Flight.{Flight}
use Rattle.il_ring.specs.Flights.{sourced, hit, lost_at}
use Rattle.il_ring.specs.Books.{BooksView}
use Rattle.il_ring.specs.Guests.{GuestMind, guest_mind, guest_devices, IsUnderHost}
use Rattle.il_ring.specs.Journeys.{Trip, trip, trip_of, Passage, Journey, DriveTakes}
use Rattle.il_ring.specs.Outcomes.{Obeys}
use Rattle.il_ring.specs.Lending.{ControlledRound, TakesBack, as_host, HostKeeps, books_controlled, last_talks, leads, controlled_home, lent_lost, taken_back, host_leads}
use Rattle.il_ring.specs.Rings.{RingView, Round, devices_of, home, books_at, arrived, arriving}
use Rattle.il_ring.proofs.EndsHome.{any_each}
use Rattle.il_ring.proofs.Handing.{OnWay, hands_sent, hit_lacks, journey_lacks, tct_never}
use Rattle.il_ring.proofs.Journeys.{Journey-append}
use Rattle.il_ring.proofs.Lendings.{PassesAll, PassesEnd, EndPasses, passes_end}
use Rattle.il_ring.proofs.PassKinds.{Is, Any, plain_passes}
use Rattle.il_ring.proofs.Passes.{goes_past, plain_hit}
use Rattle.il_ring.proofs.RoundCounts.{reached_drive}

-- ---- up to the second controller

pub to_last : {M : Type 0} (view : M → MediumView) (plan : List Planned) (t u v w : Trip) (before before_then boxed boxed_then : List DeviceState) (drive drive_then : DriveView M) → Journey plan 1 t before u before_then
    → Passage (DriveTakes view) plan (length before + 1) u drive v drive_then → Journey plan (length before + 2) v boxed w boxed_then
    → Journey plan 1 t (before ++ device_of drive.state ∷ boxed) w (before_then ++ device_of drive_then.state ∷ boxed_then)
to_last view plan t u v w before before_then boxed boxed_then drive drive_then first middle last =
    let at : Passage Takes plan (length before + 1) u (device_of drive.state) v (device_of drive_then.state) = reached_drive view plan (length before + 1) u u.flight drive drive_then v middle in
    let next : length before + 2 ≡ length before + 1 + 1 = omega arith in
    Journey-append plan 1 (length before + 1) t u w before before_then (device_of drive.state ∷ boxed) (device_of drive_then.state ∷ boxed_then) (omega arith) first
    (v, at, subst (λ k. Journey plan k v boxed w boxed_then) next last)

-- an IFC comes there as such, with no entry, or was lost, with one
pub record IfcAtLast (log : List Entry) (t : Trip) : Type 0 where
  pub comes : OnWay (λ f. f ≡ ifc) t.flight
  pub ended : (t.log ≡ log) ⊎ ((t.flight ≡ None) × (length t.log ≡ length log + 1))

pub ifc_at_last : (plan : List Planned) (n : ℕ) (log : List Entry) (ds es : List DeviceState) (t : Trip) → Journey plan 1 (trip n log (Some (sourced 0 ifc))) ds t es → IfcAtLast log t
ifc_at_last plan n log ds es t journey = ⊎_elim
    (λ on. record {
      comes = subst (λ (t : Trip). OnWay (λ f. f ≡ ifc) t.flight) (sym on.trip_is) on.is_now;
      ended = inl (ap (λ (t : Trip). t.log) on.trip_is);
    })
    (λ lost. record {
      comes = subst (λ (t : Trip). OnWay (λ f. f ≡ ifc) t.flight) (sym lost.trip_is) tt;
      ended = inr (
        ap (λ (t : Trip). t.flight) lost.trip_is,
        let len = length-append log (lost_at (sourced 0 ifc) (1 + lost.reached) ∷ []) in
            let is = ap (λ (t : Trip). length t.log) lost.trip_is in
            omega (arith, len, is),
      );
    })
    (goes_past (Is ifc) Any (Obeys (message_of ifc)) (plain_passes ifc refl) plan 1 n log (sourced 0 ifc) ds es t (any_each 1 ds) refl journey)

-- ---- which frames a second controller passes

-- while the host controls: those that hand nothing over, and all if it does not talk

pub hands_passes : (g h : GuestState) → g.control ≡ control.Host → PassesAll (λ f. is_tct (message_of f) ≡ false) g h
hands_passes g h host = record {
  rule = λ f out other takes. passes-host g h f out host (rw other refl) takes;
  stays = λ fault f o other is. hit_lacks is_tct tct_never fault f o other is;
}

and_not : (a : Bool) → (a && false) ≡ false
and_not true = refl
and_not false = refl

pub silent_passes : (g h : GuestState) → g.control ≡ control.Host → g.device.roles.talks ≡ false → PassesAll (λ f. Unit {0}) g h
silent_passes g h host silent = record {
  rule = λ f out any takes. passes-host g h f out host (ap (λ talks. is_tct (message_of f) && talks) silent ∙ and_not (is_tct (message_of f))) takes;
  stays = λ fault f o any is. on_way o;
}
  where
    on_way : (o : Option Flight) → OnWay (λ f. Unit {0}) o
    on_way None = tt
    on_way (Some f) = tt

-- IFC always
pub ifc_passes : (g h : GuestState) → PassesAll (λ f. f ≡ ifc) g h
ifc_passes g h = record {
  rule = λ f out is takes. subst (λ f. PassesIt g f out h) (sym is) (by_control g.control refl out (subst (λ f. GuestTakes g f out h) is takes));
  stays = λ fault f o is hits. by_fault fault f o is hits;
}
  where
    by_control : (c : Control) → g.control ≡ c → (out : GuestOut) → GuestTakes g ifc out h → PassesIt g ifc out h
    by_control control.Host at out takes = passes-host g h ifc out at refl takes
    by_control (control.Rounds p) at out takes = passes-ifc g h ifc out (ap is_leading at) refl takes
    by_control control.Silent at out takes = passes-ifc g h ifc out (ap is_leading at) refl takes

    by_fault : (fault : Option PlanFault) (f : Flight) (o : Option Flight) → f.now ≡ ifc → hit fault f ≡ o → OnWay (λ f. f ≡ ifc) o
    by_fault None f o is hits = subst (OnWay (λ f. f ≡ ifc)) hits is
    by_fault (Some fault) f o is hits = subst (OnWay (λ f. f ≡ ifc)) (sym (plain_hit fault f (ap is_data is)) ∙ hits) tt

-- ---- a round

host_same : (m : Option GuestMind) → IsUnderHost m → option_map as_host m ≡ m
host_same None under = refl
host_same (Some mind) under = ap (λ c. Some (record mind { control = c })) (sym under)

pub not_controlled : (m : Option GuestMind) → IsUnderHost m → leads m ≡ false
not_controlled None under = refl
not_controlled (Some mind) under = ap is_leading under

pub controlled_under : (m : Option GuestMind) → leads m ≡ false → IsUnderHost m
controlled_under None none = tt
controlled_under (Some mind) none = by_control mind.control refl
  where
    by_control : (c : Control) → mind.control ≡ c → mind.control ≡ control.Host
    by_control control.Host at = at
    by_control (control.Rounds p) at = let clash = sym (ap is_leading at) ∙ none in cc
    by_control control.Silent at = let clash = sym (ap is_leading at) ∙ none in cc

controlled_no_more : (m : Option GuestMind) → leads (option_map as_host m) ≡ false
controlled_no_more None = refl
controlled_no_more (Some mind) = refl

-- if there is no second controller the party does not matter
end_at : (plan : List Planned) (j k : ℕ) (t u : Trip) (guest later : Option GuestState) → ((g : GuestState) → guest ≡ Some g → k ≡ j) → Journey plan k t (guest_devices guest) u (guest_devices later) → Journey plan j t (guest_devices guest) u (guest_devices later)
end_at plan j k t u None None same journey = journey
end_at plan j k t u None (Some h) same journey = absurd journey
end_at plan j k t u (Some g) later same journey = subst (λ k. Journey plan k t (guest_devices (Some g)) u (guest_devices later)) (same g refl) journey

module _ {M : Type 0} (view : M → MediumView) (r s : RingView M) (f : Flight) (answer : Arrival) (round : ControlledRound view r f answer s) where
  pub controlled_to_last : Journey r.books.plan 1 (trip_of r.books (Some f)) (r.before ++ device_of r.drive.state ∷ round.boxed) round.at_last (s.before ++ device_of s.drive.state ∷ round.boxed_then)
  controlled_to_last = to_last view r.books.plan (trip_of r.books (Some f)) round.at_drive round.past_drive round.at_last r.before s.before round.boxed round.boxed_then r.drive s.drive round.to_drive round.at round.from_drive

  pub controlled_party : (g : GuestState) → round.guest ≡ Some g → length (devices_of r) ≡ length r.before + 2 + length round.boxed
  controlled_party g is =
      let all = length-append r.before (device_of r.drive.state ∷ r.after) in
      let after = ap length round.after ∙ length-append round.boxed (guest_devices round.guest) in
      let one : length (guest_devices round.guest) ≡ 1 = ap (λ guest. length (guest_devices guest)) is in
      omega (arith, all, after, one)

  -- as it passes what comes to it
  module _ (P : Frame → Type 0) (all : EndPasses P round.guest round.guest_then) (may : OnWay P round.at_last.flight) where
    pub controlled_end : PassesEnd r.books.plan (length (devices_of r)) round.at_last r.books.kept round.guest round.past_all round.guest_then
    controlled_end = passes_end P round.guest round.guest_then all r.books.plan (length (devices_of r)) round.at_last r.books.kept round.past_all may round.past_last

    controlled_from_drive : Journey r.books.plan (length r.before + 2) round.past_drive r.after round.past_all.trip s.after
    controlled_from_drive =
        let last = end_at r.books.plan (length r.before + 2 + length round.boxed) (length (devices_of r)) round.at_last round.past_all.trip round.guest round.guest_then controlled_party controlled_end.journey in
        let joined = Journey-append r.books.plan (length r.before + 2) (length r.before + 2 + length round.boxed) round.past_drive round.at_last round.past_all.trip round.boxed round.boxed_then (guest_devices round.guest) (guest_devices round.guest_then) refl round.from_drive last in
        subst (λ ds. Journey r.books.plan (length r.before + 2) round.past_drive ds round.past_all.trip s.after) (sym round.after)
        (subst (λ es. Journey r.books.plan (length r.before + 2) round.past_drive (round.boxed ++ guest_devices round.guest) round.past_all.trip es) (sym round.after_then) joined)

    -- the frames that stand as on a lent ring are as before
    controlled_books : books_controlled r.books round.past_all ≡ books_at r.books round.past_all.trip
    controlled_books = ap (λ kept. record (books_at r.books round.past_all.trip) { kept = kept }) controlled_end.keeps

    -- the host controls then, or nothing came home
    abbrev pub IsHome : Type 0
    IsHome = (leads s.guest ≡ false) ⊎ ((round.past_all.trip.flight ≡ None) × (r.books.lent ≡ None) × (r.books.kept ≡ None))

    lost_home : (k : ℕ) (b : BooksView) (lead : Bool) (o : Option Flight) → o ≡ None → b.lent ≡ None → b.kept ≡ None → controlled_home lead k b o ≡ home b o
    lost_home k b false o is lent kept = refl
    lost_home k b true None is lent kept = ap₂ (λ lent kept. lent_lost k (record b { lent = lent; kept = kept })) lent kept ∙ ap₂ (λ lent kept. record b { held = None; lent = lent; kept = kept }) (sym lent) (sym kept)
    lost_home k b true (Some g) is lent kept = let clash = is in cc

    controlled_books_home : IsHome → s.books ≡ home (books_at (record r.books { held = r.books.held }) round.past_all.trip) round.past_all.trip.flight
    controlled_books_home (inl host) =
        round.books ∙ ap (λ lead. controlled_home lead (length (devices_of r)) (books_controlled r.books round.past_all) round.past_all.trip.flight) host
        ∙ ap (λ b. home b round.past_all.trip.flight) controlled_books
    controlled_books_home (inr lost) =
        round.books ∙ ap (λ b. controlled_home (leads s.guest) (length (devices_of r)) b round.past_all.trip.flight) controlled_books
        ∙ lost_home (length (devices_of r)) (books_at r.books round.past_all.trip) (leads s.guest) round.past_all.trip.flight lost.0 lost.1 lost.2

    -- whatever it has in mind
    pub controlled_round : (m : Option GuestMind) → IsHome → Round view (record r { guest = m }) r.books.held f answer (record s { guest = m })
    controlled_round m is = record {
      at_drive = round.at_drive;
      past_drive = round.past_drive;
      past_all = round.past_all.trip;
      to_drive = round.to_drive;
      at = round.at;
      from_drive = controlled_from_drive;
      guest = refl;
      books = controlled_books_home is;
      answer_is = round.answer_is;
    }

    -- under the host
    pub controlled_host_round : IsUnderHost r.guest → Round view r r.books.held f answer s
    controlled_host_round under =
        let same : s.guest ≡ r.guest =
        round.mind_then
        ∙ ⊎_elim (λ same. same.0 ∙ sym round.mind)
        (λ host. host ∙ ap (option_map as_host) (sym round.mind) ∙ host_same r.guest under) controlled_end.mind in
        subst (λ m. Round view r r.books.held f answer (record s { guest = m })) (sym same) (controlled_round r.guest (inl (ap leads same ∙ not_controlled r.guest under)))

-- ---- a frame of the host, or the one that is held

last_of : (ds : List DeviceState) (d : DeviceState) → last_talks (ds ++ d ∷ []) ≡ d.roles.talks
last_of [] d = refl
last_of (x ∷ []) d = refl
last_of (x ∷ y ∷ ds) d = last_of (y ∷ ds) d

ends_hands : (m : Option GuestMind) (guest later : Option GuestState) → m ≡ guest_mind guest → IsUnderHost m → EndPasses (λ f. is_tct (message_of f) ≡ false) guest later
ends_hands m None later is under = tt
ends_hands m (Some g) None is under = tt
ends_hands m (Some g) (Some h) is under = hands_passes g h (subst IsUnderHost is under)

ends_silent : (m : Option GuestMind) (guest later : Option GuestState) (boxed after : List DeviceState) → m ≡ guest_mind guest → IsUnderHost m → after ≡ boxed ++ guest_devices guest → (is_some m && last_talks after) ≡ false → EndPasses (λ f. Unit {0}) guest later
ends_silent m None later boxed after is under at none = tt
ends_silent m (Some g) None boxed after is under at none = tt
ends_silent m (Some g) (Some h) boxed after is under at none =
    let silent : last_talks after ≡ false = ap (λ m. is_some m && last_talks after) (sym is) ∙ none in
    silent_passes g h (subst IsUnderHost is under) (sym (last_of boxed g.device) ∙ ap last_talks (sym at) ∙ silent)

pub ends_ifc : (guest later : Option GuestState) → EndPasses (λ f. f ≡ ifc) guest later
ends_ifc None later = tt
ends_ifc (Some g) None = tt
ends_ifc (Some g) (Some h) = ifc_passes g h

pub on_way_any : (o : Option Flight) → OnWay (λ f. Unit {0}) o
on_way_any None = tt
on_way_any (Some f) = tt

module _ {M : Type 0} (view : M → MediumView) (r s : RingView M) (f : Flight) (answer : Arrival) (round : ControlledRound view r f answer s) where
  pub controlled_hands : is_tct (message_of f.now) ≡ false → IsUnderHost r.guest → Round view r r.books.held f answer s
  controlled_hands none under =
      let all = ends_hands r.guest round.guest round.guest_then round.mind under in
      let at = journey_lacks is_tct tct_never r.books.plan 1 (trip_of r.books (Some f)) round.at_last (r.before ++ device_of r.drive.state ∷ round.boxed) (s.before ++ device_of s.drive.state ∷ round.boxed_then) (omega arith) none (controlled_to_last view r s f answer round) in
      controlled_host_round view r s f answer round (λ f. is_tct (message_of f) ≡ false) all at under

  pub controlled_kept : (frame : Frame) → f ≡ sourced 0 frame → HostKeeps r frame → Round view r r.books.held f answer s
  controlled_kept frame is keeps = by_frame (is_frame frame tct) refl keeps.hands
    where
      by_frame : (hands : Bool) → is_frame frame tct ≡ hands → (hands && (is_some r.guest && last_talks r.after)) ≡ false → Round view r r.books.held f answer s
      by_frame false other none = controlled_hands (hands_sent frame f is other) keeps.host
      by_frame true other none =
          controlled_host_round view r s f answer round (λ f. Unit {0}) (ends_silent r.guest round.guest round.guest_then round.boxed r.after round.mind keeps.host round.after none) (on_way_any round.at_last.flight) keeps.host

-- ---- IFC, also while a second controller controls

host_twice : (m : Option GuestMind) → option_map as_host (option_map as_host m) ≡ option_map as_host m
host_twice None = refl
host_twice (Some mind) = refl

module _ {M : Type 0} (view : M → MediumView) (r s : RingView M) (answer : Arrival) (round : ControlledRound view (taken_back r) (sourced 0 ifc) answer s) where
  ifc_comes : IfcAtLast (taken_back r).books.log round.at_last
  ifc_comes = ifc_at_last (taken_back r).books.plan (taken_back r).books.crossings (taken_back r).books.log (r.before ++ device_of r.drive.state ∷ round.boxed) (s.before ++ device_of s.drive.state ∷ round.boxed_then) round.at_last
      (controlled_to_last view (taken_back r) s (sourced 0 ifc) answer round)

  ifc_end : PassesEnd (taken_back r).books.plan (length (devices_of r)) round.at_last None round.guest round.past_all round.guest_then
  ifc_end = controlled_end view (taken_back r) s (sourced 0 ifc) answer round (λ f. f ≡ ifc) (ends_ifc round.guest round.guest_then) ifc_comes.comes

  abbrev minded : Option GuestMind → Option GuestMind
  minded m = option_map as_host m

  by_round : (minded s.guest ≡ minded r.guest) → ((leads s.guest ≡ false) ⊎ ((round.past_all.trip.flight ≡ None) × ((taken_back r).books.lent ≡ None) × ((taken_back r).books.kept ≡ None))) → Round view (host_leads (taken_back r)) r.books.held (sourced 0 ifc) answer (host_leads s)
  by_round same at_home =
      subst (λ m. Round view (host_leads (taken_back r)) r.books.held (sourced 0 ifc) answer (record s { guest = m })) (sym same)
      (controlled_round view (taken_back r) s (sourced 0 ifc) answer round (λ f. f ≡ ifc) (ends_ifc round.guest round.guest_then) ifc_comes.comes (minded r.guest) at_home)

  by_mind : ((guest_mind round.guest_then ≡ guest_mind round.guest) × ((round.guest ≡ None) ⊎ (round.past_all.trip.flight ≡ None))) ⊎ (guest_mind round.guest_then ≡ minded (guest_mind round.guest)) → TakesBack view r ifc answer s
  by_mind (inl (same, inl none)) =
      let nobody : s.guest ≡ None = round.mind_then ∙ same ∙ ap guest_mind none in
      record {
        round = by_round (ap minded (nobody ∙ sym (round.mind ∙ ap guest_mind none))) (inl (ap leads nobody));
        mind = inl (ap (λ m. record s { guest = m }) (nobody ∙ sym (ap minded nobody)));
      }
  by_mind (inl (same, inr lost)) =
      let as_before : s.guest ≡ r.guest = round.mind_then ∙ same ∙ sym round.mind in
      record {
        round = by_round (ap minded as_before) (inr (lost, refl, refl));
        mind = inr (as_before, round.answer_is ∙ ap (λ o. arrived (arriving r.books.plan round.past_all.trip.crossings o)) lost);
      }
  by_mind (inr host) =
      let back : s.guest ≡ minded r.guest = round.mind_then ∙ host ∙ ap minded (sym round.mind) in
      record {
        round = by_round (ap minded back ∙ host_twice r.guest) (inl (ap leads back ∙ controlled_no_more r.guest));
        mind = inl (ap (λ m. record s { guest = m }) (back ∙ sym (host_twice r.guest) ∙ sym (ap minded back)));
      }

  pub back_taken : TakesBack view r ifc answer s
  back_taken = by_mind ifc_end.mind

pub taken_round : {M : Type 0} (view : M → MediumView) (r s : RingView M) (frame : Frame) (flight : Flight) (answer : Arrival) → flight ≡ sourced 0 frame → frame ≡ ifc → ControlledRound view (taken_back r) flight answer s → TakesBack view r frame answer s
taken_round view r s frame flight answer sent is round =
    subst (λ f. TakesBack view r f answer s) (sym is) (back_taken view r s answer (subst (λ f. ControlledRound view (taken_back r) f answer s) (sent ∙ ap (sourced 0) is) round))

-- if the host controls a frame other than TCT hands control to nobody
pub host_keeps : {M : Type 0} (r : RingView M) (f : Frame) → IsUnderHost r.guest → is_frame f tct ≡ false → HostKeeps r f
host_keeps r f host other = record { host = host; hands = ap (λ hands. hands && (is_some r.guest && last_talks r.after)) other }
