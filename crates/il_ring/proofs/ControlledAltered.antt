-- A frame that is at the host of a lent ring, or is kept, has another byte than its own only if a planned hop was reached on its way.
use Rattle.std.proofs.Common.{◌≡◌, ◌≢◌, ◌∙◌, ◌⊎◌, inl, inr, ⊎_elim, ◌≤◌, ◌+◌, ◌++◌, ◌&&◌, nat_lt, nat_le, ℕ, Bool, true, false, List, [], ◌∷◌, Option, Some, None, length, refl, sym, ap, subst, arith}
use Rattle.std.specs.Prelude.{if◌then◌else◌}
use Rattle.std.proofs.lemmas.Bool.{ltb-true}
use Rattle.std.proofs.lemmas.Bool.Decides.{nat_tests}
use Rattle.il_frames.specs.Frames.{is_data}
use Rattle.il_frames.specs.declared.frame.Frame.{Frame}
use Rattle.il_device.specs.declared.device.Out.{Out}
use Rattle.il_device.specs.declared.device.Out.TheVariants.{Pass, Source}
use Rattle.il_device.specs.State.{DeviceState, risen}
use Rattle.il_device.specs.Takes.{Takes}
use Rattle.il_drive.specs.State.{device_of}
use Rattle.il_guest.specs.declared.guest.GuestOut.{GuestOut}
use Rattle.il_guest.specs.declared.guest.GuestOut.TheVariants as out
use Rattle.il_guest.specs.State.{GuestState}
use Rattle.il_ports.specs.Media.{MediumView}
use Rattle.loop_model.specs.Reach.{met}
use Rattle.il_ring.specs.declared.plan.Planned.{Planned}
use Rattle.il_ring.specs.declared.plan.PlanFault.{PlanFault}
use Rattle.il_ring.specs.declared.plan.Arrival.{Arrival}
use Rattle.il_ring.specs.declared.flight.Flight.{Flight}
use Rattle.il_ring.specs.Books.{BooksView}
use Rattle.il_frames.specs.declared.entry.Entry.{Entry}
use Rattle.il_ring.specs.Flights.{HasAltered, ended_at, hit, lost_at, sourced}
use Rattle.il_ring.specs.Journeys.{Journey, Passage, Trip, answered, trip, trip_of}
use Rattle.il_ring.specs.Lending.{GuestReaches, LastPassage, ControlledRound, ControlledTrip, books_controlled, controlled, leads, controlled_answers, controlled_home, controlled_sends, lent_home, over_lent_link}
use Rattle.il_ring.specs.Outcomes.{met_between}
use Rattle.il_ring.specs.Plans.{fault_at, hops_of, last_crossing, next_fault}
use Rattle.il_ring.specs.Rings.{RingView, devices_of}
use Rattle.il_ring.proofs.Faults.{kept_none, met_at, none_kept, risen_later, risen_within}
use Rattle.il_ring.proofs.ControlledRounds.{controlled_to_last}
use Rattle.il_ring.proofs.Journeys.{past_devices, past_guest, past_party}

-- ---- what is reached on a part of a way

outside : (a b c d hop : ℕ) → a ≤ b → c ≤ d → (nat_lt a hop && nat_le hop d) ≡ false → (nat_lt b hop && nat_le hop c) ≡ false
outside a b c d hop low high none = grind (arith, nat_tests)

narrow : (hops : List ℕ) (a b c d : ℕ) → a ≤ b → c ≤ d → met hops a d ≡ [] → met hops b c ≡ []
narrow [] a b c d low high none = refl
narrow (hop ∷ hops) a b c d low high none =
    let parts = kept_none (nat_lt a hop && nat_le hop d) hop (met hops a d) none in
    none_kept (nat_lt b hop && nat_le hop c) hop (met hops b c) (outside a b c d hop low high parts.0) (narrow hops a b c d low high parts.1)

-- is reached on the whole
pub met_wide : (hops : List ℕ) (a b c d : ℕ) → a ≤ b → c ≤ d → met hops b c ≢ [] → met hops a d ≢ []
met_wide hops a b c d low high some none = some (narrow hops a b c d low high none)

pub met_next : (plan : List Planned) (n : ℕ) → next_fault plan n ≢ None → met (hops_of plan) n (risen n) ≢ []
met_next plan n planned = by (nat_lt n last_crossing) refl
  where
    by : (early : Bool) → nat_lt n last_crossing ≡ early → met (hops_of plan) n (risen n) ≢ []
    by true early = let less = ltb-true n last_crossing early in met_at plan 0 1 n (omega (arith, less)) (omega arith) planned
    by false late = absurd (planned (ap (λ early. if early then fault_at plan (n + 1) else None) late))

-- ---- over a link

-- it was altered before, or is here
hit_altered : (fault : Option PlanFault) (f g : Flight) → hit fault f ≡ Some g → g.altered ≡ true → (f.altered ≡ true) ⊎ (fault ≢ None)
hit_altered None f g came altered = inl (ap (λ (o : Option Flight). elim o [ Some h ↦ h.altered | None ↦ true ]) came ∙ altered)
hit_altered (Some fault) f g came altered = inr (λ none. cc)

module _ (plan : List Planned) (from : ℕ) (A : Type 0) where
  -- Why a frame has another byte than its own after n crossings: A holds, or a planned hop was reached after the first `from` of them.
  abbrev Cause : ℕ → Type 0
  Cause n = A ⊎ (met (hops_of plan) from n ≢ [])

  -- the frame, if any, has its own byte, or there is a cause
  abbrev pub HasCause : ℕ → Option Flight → Type 0
  HasCause n None = Unit {0}
  HasCause n (Some f) = f.altered ≡ true → Cause n

  -- there is one, if it has another, for the frame of a trip and for the frame that is kept
  pub record Causes (u : ControlledTrip) : Type 0 where
    pub later : from ≤ u.trip.crossings
    pub within : u.trip.crossings ≤ last_crossing
    pub way : HasCause u.trip.crossings u.trip.flight
    pub kept : HasCause u.trip.crossings u.kept

  cause_more : (n : ℕ) → n ≤ last_crossing → Cause n → Cause (risen n)
  cause_more n within = ⊎_elim (λ so. inl so) (λ some. inr (met_wide (hops_of plan) from from n (risen n) (omega arith) (risen_later n within) some))

  pub kept_more : (n : ℕ) (o : Option Flight) → n ≤ last_crossing → HasCause n o → HasCause (risen n) o
  kept_more n None within way = tt
  kept_more n (Some f) within way = λ altered. cause_more n within (way altered)

  -- over a link
  pub link_more : (n : ℕ) (f g : Flight) → from ≤ n → n ≤ last_crossing → HasCause n (Some f) → hit (next_fault plan n) f ≡ Some g → g.altered ≡ true → Cause (risen n)
  link_more n f g since within way came altered =
      ⊎_elim (λ before. cause_more n within (way before)) (λ planned. inr (met_wide (hops_of plan) from n (risen n) (risen n) since (omega arith) (met_next plan n planned))) (hit_altered (next_fault plan n) f g came altered)

  module _ (t : Trip) (kept : Option Flight) (so : Causes (controlled t kept)) where
    -- one link later, with this frame on its way and that one kept
    next : (log : List Entry) (flight keeps : Option Flight) → HasCause (risen t.crossings) flight → HasCause (risen t.crossings) keeps → Causes (controlled (trip (risen t.crossings) log flight) keeps)
    next log flight keeps way kept = record { later = let up = risen_later t.crossings so.within in let low = so.later in omega (arith, up, low); within = risen_within t.crossings; way = way; kept = kept }

    still : HasCause (risen t.crossings) kept
    still = kept_more t.crossings kept so.within so.kept

    at_party : (f at : Flight) → t.flight ≡ Some f → hit (next_fault plan t.crossings) f ≡ Some at → at.altered ≡ true → Cause (risen t.crossings)
    at_party f at is came = link_more t.crossings f at so.later so.within (subst (HasCause t.crossings) is so.way) came

    passage_causes : (k : ℕ) (u : Trip) (d e : DeviceState) → Passage Takes plan k t d u e → Causes (controlled u kept)
    passage_causes k u d e passage = past_party Takes plan k t d (λ u e. Causes (controlled u kept)) (λ is. so) (λ f is gone. next (t.log ++ lost_at f k ∷ []) None kept tt still) (λ f at out e is came takes. by f at is came out) u e passage
      where
        by : (f at : Flight) → t.flight ≡ Some f → hit (next_fault plan t.crossings) f ≡ Some at → (out : Out) → Causes (controlled (answered (risen t.crossings) t.log k at out) kept)
        by f at is came (Pass g) = next t.log (Some (record at { now = g })) kept (at_party f at is came) still
        by f at is came (Source g) = next (t.log ++ ended_at at k ∷ []) (Some (sourced k g)) kept (λ clash. cc) still

    guest_causes : (k : ℕ) (g h : GuestState) (u : ControlledTrip) → GuestReaches plan k t kept t.flight g u h → Causes u
    guest_causes k g h u reaches = past_guest plan k t kept g (λ u h. Causes u) (λ is. so) (λ f is gone. next (t.log ++ lost_at f k ∷ []) None kept tt still) (λ f at out h is came takes. by f at is came out) u h reaches
      where
        by_kind : (f at : Flight) → t.flight ≡ Some f → hit (next_fault plan t.crossings) f ≡ Some at → (data_frame : Bool) (g : Frame) → Causes (controlled_sends (risen t.crossings) t.log k at data_frame kept g)
        by_kind f at is came true g = next t.log (Some (sourced k g)) (Some at) (λ clash. cc) (at_party f at is came)
        by_kind f at is came false g = next (t.log ++ ended_at at k ∷ []) (Some (sourced k g)) kept (λ clash. cc) still

        by : (f at : Flight) → t.flight ≡ Some f → hit (next_fault plan t.crossings) f ≡ Some at → (answer : GuestOut) → Causes (controlled_answers (risen t.crossings) t.log k at kept answer)
        by f at is came (out.Pass g) = next t.log (Some (record at { now = g })) kept (at_party f at is came) still
        by f at is came (out.Source g) = by_kind f at is came (is_data at.now) g
        by f at is came (out.Relay g) = next (t.log ++ ended_at at k ∷ []) kept None still tt
        by f at is came out.Stop = next (t.log ++ ended_at at k ∷ []) None kept tt still

  pub journey_causes : (k : ℕ) (t u : Trip) (kept : Option Flight) (ds es : List DeviceState) → Causes (controlled t kept) → Journey plan k t ds u es → Causes (controlled u kept)
  journey_causes k t u kept ds es so journey =
      (past_devices plan 0 (λ k t. Causes (controlled t kept)) (λ d e. Unit {0}) (λ k t u d e some so passage. (passage_causes t kept so k u d e passage, tt)) k t u ds es (omega arith) so journey).0

  pub last_causes : (k : ℕ) (t : Trip) (kept : Option Flight) (guest later : Option GuestState) (u : ControlledTrip) → Causes (controlled t kept) → LastPassage plan k t kept guest u later → Causes u
  last_causes k t kept None None u so passage = subst Causes (sym passage) so
  last_causes k t kept (Some g) (Some h) u so passage = guest_causes t kept so k g h u passage
  last_causes k t kept None (Some h) u so passage = absurd passage
  last_causes k t kept (Some g) None u so passage = absurd passage

-- ---- a round

-- over the last link, to the host
module _ (k from : ℕ) (A : Type 0) (b : BooksView) where
  abbrev Home : BooksView → Type 0
  Home c = (b.crossings ≤ c.crossings) × HasCause b.plan from A c.crossings c.lent × HasCause b.plan from A c.crossings c.kept

  home_causes : (flight : Option Flight) → from ≤ b.crossings → b.crossings ≤ last_crossing → HasCause b.plan from A b.crossings flight → HasCause b.plan from A b.crossings b.kept → Home (lent_home k b flight)
  home_causes None since within way kept = (omega arith, tt, tt)
  home_causes (Some f) since within way kept = by (hit (next_fault b.plan b.crossings) f) refl
    where
      by : (o : Option Flight) → hit (next_fault b.plan b.crossings) f ≡ o → Home (over_lent_link k (record b { crossings = risen b.crossings }) f o)
      by None came = (risen_later b.crossings within, tt, tt)
      by (Some g) came = (risen_later b.crossings within, link_more b.plan from A b.crossings f g since within way came, kept_more b.plan from A b.crossings b.kept within kept)

has_cause : (plan : List Planned) (from n : ℕ) (A : Type 0) (o : Option Flight) → HasCause plan from A n o → HasAltered o → A ⊎ (met (hops_of plan) from n ≢ [])
has_cause plan from n A o so way = subst (HasCause plan from A n) way.1 so way.2

cause_is : (plan : List Planned) (from n : ℕ) (A : Type 0) (o : Option Flight) → (HasAltered o → A) → HasCause plan from A n o
cause_is plan from n A None is = tt
cause_is plan from n A (Some f) is = λ altered. inl (is (f, refl, altered))

module _ {M : Type 0} (view : M → MediumView) (r s : RingView M) (f : Flight) (answer : Arrival) (round : ControlledRound view r f answer s) (within : r.books.crossings ≤ last_crossing) where
  abbrev Before : Type 0
  Before = (f.altered ≡ true) ⊎ HasAltered r.books.kept

  past_all : Causes r.books.plan r.books.crossings Before round.past_all
  past_all =
      let starts : Causes r.books.plan r.books.crossings Before (controlled (trip_of r.books (Some f)) r.books.kept) =
      record { later = omega arith; within = within; way = λ altered. inl (inl altered); kept = cause_is r.books.plan r.books.crossings r.books.crossings Before r.books.kept (λ way. inr way) } in
      let to_last = journey_causes r.books.plan r.books.crossings Before 1 (trip_of r.books (Some f)) round.at_last r.books.kept (r.before ++ device_of r.drive.state ∷ round.boxed) (s.before ++ device_of s.drive.state ∷ round.boxed_then) starts (controlled_to_last view r s f answer round) in
      last_causes r.books.plan r.books.crossings Before (length (devices_of r)) round.at_last r.books.kept round.guest round.guest_then round.past_all to_last round.past_last

  pub after_later : r.books.crossings ≤ round.past_all.trip.crossings
  after_later = past_all.later

  -- An altered frame that is at the host then, if a second controller controls, or is kept, went round so, or was kept before, or a planned hop was reached.
  pub controlled_altered : leads s.guest ≡ true → HasAltered s.books.lent ⊎ HasAltered s.books.kept → Before ⊎ (met_between r s ≢ [])
  controlled_altered lead =
      let b = books_controlled r.books round.past_all in
      let at_home = round.books ∙ ap (λ lead. controlled_home lead (length (devices_of r)) b round.past_all.trip.flight) lead in
      let home = subst (Home (length (devices_of r)) r.books.crossings Before b) (sym at_home) (home_causes (length (devices_of r)) r.books.crossings Before b round.past_all.trip.flight past_all.later past_all.within past_all.way past_all.kept) in
      ⊎_elim (has_cause r.books.plan r.books.crossings s.books.crossings Before s.books.lent home.1) (has_cause r.books.plan r.books.crossings s.books.crossings Before s.books.kept home.2)
