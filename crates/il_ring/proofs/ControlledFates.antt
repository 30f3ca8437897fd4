-- The log of a ring with a second controller shows the planned faults as they were planned, also while it controls.
use Rattle.std.proofs.Common.{◌≡◌, ◌≤◌, ◌++◌, ℕ, Bool, true, false, not, List, [], ◌∷◌, Option, Some, None, length, take, drop, refl, sym, ap, subst, ◌∙◌}
use Rattle.std.specs.Prelude.{◌-◌, if◌then◌else◌}
use Rattle.std.specs.List.{All}
use Rattle.std.proofs.lemmas.Bool.{not-false}
use Rattle.std.proofs.lemmas.List.Elements.{All-append, All-cons, All-drop, All-take}
use Rattle.il_frames.specs.declared.entry.Entry.{Entry}
use Rattle.il_frames.specs.declared.frame.Frame.{Frame}
use Rattle.il_frames.specs.Frames.{is_data}
use Rattle.il_frames.specs.Messages.{message_of}
use Rattle.il_device.specs.State.{risen}
use Rattle.il_guest.specs.declared.control.Control.{Control}
use Rattle.il_guest.specs.declared.control.Control.TheVariants as control
use Rattle.il_guest.specs.declared.control.Place.TheVariants as place
use Rattle.il_guest.specs.declared.guest.GuestOut.{GuestOut}
use Rattle.il_guest.specs.declared.guest.GuestOut.TheVariants.{Pass, Source, Relay, Stop}
use Rattle.il_guest.specs.State.{GuestState, is_leading}
use Rattle.il_guest.specs.Takes.{GuestTakes, answer_under, guest_answer, passed_by, takes_control}
use Rattle.il_guest.proofs.GuestLaws.{PassesIt, leads_then, leads-until-ifc, passes-host, passes-ifc}
use Rattle.il_frames.specs.NamedFrames.{is_ifc}
use Rattle.il_ring.specs.declared.flight.Flight.{Flight}
use Rattle.il_ring.specs.Plans.{next_fault, last_crossing}
use Rattle.il_ring.specs.Flights.{hit, lost_at, ended_at}
use Rattle.il_ring.specs.Books.{BooksView}
use Rattle.il_ring.specs.Fates.{IsByPlan, GoesByPlan, HoldsByPlan, ShowsPlan}
use Rattle.il_ring.specs.Journeys.{Trip, trip}
use Rattle.il_ring.specs.Lending.{ControlledTrip, LastPassage, before_last, books_controlled, controlled, controlled_answers, controlled_home, controlled_sends, lent_home, lent_lost, over_lent_link}
use Rattle.il_ring.proofs.Faults.{risen_later, risen_within}
use Rattle.il_ring.proofs.Journeys.{past_guest}
use Rattle.il_ring.proofs.Fates.{GoesSo, PassesSo, ended_so, hit_so, home_so, passes_so, sourced_way, told_noted, told_on, way_passed}

-- ---- a frame that it passes on

-- if it passes a frame it passes it as every device does
pub leads_not : (c : Control) → is_leading c ≡ false → c ≡ control.Host
leads_not control.Host none = refl
leads_not (control.Rounds p) none = cc
leads_not control.Silent none = cc

pub passes_under : (g h : GuestState) (f : Frame) (out : GuestOut) → h.control ≡ control.Host → GuestTakes g f out h → PassesIt g f out h
passes_under g h f out host takes = by_lead (is_leading g.control) refl (sym (leads-until-ifc g h f out takes) ∙ ap is_leading host)
  where
    by_lead : (lead : Bool) → is_leading g.control ≡ lead → leads_then g f ≡ false → PassesIt g f out h
    by_lead true at none = passes-ifc g h f out at (not-false (is_ifc (message_of f)) (sym (ap (λ lead. if lead then not (is_ifc (message_of f)) else takes_control g f) at) ∙ none)) takes
    by_lead false at none = passes-host g h f out (leads_not g.control at) (sym (ap (λ lead. if lead then not (is_ifc (message_of f)) else takes_control g f) at) ∙ none) takes

same_passed : (f g : Frame) → Pass f ≡ Pass g → f ≡ g
same_passed f g e = ap (λ out. elim out [ Pass h ↦ h | _ ↦ f ]) e

guest_passes_so : (g h : GuestState) (f at : Frame) (out : GuestOut) → GuestTakes g f out h → out ≡ Pass at → PassesSo f at
guest_passes_so g h f at out takes is = by_control h.control refl (sym takes.answer ∙ is)
  where
    answer_is : guest_answer g f ≡ answer_under h.control g f
    answer_is = ap (λ (s : GuestState). answer_under s.control g f) (sym takes.state)

    by_control : (c : Control) → h.control ≡ c → guest_answer g f ≡ Pass at → PassesSo f at
    by_control control.Host host passes =
        let it = passes_under g h f out host takes in
        let same : passed_by g.device f ≡ at = same_passed (passed_by g.device f) at (sym it.answer ∙ is) in
        subst (PassesSo f) same (passes_so g.device h.device f (passed_by g.device f) it.device)
    by_control (control.Rounds (place.Command c)) in_ passes = let clash = sym (answer_is ∙ ap (λ c. answer_under c g f) in_) ∙ passes in cc
    by_control (control.Rounds (place.Ready c)) in_ passes = let clash = sym (answer_is ∙ ap (λ c. answer_under c g f) in_) ∙ passes in cc
    by_control (control.Rounds (place.Start a)) in_ passes = let clash = sym (answer_is ∙ ap (λ c. answer_under c g f) in_) ∙ passes in cc
    by_control (control.Rounds (place.Held a d)) in_ passes = let clash = sym (answer_is ∙ ap (λ c. answer_under c g f) in_) ∙ passes in cc
    by_control (control.Rounds (place.Relayed a d)) in_ passes = let clash = sym (answer_is ∙ ap (λ c. answer_under c g f) in_) ∙ passes in cc
    by_control control.Silent in_ passes = let clash = sym (answer_is ∙ ap (λ c. answer_under c g f) in_) ∙ passes in cc

-- ---- a trip past it

-- these books show it after the trip, with what is kept, and so does the frame that is on its way
pub record TellsControlled (b : BooksView) (u : ControlledTrip) : Type 0 where
  pub told : ShowsPlan (books_controlled b u)
  pub within : u.trip.crossings ≤ last_crossing
  pub way : HoldsByPlan b.plan b.begun u.trip.crossings u.trip.flight

-- with another frame kept, or none
told_keeping : (b : BooksView) (kept : Option Flight) → HoldsByPlan b.plan b.begun b.crossings kept → ShowsPlan b → ShowsPlan (record b { kept = kept })
told_keeping b kept ways told = record { begun = told.begun; entries = told.entries; held = told.held; lent = told.lent; kept = ways }

module _ (b : BooksView) where
  abbrev Told : ℕ → List Entry → Option Flight → Type 0
  Told n log kept = ShowsPlan (books_controlled b (controlled (trip n log None) kept))

  noted : (n k : ℕ) (log : List Entry) (kept : Option Flight) (f : Flight) → Told n log kept → GoesByPlan b.plan b.begun n f → Told n (log ++ ended_at f k ∷ []) kept
  noted n k log kept f told way = told_noted (books_controlled b (controlled (trip n log None) kept)) (ended_at f k) (ended_so b.plan b.begun n k f way) told

  sends_told : (n k : ℕ) (log : List Entry) (f : Flight) (keeps : Bool) (kept : Option Flight) (g : Frame) → n ≤ last_crossing → Told n log kept → GoesByPlan b.plan b.begun n f → TellsControlled b (controlled_sends n log k f keeps kept g)
  sends_told n k log f true kept g within told way = record { told = told_keeping (books_controlled b (controlled (trip n log None) kept)) (Some f) way told; within = within; way = sourced_way b.plan b.begun n k g }
  sends_told n k log f false kept g within told way = record { told = noted n k log kept f told way; within = within; way = sourced_way b.plan b.begun n k g }

  answers_told : (n k : ℕ) (log : List Entry) (f : Flight) (kept : Option Flight) (out : GuestOut) → n ≤ last_crossing → Told n log kept → GoesByPlan b.plan b.begun n f → ((g : Frame) → out ≡ Pass g → PassesSo f.now g) → TellsControlled b (controlled_answers n log k f kept out)
  answers_told n k log f kept (Pass g) within told way passes = record { told = told; within = within; way = way_passed b.plan b.begun n f g (passes g refl) way }
  answers_told n k log f kept (Source g) within told way passes = sends_told n k log f (is_data f.now) kept g within told way
  answers_told n k log f kept (Relay g) within told way passes =
      record { told = told_keeping (books_controlled b (controlled (trip n (log ++ ended_at f k ∷ []) None) kept)) None tt (noted n k log kept f told way); within = within; way = told.kept }
  answers_told n k log f kept Stop within told way passes = record { told = noted n k log kept f told way; within = within; way = tt }

  pub last_known : (k : ℕ) (t : Trip) (kept : Option Flight) (guest later : Option GuestState) (u : ControlledTrip) → TellsControlled b (controlled t kept) → LastPassage b.plan k t kept guest u later → TellsControlled b u
  last_known k t kept None None u tells passage = subst (TellsControlled b) (sym passage) tells
  last_known k t kept None (Some h) u tells passage = absurd passage
  last_known k t kept (Some g) None u tells passage = absurd passage
  last_known k t kept (Some g) (Some h) u tells passage =
      let later = told_on (books_controlled b (controlled t kept)) (risen t.crossings) (risen_later t.crossings tells.within) tells.told in
      let way : (f : Flight) (o : Option Flight) → t.flight ≡ Some f → hit (next_fault b.plan t.crossings) f ≡ o → GoesSo b.plan b.begun (risen t.crossings) f o =
      λ f o is came. subst (GoesSo b.plan b.begun (risen t.crossings) f) came
      (hit_so b.plan b.begun t.crossings f (next_fault b.plan t.crossings) tells.told.begun tells.within refl (subst (HoldsByPlan b.plan b.begun t.crossings) is tells.way)) in
      past_guest b.plan k t kept g (λ u h. TellsControlled b u) (λ is. tells)
      (λ f is gone. record { told = told_noted (books_controlled b (controlled (trip (risen t.crossings) t.log None) kept)) (lost_at f k) (way f None is gone) later; within = risen_within t.crossings; way = tt })
      (λ f at out h is came takes. answers_told (risen t.crossings) k t.log at kept out (risen_within t.crossings) later (way f (Some at) is came) (λ f same. guest_passes_so g h at.now f out takes same)) u h passage

-- ---- at the host

All_before_last : (P : Entry → Type 0) (e : Entry) (log : List Entry) → P e → All P log → All P (before_last e log)
All_before_last P e log there all =
    All-append P (take (length log - 1) log) (e ∷ drop (length log - 1) log) (All-take P (length log - 1) log all) (All-cons P e (drop (length log - 1) log) there (All-drop P (length log - 1) log all))

lost_told : (k : ℕ) (b : BooksView) → ShowsPlan b → ShowsPlan (lent_lost k b)
lost_told k b told = by b.kept told.kept
  where
    by : (kept : Option Flight) → HoldsByPlan b.plan b.begun b.crossings kept → ShowsPlan (lent_lost k (record b { kept = kept }))
    by None way = record { begun = told.begun; entries = told.entries; held = tt; lent = tt; kept = tt }
    by (Some f) way = record {
      begun = told.begun;
      entries = All_before_last (IsByPlan b.plan b.begun b.crossings) (ended_at f k) b.log (ended_so b.plan b.begun b.crossings k f way) told.entries;
      held = tt;
      lent = tt;
      kept = tt;
    }

lent_over_told : (k : ℕ) (b : BooksView) (f : Flight) (o : Option Flight) → GoesSo b.plan b.begun b.crossings f o → ShowsPlan b → ShowsPlan (over_lent_link k b f o)
lent_over_told k b f None lost told = lost_told k (record b { log = b.log ++ lost_at f 0 ∷ [] }) (told_noted b (lost_at f 0) lost told)
lent_over_told k b f (Some g) way told = record { begun = told.begun; entries = told.entries; held = tt; lent = way; kept = told.kept }

lent_home_told : (k : ℕ) (b : BooksView) (flight : Option Flight) → b.crossings ≤ last_crossing → HoldsByPlan b.plan b.begun b.crossings flight → ShowsPlan b → ShowsPlan (lent_home k b flight)
lent_home_told k b None within way told = lost_told k b told
lent_home_told k b (Some f) within way told =
    let later : ShowsPlan (record b { crossings = risen b.crossings }) = told_on b (risen b.crossings) (risen_later b.crossings within) told in
    let goes = hit_so b.plan b.begun b.crossings f (next_fault b.plan b.crossings) told.begun within refl way in
    lent_over_told k (record b { crossings = risen b.crossings }) f (hit (next_fault b.plan b.crossings) f) goes later

pub controlled_home_told : (lead : Bool) (k : ℕ) (b : BooksView) (u : ControlledTrip) → TellsControlled b u → ShowsPlan (controlled_home lead k (books_controlled b u) u.trip.flight)
controlled_home_told true k b u tells = lent_home_told k (books_controlled b u) u.trip.flight tells.within tells.way tells.told
controlled_home_told false k b u tells = home_so (books_controlled b u) u.trip.flight tells.within tells.way tells.told
