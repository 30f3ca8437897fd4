-- What a round adds to the counts on a ring with a second controller: links, and frames that came to each device. The frame goes past the
-- devices, past the second controller and over the last link, and what is under way then counts as it would end.
use Rattle.std.proofs.Common.{◌≡◌, ◌≤◌, ◌<◌, ◌+◌, ◌++◌, ◌⊎◌, inl, inr, ⊎_elim, ℕ, zero, suc, Bool, true, false, cond, List, [], ◌∷◌, Option, Some, None, sum_by, count_by, length, refl, sym, ap, ap₂, subst, ◌∙◌, arith, append-nil, append_assoc, length-append}
use Rattle.std.specs.Prelude.{if◌then◌else◌}
use Rattle.std.proofs.lemmas.List.Sums.{sum_by-append, sum_by_push}
use Rattle.il_frames.specs.declared.frame.Frame.{Frame}
use Rattle.il_frames.specs.declared.entry.Entry.{Entry}
use Rattle.il_frames.specs.declared.entry.Outcome.TheVariants as outcome
use Rattle.il_frames.specs.Frames.{is_data}
use Rattle.il_frames.specs.Messages.{message_of}
use Rattle.il_frames.specs.NamedFrames.{entry, is_frame, is_ifc, nrd}
use Rattle.il_device.specs.State.{DeviceState, risen, risen_by}
use Rattle.il_drive.specs.State.{device_of}
use Rattle.il_ports.specs.Media.{MediumView}
use Rattle.il_guest.specs.declared.control.Control.{Control}
use Rattle.il_guest.specs.declared.control.Control.TheVariants as control
use Rattle.il_guest.specs.declared.control.Place.{Place}
use Rattle.il_guest.specs.declared.control.Place.TheVariants as place
use Rattle.il_guest.specs.declared.guest.GuestOut.{GuestOut}
use Rattle.il_guest.specs.declared.guest.GuestOut.TheVariants as reply
use Rattle.il_guest.specs.State.{GuestState, is_leading}
use Rattle.il_guest.specs.Steps.{expecting, out_of}
use Rattle.il_guest.specs.Takes.{GuestTakes, answer_under, guest_under, leading, under_host}
use Rattle.loop_model.specs.Reach.{links_of, brings_to}
use Rattle.il_ring.specs.declared.plan.Arrival.{Arrival}
use Rattle.il_ring.specs.declared.flight.Flight.{Flight}
use Rattle.il_ring.specs.Plans.{next_fault}
use Rattle.il_ring.specs.Flights.{sourced, hit, lost_at, ended_at}
use Rattle.il_ring.specs.Books.{BooksView}
use Rattle.il_ring.specs.Journeys.{Trip, missed, trip, trip_of}
use Rattle.il_ring.specs.Rings.{RingView, arrived, arriving, devices_of}
use Rattle.il_ring.specs.Rounded.{IsReady}
use Rattle.il_ring.specs.Guests.{guest_devices, guest_mind, mind_of}
use Rattle.il_ring.specs.ControlledAdds.{ControlledCounts, AllTookSince, TookSince, standing}
use Rattle.il_ring.specs.Lending.{GuestMeets, GuestReaches, IsControlled, LastPassage, ControlledRound, ControlledTrip, StandsLent, StandsUnder, books_controlled, entry_of_kept, going_on, controlled, controlled_answers, controlled_home, controlled_sends, leads, lent_home}
use Rattle.il_ring.specs.Turned.{StandsNot, StandsThere, turned, turned_flight}
use Rattle.il_ring.specs.Ways.{way, on_way, brought}
use Rattle.il_ring.proofs.Counts.{Counted, Framed, entries_to, risen_by-add}
use Rattle.il_ring.proofs.CountSteps.{Stands, hit_same, source_within, counted_journey}
use Rattle.il_ring.proofs.ControlledRounds.{controlled_to_last}
use Rattle.il_ring.proofs.PassSteps.{goes_home, last_home, silent_home}
use Rattle.il_ring.proofs.Rings.{Journey-length}
use Rattle.il_ring.proofs.Turnings.{some_flight}
use Rattle.il_ring.proofs.EntryMeasures.{IsMeasure, at_host, came_measure, last_measure, links_measure, way-some}

-- ---- the last party in a pass

-- it answers by what goes out of its rounds
out_leads : (c : Control) (g : GuestState) (f : Frame) → is_leading c ≡ true → answer_under c g f ≡ out_of c
out_leads control.Host g f leads = cc
out_leads (control.Rounds p) g f leads = refl
out_leads control.Silent g f leads = refl

answers_so : (g h : GuestState) (f : Frame) (given : GuestOut) → is_leading h.control ≡ true → GuestTakes g f given h → given ≡ out_of h.control
answers_so g h f given leads takes = takes.answer ∙ ap (λ (x : GuestState). answer_under x.control g f) (sym takes.state) ∙ out_leads h.control g f leads

no_pass : (c : Control) (f : Frame) → out_of c ≡ reply.Pass f → ⊥
no_pass (control.Rounds (place.Command c)) f is = cc
no_pass (control.Rounds (place.Ready c)) f is = cc
no_pass (control.Rounds (place.Start a)) f is = cc
no_pass (control.Rounds (place.Held a d)) f is = cc
no_pass (control.Rounds (place.Relayed a d)) f is = cc
no_pass control.Silent f is = cc
no_pass control.Host f is = cc

-- while it keeps a frame it sends none of its own
no_source : (test : Bool) (a : ℕ) (d f : Frame) → out_of (expecting test (place.Relayed a d)) ≡ reply.Source f → ⊥
no_source true a d f is = cc
no_source false a d f is = cc

keeping_sends : (g h : GuestState) (f x : Frame) (a : ℕ) (d : Frame) (ifc : Bool) → h.control ≡ (if ifc then under_host g f else leading g (place.Held a d) f).control → is_leading h.control ≡ true → out_of h.control ≡ reply.Source x → ⊥
keeping_sends g h f x a d true to leads is = let clash = sym (ap is_leading to) ∙ leads in cc
keeping_sends g h f x a d false to leads is = no_source (is_frame f nrd) a d x (ap out_of (sym to) ∙ is)

held_sends : (g h : GuestState) (f x : Frame) (a : ℕ) (d : Frame) (given : GuestOut) → g.control ≡ control.Rounds (place.Held a d) → is_leading h.control ≡ true → GuestTakes g f given h → given ≡ reply.Source x → ⊥
held_sends g h f x a d given at leads takes is =
    let to : h ≡ guest_under (control.Rounds (place.Held a d)) g f = takes.state ∙ ap (λ c. guest_under c g f) at in
    keeping_sends g h f x a d (is_ifc (message_of f)) (ap (λ (x : GuestState). x.control) to) leads (sym (answers_so g h f given leads takes) ∙ is)

-- where it is then
kept_held : (k : ℕ) (c : Control) (f h : Flight) → StandsUnder k c f (Some h) → (a : ℕ) × (d : Frame) × (c ≡ control.Rounds (place.Held a d))
kept_held k (control.Rounds (place.Command c)) f h stands = let clash = stands.1 in cc
kept_held k (control.Rounds (place.Ready c)) f h stands = let clash = stands.1 in cc
kept_held k (control.Rounds (place.Start a)) f h stands = let clash = stands.1 in cc
kept_held k (control.Rounds (place.Held a d)) f h stands = (a, d, refl)
kept_held k (control.Rounds (place.Relayed a d)) f h stands = let clash = stands.1 in cc
kept_held k control.Silent f h stands = absurd stands
kept_held k control.Host f h stands = absurd stands

unkept_in : (k : ℕ) (g h : GuestState) (f : Flight) (at : Frame) (given : GuestOut) (x : Frame) (kept : Option Flight) → StandsUnder k g.control f kept → is_leading h.control ≡ true → GuestTakes g at given h → given ≡ reply.Source x → kept ≡ None
unkept_in k g h f at given x None stands lead takes sends = refl
unkept_in k g h f at given x (Some y) stands lead takes sends =
    let held = kept_held k g.control f y stands in
    absurd (held_sends g h at x held.0 held.1 given held.2 lead takes sends)

in_rounds : (k : ℕ) (c : Control) (f : Flight) (kept : Option Flight) → StandsUnder k c f kept → (p : Place) × (c ≡ control.Rounds p)
in_rounds k (control.Rounds p) f kept stands = (p, refl)
in_rounds k control.Silent f kept stands = absurd stands
in_rounds k control.Host f kept stands = absurd stands

-- it took the frame that came
rises_by : (g : GuestState) (p : Place) (f : Frame) (ifc : Bool) → (if ifc then under_host g f else leading g p f).device.frames ≡ risen g.device.frames
rises_by g p f true = refl
rises_by g p f false = refl

frames_rise : (g h : GuestState) (p : Place) (f : Frame) (given : GuestOut) → g.control ≡ control.Rounds p → GuestTakes g f given h → h.device.frames ≡ risen g.device.frames
frames_rise g h p f given at takes =
    let to : h ≡ guest_under (control.Rounds p) g f = takes.state ∙ ap (λ c. guest_under c g f) at in
    ap (λ (x : GuestState). x.device.frames) to ∙ rises_by g p f (is_ifc (message_of f))

-- ---- what goes out

-- the entry of this frame after the last link
abbrev pub IsOut : Flight → Entry → Type 0
IsOut f x = (x ≡ entry f.source f.sent (outcome.Taken 0)) ⊎ (x ≡ entry f.source f.sent (outcome.Lost 0))

module _ {M : Type 0} (r s : RingView M) where
  abbrev of_all : ℕ
  of_all = length (devices_of r)

  -- the entries, with those of what is under way then
  pub record Put (es xs : List Entry) : Type 0 where
    pub entries : List Entry
    pub log : s.books.log ≡ r.books.log ++ entries
    pub all : entries ++ standing of_all s.books ≡ es ++ xs

  not_put : (answer : Arrival) (es last : List Entry) (kept : Option Flight) (n : ℕ) → StandsNot r es kept last n answer s → Put es (entry_of_kept of_all kept ++ last)
  not_put answer es last kept n ends = record {
    entries = es ++ (entry_of_kept of_all kept ++ last);
    log = ends.log_is;
    all =
        ap₂ (λ kept_then lent. (es ++ (entry_of_kept of_all kept ++ last)) ++ (entry_of_kept of_all kept_then ++ entry_of_kept 0 lent)) ends.kept_is ends.lent_is
        ∙ append-nil (es ++ (entry_of_kept of_all kept ++ last));
  }

  -- a frame went out
  pub record WentOut (es : List Entry) (kept : Option Flight) (f : Flight) (n : ℕ) : Type 0 where
    pub last : Entry
    pub is_out : IsOut f last
    pub put : Put es (entry_of_kept of_all kept ++ last ∷ [])
    pub crossings : s.books.crossings ≡ risen n

  pub went_out : (answer : Arrival) (es : List Entry) (kept : Option Flight) (f : Flight) (n : ℕ) → 1 ≤ f.source
      → StandsThere r es f kept n answer s ⊎ (StandsNot r es kept (lost_at f 0 ∷ []) (risen n) answer s × (hit (next_fault r.books.plan n) f ≡ None)) → WentOut es kept f n
  went_out answer es kept f n some (inl there) =
      let same = hit_same (next_fault r.books.plan n) f there.at there.came in
      record {
        last = ended_at there.at 0;
        is_out = inl (at_host there.at (omega (arith, same.source, some)) ∙ ap₂ (λ p sent. entry p sent (outcome.Taken 0)) same.source same.sent);
        put = record {
          entries = es;
          log = there.log_is;
          all = ap₂ (λ kept_then lent. es ++ (entry_of_kept of_all kept_then ++ entry_of_kept 0 lent)) there.kept_is there.lent_is;
        };
        crossings = there.crossings;
      }
  went_out answer es kept f n some (inr lost) = record {
    last = lost_at f 0;
    is_out = inr refl;
    put = not_put answer es (lost_at f 0 ∷ []) kept (risen n) lost.0;
    crossings = lost.0.crossings_are;
  }

sum_put : (measure : Entry → ℕ) (es kept : List Entry) (x : Entry) → sum_by measure (es ++ (kept ++ x ∷ [])) ≡ (sum_by measure es + sum_by measure kept) + measure x
sum_put measure es kept x = let all = sum_by-append measure es (kept ++ x ∷ []) in let more = sum_by_push measure kept x in omega (arith, all, more)

-- the last of some
ends_by : (e : Entry) (es : List Entry) → (front : List Entry) × (last : Entry) × (e ∷ es ≡ front ++ last ∷ [])
ends_by e [] = ([], e, refl)
ends_by e (x ∷ es) = let more = ends_by x es in (e ∷ more.0, more.1, ap (λ es. e ∷ es) more.2)

-- ---- past the last party

-- What the last party, which leads, made of the trip t: these entries; whether a frame came to it, or was lost on the way there; and by each
-- measure what is under way then counts for, with the entries, as much as before.
pub record PastCounted (j : ℕ) (t : Trip) (kept : Option Flight) (g : GuestState) (u : ControlledTrip) (h : GuestState) : Type 0 where
  pub entries : List Entry
  pub log : u.trip.log ≡ t.log ++ entries
  pub took : Bool
  pub gone : Bool
  pub crossings : u.trip.crossings ≡ risen_by (cond took 1 0 + cond gone 1 0) t.crossings
  pub rises : h.device.frames ≡ risen_by (cond took 1 0) g.device.frames
  pub from : (f : Flight) → u.trip.flight ≡ Some f → (1 ≤ f.source) × (f.source ≤ j + 1)
  pub silent : u.trip.flight ≡ None → (u.kept ≡ kept) ⊎ (u.kept ≡ None)
  pub counted : (measure : Entry → ℕ) (first before after : Option Flight → ℕ) (lost here home : ℕ) → IsMeasure j measure first before after lost here home
      → ((cond took here 0 + cond gone lost 0) + before t.flight) + sum_by measure (entry_of_kept (j + 1) kept)
      ≡ (sum_by measure entries + after u.trip.flight) + sum_by measure (entry_of_kept (j + 1) u.kept)

-- if a frame of its own goes out
own_from : (j : ℕ) (x : Frame) (f : Flight) → Some (sourced (j + 1) x) ≡ Some f → (1 ≤ f.source) × (f.source ≤ j + 1)
own_from j x f is = let same = ap (λ (f : Flight). f.source) (some_flight (sourced (j + 1) x) f is) in (omega (arith, same), omega (arith, same))

module _ (j n : ℕ) (log : List Entry) (g h : GuestState) where
  past_none : (kept : Option Flight) → PastCounted j (trip n log None) kept g (controlled (trip n log None) kept) g
  past_none kept = record {
    entries = [];
    log = sym (append-nil log);
    took = false;
    gone = false;
    crossings = refl;
    rises = refl;
    from = λ f is. let clash = is in cc;
    silent = λ none. inl refl;
    counted = λ measure first before after lost here home is. let a = is.none_before in let b = is.none_after in omega (arith, a, b);
  }

  module _ (f : Flight) (on : f.source ≤ j + 1) where
    past_lost : (kept : Option Flight) → PastCounted j (trip n log (Some f)) kept g (controlled (trip (risen n) (log ++ lost_at f (j + 1) ∷ []) None) kept) g
    past_lost kept = record {
      entries = lost_at f (j + 1) ∷ [];
      log = refl;
      took = false;
      gone = true;
      crossings = refl;
      rises = refl;
      from = λ f is. let clash = is in cc;
      silent = λ none. inl refl;
      counted = λ measure first before after lost here home is. let away = is.lost_there f on in let none = is.none_after in omega (arith, away, none);
    }

    module _ (at : Flight) (same : at.source ≡ f.source) (rises : h.device.frames ≡ risen g.device.frames) where
      ended : (measure : Entry → ℕ) (first before after : Option Flight → ℕ) (lost here home : ℕ) → IsMeasure j measure first before after lost here home
          → measure (ended_at at (j + 1)) ≡ before (Some f) + here
      ended measure first before after lost here home is = let there = is.ended_there at (omega (arith, same, on)) in let weight = is.same f at same in omega (arith, there, weight)

      -- it took the frame: these entries are added, this frame goes on, or none, and that one is kept, or none
      abbrev Weighs : Option Flight → Option Flight → List Entry → Option Flight → Type 0
      Weighs kept keeps es goes =
          (measure : Entry → ℕ) (first before after : Option Flight → ℕ) (lost here home : ℕ) → IsMeasure j measure first before after lost here home
          → (here + before (Some f)) + sum_by measure (entry_of_kept (j + 1) kept) ≡ (sum_by measure es + after goes) + sum_by measure (entry_of_kept (j + 1) keeps)

      past_taken : (kept keeps : Option Flight) (es : List Entry) (goes : Option Flight) → ((y : Flight) → goes ≡ Some y → (1 ≤ y.source) × (y.source ≤ j + 1)) → (goes ≡ None → (keeps ≡ kept) ⊎ (keeps ≡ None)) → Weighs kept keeps es goes
          → (l : List Entry) → l ≡ log ++ es → PastCounted j (trip n log (Some f)) kept g (controlled (trip (risen n) l goes) keeps) h
      past_taken kept keeps es goes from silent weighs l is = record {
        entries = es;
        log = is;
        took = true;
        gone = false;
        crossings = refl;
        rises = rises;
        from = from;
        silent = silent;
        counted = λ measure first before after lost here home is. let all = weighs measure first before after lost here home is in omega (arith, all);
      }

      past_kept : (x : Frame) → PastCounted j (trip n log (Some f)) None g (controlled (trip (risen n) log (Some (sourced (j + 1) x))) (Some at)) h
      past_kept x =
          past_taken None (Some at) [] (Some (sourced (j + 1) x)) (own_from j x) (λ none. let clash = none in cc)
          (λ measure first before after lost here home is. let there = ended measure first before after lost here home is in let own = is.own x in omega (arith, there, own))
          log (sym (append-nil log))

      past_sent : (kept : Option Flight) (x : Frame) → PastCounted j (trip n log (Some f)) kept g (controlled (trip (risen n) (log ++ ended_at at (j + 1) ∷ []) (Some (sourced (j + 1) x))) kept) h
      past_sent kept x =
          past_taken kept kept (ended_at at (j + 1) ∷ []) (Some (sourced (j + 1) x)) (own_from j x) (λ none. inl refl)
          (λ measure first before after lost here home is. let there = ended measure first before after lost here home is in let own = is.own x in omega (arith, there, own))
          (log ++ ended_at at (j + 1) ∷ []) refl

      past_stopped : (kept : Option Flight) → PastCounted j (trip n log (Some f)) kept g (controlled (trip (risen n) (log ++ ended_at at (j + 1) ∷ []) None) kept) h
      past_stopped kept =
          past_taken kept kept (ended_at at (j + 1) ∷ []) None (λ f is. let clash = is in cc) (λ none. inl refl)
          (λ measure first before after lost here home is. let there = ended measure first before after lost here home is in let none = is.none_after in omega (arith, there, none))
          (log ++ ended_at at (j + 1) ∷ []) refl

      past_relayed : (kept : Option Flight) → ((y : Flight) → kept ≡ Some y → (1 ≤ y.source) × (y.source ≤ j)) → PastCounted j (trip n log (Some f)) kept g (controlled (trip (risen n) (log ++ ended_at at (j + 1) ∷ []) kept) None) h
      past_relayed kept there =
          past_taken kept None (ended_at at (j + 1) ∷ []) kept (λ y is. let known = there y is in (known.0, (let low = known.1 in omega (arith, low)))) (λ none. inr refl)
          (λ measure first before after lost here home is.
          let here_is = ended measure first before after lost here home is in
          let goes = by measure first before after lost here home is kept there in
          omega (arith, here_is, goes))
          (log ++ ended_at at (j + 1) ∷ []) refl
        where
          by : (measure : Entry → ℕ) (first before after : Option Flight → ℕ) (lost here home : ℕ) → IsMeasure j measure first before after lost here home
              → (kept : Option Flight) → ((y : Flight) → kept ≡ Some y → (1 ≤ y.source) × (y.source ≤ j)) → after kept ≡ sum_by measure (entry_of_kept (j + 1) kept)
          by measure first before after lost here home is None there = is.none_after
          by measure first before after lost here home is (Some y) there = let goes = is.goes_on y (there y refl).1 in omega (arith, goes)

      past_sends : (kept : Option Flight) (x : Frame) (bytes : Bool) → kept ≡ None → PastCounted j (trip n log (Some f)) kept g (controlled_sends (risen n) log (j + 1) at bytes kept x) h
      past_sends kept x true none = subst (λ kept. PastCounted j (trip n log (Some f)) kept g (controlled_sends (risen n) log (j + 1) at true kept x) h) (sym none) (past_kept x)
      past_sends kept x false none = past_sent kept x

      past_answered : (kept : Option Flight) (out : GuestOut) → ((x : Frame) → out ≡ reply.Pass x → ⊥) → ((x : Frame) → out ≡ reply.Source x → kept ≡ None)
          → ((y : Flight) → kept ≡ Some y → (1 ≤ y.source) × (y.source ≤ j)) → PastCounted j (trip n log (Some f)) kept g (controlled_answers (risen n) log (j + 1) at kept out) h
      past_answered kept (reply.Pass x) passes sends there = absurd (passes x refl)
      past_answered kept (reply.Source x) passes sends there = past_sends kept x (is_data at.now) (sends x refl)
      past_answered kept (reply.Relay x) passes sends there = past_relayed kept there
      past_answered kept reply.Stop passes sends there = past_stopped kept

-- ---- over the last link

-- the entries, and what is under way then, by each measure
pub record HomeCounted {M : Type 0} (r s : RingView M) (past_all : ControlledTrip) (entries : List Entry) (j : ℕ) : Type 0 where
  pub added : List Entry
  pub log_is : s.books.log ≡ r.books.log ++ added
  pub goes : Bool
  pub crossings : s.books.crossings ≡ risen_by (cond goes 1 0) past_all.trip.crossings
  pub counted : (measure : Entry → ℕ) (first before far : Option Flight → ℕ) (lost here home : ℕ) → IsMeasure j measure first before far lost here home
      → sum_by measure (added ++ standing (length (devices_of r)) s.books) ≡ ((sum_by measure entries + far past_all.trip.flight) + cond goes home 0) + sum_by measure (entry_of_kept (length (devices_of r)) past_all.kept)

-- Nothing came home to a host that controls, and nothing stands.
pub record EndsAlone {M : Type 0} (r s : RingView M) (past_all : ControlledTrip) : Type 0 where
  pub none : past_all.trip.flight ≡ None
  pub unkept : past_all.kept ≡ None
  pub unlent : r.books.lent ≡ None
  pub books : s.books ≡ record (books_controlled r.books past_all) { held = None }

alone_counted : {M : Type 0} (r s : RingView M) (past_all : ControlledTrip) (entries : List Entry) (j : ℕ) → past_all.trip.log ≡ r.books.log ++ entries → EndsAlone r s past_all → HomeCounted r s past_all entries j
alone_counted r s past_all entries j log ends =
    let kept : s.books.kept ≡ None = ap (λ (b : BooksView). b.kept) ends.books ∙ ends.unkept in
    let lent : s.books.lent ≡ None = ap (λ (b : BooksView). b.lent) ends.books ∙ ends.unlent in
    record {
      added = entries;
      log_is = ap (λ (b : BooksView). b.log) ends.books ∙ log;
      goes = false;
      crossings = ap (λ (b : BooksView). b.crossings) ends.books;
      counted = λ measure first before far lost here home known.
          let all = ap₂ (λ kept lent. sum_by measure (entries ++ (entry_of_kept (length (devices_of r)) kept ++ entry_of_kept 0 lent))) kept lent ∙ ap (sum_by measure) (append-nil entries) in
          let none = ap far ends.none ∙ known.none_after in
          let unkept : sum_by measure (entry_of_kept (length (devices_of r)) past_all.kept) ≡ 0 = ap (λ kept. sum_by measure (entry_of_kept (length (devices_of r)) kept)) ends.unkept in
          omega (arith, all, none, unkept);
    }

module _ {M : Type 0} (r s : RingView M) (answer : Arrival) (past_all : ControlledTrip) (entries : List Entry) (books : s.books ≡ lent_home (length (devices_of r)) (books_controlled r.books past_all) past_all.trip.flight)
    (answer_is : answer ≡ arrived (arriving r.books.plan past_all.trip.crossings past_all.trip.flight)) (log : past_all.trip.log ≡ r.books.log ++ entries) where
  abbrev loop : ℕ
  loop = length (devices_of r)

  out_counted : (j : ℕ) (f : Flight) → past_all.trip.flight ≡ Some f → 1 ≤ f.source → f.source ≤ j + 1 → HomeCounted r s past_all entries j
  out_counted j f flight some on =
      let went = went_out r s answer entries past_all.kept f past_all.trip.crossings some (goes_home r s answer past_all entries past_all.kept books answer_is refl f flight log) in
      record {
        added = went.put.entries;
        log_is = went.put.log;
        goes = true;
        crossings = went.crossings;
        counted = λ measure first before far lost here home is.
            let all = ap (sum_by measure) went.put.all ∙ sum_put measure entries (entry_of_kept loop past_all.kept) went.last in
            let there : measure went.last ≡ far (Some f) + home =
            ⊎_elim (λ taken. ap measure (taken ∙ sym (at_host f some)) ∙ is.ended_home f some on) (λ gone. ap measure gone ∙ is.lost_home f on) went.is_out in
            let at = ap far flight in
            omega (arith, all, there, at);
      }

  silent_counted : (j : ℕ) → past_all.trip.flight ≡ None → ((y : Flight) → past_all.kept ≡ Some y → (front : List Entry) × (last : Entry) × (entries ≡ front ++ last ∷ [])) → HomeCounted r s past_all entries j
  silent_counted j flight some = by past_all.kept refl
    where
      by : (kept : Option Flight) → past_all.kept ≡ kept → HomeCounted r s past_all entries j
      by None is =
          let put = not_put r s answer entries [] None past_all.trip.crossings (silent_home r s answer past_all entries None books answer_is is refl flight log) in
          record {
            added = put.entries;
            log_is = put.log;
            goes = false;
            crossings = (silent_home r s answer past_all entries None books answer_is is refl flight log).crossings_are;
            counted = λ measure first before far lost here home known.
                let all = ap (sum_by measure) (put.all ∙ append-nil entries) in
                let none = ap far flight ∙ known.none_after in
                let kept : sum_by measure (entry_of_kept loop past_all.kept) ≡ 0 = ap (λ kept. sum_by measure (entry_of_kept loop kept)) is in
                omega (arith, all, none, kept);
          }
      by (Some y) is =
          let split = some y is in
          let at : past_all.trip.log ≡ r.books.log ++ (split.0 ++ split.1 ∷ []) = log ∙ ap (λ es. r.books.log ++ es) split.2 in
          let ends = last_home r s answer past_all split.0 past_all.kept books answer_is refl split.1 flight at in
          let put = not_put r s answer split.0 (split.1 ∷ []) past_all.kept past_all.trip.crossings ends in
          record {
            added = put.entries;
            log_is = put.log;
            goes = false;
            crossings = ends.crossings_are;
            counted = λ measure first before far lost here home known.
                let all = ap (sum_by measure) put.all ∙ sum_put measure split.0 (entry_of_kept loop past_all.kept) split.1 in
                let sum = ap (sum_by measure) split.2 ∙ sum_by_push measure split.0 split.1 in
                let none = ap far flight ∙ known.none_after in
                omega (arith, all, sum, none);
          }

none_more : (b : Bool) → ◌≡◌ {A = ℕ} (cond b 0 0) 0
none_more true = refl
none_more false = refl

-- ---- the devices

since_framed : (k : ℕ) (b a : ℕ → ℕ) (before after : List Entry) (j : ℕ) (ds es : List DeviceState) (d e : DeviceState)
    → ((q c : ℕ) → j < q → q ≤ j + length ds → c + b q ≡ a q → c + count_by (brings_to k q) before ≡ count_by (brings_to k q) after)
    → TookSince k before after (j + length ds + 1) d e → Framed b a j ds es → AllTookSince k before after j (ds ++ d ∷ []) (es ++ e ∷ [])
since_framed k b a before after j [] [] d e same last framed = (subst (λ j. TookSince k before after (j + 1) d e) (omega arith) last, tt)
since_framed k b a before after j (x ∷ ds) (y ∷ es) d e same last framed = (
  (framed.0.0, framed.0.1, same (j + 1) framed.0.0 (omega arith) (omega arith) framed.0.2),
  since_framed k b a before after (j + 1) ds es d e (λ q c low high. same q c (omega (arith, low)) (omega (arith, high))) (subst (λ j. TookSince k before after (j + 1) d e) (omega arith) last) framed.1,
)
since_framed k b a before after j [] (y ∷ es) d e same last framed = absurd framed
since_framed k b a before after j (x ∷ ds) [] d e same last framed = absurd framed

-- ---- the frame that is at the host

turned_same : (k p : ℕ) → 1 ≤ p → turned k p ≡ p
turned_same k zero some = absurd (omega (arith, some))
turned_same k (suc p) some = refl

-- it is the second controller's own, or awaited by its source
pub turned_stands : (k : ℕ) (f : Flight) (ds : List DeviceState) → k ≡ length ds + 1 → IsReady f ds → Stands (length ds + 1) 0 (Some (turned_flight k f)) ds × (1 ≤ (turned_flight k f).source) × ((turned_flight k f).source ≤ length ds + 1)
turned_stands k f ds size (inl host) =
    let is : turned k f.source ≡ k = ap (turned k) host in
    (inr (inr (omega (arith, is, size), omega (arith, is, size))), omega (arith, is, size), omega (arith, is, size))
turned_stands k f ds size (inr awaited) =
    let is : turned k f.source ≡ f.source = turned_same k f.source (omega (arith, awaited.there)) in (
      inr (inl (record { place = awaited.place; there = is ∙ awaited.there; within = awaited.within; data_frame = awaited.data_frame; own = awaited.own; waits = awaited.waits })),
      omega (arith, is, awaited.there),
      omega (arith, is, awaited.there, awaited.within),
    )

-- ---- what a round adds to the counts

-- what the last party, which is then in the state h, answers: no frame that it passes, one of its own only if it keeps none
pub record LastAnswers (kept : Option Flight) (g h : GuestState) (out : GuestOut) : Type 0 where
  pub no_passing : (x : Frame) → out ≡ reply.Pass x → ⊥
  pub unkept : (x : Frame) → out ≡ reply.Source x → kept ≡ None
  pub rises : h.device.frames ≡ risen g.device.frames

-- with this frame at the host, or none
abbrev pub standing_as : {M : Type 0} → Option Flight → RingView M → RingView M
standing_as o r = record r { books = record r.books { lent = o } }

-- the frame that is at the host goes on, or the host's own goes out on a ring on which no frame is held
abbrev pub Starts : BooksView → ℕ → Flight → Type 0
Starts b few f = ((1 ≤ f.source) × (f.source ≤ few + 1) × (b.lent ≡ Some f)) ⊎ ((f.source ≡ 0) × (b.lent ≡ None) × (b.kept ≡ None))

module _ {M : Type 0} (view : M → MediumView) (o : Option Flight) (r s : RingView M) (f : Flight) (answer : Arrival) (round : ControlledRound view (standing_as o r) f answer s) (g h : GuestState) (is : round.guest ≡ Some g) (next : round.guest_then ≡ Some h) where
  abbrev pub front : List DeviceState
  front = r.before ++ device_of r.drive.state ∷ round.boxed

  abbrev pub front_then : List DeviceState
  front_then = s.before ++ device_of s.drive.state ∷ round.boxed_then

  abbrev pub few : ℕ
  few = length front

  devices_before : devices_of r ≡ front ++ g.device ∷ []
  devices_before =
      ap (λ after. r.before ++ device_of r.drive.state ∷ after) (round.after ∙ ap (λ guest. round.boxed ++ guest_devices guest) is)
      ∙ sym (append_assoc r.before (device_of r.drive.state ∷ round.boxed) (g.device ∷ []))

  devices_after : devices_of s ≡ front_then ++ h.device ∷ []
  devices_after =
      ap (λ after. s.before ++ device_of s.drive.state ∷ after) (round.after_then ∙ ap (λ guest. round.boxed_then ++ guest_devices guest) next)
      ∙ sym (append_assoc s.before (device_of s.drive.state ∷ round.boxed_then) (h.device ∷ []))

  pub size : length (devices_of r) ≡ few + 1
  size = ap length devices_before ∙ length-append front (g.device ∷ [])

  same_size : length (devices_of s) ≡ length (devices_of r)
  same_size =
      let same = Journey-length r.books.plan 1 (trip_of (standing_as o r).books (Some f)) round.at_last front front_then (controlled_to_last view (standing_as o r) s f answer round) in
      let then_ = ap length devices_after ∙ length-append front_then (h.device ∷ []) in
      let now = size in
      omega (arith, same, then_, now)

  module _ (ready : Stands (few + 1) 0 (Some f) front) (starts : Starts r.books few f) (kept : (y : Flight) → r.books.kept ≡ Some y → (1 ≤ y.source) × (y.source ≤ few))
      (answers : (y at : Flight) → round.at_last.flight ≡ Some y → hit (next_fault r.books.plan round.at_last.crossings) y ≡ Some at → (out : GuestOut) → GuestTakes g at.now out h → LastAnswers r.books.kept g h out)
      (ends : (s.books ≡ lent_home (length (devices_of r)) (books_controlled (standing_as o r).books round.past_all) round.past_all.trip.flight) ⊎ EndsAlone (standing_as o r) s round.past_all) where
    -- past the devices before it
    went : Counted (few + 1) 0 (trip_of (standing_as o r).books (Some f)) front round.at_last front_then × Stands (few + 1) (0 + few) round.at_last.flight []
    went = counted_journey r.books.plan (few + 1) 0 (trip_of (standing_as o r).books (Some f)) round.at_last front front_then (omega arith) ready (controlled_to_last view (standing_as o r) s f answer round)

    abbrev first : Counted (few + 1) 0 (trip_of (standing_as o r).books (Some f)) front round.at_last front_then
    first = went.0

    far_is : 0 + length front ≡ few
    far_is = omega arith

    past_hit : (y : Flight) (after : Option Flight) → y.source ≤ few + 1 → round.at_last.flight ≡ Some y → hit (next_fault r.books.plan round.at_last.crossings) y ≡ after
        → GuestMeets (few + 1) (trip round.at_last.crossings round.at_last.log (Some y)) r.books.kept y after g round.past_all h
        → PastCounted few (trip round.at_last.crossings round.at_last.log (Some y)) r.books.kept g round.past_all h
    past_hit y None within at hits met =
        subst (λ u. PastCounted few (trip round.at_last.crossings round.at_last.log (Some y)) r.books.kept g u h) (sym met.0)
        (subst (λ h. PastCounted few (trip round.at_last.crossings round.at_last.log (Some y)) r.books.kept g (controlled (missed (risen round.at_last.crossings) round.at_last.log (few + 1) y) r.books.kept) h) (sym met.1)
        (past_lost few round.at_last.crossings round.at_last.log g h y within r.books.kept))
    past_hit y (Some x) within at hits met =
        let answer_so = answers y x at hits met.0 met.1 in
        subst (λ u. PastCounted few (trip round.at_last.crossings round.at_last.log (Some y)) r.books.kept g u h) (sym met.2)
        (past_answered few round.at_last.crossings round.at_last.log g h y within x (hit_same (next_fault r.books.plan round.at_last.crossings) y x hits).source answer_so.rises r.books.kept met.0 answer_so.no_passing answer_so.unkept kept)

    past_reached : (after : Option Flight) → round.at_last.flight ≡ after → Stands (few + 1) (0 + few) after []
        → GuestReaches r.books.plan (few + 1) (trip round.at_last.crossings round.at_last.log after) r.books.kept after g round.past_all h
        → PastCounted few (trip round.at_last.crossings round.at_last.log after) r.books.kept g round.past_all h
    past_reached None at can reached =
        subst (λ u. PastCounted few (trip round.at_last.crossings round.at_last.log None) r.books.kept g u h) (sym reached.0)
        (subst (λ h. PastCounted few (trip round.at_last.crossings round.at_last.log None) r.books.kept g (controlled (trip round.at_last.crossings round.at_last.log None) r.books.kept) h) (sym reached.1)
        (past_none few round.at_last.crossings round.at_last.log g h r.books.kept))
    past_reached (Some y) at can reached =
        past_hit y (hit (next_fault r.books.plan round.at_last.crossings) y) (source_within (0 + few) (few + 1) y [] (omega arith) can) at refl reached

    past : PastCounted few round.at_last r.books.kept g round.past_all h
    past =
        let passage : LastPassage r.books.plan (length (devices_of r)) round.at_last r.books.kept (Some g) round.past_all (Some h) =
        subst (λ later. LastPassage r.books.plan (length (devices_of r)) round.at_last r.books.kept (Some g) round.past_all later) next
        (subst (λ guest. LastPassage r.books.plan (length (devices_of r)) round.at_last r.books.kept guest round.past_all round.guest_then) is round.past_last) in
        let reached : GuestReaches r.books.plan (few + 1) round.at_last r.books.kept round.at_last.flight g round.past_all h =
        subst (λ k. GuestReaches r.books.plan k round.at_last r.books.kept round.at_last.flight g round.past_all h) size passage in
        past_reached round.at_last.flight refl went.1 reached

    abbrev both : List Entry
    both = first.entries ++ past.entries

    log_both : round.past_all.trip.log ≡ r.books.log ++ both
    log_both = past.log ∙ ap (λ log. log ++ past.entries) first.log ∙ append_assoc r.books.log first.entries past.entries

    -- if nothing goes on, an entry was made
    some_made : round.past_all.trip.flight ≡ None → (y : Flight) → round.past_all.kept ≡ Some y → (front : List Entry) × (last : Entry) × (both ≡ front ++ last ∷ [])
    some_made flight y is_kept = by both refl
      where
        by : (es : List Entry) → both ≡ es → (front : List Entry) × (last : Entry) × (both ≡ front ++ last ∷ [])
        by [] none =
            let same : round.past_all.kept ≡ r.books.kept = ⊎_elim (λ same. same) (λ gone. let clash : None ≡ Some y = sym gone ∙ is_kept in cc) (past.silent flight) in
            let kept_sum : sum_by (links_of (few + 1)) (entry_of_kept (few + 1) round.past_all.kept) ≡ sum_by (links_of (few + 1)) (entry_of_kept (few + 1) r.books.kept) = ap (λ kept. sum_by (links_of (few + 1)) (entry_of_kept (few + 1) kept)) same in
            let counted = past.counted (links_of (few + 1)) (on_way (few + 1) 0) (on_way (few + 1) few) (on_way (few + 1) (few + 1)) 1 1 1 (links_measure few) in
            let linked = first.linked in
            let there = ap (λ j. on_way (few + 1) j round.at_last.flight) far_is in
            let away : on_way (few + 1) (few + 1) round.past_all.trip.flight ≡ 0 = ap (on_way (few + 1) (few + 1)) flight in
            let sum : sum_by (links_of (few + 1)) first.entries + sum_by (links_of (few + 1)) past.entries ≡ 0 =
            sym (sum_by-append (links_of (few + 1)) first.entries past.entries) ∙ ap (sum_by (links_of (few + 1))) none in
            ⊎_elim
            (λ (goes : (1 ≤ f.source) × (f.source ≤ few + 1) × (r.books.lent ≡ Some f)).
            let far : 1 ≤ way (few + 1) f.source 0 = way-some (few + 1) f.source goes.0 goes.1 in
            absurd (omega (arith, kept_sum, counted, linked, there, away, sum, far)))
            (λ (host : (f.source ≡ 0) × (r.books.lent ≡ None) × (r.books.kept ≡ None)). let clash : None ≡ Some y = sym host.2 ∙ sym same ∙ is_kept in cc)
            starts
        by (e ∷ es) made = let split = ends_by e es in (split.0, split.1, made ∙ split.2)

    home : HomeCounted (standing_as o r) s round.past_all both few
    home = ⊎_elim (λ books. by books round.past_all.trip.flight refl) (λ alone. alone_counted (standing_as o r) s round.past_all both few log_both alone) ends
      where
        by : s.books ≡ lent_home (length (devices_of r)) (books_controlled (standing_as o r).books round.past_all) round.past_all.trip.flight → (after : Option Flight) → round.past_all.trip.flight ≡ after
            → HomeCounted (standing_as o r) s round.past_all both few
        by books None flight = silent_counted (standing_as o r) s answer round.past_all both books round.answer_is log_both few flight (some_made flight)
        by books (Some y) flight = let there = past.from y flight in out_counted (standing_as o r) s answer round.past_all both books round.answer_is log_both few y flight there.0 there.1

    -- what stood before counts for as much as the frame does as it begins, with what is kept
    start_is : (measure : Entry → ℕ) (start before far : Option Flight → ℕ) (lost here home_more : ℕ) → IsMeasure few measure start before far lost here home_more → sum_by measure (entry_of_kept 0 r.books.lent) ≡ start (Some f)
    start_is measure start before far lost here home_more is = ⊎_elim
        (λ (goes : (1 ≤ f.source) × (f.source ≤ few + 1) × (r.books.lent ≡ Some f)).
        let one : sum_by measure (entry_of_kept 0 (Some f)) ≡ measure (ended_at f 0) = omega arith in
        ap (λ lent. sum_by measure (entry_of_kept 0 lent)) goes.2 ∙ one ∙ is.at_first f goes.0 goes.1)
        (λ (host : (f.source ≡ 0) × (r.books.lent ≡ None) × (r.books.kept ≡ None)). ap (λ lent. sum_by measure (entry_of_kept 0 lent)) host.1 ∙ sym (is.host_first f host.0))
        starts

    -- By each measure the parts of the way come to what is under way then, with the entries: on the first part so much was added.
    balance : (measure : Entry → ℕ) (start before far : Option Flight → ℕ) (lost here home_more added : ℕ) → IsMeasure few measure start before far lost here home_more
        → added + start (Some f) ≡ sum_by measure first.entries + before round.at_last.flight
        → ((added + (cond past.took here 0 + cond past.gone lost 0)) + cond home.goes home_more 0) + sum_by measure (standing (few + 1) r.books) ≡ sum_by measure (home.added ++ standing (length (devices_of r)) s.books)
    balance measure start before far lost here home_more added is begun =
        let at_last = past.counted measure start before far lost here home_more is in
        let at_home = home.counted measure start before far lost here home_more is in
        let sum = sum_by-append measure first.entries past.entries in
        let kept_sum : sum_by measure (entry_of_kept (length (devices_of r)) round.past_all.kept) ≡ sum_by measure (entry_of_kept (few + 1) round.past_all.kept) = ap (λ k. sum_by measure (entry_of_kept k round.past_all.kept)) size in
        let stood = sum_by-append measure (entry_of_kept (few + 1) r.books.kept) (entry_of_kept 0 r.books.lent) in
        let at_start = start_is measure start before far lost here home_more is in
        omega (arith, begun, at_last, at_home, sum, kept_sum, stood, at_start)

    other_frames : (q c : ℕ) → 0 < q → q ≤ 0 + few → c + brought (few + 1) 0 q (Some f) ≡ entries_to (few + 1) q first.entries + brought (few + 1) (0 + length front) q round.at_last.flight
        → c + count_by (brings_to (few + 1) q) (standing (few + 1) r.books) ≡ count_by (brings_to (few + 1) q) (home.added ++ standing (length (devices_of r)) s.books)
    other_frames q c low high known =
        let there = ap (λ j. brought (few + 1) j q round.at_last.flight) far_is in
        let all = balance (λ e. cond (brings_to (few + 1) q e) 1 0) (brought (few + 1) 0 q) (brought (few + 1) few q) (brought (few + 1) (few + 1) q) 0 0 0 c (came_measure few q (omega (arith, low)) (omega (arith, high))) (known ∙ ap (λ n. entries_to (few + 1) q first.entries + n) there) in
        let none = none_more past.took in
        let nothing = none_more past.gone in
        let no = none_more home.goes in
        omega (arith, all, none, nothing, no)

    last_frames : TookSince (few + 1) (standing (few + 1) r.books) (home.added ++ standing (length (devices_of r)) s.books) (0 + few + 1) g.device h.device
    last_frames = (
      cond past.took 1 0,
      past.rises,
      (
          let there = ap (λ j. brought (few + 1) j (few + 1) round.at_last.flight) far_is in
          let begun = first.outside (few + 1) (omega arith) (omega arith) (inr (omega arith)) in
          let all = balance (λ e. cond (brings_to (few + 1) (few + 1) e) 1 0) (brought (few + 1) 0 (few + 1)) (brought (few + 1) few (few + 1)) (brought (few + 1) (few + 1) (few + 1)) 0 1 0 0 (last_measure few)
          (omega (arith, begun, there)) in
          let nothing = none_more past.gone in
          let no = none_more home.goes in
          let place : few + 1 ≡ 0 + few + 1 = omega arith in
          subst (λ q. cond past.took 1 0 + count_by (brings_to (few + 1) q) (standing (few + 1) r.books) ≡ count_by (brings_to (few + 1) q) (home.added ++ standing (length (devices_of r)) s.books)) place (omega (arith, all, nothing, no))
          ),
    )

    abbrev links_now : ℕ
    links_now = (first.links + (cond past.took 1 0 + cond past.gone 1 0)) + cond home.goes 1 0

    linked_now : links_now + sum_by (links_of (few + 1)) (standing (few + 1) r.books) ≡ sum_by (links_of (few + 1)) (home.added ++ standing (length (devices_of r)) s.books)
    linked_now =
        let there = ap (λ j. on_way (few + 1) j round.at_last.flight) far_is in
        let known = first.linked in
        balance (links_of (few + 1)) (on_way (few + 1) 0) (on_way (few + 1) few) (on_way (few + 1) (few + 1)) 1 1 1 first.links (links_measure few) (omega (arith, known, there))

    frames_now : AllTookSince (few + 1) (standing (few + 1) r.books) (home.added ++ standing (length (devices_of r)) s.books) 0 (devices_of r) (devices_of s)
    frames_now =
        let all = since_framed (few + 1) (λ q. brought (few + 1) 0 q (Some f)) (λ q. entries_to (few + 1) q first.entries + brought (few + 1) (0 + length front) q round.at_last.flight)
        (standing (few + 1) r.books) (home.added ++ standing (length (devices_of r)) s.books) 0 front front_then g.device h.device other_frames last_frames first.inside in
        subst (λ es. AllTookSince (few + 1) (standing (few + 1) r.books) (home.added ++ standing (length (devices_of r)) s.books) 0 (devices_of r) es) (sym devices_after)
        (subst (λ ds. AllTookSince (few + 1) (standing (few + 1) r.books) (home.added ++ standing (length (devices_of r)) s.books) 0 ds (front_then ++ h.device ∷ [])) (sym devices_before) all)

    pub counts_by : ControlledCounts r s
    counts_by = record {
      entries = home.added;
      log = home.log_is;
      size = same_size;
      links = links_now;
      crossings =
          home.crossings
          ∙ ap (risen_by (cond home.goes 1 0)) (past.crossings ∙ ap (risen_by (cond past.took 1 0 + cond past.gone 1 0)) first.crossings ∙ sym (risen_by-add first.links (cond past.took 1 0 + cond past.gone 1 0) r.books.crossings))
          ∙ sym (risen_by-add (first.links + (cond past.took 1 0 + cond past.gone 1 0)) (cond home.goes 1 0) r.books.crossings);
      linked = subst (λ k. links_now + sum_by (links_of k) (standing k r.books) ≡ sum_by (links_of k) (home.added ++ standing (length (devices_of r)) s.books)) (sym size) linked_now;
      frames = subst (λ k. AllTookSince k (standing k r.books) (home.added ++ standing (length (devices_of r)) s.books) 0 (devices_of r) (devices_of s)) (sym size) frames_now;
    }

-- ---- a pass

-- The frame f is at the host of a lent ring: it is the second controller's own, or awaited by its source; and so is what is kept.
pub controlled_counts : {M : Type 0} (view : M → MediumView) (r s : RingView M) (f : Flight) (answer : Arrival) → IsControlled r → IsControlled s → r.books.lent ≡ Some f → (round : ControlledRound view (going_on r) f answer s)
    → ((ds : List DeviceState) → ds ≡ r.before ++ device_of r.drive.state ∷ round.boxed → length (devices_of r) ≡ length ds + 1
    → (Stands (length ds + 1) 0 (Some f) ds × (1 ≤ f.source) × (f.source ≤ length ds + 1)) × ((y : Flight) → r.books.kept ≡ Some y → (1 ≤ y.source) × (y.source ≤ length ds))) → ControlledCounts r s
controlled_counts view r s f answer controlled_before controlled_after lent round known = by round.guest round.guest_then refl refl
  where
    by : (guest later : Option GuestState) → round.guest ≡ guest → round.guest_then ≡ later → ControlledCounts r s
    by None later is next = let clash = sym controlled_before.leads ∙ ap leads (round.mind ∙ ap guest_mind is) in cc
    by (Some g) None is next =
        absurd (subst (λ later. LastPassage r.books.plan (length (devices_of r)) round.at_last r.books.kept (Some g) round.past_all later) next
        (subst (λ guest. LastPassage r.books.plan (length (devices_of r)) round.at_last r.books.kept guest round.past_all round.guest_then) is round.past_last))
    by (Some g) (Some h) is next =
        let k = length (devices_of r) in
        let at = known (front view None r s f answer round g h is next) refl (size view None r s f answer round g h is next) in
        let lead : is_leading h.control ≡ true = sym (ap leads (round.mind_then ∙ ap guest_mind next)) ∙ controlled_after.leads in
        let stands : StandsUnder k g.control f r.books.kept =
        subst (λ lent. StandsLent k (Some (mind_of g)) lent r.books.kept) lent (subst (λ guest. StandsLent k guest r.books.lent r.books.kept) (round.mind ∙ ap guest_mind is) controlled_before.stands) in
        let place = in_rounds k g.control f r.books.kept stands in
        counts_by view None r s f answer round g h is next at.0.0 (inl (at.0.1, at.0.2, lent)) at.1
        (λ y x came hits out takes. record {
          no_passing = λ x passes. no_pass h.control x (sym (answers_so g h _ out lead takes) ∙ passes);
          unkept = λ x sends. unkept_in k g h f _ out x r.books.kept stands lead takes sends;
          rises = frames_rise g h place.0 _ out place.1 takes;
        })
        (inl (round.books ∙ ap (λ lead. controlled_home lead k (books_controlled (going_on r).books round.past_all) round.past_all.trip.flight) controlled_after.leads))
