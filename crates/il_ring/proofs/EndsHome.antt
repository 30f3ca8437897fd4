-- ETO and ETE of a device come home to the host, which takes them.
use Rattle.std.proofs.Common.{◌≡◌, ◌≢◌, ◌≤◌, ◌<◌, ◌+◌, ◌++◌, ◌⊎◌, ◌==◌, inl, inr, ⊎_elim, ℕ, suc, true, false, List, [], ◌∷◌, Option, Some, None, length, refl, sym, ap, ap₂, ◌∙◌, arith}
use Rattle.std.specs.Prelude.{if◌then◌else◌}
use Rattle.std.proofs.lemmas.Bool.{ne_eqb}
use Rattle.il_frames.specs.declared.frame.Frame.{Frame}
use Rattle.il_frames.specs.declared.entry.Outcome.TheVariants as outcome
use Rattle.il_frames.specs.Frames.{is_data}
use Rattle.il_frames.specs.Messages.{message_of}
use Rattle.il_device.specs.State.{DeviceState, risen, risen_by}
use Rattle.il_device.specs.Passing.{is_plain}
use Rattle.il_ring.specs.declared.plan.Arrival.{Arrival}
use Rattle.il_ring.specs.declared.plan.Arrival.TheVariants as arrival
use Rattle.il_ring.specs.declared.plan.PlanFault.{PlanFault}
use Rattle.il_ring.specs.Plans.{next_fault}
use Rattle.il_ring.specs.Flights.{sourced, hit, lost_at}
use Rattle.il_ring.specs.Books.{BooksView}
use Rattle.il_ring.specs.Journeys.{Trip, trip, Journey}
use Rattle.il_ring.specs.Rings.{comes, over_last_link, home, books_at, arrived, arriving}
use Rattle.il_ring.specs.Outcomes.{Obeys}
use Rattle.il_ring.proofs.Faults.{IsClear, clear_last, risen_by_last}
use Rattle.il_ring.proofs.Passes.{plain_hit, goes_past}
use Rattle.il_ring.specs.Lists.{Each, First}
use Rattle.il_ring.proofs.PassKinds.{Is, Any, plain_passes, plain_no_data}
use Rattle.il_ring.proofs.DataHome.{EndsAt}

pub any_each : (k : ℕ) (ds : List DeviceState) → Each Any k ds
any_each k [] = tt
any_each k (d ∷ ds) = (tt, any_each (k + 1) ds)

-- it comes to the host, and nothing was planned on its way
pub record EndTaken (b : BooksView) (n p : ℕ) (h : Frame) (ds es : List DeviceState) (s : BooksView) (answer : Arrival) : Type 0 where
  pub answer_is : answer ≡ arrival.Frame h
  pub books : s ≡ record b { crossings = risen_by (suc (length ds)) n; log = b.log ++ record { source = p; frame = h; outcome = outcome.Taken 0 } ∷ []; held = None }
  pub clear : IsClear b.plan n (suc (length ds))

-- or is lost
pub record EndLost (b : BooksView) (k n p : ℕ) (h : Frame) (ds es : List DeviceState) (s : BooksView) (answer : Arrival) : Type 0 where
  pub answer_is : answer ≡ arrival.Lost
  pub reached : ℕ
  pub within : reached ≤ length ds
  pub party : ℕ
  pub party_is : (party ≡ 0) ⊎ ((party ≡ k + reached) × (reached < length ds))
  pub books : s ≡ record b { crossings = risen_by (suc reached) n; log = b.log ++ record { source = p; frame = h; outcome = outcome.Lost party } ∷ []; held = None }
  pub planned : next_fault b.plan (risen_by reached n) ≢ None

pub record EndHome (b : BooksView) (k n p : ℕ) (h : Frame) (ds es : List DeviceState) (s : BooksView) (answer : Arrival) : Type 0 where
  pub reached : ℕ
  pub took : First (Obeys (message_of h)) reached ds es
  pub end : EndTaken b n p h ds es s answer ⊎ EndLost b k n p h ds es s answer

at_host : (b : BooksView) (k n p : ℕ) (h : Frame) (fault : Option PlanFault) (ds es : List DeviceState) (t : Trip) (s : BooksView) (answer : Arrival) → is_data h ≡ false → 1 ≤ p → t ≡ trip (risen_by (length ds) n) b.log (Some (sourced p h)) → IsClear b.plan n (length ds)
    → next_fault b.plan (risen_by (length ds) n) ≡ fault → EndsAt b t s answer → EndTaken b n p h ds es s answer ⊎ EndLost b k n p h ds es s answer
at_host b k n p h None ds es t s answer plain some is clear planned ends =
    let m = risen_by (length ds) n in
    let g = sourced p h in
    let hits : hit (next_fault b.plan m) g ≡ Some g = ap (λ fault. hit fault g) planned in
    let other : (p == 0) ≡ false = ne_eqb p 0 (λ e. omega (arith, e, some)) in
    let books : s ≡ over_last_link (record b { crossings = risen m }) g (Some g) = ends.0 ∙ ap (λ t. home (books_at b t) t.flight) is ∙ ap (over_last_link (record b { crossings = risen m }) g) hits in
    inl (record {
      answer_is = ends.1 ∙ ap (λ (t : Trip). arrived (arriving b.plan t.crossings t.flight)) is ∙ ap arrived hits;
      books =
          books ∙ ap₂ (λ own data_frame. comes (record b { crossings = risen m }) g own data_frame) other plain
          ∙ ap (λ own. record b { crossings = risen m; log = b.log ++ record { source = p; frame = h; outcome = if own then outcome.Back h else outcome.Taken 0 } ∷ []; held = None }) other
          ∙ ap (λ n. record b { crossings = n; log = b.log ++ record { source = p; frame = h; outcome = outcome.Taken 0 } ∷ []; held = None }) (risen_by_last (length ds) n);
      clear = clear_last b.plan (length ds) n clear planned;
    })
at_host b k n p h (Some fault) ds es t s answer plain some is clear planned ends =
    let m = risen_by (length ds) n in
    let g = sourced p h in
    let hits : hit (next_fault b.plan m) g ≡ None = ap (λ fault. hit fault g) planned ∙ plain_hit fault g plain in
    inr (record {
      answer_is = ends.1 ∙ ap (λ (t : Trip). arrived (arriving b.plan t.crossings t.flight)) is ∙ ap arrived hits;
      reached = length ds;
      within = omega arith;
      party = 0;
      party_is = inl refl;
      books =
          ends.0 ∙ ap (λ t. home (books_at b t) t.flight) is ∙ ap (over_last_link (record b { crossings = risen m }) g) hits
          ∙ ap (λ n. record b { crossings = n; log = b.log ++ lost_at g 0 ∷ []; held = None }) (risen_by_last (length ds) n);
      planned = λ none. let clash = sym planned ∙ none in cc;
    })

-- a plain frame of party p goes past devices, the first of which is party k, and comes home
pub end_home : (b : BooksView) (k n p : ℕ) (h : Frame) (ds es : List DeviceState) (t : Trip) (s : BooksView) (answer : Arrival) → is_plain (message_of h) ≡ true → 1 ≤ p → Journey b.plan k (trip n b.log (Some (sourced p h))) ds t es → EndsAt b t s answer
    → EndHome b k n p h ds es s answer
end_home b k n p h ds es t s answer plain some journey ends =
    ⊎_elim
    (λ on. record {
      reached = length ds;
      took = on.took;
      end = at_host b k n p h (next_fault b.plan (risen_by (length ds) n)) ds es t s answer (plain_no_data h plain) some (on.trip_is ∙ ap (λ now. trip (risen_by (length ds) n) b.log (Some (record (sourced p h) { now = now }))) on.is_now) on.clear refl ends;
    })
    (λ lost. record {
      reached = lost.reached;
      took = lost.took;
      end = inr (record {
        answer_is = ends.1 ∙ ap (λ (t : Trip). arrived (arriving b.plan t.crossings t.flight)) lost.trip_is;
        reached = lost.reached;
        within = omega (arith, lost.within);
        party = k + lost.reached;
        party_is = inr (refl, lost.within);
        books = ends.0 ∙ ap (λ t. home (books_at b t) t.flight) lost.trip_is;
        planned = lost.planned;
      });
    })
    (goes_past (Is h) Any (Obeys (message_of h)) (plain_passes h plain) b.plan k n b.log (sourced p h) ds es t (any_each k ds) refl journey)
