-- A data or end frame that goes past silent devices comes home to the host.
use Rattle.std.proofs.Common.{◌≡◌, ◌≢◌, ◌≤◌, ◌<◌, ◌+◌, ◌++◌, ◌⊎◌, ◌==◌, inl, inr, ℕ, suc, true, false, List, [], ◌∷◌, Option, Some, None, length, refl, ap, ◌∙◌, arith, ◌&&◌, Bool, not, sym, ap₂, subst}
use Rattle.il_frames.specs.declared.frame.Frame.{Frame}
use Rattle.il_frames.specs.Frames.{byte_of, is_data, with_service}
use Rattle.il_device.specs.State.{DeviceState, risen, risen_by}
use Rattle.il_ring.specs.declared.plan.Arrival.{Arrival}
use Rattle.il_ring.specs.declared.plan.Arrival.TheVariants as arrival
use Rattle.il_ring.specs.declared.flight.Flight.{Flight}
use Rattle.il_ring.specs.Plans.{IsPlan, next_fault}
use Rattle.il_ring.specs.Flights.{hit, lost_at, altered_by}
use Rattle.il_ring.specs.Books.{BooksView}
use Rattle.il_ring.specs.Journeys.{Trip, trip}
use Rattle.il_ring.specs.Rings.{home, comes, over_last_link, books_at, arrived, arriving}
use Rattle.il_ring.specs.Outcomes.{HearsByte}
use Rattle.il_ring.proofs.Faults.{IsClear, clear_last, risen_by_last}
use Rattle.il_ring.specs.Lists.{First}
use Rattle.il_ring.proofs.DataPasses.{DataGoes, CameAltered, first_any, xor_other, next_alters}
use Rattle.il_ring.specs.Outcomes.{HearsAny}
use Rattle.std.specs.Prelude.{if◌then◌else◌}
use Rattle.std.proofs.lemmas.Bool.{and_parts, not-true}
use Rattle.il_frames.specs.declared.entry.Outcome.TheVariants as outcome
use Rattle.il_ring.specs.declared.plan.PlanFault.{PlanFault}
use Rattle.il_ring.specs.declared.plan.PlanFault.TheVariants.{Lose, Alter}

-- how a trip ends at the host: the books, and what arrives
abbrev pub EndsAt : BooksView → Trip → BooksView → Arrival → Type 0
EndsAt b t s answer = (s ≡ home (books_at b t) t.flight) × (answer ≡ arrived (arriving b.plan t.crossings t.flight))

-- it comes home the same apart from the service bit, and nothing was planned on its way
pub record HomeClean (b : BooksView) (n : ℕ) (f : Flight) (ds es : List DeviceState) (s : BooksView) (answer : Arrival) : Type 0 where
  pub now : Frame
  pub answer_is : answer ≡ arrival.Frame now
  pub books : s ≡ comes (record b { crossings = risen_by (suc (length ds)) n }) (record f { now = now }) (f.source == 0) true
  pub data_frame : is_data now ≡ true
  pub same : with_service now ≡ with_service f.now
  pub clear : IsClear b.plan n (suc (length ds))
  pub took : First (HearsByte (byte_of f.now)) (length ds) ds es

-- it comes home with another byte
pub record HomeAltered (b : BooksView) (n : ℕ) (f : Flight) (ds es : List DeviceState) (s : BooksView) (answer : Arrival) : Type 0 where
  pub now : Frame
  pub answer_is : answer ≡ arrival.Frame now
  pub books : s ≡ comes (record b { crossings = risen_by (suc (length ds)) n }) (record f { now = now; altered = true }) (f.source == 0) true
  pub data_frame : is_data now ≡ true
  pub first : f.altered ≡ false
  pub other : byte_of now ≢ byte_of f.now
  pub hop : ℕ
  pub within : hop ≤ length ds
  pub planned : next_fault b.plan (risen_by hop n) ≢ None
  pub took : First HearsAny (length ds) ds es

-- it was lost after this many devices, the first of which is party k
pub record HomeLost (b : BooksView) (k n : ℕ) (f : Flight) (ds es : List DeviceState) (s : BooksView) (answer : Arrival) : Type 0 where
  pub answer_is : answer ≡ arrival.Lost
  pub reached : ℕ
  pub within : reached ≤ length ds
  pub party : ℕ
  pub party_is : (party ≡ 0) ⊎ ((party ≡ k + reached) × (reached < length ds))
  pub books : s ≡ record b { crossings = risen_by (suc reached) n; log = b.log ++ lost_at f party ∷ []; held = None }
  pub planned : next_fault b.plan (risen_by reached n) ≢ None
  pub took : First HearsAny reached ds es

abbrev pub DataHome : BooksView → ℕ → ℕ → Flight → List DeviceState → List DeviceState → BooksView → Arrival → Type 0
DataHome b k n f ds es s answer = HomeClean b n f ds es s answer ⊎ (HomeAltered b n f ds es s answer ⊎ HomeLost b k n f ds es s answer)

-- ---- over the last link

-- what the last link makes of the frame g
abbrev LinkEnds : BooksView → ℕ → Flight → Option Flight → BooksView → Arrival → Type 0
LinkEnds b n g o s answer = (s ≡ over_last_link (record b { crossings = risen n }) g o) × (answer ≡ arrived o)

ends_link : (b : BooksView) (t : Trip) (n : ℕ) (g : Flight) (s : BooksView) (answer : Arrival) → t ≡ trip n b.log (Some g) → EndsAt b t s answer → LinkEnds b n g (hit (next_fault b.plan n) g) s answer
ends_link b t n g s answer is ends = (ends.0 ∙ ap (λ t. home (books_at b t) t.flight) is, ends.1 ∙ ap (λ (t : Trip). arrived (arriving b.plan t.crossings t.flight)) is)

count_home : (b : BooksView) (n m : ℕ) (g : Flight) (own : Bool) → comes (record b { crossings = risen (risen_by m n) }) g own true ≡ comes (record b { crossings = risen_by (suc m) n }) g own true
count_home b n m g own = ap (λ n. comes (record b { crossings = n }) g own true) (risen_by_last m n)

lost_last : (b : BooksView) (k n : ℕ) (f g : Flight) (fault : PlanFault) (ds es : List DeviceState) (s : BooksView) (answer : Arrival) → g.source ≡ f.source → g.sent ≡ f.sent → next_fault b.plan (risen_by (length ds) n) ≡ Some fault
    → First HearsAny (length ds) ds es → LinkEnds b (risen_by (length ds) n) g None s answer → HomeLost b k n f ds es s answer
lost_last b k n f g fault ds es s answer source sent planned took ends = record {
  answer_is = ends.1;
  reached = length ds;
  within = omega arith;
  party = 0;
  party_is = inl refl;
  books =
      ends.0 ∙ ap (λ n. record b { crossings = n; log = b.log ++ lost_at g 0 ∷ []; held = None }) (risen_by_last (length ds) n)
      ∙ ap₂ (λ source sent. record b { crossings = risen_by (suc (length ds)) n; log = b.log ++ record { source = source; frame = sent; outcome = outcome.Lost 0 } ∷ []; held = None }) source sent;
  planned = λ none. let clash = sym planned ∙ none in cc;
  took = took;
}

-- after devices that it passed as it was
clean_last : (b : BooksView) (k n : ℕ) (f : Flight) (now : Frame) (fault : Option PlanFault) (ds es : List DeviceState) (s : BooksView) (answer : Arrival) → IsPlan b.plan → is_data now ≡ true → with_service now ≡ with_service f.now
    → IsClear b.plan n (length ds) → First (HearsByte (byte_of f.now)) (length ds) ds es → next_fault b.plan (risen_by (length ds) n) ≡ fault
    → LinkEnds b (risen_by (length ds) n) (record f { now = now }) (hit fault (record f { now = now })) s answer → DataHome b k n f ds es s answer
clean_last b k n f now None ds es s answer is data_frame same clear took none ends = inl (record {
  now = now;
  answer_is = ends.1;
  books = ends.0 ∙ ap (λ data_frame. comes (record b { crossings = risen (risen_by (length ds) n) }) (record f { now = now }) (f.source == 0) data_frame) data_frame ∙ count_home b n (length ds) (record f { now = now }) (f.source == 0);
  data_frame = data_frame;
  same = same;
  clear = clear_last b.plan (length ds) n clear none;
  took = took;
})
clean_last b k n f now (Some Lose) ds es s answer is data_frame same clear took planned ends =
    inr (inr (lost_last b k n f (record f { now = now }) Lose ds es s answer refl refl planned (first_any (byte_of f.now) (length ds) ds es took) ends))
clean_last b k n f now (Some (Alter change)) ds es s answer is data_frame same clear took planned ends =
    by_test (is_data now && not f.altered) refl ends
  where
    by_test : (may : Bool) → (is_data now && not f.altered) ≡ may → LinkEnds b (risen_by (length ds) n) (record f { now = now }) (if may then Some (record f { now = altered_by change now; altered = true }) else None) s answer → DataHome b k n f ds es s answer
    by_test true test ends = inr (inl (record {
      now = altered_by change now;
      answer_is = ends.1;
      books =
          ends.0 ∙ ap (λ data_frame. comes (record b { crossings = risen (risen_by (length ds) n) }) (record f { now = altered_by change now; altered = true }) (f.source == 0) data_frame) data_frame
          ∙ count_home b n (length ds) (record f { now = altered_by change now; altered = true }) (f.source == 0);
      data_frame = data_frame;
      first = not-true f.altered (and_parts (is_data now) (not f.altered) test).1;
      other = λ e. xor_other (byte_of now) change (next_alters b.plan (risen_by (length ds) n) change is planned) (e ∙ sym (ap byte_of same));
      hop = length ds;
      within = omega arith;
      planned = λ none. let clash = sym planned ∙ none in cc;
      took = first_any (byte_of f.now) (length ds) ds es took;
    }))
    by_test false test ends = inr (inr (lost_last b k n f (record f { now = now }) (Alter change) ds es s answer refl refl planned (first_any (byte_of f.now) (length ds) ds es took) ends))

-- after devices on whose way it was altered
altered_last : (b : BooksView) (k n : ℕ) (f : Flight) (fault : Option PlanFault) (ds es : List DeviceState) (t : Trip) (s : BooksView) (answer : Arrival) → (came : CameAltered b.plan n b.log f ds t es) → next_fault b.plan (risen_by (length ds) n) ≡ fault
    → LinkEnds b (risen_by (length ds) n) (record f { now = came.now; altered = true }) (hit fault (record f { now = came.now; altered = true })) s answer → DataHome b k n f ds es s answer
altered_last b k n f None ds es t s answer came none ends = inr (inl (record {
  now = came.now;
  answer_is = ends.1;
  books =
      ends.0 ∙ ap (λ data_frame. comes (record b { crossings = risen (risen_by (length ds) n) }) (record f { now = came.now; altered = true }) (f.source == 0) data_frame) came.data_frame
      ∙ count_home b n (length ds) (record f { now = came.now; altered = true }) (f.source == 0);
  data_frame = came.data_frame;
  first = came.first;
  other = came.other;
  hop = came.hop;
  within = omega (arith, came.within);
  planned = came.planned;
  took = came.took;
}))
altered_last b k n f (Some Lose) ds es t s answer came planned ends = inr (inr (lost_last b k n f (record f { now = came.now; altered = true }) Lose ds es s answer refl refl planned came.took ends))
altered_last b k n f (Some (Alter change)) ds es t s answer came planned ends =
    inr (inr (lost_last b k n f (record f { now = came.now; altered = true }) (Alter change) ds es s answer refl refl planned came.took
    (subst (λ may. LinkEnds b (risen_by (length ds) n) (record f { now = came.now; altered = true }) (if may then Some (record f { now = altered_by change came.now; altered = true }) else None) s answer) (twice (is_data came.now)) ends)))
  where
    twice : (data_frame : Bool) → (data_frame && false) ≡ false
    twice true = refl
    twice false = refl

pub data_home : (b : BooksView) (k n : ℕ) (f : Flight) (ds es : List DeviceState) (t : Trip) (s : BooksView) (answer : Arrival) → IsPlan b.plan → DataGoes b.plan k n b.log f ds t es → EndsAt b t s answer → DataHome b k n f ds es s answer
data_home b k n f ds es t s answer is (inl came) ends =
    let m = risen_by (length ds) n in
    clean_last b k n f came.now (next_fault b.plan m) ds es s answer is came.data_frame came.same came.clear came.took refl (ends_link b t m (record f { now = came.now }) s answer came.is ends)
data_home b k n f ds es t s answer is (inr (inl came)) ends =
    let m = risen_by (length ds) n in
    altered_last b k n f (next_fault b.plan m) ds es t s answer came refl (ends_link b t m (record f { now = came.now; altered = true }) s answer came.is ends)
data_home b k n f ds es t s answer is (inr (inr lost)) ends = inr (inr (record {
  answer_is = ends.1 ∙ ap (λ (t : Trip). arrived (arriving b.plan t.crossings t.flight)) lost.is;
  reached = lost.reached;
  within = omega (arith, lost.within);
  party = k + lost.reached;
  party_is = inr (refl, lost.within);
  books = ends.0 ∙ ap (λ t. home (books_at b t) t.flight) lost.is;
  planned = lost.planned;
  took = lost.took;
}))
