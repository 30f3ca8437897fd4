-- Rounds of frames of the host that every device passes on.
use Rattle.std.proofs.Common.{◌≡◌, ◌≢◌, ◌≤◌, ◌<◌, ◌+◌, ◌++◌, ◌⊎◌, inl, inr, ⊎_elim, ℕ, suc, false, [], ◌∷◌, Option, Some, None, length, refl, sym, ap, subst, ◌∙◌, arith}
use Rattle.il_frames.specs.declared.frame.Frame.{Frame}
use Rattle.il_frames.specs.declared.entry.Outcome.TheVariants as outcome
use Rattle.il_frames.specs.Frames.{is_data}
use Rattle.il_device.specs.State.{DeviceState, risen, risen_by}
use Rattle.il_ports.specs.Media.{MediumView}
use Rattle.il_frames.specs.NamedFrames.{entry}
use Rattle.loop_model.specs.Reach.{met}
use Rattle.il_ring.specs.declared.plan.PlanFault.{PlanFault}
use Rattle.il_ring.specs.declared.plan.Arrival.{Arrival}
use Rattle.il_ring.specs.declared.flight.Flight.{Flight}
use Rattle.il_ring.specs.Plans.{hops_of, next_fault, last_crossing}
use Rattle.il_ring.specs.Flights.{sourced, hit}
use Rattle.il_ring.specs.Books.{BooksView}
use Rattle.il_ring.specs.Journeys.{Trip, trip}
use Rattle.il_ring.specs.Rings.{RingView, Round, devices_of, home, over_last_link, books_at, arrived, arriving}
use Rattle.il_ring.specs.Outcomes.{Returned, WasLost}
use Rattle.il_ring.proofs.Faults.{IsClear, clear_met, clear_last, met_at, risen_by_last}
use Rattle.il_ring.proofs.Passes.{PassesOn, plain_hit, goes_past}
use Rattle.il_ring.specs.Lists.{Each, First}
use Rattle.il_ring.proofs.RoundCounts.{round_journey}

-- what a round was
abbrev pub RoundEnd : {M : Type 0} → (RingView M) → Option Flight → Trip → Arrival → RingView M → Type 0
RoundEnd r held t answer s = (s.books ≡ home (books_at (record r.books { held = held }) t) t.flight) × (answer ≡ arrived (arriving r.books.plan t.crossings t.flight))

pub round_end : {M : Type 0} (view : M → MediumView) (r s : RingView M) (held : Option Flight) (f : Flight) (answer : Arrival) (round : Round view r held f answer s) → RoundEnd r held round.past_all answer s
round_end view r s held f answer round = (round.books, round.answer_is)

-- ---- over the last link

module _ {M : Type 0} (r s : RingView M) (held : Option Flight) (f : Frame) (answer : Arrival) where
  -- if the frame has passed all devices
  pub at_last : (g : Frame) (t : Trip) (fault : Option PlanFault) → r.books.crossings ≤ last_crossing → is_data g ≡ false
      → t ≡ trip (risen_by (length (devices_of r)) r.books.crossings) r.books.log (Some (record (sourced 0 f) { now = g })) → IsClear r.books.plan r.books.crossings (length (devices_of r))
      → next_fault r.books.plan (risen_by (length (devices_of r)) r.books.crossings) ≡ fault → RoundEnd r held t answer s → Returned r held f g answer s ⊎ WasLost r 0 f answer s
  at_last g t None within plain is clear planned end =
      let k = length (devices_of r) in
      let n = risen_by k r.books.crossings in
      let flight = record (sourced 0 f) { now = g } in
      let b : BooksView = record r.books { crossings = n; held = held } in
      let hits : hit (next_fault r.books.plan n) flight ≡ Some flight = ap (λ fault. hit fault flight) planned in
      let books : s.books ≡ over_last_link (record b { crossings = risen n }) flight (hit (next_fault r.books.plan n) flight) =
      end.0 ∙ ap (λ t. home (books_at (record r.books { held = held }) t) t.flight) is in
      let came : s.books ≡ record b { crossings = risen n; log = r.books.log ++ entry 0 f (outcome.Back g) ∷ [] } =
      books ∙ ap (over_last_link (record b { crossings = risen n }) flight) hits in
      inl (record {
        answer_is = end.1 ∙ ap (λ (t : Trip). arrived (arriving r.books.plan t.crossings t.flight)) is ∙ ap arrived hits;
        log = ap (λ (b : BooksView). b.log) came;
        held_is = ap (λ (b : BooksView). b.held) came;
        met_none =
            ap (met (hops_of r.books.plan) r.books.crossings) (ap (λ (b : BooksView). b.crossings) came ∙ risen_by_last k r.books.crossings)
            ∙ (clear_met r.books.plan (suc k) r.books.crossings within).1 (clear_last r.books.plan k r.books.crossings clear planned);
      })
  at_last g t (Some fault) within plain is clear planned end =
      let k = length (devices_of r) in
      let n = risen_by k r.books.crossings in
      let flight = record (sourced 0 f) { now = g } in
      let b : BooksView = record r.books { crossings = n; held = held } in
      let hits : hit (next_fault r.books.plan n) flight ≡ None = ap (λ fault. hit fault flight) planned ∙ plain_hit fault flight plain in
      let books : s.books ≡ over_last_link (record b { crossings = risen n }) flight (hit (next_fault r.books.plan n) flight) =
      end.0 ∙ ap (λ t. home (books_at (record r.books { held = held }) t) t.flight) is in
      let lost : s.books ≡ record b { crossings = risen n; log = r.books.log ++ entry 0 f (outcome.Lost 0) ∷ []; held = None } =
      books ∙ ap (over_last_link (record b { crossings = risen n }) flight) hits in
      inr (record {
        answer_is = end.1 ∙ ap (λ (t : Trip). arrived (arriving r.books.plan t.crossings t.flight)) is ∙ ap arrived hits;
        party = 0;
        on_ring = omega arith;
        log = ap (λ (b : BooksView). b.log) lost;
        held_is = ap (λ (b : BooksView). b.held) lost;
        met_some = λ none.
            met_at r.books.plan k (suc k) r.books.crossings within (omega arith) (λ clear_here. let clash = sym planned ∙ clear_here in cc)
            (ap (met (hops_of r.books.plan) r.books.crossings) (sym (ap (λ (b : BooksView). b.crossings) lost ∙ risen_by_last k r.books.crossings)) ∙ none);
      })

  -- if it was lost before
  pub lost_before : (reached : ℕ) (t : Trip) → r.books.crossings ≤ last_crossing → reached < length (devices_of r)
      → t ≡ trip (risen_by (suc reached) r.books.crossings) (r.books.log ++ entry 0 f (outcome.Lost (1 + reached)) ∷ []) None
      → next_fault r.books.plan (risen_by reached r.books.crossings) ≢ None → RoundEnd r held t answer s → WasLost r 0 f answer s
  lost_before reached t within on is planned end =
      let lost : s.books ≡ record r.books { crossings = risen_by (suc reached) r.books.crossings; log = r.books.log ++ entry 0 f (outcome.Lost (1 + reached)) ∷ []; held = None } =
      end.0 ∙ ap (λ t. home (books_at (record r.books { held = held }) t) t.flight) is in
      record {
        answer_is = end.1 ∙ ap (λ (t : Trip). arrived (arriving r.books.plan t.crossings t.flight)) is;
        party = 1 + reached;
        on_ring = omega (arith, on);
        log = ap (λ (b : BooksView). b.log) lost;
        held_is = ap (λ (b : BooksView). b.held) lost;
        met_some = λ none.
            met_at r.books.plan reached (suc reached) r.books.crossings within (omega arith) planned
            (ap (met (hops_of r.books.plan) r.books.crossings) (sym (ap (λ (b : BooksView). b.crossings) lost)) ∙ none);
      }

-- ---- the whole round

-- what became of the frame, and of each device
pub record PassedRound {M : Type 0} (Q : ℕ → Frame → Type 0) (R : DeviceState → DeviceState → Type 0) (r : RingView M) (held : Option Flight) (f : Frame) (answer : Arrival) (s : RingView M) : Type 0 where
  pub reached : ℕ
  pub took : First R reached (devices_of r) (devices_of s)
  pub end : ((g : Frame) × Q (suc (length (devices_of r))) g × (reached ≡ length (devices_of r)) × Returned r held f g answer s) ⊎ WasLost r 0 f answer s

pub passed_round : {M : Type 0} (view : M → MediumView) (Q : ℕ → Frame → Type 0) (P : ℕ → DeviceState → Type 0) (R : DeviceState → DeviceState → Type 0) → PassesOn Q P R → (r s : RingView M) (held : Option Flight) (f : Frame) (answer : Arrival)
    → r.books.crossings ≤ last_crossing → Each P 1 (devices_of r) → Q 1 f → Round view r held (sourced 0 f) answer s → PassedRound Q R r held f answer s
passed_round view Q P R rule r s held f answer within fit is round =
    let k = length (devices_of r) in
    ⊎_elim
    (λ on.
    let far : 1 + k ≡ suc k = omega arith in
    let last : Q (suc k) on.now = subst (λ j. Q j on.now) far on.is_now in
    record {
      reached = k;
      took = on.took;
      end = ⊎_elim (λ back. inl (on.now, last, refl, back)) (λ lost. inr lost)
          (at_last r s held f answer on.now round.past_all (next_fault r.books.plan (risen_by k r.books.crossings)) within (rule.no_data (suc k) on.now last) on.trip_is on.clear refl (round_end view r s held (sourced 0 f) answer round));
    })
    (λ lost. record {
      reached = lost.reached;
      took = lost.took;
      end = inr (lost_before r s held f answer lost.reached round.past_all within lost.within lost.trip_is lost.planned (round_end view r s held (sourced 0 f) answer round));
    })
    (goes_past Q P R rule r.books.plan 1 r.books.crossings r.books.log (sourced 0 f) (devices_of r) (devices_of s) round.past_all fit is (round_journey view r s held (sourced 0 f) answer round))
