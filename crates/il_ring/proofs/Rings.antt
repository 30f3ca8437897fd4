-- What holds of a ring at every moment.
use Rattle.std.proofs.Common.{◌≡◌, ◌≢◌, ◌≤◌, ◌+◌, ◌==◌, ◌⊎◌, inl, inr, ℕ, suc, Bool, true, false, List, [], ◌∷◌, Option, Some, None, length, refl, sym, ap, subst, ◌∙◌, arith}
use Rattle.std.proofs.lemmas.Bool.{eq-eqb}
use Rattle.il_frames.specs.declared.frame.Frame.{Frame}
use Rattle.il_frames.specs.Frames.{is_data}
use Rattle.il_device.specs.State.{DeviceState, risen}
use Rattle.il_ports.specs.Media.{MediumView}
use Rattle.il_drive.specs.State.{DriveView, IsDrive}
use Rattle.il_ring.specs.declared.plan.Planned.{Planned}
use Rattle.il_ring.specs.declared.plan.Arrival.{Arrival}
use Rattle.il_ring.specs.declared.flight.Flight.{Flight}
use Rattle.il_ring.specs.Plans.{next_fault, last_crossing, IsPlan}
use Rattle.il_ring.specs.Flights.{sourced, hit}
use Rattle.il_ring.specs.Books.{BooksView, IsHeld}
use Rattle.il_ring.specs.Fates.{GoesByPlan, HoldsByPlan, ShowsPlan}
use Rattle.il_ring.specs.Journeys.{Trip, trip_of, Passage, Journey, DriveTakes}
use Rattle.il_ring.specs.Rings.{RingView, IsRing, Round, devices_of, books_at, ring_emptied, comes, home, over_last_link}
use Rattle.il_ring.proofs.Faults.{risen_within}
use Rattle.il_ring.proofs.Fates.{TellsTrip, sourced_way, told_cleared, journey_so, home_told, starts_so}
use Rattle.il_ring.proofs.RoundCounts.{round_journey}
use Rattle.il_ring.proofs.Journeys.{past_party}

-- ---- as many devices

pub Journey-length : (plan : List Planned) (k : ℕ) (t u : Trip) (ds es : List DeviceState) → Journey plan k t ds u es → length es ≡ length ds
Journey-length plan k t u [] [] journey = refl
Journey-length plan k t u (d ∷ ds) (e ∷ es) journey = ap suc (Journey-length plan (k + 1) journey.0 u ds es journey.2)
Journey-length plan k t u [] (e ∷ es) journey = absurd journey
Journey-length plan k t u (d ∷ ds) [] journey = absurd journey

module _ {M : Type 0} (view : M → MediumView) (r s : RingView M) (held : Option Flight) (f : Flight) (answer : Arrival) (round : Round view r held f answer s) where
  pub before-length : length s.before ≡ length r.before
  before-length = Journey-length r.books.plan 1 (trip_of r.books (Some f)) round.at_drive r.before s.before round.to_drive

  pub after-length : length s.after ≡ length r.after
  after-length = Journey-length r.books.plan (length r.before + 2) round.past_drive round.past_all r.after s.after round.from_drive

  pub devices-length : length (devices_of s) ≡ length (devices_of r)
  devices-length = Journey-length r.books.plan 1 (trip_of r.books (Some f)) round.past_all (devices_of r) (devices_of s) (round_journey view r s held f answer round)

-- ---- the books at home

-- what holds of the books of a ring, beside its plan
record AreBooks (b : BooksView) : Type 0 where
  crossings : b.crossings ≤ last_crossing
  held : IsHeld b.held

no_host : (source : ℕ) → (source == 0) ≡ false → source ≢ 0
no_host source other zero = let clash = sym other ∙ eq-eqb source 0 zero in cc

comes-books : (b : BooksView) (f : Flight) (own data_frame : Bool) → AreBooks b → (f.source == 0) ≡ own → is_data f.now ≡ data_frame → AreBooks (comes b f own data_frame)
comes-books b f true data_frame are own is = record { crossings = are.crossings; held = are.held }
comes-books b f false true are own is = record { crossings = are.crossings; held = (no_host f.source own, is) }
comes-books b f false false are own is = record { crossings = are.crossings; held = tt }

over-books : (b : BooksView) (f : Flight) (o : Option Flight) → AreBooks b → AreBooks (over_last_link b f o)
over-books b f None are = record { crossings = are.crossings; held = tt }
over-books b f (Some g) are = comes-books b g (g.source == 0) (is_data g.now) are refl refl

home-books : (b : BooksView) (flight : Option Flight) → AreBooks b → AreBooks (home b flight)
home-books b None are = record { crossings = are.crossings; held = tt }
home-books b (Some f) are = over-books (record b { crossings = risen b.crossings }) f (hit (next_fault b.plan b.crossings) f) (record { crossings = risen_within b.crossings; held = are.held })

-- ---- plan, room and where the log begins stay

-- the books at home: plan, room, where the log begins, and what is lent or kept are as before
record KeepsPlace (b c : BooksView) : Type 0 where
  plan : c.plan ≡ b.plan
  room : c.room ≡ b.room
  begun : c.begun ≡ b.begun
  lent : c.lent ≡ b.lent
  kept : c.kept ≡ b.kept

comes-place : (b : BooksView) (f : Flight) (own data_frame : Bool) → KeepsPlace b (comes b f own data_frame)
comes-place b f true data_frame = record { plan = refl; room = refl; begun = refl; lent = refl; kept = refl }
comes-place b f false true = record { plan = refl; room = refl; begun = refl; lent = refl; kept = refl }
comes-place b f false false = record { plan = refl; room = refl; begun = refl; lent = refl; kept = refl }

over-place : (b : BooksView) (f : Flight) (o : Option Flight) → KeepsPlace b (over_last_link b f o)
over-place b f None = record { plan = refl; room = refl; begun = refl; lent = refl; kept = refl }
over-place b f (Some g) = comes-place b g (g.source == 0) (is_data g.now)

home-place : (b : BooksView) (flight : Option Flight) → KeepsPlace b (home b flight)
home-place b None = record { plan = refl; room = refl; begun = refl; lent = refl; kept = refl }
home-place b (Some f) =
    let over = over-place (record b { crossings = risen b.crossings }) f (hit (next_fault b.plan b.crossings) f) in
    record { plan = over.plan; room = over.room; begun = over.begun; lent = over.lent; kept = over.kept }

module _ {M : Type 0} (view : M → MediumView) (r s : RingView M) (held : Option Flight) (f : Flight) (answer : Arrival) (round : Round view r held f answer s) where
  at_home : KeepsPlace (books_at (record r.books { held = held }) round.past_all) s.books
  at_home = subst (KeepsPlace (books_at (record r.books { held = held }) round.past_all)) (sym round.books) (home-place (books_at (record r.books { held = held }) round.past_all) round.past_all.flight)

  pub round-plan : s.books.plan ≡ r.books.plan
  round-plan = at_home.plan

  pub round-room : s.books.room ≡ r.books.room
  round-room = at_home.room

  pub round-begun : s.books.begun ≡ r.books.begun
  round-begun = at_home.begun

-- ---- the drive keeps its law

pub Passage-drive : {M : Type 0} (view : M → MediumView) (plan : List Planned) (k : ℕ) (t u : Trip) (d e : DriveView M) → (n : ℕ) × IsDrive n d.state → Passage (DriveTakes view) plan k t d u e → (n : ℕ) × IsDrive n e.state
Passage-drive view plan k t u d e is passage =
    past_party (DriveTakes view) plan k t d (λ u (e : DriveView _). (n : ℕ) × IsDrive n e.state) (λ none. is) (λ f at gone. is) (λ f g out e at came took. ((view e.medium).record_count, took.law)) u e passage

-- ---- what keeps it

-- the trip of a round shows the faults as they were planned
round-tells : {M : Type 0} (view : M → MediumView) (r s : RingView M) (held : Option Flight) (f : Flight) (answer : Arrival) (round : Round view r held f answer s) → IsRing r
    → HoldsByPlan r.books.plan r.books.begun r.books.crossings held → GoesByPlan r.books.plan r.books.begun r.books.crossings f → TellsTrip (record r.books { held = held }) round.past_all
round-tells view r s held f answer round is ways way =
    journey_so (record r.books { held = held }) 1 (trip_of r.books (Some f)) round.past_all (devices_of r) (devices_of s) (starts_so r.books held f is.crossings ways way is.told) (round_journey view r s held f answer round)

-- a round does, of a frame that is under way as planned, with one held meanwhile that is as planned too
pub IsRing-round : {M : Type 0} (view : M → MediumView) (r s : RingView M) (held : Option Flight) (f : Flight) (answer : Arrival) → Round view r held f answer s → IsRing r → IsHeld held
    → HoldsByPlan r.books.plan r.books.begun r.books.crossings held → GoesByPlan r.books.plan r.books.begun r.books.crossings f → IsRing s
IsRing-round view r s held f answer round is is_held ways way =
    let tells = round-tells view r s held f answer round is ways way in
    let before = before-length view r s held f answer round in
    let after = after-length view r s held f answer round in
    let books = subst AreBooks (sym round.books) (home-books (books_at (record r.books { held = held }) round.past_all) round.past_all.flight (record { crossings = tells.within; held = is_held })) in
    record {
      few = omega (arith, is.few, before, after);
      plan = subst IsPlan (sym (round-plan view r s held f answer round)) is.plan;
      crossings = books.crossings;
      held = books.held;
      drive = Passage-drive view r.books.plan (length r.before + 1) round.at_drive round.past_drive r.drive s.drive is.drive round.at;
      lent = (at_home view r s held f answer round).lent ∙ is.lent;
      kept = (at_home view r s held f answer round).kept ∙ is.kept;
      told = subst ShowsPlan (sym round.books) (home_told (record r.books { held = held }) round.past_all tells);
    }

-- of a frame of the host, with none held meanwhile, or the one that is
pub IsRing-send : {M : Type 0} (view : M → MediumView) (r s : RingView M) (held : Option Flight) (f : Frame) (answer : Arrival) → Round view r held (sourced 0 f) answer s → IsRing r → (held ≡ None) ⊎ (held ≡ r.books.held) → IsRing s
IsRing-send view r s held f answer round is (inl none) =
    IsRing-round view r s held (sourced 0 f) answer round is (subst IsHeld (sym none) tt) (subst (HoldsByPlan r.books.plan r.books.begun r.books.crossings) (sym none) tt) (sourced_way r.books.plan r.books.begun r.books.crossings 0 f)
IsRing-send view r s held f answer round is (inr same) =
    IsRing-round view r s held (sourced 0 f) answer round is (subst IsHeld (sym same) is.held) (subst (HoldsByPlan r.books.plan r.books.begun r.books.crossings) (sym same) is.told.held) (sourced_way r.books.plan r.books.begun r.books.crossings 0 f)

-- of the held frame
pub IsRing-relay : {M : Type 0} (view : M → MediumView) (r s : RingView M) (f : Flight) (answer : Arrival) → Round view r None f answer s → IsRing r → r.books.held ≡ Some f → IsRing s
IsRing-relay view r s f answer round is held = IsRing-round view r s None f answer round is tt tt (subst (HoldsByPlan r.books.plan r.books.begun r.books.crossings) held is.told.held)

-- and so does an emptying of the log
pub IsRing-clear : {M : Type 0} (r : RingView M) → IsRing r → IsRing (ring_emptied r)
IsRing-clear r is = record { few = is.few; plan = is.plan; crossings = is.crossings; held = is.held; drive = is.drive; lent = is.lent; kept = is.kept; told = told_cleared r.books is.told }
