-- Crossings only go up along a round, so that what is reached on a part of it is reached on the whole.
use Rattle.std.proofs.Common.{◌≡◌, ◌≢◌, ◌≤◌, ◌+◌, ℕ, Bool, true, false, List, [], Option, Some, None, refl, sym, ap, ◌∙◌, arith}
use Rattle.std.specs.Prelude.{◌==◌}
use Rattle.il_frames.specs.declared.frame.Frame.{Frame}
use Rattle.il_frames.specs.declared.entry.Entry.{Entry}
use Rattle.il_frames.specs.Frames.{is_data}
use Rattle.il_device.specs.declared.device.Out.{Out}
use Rattle.il_device.specs.declared.device.Out.TheVariants.{Pass, Source}
use Rattle.il_device.specs.State.{DeviceState, risen, risen_by}
use Rattle.il_device.specs.Takes.{Takes}
use Rattle.il_ports.specs.Media.{MediumView}
use Rattle.loop_model.specs.Reach.{met}
use Rattle.il_ring.specs.declared.plan.Planned.{Planned}
use Rattle.il_ring.specs.declared.plan.Arrival.{Arrival}
use Rattle.il_ring.specs.declared.flight.Flight.{Flight}
use Rattle.il_ring.specs.Plans.{hops_of, next_fault, last_crossing}
use Rattle.il_ring.specs.Flights.{hit}
use Rattle.il_ring.specs.Books.{BooksView}
use Rattle.il_ring.specs.Journeys.{Trip, answered, Passage, Journey}
use Rattle.il_ring.specs.Rings.{RingView, Round, home, comes, over_last_link, books_at}
use Rattle.il_ring.specs.Outcomes.{met_between}
use Rattle.il_ring.proofs.Faults.{met_at}
use Rattle.il_ring.proofs.Counts.{risen_by-add}
use Rattle.il_ring.proofs.Journeys.{past_devices, past_party}

-- this many links more
abbrev pub Later : ℕ → ℕ → Type 0
Later n m = (links : ℕ) × (m ≡ risen_by links n)

later_same : (n m : ℕ) → m ≡ n → Later n m
later_same n m e = (0, e)

later_one : (n m : ℕ) → m ≡ risen n → Later n m
later_one n m e = (1, e)

pub later_then : (a b c : ℕ) → Later a b → Later b c → Later a c
later_then a b c first more = (first.0 + more.0, more.1 ∙ ap (risen_by more.0) first.1 ∙ sym (risen_by-add first.0 more.0 a))

pub answered_count : (n : ℕ) (log : List Entry) (k : ℕ) (f : Flight) (out : Out) → (answered n log k f out).crossings ≡ n
answered_count n log k f (Pass g) = refl
answered_count n log k f (Source g) = refl

pub passage_later : {D : Type 0} (takes : D → Frame → Out → D → Type 0) (plan : List Planned) (k : ℕ) (t : Trip) (d e : D) (u : Trip) → Passage takes plan k t d u e → Later t.crossings u.crossings
passage_later takes plan k t d e u passage = past_party takes plan k t d (λ u e. Later t.crossings u.crossings) (λ is. later_same t.crossings t.crossings refl) (λ f is gone. later_one t.crossings (risen t.crossings) refl)
    (λ f g out e is came took. later_one t.crossings (answered (risen t.crossings) t.log k g out).crossings (answered_count (risen t.crossings) t.log k g out)) u e passage

pub journey_later : (plan : List Planned) (k : ℕ) (t u : Trip) (ds es : List DeviceState) → Journey plan k t ds u es → Later t.crossings u.crossings
journey_later plan k t u ds es journey =
    (past_devices plan 0 (λ k u. Later t.crossings u.crossings) (λ d e. Unit {0})
    (λ k m u d e some before passage. (later_then t.crossings m.crossings u.crossings before (passage_later Takes plan k m d e u passage), tt)) k t u ds es (omega arith) (later_same t.crossings t.crossings refl) journey).0

comes_count : (b : BooksView) (f : Flight) (own data_frame : Bool) → (comes b f own data_frame).crossings ≡ b.crossings
comes_count b f true data_frame = refl
comes_count b f false true = refl
comes_count b f false false = refl

link_count : (b : BooksView) (f : Flight) (o : Option Flight) → (over_last_link b f o).crossings ≡ b.crossings
link_count b f None = refl
link_count b f (Some g) = comes_count b g (g.source == 0) (is_data g.now)

home_later : (b : BooksView) (flight : Option Flight) → Later b.crossings (home b flight).crossings
home_later b None = later_same b.crossings b.crossings refl
home_later b (Some f) = later_one b.crossings (home b (Some f)).crossings (link_count (record b { crossings = risen b.crossings }) f (hit (next_fault b.plan b.crossings) f))

pub end_later : {M : Type 0} (view : M → MediumView) (r s : RingView M) (held : Option Flight) (f : Flight) (answer : Arrival) (round : Round view r held f answer s) → Later round.past_all.crossings s.books.crossings
end_later view r s held f answer round =
    let last = home_later (books_at (record r.books { held = held }) round.past_all) round.past_all.flight in
    (last.0, ap (λ (b : BooksView). b.crossings) round.books ∙ last.1)

-- a planned hop that is reached on the way to a count is reached after it too
pub met_later : {M : Type 0} (r s : RingView M) (n hop m : ℕ) → r.books.crossings ≤ last_crossing → n ≡ risen_by m r.books.crossings → hop + 1 ≤ m → next_fault r.books.plan (risen_by hop r.books.crossings) ≢ None
    → Later n s.books.crossings → met_between r s ≢ []
met_later r s n hop m within at before planned later =
    let all : s.books.crossings ≡ risen_by (m + later.0) r.books.crossings = later.1 ∙ ap (risen_by later.0) at ∙ sym (risen_by-add m later.0 r.books.crossings) in
    λ none. met_at r.books.plan hop (m + later.0) r.books.crossings within (omega (arith, before)) planned (ap (met (hops_of r.books.plan) r.books.crossings) (sym all) ∙ none)
