-- What a round adds to the counts.
use Rattle.std.proofs.Common.{◌≡◌, ◌≤◌, ◌<◌, ◌+◌, ◌++◌, ◌⊎◌, ◌==◌, inl, inr, ⊎_elim, ℕ, suc, Bool, true, false, List, [], ◌∷◌, Option, Some, None, length, sum_by, cond, refl, sym, ap, subst, ◌∙◌, arith, append-nil, append_assoc, eqb-true}
use Rattle.std.specs.Prelude.{if◌then◌else◌}
use Rattle.std.proofs.lemmas.Bool.{eq-eqb}
use Rattle.std.proofs.Math.Nat.{eq-zero-or-pos}
use Rattle.std.proofs.lemmas.List.Sums.{sum_by-append}
use Rattle.il_frames.specs.declared.entry.Entry.{Entry}
use Rattle.il_frames.specs.declared.entry.Outcome.TheVariants as outcome
use Rattle.il_frames.specs.Frames.{is_data}
use Rattle.il_device.specs.State.{DeviceState, risen, risen_by}
use Rattle.il_device.specs.Takes.{Takes}
use Rattle.il_ports.specs.Media.{MediumView}
use Rattle.il_drive.specs.State.{DriveView, device_of}
use Rattle.loop_model.specs.Reach.{distance, came_to, links_of, brings_to, held_links, held_passes, passes_so_far}
use Rattle.loop_model.proofs.UnitLaws.{distance-self}
use Rattle.il_ring.specs.declared.plan.Planned.{Planned}
use Rattle.il_ring.specs.declared.plan.PlanFault.{PlanFault}
use Rattle.il_ring.specs.declared.plan.Arrival.{Arrival}
use Rattle.il_ring.specs.declared.plan.Arrival.TheVariants as arrival
use Rattle.il_ring.specs.declared.flight.Flight.{Flight}
use Rattle.il_ring.specs.Plans.{next_fault}
use Rattle.il_ring.specs.Flights.{hit, lost_at, ended_at}
use Rattle.il_ring.specs.Books.{BooksView}
use Rattle.il_ring.specs.Journeys.{Trip, trip_of, Meets, Reaches, Passage, Journey, DriveTakes}
use Rattle.il_ring.specs.Rings.{RingView, Round, devices_of, home, comes, over_last_link, books_at, arrived, arriving}
use Rattle.il_ring.specs.Ways.{way, come_to, on_way, brought}
use Rattle.il_ring.specs.Rounded.{IsReady, Rounded, AllTook, holding, device_sending}
use Rattle.il_ring.proofs.Journeys.{Journey-append}
use Rattle.il_ring.proofs.Ways.{way-self, way-home, home-to, back-home, home-held, come-held, start-held, start-come, start-host}
use Rattle.il_ring.proofs.Counts.{Framed, entries_to, entries_append, risen_by-add}
use Rattle.il_ring.proofs.CountSteps.{ComesFrom, Stands, hit_same, counted_journey}

-- ---- the journey of a round

-- the drive is one of the devices
met_drive : {M : Type 0} (view : M → MediumView) (k : ℕ) (t : Trip) (f : Flight) (o : Option Flight) (d e : DriveView M) (u : Trip) → Meets (DriveTakes view) k t f o d u e → Meets Takes k t f o (device_of d.state) u (device_of e.state)
met_drive view k t f None d e u met = (met.0, ap (λ d. device_of d.state) met.1)
met_drive view k t f (Some g) d e u met = (met.0, met.1.takes, met.2)

pub reached_drive : {M : Type 0} (view : M → MediumView) (plan : List Planned) (k : ℕ) (t : Trip) (o : Option Flight) (d e : DriveView M) (u : Trip) → Reaches (DriveTakes view) plan k t o d u e → Reaches Takes plan k t o (device_of d.state) u (device_of e.state)
reached_drive view plan k t None d e u reached = (reached.0, ap (λ d. device_of d.state) reached.1)
reached_drive view plan k t (Some f) d e u reached = met_drive view k t f (hit (next_fault plan t.crossings) f) d e u reached

-- from the drive on
pub drive_journey : {M : Type 0} (view : M → MediumView) (r s : RingView M) (held : Option Flight) (f : Flight) (answer : Arrival) (round : Round view r held f answer s)
    → Journey r.books.plan (length r.before + 1) round.at_drive (device_of r.drive.state ∷ r.after) round.past_all (device_of s.drive.state ∷ s.after)
drive_journey view r s held f answer round =
    let at : Passage Takes r.books.plan (length r.before + 1) round.at_drive (device_of r.drive.state) round.past_drive (device_of s.drive.state) =
    reached_drive view r.books.plan (length r.before + 1) round.at_drive round.at_drive.flight r.drive s.drive round.past_drive round.at in
    let next : length r.before + 2 ≡ length r.before + 1 + 1 = omega arith in
    (round.past_drive, at, subst (λ k. Journey r.books.plan k round.past_drive r.after round.past_all s.after) next round.from_drive)

pub round_journey : {M : Type 0} (view : M → MediumView) (r s : RingView M) (held : Option Flight) (f : Flight) (answer : Arrival) (round : Round view r held f answer s)
    → Journey r.books.plan 1 (trip_of r.books (Some f)) (devices_of r) round.past_all (devices_of s)
round_journey view r s held f answer round =
    Journey-append r.books.plan 1 (length r.before + 1) (trip_of r.books (Some f)) round.at_drive round.past_all r.before s.before (device_of r.drive.state ∷ r.after) (device_of s.drive.state ∷ s.after) (omega arith) round.to_drive
    (drive_journey view r s held f answer round)

-- ---- the way home

-- after the last device every source comes after
after_all : (k : ℕ) (f : Flight) → ComesFrom k k f [] → f.source ≤ k
after_all k f (inl low) = low
after_all k f (inr (inl awaited)) = absurd (omega (arith, awaited.within))
after_all k f (inr (inr beyond)) = beyond.1

from_device : (f : Flight) → (f.source == 0) ≡ false → 1 ≤ f.source
from_device f other = ⊎_elim (λ zero. let clash = sym other ∙ eq-eqb f.source 0 zero in cc) (λ some. some) (eq-zero-or-pos f.source)

some_is : (f g : Flight) → Some f ≡ Some g → f ≡ g
some_is f g e = ap (λ o. elim o [ Some h ↦ h | None ↦ f ]) e

-- What the last link added: the entries, the links, and the frame that is held for it. After the last device the frame was
-- `flight`.
record CameHome (k : ℕ) (log : List Entry) (n : ℕ) (held flight : Option Flight) (answer : Arrival) (s : BooksView) : Type 0 where
  entries : List Entry
  log_is : s.log ≡ log ++ entries
  links : ℕ
  crossings : s.crossings ≡ risen_by links n
  new : Option Flight
  new_is : (g : Flight) → new ≡ Some g → (answer ≡ arrival.Frame g.now) × (is_data g.now ≡ true)
  held_is : (s.held ≡ new) ⊎ ((new ≡ None) × (s.held ≡ held))
  linked : links + on_way k k flight ≡ sum_by (links_of k) entries + held_links k (holding new)
  passed : (q : ℕ) → 1 ≤ q → q ≤ k → brought k k q flight ≡ entries_to k q entries + held_passes q (holding new)

lost_home : (k n : ℕ) (log : List Entry) (held : Option Flight) (b : BooksView) (f : Flight) (answer : Arrival) → f.source ≤ k → CameHome k log n held (Some f) answer (record b { log = log ++ lost_at f 0 ∷ []; crossings = risen n; held = None })
lost_home k n log held b f answer on = record {
  entries = lost_at f 0 ∷ [];
  log_is = refl;
  links = 1;
  crossings = refl;
  new = None;
  new_is = λ g e. cc;
  held_is = inl refl;
  linked = let far = way-home k f.source on in omega (arith, far);
  passed = λ q some most. let came = home-to k q f.source some most on in omega (arith, came.1);
}

came_home : (k n : ℕ) (log : List Entry) (held : Option Flight) (b : BooksView) (f g : Flight) (own data_frame : Bool) (answer : Arrival) → answer ≡ arrival.Frame g.now → is_data g.now ≡ data_frame → f.source ≤ k → g.source ≡ f.source → (g.source == 0) ≡ own
    → b.log ≡ log → b.crossings ≡ risen n → b.held ≡ held → CameHome k log n held (Some f) answer (comes b g own data_frame)
came_home k n log held b f g true data_frame answer answered data_is on same own log_is count held_is =
    let zero : g.source ≡ 0 = eqb-true g.source 0 own in
    let back : ended_at g 0 ≡ record { source = g.source; frame = g.sent; outcome = outcome.Back g.now } = ap (λ test. record { source = g.source; frame = g.sent; outcome = if test then outcome.Back g.now else outcome.Taken 0 }) own in
    record {
      entries = ended_at g 0 ∷ [];
      log_is = ap (λ log. log ++ ended_at g 0 ∷ []) log_is;
      links = 1;
      crossings = count;
      new = None;
      new_is = λ g e. cc;
      held_is = inr (refl, held_is);
      linked =
          let round = ap (links_of k) back in
          let far = way-home k f.source on in
          let host : distance k f.source 0 ≡ suc k = ap (λ s. distance k s 0) (sym same ∙ zero) ∙ distance-self k 0 in
          omega (arith, round, far, host);
      passed = λ q some most.
          let brings : cond (brings_to k q (ended_at g 0)) 1 0 ≡ 1 = ap {B = ℕ} (λ e. cond (brings_to k q e) 1 0) back in
          let came : come_to k q f.source k ≡ 1 = ap (λ s. come_to k q s k) (sym same ∙ zero) ∙ back-home k q some most in
          omega (arith, brings, came);
    }
came_home k n log held b f g false true answer answered data_is on same own log_is count held_is = record {
  entries = [];
  log_is = log_is ∙ sym (append-nil log);
  links = 1;
  crossings = count;
  new = Some g;
  new_is = λ h e. let same : g ≡ h = some_is g h e in (answered ∙ ap (λ (g : Flight). arrival.Frame g.now) same, ap (λ (g : Flight). is_data g.now) (sym same) ∙ data_is);
  held_is = inl refl;
  linked = let some = from_device g own in let far = home-held k g.source some (omega (arith, same, on)) in let way_same = ap (λ s. way k s k) same in omega (arith, far, way_same);
  passed = λ q some most. let from = from_device g own in let came = come-held k q g.source some most from (omega (arith, same, on)) in let come_same = ap (λ s. come_to k q s k) same in omega (arith, came, come_same);
}
came_home k n log held b f g false false answer answered data_is on same own log_is count held_is =
    let taken : ended_at g 0 ≡ record { source = g.source; frame = g.sent; outcome = outcome.Taken 0 } = ap (λ test. record { source = g.source; frame = g.sent; outcome = if test then outcome.Back g.now else outcome.Taken 0 }) own in
    record {
      entries = ended_at g 0 ∷ [];
      log_is = ap (λ log. log ++ ended_at g 0 ∷ []) log_is;
      links = 1;
      crossings = count;
      new = None;
      new_is = λ g e. cc;
      held_is = inl refl;
      linked =
          let links = ap (links_of k) taken in
          let far = way-home k f.source on in
          let distant = ap (λ s. distance k s 0) same in
          omega (arith, links, far, distant);
      passed = λ q some most.
          let brings = ap {B = ℕ} (λ e. cond (brings_to k q e) 1 0) taken in
          let came = home-to k q f.source some most on in
          let distant = ap {B = ℕ} (λ s. cond (came_to k q s (outcome.Taken 0)) 1 0) same in
          omega (arith, brings, came.0, distant);
    }

at_home : (k : ℕ) (held flight : Option Flight) (b : BooksView) (o : Option Flight) (f : Flight) (fault : Option PlanFault) (answer : Arrival) → answer ≡ arrived o → flight ≡ Some f → f.source ≤ k → hit fault f ≡ o → b.held ≡ held
    → CameHome k b.log b.crossings held flight answer (over_last_link (record b { crossings = risen b.crossings }) f o)
at_home k held flight b None f fault answer answered is on hits held_is = subst (λ flight. CameHome k b.log b.crossings held flight answer (over_last_link (record b { crossings = risen b.crossings }) f None)) (sym is) (lost_home k b.crossings b.log held b f answer on)
at_home k held flight b (Some g) f fault answer answered is on hits held_is =
    subst (λ flight. CameHome k b.log b.crossings held flight answer (over_last_link (record b { crossings = risen b.crossings }) f (Some g))) (sym is)
    (came_home k b.crossings b.log held (record b { crossings = risen b.crossings }) f g (g.source == 0) (is_data g.now) answer answered refl on (hit_same fault f g hits).source refl refl refl held_is)

home_is : (k : ℕ) (held flight : Option Flight) (b : BooksView) (answer : Arrival) → answer ≡ arrived (arriving b.plan b.crossings flight) → Stands k k flight [] → b.held ≡ held → CameHome k b.log b.crossings held flight answer (home b flight)
home_is k held None b answer answered at held_is = record {
  entries = [];
  log_is = sym (append-nil b.log);
  links = 0;
  crossings = refl;
  new = None;
  new_is = λ g e. cc;
  held_is = inl refl;
  linked = omega arith;
  passed = λ q some most. omega arith;
}
home_is k held (Some f) b answer answered at held_is = at_home k held (Some f) b (hit (next_fault b.plan b.crossings) f) f (next_fault b.plan b.crossings) answer answered refl (after_all k f at) refl held_is

-- ---- the whole round

start_within : (k : ℕ) (f : Flight) (ds : List DeviceState) → length ds ≡ k → IsReady f ds → f.source ≤ k
start_within k f ds all (inl host) = omega (arith, host)
start_within k f ds all (inr awaited) = omega (arith, awaited.there, awaited.within, all)

start_stands : (k : ℕ) (f : Flight) (ds : List DeviceState) → IsReady f ds → Stands k 0 (Some f) ds
start_stands k f ds (inl host) = inl (omega (arith, host))
start_stands k f ds (inr awaited) = inr (inl awaited)

-- the links and the frames that stand for the part of its trip before
start_links : (k : ℕ) (f : Flight) (own : Bool) → (f.source == 0) ≡ own → f.source ≤ k → way k f.source 0 ≡ held_links k (if own then None else Some f.source)
start_links k f true own on = let zero = eqb-true f.source 0 own in ap (λ s. way k s 0) zero ∙ way-self k 0
start_links k f false own on = start-held k f.source (from_device f own) on

start_come : (k q : ℕ) (f : Flight) (own : Bool) → (f.source == 0) ≡ own → f.source ≤ k → 1 ≤ q → q ≤ k → come_to k q f.source 0 ≡ held_passes q (if own then None else Some f.source)
start_come k q f true own on some most = let zero = eqb-true f.source 0 own in ap (λ s. come_to k q s 0) zero ∙ start-host k q some most
start_come k q f false own on some most = start-come k q f.source some most (from_device f own) on

took_from : (b : ℕ → ℕ) (a : ℕ → ℕ) (k : ℕ) (sending : Option ℕ) (entries : List Entry) (held : Option ℕ) (j : ℕ) (ds es : List DeviceState)
    → ((q c : ℕ) → j < q → q ≤ j + length ds → c + b q ≡ a q → c + held_passes q sending ≡ passes_so_far k q entries held) → Framed b a j ds es → AllTook k sending entries held j ds es
took_from b a k sending entries held j [] [] same framed = tt
took_from b a k sending entries held j (d ∷ ds) (e ∷ es) same framed = (
  (framed.0.0, framed.0.1, same (j + 1) framed.0.0 (omega arith) (omega arith) framed.0.2),
  took_from b a k sending entries held (j + 1) ds es (λ q c low high. same q c (omega (arith, low)) (omega (arith, high))) framed.1,
)
took_from b a k sending entries held j [] (e ∷ es) same framed = absurd framed
took_from b a k sending entries held j (d ∷ ds) [] same framed = absurd framed

-- Crossings, frames of devices and the held frame after a round are those that its entries stand for.
pub round_counts : {M : Type 0} (view : M → MediumView) (r s : RingView M) (held : Option Flight) (f : Flight) (answer : Arrival) → IsReady f (devices_of r) → Round view r held f answer s → Rounded r held f answer s
round_counts view r s held f answer ready round =
    let k = length (devices_of r) in
    let sending = device_sending f in
    let t = round.past_all in
    let out = counted_journey r.books.plan k 0 (trip_of r.books (Some f)) t (devices_of r) (devices_of s) (omega arith) (start_stands k f (devices_of r) ready) (round_journey view r s held f answer round) in
    let c = out.0 in
    let all : 0 + length (devices_of r) ≡ k = omega arith in
    let last = home_is k held t.flight (books_at (record r.books { held = held }) t) answer round.answer_is (subst (λ j. Stands k j t.flight []) all out.1) refl in
    let on : f.source ≤ k = start_within k f (devices_of r) refl ready in
    let far : 0 + length (devices_of r) ≡ k = omega arith in
    let log : s.books.log ≡ t.log ++ last.entries = ap (λ (b : BooksView). b.log) round.books ∙ last.log_is in
    let count : s.books.crossings ≡ risen_by last.links t.crossings = ap (λ (b : BooksView). b.crossings) round.books ∙ last.crossings in
    record {
      entries = c.entries ++ last.entries;
      log = log ∙ ap (λ log. log ++ last.entries) c.log ∙ append_assoc r.books.log c.entries last.entries;
      links = c.links + last.links;
      crossings = count ∙ ap (risen_by last.links) c.crossings ∙ sym (risen_by-add c.links last.links r.books.crossings);
      new = last.new;
      new_is = last.new_is;
      held_is = ⊎_elim (λ is. inl (ap (λ (b : BooksView). b.held) round.books ∙ is)) (λ is. inr (is.0, ap (λ (b : BooksView). b.held) round.books ∙ is.1)) last.held_is;
      linked =
          let sum = sum_by-append (links_of k) c.entries last.entries in
          let start = start_links k f (f.source == 0) refl on in
          let end = ap (λ j. on_way k j t.flight) far in
          omega (arith, sum, start, end, c.linked, last.linked);
      frames = took_from (λ q. brought k 0 q (Some f)) (λ q. entries_to k q c.entries + brought k (0 + length (devices_of r)) q t.flight) k sending (c.entries ++ last.entries) (holding last.new) 0 (devices_of r) (devices_of s)
          (λ q n low high known.
          let start = start_come k q f (f.source == 0) refl on (omega (arith, low)) (omega (arith, high)) in
          let end = ap (λ j. brought k j q t.flight) far in
          let home = last.passed q (omega (arith, low)) (omega (arith, high)) in
          let sum = entries_append k q c.entries last.entries in
          omega (arith, known, start, end, home, sum))
          c.inside;
    }
