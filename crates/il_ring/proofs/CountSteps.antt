-- What one party adds to the counts.
use Rattle.std.proofs.Common.{◌≡◌, ◌≤◌, ◌<◌, ◌+◌, ◌++◌, ◌⊎◌, ◌==◌, inl, inr, ⊎_elim, ℕ, zero, suc, Bool, true, false, List, [], ◌∷◌, Option, Some, None, length, cond, refl, sym, ap, subst, ◌∙◌, arith, append-nil, eqb-true}
use Rattle.std.specs.Prelude.{if◌then◌else◌}
use Rattle.std.proofs.lemmas.Bool.Decides.{nat_tests}
use Rattle.il_frames.specs.declared.frame.Frame.{Frame}
use Rattle.il_frames.specs.declared.entry.Entry.{Entry}
use Rattle.il_frames.specs.declared.entry.Outcome.TheVariants as outcome
use Rattle.il_frames.specs.Frames.{is_data}
use Rattle.il_device.specs.declared.device.Out.{Out}
use Rattle.il_device.specs.declared.device.Out.TheVariants.{Pass, Source}
use Rattle.il_device.specs.declared.interface.OwnFrame.{OwnFrame}
use Rattle.il_device.specs.State.{DeviceState, risen}
use Rattle.il_device.specs.Takes.{Takes}
use Rattle.loop_model.specs.Reach.{distance, crossed, came_to}
use Rattle.loop_model.proofs.UnitLaws.{distance-self}
use Rattle.il_ring.specs.declared.plan.Planned.{Planned}
use Rattle.il_ring.specs.declared.plan.PlanFault.{PlanFault}
use Rattle.il_ring.specs.declared.plan.PlanFault.TheVariants.{Lose, Alter}
use Rattle.il_ring.specs.declared.flight.Flight.{Flight}
use Rattle.il_ring.specs.Plans.{next_fault}
use Rattle.il_ring.specs.Flights.{sourced, altered_by, hit, lost_at, ended_at}
use Rattle.il_ring.specs.Journeys.{Trip, trip, answered, Meets, Passage, Journey}
use Rattle.il_ring.specs.Rounded.{own_at, IsAwaited}
use Rattle.il_ring.specs.Ways.{way, come_to, on_way, brought}
use Rattle.il_ring.proofs.Ways.{way-next, way-distance, way-self, come-other, come-next, come-self, come-before, ended-other, back-other, lost-to}
use Rattle.il_ring.proofs.Takings.{own_sends, stays_data}
use Rattle.il_ring.proofs.Counts.{Counted, counted_append}

-- ---- which frames can go on

-- its source comes after all of these devices
abbrev pub IsBeyond : ℕ → ℕ → Flight → List DeviceState → Type 0
IsBeyond k j f ds = (j + length ds < f.source) × (f.source ≤ k)

-- its source comes after, or it is awaited, or its source lies beyond
abbrev pub ComesFrom : ℕ → ℕ → Flight → List DeviceState → Type 0
ComesFrom k j f ds = (f.source ≤ j) ⊎ (IsAwaited j f ds ⊎ IsBeyond k j f ds)

-- no frame is on its way, or one that can go on
abbrev pub Stands : ℕ → ℕ → Option Flight → List DeviceState → Type 0
Stands k j None ds = Unit {0}
Stands k j (Some f) ds = ComesFrom k j f ds

-- ---- what a link leaves of a frame

pub record IsSame (f g : Flight) : Type 0 where
  pub source : g.source ≡ f.source
  pub sent : g.sent ≡ f.sent
  pub data_frame : is_data g.now ≡ is_data f.now

some_is : (f g : Flight) → Some f ≡ Some g → f ≡ g
some_is f g e = ap (λ o. elim o [ Some h ↦ h | None ↦ f ]) e

altered_same : (may : Bool) (change : ℕ) (f g : Flight) → (if may then Some (record f { now = altered_by change f.now; altered = true }) else None) ≡ Some g → IsSame f g
altered_same true change f g is = let same : record f { now = altered_by change f.now; altered = true } ≡ g = some_is (record f { now = altered_by change f.now; altered = true }) g is in record { source = ap (λ (f : Flight). f.source) (sym same); sent = ap (λ (f : Flight). f.sent) (sym same); data_frame = ap (λ (f : Flight). is_data f.now) (sym same) }
altered_same false change f g is = cc

pub hit_same : (fault : Option PlanFault) (f g : Flight) → hit fault f ≡ Some g → IsSame f g
hit_same None f g is = let same : f ≡ g = some_is f g is in record { source = ap (λ (f : Flight). f.source) (sym same); sent = ap (λ (f : Flight). f.sent) (sym same); data_frame = ap (λ (f : Flight). is_data f.now) (sym same) }
hit_same (Some Lose) f g is = cc
hit_same (Some (Alter change)) f g is = altered_same _ change f g is

-- ---- the entry of a frame that ended

pub ended_links : (k source party : ℕ) (f : Frame) → crossed k source (if source == party then outcome.Back f else outcome.Taken party) ≡ distance k source party
ended_links k source party f = by_test (source == party) refl
  where
    by_test : (test : Bool) → (source == party) ≡ test → crossed k source (if test then outcome.Back f else outcome.Taken party) ≡ distance k source party
    by_test true e = let same = eqb-true source party e in sym (distance-self k source) ∙ ap (distance k source) same
    by_test false e = refl

pub ended_brings : (k q source j : ℕ) (f : Frame) → 1 ≤ q → q ≤ k → (q ≡ j + 1 → ⊥) → j < k → source ≤ k
    → cond (came_to k q source (if source == j + 1 then outcome.Back f else outcome.Taken (j + 1))) 1 0 ≡ come_to k q source j
ended_brings k q source j f some within other on there = by_test (source == j + 1) refl
  where
    by_test : (test : Bool) → (source == j + 1) ≡ test → cond (came_to k q source (if test then outcome.Back f else outcome.Taken (j + 1))) 1 0 ≡ come_to k q source j
    by_test true e = let same = eqb-true source (j + 1) e in sym (back-other k q j some within other on) ∙ ap (λ s. come_to k q s j) (sym same)
    by_test false e = ended-other k q source j some within other on there

pub ended_here : (k source j : ℕ) (f : Frame) → ◌≡◌ {A = ℕ} (cond (came_to k (j + 1) source (if source == j + 1 then outcome.Back f else outcome.Taken (j + 1))) 1 0) 1
ended_here k source j f = by_test (source == j + 1)
  where
    by_test : (test : Bool) → ◌≡◌ {A = ℕ} (cond (came_to k (j + 1) source (if test then outcome.Back f else outcome.Taken (j + 1))) 1 0) 1
    by_test true = refl
    by_test false = grind (arith, nat_tests)

-- ---- one party

-- if the frame was lost on the link to party j + 1
lost_one : (k j n : ℕ) (log : List Entry) (f : Flight) (d : DeviceState) → j < k → f.source ≤ k → (f.source ≤ j) ⊎ (j < f.source)
    → Counted k j (trip n log (Some f)) (d ∷ []) (trip (risen n) (log ++ lost_at f (j + 1) ∷ []) None) (d ∷ [])
lost_one k j n log f d on there at = record {
  entries = lost_at f (j + 1) ∷ [];
  log = refl;
  links = 1;
  crossings = refl;
  linked = let far = way-distance k f.source j there on in omega (arith, far);
  inside = ((0, refl, (let lost = lost-to k (j + 1) f.source j (omega arith) (omega (arith, on)) on there in omega (arith, lost))), tt);
  outside = λ q some most where_. let lost = lost-to k q f.source j some most on there in omega (arith, lost);
}

-- if no frame is on its way
none_one : (k j n : ℕ) (log : List Entry) (d : DeviceState) → Counted k j (trip n log None) (d ∷ []) (trip n log None) (d ∷ [])
none_one k j n log d = record {
  entries = [];
  log = sym (append-nil log);
  links = 0;
  crossings = refl;
  linked = omega arith;
  inside = ((0, refl, omega arith), tt);
  outside = λ q some most where_. omega arith;
}

-- if party j + 1 passed it on
passed_one : (k j n : ℕ) (log : List Entry) (f g : Flight) (d e : DeviceState) → j < k → (f.source ≤ j) ⊎ ((j + 1 < f.source) × (f.source ≤ k)) → g.source ≡ f.source → e.frames ≡ risen d.frames
    → Counted k j (trip n log (Some f)) (d ∷ []) (trip (risen n) log (Some g)) (e ∷ [])
passed_one k j n log f g d e on at same took =
    let far : j + length (d ∷ []) ≡ j + 1 = omega arith in
    let next = way-next k f.source j at in
    let here = come-next k f.source j on at in
    record {
      entries = [];
      log = sym (append-nil log);
      links = 1;
      crossings = refl;
      linked = let way_on = ap (λ j. way k g.source j) far ∙ ap (λ s. way k s (j + 1)) same in omega (arith, next, way_on);
      inside = ((1, took, (let come_on = ap (λ j₂. come_to k (j + 1) g.source j₂) far ∙ ap (λ s. come_to k (j + 1) s (j + 1)) same in omega (arith, here.0, here.1, come_on))), tt);
      outside = λ q some most where_.
          let other = come-other k q f.source j some most (λ e. ⊎_elim (λ low. omega (arith, low, e)) (λ high. omega (arith, high, e, far)) where_) on at in
          let come_on = ap (λ j₂. come_to k q g.source j₂) far ∙ ap (λ s. come_to k q s (j + 1)) same in
          omega (arith, other, come_on);
    }

-- if party j + 1 sent a frame in its place
sourced_one : (k j n : ℕ) (log : List Entry) (f g : Flight) (h : Frame) (d e : DeviceState) → j < k → f.source ≤ k → (f.source ≤ j) ⊎ (j < f.source) → g.source ≡ f.source → e.frames ≡ risen d.frames
    → Counted k j (trip n log (Some f)) (d ∷ []) (trip (risen n) (log ++ ended_at g (j + 1) ∷ []) (Some (sourced (j + 1) h))) (e ∷ [])
sourced_one k j n log f g h d e on there at same took =
    let far : j + length (d ∷ []) ≡ j + 1 = omega arith in
    record {
      entries = ended_at g (j + 1) ∷ [];
      log = refl;
      links = 1;
      crossings = refl;
      linked =
          let ended = ended_links k g.source (j + 1) g.now in
          let distant = way-distance k f.source j there on in
          let same_links = ap (λ s. distance k s (j + 1)) same in
          let none = ap (λ j₂. way k (j + 1) j₂) far ∙ way-self k (j + 1) in
          omega (arith, ended, distant, same_links, none);
      inside = (
        (
          1,
          took,
          (
              let ended = ended_here k g.source j g.now in
              let none = ap (λ j₂. come_to k (j + 1) (j + 1) j₂) far ∙ come-self k (j + 1) (j + 1) (omega arith) (omega (arith, on)) (omega (arith, on)) in
              let before = come-before k f.source j on there in
              omega (arith, ended, none, before)
              ),
        ),
        tt,
      );
      outside = λ q some most where_.
          let ended = ended_brings k q g.source j g.now some most (λ e. ⊎_elim (λ low. omega (arith, low, e)) (λ high. omega (arith, high, e, far)) where_) on (omega (arith, same, there)) in
          let same_come = ap (λ s. come_to k q s j) same in
          let none = ap (λ j₂. come_to k q (j + 1) j₂) far ∙ come-self k q (j + 1) some most (omega (arith, on)) in
          omega (arith, ended, same_come, none);
    }

-- ---- any party

-- after a party of such a kind the frame can go on, and the counts are so
abbrev pub Goes : ℕ → ℕ → Trip → DeviceState → List DeviceState → Trip → DeviceState → Type 0
Goes k j t d ds u e = Counted k j t (d ∷ []) u (e ∷ []) × Stands k (j + 1) u.flight ds

pub source_within : (j k : ℕ) (f : Flight) (ds : List DeviceState) → j + length ds ≤ k → ComesFrom k j f ds → f.source ≤ k
source_within j k f ds all (inl low) = omega (arith, low, all)
source_within j k f ds all (inr (inl awaited)) = omega (arith, awaited.there, awaited.within, all)
source_within j k f ds all (inr (inr beyond)) = beyond.1

source_where : (j k : ℕ) (f : Flight) (ds : List DeviceState) → ComesFrom k j f ds → (f.source ≤ j) ⊎ (j < f.source)
source_where j k f ds (inl low) = inl low
source_where j k f ds (inr (inl awaited)) = inr (omega (arith, awaited.there))
source_where j k f ds (inr (inr beyond)) = let far = beyond.0 in inr (omega (arith, far))

-- a frame that a party passes on was not sent by it, and can go on
further : (j k : ℕ) (f g : Flight) (h : Frame) (out : Out) (d e : DeviceState) (ds : List DeviceState) → j + length (d ∷ ds) ≤ k → IsSame f g → Takes d g.now out e → out ≡ Pass h
    → (place : ℕ) → f.source ≡ j + 1 + place → place < length (d ∷ ds) → is_data f.now ≡ true → (own : OwnFrame) → own_at place (d ∷ ds) ≡ Some own
    → ((j + 1 < f.source) × (f.source ≤ k)) × IsAwaited (j + 1) (record g { now = h }) ds
further j k f g h out d e ds all same takes is zero there within data_frame own waits = absurd (own_sends d e g.now h out own (same.data_frame ∙ data_frame) waits takes is)
further j k f g h out d e ds all same takes is (suc place) there within data_frame own waits = (
  (omega (arith, there), omega (arith, there, within, all)),
  record {
    place = place;
    there = omega (arith, there, same.source);
    within = omega (arith, within);
    data_frame = stays_data d.own d e g.now h out refl (same.data_frame ∙ data_frame) takes is;
    own = own;
    waits = waits;
  },
)

answered_one : (plan : List Planned) (k j n : ℕ) (log : List Entry) (f g : Flight) (out : Out) (d e : DeviceState) (ds : List DeviceState) → j + length (d ∷ ds) ≤ k → ComesFrom k j f (d ∷ ds) → IsSame f g
    → Takes d g.now out e → Goes k j (trip n log (Some f)) d ds (answered (risen n) log (j + 1) g out) e
answered_one plan k j n log f g (Pass h) d e ds all (inl low) same takes =
    (passed_one k j n log f (record g { now = h }) d e (omega (arith, all)) (inl low) same.source takes.frames, inl (omega (arith, low, same.source)))
answered_one plan k j n log f g (Pass h) d e ds all (inr (inl awaited)) same takes =
    let on = further j k f g h (Pass h) d e ds all same takes refl awaited.place awaited.there awaited.within awaited.data_frame awaited.own awaited.waits in
    (passed_one k j n log f (record g { now = h }) d e (omega (arith, all)) (inr on.0) same.source takes.frames, inr (inl on.1))
answered_one plan k j n log f g (Pass h) d e ds all (inr (inr beyond)) same takes =
    let far = beyond.0 in
    let most = beyond.1 in
    (passed_one k j n log f (record g { now = h }) d e (omega (arith, all)) (inr (omega (arith, far), most)) same.source takes.frames, inr (inr (omega (arith, far, same.source), omega (arith, most, same.source))))
answered_one plan k j n log f g (Source h) d e ds all at same takes =
    (sourced_one k j n log f g h d e (omega (arith, all)) (source_within j k f (d ∷ ds) all at) (source_where j k f (d ∷ ds) at) same.source takes.frames, inl (omega arith))

met_one : (plan : List Planned) (k j n : ℕ) (log : List Entry) (f : Flight) (o : Option Flight) (d e : DeviceState) (ds : List DeviceState) (u : Trip) → hit (next_fault plan n) f ≡ o → j + length (d ∷ ds) ≤ k
    → ComesFrom k j f (d ∷ ds) → Meets Takes (j + 1) (trip n log (Some f)) f o d u e → Goes k j (trip n log (Some f)) d ds u e
met_one plan k j n log f None d e ds u is all at met =
    let lost : Goes k j (trip n log (Some f)) d ds (trip (risen n) (log ++ lost_at f (j + 1) ∷ []) None) d =
    (lost_one k j n log f d (omega (arith, all)) (source_within j k f (d ∷ ds) all at) (source_where j k f (d ∷ ds) at), tt) in
    subst (λ u. Goes k j (trip n log (Some f)) d ds u e) (sym met.0) (subst (λ e. Goes k j (trip n log (Some f)) d ds (trip (risen n) (log ++ lost_at f (j + 1) ∷ []) None) e) (sym met.1) lost)
met_one plan k j n log f (Some g) d e ds u is all at met =
    subst (λ u. Goes k j (trip n log (Some f)) d ds u e) (sym met.2) (answered_one plan k j n log f g met.0 d e ds all at (hit_same (next_fault plan n) f g is) met.1)

pub counted_one : (plan : List Planned) (k j n : ℕ) (log : List Entry) (flight : Option Flight) (d e : DeviceState) (ds : List DeviceState) (u : Trip) → j + length (d ∷ ds) ≤ k
    → Stands k j flight (d ∷ ds) → Passage Takes plan (j + 1) (trip n log flight) d u e → Goes k j (trip n log flight) d ds u e
counted_one plan k j n log None d e ds u all at passage =
    subst (λ u. Goes k j (trip n log None) d ds u e) (sym passage.0) (subst (λ e. Goes k j (trip n log None) d ds (trip n log None) e) (sym passage.1) (none_one k j n log d, tt))
counted_one plan k j n log (Some f) d e ds u all at passage = met_one plan k j n log f (hit (next_fault plan n) f) d e ds u refl all at passage

-- ---- all devices from party j + 1 on

nothing : (k j : ℕ) (t : Trip) → Counted k j t [] t []
nothing k j t = record {
  entries = [];
  log = sym (append-nil t.log);
  links = 0;
  crossings = refl;
  linked = let same : j + 0 ≡ j = omega arith in let way = ap (λ j. on_way k j t.flight) same in omega (arith, way);
  inside = tt;
  outside = λ q some most where_. let same : j + 0 ≡ j = omega arith in let come = ap (λ j. brought k j q t.flight) same in omega (arith, come);
}

pub counted_journey : (plan : List Planned) (k j : ℕ) (t u : Trip) (ds es : List DeviceState) → j + length ds ≤ k → Stands k j t.flight ds → Journey plan (j + 1) t ds u es
    → Counted k j t ds u es × Stands k (j + length ds) u.flight []
counted_journey plan k j t u [] [] all at journey =
    let same : j ≡ j + 0 = omega arith in
    subst (λ u. Counted k j t [] u [] × Stands k (j + 0) u.flight []) (sym journey) (nothing k j t, subst (λ j. Stands k j t.flight []) same at)
counted_journey plan k j t u (d ∷ ds) (e ∷ es) all at journey =
    let one = counted_one plan k j t.crossings t.log t.flight d e ds journey.0 all at journey.1 in
    let more = counted_journey plan k (j + 1) journey.0 u ds es (omega (arith, all)) one.1 journey.2 in
    let far : j + 1 ≡ j + length (d ∷ []) = omega arith in
    (counted_append k j t journey.0 u (d ∷ []) (e ∷ []) ds es (omega (arith, all)) one.0 (subst (λ j. Counted k j journey.0 ds u es) far more.0), (let end : j + 1 + length ds ≡ j + length (d ∷ ds) = omega arith in subst (λ j. Stands k j u.flight []) end more.1))
counted_journey plan k j t u [] (e ∷ es) all at journey = absurd journey
counted_journey plan k j t u (d ∷ ds) [] all at journey = absurd journey
