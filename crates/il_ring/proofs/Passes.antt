-- A frame that is neither data nor end, and that every device passes on: it goes past all of them, or is lost at the first
-- crossing where something is planned.
use Rattle.std.proofs.Common.{◌≡◌, ◌≢◌, ◌<◌, ◌+◌, ◌++◌, ◌⊎◌, ◌&&◌, inl, inr, ℕ, suc, true, false, List, [], ◌∷◌, Option, Some, None, length, refl, sym, ap, subst, ◌∙◌, arith}
use Rattle.std.specs.Prelude.{if◌then◌else◌, not}
use Rattle.il_frames.specs.declared.frame.Frame.{Frame}
use Rattle.il_frames.specs.declared.entry.Entry.{Entry}
use Rattle.il_frames.specs.Frames.{is_data}
use Rattle.il_device.specs.declared.device.Out.{Out}
use Rattle.il_device.specs.declared.device.Out.TheVariants.{Pass}
use Rattle.il_device.specs.State.{DeviceState, risen, risen_by}
use Rattle.il_device.specs.Takes.{Takes}
use Rattle.il_ring.specs.declared.plan.Planned.{Planned}
use Rattle.il_ring.specs.declared.plan.PlanFault.{PlanFault}
use Rattle.il_ring.specs.declared.plan.PlanFault.TheVariants.{Lose, Alter}
use Rattle.il_ring.specs.declared.flight.Flight.{Flight}
use Rattle.il_ring.specs.Plans.{next_fault}
use Rattle.il_ring.specs.Flights.{altered_by, hit, lost_at}
use Rattle.il_ring.specs.Journeys.{Trip, trip, answered, missed, Meets, Reaches, Journey}
use Rattle.il_ring.specs.Lists.{Each, First}
use Rattle.il_ring.proofs.Faults.{IsClear}

-- Q holds of the frame as it comes to party k, P of the device there, and R of the device before and after it.
pub record PassesOn (Q : ℕ → Frame → Type 0) (P : ℕ → DeviceState → Type 0) (R : DeviceState → DeviceState → Type 0) : Type 0 where
  pub no_data : (k : ℕ) (f : Frame) → Q k f → is_data f ≡ false
  pub step : (k : ℕ) (d e : DeviceState) (f : Frame) (out : Out) → P k d → Q k f → Takes d f out e → (h : Frame) × (out ≡ Pass h) × Q (k + 1) h × R d e

-- a frame that is neither data nor end is lost wherever something is planned
pub plain_hit : (fault : PlanFault) (f : Flight) → is_data f.now ≡ false → hit (Some fault) f ≡ None
plain_hit Lose f plain = refl
plain_hit (Alter change) f plain = ap (λ b. if b && not f.altered then Some (record f { now = altered_by change f.now; altered = true }) else None) plain

-- after a loss nothing comes to any device
pub nothing_comes : (plan : List Planned) (k : ℕ) (t u : Trip) (ds es : List DeviceState) (R : DeviceState → DeviceState → Type 0) → t.flight ≡ None → Journey plan k t ds u es → (u ≡ t) × First R 0 ds es
nothing_comes plan k t u [] [] R lost journey = (journey, tt)
nothing_comes plan k t u (d ∷ ds) (e ∷ es) R lost journey =
    let here : Reaches Takes plan k t None d journey.0 e = subst (λ o. Reaches Takes plan k t o d journey.0 e) lost journey.1 in
    let rest = nothing_comes plan (k + 1) journey.0 u ds es R (ap (λ (t : Trip). t.flight) here.0 ∙ lost) journey.2 in
    (rest.0 ∙ here.0, (here.1, rest.1))
nothing_comes plan k t u [] (e ∷ es) R lost journey = absurd journey
nothing_comes plan k t u (d ∷ ds) [] R lost journey = absurd journey

module _ (Q : ℕ → Frame → Type 0) (P : ℕ → DeviceState → Type 0) (R : DeviceState → DeviceState → Type 0) where
  -- past all devices
  pub record Through (plan : List Planned) (k n : ℕ) (log : List Entry) (f : Flight) (ds : List DeviceState) (u : Trip) (es : List DeviceState) : Type 0 where
    pub now : Frame
    pub is_now : Q (k + length ds) now
    pub trip_is : u ≡ trip (risen_by (length ds) n) log (Some (record f { now = now }))
    pub clear : IsClear plan n (length ds)
    pub took : First R (length ds) ds es

  -- lost after this many of them
  pub record LostAfter (plan : List Planned) (k n : ℕ) (log : List Entry) (f : Flight) (ds : List DeviceState) (u : Trip) (es : List DeviceState) : Type 0 where
    pub reached : ℕ
    pub within : reached < length ds
    pub trip_is : u ≡ trip (risen_by (suc reached) n) (log ++ lost_at f (k + reached) ∷ []) None
    pub clear : IsClear plan n reached
    pub planned : next_fault plan (risen_by reached n) ≢ None
    pub took : First R reached ds es

  abbrev pub Goes : List Planned → ℕ → ℕ → List Entry → Flight → List DeviceState → Trip → List DeviceState → Type 0
  Goes plan k n log f ds u es = Through plan k n log f ds u es ⊎ LostAfter plan k n log f ds u es

  further : (plan : List Planned) (k n : ℕ) (log : List Entry) (f : Flight) (h : Frame) (d e : DeviceState) (ds es : List DeviceState) (u : Trip) → next_fault plan n ≡ None → R d e
      → Goes plan (k + 1) (risen n) log (record f { now = h }) ds u es → Goes plan k n log f (d ∷ ds) u (e ∷ es)
  further plan k n log f h d e ds es u none here (inl on) = inl (record {
    now = on.now;
    is_now = let at : k + 1 + length ds ≡ k + length (d ∷ ds) = omega arith in subst (λ j. Q j on.now) at on.is_now;
    trip_is = on.trip_is;
    clear = (none, on.clear);
    took = (here, on.took);
  })
  further plan k n log f h d e ds es u none here (inr lost) = inr (record {
    reached = suc lost.reached;
    within = omega (arith, lost.within);
    trip_is = lost.trip_is ∙ (let at : k + 1 + lost.reached ≡ k + suc lost.reached = omega arith in ap (λ q. trip (risen_by (suc (suc lost.reached)) n) (log ++ lost_at f q ∷ []) None) at);
    clear = (none, lost.clear);
    planned = lost.planned;
    took = (here, lost.took);
  })

  -- what holds of every such frame that goes past these devices
  abbrev Past : List Planned → ℕ → List DeviceState → Trip → List DeviceState → Type 0
  Past plan k ds u es = (n : ℕ) (log : List Entry) (f : Flight) → Q k f.now → Journey plan k (trip n log (Some f)) ds u es → Goes plan k n log f ds u es

  met : (rule : PassesOn Q P R) (plan : List Planned) (k n : ℕ) (log : List Entry) (f : Flight) (fault : Option PlanFault) (d e : DeviceState) (ds es : List DeviceState) (t u : Trip) → next_fault plan n ≡ fault → P k d → Q k f.now
      → Past plan (k + 1) ds u es → Meets Takes k (trip n log (Some f)) f (hit fault f) d t e → Journey plan (k + 1) t ds u es → Goes plan k n log f (d ∷ ds) u (e ∷ es)
  met rule plan k n log f None d e ds es t u none fits is past meets journey =
      let step = rule.step k d e f.now meets.0 fits is meets.1 in
      let on : t ≡ trip (risen n) log (Some (record f { now = step.0 })) = meets.2 ∙ ap (answered (risen n) log k f) step.1 in
      further plan k n log f step.0 d e ds es u none step.3 (past (risen n) log (record f { now = step.0 }) step.2 (subst (λ t. Journey plan (k + 1) t ds u es) on journey))
  met rule plan k n log f (Some fault) d e ds es t u planned fits is past meets journey =
      let lost : (t ≡ missed (risen n) log k f) × (e ≡ d) = subst (λ o. Meets Takes k (trip n log (Some f)) f o d t e) (plain_hit fault f (rule.no_data k f.now is)) meets in
      let rest = nothing_comes plan (k + 1) t u ds es R (ap (λ (t : Trip). t.flight) lost.0) journey in
      let at : k + 0 ≡ k = omega arith in
      inr (record {
        reached = 0;
        within = omega arith;
        trip_is = rest.0 ∙ lost.0 ∙ ap (λ q. trip (risen n) (log ++ lost_at f q ∷ []) None) (sym at);
        clear = tt;
        planned = λ none. let clash = sym planned ∙ none in cc;
        took = (lost.1, rest.1);
      })

  pub goes_past : PassesOn Q P R → (plan : List Planned) (k n : ℕ) (log : List Entry) (f : Flight) (ds es : List DeviceState) (u : Trip) → Each P k ds → Q k f.now → Journey plan k (trip n log (Some f)) ds u es → Goes plan k n log f ds u es
  goes_past rule plan k n log f [] [] u fit is journey = inl (record {
    now = f.now;
    is_now = let at : k + 0 ≡ k = omega arith in subst (λ j. Q j f.now) (sym at) is;
    trip_is = journey;
    clear = tt;
    took = tt;
  })
  goes_past rule plan k n log f (d ∷ ds) (e ∷ es) u fit is journey =
      met rule plan k n log f (next_fault plan n) d e ds es journey.0 u refl fit.0 is (λ n log f is journey. goes_past rule plan (k + 1) n log f ds es u fit.1 is journey) journey.1 journey.2
  goes_past rule plan k n log f [] (e ∷ es) u fit is journey = absurd journey
  goes_past rule plan k n log f (d ∷ ds) [] u fit is journey = absurd journey
