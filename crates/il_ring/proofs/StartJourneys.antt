-- A start message goes past devices: to the host, to where it is lost, or to the device that takes it.
use Rattle.std.proofs.Common.{◌≡◌, ◌≢◌, ◌<◌, ◌+◌, ◌++◌, ◌⊎◌, inl, inr, ℕ, suc, true, List, [], ◌∷◌, Option, Some, None, length, refl, sym, ap, subst, ◌∙◌, arith}
use Rattle.il_frames.specs.declared.frame.Frame.{Frame}
use Rattle.il_frames.specs.declared.entry.Entry.{Entry}
use Rattle.il_frames.specs.Messages.{message_of}
use Rattle.il_device.specs.declared.device.Out.{Out}
use Rattle.il_device.specs.declared.device.Out.TheVariants.{Source}
use Rattle.il_device.specs.State.{DeviceState, risen, risen_by}
use Rattle.il_device.specs.Takes.{Takes}
use Rattle.il_device.specs.Roles.{is_start}
use Rattle.il_ring.specs.declared.plan.Planned.{Planned}
use Rattle.il_ring.specs.declared.plan.PlanFault.{PlanFault}
use Rattle.il_ring.specs.declared.flight.Flight.{Flight}
use Rattle.il_ring.specs.Plans.{next_fault}
use Rattle.il_ring.specs.Flights.{sourced, hit, lost_at, ended_at}
use Rattle.il_ring.specs.Journeys.{Trip, trip, answered, missed, Meets, Journey}
use Rattle.il_ring.proofs.Faults.{IsClear}
use Rattle.il_ring.proofs.Passes.{plain_hit, nothing_comes}
use Rattle.il_ring.specs.Lists.{First, NoneSends}
use Rattle.il_ring.proofs.PassKinds.{start_no_data}
use Rattle.il_ring.proofs.Starts.{SendsFirst, StartAnswer, start_answer}
use Rattle.il_ring.specs.Outcomes.{LetsPass}

-- it has passed all of them
pub record StartPassed (plan : List Planned) (n : ℕ) (log : List Entry) (f : Flight) (ds : List DeviceState) (u : Trip) (es : List DeviceState) : Type 0 where
  pub is : u ≡ trip (risen_by (length ds) n) log (Some f)
  pub clear : IsClear plan n (length ds)
  pub took : First (LetsPass f.now) (length ds) ds es

-- it was lost after this many of them
pub record StartLost (plan : List Planned) (k n : ℕ) (log : List Entry) (f : Flight) (ds : List DeviceState) (u : Trip) (es : List DeviceState) : Type 0 where
  pub reached : ℕ
  pub within : reached < length ds
  pub is : u ≡ trip (risen_by (suc reached) n) (log ++ lost_at f (k + reached) ∷ []) None
  pub planned : next_fault plan (risen_by reached n) ≢ None
  pub took : First (LetsPass f.now) reached ds es

-- one of them took it, and what it sent goes past the others
pub record StartTaken (plan : List Planned) (k n : ℕ) (log : List Entry) (f : Flight) (ds : List DeviceState) (u : Trip) (es : List DeviceState) : Type 0 where
  pub before : List DeviceState
  pub before_then : List DeviceState
  pub taker : DeviceState
  pub taker_then : DeviceState
  pub after : List DeviceState
  pub after_then : List DeviceState
  pub devices : ds ≡ before ++ taker ∷ after
  pub devices_then : es ≡ before_then ++ taker_then ∷ after_then
  pub same : length before_then ≡ length before
  pub took : First (LetsPass f.now) (length before) before before_then
  pub clear : IsClear plan n (suc (length before))
  pub sent : Frame
  pub takes : Takes taker f.now (Source sent) taker_then
  pub sends : SendsFirst f.now taker taker_then sent
  pub journey : Journey plan (k + length before + 1) (trip (risen_by (suc (length before)) n) (log ++ ended_at f (k + length before) ∷ []) (Some (sourced (k + length before) sent))) after u after_then

abbrev pub StartGoes : List Planned → ℕ → ℕ → List Entry → Flight → List DeviceState → Trip → List DeviceState → Type 0
StartGoes plan k n log f ds u es = StartPassed plan n log f ds u es ⊎ (StartLost plan k n log f ds u es ⊎ StartTaken plan k n log f ds u es)

further : (plan : List Planned) (k n : ℕ) (log : List Entry) (f : Flight) (d e : DeviceState) (ds es : List DeviceState) (u : Trip) → next_fault plan n ≡ None → LetsPass f.now d e
    → StartGoes plan (k + 1) (risen n) log f ds u es → StartGoes plan k n log f (d ∷ ds) u (e ∷ es)
further plan k n log f d e ds es u none here (inl passed) = inl (record { is = passed.is; clear = (none, passed.clear); took = (here, passed.took) })
further plan k n log f d e ds es u none here (inr (inl lost)) = inr (inl (record {
  reached = suc lost.reached;
  within = omega (arith, lost.within);
  is = lost.is ∙ (let at : k + 1 + lost.reached ≡ k + suc lost.reached = omega arith in ap (λ q. trip (risen_by (suc (suc lost.reached)) n) (log ++ lost_at f q ∷ []) None) at);
  planned = lost.planned;
  took = (here, lost.took);
}))
further plan k n log f d e ds es u none here (inr (inr taken)) =
    let at : k + 1 + length taken.before ≡ k + length (d ∷ taken.before) = omega arith in
    inr (inr (record {
      before = d ∷ taken.before;
      before_then = e ∷ taken.before_then;
      taker = taken.taker;
      taker_then = taken.taker_then;
      after = taken.after;
      after_then = taken.after_then;
      devices = ap (λ xs. d ∷ xs) taken.devices;
      devices_then = ap (λ xs. e ∷ xs) taken.devices_then;
      same = ap suc taken.same;
      took = (here, taken.took);
      clear = (none, taken.clear);
      sent = taken.sent;
      takes = taken.takes;
      sends = taken.sends;
      journey = subst (λ p. Journey plan (p + 1) (trip (risen_by (suc (suc (length taken.before))) n) (log ++ ended_at f p ∷ []) (Some (sourced p taken.sent))) taken.after u taken.after_then) at taken.journey;
    }))

-- what holds of the message as it goes past these devices
abbrev Past : List Planned → ℕ → Flight → List DeviceState → Trip → List DeviceState → Type 0
Past plan k f ds u es = (n : ℕ) (log : List Entry) → Journey plan k (trip n log (Some f)) ds u es → StartGoes plan k n log f ds u es

answered_start : (plan : List Planned) (k n : ℕ) (log : List Entry) (f : Flight) (out : Out) (d e : DeviceState) (ds es : List DeviceState) (t u : Trip) → next_fault plan n ≡ None → Takes d f.now out e → t ≡ answered (risen n) log k f out
    → StartAnswer f.now d out e → Past plan (k + 1) f ds u es → Journey plan (k + 1) t ds u es → StartGoes plan k n log f (d ∷ ds) u (e ∷ es)
answered_start plan k n log f out d e ds es t u none takes is (inl passes) past journey =
    let on : t ≡ trip (risen n) log (Some f) = is ∙ ap (answered (risen n) log k f) passes.0 in
    further plan k n log f d e ds es u none passes.1 (past (risen n) log (subst (λ t. Journey plan (k + 1) t ds u es) on journey))
answered_start plan k n log f out d e ds es t u none takes is (inr sends) past journey =
    let on : t ≡ trip (risen n) (log ++ ended_at f k ∷ []) (Some (sourced k sends.0)) = is ∙ ap (answered (risen n) log k f) sends.1 in
    let at : k ≡ k + 0 = omega arith in
    inr (inr (record {
      before = [];
      before_then = [];
      taker = d;
      taker_then = e;
      after = ds;
      after_then = es;
      devices = refl;
      devices_then = refl;
      same = refl;
      took = tt;
      clear = (none, tt);
      sent = sends.0;
      takes = subst (λ out. Takes d f.now out e) sends.1 takes;
      sends = sends.2;
      journey = subst (λ p. Journey plan (p + 1) (trip (risen n) (log ++ ended_at f p ∷ []) (Some (sourced p sends.0))) ds u es) at (subst (λ t. Journey plan (k + 1) t ds u es) on journey);
    }))

met_start : (plan : List Planned) (k n : ℕ) (log : List Entry) (f : Flight) (fault : Option PlanFault) (d e : DeviceState) (ds es : List DeviceState) (t u : Trip) → is_start (message_of f.now) ≡ true → next_fault plan n ≡ fault → d.own ≡ None
    → Past plan (k + 1) f ds u es → Meets Takes k (trip n log (Some f)) f (hit fault f) d t e → Journey plan (k + 1) t ds u es → StartGoes plan k n log f (d ∷ ds) u (e ∷ es)
met_start plan k n log f None d e ds es t u start none own past meets journey =
    answered_start plan k n log f meets.0 d e ds es t u none meets.1 meets.2 (start_answer d e f.now meets.0 start own meets.1) past journey
met_start plan k n log f (Some fault) d e ds es t u start planned own past meets journey =
    let lost : (t ≡ missed (risen n) log k f) × (e ≡ d) = subst (λ o. Meets Takes k (trip n log (Some f)) f o d t e) (plain_hit fault f (start_no_data f.now start)) meets in
    let rest = nothing_comes plan (k + 1) t u ds es (LetsPass f.now) (ap (λ (t : Trip). t.flight) lost.0) journey in
    let at : k + 0 ≡ k = omega arith in
    inr (inl (record {
      reached = 0;
      within = omega arith;
      is = rest.0 ∙ lost.0 ∙ ap (λ q. trip (risen n) (log ++ lost_at f q ∷ []) None) (sym at);
      planned = λ none. let clash = sym planned ∙ none in cc;
      took = (lost.1, rest.1);
    }))

pub start_goes : (plan : List Planned) (k n : ℕ) (log : List Entry) (f : Flight) (ds es : List DeviceState) (u : Trip) → is_start (message_of f.now) ≡ true → NoneSends ds → Journey plan k (trip n log (Some f)) ds u es → StartGoes plan k n log f ds u es
start_goes plan k n log f [] [] u start none journey = inl (record { is = journey; clear = tt; took = tt })
start_goes plan k n log f (d ∷ ds) (e ∷ es) u start none journey =
    met_start plan k n log f (next_fault plan n) d e ds es journey.0 u start refl none.0 (λ n log journey. start_goes plan (k + 1) n log f ds es u start none.1 journey) journey.1 journey.2
start_goes plan k n log f [] (e ∷ es) u start none journey = absurd journey
start_goes plan k n log f (d ∷ ds) [] u start none journey = absurd journey
