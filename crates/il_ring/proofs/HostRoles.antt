-- What a frame of the host does to the devices' roles is what its entry says.
use Rattle.std.proofs.Common.{◌≡◌, ◌≤◌, ◌<◌, ◌+◌, ◌++◌, ◌⊎◌, ◌==◌, inl, inr, ℕ, suc, true, false, List, [], ◌∷◌, Option, Some, None, refl, sym, ap, ap₂, subst, ◌∙◌, arith, append_assoc}
use Rattle.std.specs.Prelude.{if◌then◌else◌}
use Rattle.std.specs.List.{list_all}
use Rattle.std.proofs.lemmas.Bool.{ne_eqb}
use Rattle.std.proofs.lemmas.Bool.Decides.{nat_tests}
use Rattle.il_frames.specs.declared.frame.Frame.{Frame}
use Rattle.il_frames.specs.declared.message.Message.{Message}
use Rattle.il_frames.specs.declared.entry.Entry.{Entry}
use Rattle.il_frames.specs.declared.entry.Outcome.{Outcome}
use Rattle.il_frames.specs.declared.entry.Outcome.TheVariants as outcome
use Rattle.il_device.specs.declared.device.Out.{Out}
use Rattle.il_device.specs.declared.device.Out.TheVariants.{Pass, Source}
use Rattle.il_device.specs.declared.roles.Roles.{Roles}
use Rattle.il_device.specs.State.{DeviceState, risen}
use Rattle.il_device.specs.Takes.{Takes}
use Rattle.il_frames.specs.NamedFrames.{entry}
use Rattle.loop_model.specs.Reach.{is_reached}
use Rattle.loop_model.specs.Roles.{roles_by, passed_on, roles_along}
use Rattle.il_ring.specs.declared.plan.Planned.{Planned}
use Rattle.il_ring.specs.declared.flight.Flight.{Flight}
use Rattle.il_ring.specs.Plans.{next_fault}
use Rattle.il_ring.specs.Flights.{hit, lost_at, ended_at}
use Rattle.il_ring.specs.Journeys.{Trip, trip, answered, missed, Meets, Journey}
use Rattle.il_ring.specs.Rings.{roles_of}
use Rattle.il_ring.proofs.CountSteps.{hit_same}
use Rattle.il_ring.proofs.Passing.{Carries, carries_on, carried_roles}
use Rattle.il_ring.proofs.RoundRoles.{AreQuiet, hit_carries, sent_quiet, leaves_roles}
use Rattle.il_ring.specs.Outcomes.{is_other}

-- ---- which devices a frame reached

-- no device from this party on
unreached : (o : Outcome) (k : ℕ) (m : Message) (rs : List Roles) → ((p : ℕ) → k ≤ p → is_reached 0 o p ≡ false) → roles_along 0 o k m rs ≡ rs
unreached o k m [] none = refl
unreached o k m (r ∷ rs) none =
    let here = none k (omega arith) in
    rw here (ap (λ rs. r ∷ rs) (unreached o (suc k) m rs (λ p le. none p (omega (arith, le)))))

-- this one
along_reached : (o : Outcome) (k : ℕ) (m : Message) (r : Roles) (rs : List Roles) → is_reached 0 o k ≡ true → roles_along 0 o k m (r ∷ rs) ≡ roles_by m r ∷ roles_along 0 o (suc k) (passed_on m r) rs
along_reached o k m r rs here = rw here refl

-- all
pub along_all : (o : Outcome) (f : Frame) (k : ℕ) (m : Message) (rs : List Roles) → ((p : ℕ) → is_reached 0 o p ≡ true) → roles_along 0 o k m rs ≡ roles_along 0 (outcome.Back f) k m rs
along_all o f k m [] all = refl
along_all o f k m (r ∷ rs) all = along_reached o k m r rs (all k) ∙ ap (λ rs. roles_by m r ∷ rs) (along_all o f (suc k) (passed_on m r) rs all)

lost_reach : (k p : ℕ) → 1 ≤ k → ((k ≤ p) → is_reached 0 (outcome.Lost k) p ≡ false) × ((p < k) → is_reached 0 (outcome.Lost k) p ≡ true)
lost_reach k p some = ((λ le. grind (arith, nat_tests)), (λ lt. grind (arith, nat_tests)))

taken_reach : (k p : ℕ) → 1 ≤ k → ((suc k ≤ p) → is_reached 0 (outcome.Taken k) p ≡ false) × ((p ≤ k) → is_reached 0 (outcome.Taken k) p ≡ true)
taken_reach k p some = ((λ le. grind (arith, nat_tests)), (λ lt. grind (arith, nat_tests)))

-- ---- journeys

-- the frame is still on its way, and has reached all these devices
pub record IsOnItsWay (k : ℕ) (m : Message) (f : Flight) (log : List Entry) (ds : List DeviceState) (u : Trip) (es : List DeviceState) : Type 0 where
  pub flight : Flight
  pub on_way : u.flight ≡ Some flight
  pub source : flight.source ≡ 0
  pub sent : flight.sent ≡ f.sent
  pub log_is : u.log ≡ log
  pub roles : roles_of es ≡ roles_along 0 (outcome.Back f.sent) k m (roles_of ds)

-- it has ended so, and what is on its way since then changes no role
pub record HasEnded (k : ℕ) (m : Message) (f : Flight) (log : List Entry) (ds : List DeviceState) (u : Trip) (es : List DeviceState) : Type 0 where
  pub ended : Outcome
  pub rest : List Entry
  pub log_is : u.log ≡ log ++ entry 0 f.sent ended ∷ rest
  pub others : list_all is_other rest ≡ true
  pub roles : roles_of es ≡ roles_along 0 ended k m (roles_of ds)
  pub reached : (p : ℕ) → p < k → is_reached 0 ended p ≡ true
  pub quiet : AreQuiet u.flight

abbrev pub HostGoes : ℕ → Message → Flight → List Entry → List DeviceState → Trip → List DeviceState → Type 0
HostGoes k m f log ds u es = IsOnItsWay k m f log ds u es ⊎ HasEnded k m f log ds u es

-- a further device, which passed the frame on
one_more : (k : ℕ) (m : Message) (f g : Flight) (log : List Entry) (d e : DeviceState) (ds es : List DeviceState) (u : Trip) → g.sent ≡ f.sent → e.roles ≡ roles_by m d.roles
    → HostGoes (k + 1) (passed_on m d.roles) g log ds u es → HostGoes k m f log (d ∷ ds) u (e ∷ es)
one_more k m f g log d e ds es u same here (inl on) =
    let next : k + 1 ≡ suc k = omega arith in
    inl (record {
      flight = on.flight;
      on_way = on.on_way;
      source = on.source;
      sent = on.sent ∙ same;
      log_is = on.log_is;
      roles = ap₂ (λ r rs. r ∷ rs) here (on.roles ∙ ap₂ (λ sent k. roles_along 0 (outcome.Back sent) k (passed_on m d.roles) (roles_of ds)) same next);
    })
one_more k m f g log d e ds es u same here (inr over) =
    let next : k + 1 ≡ suc k = omega arith in
    inr (record {
      ended = over.ended;
      rest = over.rest;
      log_is = over.log_is ∙ ap (λ sent. log ++ entry 0 sent over.ended ∷ over.rest) same;
      others = over.others;
      roles =
          ap₂ (λ r rs. r ∷ rs) here (over.roles ∙ ap (λ k. roles_along 0 over.ended k (passed_on m d.roles) (roles_of ds)) next)
          ∙ sym (along_reached over.ended k m d.roles (roles_of ds) (over.reached k (omega arith)));
      reached = λ p lt. over.reached p (omega (arith, lt));
      quiet = over.quiet;
    })

-- the entry of the host's frame
host_lost : (f : Flight) (k : ℕ) → f.source ≡ 0 → lost_at f k ≡ entry 0 f.sent (outcome.Lost k)
host_lost f k host = ap (λ s. entry s f.sent (outcome.Lost k)) host

host_taken : (g f : Flight) (k : ℕ) → 1 ≤ k → g.source ≡ 0 → g.sent ≡ f.sent → ended_at g k ≡ entry 0 f.sent (outcome.Taken k)
host_taken g f k some host same =
    ap₂ (λ s sent. entry s sent (if s == k then outcome.Back g.now else outcome.Taken k)) host same
    ∙ ap (λ test. entry 0 f.sent (if test then outcome.Back g.now else outcome.Taken k)) (ne_eqb 0 k (λ e. omega (arith, e, some)))

-- the frame was lost before this device
lost_here : (plan : List Planned) (k : ℕ) (m : Message) (f : Flight) (n : ℕ) (log : List Entry) (d : DeviceState) (ds es : List DeviceState) (u : Trip) → 1 ≤ k → f.source ≡ 0
    → Journey plan (k + 1) (missed n log k f) ds u es → HasEnded k m f log (d ∷ ds) u (d ∷ es)
lost_here plan k m f n log d ds es u some host journey =
    let rest = leaves_roles plan (k + 1) (missed n log k f) u ds es (omega arith) tt journey in
    record {
      ended = outcome.Lost k;
      rest = rest.entries;
      log_is = rest.log ∙ append_assoc log (lost_at f k ∷ []) rest.entries ∙ ap (λ e. log ++ e ∷ rest.entries) (host_lost f k host);
      others = rest.others;
      roles = ap (λ rs. d.roles ∷ rs) rest.roles ∙ sym (unreached (outcome.Lost k) k m (d.roles ∷ roles_of ds) (λ p le. (lost_reach k p some).0 le));
      reached = λ p lt. (lost_reach k p some).1 lt;
      quiet = rest.quiet;
    }

-- this device sent one in its place
taken_here : (plan : List Planned) (k : ℕ) (m : Message) (f g : Flight) (h : Frame) (n : ℕ) (log : List Entry) (d e : DeviceState) (ds es : List DeviceState) (u : Trip) → 1 ≤ k → g.source ≡ 0 → g.sent ≡ f.sent
    → e.roles ≡ roles_by m d.roles → Takes d g.now (Source h) e → Journey plan (k + 1) (answered n log k g (Source h)) ds u es → HasEnded k m f log (d ∷ ds) u (e ∷ es)
taken_here plan k m f g h n log d e ds es u some host same here takes journey =
    let rest = leaves_roles plan (k + 1) (answered n log k g (Source h)) u ds es (omega arith) (sent_quiet k d e g.now h some takes) journey in
    record {
      ended = outcome.Taken k;
      rest = rest.entries;
      log_is = rest.log ∙ append_assoc log (ended_at g k ∷ []) rest.entries ∙ ap (λ e. log ++ e ∷ rest.entries) (host_taken g f k some host same);
      others = rest.others;
      roles =
          ap₂ (λ r rs. r ∷ rs) here (rest.roles ∙ sym (unreached (outcome.Taken k) (suc k) (passed_on m d.roles) (roles_of ds) (λ p le. (taken_reach k p some).0 le)))
          ∙ sym (along_reached (outcome.Taken k) k m d.roles (roles_of ds) ((taken_reach k k some).1 (omega arith)));
      reached = λ p lt. (taken_reach k p some).1 (omega (arith, lt));
      quiet = rest.quiet;
    }

-- what holds of every frame of the host that goes past these devices
abbrev Past : List Planned → ℕ → List DeviceState → Trip → List DeviceState → Type 0
Past plan k ds u es = (m : Message) (f : Flight) (n : ℕ) (log : List Entry) → f.source ≡ 0 → Carries m f.now → Journey plan k (trip n log (Some f)) ds u es → HostGoes k m f log ds u es

host_answered : (plan : List Planned) (k : ℕ) (m : Message) (f g : Flight) (n : ℕ) (log : List Entry) (out : Out) (d e : DeviceState) (ds es : List DeviceState) (u : Trip) → Past plan (k + 1) ds u es → 1 ≤ k → g.source ≡ 0 → g.sent ≡ f.sent
    → Carries m g.now → Takes d g.now out e → Journey plan (k + 1) (answered n log k g out) ds u es → HostGoes k m f log (d ∷ ds) u (e ∷ es)
host_answered plan k m f g n log (Pass h) d e ds es u past some host same carries takes journey =
    one_more k m f (record g { now = h }) log d e ds es u same (carried_roles m d e g.now (Pass h) carries takes)
    (past (passed_on m d.roles) (record g { now = h }) n log host (carries_on m d e g.now h carries takes) journey)
host_answered plan k m f g n log (Source h) d e ds es u past some host same carries takes journey =
    inr (taken_here plan k m f g h n log d e ds es u some host same (carried_roles m d e g.now (Source h) carries takes) takes journey)

host_met : (plan : List Planned) (k : ℕ) (m : Message) (f : Flight) (n : ℕ) (log : List Entry) (o : Option Flight) (d e : DeviceState) (ds es : List DeviceState) (t u : Trip) → Past plan (k + 1) ds u es → 1 ≤ k → f.source ≡ 0 → Carries m f.now
    → hit (next_fault plan n) f ≡ o → Meets Takes k (trip n log (Some f)) f o d t e → Journey plan (k + 1) t ds u es → HostGoes k m f log (d ∷ ds) u (e ∷ es)
host_met plan k m f n log None d e ds es t u past some host carries is met journey =
    inr (subst (λ e. HasEnded k m f log (d ∷ ds) u (e ∷ es)) (sym met.1) (lost_here plan k m f (risen n) log d ds es u some host (subst (λ t. Journey plan (k + 1) t ds u es) met.0 journey)))
host_met plan k m f n log (Some g) d e ds es t u past some host carries is met journey =
    let same = hit_same (next_fault plan n) f g is in
    host_answered plan k m f g (risen n) log met.0 d e ds es u past some (same.source ∙ host) same.sent (hit_carries m (next_fault plan n) f g carries is) met.1 (subst (λ t. Journey plan (k + 1) t ds u es) met.2 journey)

-- past devices, the first of which is party k
pub host_goes : (plan : List Planned) (k : ℕ) (m : Message) (f : Flight) (n : ℕ) (log : List Entry) (ds es : List DeviceState) (u : Trip) → 1 ≤ k → f.source ≡ 0 → Carries m f.now
    → Journey plan k (trip n log (Some f)) ds u es → HostGoes k m f log ds u es
host_goes plan k m f n log [] [] u some host carries journey =
    inl (record { flight = f; on_way = ap (λ (u : Trip). u.flight) journey; source = host; sent = refl; log_is = ap (λ (u : Trip). u.log) journey; roles = refl })
host_goes plan k m f n log (d ∷ ds) (e ∷ es) u some host carries journey =
    host_met plan k m f n log (hit (next_fault plan n) f) d e ds es journey.0 u (λ m f n log host carries journey. host_goes plan (k + 1) m f n log ds es u (omega arith) host carries journey) some host carries refl journey.1 journey.2
host_goes plan k m f n log [] (e ∷ es) u some host carries journey = absurd journey
host_goes plan k m f n log (d ∷ ds) [] u some host carries journey = absurd journey
