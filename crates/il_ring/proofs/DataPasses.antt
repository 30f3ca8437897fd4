-- A data or end frame goes past devices that have no own frame on the loop: each hears it that listens. Once it may be
-- altered by a planned fault, and a second time it is lost.
use Rattle.std.proofs.Common.{◌≡◌, ◌≢◌, ◌<◌, ◌+◌, ◌++◌, ◌⊎◌, ◌&&◌, ◌==◌, inl, inr, ℕ, zero, suc, Bool, true, false, not, List, [], ◌∷◌, Option, Some, None, length, refl, sym, ap, ap₂, subst, ◌∙◌, arith, nat_lt}
use Rattle.std.specs.Prelude.{if◌then◌else◌}
use Rattle.std.specs.Int.Bits.{bit_xor, xor_self, xor_zero_l, xor_assoc}
use Rattle.std.proofs.lemmas.Bool.{and_parts, and_from, eq-eqb, not-true}
use Rattle.il_frames.specs.declared.frame.Class.{Class}
use Rattle.il_frames.specs.declared.frame.Class.TheVariants as class
use Rattle.il_frames.specs.declared.frame.Frame.{Frame}
use Rattle.il_frames.specs.declared.entry.Entry.{Entry}
use Rattle.il_frames.specs.declared.entry.Outcome.TheVariants as outcome
use Rattle.il_frames.specs.Frames.{byte_of, class_of, framed, is_data, same_class, same_but_service, with_service}
use Rattle.il_device.specs.declared.device.Out.{Out}
use Rattle.il_device.specs.declared.device.Out.TheVariants.{Pass}
use Rattle.il_device.specs.Passing.{served}
use Rattle.il_device.specs.State.{DeviceState, risen, risen_by}
use Rattle.il_device.specs.Takes.{Takes}
use Rattle.il_device.proofs.Laws.{Takes-data, assignment_after-data}
use Rattle.il_ring.specs.declared.plan.Planned.{Planned}
use Rattle.il_ring.specs.declared.plan.PlanFault.{PlanFault}
use Rattle.il_ring.specs.declared.plan.PlanFault.TheVariants.{Lose, Alter}
use Rattle.il_ring.specs.declared.flight.Flight.{Flight}
use Rattle.il_ring.specs.Plans.{IsPlan, rises_from, is_fault, fault_at, next_fault, last_crossing}
use Rattle.il_ring.specs.Flights.{altered_by, hit, lost_at}
use Rattle.il_ring.specs.Journeys.{Trip, trip, answered, missed, Meets, Journey}
use Rattle.il_ring.specs.Outcomes.{HearsByte, HearsAny}
use Rattle.il_ring.proofs.Faults.{IsClear}
use Rattle.il_ring.proofs.Passes.{nothing_comes}
use Rattle.il_ring.specs.Lists.{Each, First}
use Rattle.il_ring.proofs.PassKinds.{Silent}
use Rattle.il_ring.proofs.Takings.{served_data}

-- ---- the service bit

service_twice : (wants : Bool) (k : Class) (byte : ℕ) → with_service (served wants (framed k byte)) ≡ with_service (framed k byte)
service_twice false k byte = refl
service_twice true class.Dab byte = refl
service_twice true class.Dsr byte = refl
service_twice true class.End byte = refl
service_twice true class.Esr byte = refl
service_twice true class.Cmd byte = refl
service_twice true class.Rdy byte = refl
service_twice true class.Idy byte = refl
service_twice true class.Isr byte = refl

pub served_same : (wants : Bool) (f : Frame) → with_service (served wants f) ≡ with_service f
served_same wants f = service_twice wants (class_of f) (byte_of f)

-- frames that are the same with their service bits set are equal apart from it
pub same_served : (f g : Frame) → with_service g ≡ with_service f → same_but_service f g ≡ true
same_served f g e =
    let kind : same_class (class_of (with_service f)) (class_of (with_service g)) ≡ true = ap (λ g. same_class (class_of (with_service f)) (class_of g)) e ∙ eq-eqb _ _ refl in
    let byte : (byte_of f == byte_of g) ≡ true = eq-eqb (byte_of f) (byte_of g) (ap byte_of (sym e)) in
    and_from (same_class (class_of (with_service f)) (class_of (with_service g))) (byte_of f == byte_of g) kind byte

pub same_byte : (f g : Frame) → with_service g ≡ with_service f → byte_of g ≡ byte_of f
same_byte f g e = ap byte_of e

-- ---- alterations

-- an exclusive or with another byte than 0 makes another
pub xor_other : (b change : ℕ) → change ≢ 0 → bit_xor b change ≢ b
xor_other b change some same = some (sym (xor_back b change) ∙ ap (bit_xor b) same ∙ xor_self b)
  where
    xor_back : (b change : ℕ) → bit_xor b (bit_xor b change) ≡ change
    xor_back b change = sym (xor_assoc b b change) ∙ ap (λ z. bit_xor z change) (xor_self b) ∙ xor_zero_l change

planned_alters : (plan : List Planned) (low n : ℕ) (change : ℕ) → rises_from low plan ≡ true → fault_at plan n ≡ Some (Alter change) → change ≢ 0
planned_alters [] low n change rises planned = cc
planned_alters (p ∷ plan) low n change rises planned =
    let parts = and_parts (nat_lt low p.hop) (is_fault p.fault && rises_from p.hop plan) rises in
    let more = and_parts (is_fault p.fault) (rises_from p.hop plan) parts.1 in
    by_test (p.hop == n) planned more.0 (planned_alters plan p.hop n change more.1)
  where
    by_test : (test : Bool) → (if test then Some p.fault else fault_at plan n) ≡ Some (Alter change) → is_fault p.fault ≡ true → (fault_at plan n ≡ Some (Alter change) → change ≢ 0) → change ≢ 0
    by_test true here alters rest = alters_by p.fault (same_fault p.fault (Alter change) here) alters
      where
        same_fault : (x y : PlanFault) → Some x ≡ Some y → x ≡ y
        same_fault x y e = ap (λ o. elim o [ Some z ↦ z | None ↦ x ]) e

        alters_by : (fault : PlanFault) → fault ≡ Alter change → is_fault fault ≡ true → change ≢ 0
        alters_by Lose e alters = cc
        alters_by (Alter other) e alters = λ zero.
            let same : other ≡ change = ap (λ fault. elim fault [ Alter c ↦ c | Lose ↦ 0 ]) e in
            let clash = sym (not-true (other == 0) alters) ∙ eq-eqb other 0 (same ∙ zero) in cc
    by_test false here alters rest = rest here

pub next_alters : (plan : List Planned) (n change : ℕ) → IsPlan plan → next_fault plan n ≡ Some (Alter change) → change ≢ 0
next_alters plan n change is planned = by_test (nat_lt n last_crossing) planned
  where
    by_test : (test : Bool) → (if test then fault_at plan (n + 1) else None) ≡ Some (Alter change) → change ≢ 0
    by_test true planned = planned_alters plan 0 (n + 1) change is planned
    by_test false planned = cc

-- ---- one device

silent_hears : (d e : DeviceState) (g : Frame) (out : Out) → is_data g ≡ true → d.roles.talks ≡ false → Takes d g out e → (out ≡ Pass (served e.wants g)) × HearsByte (byte_of g) d e
silent_hears d e g out data_frame silent takes =
    let hears = Takes-data d g out e data_frame silent takes in (
      hears.answer,
      record {
        roles = hears.roles;
        own = hears.own;
        heard = hears.heard;
        heard_count = hears.heard_count;
        room = takes.room;
        accessory = takes.accessory;
        assignment = takes.assignment ∙ assignment_after-data d.roles d.assignment g data_frame;
      },
    )

-- ---- past all devices

-- nothing is planned on its way: it is the same apart from the service bit
pub record CameClean (plan : List Planned) (n : ℕ) (log : List Entry) (f : Flight) (ds : List DeviceState) (u : Trip) (es : List DeviceState) : Type 0 where
  pub now : Frame
  pub is : u ≡ trip (risen_by (length ds) n) log (Some (record f { now = now }))
  pub data_frame : is_data now ≡ true
  pub same : with_service now ≡ with_service f.now
  pub clear : IsClear plan n (length ds)
  pub took : First (HearsByte (byte_of f.now)) (length ds) ds es

-- it was altered: it has another byte
pub record CameAltered (plan : List Planned) (n : ℕ) (log : List Entry) (f : Flight) (ds : List DeviceState) (u : Trip) (es : List DeviceState) : Type 0 where
  pub now : Frame
  pub is : u ≡ trip (risen_by (length ds) n) log (Some (record f { now = now; altered = true }))
  pub data_frame : is_data now ≡ true
  pub first : f.altered ≡ false
  pub other : byte_of now ≢ byte_of f.now
  pub hop : ℕ
  pub within : hop < length ds
  pub planned : next_fault plan (risen_by hop n) ≢ None
  pub took : First HearsAny (length ds) ds es

-- it was lost after this many devices
pub record GotLost (plan : List Planned) (k n : ℕ) (log : List Entry) (f : Flight) (ds : List DeviceState) (u : Trip) (es : List DeviceState) : Type 0 where
  pub reached : ℕ
  pub within : reached < length ds
  pub is : u ≡ trip (risen_by (suc reached) n) (log ++ lost_at f (k + reached) ∷ []) None
  pub planned : next_fault plan (risen_by reached n) ≢ None
  pub took : First HearsAny reached ds es

abbrev pub DataGoes : List Planned → ℕ → ℕ → List Entry → Flight → List DeviceState → Trip → List DeviceState → Type 0
DataGoes plan k n log f ds u es = CameClean plan n log f ds u es ⊎ (CameAltered plan n log f ds u es ⊎ GotLost plan k n log f ds u es)

pub first_any : (b : ℕ) (j : ℕ) (ds es : List DeviceState) → First (HearsByte b) j ds es → First HearsAny j ds es
first_any b j [] [] took = tt
first_any b zero (d ∷ ds) (e ∷ es) took = (took.0, first_any b zero ds es took.1)
first_any b (suc j) (d ∷ ds) (e ∷ es) took = ((b, took.0), first_any b j ds es took.1)
first_any b j [] (e ∷ es) took = absurd took
first_any b j (d ∷ ds) [] took = absurd took

-- what holds of every data frame that goes past these devices
abbrev DataPast : List Planned → ℕ → List DeviceState → Trip → List DeviceState → Type 0
DataPast plan k ds u es = (n : ℕ) (log : List Entry) (f : Flight) → is_data f.now ≡ true → Journey plan k (trip n log (Some f)) ds u es → DataGoes plan k n log f ds u es

-- the frame was lost before this device
lost_now : (plan : List Planned) (k n : ℕ) (log : List Entry) (f : Flight) (fault : PlanFault) (d e : DeviceState) (ds es : List DeviceState) (t u : Trip) → next_fault plan n ≡ Some fault
    → (t ≡ missed (risen n) log k f) × (e ≡ d) → Journey plan (k + 1) t ds u es → DataGoes plan k n log f (d ∷ ds) u (e ∷ es)
lost_now plan k n log f fault d e ds es t u planned lost journey =
    let rest = nothing_comes plan (k + 1) t u ds es HearsAny (ap (λ (t : Trip). t.flight) lost.0) journey in
    let at : k + 0 ≡ k = omega arith in
    inr (inr (record {
      reached = 0;
      within = omega arith;
      is = rest.0 ∙ lost.0 ∙ ap (λ q. trip (risen n) (log ++ lost_at f q ∷ []) None) (sym at);
      planned = λ none. let clash = sym planned ∙ none in cc;
      took = (lost.1, rest.1);
    }))

-- it was lost further on
lost_later : (plan : List Planned) (k n : ℕ) (log : List Entry) (f g : Flight) (d e : DeviceState) (ds es : List DeviceState) (u : Trip) → g.source ≡ f.source → g.sent ≡ f.sent → HearsAny d e
    → GotLost plan (k + 1) (risen n) log g ds u es → GotLost plan k n log f (d ∷ ds) u (e ∷ es)
lost_later plan k n log f g d e ds es u source sent here lost =
    let at : k + 1 + lost.reached ≡ k + suc lost.reached = omega arith in
    record {
      reached = suc lost.reached;
      within = omega (arith, lost.within);
      is = lost.is ∙ ap (λ q. trip (risen_by (suc (suc lost.reached)) n) (log ++ lost_at g q ∷ []) None) at
          ∙ ap₂ (λ s sent. trip (risen_by (suc (suc lost.reached)) n) (log ++ record { source = s; frame = sent; outcome = outcome.Lost (k + suc lost.reached) } ∷ []) None) source sent;
      planned = lost.planned;
      took = (here, lost.took);
    }

-- this device let it pass, as it came over the link
passed_now : (plan : List Planned) (k n : ℕ) (log : List Entry) (f : Flight) (h : Frame) (d e : DeviceState) (ds es : List DeviceState) (u : Trip) → next_fault plan n ≡ None → with_service h ≡ with_service f.now → HearsByte (byte_of f.now) d e
    → DataGoes plan (k + 1) (risen n) log (record f { now = h }) ds u es → DataGoes plan k n log f (d ∷ ds) u (e ∷ es)
passed_now plan k n log f h d e ds es u none same here (inl came) = inl (record {
  now = came.now;
  is = came.is;
  data_frame = came.data_frame;
  same = came.same ∙ same;
  clear = (none, came.clear);
  took = (here, subst (λ b. First (HearsByte b) (length ds) ds es) (same_byte f.now h same) came.took);
})
passed_now plan k n log f h d e ds es u none same here (inr (inl came)) = inr (inl (record {
  now = came.now;
  is = came.is;
  data_frame = came.data_frame;
  first = came.first;
  other = λ e. came.other (e ∙ sym (same_byte f.now h same));
  hop = suc came.hop;
  within = omega (arith, came.within);
  planned = came.planned;
  took = ((byte_of f.now, here), came.took);
}))
passed_now plan k n log f h d e ds es u none same here (inr (inr lost)) = inr (inr (lost_later plan k n log f (record f { now = h }) d e ds es u refl refl (byte_of f.now, here) lost))

-- it was altered on the link to this device
altered_now : (plan : List Planned) (k n : ℕ) (log : List Entry) (f : Flight) (fault : PlanFault) (g h : Frame) (d e : DeviceState) (ds es : List DeviceState) (u : Trip) → next_fault plan n ≡ Some fault → f.altered ≡ false → byte_of g ≢ byte_of f.now
    → with_service h ≡ with_service g → HearsByte (byte_of g) d e → DataGoes plan (k + 1) (risen n) log (record f { now = h; altered = true }) ds u es → DataGoes plan k n log f (d ∷ ds) u (e ∷ es)
altered_now plan k n log f fault g h d e ds es u planned first other same here (inl came) = inr (inl (record {
  now = came.now;
  is = came.is;
  data_frame = came.data_frame;
  first = first;
  other = λ e. other (sym (same_byte h came.now came.same ∙ same_byte g h same) ∙ e);
  hop = 0;
  within = omega arith;
  planned = λ none. let clash = sym planned ∙ none in cc;
  took = ((byte_of g, here), first_any (byte_of h) (length ds) ds es came.took);
}))
altered_now plan k n log f fault g h d e ds es u planned first other same here (inr (inl came)) = let clash = came.first in cc
altered_now plan k n log f fault g h d e ds es u planned first other same here (inr (inr lost)) = inr (inr (lost_later plan k n log f (record f { now = h; altered = true }) d e ds es u refl refl (byte_of g, here) lost))

met_altered : (plan : List Planned) (k n : ℕ) (log : List Entry) (f : Flight) (change : ℕ) (may : Bool) (d e : DeviceState) (ds es : List DeviceState) (t u : Trip) → (is_data f.now && not f.altered) ≡ may → IsPlan plan → next_fault plan n ≡ Some (Alter change)
    → d.roles.talks ≡ false → is_data f.now ≡ true → DataPast plan (k + 1) ds u es
    → Meets Takes k (trip n log (Some f)) f (if may then Some (record f { now = altered_by change f.now; altered = true }) else None) d t e → Journey plan (k + 1) t ds u es → DataGoes plan k n log f (d ∷ ds) u (e ∷ es)
met_altered plan k n log f change true d e ds es t u test is planned silent data_frame past meets journey =
    let g = altered_by change f.now in
    let hears = silent_hears d e g meets.0 data_frame silent meets.1 in
    let h = served e.wants g in
    let on : t ≡ trip (risen n) log (Some (record f { now = h; altered = true })) = meets.2 ∙ ap (answered (risen n) log k (record f { now = g; altered = true })) hears.0 in
    altered_now plan k n log f (Alter change) g h d e ds es u planned (not-true f.altered (and_parts (is_data f.now) (not f.altered) test).1) (xor_other (byte_of f.now) change (next_alters plan n change is planned)) (served_same e.wants g) hears.1
    (past (risen n) log (record f { now = h; altered = true }) (served_data e.wants g ∙ data_frame) (subst (λ t. Journey plan (k + 1) t ds u es) on journey))
met_altered plan k n log f change false d e ds es t u test is planned silent data_frame past meets journey = lost_now plan k n log f (Alter change) d e ds es t u planned meets journey

met_data : (plan : List Planned) (k n : ℕ) (log : List Entry) (f : Flight) (fault : Option PlanFault) (d e : DeviceState) (ds es : List DeviceState) (t u : Trip) → IsPlan plan → next_fault plan n ≡ fault → d.roles.talks ≡ false → is_data f.now ≡ true
    → DataPast plan (k + 1) ds u es → Meets Takes k (trip n log (Some f)) f (hit fault f) d t e → Journey plan (k + 1) t ds u es → DataGoes plan k n log f (d ∷ ds) u (e ∷ es)
met_data plan k n log f None d e ds es t u is none silent data_frame past meets journey =
    let hears = silent_hears d e f.now meets.0 data_frame silent meets.1 in
    let h = served e.wants f.now in
    let on : t ≡ trip (risen n) log (Some (record f { now = h })) = meets.2 ∙ ap (answered (risen n) log k f) hears.0 in
    passed_now plan k n log f h d e ds es u none (served_same e.wants f.now) hears.1 (past (risen n) log (record f { now = h }) (served_data e.wants f.now ∙ data_frame) (subst (λ t. Journey plan (k + 1) t ds u es) on journey))
met_data plan k n log f (Some Lose) d e ds es t u is planned silent data_frame past meets journey = lost_now plan k n log f Lose d e ds es t u planned meets journey
met_data plan k n log f (Some (Alter change)) d e ds es t u is planned silent data_frame past meets journey =
    met_altered plan k n log f change (is_data f.now && not f.altered) d e ds es t u refl is planned silent data_frame past meets journey

-- A data or end frame goes past devices of which none talks.
pub data_past : (plan : List Planned) (k n : ℕ) (log : List Entry) (f : Flight) (ds es : List DeviceState) (u : Trip) → IsPlan plan → Each Silent k ds → is_data f.now ≡ true → Journey plan k (trip n log (Some f)) ds u es → DataGoes plan k n log f ds u es
data_past plan k n log f [] [] u is silent data_frame journey = inl (record { now = f.now; is = journey; data_frame = data_frame; same = refl; clear = tt; took = tt })
data_past plan k n log f (d ∷ ds) (e ∷ es) u is silent data_frame journey =
    met_data plan k n log f (next_fault plan n) d e ds es journey.0 u is refl silent.0 data_frame (λ n log f data_frame journey. data_past plan (k + 1) n log f ds es u is silent.1 data_frame journey) journey.1 journey.2
data_past plan k n log f [] (e ∷ es) u is silent data_frame journey = absurd journey
data_past plan k n log f (d ∷ ds) [] u is silent data_frame journey = absurd journey
