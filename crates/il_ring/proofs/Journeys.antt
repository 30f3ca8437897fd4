-- A journey goes on by one device, and two journeys join. What holds of a trip as it comes to each party, and of each party then, holds past all of them.
use Rattle.std.proofs.Common.{◌≡◌, ℕ, ◌+◌, ◌<◌, ◌≤◌, Option, Some, None, List, [], ◌∷◌, ◌++◌, length, map, take, drop, get_or, set, refl, sym, ap, subst, ◌∙◌, arith, add-zero}
use Rattle.std.proofs.lemmas.List.{take_more, take_more_set, drop-set-lt, get_or-drop, map-append, length-map, length-take-le, drop-drop}
use Rattle.il_frames.specs.declared.frame.Frame.{Frame}
use Rattle.il_device.specs.declared.device.Out.{Out}
use Rattle.il_device.specs.State.{DeviceState, risen}
use Rattle.il_device.specs.Takes.{Takes}
use Rattle.il_guest.specs.declared.guest.GuestOut.{GuestOut}
use Rattle.il_guest.specs.State.{GuestState}
use Rattle.il_guest.specs.Takes.{GuestTakes}
use Rattle.il_ring.specs.declared.flight.Flight.{Flight}
use Rattle.il_ring.specs.declared.plan.Planned.{Planned}
use Rattle.il_ring.specs.Flights.{hit}
use Rattle.il_ring.specs.Journeys.{Trip, answered, missed, Meets, Reaches, Passage, Journey}
use Rattle.il_ring.specs.Lending.{ControlledTrip, GuestMeets, GuestReaches, controlled, controlled_answers}
use Rattle.il_ring.specs.Lists.{First}
use Rattle.il_ring.specs.Plans.{next_fault}

-- one after the other
pub Journey-append : (plan : List Planned) (k p : ℕ) (t u v : Trip) (ds es xs ys : List DeviceState) → p ≡ k + length ds → Journey plan k t ds u es → Journey plan p u xs v ys → Journey plan k t (ds ++ xs) v (es ++ ys)
Journey-append plan k p t u v [] [] xs ys at first more =
    let same : p ≡ k = omega (arith, at) in
    subst (λ t. Journey plan k t xs v ys) first (subst (λ k. Journey plan k u xs v ys) same more)
Journey-append plan k p t u v (d ∷ ds) (e ∷ es) xs ys at first more =
    (first.0, first.1, Journey-append plan (k + 1) p first.0 u v ds es xs ys (omega (arith, at)) first.2 more)
Journey-append plan k p t u v [] (e ∷ es) xs ys at first more = absurd first
Journey-append plan k p t u v (d ∷ ds) [] xs ys at first more = absurd first

pub Journey-one : (plan : List Planned) (k : ℕ) (t u : Trip) (d e : DeviceState) → Passage Takes plan k t d u e → Journey plan k t (d ∷ []) u (e ∷ [])
Journey-one plan k t u d e passage = (u, passage, refl)

-- the journey past the first i + 1 of a list, from the one past the first i and the next device
pub Journey-more : {D : Type 0} (state : D → DeviceState) (plan same : List Planned) (k p i : ℕ) (t u v : Trip) (old now : List D) (r e : D) → same ≡ plan → i < length now → length now ≡ length old → p ≡ k + i → drop i now ≡ drop i old
    → Journey plan k t (map state (take i old)) u (map state (take i now)) → Passage Takes same p u (state (get_or now i r)) v (state e) → Journey plan k t (map state (take (i + 1) old)) v (map state (take (i + 1) (set now i e)))
Journey-more state plan same k p i t u v old now r e plans below len at rest journey passage =
    let within : i < length old = omega (arith, below, len) in
    let here : get_or old i r ≡ get_or now i r =
    ap (λ n. get_or old n r) (sym (add-zero i)) ∙ sym (get_or-drop i old 0 r) ∙ ap (λ xs. get_or xs 0 r) (sym rest) ∙ get_or-drop i now 0 r ∙ ap (λ n. get_or now n r) (add-zero i) in
    let olds : take (i + 1) old ≡ take i old ++ get_or now i r ∷ [] = take_more old i r within ∙ ap (λ x. take i old ++ x ∷ []) here in
    let news : take (i + 1) (set now i e) ≡ take i now ++ e ∷ [] = take_more_set now i e below in
    rw (olds, news, map-append, map-append)
    (Journey-append plan k p t u v (map state (take i old)) (map state (take i now)) (state (get_or now i r) ∷ []) (state e ∷ []) (omega (arith, at, length-map (take i old) state, length-take-le i old (omega (arith, within)))) journey
    (Journey-one plan p u v (state (get_or now i r)) (state e) (subst (λ plan. Passage Takes plan p u (state (get_or now i r)) v (state e)) plans passage)))

-- the others stand as they stood
pub rest_more : {D : Type 0} (i : ℕ) (old now : List D) (e : D) → drop i now ≡ drop i old → drop (i + 1) (set now i e) ≡ drop (i + 1) old
rest_more i old now e rest = drop-set-lt (i + 1) now i e (omega arith) ∙ sym (drop-drop 1 i now) ∙ ap (λ xs. drop 1 xs) rest ∙ drop-drop 1 i old

-- ---- past one party, and past devices

-- What holds past party k, of the trip and of the party's state, if it holds when no frame is on its way, when the frame was lost on the link to
-- that party, and when the party answered it.
module _ {D : Type 0} (takes : D → Frame → Out → D → Type 0) (plan : List Planned) (k : ℕ) (t : Trip) (d : D) (P : Trip → D → Type 0) (none : t.flight ≡ None → P t d)
    (lost : (f : Flight) → t.flight ≡ Some f → hit (next_fault plan t.crossings) f ≡ None → P (missed (risen t.crossings) t.log k f) d)
    (answers : (f g : Flight) (out : Out) (e : D) → t.flight ≡ Some f → hit (next_fault plan t.crossings) f ≡ Some g → takes d g.now out e → P (answered (risen t.crossings) t.log k g out) e) (u : Trip) (e : D) where
  met_by : (f : Flight) (o : Option Flight) → t.flight ≡ Some f → hit (next_fault plan t.crossings) f ≡ o → Meets takes k t f o d u e → P u e
  met_by f None is gone met = subst (λ u. P u e) (sym met.0) (subst (λ e. P (missed (risen t.crossings) t.log k f) e) (sym met.1) (lost f is gone))
  met_by f (Some g) is came met = subst (λ u. P u e) (sym met.2) (answers f g met.0 e is came met.1)

  reached_by : (o : Option Flight) → t.flight ≡ o → Reaches takes plan k t o d u e → P u e
  reached_by None is reached = subst (λ u. P u e) (sym reached.0) (subst (λ e. P t e) (sym reached.1) (none is))
  reached_by (Some f) is reached = met_by f (hit (next_fault plan t.crossings) f) is refl reached

  pub past_party : Passage takes plan k t d u e → P u e
  past_party passage = reached_by t.flight refl passage

-- Past devices, the first of which is party k, `least` or a later one: I holds of the trip as it comes to each party and after the last, and R of each
-- device, if one party keeps to that.
module _ (plan : List Planned) (least : ℕ) (I : ℕ → Trip → Type 0) (R : DeviceState → DeviceState → Type 0) (one : (k : ℕ) (t u : Trip) (d e : DeviceState) → least ≤ k → I k t → Passage Takes plan k t d u e → I (k + 1) u × R d e) where
  pub past_devices : (k : ℕ) (t u : Trip) (ds es : List DeviceState) → least ≤ k → I k t → Journey plan k t ds u es → I (k + length ds) u × First R (length ds) ds es
  past_devices k t u [] [] some before journey = (subst (λ u. I (k + 0) u) (sym journey) (let same : k ≡ k + 0 = omega arith in subst (λ k. I k t) same before), tt)
  past_devices k t u (d ∷ ds) (e ∷ es) some before journey =
      let first = one k t journey.0 d e some before journey.1 in
      let more = past_devices (k + 1) journey.0 u ds es (omega (arith, some)) first.0 journey.2 in
      let far : k + 1 + length ds ≡ k + length (d ∷ ds) = omega arith in
      (subst (λ k. I k u) far more.0, (first.1, more.1))
  past_devices k t u [] (e ∷ es) some before journey = absurd journey
  past_devices k t u (d ∷ ds) [] some before journey = absurd journey

-- The same past party k if that is a second controller: what holds of the trip, of the frame that it keeps, and of its state.
module _ (plan : List Planned) (k : ℕ) (t : Trip) (kept : Option Flight) (g : GuestState) (P : ControlledTrip → GuestState → Type 0) (none : t.flight ≡ None → P (controlled t kept) g)
    (lost : (f : Flight) → t.flight ≡ Some f → hit (next_fault plan t.crossings) f ≡ None → P (controlled (missed (risen t.crossings) t.log k f) kept) g)
    (answers : (f at : Flight) (out : GuestOut) (h : GuestState) → t.flight ≡ Some f → hit (next_fault plan t.crossings) f ≡ Some at → GuestTakes g at.now out h → P (controlled_answers (risen t.crossings) t.log k at kept out) h)
    (u : ControlledTrip) (h : GuestState) where
  guest_met : (f : Flight) (o : Option Flight) → t.flight ≡ Some f → hit (next_fault plan t.crossings) f ≡ o → GuestMeets k t kept f o g u h → P u h
  guest_met f None is gone met = subst (λ u. P u h) (sym met.0) (subst (λ h. P (controlled (missed (risen t.crossings) t.log k f) kept) h) (sym met.1) (lost f is gone))
  guest_met f (Some at) is came met = subst (λ u. P u h) (sym met.2) (answers f at met.0 h is came met.1)

  guest_reached : (o : Option Flight) → t.flight ≡ o → GuestReaches plan k t kept o g u h → P u h
  guest_reached None is reached = subst (λ u. P u h) (sym reached.0) (subst (λ h. P (controlled t kept) h) (sym reached.1) (none is))
  guest_reached (Some f) is reached = guest_met f (hit (next_fault plan t.crossings) f) is refl reached

  pub past_guest : GuestReaches plan k t kept t.flight g u h → P u h
  past_guest reached = guest_reached t.flight refl reached
