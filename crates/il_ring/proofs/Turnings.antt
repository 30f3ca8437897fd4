-- Up to its last party a frame on a lent ring goes as on the ring of the devices before that party, the frames of which are the host's.
use Rattle.std.proofs.Common.{◌≡◌, ◌≤◌, ◌<◌, ◌+◌, ◌++◌, ◌==◌, ◌&&◌, not, ℕ, zero, suc, Bool, true, false, List, [], ◌∷◌, Option, Some, None, option_map, length, refl, sym, ap, ap₂, subst, ◌∙◌, arith, append_assoc, eqb-true}
use Rattle.std.specs.Prelude.{if◌then◌else◌}
use Rattle.std.proofs.lemmas.List.{map-append}
use Rattle.il_frames.specs.declared.entry.Entry.{Entry}
use Rattle.il_frames.specs.declared.entry.Outcome.TheVariants as outcome
use Rattle.il_frames.specs.declared.frame.Frame.{Frame}
use Rattle.il_frames.specs.Frames.{is_data}
use Rattle.il_device.specs.declared.device.Out.{Out}
use Rattle.il_device.specs.declared.device.Out.TheVariants.{Pass, Source}
use Rattle.il_device.specs.State.{DeviceState, risen}
use Rattle.il_device.specs.Takes.{Takes}
use Rattle.il_ring.specs.declared.plan.Planned.{Planned}
use Rattle.il_ring.specs.declared.plan.PlanFault.{PlanFault}
use Rattle.il_ring.specs.declared.plan.PlanFault.TheVariants.{Lose, Alter}
use Rattle.il_ring.specs.declared.flight.Flight.{Flight}
use Rattle.il_ring.specs.Plans.{next_fault}
use Rattle.il_ring.specs.Flights.{sourced, hit, altered_by, lost_at, ended_at}
use Rattle.il_ring.specs.Journeys.{Trip, trip, missed, answered, Meets, Reaches, Passage, Journey}
use Rattle.il_ring.specs.Turned.{turned, turned_outcome, turned_entry, turned_entries, turned_flight}
use Rattle.il_ring.proofs.CountSteps.{hit_same}
use Rattle.il_ring.proofs.RelayRounds.{test_false}

-- ---- one frame and its entries

hit_where : (k change : ℕ) (f : Flight) (may : Bool)
    → (if may then Some (record (turned_flight k f) { now = altered_by change f.now; altered = true }) else None) ≡ option_map (turned_flight k) (if may then Some (record f { now = altered_by change f.now; altered = true }) else None)
hit_where k change f true = refl
hit_where k change f false = refl

pub turned_hit : (k : ℕ) (fault : Option PlanFault) (f : Flight) → hit fault (turned_flight k f) ≡ option_map (turned_flight k) (hit fault f)
turned_hit k None f = refl
turned_hit k (Some Lose) f = refl
turned_hit k (Some (Alter change)) f = hit_where k change f (is_data f.now && not f.altered)

outcome_where : (k j : ℕ) (now : Frame) (home : Bool)
    → (if home then outcome.Back now else outcome.Taken (suc j)) ≡ turned_outcome k (if home then outcome.Back now else outcome.Taken (suc j))
outcome_where k j now true = refl
outcome_where k j now false = refl

pub apart : (a b : ℕ) → (a ≡ b → ⊥) → (a == b) ≡ false
apart a b other = test_false (a == b) (λ same. other (eqb-true a b same))

none_at : 1 ≤ 0 → ⊥
none_at some = omega (arith, some)

outcome_at : (k j source : ℕ) (now : Frame) → 1 ≤ j → j < k
    → (if turned k source == j then outcome.Back now else outcome.Taken j) ≡ turned_outcome k (if source == j then outcome.Back now else outcome.Taken j)
outcome_at k zero source now some less = absurd (none_at some)
outcome_at k (suc j) zero now some less =
    let other = apart k (suc j) (λ same. omega (arith, same, less)) in
    let none = apart 0 (suc j) (λ same. omega (arith, same)) in
    ap (λ home. if home then outcome.Back now else outcome.Taken (suc j)) other ∙ sym (ap (λ home. turned_outcome k (if home then outcome.Back now else outcome.Taken (suc j))) none)
outcome_at k (suc j) (suc source) now some less = outcome_where k j now (suc source == suc j)

pub turned_ended : (k j : ℕ) (f : Flight) → 1 ≤ j → j < k → ended_at (turned_flight k f) j ≡ turned_entry k (ended_at f j)
turned_ended k j f some less = ap (λ o. record { source = turned k f.source; frame = f.sent; outcome = o }) (outcome_at k j f.source f.now some less)

turned_party : (k j : ℕ) → 1 ≤ j → turned k j ≡ j
turned_party k zero some = absurd (none_at some)
turned_party k (suc j) some = refl

pub turned_lost : (k j : ℕ) (f : Flight) → 1 ≤ j → lost_at (turned_flight k f) j ≡ turned_entry k (lost_at f j)
turned_lost k j f some = ap (λ q. record { source = turned k f.source; frame = f.sent; outcome = outcome.Lost q }) (sym (turned_party k j some))

-- ---- two trips

-- The trip t is the trip u turned, the one after this log, and the other after that one. The frame that is on its way is not of a
-- party after the devices.
pub record AreTurned (k : ℕ) (log own_log : List Entry) (t u : Trip) : Type 0 where
  pub crossings : t.crossings ≡ u.crossings
  pub entries : List Entry
  pub log_is : t.log ≡ log ++ turned_entries k entries
  pub own_is : u.log ≡ own_log ++ entries
  pub flight : t.flight ≡ option_map (turned_flight k) u.flight
  pub within : (f : Flight) → u.flight ≡ Some f → f.source < k

pub entries_on : (k : ℕ) (log : List Entry) (entries : List Entry) (e : Entry) → (log ++ turned_entries k entries) ++ turned_entry k e ∷ [] ≡ log ++ turned_entries k (entries ++ e ∷ [])
entries_on k log entries e = append_assoc log (turned_entries k entries) (turned_entry k e ∷ []) ∙ ap (λ es. log ++ es) (sym (map-append (turned_entry k) entries (e ∷ [])))

-- an entry is noted, and another frame goes on, or none
noted_turned : (k : ℕ) (log own_log : List Entry) (t u : Trip) (d e : Entry) (o own : Option Flight) → AreTurned k log own_log t u → d ≡ turned_entry k e
    → o ≡ option_map (turned_flight k) own → ((f : Flight) → own ≡ Some f → f.source < k) → AreTurned k log own_log (trip (risen t.crossings) (t.log ++ d ∷ []) o) (trip (risen u.crossings) (u.log ++ e ∷ []) own)
noted_turned k log own_log t u d e o own are same goes within = record {
  crossings = ap risen are.crossings;
  entries = are.entries ++ e ∷ [];
  log_is = ap₂ (λ l d. l ++ d ∷ []) are.log_is same ∙ entries_on k log are.entries e;
  own_is = ap (λ l. l ++ e ∷ []) are.own_is ∙ append_assoc own_log are.entries (e ∷ []);
  flight = goes;
  within = within;
}

pub some_flight : (f g : Flight) → Some f ≡ Some g → f ≡ g
some_flight f g e = ap (λ o. elim o [ Some h ↦ h | None ↦ f ]) e

module _ {D : Type 0} (takes : D → Frame → Out → D → Type 0) (plan : List Planned) (k j : ℕ) (some : 1 ≤ j) (less : j < k) (log own_log : List Entry) (t u : Trip) (are : AreTurned k log own_log t u) (d e : D) where
  answered_turned : (f g : Flight) → u.flight ≡ Some f → hit (next_fault plan u.crossings) f ≡ Some g → (out : Out)
      → AreTurned k log own_log (answered (risen t.crossings) t.log j (turned_flight k g) out) (answered (risen u.crossings) u.log j g out)
  answered_turned f g is came (Pass h) = record {
    crossings = ap risen are.crossings;
    entries = are.entries;
    log_is = are.log_is;
    own_is = are.own_is;
    flight = refl;
    within = λ x same.
        let source : x.source ≡ g.source = ap (λ (f : Flight). f.source) (sym (some_flight (record g { now = h }) x same)) in
        let kept = (hit_same (next_fault plan u.crossings) f g came).source in
        let in_ = are.within f is in
        omega (arith, source, kept, in_);
  }
  answered_turned f g is came (Source h) =
      noted_turned k log own_log t u (ended_at (turned_flight k g) j) (ended_at g j) (Some (sourced j h)) (Some (sourced j h)) are (turned_ended k j g some less)
      (ap (λ q. Some (sourced q h)) (sym (turned_party k j some)))
      (λ x same. let source : x.source ≡ j = ap (λ (f : Flight). f.source) (sym (some_flight (sourced j h) x same)) in omega (arith, source, less))

  meets_turned : (f : Flight) → u.flight ≡ Some f → (o : Option Flight) → hit (next_fault plan u.crossings) f ≡ o → (v : Trip)
      → Meets takes j t (turned_flight k f) (option_map (turned_flight k) o) d v e → (w : Trip) × Meets takes j u f o d w e × AreTurned k log own_log v w
  meets_turned f is None came v met = (
    missed (risen u.crossings) u.log j f,
    (refl, met.1),
    subst (λ v. AreTurned k log own_log v (missed (risen u.crossings) u.log j f)) (sym met.0)
        (noted_turned k log own_log t u (lost_at (turned_flight k f) j) (lost_at f j) None None are (turned_lost k j f some) refl (λ x same. cc)),
  )
  meets_turned f is (Some g) came v met = (
    answered (risen u.crossings) u.log j g met.0,
    (met.0, met.1, refl),
    subst (λ v. AreTurned k log own_log v (answered (risen u.crossings) u.log j g met.0)) (sym met.2) (answered_turned f g is came met.0),
  )

  reaches_turned : (o : Option Flight) → u.flight ≡ o → (v : Trip) → Reaches takes plan j t (option_map (turned_flight k) o) d v e → (w : Trip) × Reaches takes plan j u o d w e × AreTurned k log own_log v w
  reaches_turned None is v reached = (u, (refl, reached.1), subst (λ v. AreTurned k log own_log v u) (sym reached.0) are)
  reaches_turned (Some f) is v reached =
      let after = hit (next_fault plan u.crossings) f in
      let same : hit (next_fault plan t.crossings) (turned_flight k f) ≡ option_map (turned_flight k) after = ap (λ n. hit (next_fault plan n) (turned_flight k f)) are.crossings ∙ turned_hit k (next_fault plan u.crossings) f in
      meets_turned f is after refl v (subst (λ o. Meets takes j t (turned_flight k f) o d v e) same reached)

  pub passage_turned : (v : Trip) → Passage takes plan j t d v e → (w : Trip) × Passage takes plan j u d w e × AreTurned k log own_log v w
  passage_turned v passage = reaches_turned u.flight refl v (subst (λ o. Reaches takes plan j t o d v e) are.flight passage)

pub journey_turned : (plan : List Planned) (k j : ℕ) (log own_log : List Entry) (t u v : Trip) (ds es : List DeviceState) → 1 ≤ j → j + length ds ≤ k → AreTurned k log own_log t u → Journey plan j t ds v es
    → (w : Trip) × Journey plan j u ds w es × AreTurned k log own_log v w
journey_turned plan k j log own_log t u v [] [] some all are journey = (u, refl, subst (λ v. AreTurned k log own_log v u) (sym journey) are)
journey_turned plan k j log own_log t u v (d ∷ ds) (e ∷ es) some all are journey =
    let one = passage_turned Takes plan k j some (omega (arith, all)) log own_log t u are d e journey.0 journey.1 in
    let more = journey_turned plan k (j + 1) log own_log journey.0 one.0 v ds es (omega (arith, some)) (omega (arith, all)) one.2 journey.2 in
    (more.0, (one.0, one.1, more.1), more.2)
journey_turned plan k j log own_log t u v [] (e ∷ es) some all are journey = absurd journey
journey_turned plan k j log own_log t u v (d ∷ ds) [] some all are journey = absurd journey
