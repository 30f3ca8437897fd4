-- The log of a ring shows the planned faults as they were planned.
use Rattle.std.proofs.Common.{◌≡◌, ◌≤◌, ◌+◌, ◌++◌, ◌==◌, ◌&&◌, inl, inr, ℕ, Bool, true, false, not, List, [], ◌∷◌, Option, Some, None, MatchBool, refl, sym, ap, subst, ◌∙◌, arith, nat_lt}
use Rattle.std.specs.Prelude.{if◌then◌else◌, bit_xor}
use Rattle.std.proofs.lemmas.List.Elements.{All-nil, All-push, All-weaker}
use Rattle.std.proofs.lemmas.Bool.{and_parts, ltb-true, not-true}
use Rattle.il_frames.specs.declared.frame.Frame.{Frame}
use Rattle.il_frames.specs.declared.message.Message.{Message}
use Rattle.il_frames.specs.declared.message.Message.TheVariants as msg
use Rattle.il_frames.specs.declared.entry.Entry.{Entry}
use Rattle.il_frames.specs.declared.entry.Outcome.{Outcome}
use Rattle.il_frames.specs.declared.entry.Outcome.TheVariants as outcome
use Rattle.il_frames.specs.Frames.{byte_of, class_of, framed, is_data}
use Rattle.il_frames.specs.Messages.{message_of}
use Rattle.il_poll.specs.declared.service.Assignment.{Assignment}
use Rattle.il_poll.specs.Service.{polled}
use Rattle.il_device.specs.declared.device.Out.{Out}
use Rattle.il_device.specs.declared.device.Out.TheVariants.{Pass, Source}
use Rattle.il_device.specs.declared.roles.Roles.{Roles}
use Rattle.il_device.specs.Passing.{counted_on, passed, passed_as, served}
use Rattle.il_device.specs.Roles.{takes_address}
use Rattle.il_device.specs.State.{DeviceState, risen}
use Rattle.il_device.specs.Takes.{Takes}
use Rattle.il_device.proofs.Laws.{passed-data}
use Rattle.il_ring.specs.declared.plan.Planned.{Planned}
use Rattle.il_ring.specs.declared.plan.PlanFault.{PlanFault}
use Rattle.il_ring.specs.declared.plan.PlanFault.TheVariants.{Lose, Alter}
use Rattle.il_ring.specs.declared.flight.Flight.{Flight}
use Rattle.il_ring.specs.Plans.{fault_at, next_fault, last_crossing}
use Rattle.il_ring.specs.Flights.{sourced, altered_by, hit, lost_at, ended_at}
use Rattle.il_ring.specs.Books.{BooksView, books_emptied}
use Rattle.il_ring.specs.Fates.{IsReached, IsAltered, CameSo, LostSo, EndsSo, IsByPlan, GoesByPlan, HoldsByPlan, ShowsPlan}
use Rattle.il_ring.specs.Journeys.{Trip, trip, trip_of, answered, Passage, Journey}
use Rattle.il_ring.specs.Rings.{books_at, comes, home, over_last_link}
use Rattle.il_ring.proofs.Faults.{risen_within, risen_later}
use Rattle.il_ring.proofs.Takings.{served_data}
use Rattle.il_ring.proofs.DataPasses.{served_same, same_byte}
use Rattle.il_ring.proofs.Passing.{passes_on}
use Rattle.il_ring.proofs.Journeys.{past_devices, past_party}

-- ---- a frame that a device passes on

-- of the same kind, and a data or end frame with its byte
pub record PassesSo (f h : Frame) : Type 0 where
  pub kind : is_data h ≡ is_data f
  pub byte : is_data f ≡ true → byte_of h ≡ byte_of f

counted_other : (takes : Bool) (a : ℕ) (f : Frame) → is_data f ≡ false → is_data (counted_on takes a f) ≡ false
counted_other true a f other = refl
counted_other false a f other = other

other_as : (r : Roles) (place : Option Assignment) (wants : Bool) (f : Frame) (m : Message) → is_data f ≡ false → is_data (passed_as r place wants f m) ≡ false
other_as r place wants f (msg.Dab b) other = served_data wants f ∙ other
other_as r place wants f (msg.Dsr b) other = served_data wants f ∙ other
other_as r place wants f (msg.End b) other = served_data wants f ∙ other
other_as r place wants f (msg.Esr b) other = served_data wants f ∙ other
other_as r place wants f (msg.Idy b) other = served_data wants (framed (class_of f) (polled place wants (byte_of f))) ∙ other
other_as r place wants f (msg.Isr b) other = served_data wants (framed (class_of f) (polled place wants (byte_of f))) ∙ other
other_as r place wants f (msg.Aad a) other = counted_other (takes_address r.address a) a f other
other_as r place wants f _ other = other

kind_on : (r : Roles) (place : Option Assignment) (wants : Bool) (f : Frame) (data_frame : Bool) → is_data f ≡ data_frame → is_data (passed r place wants f) ≡ data_frame
kind_on r place wants f true is = ap is_data (passed-data r place wants f is) ∙ served_data wants f ∙ is
kind_on r place wants f false is = other_as r place wants f (message_of f) is

pub passes_so : (d e : DeviceState) (f h : Frame) → Takes d f (Pass h) e → PassesSo f h
passes_so d e f h takes =
    let on = passes_on d e f h takes in
    record {
      kind = ap is_data on ∙ kind_on d.roles e.assignment e.wants f (is_data f) refl;
      byte = λ is. ap byte_of (on ∙ passed-data d.roles e.assignment e.wants f is) ∙ same_byte f (served e.wants f) (served_same e.wants f);
    }

-- ---- what was reached stays reached

module _ (plan : List Planned) (from : ℕ) where
  met_on : (to later : ℕ) (fault : PlanFault) → to ≤ later → IsReached plan from to fault → IsReached plan from later fault
  met_on to later fault le met = record { hop = met.hop; after = met.after; up_to = omega (arith, le, met.up_to); planned = met.planned }

  altered_on : (to later : ℕ) (f g : Frame) → to ≤ later → IsAltered plan from to f g → IsAltered plan from later f g
  altered_on to later f g le altered = (altered.0, met_on to later (Alter altered.0) le altered.1, altered.2)

  lost_on : (to later : ℕ) (f : Frame) → to ≤ later → LostSo plan from to f → LostSo plan from later f
  lost_on to later f le (inl met) = inl (met_on to later Lose le met)
  lost_on to later f le (inr (inl met)) = inr (inl (met.0, met.1, met_on to later (Alter met.1) le met.2))
  lost_on to later f le (inr (inr met)) =
      let up : IsReached plan met.0 to (Alter met.2) = met.4 in
      inr (inr (met.0, met.1, met.2, met.3, record { hop = up.hop; after = up.after; up_to = omega (arith, le, up.up_to); planned = up.planned }))

  came_on : (to later : ℕ) (f g : Frame) → to ≤ later → CameSo plan from to f g → CameSo plan from later f g
  came_on to later f g le (inl same) = inl same
  came_on to later f g le (inr altered) = inr (altered_on to later f g le altered)

  ends_on : (to later : ℕ) (f : Frame) (o : Outcome) → to ≤ later → EndsSo plan from to f o → EndsSo plan from later f o
  ends_on to later f (outcome.Back g) le ends = λ is. came_on to later f g le (ends is)
  ends_on to later f (outcome.Taken party) le ends = tt
  ends_on to later f (outcome.Lost party) le ends = lost_on to later f le ends

  -- the byte of a frame on its way, altered or not
  abbrev Byte : Bool → ℕ → Frame → Frame → Type 0
  Byte altered to f g = MatchBool altered (IsAltered plan from to f g) (byte_of g ≡ byte_of f)

  byte_on : (altered : Bool) (to later : ℕ) (f g h : Frame) → to ≤ later → byte_of h ≡ byte_of g → Byte altered to f g → Byte altered later f h
  byte_on true to later f g h le same byte = (byte.0, met_on to later (Alter byte.0) le byte.1, same ∙ byte.2)
  byte_on false to later f g h le same byte = same ∙ byte

  byte_came : (altered : Bool) (to : ℕ) (f g : Frame) → Byte altered to f g → CameSo plan from to f g
  byte_came true to f g byte = inr byte
  byte_came false to f g byte = inl byte

  way_on : (to later : ℕ) (f : Flight) → to ≤ later → GoesByPlan plan from to f → GoesByPlan plan from later f
  way_on to later f le way = record { kind = way.kind; byte = λ is. byte_on f.altered to later f.sent f.now f.now le refl (way.byte is) }

  ways_on : (to later : ℕ) (o : Option Flight) → to ≤ later → HoldsByPlan plan from to o → HoldsByPlan plan from later o
  ways_on to later None le way = tt
  ways_on to later (Some f) le way = way_on to later f le way

  pub way_passed : (to : ℕ) (f : Flight) (h : Frame) → PassesSo f.now h → GoesByPlan plan from to f → GoesByPlan plan from to (record f { now = h })
  way_passed to f h passes way = record { kind = passes.kind ∙ way.kind; byte = λ is. byte_on f.altered to to f.sent f.now h (omega arith) (passes.byte (way.kind ∙ is)) (way.byte is) }

  -- one that was just sent
  pub sourced_way : (to party : ℕ) (f : Frame) → GoesByPlan plan from to (sourced party f)
  sourced_way to party f = record { kind = refl; byte = λ is. refl }

  -- the entry of one that ended at a party
  pub ended_so : (to party : ℕ) (f : Flight) → GoesByPlan plan from to f → IsByPlan plan from to (ended_at f party)
  ended_so to party f way = by_test (f.source == party)
    where
      by_test : (test : Bool) → EndsSo plan from to f.sent (if test then outcome.Back f.now else outcome.Taken party)
      by_test true = λ is. byte_came f.altered to f.sent f.now (way.byte is)
      by_test false = tt

  -- ---- over a link

  next_met : (n : ℕ) (fault : PlanFault) → next_fault plan n ≡ Some fault → IsReached plan n (risen n) fault
  next_met n fault planned = by_test (nat_lt n last_crossing) refl planned
    where
      by_test : (test : Bool) → nat_lt n last_crossing ≡ test → (if test then fault_at plan (n + 1) else None) ≡ Some fault → IsReached plan n (risen n) fault
      by_test true lt planned =
          let below = ltb-true n last_crossing lt in
          record { hop = n + 1; after = omega arith; up_to = omega (arith, below); planned = planned }
      by_test false lt planned = cc

  next_since : (n : ℕ) (fault : PlanFault) → from ≤ n → next_fault plan n ≡ Some fault → IsReached plan from (risen n) fault
  next_since n fault le planned =
      let met = next_met n fault planned in
      record { hop = met.hop; after = omega (arith, le, met.after); up_to = met.up_to; planned = met.planned }

  -- it goes on, or was lost as it was planned
  abbrev pub GoesSo : ℕ → Flight → Option Flight → Type 0
  GoesSo to f None = LostSo plan from to f.sent
  GoesSo to f (Some g) = GoesByPlan plan from to g

  -- an alteration hits
  altered_so : (n change : ℕ) (f : Flight) → from ≤ n → n ≤ last_crossing → next_fault plan n ≡ Some (Alter change) → GoesByPlan plan from n f → GoesSo (risen n) f (hit (Some (Alter change)) f)
  altered_so n change f le within planned way = by_test (is_data f.now && not f.altered) refl
    where
      since : IsReached plan from (risen n) (Alter change)
      since = next_since n (Alter change) le planned

      by_altered : (altered : Bool) → (true && not altered) ≡ false → Byte altered n f.sent f.now → LostSo plan from (risen n) f.sent
      by_altered true test byte = inr (inr (n, byte.0, change, byte.1, next_met n (Alter change) planned))
      by_altered false test byte = cc

      by_kind : (data_frame : Bool) → is_data f.now ≡ data_frame → (data_frame && not f.altered) ≡ false → LostSo plan from (risen n) f.sent
      by_kind true is test = by_altered f.altered test (way.byte (sym way.kind ∙ is))
      by_kind false is test = inr (inl (sym way.kind ∙ is, change, since))

      by_test : (may : Bool) → (is_data f.now && not f.altered) ≡ may → GoesSo (risen n) f (if may then Some (record f { now = altered_by change f.now; altered = true }) else None)
      by_test true test =
          let first : f.altered ≡ false = not-true f.altered (and_parts (is_data f.now) (not f.altered) test).1 in
          record {
            kind = way.kind;
            byte = λ is.
                let same : byte_of f.now ≡ byte_of f.sent = subst (λ altered. Byte altered n f.sent f.now) first (way.byte is) in
                (change, since, ap (λ byte. bit_xor byte change) same);
          }
      by_test false test = by_kind (is_data f.now) refl test

  pub hit_so : (n : ℕ) (f : Flight) (fault : Option PlanFault) → from ≤ n → n ≤ last_crossing → next_fault plan n ≡ fault → GoesByPlan plan from n f → GoesSo (risen n) f (hit fault f)
  hit_so n f None le within planned way = way_on n (risen n) f (risen_later n within) way
  hit_so n f (Some Lose) le within planned way = inl (next_since n Lose le planned)
  hit_so n f (Some (Alter change)) le within planned way = altered_so n change f le within planned way

-- ---- books

-- later on
pub told_on : (b : BooksView) (n : ℕ) → b.crossings ≤ n → ShowsPlan b → ShowsPlan (record b { crossings = n })
told_on b n le told = record {
  begun = omega (arith, le, told.begun);
  entries = All-weaker (IsByPlan b.plan b.begun b.crossings) (IsByPlan b.plan b.begun n) (λ e ends. ends_on b.plan b.begun b.crossings n e.frame e.outcome le ends) b.log told.entries;
  held = ways_on b.plan b.begun b.crossings n b.held le told.held;
  lent = ways_on b.plan b.begun b.crossings n b.lent le told.lent;
  kept = ways_on b.plan b.begun b.crossings n b.kept le told.kept;
}

-- with one entry more
pub told_noted : (b : BooksView) (e : Entry) → IsByPlan b.plan b.begun b.crossings e → ShowsPlan b → ShowsPlan (record b { log = b.log ++ e ∷ [] })
told_noted b e ends told = record { begun = told.begun; entries = All-push (IsByPlan b.plan b.begun b.crossings) b.log e told.entries ends; held = told.held; lent = told.lent; kept = told.kept }

-- with another frame held, or none
told_holding : (b : BooksView) (held : Option Flight) → HoldsByPlan b.plan b.begun b.crossings held → ShowsPlan b → ShowsPlan (record b { held = held })
told_holding b held ways told = record { begun = told.begun; entries = told.entries; held = ways; lent = told.lent; kept = told.kept }

-- with an empty log
pub told_cleared : (b : BooksView) → ShowsPlan b → ShowsPlan (books_emptied b)
told_cleared b told = by b.held b.lent b.kept told.held told.lent told.kept
  where
    by : (held lent kept : Option Flight) → HoldsByPlan b.plan b.begun b.crossings held → HoldsByPlan b.plan b.begun b.crossings lent → HoldsByPlan b.plan b.begun b.crossings kept → ShowsPlan (books_emptied (record b { held = held; lent = lent; kept = kept }))
    by None None None held lent kept = record { begun = omega arith; entries = All-nil (IsByPlan b.plan b.crossings b.crossings); held = tt; lent = tt; kept = tt }
    by None None (Some f) held lent kept = record { begun = told.begun; entries = All-nil (IsByPlan b.plan b.begun b.crossings); held = tt; lent = tt; kept = kept }
    by None (Some f) kept_is held lent kept = record { begun = told.begun; entries = All-nil (IsByPlan b.plan b.begun b.crossings); held = tt; lent = lent; kept = kept }
    by (Some f) lent_is kept_is held lent kept = record { begun = told.begun; entries = All-nil (IsByPlan b.plan b.begun b.crossings); held = held; lent = lent; kept = kept }

-- ---- a trip

-- these books show it after the trip, and so does the frame that is on its way
pub record TellsTrip (b : BooksView) (t : Trip) : Type 0 where
  pub told : ShowsPlan (books_at b t)
  pub within : t.crossings ≤ last_crossing
  pub way : HoldsByPlan b.plan b.begun t.crossings t.flight

module _ (b : BooksView) where
  answered_so : (n k : ℕ) (log : List Entry) (f : Flight) (out : Out) → n ≤ last_crossing → ShowsPlan (books_at b (trip n log (Some f))) → GoesByPlan b.plan b.begun n f → ((h : Frame) → out ≡ Pass h → PassesSo f.now h) → TellsTrip b (answered n log k f out)
  answered_so n k log f (Pass h) within told way passes = record { told = told; within = within; way = way_passed b.plan b.begun n f h (passes h refl) way }
  answered_so n k log f (Source h) within told way passes = record {
    told = told_noted (books_at b (trip n log (Some f))) (ended_at f k) (ended_so b.plan b.begun n k f way) told;
    within = within;
    way = sourced_way b.plan b.begun n k h;
  }

  passage_so : (k : ℕ) (t u : Trip) (d e : DeviceState) → TellsTrip b t → Passage Takes b.plan k t d u e → TellsTrip b u
  passage_so k t u d e tells passage =
      let later = told_on (books_at b t) (risen t.crossings) (risen_later t.crossings tells.within) tells.told in
      let way : (f : Flight) (o : Option Flight) → t.flight ≡ Some f → hit (next_fault b.plan t.crossings) f ≡ o → GoesSo b.plan b.begun (risen t.crossings) f o =
      λ f o is came. subst (GoesSo b.plan b.begun (risen t.crossings) f) came
      (hit_so b.plan b.begun t.crossings f (next_fault b.plan t.crossings) tells.told.begun tells.within refl (subst (HoldsByPlan b.plan b.begun t.crossings) is tells.way)) in
      past_party Takes b.plan k t d (λ u e. TellsTrip b u) (λ is. tells)
      (λ f is gone. record { told = told_noted (books_at b (trip (risen t.crossings) t.log None)) (lost_at f k) (way f None is gone) later; within = risen_within t.crossings; way = tt })
      (λ f g out e is came took. answered_so (risen t.crossings) k t.log g out (risen_within t.crossings) later (way f (Some g) is came) (λ h same. passes_so d e g.now h (subst (λ out. Takes d g.now out e) same took)))
      u e passage

  pub journey_so : (k : ℕ) (t u : Trip) (ds es : List DeviceState) → TellsTrip b t → Journey b.plan k t ds u es → TellsTrip b u
  journey_so k t u ds es tells journey =
      (past_devices b.plan 0 (λ k t. TellsTrip b t) (λ d e. Unit {0}) (λ k t u d e some tells passage. (passage_so k t u d e tells passage, tt)) k t u ds es (omega arith) tells journey).0

-- ---- at home

comes_so : (b : BooksView) (f : Flight) (own data_frame : Bool) → GoesByPlan b.plan b.begun b.crossings f → ShowsPlan b → ShowsPlan (comes b f own data_frame)
comes_so b f true data_frame way told = told_noted b (ended_at f 0) (ended_so b.plan b.begun b.crossings 0 f way) told
comes_so b f false true way told = told_holding b (Some f) way told
comes_so b f false false way told = told_holding (record b { log = b.log ++ ended_at f 0 ∷ [] }) None tt (told_noted b (ended_at f 0) (ended_so b.plan b.begun b.crossings 0 f way) told)

over_so : (b : BooksView) (f : Flight) (o : Option Flight) → GoesSo b.plan b.begun b.crossings f o → ShowsPlan b → ShowsPlan (over_last_link b f o)
over_so b f None lost told = told_holding (record b { log = b.log ++ lost_at f 0 ∷ [] }) None tt (told_noted b (lost_at f 0) lost told)
over_so b f (Some g) way told = comes_so b g (g.source == 0) (is_data g.now) way told

pub home_so : (b : BooksView) (flight : Option Flight) → b.crossings ≤ last_crossing → HoldsByPlan b.plan b.begun b.crossings flight → ShowsPlan b → ShowsPlan (home b flight)
home_so b None within way told = told_holding b None tt told
home_so b (Some f) within way told =
    let later : ShowsPlan (record b { crossings = risen b.crossings }) = told_on b (risen b.crossings) (risen_later b.crossings within) told in
    let goes = hit_so b.plan b.begun b.crossings f (next_fault b.plan b.crossings) told.begun within refl way in
    let over = over_so (record b { crossings = risen b.crossings }) f (hit (next_fault b.plan b.crossings) f) goes later in
    over

pub home_told : (b : BooksView) (t : Trip) → TellsTrip b t → ShowsPlan (home (books_at b t) t.flight)
home_told b t tells = home_so (books_at b t) t.flight tells.within tells.way tells.told

-- as a frame sets out, with this one held meanwhile
pub starts_so : (b : BooksView) (held : Option Flight) (f : Flight) → b.crossings ≤ last_crossing → HoldsByPlan b.plan b.begun b.crossings held → GoesByPlan b.plan b.begun b.crossings f → ShowsPlan b → TellsTrip (record b { held = held }) (trip_of b (Some f))
starts_so b held f within ways way told = record { told = told_holding b held ways told; within = within; way = way }
