-- Rounds of start messages.
use Rattle.std.proofs.Common.{◌<◌, ◌≡◌, ◌≢◌, ◌≤◌, ◌+◌, ◌++◌, ◌⊎◌, ◌==◌, inl, inr, ⊎_elim, ℕ, suc, Bool, true, false, List, [], ◌∷◌, Option, Some, length, refl, sym, ap, subst, ◌∙◌, arith, append_assoc, length-append}
use Rattle.std.specs.Prelude.{MatchBool, if◌then◌else◌}
use Rattle.std.proofs.lemmas.Bool.{ne_eqb}
use Rattle.il_frames.specs.declared.frame.Frame.{Frame}
use Rattle.il_frames.specs.declared.entry.Entry.{Entry}
use Rattle.il_frames.specs.declared.entry.Outcome.TheVariants as outcome
use Rattle.il_frames.specs.Frames.{byte_of}
use Rattle.il_frames.specs.Messages.{message_of}
use Rattle.il_device.specs.State.{DeviceState, risen_by}
use Rattle.il_device.specs.Roles.{is_start}
use Rattle.il_ports.specs.Media.{MediumView}
use Rattle.il_frames.specs.NamedFrames.{entry}
use Rattle.loop_model.specs.Reach.{met}
use Rattle.loop_model.specs.Roles.{talkers, is_at_most_one}
use Rattle.il_ring.specs.declared.plan.Arrival.{Arrival}
use Rattle.il_ring.specs.declared.flight.Flight.{Flight}
use Rattle.il_ring.specs.Plans.{IsPlan, hops_of, next_fault, last_crossing}
use Rattle.il_ring.specs.Flights.{sourced, ended_at}
use Rattle.il_ring.specs.Books.{BooksView}
use Rattle.il_ring.specs.Journeys.{trip, Journey}
use Rattle.il_ring.specs.Rings.{RingView, Round, devices_of, roles_of, comes}
use Rattle.il_ring.specs.Outcomes as ring
use Rattle.il_ring.specs.Outcomes.{LostWhere, met_between, Returned, WasLost, IsTalking, IsHeldNow, IsLostNow, HearsByte}
use Rattle.il_ring.specs.Lists.{AllSilent}
use Rattle.il_ring.proofs.Faults.{IsClear, clear_met, clear_more, met_at}
use Rattle.il_ring.proofs.Counts.{risen_by-add}
use Rattle.il_ring.specs.Lists.{First}
use Rattle.il_ring.proofs.PassKinds.{start_no_data}
use Rattle.il_ring.proofs.DataPasses.{data_past, first_any}
use Rattle.il_ring.specs.Outcomes.{HearsAny}
use Rattle.il_ring.proofs.DataHome.{DataHome, data_home}
use Rattle.il_ring.specs.Outcomes.{LetsPass, StartReturned, StartGone}
use Rattle.il_ring.proofs.StartJourneys.{StartPassed, StartLost, StartTaken, start_goes}
use Rattle.il_ring.specs.Lists.{NoneSends}
use Rattle.il_ring.proofs.Splits.{each_silent, silent_still, none_sends_at}
use Rattle.il_ring.proofs.Talkers.{one_talks}
use Rattle.il_ring.proofs.RoundCounts.{round_journey}
use Rattle.il_ring.proofs.PassRounds.{at_last, lost_before, round_end}

-- ---- what became of a frame that a device sent

module _ {M : Type 0} (r s : RingView M) (held : Option Flight) (answer : Arrival) (p : ℕ) (sent : Frame) (entries : List Entry) (j : ℕ) (after after_then : List DeviceState) where
  abbrev pub books_then : BooksView
  books_then = record r.books { held = held; log = r.books.log ++ entries }

  -- with j links crossed before it was sent, and nothing planned at them
  pub sent_home : ((party : ℕ) → (party ≡ 0) ⊎ (p < party) → LostWhere entries p party) → r.books.crossings ≤ last_crossing → 1 ≤ p → p + length after ≤ length (devices_of r) → IsClear r.books.plan r.books.crossings j → DataHome books_then (p + 1) (risen_by j r.books.crossings) (sourced p sent) after after_then s.books answer
      → ((altered : Bool) × IsHeldNow r entries p sent altered answer s × MatchBool altered (met_between r s ≢ []) (met_between r s ≡ [])) ⊎ IsLostNow r entries p sent answer s
  sent_home place within some on clear (inl clean) =
      let other : (p == 0) ≡ false = ne_eqb p 0 (λ e. omega (arith, e, some)) in
      let books = clean.books ∙ ap (λ own. comes (record books_then { crossings = risen_by (suc (length after)) (risen_by j r.books.crossings) }) (record (sourced p sent) { now = clean.now }) own true) other in
      let all : s.books.crossings ≡ risen_by (j + suc (length after)) r.books.crossings = ap (λ (b : BooksView). b.crossings) books ∙ sym (risen_by-add j (suc (length after)) r.books.crossings) in
      inl (
        false,
        record {
          now = clean.now;
          answer_is = clean.answer_is;
          log = ap (λ (b : BooksView). b.log) books;
          held_is = ap (λ (b : BooksView). b.held) books;
          data_frame = clean.data_frame;
          same = λ e. clean.same;
          other = λ e. let clash : false ≡ true = e in cc;
        },
        ap (met (hops_of r.books.plan) r.books.crossings) all ∙ (clear_met r.books.plan (j + suc (length after)) r.books.crossings within).1 (clear_more r.books.plan j (suc (length after)) r.books.crossings clear clean.clear),
      )
  sent_home place within some on clear (inr (inl altered)) =
      let other : (p == 0) ≡ false = ne_eqb p 0 (λ e. omega (arith, e, some)) in
      let books = altered.books ∙ ap (λ own. comes (record books_then { crossings = risen_by (suc (length after)) (risen_by j r.books.crossings) }) (record (sourced p sent) { now = altered.now; altered = true }) own true) other in
      let all : s.books.crossings ≡ risen_by (j + suc (length after)) r.books.crossings = ap (λ (b : BooksView). b.crossings) books ∙ sym (risen_by-add j (suc (length after)) r.books.crossings) in
      inl (
        true,
        record {
          now = altered.now;
          answer_is = altered.answer_is;
          log = ap (λ (b : BooksView). b.log) books;
          held_is = ap (λ (b : BooksView). b.held) books;
          data_frame = altered.data_frame;
          same = λ e. let clash : true ≡ false = e in cc;
          other = λ e. altered.other;
        },
        λ none.
            met_at r.books.plan (j + altered.hop) (j + suc (length after)) r.books.crossings within (omega (arith, altered.within)) (λ here. altered.planned (ap (next_fault r.books.plan) (sym (risen_by-add j altered.hop r.books.crossings)) ∙ here))
            (ap (met (hops_of r.books.plan) r.books.crossings) (sym all) ∙ none),
      )
  sent_home place within some on clear (inr (inr lost)) =
      let all : s.books.crossings ≡ risen_by (j + suc lost.reached) r.books.crossings = ap (λ (b : BooksView). b.crossings) lost.books ∙ sym (risen_by-add j (suc lost.reached) r.books.crossings) in
      inr (record {
        answer_is = lost.answer_is;
        party = lost.party;
        on_ring = ⊎_elim (λ zero. omega (arith, zero)) (λ at. omega (arith, at.0, at.1, on)) lost.party_is;
        place = place lost.party (⊎_elim (λ zero. inl zero) (λ at. inr (omega (arith, at.0))) lost.party_is);
        log = ap (λ (b : BooksView). b.log) lost.books ∙ append_assoc r.books.log entries (entry p sent (outcome.Lost lost.party) ∷ []);
        held_is = ap (λ (b : BooksView). b.held) lost.books;
        met_some = λ none.
            met_at r.books.plan (j + lost.reached) (j + suc lost.reached) r.books.crossings within (omega arith) (λ here. lost.planned (ap (next_fault r.books.plan) (sym (risen_by-add j lost.reached r.books.crossings)) ∙ here))
            (ap (met (hops_of r.books.plan) r.books.crossings) (sym all) ∙ none);
      })

-- devices that hear a byte are silent still
pub heard_silent : (j : ℕ) (ds es : List DeviceState) → First HearsAny j ds es → AllSilent ds → AllSilent es
heard_silent j ds es took silent = silent_still HearsAny j ds es (λ d e hears. hears.1.roles) took silent

pub still_after : (b : BooksView) (k n : ℕ) (f : Flight) (ds es : List DeviceState) (s : BooksView) (answer : Arrival) → DataHome b k n f ds es s answer → AllSilent ds → AllSilent es
still_after b k n f ds es s answer (inl clean) silent = heard_silent (length ds) ds es (first_any (byte_of f.now) (length ds) ds es clean.took) silent
still_after b k n f ds es s answer (inr (inl altered)) silent = heard_silent (length ds) ds es altered.took silent
still_after b k n f ds es s answer (inr (inr lost)) silent = heard_silent lost.reached ds es lost.took silent

-- ---- the whole round

pub length_split : (ds bs rest : List DeviceState) (d : DeviceState) → ds ≡ bs ++ d ∷ rest → length ds ≡ length bs + 1 + length rest
length_split ds bs rest d is = ap length is ∙ length-append bs (d ∷ rest) ∙ omega arith

-- what a message that was taken came to
pub taken_round : {M : Type 0} (view : M → MediumView) (r s : RingView M) (held : Option Flight) (f : Frame) (answer : Arrival) → r.books.crossings ≤ last_crossing → IsPlan r.books.plan → is_at_most_one (talkers (roles_of (devices_of r))) ≡ true → NoneSends (devices_of r)
    → (round : Round view r held (sourced 0 f) answer s) → (here : StartTaken r.books.plan 1 r.books.crossings r.books.log (sourced 0 f) (devices_of r) round.past_all (devices_of s)) → (taken : ring.StartTaken r f answer s) × (taken.party ≡ 1 + length here.before) × (taken.sent ≡ here.sent)
taken_round view r s held f answer within plan one none round taken =
    let j = suc (length taken.before) in
    let p = 1 + length taken.before in
    let up : p ≡ j = omega arith in
    let silent = one_talks 1 taken.before taken.after taken.taker (ap (λ ds. is_at_most_one (talkers (roles_of ds))) (sym taken.devices) ∙ one) taken.sends.talks in
    let all = length_split (devices_of r) taken.before taken.after taken.taker taken.devices in
    let other : (0 == p) ≡ false = ne_eqb 0 p (λ e. omega (arith, e)) in
    let entry_is : ended_at (sourced 0 f) p ≡ entry 0 f (outcome.Taken p) = ap (λ own. entry 0 f (if own then outcome.Back f else outcome.Taken p)) other in
    let entries : List Entry = entry 0 f (outcome.Taken p) ∷ [] in
    let b : BooksView = books_then r s held answer p taken.sent entries j taken.after taken.after_then in
    let journey = subst (λ e. Journey r.books.plan (1 + length taken.before + 1) (trip (risen_by j r.books.crossings) (r.books.log ++ e ∷ []) (Some (sourced p taken.sent))) taken.after round.past_all taken.after_then) entry_is taken.journey in
    let goes = data_past r.books.plan (p + 1) (risen_by j r.books.crossings) b.log (sourced p taken.sent) taken.after taken.after_then round.past_all plan (each_silent (p + 1) taken.after silent.1) taken.sends.data_frame journey in
    let homed = data_home b (p + 1) (risen_by j r.books.crossings) (sourced p taken.sent) taken.after taken.after_then round.past_all s.books answer plan goes (round.books, round.answer_is) in (
      record {
        party = p;
        on_ring = (omega arith, omega (arith, all));
        sent = taken.sent;
        data_frame = taken.sends.data_frame;
        own = taken.sends.own;
        own_frame = taken.sends.frame;
        runs = taken.sends.runs;
        talking_before = record {
          before = taken.before;
          talker = taken.taker;
          after = taken.after;
          devices_are = taken.devices;
          party = omega arith;
          silent = silent.0;
          talks = taken.sends.talks;
          own_is = none_sends_at taken.before taken.after taken.taker (subst NoneSends taken.devices none);
          silent_after = silent.1;
        };
        id = taken.sends.id;
        talking = record {
          before = taken.before_then;
          talker = taken.taker_then;
          after = taken.after_then;
          devices_are = taken.devices_then;
          party = omega (arith, taken.same);
          silent = silent_still (LetsPass f) (length taken.before) taken.before taken.before_then (λ d e passed. passed.roles) taken.took silent.0;
          talks = ap (λ r. r.talks) taken.sends.roles ∙ taken.sends.talks;
          own_is = taken.sends.on_loop;
          silent_after = still_after b (p + 1) (risen_by j r.books.crossings) (sourced p taken.sent) taken.after taken.after_then s.books answer homed silent.1;
        };
        end = sent_home r s held answer p taken.sent entries j taken.after taken.after_then (λ party far. far) within (omega arith) (omega (arith, all)) taken.clear homed;
      },
      refl,
      refl,
    )

-- A start message, if at most one device talks and none has a frame of its own on the loop.
pub start_round : {M : Type 0} (view : M → MediumView) (r s : RingView M) (held : Option Flight) (f : Frame) (answer : Arrival) → r.books.crossings ≤ last_crossing → IsPlan r.books.plan → is_start (message_of f) ≡ true → NoneSends (devices_of r)
    → is_at_most_one (talkers (roles_of (devices_of r))) ≡ true → Round view r held (sourced 0 f) answer s → StartReturned r held f answer s ⊎ (StartGone r f answer s ⊎ ring.StartTaken r f answer s)
start_round view r s held f answer within plan start none one round =
    let k = length (devices_of r) in
    let ends = round_end view r s held (sourced 0 f) answer round in
    ⊎_elim
    (λ (passed : StartPassed r.books.plan r.books.crossings r.books.log (sourced 0 f) (devices_of r) round.past_all (devices_of s)).
    ⊎_elim
    (λ back. inl (record { returned = back; took = passed.took }))
    (λ lost. inr (inl (record { lost = lost; reached = k; took = passed.took })))
    (at_last r s held f answer f round.past_all (next_fault r.books.plan (risen_by k r.books.crossings)) within (start_no_data f start) passed.is passed.clear refl ends))
    (⊎_elim
    (λ (lost : StartLost r.books.plan 1 r.books.crossings r.books.log (sourced 0 f) (devices_of r) round.past_all (devices_of s)).
    inr (inl (record { lost = lost_before r s held f answer lost.reached round.past_all within lost.within lost.is lost.planned ends; reached = lost.reached; took = lost.took })))
    (λ (taken : StartTaken r.books.plan 1 r.books.crossings r.books.log (sourced 0 f) (devices_of r) round.past_all (devices_of s)). inr (inr (taken_round view r s held f answer within plan one none round taken).0)))
    (start_goes r.books.plan 1 r.books.crossings r.books.log (sourced 0 f) (devices_of r) (devices_of s) round.past_all start none (round_journey view r s held (sourced 0 f) answer round))
