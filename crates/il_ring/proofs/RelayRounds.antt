-- Rounds of a held frame.
use Rattle.std.proofs.Common.{◌<◌, ◌≡◌, ◌≢◌, ◌≤◌, ◌+◌, ◌++◌, ◌⊎◌, ◌||◌, ◌==◌, inl, inr, ⊎_elim, ℕ, suc, Bool, true, false, List, [], ◌∷◌, Option, Some, None, length, refl, sym, ap, subst, ◌∙◌, arith, append_assoc, eqb-true}
use Rattle.std.specs.Prelude.{MatchBool, if◌then◌else◌}
use Rattle.std.proofs.lemmas.Bool.{and_parts, eq-eqb}
use Rattle.il_frames.specs.declared.frame.Frame.{Frame}
use Rattle.il_frames.specs.declared.entry.Entry.{Entry}
use Rattle.il_frames.specs.declared.entry.Outcome.TheVariants as outcome
use Rattle.il_frames.specs.Frames.{byte_of, class_of, is_data, same_class, same_but_service, with_service}
use Rattle.il_frames.specs.Messages.{message_of}
use Rattle.il_device.specs.declared.device.Out.{Out}
use Rattle.il_device.specs.declared.device.Out.TheVariants.{Pass, Source}
use Rattle.il_device.specs.declared.interface.OwnFrame.{OwnFrame}
use Rattle.il_device.specs.declared.interface.Turn.TheVariants as turn
use Rattle.il_device.specs.declared.roles.Roles.{Roles}
use Rattle.il_device.specs.Roles.{roles_after}
use Rattle.il_device.specs.State.{DeviceState, risen_by}
use Rattle.il_device.specs.Takes.{Takes, Answers, AnswersEcho, GoesOn, Ends, eto, ete, turn_of, turn_at_data}
use Rattle.il_device.specs.Passing.{is_plain}
use Rattle.il_device.proofs.Laws.{roles_after-data, turn_of-data}
use Rattle.il_ports.specs.Media.{MediumView}
use Rattle.il_frames.specs.NamedFrames.{entry}
use Rattle.loop_model.specs.Reach.{met}
use Rattle.il_ring.specs.declared.plan.Planned.{Planned}
use Rattle.il_ring.specs.declared.plan.Arrival.{Arrival}
use Rattle.il_ring.specs.declared.plan.Arrival.TheVariants as arrival
use Rattle.il_ring.specs.declared.flight.Flight.{Flight}
use Rattle.il_ring.specs.Plans.{IsPlan, hops_of, next_fault, last_crossing}
use Rattle.il_ring.specs.Flights.{sourced, ended_at, lost_at}
use Rattle.il_ring.specs.Books.{BooksView}
use Rattle.il_ring.specs.Journeys.{Trip, trip, trip_of, answered, Passage, Journey}
use Rattle.il_ring.specs.Rings.{RingView, Round, devices_of, home, books_at, arrived, arriving}
use Rattle.il_ring.specs.Outcomes.{met_between, IsTalking, IsLostNow, StoodSo, CameBack, SendsMore, EndsSending, Relayed, back_entry, Obeys}
use Rattle.il_ring.specs.Lists.{AllSilent}
use Rattle.il_ring.proofs.Faults.{IsClear, clear_met, clear_more, met_at}
use Rattle.il_ring.proofs.Counts.{risen_by-add}
use Rattle.il_ring.proofs.Takings.{own_sends}
use Rattle.il_ring.proofs.DataPasses.{DataGoes, data_past, first_any, same_served}
use Rattle.il_ring.proofs.DataHome.{data_home}
use Rattle.il_ring.proofs.EndsHome.{EndTaken, EndLost, end_home}
use Rattle.il_ring.proofs.Echoes.{Arrived, AsItWas, Otherwise, Answered, Gone, to_talker}
use Rattle.il_ring.proofs.Splits.{journey_parts, each_silent, silent_still}
use Rattle.il_ring.proofs.StartRounds.{sent_home, heard_silent, still_after, length_split}
use Rattle.il_ring.proofs.Later.{Later, later_then, journey_later, end_later, met_later}
use Rattle.il_ring.proofs.RoundCounts.{round_journey}

-- ---- right and wrong echoes

pub test_false : (b : Bool) → (b ≡ true → ⊥) → b ≡ false
test_false true never = absurd (never refl)
test_false false never = refl

-- another byte is a wrong echo
pub wrong_echo : (f g : Frame) → byte_of g ≢ byte_of f → same_but_service f g ≡ false
wrong_echo f g other =
    test_false (same_but_service f g) (λ right. other (sym (eqb-true (byte_of f) (byte_of g) (and_parts (same_class (class_of (with_service f)) (class_of (with_service g))) (byte_of f == byte_of g) right).1)))

sent_frame : (g h : Frame) → Source g ≡ Source h → g ≡ h
sent_frame g h e = ap (λ out. elim out [ Pass f ↦ f | Source f ↦ f ]) e

-- what the talker's answer to the echo is
echo_answer : (d e : DeviceState) (own : OwnFrame) (back : Frame) (out : Out) → is_data back ≡ true → d.own ≡ Some own → Takes d back out e → AnswersEcho (same_but_service own.frame back) own out e
echo_answer d e own back out data_frame has takes =
    let asked : turn_of d back ≡ turn.Compare own = turn_of-data d back data_frame ∙ ap (λ own. turn_at_data own d.roles.listens) has in
    subst (λ u. Answers u d back out e) asked takes.answer

-- ---- one list in two parts

pub record Head (plan : List Planned) (k : ℕ) (t u : Trip) (d : DeviceState) (rest es : List DeviceState) : Type 0 where
  pub e : DeviceState
  pub rest_then : List DeviceState
  pub both : es ≡ e ∷ rest_then
  pub middle : Trip
  pub passage : Passage Takes plan k t d middle e
  pub journey : Journey plan (k + 1) middle rest u rest_then

pub head_of : (plan : List Planned) (k : ℕ) (t u : Trip) (d : DeviceState) (rest es : List DeviceState) → Journey plan k t (d ∷ rest) u es → Head plan k t u d rest es
head_of plan k t u d rest [] journey = absurd journey
head_of plan k t u d rest (e ∷ es) journey = record { e = e; rest_then = es; both = refl; middle = journey.0; passage = journey.1; journey = journey.2 }

pub goes_silent : (plan : List Planned) (k n : ℕ) (log : List Entry) (f : Flight) (ds es : List DeviceState) (u : Trip) → DataGoes plan k n log f ds u es → AllSilent ds → AllSilent es
goes_silent plan k n log f ds es u (inl clean) silent = heard_silent (length ds) ds es (first_any (byte_of f.now) (length ds) ds es clean.took) silent
goes_silent plan k n log f ds es u (inr (inl altered)) silent = heard_silent (length ds) ds es altered.took silent
goes_silent plan k n log f ds es u (inr (inr lost)) silent = heard_silent lost.reached ds es lost.took silent

-- ---- what the talker sent then

-- by this frame it answered the echo
abbrev pub SendsThen : {M : Type 0} → RingView M → Flight → OwnFrame → Bool → Frame → Frame → Arrival → RingView M → Type 0
SendsThen r held own right back h answer s = ((more : SendsMore r held own back answer s) × (more.sent ≡ h)) ⊎ (EndsSending r held right back answer s × (h ≡ (if right then eto else ete)))

-- The held frame came back to its source after m others, whose answer was this.
pub record AnsweredSo {M : Type 0} (r : RingView M) (held : Flight) (own : OwnFrame) (m : ℕ) (out : Out) (answer : Arrival) (s : RingView M) : Type 0 where
  pub right : Bool
  pub back : Frame
  pub came : CameBack r s held right back
  pub good : right ≡ true → (held.altered ≡ false) × IsClear r.books.plan r.books.crossings (suc m)
  pub sent : Frame
  pub out_is : out ≡ Source sent
  pub after : SendsThen r held own right back sent answer s

module _ {M : Type 0} (view : M → MediumView) (r s : RingView M) (held : Flight) (answer : Arrival) (own : OwnFrame) (back : Frame) (bs cs : List DeviceState) (e : DeviceState) (rest rest_then : List DeviceState) (u : Trip) where
  abbrev books_so : BooksView
  books_so = record r.books { held = None; log = r.books.log ++ back_entry held back ∷ [] }

  abbrev so_far : ℕ
  so_far = risen_by (suc (length bs)) r.books.crossings

  abbrev Ending : Type 0
  Ending = (s.books ≡ home (books_at (record r.books { held = None }) u) u.flight) × (answer ≡ arrived (arriving r.books.plan u.crossings u.flight))

  -- the devices after the call, with the talker's own frame
  talks_on : (next : Option OwnFrame) → held.source ≡ length bs + 1 → length cs ≡ length bs → devices_of s ≡ cs ++ e ∷ rest_then → AllSilent cs → AllSilent rest_then → e.roles.talks ≡ true → e.own ≡ next → IsTalking held.source next (devices_of s)
  talks_on next at same devices silent silent_after talks own_is = record { before = cs; talker = e; after = rest_then; devices_are = devices; party = omega (arith, at, same); silent = silent; talks = talks; own_is = own_is; silent_after = silent_after }

  more_sent : (h : Frame) (next : OwnFrame) → IsPlan r.books.plan → r.books.crossings ≤ last_crossing → held.source ≡ length bs + 1 → length cs ≡ length bs → held.source + length rest ≤ length (devices_of r) → devices_of s ≡ cs ++ e ∷ rest_then → AllSilent cs → AllSilent rest
      → e.roles.talks ≡ true → e.own ≡ Some next → next.frame ≡ h → next.stopped ≡ false → is_data h ≡ true → with_service back ≡ with_service held.sent → held.altered ≡ false → (own.stopped || own.last) ≡ false → IsClear r.books.plan r.books.crossings (suc (length bs))
      → Journey r.books.plan (held.source + 1) (trip so_far (r.books.log ++ back_entry held back ∷ []) (Some (sourced held.source h))) rest u rest_then → Ending → (more : SendsMore r held own back answer s) × (more.sent ≡ h)
  more_sent h next plan within at same on devices silent silent_after talks own_is frame runs data_frame right unaltered goes_on clear journey ending =
      let goes = data_past r.books.plan (held.source + 1) so_far books_so.log (sourced held.source h) rest rest_then u plan (each_silent (held.source + 1) rest silent_after) data_frame journey in
      let homed = data_home books_so (held.source + 1) so_far (sourced held.source h) rest rest_then u s.books answer plan goes ending in (
        record {
          right = right;
          unaltered = unaltered;
          goes_on = goes_on;
          sent = h;
          data_frame = data_frame;
          next = next;
          next_frame = frame;
          runs = runs;
          talking = talks_on (Some next) at same devices silent (still_after books_so (held.source + 1) so_far (sourced held.source h) rest rest_then s.books answer homed silent_after) talks own_is;
          end = sent_home r s None answer held.source h (back_entry held back ∷ []) (suc (length bs)) rest rest_then (λ party far. far) within (omega (arith, at)) on clear homed;
        },
        refl,
      )

  -- ETO or ETE
  end_sent : (right : Bool) (h : Frame) → h ≡ (if right then eto else ete) → is_plain (message_of h) ≡ true → ((r : Roles) → roles_after r (message_of h) ≡ r) → r.books.crossings ≤ last_crossing → held.source ≡ length bs + 1 → length cs ≡ length bs
      → held.source + length rest ≤ length (devices_of r) → devices_of s ≡ cs ++ e ∷ rest_then → AllSilent cs → AllSilent rest → e.roles.talks ≡ true → e.own ≡ None → (right ≡ true → IsClear r.books.plan r.books.crossings (suc (length bs)))
      → Journey r.books.plan (held.source + 1) (trip so_far (r.books.log ++ back_entry held back ∷ []) (Some (sourced held.source h))) rest u rest_then → Ending → EndsSending r held right back answer s
  end_sent right h is plain keeps within at same on devices silent silent_after talks own_is clear journey ending =
      let homed = end_home books_so (held.source + 1) so_far held.source h rest rest_then u s.books answer plain (omega (arith, at)) journey ending in
      record {
        talking = talks_on None at same devices silent (silent_still (Obeys (message_of h)) homed.reached rest rest_then (λ d e obeys. obeys.roles ∙ keeps d.roles) homed.took silent_after) talks own_is;
        end = ⊎_elim
            (λ (taken : EndTaken books_so so_far held.source h rest rest_then s.books answer). inl (
              taken.answer_is ∙ ap (λ h. arrival.Frame h) is,
              ap (λ (b : BooksView). b.log) taken.books ∙ append_assoc r.books.log (back_entry held back ∷ []) (entry held.source h (outcome.Taken 0) ∷ []) ∙ ap (λ h. r.books.log ++ back_entry held back ∷ entry held.source h (outcome.Taken 0) ∷ []) is,
              ap (λ (b : BooksView). b.held) taken.books,
              λ e.
                  ap (met (hops_of r.books.plan) r.books.crossings) (ap (λ (b : BooksView). b.crossings) taken.books ∙ sym (risen_by-add (suc (length bs)) (suc (length rest)) r.books.crossings))
                  ∙ (clear_met r.books.plan (suc (length bs) + suc (length rest)) r.books.crossings within).1 (clear_more r.books.plan (suc (length bs)) (suc (length rest)) r.books.crossings (clear e) taken.clear),
            ))
            (λ (lost : EndLost books_so (held.source + 1) so_far held.source h rest rest_then s.books answer). inr (record {
              answer_is = lost.answer_is;
              party = lost.party;
              on_ring = ⊎_elim (λ zero. omega (arith, zero)) (λ there. omega (arith, there.0, there.1, on)) lost.party_is;
              place = (⊎_elim (λ zero. inl zero) (λ there. inr (omega (arith, there.0))) lost.party_is);
              log = ap (λ (b : BooksView). b.log) lost.books ∙ append_assoc r.books.log (back_entry held back ∷ []) (entry held.source h (outcome.Lost lost.party) ∷ []) ∙ ap (λ h. r.books.log ++ (back_entry held back ∷ [] ++ entry held.source h (outcome.Lost lost.party) ∷ [])) is;
              held_is = ap (λ (b : BooksView). b.held) lost.books;
              met_some =
                  let all : s.books.crossings ≡ risen_by (suc (length bs) + suc lost.reached) r.books.crossings = ap (λ (b : BooksView). b.crossings) lost.books ∙ sym (risen_by-add (suc (length bs)) (suc lost.reached) r.books.crossings) in
                  λ none.
                  met_at r.books.plan (suc (length bs) + lost.reached) (suc (length bs) + suc lost.reached) r.books.crossings within (omega arith) (λ here. lost.planned (ap (next_fault r.books.plan) (sym (risen_by-add (suc (length bs)) lost.reached r.books.crossings)) ∙ here))
                  (ap (met (hops_of r.books.plan) r.books.crossings) (sym all) ∙ none);
            }))
            homed.end;
      }

  -- the talker's answer, the echo being right or wrong
  by_echo : (right : Bool) (h : Frame) (d : DeviceState) → IsPlan r.books.plan → r.books.crossings ≤ last_crossing → held.source ≡ length bs + 1 → length cs ≡ length bs → held.source + length rest ≤ length (devices_of r) → devices_of s ≡ cs ++ e ∷ rest_then → AllSilent cs → AllSilent rest
      → e.roles.talks ≡ true → AnswersEcho right own (Source h) e → (right ≡ true → (with_service back ≡ with_service held.sent) × (held.altered ≡ false) × IsClear r.books.plan r.books.crossings (suc (length bs)))
      → Journey r.books.plan (held.source + 1) (trip so_far (r.books.log ++ back_entry held back ∷ []) (Some (sourced held.source h))) rest u rest_then → Ending → SendsThen r held own right back h answer s
  by_echo false h d plan within at same on devices silent silent_after talks ends_as clear journey ending =
      let is : h ≡ ete = sent_frame h ete ends_as.answer in
      inr (end_sent false h is (ap (λ h. is_plain (message_of h)) is) (λ r. ap (λ h. roles_after r (message_of h)) is) within at same on devices silent silent_after talks ends_as.off_loop (λ e. let clash : false ≡ true = e in cc) journey ending, is)
  by_echo true h d plan within at same on devices silent silent_after talks on_echo clear journey ending = by_over (own.stopped || own.last) refl on_echo
    where
      ended : Ends eto (Source h) e → SendsThen r held own true back h answer s
      ended ends_as =
          let is : h ≡ eto = sent_frame h eto ends_as.answer in
          inr (end_sent true h is (ap (λ h. is_plain (message_of h)) is) (λ r. ap (λ h. roles_after r (message_of h)) is) within at same on devices silent silent_after talks ends_as.off_loop (λ e. (clear e).2) journey ending, is)

      by_over : (over : Bool) → (own.stopped || own.last) ≡ over → GoesOn over (Source h) e → SendsThen r held own true back h answer s
      by_over true is ends_as = ended ends_as
      by_over false is (inl ends_as) = ended ends_as
      by_over false is (inr sends) =
          let frame : sends.0.frame ≡ h = sym (sent_frame h sends.0.frame sends.1.answer) in
          let all = clear refl in
          inl (more_sent h sends.0 plan within at same on devices silent silent_after talks sends.1.on_loop frame sends.1.runs (ap is_data (sym frame) ∙ sends.1.is_data) all.0 all.1 is all.2 journey ending)

-- ---- the whole round

-- how the echo is, by how it came
pub record EchoIs (plan : List Planned) (n m : ℕ) (held : Flight) (own : OwnFrame) (back : Frame) : Type 0 where
  pub right : Bool
  pub test : same_but_service own.frame back ≡ right
  pub good : right ≡ true → (with_service back ≡ with_service held.sent) × (held.altered ≡ false) × IsClear plan n (suc m)
  pub bad : right ≡ false → (byte_of back ≢ byte_of held.sent) × ((held.altered ≡ true) ⊎ ((hop : ℕ) × (hop ≤ m) × (next_fault plan (risen_by hop n) ≢ None)))

echo_is : (plan : List Planned) (n m : ℕ) (held : Flight) (own : OwnFrame) (back : Frame) (before : Bool) → held.altered ≡ before → own.frame ≡ held.sent → StoodSo held → Arrived plan n m held back → EchoIs plan n m held own back
echo_is plan n m held own back false unaltered frame stood (AsItWas same clear) =
    let right : with_service back ≡ with_service held.sent = same ∙ stood.same unaltered in
    record {
      right = true;
      test = same_served own.frame back (right ∙ ap with_service (sym frame));
      good = λ e. (right, unaltered, clear);
      bad = λ e. let clash : true ≡ false = e in cc;
    }
echo_is plan n m held own back true altered frame stood (AsItWas same clear) =
    let other : byte_of back ≢ byte_of held.sent = λ e. stood.other altered (sym (ap byte_of same) ∙ e) in
    record {
      right = false;
      test = wrong_echo own.frame back (λ e. other (e ∙ ap byte_of frame));
      good = λ e. let clash : false ≡ true = e in cc;
      bad = λ e. (other, inl altered);
    }
echo_is plan n m held own back before was frame stood (Otherwise changed unaltered hop within planned) =
    let other : byte_of back ≢ byte_of held.sent = λ e. changed (e ∙ sym (ap byte_of (stood.same unaltered))) in
    record {
      right = false;
      test = wrong_echo own.frame back (λ e. other (e ∙ ap byte_of frame));
      good = λ e. let clash : false ≡ true = e in cc;
      bad = λ e. (other, inr (hop, within, planned));
    }

came_back : {M : Type 0} (r s : RingView M) (held : Flight) (own : OwnFrame) (back : Frame) (m : ℕ) → is_data back ≡ true → (echo : EchoIs r.books.plan r.books.crossings m held own back) → ((hop : ℕ) → hop ≤ m → next_fault r.books.plan (risen_by hop r.books.crossings) ≢ None → met_between r s ≢ [])
    → CameBack r s held echo.right back
came_back r s held own back m data_frame echo met_some = record { data_frame = data_frame; echo = by_right echo.right refl }
  where
    by_right : (right : Bool) → echo.right ≡ right → MatchBool right ((held.altered ≡ false) × (with_service back ≡ with_service held.sent)) ((byte_of back ≢ byte_of held.sent) × ((held.altered ≡ true) ⊎ (met_between r s ≢ [])))
    by_right true is = let good = echo.good is in (good.1, good.0)
    by_right false is = let bad = echo.bad is in (bad.0, ⊎_elim (λ altered. inl altered) (λ hop. inr (met_some hop.0 hop.1 hop.2)) bad.1)

-- the entry of the frame that came back
back_is : (held : Flight) (k : ℕ) (back : Frame) (altered : Bool) → held.source ≡ k → ended_at (record held { now = back; altered = altered }) k ≡ back_entry held back
back_is held k back altered at = ap (λ own. entry held.source held.sent (if own then outcome.Back back else outcome.Taken k)) (eq-eqb held.source k at)

-- if it came to its source
pub answered_round : {M : Type 0} (view : M → MediumView) (r s : RingView M) (held : Flight) (own : OwnFrame) (answer : Arrival) (bs cs : List DeviceState) (d e : DeviceState) (rest rest_then : List DeviceState) (u : Trip) → r.books.crossings ≤ last_crossing → IsPlan r.books.plan
    → held.source ≡ 1 + length bs → length cs ≡ length bs → held.source + length rest ≤ length (devices_of r) → devices_of s ≡ cs ++ e ∷ rest_then → AllSilent cs → AllSilent rest → d.roles.talks ≡ true → d.own ≡ Some own → own.frame ≡ held.sent → StoodSo held
    → (came : Answered Takes r.books.plan (1 + length bs) r.books.crossings r.books.log held bs d rest u e rest_then) → (s.books ≡ home (books_at (record r.books { held = None }) u) u.flight) × (answer ≡ arrived (arriving r.books.plan u.crossings u.flight)) → Later u.crossings s.books.crossings
    → AnsweredSo r held own (length bs) came.out answer s
answered_round view r s held own answer bs cs d e rest rest_then u within plan at same on devices silent silent_after talks own_is frame stood came ending later = by_out came.out refl came.takes came.journey
  where
    echo : EchoIs r.books.plan r.books.crossings (length bs) held own came.back
    echo = echo_is r.books.plan r.books.crossings (length bs) held own came.back held.altered refl frame stood came.came

    by_out : (out : Out) → came.out ≡ out → Takes d came.back out e → Journey r.books.plan (1 + length bs + 1) (answered (risen_by (suc (length bs)) r.books.crossings) r.books.log (1 + length bs) (record held { now = came.back; altered = came.altered }) out) rest u rest_then
        → AnsweredSo r held own (length bs) came.out answer s
    by_out (Pass h) is takes journey = absurd (own_sends d e came.back h (Pass h) own came.data_frame own_is takes refl)
    by_out (Source h) is takes journey =
        let more : Later (risen_by (suc (length bs)) r.books.crossings) s.books.crossings = later_then (risen_by (suc (length bs)) r.books.crossings) u.crossings s.books.crossings (journey_later r.books.plan (1 + length bs + 1) _ u rest rest_then journey) later in
        let onward : Journey r.books.plan (held.source + 1) (trip (risen_by (suc (length bs)) r.books.crossings) (r.books.log ++ back_entry held came.back ∷ []) (Some (sourced held.source h))) rest u rest_then =
        subst (λ p. Journey r.books.plan (p + 1) (trip (risen_by (suc (length bs)) r.books.crossings) (r.books.log ++ back_entry held came.back ∷ []) (Some (sourced p h))) rest u rest_then) (sym at)
        (subst (λ entry. Journey r.books.plan (1 + length bs + 1) (trip (risen_by (suc (length bs)) r.books.crossings) (r.books.log ++ entry ∷ []) (Some (sourced (1 + length bs) h))) rest u rest_then) (back_is held (1 + length bs) came.back came.altered at) journey) in
        record {
          right = echo.right;
          back = came.back;
          came = came_back r s held own came.back (length bs) came.data_frame echo (λ hop low planned. met_later r s (risen_by (suc (length bs)) r.books.crossings) hop (suc (length bs)) within refl (omega (arith, low)) planned more);
          good = λ e. let all = echo.good e in (all.1, all.2);
          sent = h;
          out_is = is;
          after =
              by_echo view r s held answer own came.back bs cs e rest rest_then u echo.right h d plan within (omega (arith, at)) same on devices silent silent_after
              (ap (λ r. r.talks) (takes.roles ∙ roles_after-data d.roles came.back came.data_frame) ∙ talks)
              (subst (λ right. AnswersEcho right own (Source h) e) echo.test (echo_answer d e own came.back (Source h) came.data_frame own_is takes)) echo.good onward ending;
        }

-- if it was lost before
pub gone_round : {M : Type 0} (r s : RingView M) (held : Flight) (answer : Arrival) (k m : ℕ) (u : Trip) → r.books.crossings ≤ last_crossing → k ≤ length (devices_of r) → m ≤ length (devices_of r) → 1 ≤ k → k ≤ held.source → m < held.source → Gone r.books.plan 1 k m r.books.crossings r.books.log held u
    → (s.books ≡ home (books_at (record r.books { held = None }) u) u.flight) × (answer ≡ arrived (arriving r.books.plan u.crossings u.flight)) → IsLostNow r [] held.source held.sent answer s
gone_round r s held answer k m u within on far first here_or before gone ending =
    let n = r.books.crossings in
    let books : s.books ≡ record r.books { crossings = risen_by (suc gone.crossed) n; log = r.books.log ++ lost_at held gone.party ∷ []; held = None } = ending.0 ∙ ap (λ u. home (books_at (record r.books { held = None }) u) u.flight) gone.is in
    record {
      answer_is = ending.1 ∙ ap (λ (u : Trip). arrived (arriving r.books.plan u.crossings u.flight)) gone.is;
      party = gone.party;
      on_ring = ⊎_elim (λ here. omega (arith, here, on)) (λ low. omega (arith, low.1, far)) gone.on_ring;
      place = ⊎_elim (λ here. (omega (arith, here, first), omega (arith, here, here_or))) (λ low. (low.0, omega (arith, low.1, before))) gone.on_ring;
      log = ap (λ (b : BooksView). b.log) books;
      held_is = ap (λ (b : BooksView). b.held) books;
      met_some = λ none. met_at r.books.plan gone.crossed (suc gone.crossed) n within (omega arith) gone.planned (ap (met (hops_of r.books.plan) n) (sym (ap (λ (b : BooksView). b.crossings) books)) ∙ none);
    }

-- The held frame goes on from the host, if its source is the one device that talks and has it on the loop: with what the
-- source sent then.
pub relay_shown : {M : Type 0} (view : M → MediumView) (r s : RingView M) (held : Flight) (own : OwnFrame) (answer : Arrival) → r.books.crossings ≤ last_crossing → IsPlan r.books.plan → IsTalking held.source (Some own) (devices_of r) → own.frame ≡ held.sent → StoodSo held
    → Round view r None held answer s → IsLostNow r [] held.source held.sent answer s ⊎ ((m : ℕ) × (held.source ≡ suc m) × ((out : Out) × AnsweredSo r held own m out answer s))
relay_shown view r s held own answer within plan talking frame stood round =
    let bs = talking.before in
    let rest = talking.after in
    let d = talking.talker in
    let n = r.books.crossings in
    let u = round.past_all in
    let k = 1 + length bs in
    let at : held.source ≡ k = omega (arith, talking.party) in
    let parts = journey_parts r.books.plan 1 (trip_of r.books (Some held)) u bs (d ∷ rest) (devices_of s) (subst (λ ds. Journey r.books.plan 1 (trip_of r.books (Some held)) ds u (devices_of s)) talking.devices_are (round_journey view r s None held answer round)) in
    let head = head_of r.books.plan k parts.middle u d rest parts.more parts.from_middle in
    let cs = parts.first in
    let goes = data_past r.books.plan 1 n r.books.log held bs cs parts.middle plan (each_silent 1 bs talking.silent) stood.data_frame parts.to_middle in
    let devices : devices_of s ≡ cs ++ head.e ∷ head.rest_then = parts.both ∙ ap (λ more. cs ++ more) head.both in
    let all = length_split (devices_of r) bs rest d talking.devices_are in
    let ending : (s.books ≡ home (books_at (record r.books { held = None }) u) u.flight) × (answer ≡ arrived (arriving r.books.plan u.crossings u.flight)) = (round.books, round.answer_is) in
    ⊎_elim
    (λ (answer_at : Answered Takes r.books.plan k n r.books.log held bs d rest u head.e head.rest_then).
    inr (length bs, omega (arith, at), (answer_at.out, answered_round view r s held own answer bs cs d head.e rest head.rest_then u within plan at parts.same (omega (arith, at, all)) devices (goes_silent r.books.plan 1 n r.books.log held bs cs parts.middle goes talking.silent) talking.silent_after talking.talks talking.own_is frame stood answer_at ending (end_later view r s None held answer round))))
    (λ gone. inl (gone_round r s held answer k (length bs) u within (omega (arith, all)) (omega (arith, all)) (omega arith) (omega (arith, at)) (omega (arith, at)) gone.0 ending))
    (to_talker Takes r.books.plan 1 k n r.books.log held bs d rest u head.e head.rest_then parts.middle head.middle cs plan goes head.passage head.journey)

relayed : {M : Type 0} (r s : RingView M) (held : Flight) (own : OwnFrame) (answer : Arrival) → IsLostNow r [] held.source held.sent answer s ⊎ ((m : ℕ) × (held.source ≡ suc m) × ((out : Out) × AnsweredSo r held own m out answer s)) → Relayed r held own answer s
relayed r s held own answer (inl lost) = inl lost
relayed r s held own answer (inr shown) = by_answer shown.0 shown.2.0 shown.2.1
  where
    by_answer : (m : ℕ) (out : Out) → AnsweredSo r held own m out answer s → Relayed r held own answer s
    by_answer m out a = inr (a.right, a.back, a.came, ⊎_elim (λ more. inl more.0) (λ ends. inr ends.0) a.after)

pub relay_round : {M : Type 0} (view : M → MediumView) (r s : RingView M) (held : Flight) (own : OwnFrame) (answer : Arrival) → r.books.crossings ≤ last_crossing → IsPlan r.books.plan → IsTalking held.source (Some own) (devices_of r) → own.frame ≡ held.sent → StoodSo held
    → Round view r None held answer s → Relayed r held own answer s
relay_round view r s held own answer within plan talking frame stood round = relayed r s held own answer (relay_shown view r s held own answer within plan talking frame stood round)
