-- What a round brought to the drive.
use Rattle.std.proofs.Common.{◌≡◌, ◌≢◌, ◌≤◌, ◌+◌, ◌++◌, ◌⊎◌, inl, inr, ⊎_elim, ℕ, suc, false, List, [], ◌∷◌, Option, Some, None, length, refl, sym, ap, subst, ◌∙◌, arith}
use Rattle.il_frames.specs.declared.frame.Frame.{Frame}
use Rattle.il_frames.specs.declared.entry.Entry.{Entry}
use Rattle.il_frames.specs.declared.entry.Outcome.TheVariants as outcome
use Rattle.il_frames.specs.Frames.{is_data}
use Rattle.il_device.specs.State.{DeviceState, risen_by}
use Rattle.il_ports.specs.Media.{MediumView}
use Rattle.il_frames.specs.NamedFrames.{entry}
use Rattle.loop_model.specs.Reach.{met}
use Rattle.il_ring.specs.declared.plan.PlanFault.{PlanFault}
use Rattle.il_ring.specs.declared.plan.Arrival.{Arrival}
use Rattle.il_ring.specs.declared.plan.Arrival.TheVariants as arrival
use Rattle.il_ring.specs.declared.flight.Flight.{Flight}
use Rattle.il_ring.specs.Plans.{hops_of, next_fault, last_crossing}
use Rattle.il_ring.specs.Flights.{sourced, hit, lost_at}
use Rattle.il_ring.specs.Books.{BooksView}
use Rattle.il_ring.specs.Journeys.{Trip, trip, Meets, Passage, Journey, DriveTakes}
use Rattle.il_ring.specs.Lists.{Each}
use Rattle.il_ring.specs.Rings.{RingView, Round, home, books_at, arrived, arriving}
use Rattle.il_ring.specs.Outcomes.{met_between, DriveTook, DriveHad}
use Rattle.il_ring.proofs.Counts.{risen_by-add}
use Rattle.il_ring.proofs.Faults.{met_at, risen_by_last}
use Rattle.il_ring.proofs.Passes.{PassesOn, plain_hit, goes_past, nothing_comes}

-- After these entries a frame was lost before it came to the drive, at a planned hop.
pub record NotAtDrive {M : Type 0} (r : RingView M) (log : List Entry) (source : ℕ) (sent : Frame) (answer : Arrival) (s : RingView M) : Type 0 where
  pub answer_is : answer ≡ arrival.Lost
  pub party : ℕ
  pub log_is : s.books.log ≡ log ++ entry source sent (outcome.Lost party) ∷ []
  pub held_is : s.books.held ≡ None
  pub drive : s.drive ≡ r.drive
  pub met_some : met_between r s ≢ []

-- either way
pub came_or_not : {M : Type 0} (view : M → MediumView) (P : Frame → Type 0) (r s : RingView M) (log : List Entry) (source : ℕ) (sent : Frame) (answer : Arrival) → DriveHad view P r s ⊎ NotAtDrive r log source sent answer s → DriveTook view P r s
came_or_not view P r s log source sent answer (inl had) = inr had
came_or_not view P r s log source sent answer (inr lost) = inl (lost.drive, lost.met_some)

module _ {M : Type 0} (view : M → MediumView) (r s : RingView M) (held : Option Flight) (f : Flight) (answer : Arrival) (round : Round view r held f answer s) where
  -- the frame g, on its way from the party after j links, was lost after this many more, and the drive is as it was
  pub lost_round : (j crossed party : ℕ) (log : List Entry) (g : Flight) → r.books.crossings ≤ last_crossing → round.past_all ≡ trip (risen_by (suc crossed) (risen_by j r.books.crossings)) (log ++ lost_at g party ∷ []) None
      → next_fault r.books.plan (risen_by crossed (risen_by j r.books.crossings)) ≢ None → s.drive ≡ r.drive → NotAtDrive r log g.source g.sent answer s
  lost_round j crossed party log g within is planned drive =
      let books : s.books ≡ record r.books { crossings = risen_by (suc crossed) (risen_by j r.books.crossings); log = log ++ lost_at g party ∷ []; held = None } = round.books ∙ ap (λ u. home (books_at (record r.books { held = held }) u) u.flight) is in
      let all : s.books.crossings ≡ risen_by (j + suc crossed) r.books.crossings = ap (λ (b : BooksView). b.crossings) books ∙ sym (risen_by-add j (suc crossed) r.books.crossings) in
      record {
        answer_is = round.answer_is ∙ ap (λ (u : Trip). arrived (arriving r.books.plan u.crossings u.flight)) is;
        party = party;
        log_is = ap (λ (b : BooksView). b.log) books;
        held_is = ap (λ (b : BooksView). b.held) books;
        drive = drive;
        met_some = λ none.
            met_at r.books.plan (j + crossed) (j + suc crossed) r.books.crossings within (omega arith) (λ here. planned (ap (next_fault r.books.plan) (sym (risen_by-add j crossed r.books.crossings)) ∙ here))
            (ap (met (hops_of r.books.plan) r.books.crossings) (sym all) ∙ none);
      }

  -- after the drive
  past_lost : (n : ℕ) (log : List Entry) → round.past_drive ≡ trip n log None → round.past_all ≡ trip n log None
  past_lost n log is =
      let rest = nothing_comes r.books.plan (length r.before + 2) round.past_drive round.past_all r.after s.after (λ d e. Unit {0}) (ap (λ (t : Trip). t.flight) is) round.from_drive in
      rest.0 ∙ is

  -- before the drive
  pub stays_lost : (n : ℕ) (log : List Entry) → round.at_drive ≡ trip n log None → (round.past_all ≡ trip n log None) × (s.drive ≡ r.drive)
  stays_lost n log is =
      let here : (round.past_drive ≡ trip n log None) × (s.drive ≡ r.drive) = subst (λ t. Passage (DriveTakes view) r.books.plan (length r.before + 1) t r.drive round.past_drive s.drive) is round.at in
      (past_lost n log here.0, here.1)

  pub lost_ahead : (j crossed party : ℕ) (log : List Entry) (g : Flight) → r.books.crossings ≤ last_crossing → round.at_drive ≡ trip (risen_by (suc crossed) (risen_by j r.books.crossings)) (log ++ lost_at g party ∷ []) None
      → next_fault r.books.plan (risen_by crossed (risen_by j r.books.crossings)) ≢ None → NotAtDrive r log g.source g.sent answer s
  lost_ahead j crossed party log g within is planned =
      let lost = stays_lost (risen_by (suc crossed) (risen_by j r.books.crossings)) (log ++ lost_at g party ∷ []) is in
      lost_round j crossed party log g within lost.0 planned lost.1

  -- a frame that is neither data nor end, if this is planned at the link to the drive
  pub plain_there : (j m : ℕ) (log : List Entry) (g : Flight) (fault : Option PlanFault) → r.books.crossings ≤ last_crossing → is_data g.now ≡ false → round.at_drive ≡ trip (risen_by m (risen_by j r.books.crossings)) log (Some g)
      → next_fault r.books.plan (risen_by m (risen_by j r.books.crossings)) ≡ fault → DriveHad view (λ h. h ≡ g.now) r s ⊎ NotAtDrive r log g.source g.sent answer s
  plain_there j m log g None within plain is planned =
      let n = risen_by m (risen_by j r.books.crossings) in
      let meets : Meets (DriveTakes view) (length r.before + 1) (trip n log (Some g)) g (Some g) r.drive round.past_drive s.drive =
      subst (λ fault. Meets (DriveTakes view) (length r.before + 1) (trip n log (Some g)) g (hit fault g) r.drive round.past_drive s.drive) planned (subst (λ t. Passage (DriveTakes view) r.books.plan (length r.before + 1) t r.drive round.past_drive s.drive) is round.at) in
      inl (g.now, refl, (meets.0, meets.1))
  plain_there j m log g (Some fault) within plain is planned =
      let n = risen_by m (risen_by j r.books.crossings) in
      let meets : Meets (DriveTakes view) (length r.before + 1) (trip n log (Some g)) g None r.drive round.past_drive s.drive =
      subst (λ o. Meets (DriveTakes view) (length r.before + 1) (trip n log (Some g)) g o r.drive round.past_drive s.drive) (ap (λ fault. hit fault g) planned ∙ plain_hit fault g plain) (subst (λ t. Passage (DriveTakes view) r.books.plan (length r.before + 1) t r.drive round.past_drive s.drive) is round.at) in
      let far = meets.0 ∙ ap (λ n. trip n (log ++ lost_at g (length r.before + 1) ∷ []) None) (risen_by_last m (risen_by j r.books.crossings)) in
      inr (lost_round j m (length r.before + 1) log g within (past_lost (risen_by (suc m) (risen_by j r.books.crossings)) (log ++ lost_at g (length r.before + 1) ∷ []) far) (λ none. let clash = sym planned ∙ none in cc) meets.1)

  -- a frame that each of these devices passes on
  pub passes_there : (Q : ℕ → Frame → Type 0) (P : ℕ → DeviceState → Type 0) (R : DeviceState → DeviceState → Type 0) → PassesOn Q P R → (j k : ℕ) (log : List Entry) (g : Flight) (ds es : List DeviceState) → r.books.crossings ≤ last_crossing → Each P k ds → Q k g.now
      → Journey r.books.plan k (trip (risen_by j r.books.crossings) log (Some g)) ds round.at_drive es → DriveHad view (Q (k + length ds)) r s ⊎ NotAtDrive r log g.source g.sent answer s
  passes_there Q P R rule j k log g ds es within fit is journey =
      let n = risen_by j r.books.crossings in
      ⊎_elim
      (λ on.
      ⊎_elim
      (λ had. inl (had.0, subst (Q (k + length ds)) (sym had.1) on.is_now, had.2))
      (λ lost. inr lost)
      (plain_there j (length ds) log (record g { now = on.now }) (next_fault r.books.plan (risen_by (length ds) n)) within (rule.no_data (k + length ds) on.now on.is_now) on.trip_is refl))
      (λ lost. inr (lost_ahead j lost.reached (k + lost.reached) log g within lost.trip_is lost.planned))
      (goes_past Q P R rule r.books.plan k n log g ds es round.at_drive fit is journey)

-- a frame that every device passes on comes to the drive, or a planned hop is reached
pub passed_drive : {M : Type 0} (view : M → MediumView) (Q : ℕ → Frame → Type 0) (P : ℕ → DeviceState → Type 0) (R : DeviceState → DeviceState → Type 0) → PassesOn Q P R → (r s : RingView M) (held : Option Flight) (f : Frame) (answer : Arrival)
    → r.books.crossings ≤ last_crossing → Each P 1 r.before → Q 1 f → Round view r held (sourced 0 f) answer s → DriveTook view (Q (1 + length r.before)) r s
passed_drive view Q P R rule r s held f answer within fit is round =
    came_or_not view (Q (1 + length r.before)) r s r.books.log 0 f answer (passes_there view r s held (sourced 0 f) answer round Q P R rule 0 1 r.books.log (sourced 0 f) r.before s.before within fit is round.to_drive)
