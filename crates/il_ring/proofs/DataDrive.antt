-- What a round of a data frame brings to the drive.
use Rattle.std.proofs.Common.{◌≡◌, ◌≢◌, ◌≤◌, ◌+◌, ◌⊎◌, inl, inr, ⊎_elim, ℕ, suc, true, List, [], Option, Some, None, length, sym, ap, subst, ◌∙◌, arith}
use Rattle.il_frames.specs.declared.entry.Entry.{Entry}
use Rattle.il_frames.specs.Frames.{is_data, with_service}
use Rattle.il_device.specs.State.{DeviceState, risen_by}
use Rattle.il_ports.specs.Media.{MediumView}
use Rattle.il_ring.specs.declared.plan.Arrival.{Arrival}
use Rattle.il_ring.specs.declared.flight.Flight.{Flight}
use Rattle.il_ring.specs.Plans.{IsPlan, next_fault, last_crossing}
use Rattle.il_ring.specs.Journeys.{trip, answered, Journey, DriveTakes}
use Rattle.il_ring.specs.Lists.{Each}
use Rattle.il_ring.specs.Rings.{RingView, Round}
use Rattle.il_ring.specs.Outcomes.{met_between, DriveTook, DriveHad, IsBrought}
use Rattle.il_ring.proofs.Counts.{risen_by-add}
use Rattle.il_ring.proofs.DataPasses.{data_past}
use Rattle.il_ring.proofs.DriveRounds.{NotAtDrive, came_or_not, lost_round}
use Rattle.il_ring.proofs.Echoes.{Arrived, AsItWas, Otherwise, Answered, to_talker}
use Rattle.il_ring.proofs.Later.{Later, later_then, answered_count, journey_later, end_later, met_later}
use Rattle.il_ring.proofs.PassKinds.{Silent}

module _ {M : Type 0} (view : M → MediumView) (r s : RingView M) (held : Option Flight) (f : Flight) (answer : Arrival) (round : Round view r held f answer s) where
  -- the data frame g, on its way from the party after j links past the devices ds, came to the drive
  abbrev pub AtDrive : ℕ → List Entry → Flight → List DeviceState → Type 0
  AtDrive j log g ds = Answered (DriveTakes view) r.books.plan (length r.before + 1) (risen_by j r.books.crossings) log g ds r.drive r.after round.past_all s.drive s.after

  -- or was lost
  pub data_there : (j k : ℕ) (log : List Entry) (g : Flight) (ds es : List DeviceState) → r.books.crossings ≤ last_crossing → IsPlan r.books.plan → is_data g.now ≡ true → Each Silent k ds
      → Journey r.books.plan k (trip (risen_by j r.books.crossings) log (Some g)) ds round.at_drive es → AtDrive j log g ds ⊎ NotAtDrive r log g.source g.sent answer s
  data_there j k log g ds es within plan data_frame silent journey =
      let n = risen_by j r.books.crossings in
      let next : length r.before + 2 ≡ length r.before + 1 + 1 = omega arith in
      let onward = subst (λ k. Journey r.books.plan k round.past_drive r.after round.past_all s.after) next round.from_drive in
      let goes = data_past r.books.plan k n log g ds es round.at_drive plan silent data_frame journey in
      ⊎_elim
      (λ (came : AtDrive j log g ds). inl came)
      (λ gone. inr (lost_round view r s held f answer round j gone.0.crossed gone.0.party log g within gone.0.is gone.0.planned gone.1))
      (to_talker (DriveTakes view) r.books.plan k (length r.before + 1) n log g ds r.drive r.after round.past_all s.drive s.after round.at_drive round.past_drive es plan goes round.at onward)

  -- what is planned on its way is reached in this round
  met_on_way : (j : ℕ) (log : List Entry) (g : Flight) (ds : List DeviceState) → r.books.crossings ≤ last_crossing → (came : AtDrive j log g ds) → (hop : ℕ) → hop ≤ length ds → next_fault r.books.plan (risen_by hop (risen_by j r.books.crossings)) ≢ None → met_between r s ≢ []
  met_on_way j log g ds within came hop low planned =
      let n = risen_by (suc (length ds)) (risen_by j r.books.crossings) in
      let t = answered n log (length r.before + 1) (record g { now = came.back; altered = came.altered }) came.out in
      let later : Later t.crossings s.books.crossings = later_then t.crossings round.past_all.crossings s.books.crossings (journey_later r.books.plan (length r.before + 1 + 1) t round.past_all r.after s.after came.journey) (end_later view r s held f answer round) in
      met_later r s n (j + hop) (j + suc (length ds)) within (sym (risen_by-add j (suc (length ds)) r.books.crossings)) (omega (arith, low)) (λ none. planned (ap (next_fault r.books.plan) (sym (risen_by-add j hop r.books.crossings)) ∙ none))
      (subst (λ n. Later n s.books.crossings) (answered_count n log (length r.before + 1) (record g { now = came.back; altered = came.altered }) came.out) later)

  pub brought_there : (j : ℕ) (log : List Entry) (g : Flight) (ds : List DeviceState) → r.books.crossings ≤ last_crossing → AtDrive j log g ds → DriveHad view (IsBrought r s g.now) r s
  brought_there j log g ds within came = (came.back, (came.data_frame, by_way came.came), (came.out, came.takes))
    where
      by_way : Arrived r.books.plan (risen_by j r.books.crossings) (length ds) g came.back → met_between r s ≡ [] → with_service came.back ≡ with_service g.now
      by_way (AsItWas same clear) none = same
      by_way (Otherwise other first hop low planned) none = absurd (met_on_way j log g ds within came hop low planned none)

  -- it comes to the drive if these devices are silent, or a planned hop is reached
  pub data_took : (j k : ℕ) (log : List Entry) (g : Flight) (ds es : List DeviceState) → r.books.crossings ≤ last_crossing → IsPlan r.books.plan → is_data g.now ≡ true → Each Silent k ds
      → Journey r.books.plan k (trip (risen_by j r.books.crossings) log (Some g)) ds round.at_drive es → DriveTook view (IsBrought r s g.now) r s
  data_took j k log g ds es within plan data_frame silent journey =
      ⊎_elim
      (λ (came : AtDrive j log g ds). inr (brought_there j log g ds within came))
      (λ (lost : NotAtDrive r log g.source g.sent answer s). came_or_not view (IsBrought r s g.now) r s log g.source g.sent answer (inr lost))
      (data_there j k log g ds es within plan data_frame silent journey)

  -- The data frame comes to the drive if the devices before it are silent, or a planned hop is reached.
  pub data_drive : r.books.crossings ≤ last_crossing → IsPlan r.books.plan → is_data f.now ≡ true → Each Silent 1 r.before → DriveTook view (IsBrought r s f.now) r s
  data_drive within plan data_frame silent = data_took 0 1 r.books.log f r.before s.before within plan data_frame silent round.to_drive
