-- What a drive keeps while a second controller polls, from one frame at the host to the next, and what breaks leave of
-- it.
pub use Rattle.il_control.specs.Lent.{DriveMild}
use Rattle.std.proofs.Common.{◌≡◌, ◌≢◌, ◌∙◌, ◌+◌, ◌++◌, ◌==◌, ◌&&◌, ◌||◌, ◌⊎◌, inl, inr, ⊎_elim, nat_le, not, ℕ, suc, Bool, true, false, List, [], ◌∷◌, Option, Some, None, length, map, refl, sym, ap, subst, append_assoc}
use Rattle.std.specs.Prelude.{if◌then◌else◌}
use Rattle.std.specs.List.{list_all}
use Rattle.std.proofs.lemmas.Bool.{and_from, and_parts, cases_lt, le-leb}
use Rattle.il_frames.specs.declared.entry.Entry.{Entry}
use Rattle.il_frames.specs.declared.entry.Outcome.TheVariants as outcome
use Rattle.il_frames.specs.declared.frame.Frame.{Frame}
use Rattle.il_frames.specs.Frames.{byte_of, is_data}
use Rattle.il_frames.specs.NamedFrames.{entry}
use Rattle.il_poll.specs.Service.{status_byte_of}
use Rattle.il_device.specs.declared.device.Out.{Out}
use Rattle.il_device.specs.declared.interface.OwnFrame.{OwnFrame}
use Rattle.il_device.specs.State.{DeviceState}
use Rattle.il_device.specs.Takes.{eto}
use Rattle.il_ports.specs.Media.{MediumView}
use Rattle.il_drive.specs.declared.mode.Start.TheVariants as start
use Rattle.il_drive.specs.State.{DriveView, device_of, status_of}
use Rattle.il_drive.specs.Runs.{Ran}
use Rattle.il_drive.proofs.Mild.{IsMildFor, OneByte, StaysMildFor, StatusLeft, mild_ran}
use Rattle.loop_model.specs.Exchanges.{Answer, NotTaken, ToItsEnd, Stopped, Echo, echoed, is_answer, is_echo}
use Rattle.il_guest.specs.Frames.{sst}
use Rattle.il_ring.specs.declared.plan.Arrival.{Arrival}
use Rattle.il_ring.specs.declared.plan.PlanFault.{PlanFault}
use Rattle.il_ring.specs.declared.plan.PlanFault.TheVariants.{Lose, Alter}
use Rattle.il_ring.specs.declared.flight.Flight.{Flight}
use Rattle.il_ring.specs.Flights.{altered_by, hit}
use Rattle.il_ring.specs.Lending.{going_on}
use Rattle.il_ring.specs.Lists.{AllSilent, Each}
use Rattle.il_ring.specs.Outcomes.{IsTalking}
use Rattle.il_ring.specs.Rings.{RingView, devices_of, drive_party}
use Rattle.il_ring.specs.Statuses.{ReportsStatus, reported_by}
use Rattle.il_control.specs.Calls.{Broke}
use Rattle.il_control.specs.Brought.{is_from_here}
use Rattle.il_control.specs.Lent.{DriveLeft, DriveSo}
use Rattle.il_control.specs.Receives.{AtEnd, AtHeld, AtNext, DueAt, FirstLost, IsCalm, IsHolding, BeginBroken, TakesBroken, RelayBroken, StartLost, past_start}
use Rattle.il_control.proofs.LentCame.{AllQuiet, StaysSo, cut_quiet, echo_quiet, echoes_quiet, quiet_entry, quiet_frame, quiet_mild, spoken_quiet}
use Rattle.il_control.proofs.LentSteps.{GoesOut}
use Rattle.il_control.proofs.LentReports.{tells_left}

-- ---- the drive among the devices

head_same : {A : Type 0} (x y : A) (xs ys : List A) → x ∷ xs ≡ y ∷ ys → x ≡ y
head_same x y xs ys same = ap (λ l. elim l [ [] ↦ x | z ∷ rest ↦ z ]) same

tail_same : {A : Type 0} (x y : A) (xs ys : List A) → x ∷ xs ≡ y ∷ ys → xs ≡ ys
tail_same x y xs ys same = ap (λ l. elim l [ [] ↦ xs | z ∷ rest ↦ rest ]) same

-- a device that is not the one between these does not talk
apart : (xs ys bs cs : List DeviceState) (d t : DeviceState) → xs ++ d ∷ ys ≡ bs ++ t ∷ cs → length xs ≢ length bs → AllSilent bs → AllSilent cs → d.roles.talks ≡ false
apart [] ys [] cs d t same other silent after = absurd (other refl)
apart [] ys (b ∷ bs) cs d t same other silent after = ap (λ (d : DeviceState). d.roles.talks) (head_same d b ys (bs ++ t ∷ cs) same) ∙ silent.0
apart (x ∷ xs) ys [] cs d t same other silent after = at xs (subst AllSilent (sym (tail_same x t (xs ++ d ∷ ys) cs same)) after)
  where
    at : (xs : List DeviceState) → AllSilent (xs ++ d ∷ ys) → d.roles.talks ≡ false
    at [] all = all.0
    at (x ∷ xs) all = at xs all.1
apart (x ∷ xs) ys (b ∷ bs) cs d t same other silent after = apart xs ys bs cs d t (tail_same x b (xs ++ d ∷ ys) (bs ++ t ∷ cs) same) (λ e. other (ap suc e)) silent.1 after

-- if another device talks the drive sends nothing
pub other_silent : {M : Type 0} (m : RingView M) (p : ℕ) (own : Option OwnFrame) → IsTalking p own (devices_of m) → p ≢ drive_party m → IsMildFor start.Status m.drive.state → m.drive.state.interface.own ≡ None
other_silent m p own talking other mild = by m.drive.state.interface.own refl
  where
    mute : m.drive.state.interface.roles.talks ≡ false
    mute =
        apart m.before m.after talking.before talking.after (device_of m.drive.state) talking.talker talking.devices_are
        (λ same. other (talking.party ∙ ap (λ n. n + 1) (sym same))) talking.silent talking.silent_after

    by : (own : Option OwnFrame) → m.drive.state.interface.own ≡ own → m.drive.state.interface.own ≡ None
    by None is = is
    by (Some own) is =
        let sends = subst (λ own. OneByte start.Status own m.drive.state.begun m.drive.state.interface.roles.talks) is mild.sends in
        let clash : false ≡ true = sym mute ∙ sends.2 in
        cc

-- and so if no device does
pub calm_silent : {M : Type 0} (m : RingView M) → Each IsCalm 1 (devices_of m) → m.drive.state.interface.own ≡ None
calm_silent m calm = at 1 m.before calm
  where
    at : (j : ℕ) (xs : List DeviceState) → Each IsCalm j (xs ++ device_of m.drive.state ∷ m.after) → m.drive.state.interface.own ≡ None
    at j [] all = all.0.1
    at j (x ∷ xs) all = at (j + 1) xs all.1

-- ---- breaks

or_true : (a b : Bool) → b ≡ true → (a || b) ≡ true
or_true true b h = refl
or_true false b h = h

after_quiet : (answer : Answer) → is_answer 0 answer ≡ true → list_all (quiet_entry start.Status) (past_start answer) ≡ true
after_quiet NotTaken legal = refl
after_quiet (ToItsEnd p ds) legal =
    echoes_quiet start.Status p ds (entry p eto (outcome.Taken 0) ∷ []) (and_parts _ (list_all is_echo ds) (and_parts (not (p == 0)) _ legal).1).1 refl
after_quiet (Stopped p ds last) legal =
    let echoes = and_parts (list_all is_echo ds) (is_echo last) (and_parts (not (p == 0)) (list_all is_echo ds && is_echo last) legal).1 in
    echoes_quiet start.Status p ds _ echoes.0 (and_from (quiet_frame start.Status last.sent) true (echo_quiet start.Status last echoes.1) refl)

module _ {M : Type 0} (view : M → MediumView) where
  -- such frames came, whatever they are
  pub quiet_left : (gs : List Frame) (outs : List Out) (v w : DriveView M) → AllQuiet start.Status gs → IsMildFor start.Status v.state → Ran view v gs outs w → StaysMildFor start.Status view v w
  quiet_left gs outs v w all mild ran = mild_ran view gs outs v w mild (quiet_mild start.Status gs all) ran

  -- a frame of the second controller broke off
  pub broke_left : (m n : RingView M) (es : List Entry) (broke : Broke view m es n) → list_all (quiet_entry start.Status) es ≡ true → list_all (is_from_here (drive_party m)) es ≡ true → IsMildFor start.Status m.drive.state → StaysMildFor start.Status view m.drive n.drive
  broke_left m n es broke quiet here mild =
      let k = length (devices_of m) in
      quiet_left broke.adds.came broke.adds.answers m.drive n.drive (cut_quiet start.Status k (drive_party m) broke.standing es broke.adds.came quiet (broke.brought here)) mild broke.adds.drive

  pub not_begun_left : (m n : RingView M) → BeginBroken view sst m n → IsMildFor start.Status m.drive.state → StaysMildFor start.Status view m.drive n.drive
  not_begun_left m n not mild = elim not [
    | StartLost broke unheard ↦ broke_left m n _ broke refl refl mild
    | FirstLost p d echo talked broke far unheard ↦
        ⊎_elim
        (λ less. quiet_left broke.adds.came broke.adds.answers m.drive n.drive (spoken_quiet start.Status broke.adds.came (far less)) mild broke.adds.drive)
        (λ on.
        broke_left m n (entry 0 sst (outcome.Taken p) ∷ echoed p d ∷ []) broke (and_from (quiet_frame start.Status d.sent) true (echo_quiet start.Status d echo) refl)
        (and_from ((p == 0) || nat_le (drive_party m) p) true (or_true (p == 0) (nat_le (drive_party m) p) (le-leb (drive_party m) p on)) refl) mild)
        (cases_lt p (drive_party m))
  ]

  pub not_took_left : (m : RingView M) (h : IsHolding m) (w : ℕ) (n : RingView M) → TakesBroken view m h w n → IsMildFor start.Status m.drive.state → StaysMildFor start.Status view m.drive n.drive
  not_took_left m h w n not mild =
      let adds = not.added.adds in
      quiet_left adds.came adds.answers m.drive n.drive
      (⊎_elim (λ less. spoken_quiet start.Status adds.came (not.added.far less))
      (λ on. cut_quiet start.Status (length (devices_of m)) (drive_party m) not.standing (past_start not.answer) adds.came (after_quiet not.answer not.legal) (not.added.near on))
      (cases_lt h.flight.source (drive_party m))) mild adds.drive

  pub severed_left : (m : RingView M) (h : IsHolding m) (n : RingView M) → RelayBroken view m h n → IsMildFor start.Status m.drive.state → StaysMildFor start.Status view m.drive n.drive
  severed_left m h n off mild =
      let adds = off.added.adds in
      let p = h.flight.source in
      quiet_left adds.came adds.answers m.drive n.drive
      (⊎_elim (λ less. spoken_quiet start.Status adds.came (off.added.far less))
      (λ on. cut_quiet start.Status (length (devices_of m)) (drive_party m) (length off.whole) (map (echoed p) off.whole ++ off.due ∷ []) adds.came (by p off.whole off.due off.due_at) (off.added.near on))
      (cases_lt p (drive_party m))) mild adds.drive
    where
      all_of : (p : ℕ) (whole : List Echo) (due : Entry) (ds : List Echo) (e : Entry) → whole ≡ ds → due ≡ e → list_all is_echo ds ≡ true → quiet_entry start.Status e ≡ true → list_all (quiet_entry start.Status) (map (echoed p) whole ++ due ∷ []) ≡ true
      all_of p whole due ds e is due_is echoes quiet =
          echoes_quiet start.Status p whole (due ∷ []) (ap (list_all is_echo) is ∙ echoes) (and_from (quiet_entry start.Status due) true (ap (quiet_entry start.Status) due_is ∙ quiet) refl)

      by : (p : ℕ) (whole : List Echo) (due : Entry) → DueAt p h.own whole due → list_all (quiet_entry start.Status) (map (echoed p) whole ++ due ∷ []) ≡ true
      by p whole due at = elim at [
        | AtHeld d echo is due_is ↦ all_of p whole due [] (echoed p d) is due_is refl (echo_quiet start.Status d echo)
        | AtNext c d first echo goes is due_is ↦ all_of p whole due (c ∷ []) (echoed p d) is due_is (and_from (is_echo c) true first refl) (echo_quiet start.Status d echo)
        | AtEnd d echo is due_is ↦ all_of p whole due (d ∷ []) (entry p eto (outcome.Taken 0)) is due_is (and_from (is_echo d) true echo refl) refl
      ]

-- ---- on a link

-- a flight keeps its source and what it was sent as
pub hit_keeps : (fault : Option PlanFault) (f at : Flight) → hit fault f ≡ Some at → (at.source ≡ f.source) × (at.sent ≡ f.sent)
hit_keeps None f at came = (sym (ap (λ (o : Option Flight). elim o [ Some g ↦ g.source | None ↦ at.source ]) came), sym (ap (λ (o : Option Flight). elim o [ Some g ↦ g.sent | None ↦ at.sent ]) came))
hit_keeps (Some Lose) f at came = cc
hit_keeps (Some (Alter change)) f at came = by (is_data f.now && not f.altered) came
  where
    by : (may : Bool) → (if may then Some (record f { now = altered_by change f.now; altered = true }) else None) ≡ Some at → (at.source ≡ f.source) × (at.sent ≡ f.sent)
    by true came = (sym (ap (λ (o : Option Flight). elim o [ Some g ↦ g.source | None ↦ at.source ]) came), sym (ap (λ (o : Option Flight). elim o [ Some g ↦ g.sent | None ↦ at.sent ]) came))
    by false came = cc

-- ---- at every moment

-- what a pass leaves of it, and what is kept if a frame is at the host then
pub record DriveWent {M : Type 0} (view : M → MediumView) (before : DriveView M) (base : List Entry) (r s : RingView M) : Type 0 where
  pub left : StaysMildFor start.Status view r.drive s.drive
  pub on : (f : Flight) → s.books.lent ≡ Some f → DriveMild before base s

left_twice : (old mid new : ℕ) → StatusLeft start.Status old mid → StatusLeft start.Status mid new → StatusLeft start.Status old new
left_twice old mid new first (inr none) = inr none
left_twice old mid new (inl one) (inl same) = inl (same ∙ one)
left_twice old mid new (inr none) (inl same) = inr (same ∙ none)

pub left_so : {M : Type 0} (view : M → MediumView) (before : DriveView M) (base : List Entry) (r : RingView M) (w : DriveView M) → DriveSo before base r → StaysMildFor start.Status view r.drive w → DriveLeft before w
left_so view before base r w so stays = record {
  medium = stays.medium ∙ so.medium;
  status = left_twice (status_of before.state) (status_of r.drive.state) (status_of w.state) (tells_left (status_of before.state) (reported_by (length (devices_of r)) (drive_party r) so.entries) (status_of r.drive.state) so.told) stays.status;
}

pub left_stays : {M : Type 0} (view : M → MediumView) (v w : DriveView M) → StaysSo v w → StaysMildFor start.Status view v w
left_stays view v w stays = record { status = inl stays.status; medium = stays.medium; mild = stays.mild }

-- if the drive's byte is under way
abbrev pub TellsOnWay : {M : Type 0} → RingView M → Type 0
TellsOnWay s = (f : Flight) → (s.books.kept ≡ Some f) ⊎ (s.books.lent ≡ Some f) → f.source ≡ drive_party s → byte_of f.sent ≡ status_byte_of (status_of s.drive.state)

module _ {M : Type 0} (before : DriveView M) (base : List Entry) (r s : RingView M) (old : DriveMild before base r) (many : length (devices_of s) ≡ length (devices_of r)) (party : drive_party s ≡ drive_party r) where
  -- after these entries more
  pub goes_so : (e : List Entry) → s.books.log ≡ r.books.log ++ e → s.drive.medium ≡ r.drive.medium → IsMildFor start.Status s.drive.state → s.drive.state.interface.roles.listens ≡ false
      → ReportsStatus (status_of before.state) (reported_by (length (devices_of r)) (drive_party r) (old.so.entries ++ e)) (status_of s.drive.state) → TellsOnWay s → DriveMild before base s
  goes_so e log medium mild deaf told way = record {
    so = record {
      entries = old.so.entries ++ e;
      log = log ∙ ap (λ log. log ++ e) old.so.log ∙ append_assoc base old.so.entries e;
      deaf = deaf;
      medium = medium ∙ old.so.medium;
      told =
          subst (λ k. ReportsStatus (status_of before.state) (reported_by k (drive_party s) (old.so.entries ++ e)) (status_of s.drive.state)) (sym many)
          (subst (λ q. ReportsStatus (status_of before.state) (reported_by (length (devices_of r)) q (old.so.entries ++ e)) (status_of s.drive.state)) (sym party) told);
      under_way = way;
    };
    mild = mild;
  }

  -- if they reported nothing of the drive
  pub stays_so : (e : List Entry) → s.books.log ≡ r.books.log ++ e → StaysSo r.drive s.drive → reported_by (length (devices_of r)) (drive_party r) (old.so.entries ++ e) ≡ reported_by (length (devices_of r)) (drive_party r) old.so.entries → TellsOnWay s → DriveMild before base s
  stays_so e log stays same way =
      goes_so e log stays.medium stays.mild (stays.deaf old.so.deaf)
      (subst (λ bytes. ReportsStatus (status_of before.state) bytes (status_of s.drive.state)) (sym same) (subst (ReportsStatus (status_of before.state) (reported_by (length (devices_of r)) (drive_party r) old.so.entries)) (sym stays.status) old.so.told)) way

-- a frame of the second controller is at the host, and nothing is kept
pub own_way : {M : Type 0} (s : RingView M) (f : Flight) → s.books.kept ≡ None → s.books.lent ≡ Some f → f.source ≢ drive_party s → TellsOnWay s
own_way s f none lent other g (inl kept) mine = let clash = sym none ∙ kept in cc
own_way s f none lent other g (inr stands) mine = absurd (other (ap (λ (o : Option Flight). elim o [ Some h ↦ h.source | None ↦ f.source ]) (sym lent ∙ stands) ∙ mine))

-- the frame that went out is there
pub stands_out : {M : Type 0} (r s : RingView M) (e : List Entry) (out : Flight) (kept : Option Flight) (answer : Arrival) → GoesOut (going_on r) e out kept answer s → (f : Flight) → s.books.lent ≡ Some f
    → (s.books.log ≡ r.books.log ++ e) × (s.books.kept ≡ kept) × (f.source ≡ out.source) × (f.sent ≡ out.sent)
stands_out r s e out kept answer goes f lent = ⊎_elim
    (λ there.
    let keeps = hit_keeps _ out there.at there.came in
    let same : f ≡ there.at = ap (λ o. elim o [ Some g ↦ g | None ↦ f ]) (sym lent ∙ there.lent_is) in
    (there.log_is, there.kept_is, ap (λ (f : Flight). f.source) same ∙ keeps.0, ap (λ (f : Flight). f.sent) same ∙ keeps.1))
    (λ not. let clash = sym lent ∙ not.0.lent_is in cc)
    goes.1
