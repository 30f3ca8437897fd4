-- A lend, from the ring on which the log was emptied: what its log is, what it left of the loop, and that this is a step of a run.
use Rattle.std.proofs.Common.{◌≡◌, ◌≢◌, ◌≤◌, ⊎_elim, inl, inr, ◌+◌, ◌-◌, ◌++◌, ◌&&◌, ◌==◌, ◌∙◌, ℕ, suc, Bool, true, false, not, List, [], ◌∷◌, length, Option, Some, None, is_some, map, refl, sym, ap, ap₂, subst, arith, append-nil, length-append}
use Rattle.std.specs.Prelude.{sum_by}
use Rattle.std.specs.List.{All, list_all}
use Rattle.std.proofs.lemmas.Bool.{and_parts, ne_eqb}
use Rattle.il_frames.specs.declared.entry.Entry.{Entry}
use Rattle.il_ports.specs.Media.{MediumView}
use Rattle.il_device.specs.State.{DeviceState}
use Rattle.il_device.specs.Roles.{is_own}
use Rattle.il_drive.specs.State.{device_of, status_of}
use Rattle.il_drive.specs.Steps.{IsStill}
use Rattle.il_guest.specs.Rounds.{addresses}
use Rattle.loop_model.specs.Effect.{ends_as}
use Rattle.loop_model.specs.Exchanges.{Reading, is_piece}
use Rattle.loop_model.specs.Leading.{controller_after}
use Rattle.loop_model.specs.Reach.{links_of, met}
use Rattle.loop_model.specs.Roles.{are_numbered, is_at_most_one, talkers}
use Rattle.loop_model.proofs.LeadingLaws.{controller_after-append, controller_after-no_lend, has_no_lend-reading}
use Rattle.loop_model.proofs.ReachLaws.{met-split}
use Rattle.il_ring.specs.Fates.{IsByPlan}
use Rattle.il_guest.specs.State.{GuestState}
use Rattle.il_ring.specs.Guests.{GuestMind, guest_mind, last_asked}
use Rattle.il_ring.specs.Lends.{is_lend, lend_entries, reports_own}
use Rattle.il_ring.specs.Outcomes.{HearsNothing, met_between}
use Rattle.il_ring.specs.Plans.{hops_of}
use Rattle.il_ring.specs.Rings.{RingView, IsRing, devices_of, drive_party, roles_of}
use Rattle.il_ring.specs.Statuses.{ReportsStatus, answers_always, reported_by}
use Rattle.il_ring.proofs.Faults.{risen_by_later}
use Rattle.il_ring.proofs.HostFronts.{is_from_host, told_by_after_host}
use Rattle.il_ring.proofs.LendLaws.{lend_returned}
use Rattle.il_control.specs.Calls.{IsIdle}
use Rattle.il_control.specs.Lent.{LendBroken, LendMade, Lends, asked_on, controller_at, last_at, last_of}
use Rattle.il_control.proofs.Calls.{hears_then}
use Rattle.il_control.proofs.LentReached.{met_since, risen_up}
use Rattle.il_record.specs.Came.{CameBy}
use Rattle.il_record.specs.Runs.{Interrupted, address_asks}
use Rattle.il_record.specs.Talks.{all_entries}
use Rattle.il_record.proofs.StoreStarts.{still_of}
use Rattle.il_script.specs.declared.reply.Reply.{Reply}
use Rattle.il_script.specs.declared.reply.Reply.TheVariants as reply
use Rattle.il_script.specs.declared.reply.Code.TheVariants as code
use Rattle.host_model.specs.Requests.{Asks, Lend}
use Rattle.host_model.specs.LoopStates.{LoopState, addresses_asked, device_count, drive_at, last_address, ring_of}
use Rattle.host_model.specs.HostStates.{log_room}
use Rattle.host_model.specs.Courses.{addressed_first, addresses_due, keeps_to}
use Rattle.host_model.specs.Next.{BoxedBecome, DeviceBehind, MayBeTold}
use Rattle.host_model.specs.Replies.{guest_lines, if_taker}
use Rattle.host_model.specs.RingStates.{loop_on}
use Rattle.host_model.specs.Steps.{Acts, Event, IsLendOf, Lent, Replied, is_frame_fault, takes_back_first}
use Rattle.host_model.proofs.Addressed.{addressed_first_alone}
use Rattle.host_model.proofs.Fronts.{addressed_back}
use Rattle.host_model.proofs.RingStates.{count_on, ring_on}
use Rattle.host_model.proofs.Steps.{boxed_then}
use Rattle.il_host.proofs.CommandLogs.{met_none}
use Rattle.il_host.proofs.CommandTravels.{event_by, event_on, travels_came}
use Rattle.il_host.proofs.Devices.{boxed_first}
use Rattle.il_host.proofs.Images.{KeepsMedium, came_images, same_images}
use Rattle.il_host.proofs.Keeping.{Keeps, keeps_asked}
use Rattle.il_host.proofs.LendTravels.{Went, some_device, travels_went, went_came, went_crossings, went_lent, went_none, went_then}
use Rattle.il_host.proofs.LoopEvents.{Readies, keeps_interrupted, meets_addressing}
use Rattle.il_host.proofs.LoopNext.{Still, loop_interrupted_next, ready_still}
use Rattle.il_host.proofs.LoopReady.{ReadyBroke}
use Rattle.il_host.proofs.LoopReplied.{LeavesOnTape, loop_fault_replied, loop_refusal_replied, loop_replied}
use Rattle.il_host.proofs.LoopRuns.{still_tape}
use Rattle.il_host.proofs.Sounding.{replied_sounding, travels_sounding}
use Rattle.il_host.specs.Texts.{found_lines}
use Rattle.il_host.proofs.StatusEvents.{ready_leaves}
use Rattle.il_host.proofs.VolumeTravels.{WentBy, went_begun, went_by_plan, went_plan, went_room}

-- ---- flags

and_false : (b : Bool) → false ≡ (b && false)
and_false true = refl
and_false false = refl

-- ---- the addressing before it

-- the log of a loop that was ready or not, after `ready`
pub record FrontSo {M : Type 0} (was whole : Bool) (r m : RingView M) : Type 0 where
  pub front : List Entry
  pub reading : Reading (ring_of (loop_on r)) front
  pub addressed : keeps_to (addressed_first (loop_on r) was []) reading.pieces ≡ true
  pub ends : ends_as whole reading.pieces ≡ true
  pub log : m.books.log ≡ front

module _ {M : Type 0} (view : M → MediumView) (r : RingView M) (empty : r.books.log ≡ []) where
  front_kept : (was whole : Bool) (m : RingView M) → Keeps view whole (addressed_first (loop_on r) was []) r m → FrontSo was whole r m
  front_kept was whole m keeps =
      let came = keeps.came.came in
      record {
        front = all_entries came.pieces;
        reading = record { pieces = came.pieces; legal = ap (λ l. list_all (is_piece l) came.pieces) (ring_on r) ∙ came.talked.legal; entries = refl };
        addressed = keeps.keeps;
        ends = came.talked.ends;
        log = came.talked.adds.log ∙ ap (λ log. log ++ all_entries came.pieces) empty;
      }

  pub front_ready : (was : Bool) (m : RingView M) → Readies view was r m → FrontSo was true r m
  front_ready true m ready = record {
    front = [];
    reading = record { pieces = []; legal = refl; entries = refl };
    addressed = refl;
    ends = refl;
    log = ap (λ (m : RingView M). m.books.log) ready.0 ∙ empty;
  }
  front_ready false m ready = front_kept false true m (keeps_asked view true address_asks (addresses_due (loop_on r)) r m ready.1.came (meets_addressing r))

  pub front_broke : (s : RingView M) → ReadyBroke view r s → FrontSo false false r s
  front_broke s broke = front_kept false false s (keeps_interrupted view [] r s broke.interrupted)

  -- the frames of it
  pub went_ready : (was : Bool) (m : RingView M) (ready : Readies view was r m) → IsIdle m → Went r m (front_ready was m ready).front
  unfolding front_ready front_kept
  went_ready true m ready idle =
      subst (λ (m : RingView M). Went r m []) (sym ready.0)
      (went_none r (subst (λ (r : RingView M). is_at_most_one (talkers (roles_of (devices_of r))) ≡ true) ready.0 (ap is_at_most_one idle.silent)))
  went_ready false m ready idle = went_came view r m (keeps_asked view true address_asks (addresses_due (loop_on r)) r m ready.1.came (meets_addressing r)).came.came

  -- it leaves control with the host, and no planned hop was met
  pub met_ready : (was : Bool) (m : RingView M) → Readies view was r m → met_between r m ≡ []
  met_ready true m ready = subst (λ (m : RingView M). met_between r m ≡ []) (sym ready.0) (met_none (hops_of r.books.plan) r.books.crossings)
  met_ready false m ready = ready.1.came.units.came.talked.met

-- the controller is idle then
pub ready_idle : {M : Type 0} (view : M → MediumView) (was : Bool) (r m : RingView M) → Readies view was r m → IsIdle m
ready_idle view true r m ready = subst IsIdle (sym ready.0) ready.1
ready_idle view false r m ready = ready.1.idle

-- it stayed as it was, or exchanges came
pub ready_went : {M : Type 0} (view : M → MediumView) (was : Bool) (r m : RingView M) → Readies view was r m → WentBy view r m
ready_went view true r m ready = inl ready.0
ready_went view false r m ready = inr (true, ready.1.came.units.came)

-- its count of crossings did not fall
ready_up : {M : Type 0} (view : M → MediumView) (was : Bool) (r m : RingView M) → IsRing r → Readies view was r m → r.books.crossings ≤ m.books.crossings
ready_up {M} view true r m ring ready = let same = ap (λ (m : RingView M). m.books.crossings) ready.0 in omega (arith, same)
ready_up view false r m ring ready = let adds = ready.1.came.units.came.talked.adds in risen_up adds.links r.books.crossings m.books.crossings ring.crossings adds.crossings

module _ {M : Type 0} (view : M → MediumView) (was : Bool) (r m : RingView M) (ready : Readies view was r m) where
  ready_plan : m.books.plan ≡ r.books.plan
  ready_plan = went_plan view r m (ready_went view was r m ready)

  ready_begun : m.books.begun ≡ r.books.begun
  ready_begun = went_begun view r m (ready_went view was r m ready)

  ready_room : m.books.room ≡ r.books.room
  ready_room = went_room view r m (ready_went view was r m ready)

pub front_controls : {M : Type 0} (was whole : Bool) (r m : RingView M) (so : FrontSo was whole r m) → controller_after 0 so.front ≡ 0
front_controls was whole r m so = controller_after-no_lend so.front (has_no_lend-reading (ring_of (loop_on r)) so.front so.reading)

-- where the loop was not ready the host takes control first
front_first : {M : Type 0} (whole : Bool) (r m : RingView M) (was : Bool) → was ≡ false → (so : FrontSo was whole r m) (more : List Entry) → takes_back_first (so.front ++ more) ≡ true
front_first whole r m was off so more =
    by so.front (ap takes_back_first so.reading.entries ∙ addressed_back (loop_on r) [] so.reading.pieces
    (subst (λ was. keeps_to (addressed_first (loop_on r) was []) so.reading.pieces ≡ true) off so.addressed))
  where
    by : (front : List Entry) → takes_back_first front ≡ true → takes_back_first (front ++ more) ≡ true
    by [] back = cc
    by (e ∷ front) back = back

-- ---- the last address

-- the last of these devices has the address that is due there
last_numbered : (k : ℕ) (ds : List DeviceState) → are_numbered k (map (λ d. d.roles) ds) ≡ true → 1 ≤ length ds → last_at (k + length ds - 1) ds ≡ true
last_numbered k [] numbered some = absurd (omega (arith, some))
last_numbered k (d ∷ []) numbered some =
    let here = (and_parts (is_own d.roles.address k) true numbered).0 in
    let same : k + 1 - 1 ≡ k = omega arith in
    ap (is_own d.roles.address) same ∙ here
last_numbered k (d ∷ e ∷ ds) numbered some =
    let rest = (and_parts (is_own d.roles.address k) (are_numbered (suc k) (map (λ d. d.roles) (e ∷ ds))) numbered).1 in
    let same : k + length (d ∷ e ∷ ds) - 1 ≡ suc k + length (e ∷ ds) - 1 = omega arith in
    ap (λ a. last_at a (d ∷ e ∷ ds)) same ∙ last_numbered (suc k) (e ∷ ds) rest (omega arith)

-- numbered devices after others are numbered on
numbered_behind : (k : ℕ) (ds es : List DeviceState) → are_numbered k (map (λ d. d.roles) (ds ++ es)) ≡ true → are_numbered (k + length ds) (map (λ d. d.roles) es) ≡ true
numbered_behind k [] es numbered = let same : k + 0 ≡ k = omega arith in ap (λ j. are_numbered j (map (λ d. d.roles) es)) same ∙ numbered
numbered_behind k (d ∷ ds) es numbered =
    let rest = (and_parts (is_own d.roles.address k) (are_numbered (suc k) (map (λ d. d.roles) (ds ++ es))) numbered).1 in
    let same : k + length (d ∷ ds) ≡ suc k + length ds = omega arith in
    ap (λ j. are_numbered j (map (λ d. d.roles) es)) same ∙ numbered_behind (suc k) ds es rest

-- on an idle ring a second controller, which is the last device, has the last address
pub stands_last : {M : Type 0} (m : RingView M) → IsIdle m → (is_some m.guest ≡ true → 1 ≤ length m.after) → controller_at (length (devices_of m)) m ≡ is_some m.guest
stands_last m idle last = by (is_some m.guest) last
  where
    by : (there : Bool) → (there ≡ true → 1 ≤ length m.after) → (there && last_at (length (devices_of m)) m.after) ≡ there
    by false last = refl
    by true last =
        let all = length-append m.before (device_of m.drive.state ∷ m.after) in
        let some = last refl in
        let numbered = numbered_behind 1 m.before (device_of m.drive.state ∷ m.after) idle.numbered in
        let after = (and_parts (is_own (device_of m.drive.state).roles.address (1 + length m.before)) (are_numbered (suc (1 + length m.before)) (map (λ d. d.roles) m.after)) numbered).1 in
        let place : length (devices_of m) ≡ suc (1 + length m.before) + length m.after - 1 = omega (arith, all) in
        ap (λ a. last_at a m.after) place ∙ last_numbered (suc (1 + length m.before)) m.after after some

-- ---- the event

asked_same : (guest : Option GuestMind) (k : ℕ) → addresses (Some k) (last_of guest) ≡ addresses (Some k) (last_address (last_asked guest))
asked_same None k = refl
asked_same (Some mind) k = refl

guest_there : (guest : Option GuestMind) → is_some guest ≡ is_some (last_asked guest)
guest_there None = refl
guest_there (Some mind) = refl

-- the status is told, or as it was
told_or_not : (before : ℕ) (told : List ℕ) (now : ℕ) → ReportsStatus before told now → MayBeTold before now
told_or_not before [] now so = inr so
told_or_not before (byte ∷ more) now so = inl so.2

-- The loop was ready or addressed on the ring r, whose log was empty, and is m then; the lend made it s.
module _ {M : Type 0} (view : M → MediumView) (frames : ℕ) (was sound : Bool) (r m s : RingView M) (empty : r.books.log ≡ []) (begins : r.books.begun ≡ r.books.crossings) (ring : IsRing r)
    (ready : Readies view was r m) (idle : IsIdle m) (last : is_some m.guest ≡ true → 1 ≤ length m.after) (whole : Bool) (lends : Lends (length (devices_of m)) frames whole m s) where
  abbrev z : LoopState
  z = loop_on r

  abbrev front : FrontSo was true r m
  front = front_ready view r empty was m ready

  went_first : Went r m front.front
  went_first = went_ready view r empty was m ready idle

  -- the entries, in the words of the loop before
  count_is : length (devices_of m) ≡ device_count z
  count_is = went_first.size ∙ sym (count_on r)

  guest_is : last_asked m.guest ≡ last_asked r.guest
  guest_is = went_first.guest

  asked_is : asked_on m ≡ addresses_asked z
  asked_is = asked_same m.guest (length (devices_of m)) ∙ ap (λ k. addresses (Some k) (last_address (last_asked m.guest))) count_is
      ∙ ap (λ guest. addresses (Some (device_count z)) (last_address guest)) guest_is

  abbrev lend_log : List Entry
  lend_log = lend_entries (device_count z) (addresses_asked z) lends.lend

  entries_are : lend_entries (length (devices_of m)) (asked_on m) lends.lend ≡ lend_log
  entries_are = ap (λ k. lend_entries k (asked_on m) lends.lend) count_is ∙ ap (λ asked. lend_entries (device_count z) asked lends.lend) asked_is

  log_is : s.books.log ≡ front.front ++ lend_log
  log_is = lends.log ∙ ap (λ log. log ++ lend_entries (length (devices_of m)) (asked_on m) lends.lend) front.log ∙ ap (λ more. front.front ++ more) entries_are

  went : Went r s (front.front ++ lend_log)
  went = went_then r m s front.front lend_log went_first (front_controls was true r m front) (subst (λ es. Went m s es) entries_are (went_lent (length (devices_of m)) frames whole m s lends))

  plan_is : s.books.plan ≡ r.books.plan
  plan_is = lends.kept.plan ∙ ready_plan view was r m ready

  begun_is : s.books.begun ≡ r.books.crossings
  begun_is = lends.kept.begun ∙ ready_begun view was r m ready ∙ begins

  room_is : s.books.room ≡ r.books.room
  room_is = lends.kept.room ∙ ready_room view was r m ready

  by_plan_is : IsRing s → All (IsByPlan r.books.plan r.books.crossings s.books.crossings) s.books.log
  by_plan_is ring =
      subst (λ n. All (IsByPlan r.books.plan n s.books.crossings) s.books.log) begun_is
      (subst (λ plan. All (IsByPlan plan s.books.begun s.books.crossings) s.books.log) plan_is ring.told.entries)

  -- what it is a lend of
  lend_of : (answer : Reply) → whole ≡ not (is_frame_fault answer) → IsLendOf z frames answer lends.lend
  lend_of answer ends =
      let there : controller_at (length (devices_of m)) m ≡ is_some z.guest = stands_last m idle last ∙ guest_there m.guest ∙ ap is_some guest_is in
      record {
        is = ap (λ k. is_lend k (addresses_asked z) frames lends.lend) (sym count_is) ∙ ap (λ asked. is_lend (length (devices_of m)) asked frames lends.lend) (sym asked_is) ∙ lends.is;
        own = ap (λ asked. reports_own asked lends.lend) (sym asked_is) ∙ lends.own;
        address = lends.address ∙ count_is;
        whole = lends.whole_is ∙ ends;
        taken = λ taken. sym there ∙ lends.taker taken;
        refused = λ back. sym there ∙ lends.refused back;
        answered = ap (answers_always (device_count z) (drive_at z) None) (sym entries_are)
            ∙ ap (λ k. answers_always k (drive_at z) None (lend_entries (length (devices_of m)) (asked_on m) lends.lend)) (sym count_is)
            ∙ ap (λ q. answers_always (length (devices_of m)) q None (lend_entries (length (devices_of m)) (asked_on m) lends.lend)) (sym (ap (λ n. n + 1) went_first.before))
            ∙ lends.answered;
      }

  -- no device heard anything
  devices_behind : (answer : Reply) → BoxedBecome (DeviceBehind (Asks (Lend frames)) answer z) z (loop_on s)
  devices_behind answer =
      boxed_then Still (λ party d e. HearsNothing d e) (DeviceBehind (Asks (Lend frames)) answer z)
      (λ party d e f first more. let both = hears_then d e f first.nothing more in record { accessory = both.accessory; hears = both; service = λ is. cc })
      z (loop_on m) (loop_on s) (ready_still view was r m ready)
      (boxed_first HearsNothing (λ party d e. HearsNothing d e) m s lends.kept.before lends.kept.unheard (λ party d e h. h))

  -- it counts for the crossings
  counted : (r.books.crossings ≤ m.books.crossings) × (m.books.crossings ≤ s.books.crossings)
  counted =
      let first = went_first.crossings in
      let up = risen_by_later (sum_by (links_of (length (devices_of r))) front.front) r.books.crossings ring.crossings in
      let more = lends.crossings in
      let later = risen_by_later lends.links m.books.crossings idle.free.ring.crossings in
      (omega (arith, first, up), omega (arith, more, later))

  -- what all lends have in common; the medium stays
  module _ (answer : Reply) (ends : whole ≡ not (is_frame_fault answer)) (same : s.drive.medium ≡ m.drive.medium) (after : IsRing s) (short : length s.books.log ≤ log_room (view r.drive.medium).record_count) where
    still_medium : s.drive.medium ≡ r.drive.medium
    still_medium = same ∙ (ready_leaves view was r m ready).medium

    pub lent_still : IsStill (view r.drive.medium) (view s.drive.medium)
    lent_still = still_of view r s still_medium

    abbrev lent_event : Event
    lent_event = event_by view (Asks (Lend frames)) answer was whole sound false r s

    -- all but whether a hop was met, and the drive's status
    lent_log : (is_frame_fault answer ≡ true → met_between r s ≢ []) → (z.guest ≡ None → is_frame_fault answer ≡ false → met_between r s ≡ [])
        → (is_frame_fault answer ≡ false → ReportsStatus z.status (reported_by (device_count z) (drive_at z) s.books.log) (status_of s.drive.state)) → Lent (r.books.plan) frames lent_event
    lent_log cause untaken told = record {
      front = front.front;
      reading = front.reading;
      addressed = front.addressed;
      lent = Some lends.lend;
      ends = front.ends;
      log = log_is;
      lends = lend_of answer ends;
      begun = λ whole. refl;
      cause = cause;
      untaken = untaken;
      unmet = λ begun. subst (λ n. met (hops_of r.books.plan) r.books.crossings n ≡ []) (went_crossings r m front.front went_first) (met_ready view r empty was m ready);
      faults = ap (λ m. (view m).faults) still_medium;
      told = told;
    }

    lent_step : Replied lent_event → MayBeTold z.status (status_of s.drive.state) → Lent (r.books.plan) frames lent_event → Acts (r.books.plan) lent_event
    lent_step replied status lent = record {
      replied = replied;
      next = record { devices = devices_behind answer; status = status };
      travels = travels_went view (Asks (Lend frames)) answer was whole sound false r s (front.front ++ lend_log) log_is went short;
      heard = λ other. let clash : true ≡ false = other in cc;
      exchanged = λ other. let clash : true ≡ false = other in cc;
      lent = λ count is. subst (λ count. Lent (r.books.plan) count lent_event) (frames_same count is) lent;
      by_plan = by_plan_is after;
      ready = λ sends. ends;
      controls = λ on.
          ap (controller_after 0) log_is ∙ controller_after-append 0 front.front lend_log
          ∙ ap (λ c. controller_after c lend_log) (front_controls was true r m front)
          ∙ lend_returned (device_count z) (ap (λ k. k == 0) (sym count_is) ∙ some_device m) (addresses_asked z) lends.lend (lends.whole_is ∙ on);
      clears = λ sends off. clears off;
      sound = λ of. cc;
      unsound = λ other sends. and_false sound;
      still = λ none. cc;
    }
      where
        frames_same : (count : ℕ) → Asks (Lend frames) ≡ Asks (Lend count) → frames ≡ count
        frames_same count is = cc

        clears : was ≡ false → takes_back_first s.books.log ≡ true
        clears off = ap takes_back_first log_is ∙ front_first true r m was off front lend_log

-- what it did, on the ring on which its log was emptied; the log keeps to the room of the ring
pub record LendRan {M : Type 0} (view : M → MediumView) (frames : ℕ) (answer : Reply) (was is sound : Bool) (r s : RingView M) : Type 0 where
  pub acts : Acts (r.books.plan) (event_by view (Asks (Lend frames)) answer was is sound false r s)
  pub still : IsStill (view r.drive.medium) (view s.drive.medium)
  pub plan : s.books.plan ≡ r.books.plan
  pub room : s.books.room ≡ r.books.room
  pub images : KeepsMedium (view r.drive.medium) (view s.drive.medium)

-- a second controller took control, or nobody did
abbrev pub taker_reply : Bool → Reply
taker_reply true = reply.Ok
taker_reply false = reply.No code.NoTaker

abbrev pub Shortens : {M : Type 0} → (M → MediumView) → RingView M → RingView M → Type 0
Shortens view r s = s.books.room ≡ r.books.room → length s.books.log ≤ log_room (view r.drive.medium).record_count

-- ---- whole lends

module _ {M : Type 0} (view : M → MediumView) (frames : ℕ) (was sound : Bool) (r m s : RingView M) (empty : r.books.log ≡ []) (begins : r.books.begun ≡ r.books.crossings) (ring : IsRing r)
    (ready : Readies view was r m) (idle : IsIdle m) (last : is_some m.guest ≡ true → 1 ≤ length m.after) where
  abbrev event_of : Bool → Reply → Event
  event_of is answer = event_by view (Asks (Lend frames)) answer was is sound false r s

  -- the drive told its status so, in the words of the whole log
  told_so : (es : List Entry) → s.books.log ≡ (front_ready view r empty was m ready).front ++ es → ReportsStatus (status_of m.drive.state) (reported_by (length (devices_of m)) (drive_party m) es) (status_of s.drive.state)
      → ReportsStatus (status_of r.drive.state) (reported_by (device_count (loop_on r)) (drive_at (loop_on r)) s.books.log) (status_of s.drive.state)
  told_so es logged so =
      let front = front_ready view r empty was m ready in
      let hosts = ap (list_all is_from_host) front.reading.entries ∙ addressed_first_alone (loop_on r) was front.reading.pieces front.addressed in
      let went = went_ready view r empty was m ready idle in
      let party : drive_party m ≡ drive_at (loop_on r) = ap (λ n. n + 1) went.before in
      let many : length (devices_of m) ≡ device_count (loop_on r) = went.size ∙ sym (count_on r) in
      let other : (0 == drive_at (loop_on r)) ≡ false = ne_eqb 0 (drive_at (loop_on r)) (λ none. omega (arith, none)) in
      let same : reported_by (length (devices_of m)) (drive_party m) es ≡ reported_by (device_count (loop_on r)) (drive_at (loop_on r)) s.books.log =
      ap (λ k. reported_by k (drive_party m) es) many ∙ ap (λ q. reported_by (device_count (loop_on r)) q es) party
      ∙ sym (told_by_after_host (device_count (loop_on r)) (drive_at (loop_on r)) front.front es hosts other)
      ∙ ap (reported_by (device_count (loop_on r)) (drive_at (loop_on r))) (sym logged) in
      subst (λ before. ReportsStatus before (reported_by (device_count (loop_on r)) (drive_at (loop_on r)) s.books.log) (status_of s.drive.state)) (ready_leaves view was r m ready).status
      (subst (λ told. ReportsStatus (status_of m.drive.state) told (status_of s.drive.state)) same so)

  -- the reply is that of the command
  taker_is : (taken : Bool) → taken ≡ controller_at (length (devices_of m)) m → is_some (last_asked r.guest) ≡ taken
  taker_is taken stands =
      ap is_some (sym (went_ready view r empty was m ready idle).guest) ∙ sym (guest_there m.guest) ∙ sym (stands_last m idle last) ∙ sym stands

  reply_is : (guest : Option ℕ) (taken : Bool) → is_some guest ≡ taken → taker_reply taken ≡ if_taker guest
  reply_is None false is = refl
  reply_is (Some n) true is = refl
  reply_is _ _ is = cc

  no_fault : (taken : Bool) → is_frame_fault (taker_reply taken) ≡ false
  no_fault true = refl
  no_fault false = refl

  pub made_step : (taken : Bool) → LendMade (length (devices_of m)) frames taken m s → Shortens view r s → LendRan view frames (taker_reply taken) was true sound r s
  made_step taken made shortens =
      let lends = made.lends in
      let room = lends.kept.room ∙ ready_room view was r m ready in
      let short = shortens room in
      let answer = taker_reply taken in
      let whole : true ≡ not (is_frame_fault answer) = ap not (sym (no_fault taken)) in
      let same = made.drive.medium in
      let after = made.idle.free.ring in
      let still = lent_still view frames was sound r m s empty begins ring ready idle last true lends answer whole same after short in
      let step = lent_step view frames was sound r m s empty begins ring ready idle last true lends answer whole same after short in
      let log = lent_log view frames was sound r m s empty begins ring ready idle last true lends answer whole same after short in
      let told = told_so (lend_entries (length (devices_of m)) (asked_on m) lends.lend)
      (lends.log ∙ ap (λ log. log ++ lend_entries (length (devices_of m)) (asked_on m) lends.lend) (front_ready view r empty was m ready).log) made.drive.told in
      record {
        acts = step (replied taken made.stands (still_tape view r s still)) (told_or_not (status_of r.drive.state) _ (status_of s.drive.state) told)
            (log (λ fault. let clash : true ≡ false = sym fault ∙ no_fault taken in cc)
            (λ none fine. untaken taken (taken_none taken made.stands none) made)
            (λ fine. told));
        still = still;
        plan = lends.kept.plan ∙ ready_plan view was r m ready;
        room = room;
        images = same_images view r.drive.medium s.drive.medium (same ∙ (ready_leaves view was r m ready).medium);
      }
    where
      taken_none : (taken : Bool) → taken ≡ controller_at (length (devices_of m)) m → last_asked r.guest ≡ None → taken ≡ false
      taken_none taken stands none = sym (taker_is taken stands) ∙ ap is_some none

      untaken : (taken : Bool) → taken ≡ false → LendMade (length (devices_of m)) frames taken m s → met_between r s ≡ []
      untaken taken is made =
          let count = counted view frames was sound r m s empty begins ring ready idle last true made.lends in
          (met-split (hops_of r.books.plan) r.books.crossings m.books.crossings s.books.crossings count.0 count.1).1
          (met_ready view r empty was m ready, subst (λ plan. met (hops_of plan) m.books.crossings s.books.crossings ≡ []) (ready_plan view was r m ready) (made.met is))

      replied : (taken : Bool) → taken ≡ controller_at (length (devices_of m)) m → LeavesOnTape view r s → Replied (event_of true (taker_reply taken))
      replied true stands leaves = replied_sounding (event_on view (Asks (Lend frames)) reply.Ok was true r s) sound false (loop_replied view (Asks (Lend frames)) tt was true r s leaves (reply_is (last_asked r.guest) true (taker_is true stands)))
      replied false stands leaves =
          replied_sounding (event_on view (Asks (Lend frames)) (reply.No code.NoTaker) was true r s) sound false
          (loop_refusal_replied view (Asks (Lend frames)) tt was true r s leaves code.NoTaker (reply_is (last_asked r.guest) false (taker_is false stands)))

  -- what the log tells is told of the addresses that are asked
  pub found_told : LendMade (length (devices_of m)) frames true m s → (guest : Option GuestState) → guest_mind guest ≡ s.guest
      → found_lines (length (devices_of m)) guest s.books.log ≡ guest_lines (device_count (loop_on r)) s.books.log (addresses_asked (loop_on r))
  found_told made guest is = by guest (ap (λ guest. last_asked guest) is ∙ made.lends.kept.last ∙ (went_ready view r empty was m ready idle).guest)
    where
      many : length (devices_of m) ≡ device_count (loop_on r)
      many = (went_ready view r empty was m ready idle).size ∙ sym (count_on r)

      by : (guest : Option GuestState) → last_asked (guest_mind guest) ≡ last_asked r.guest
          → found_lines (length (devices_of m)) guest s.books.log ≡ guest_lines (device_count (loop_on r)) s.books.log (addresses_asked (loop_on r))
      by (Some g) last = ap₂ (λ k last. guest_lines k s.books.log (addresses (Some k) last)) many (ap last_address last)
      by None last = ap (λ last. guest_lines (device_count (loop_on r)) s.books.log (addresses (Some (device_count (loop_on r))) (last_address last))) last

  -- it was broken off
  pub broken_step : LendBroken (length (devices_of m)) frames m s → Shortens view r s → LendRan view frames reply.FaultFrame was false sound r s
  broken_step broken shortens =
      let lends = broken.lends in
      let room = lends.kept.room ∙ ready_room view was r m ready in
      let short = shortens room in
      let same = broken.drive.medium in
      let after = broken.lost.free.ring in
      let still = lent_still view frames was sound r m s empty begins ring ready idle last false lends reply.FaultFrame refl same after short in
      let step = lent_step view frames was sound r m s empty begins ring ready idle last false lends reply.FaultFrame refl same after short in
      let log = lent_log view frames was sound r m s empty begins ring ready idle last false lends reply.FaultFrame refl same after short in
      let status = (ready_leaves view was r m ready).status in
      record {
        acts = step (replied_sounding (event_on view (Asks (Lend frames)) reply.FaultFrame was false r s) sound false (loop_fault_replied view (Asks (Lend frames)) tt was false r s (still_tape view r s still)))
            (⊎_elim (λ kept. inr (kept ∙ status)) (λ told. inl told) broken.drive.status)
            (log (λ fault. met_some broken) (λ none fine. let clash : true ≡ false = fine in cc) (λ fine. let clash : true ≡ false = fine in cc));
        still = still;
        plan = lends.kept.plan ∙ ready_plan view was r m ready;
        room = room;
        images = same_images view r.drive.medium s.drive.medium (same ∙ (ready_leaves view was r m ready).medium);
      }
    where
      met_some : LendBroken (length (devices_of m)) frames m s → met_between r s ≢ []
      met_some broken = met_since r m s (ready_plan view was r m ready) (ready_up view was r m ring ready) broken.met

-- ---- the lend did not begin

-- the addressing was broken off
pub unready_step : {M : Type 0} (view : M → MediumView) (frames : ℕ) (sound : Bool) (r s : RingView M) → r.books.log ≡ [] → ReadyBroke view r s → Shortens view r s
    → r.books.begun ≡ r.books.crossings → IsRing r → LendRan view frames reply.FaultFrame false false sound r s
unready_step {M} view frames sound r s empty broke shortens begins ring =
    record { acts = step; still = cut.drive.still; plan = came.talked.adds.plan; room = came.talked.adds.room; images = came_images view false r s came }
  where
    cut : Interrupted view address_asks (drive_party r) r s
    cut = broke.interrupted

    front : FrontSo false false r s
    front = front_broke view r empty s broke

    came : CameBy view false r s
    came = cut.came.units.came

    event_is : Event
    event_is = event_by view (Asks (Lend frames)) reply.FaultFrame false false sound false r s

    lent : Lent (r.books.plan) frames event_is
    lent = record {
      front = front.front;
      reading = front.reading;
      addressed = front.addressed;
      lent = None;
      ends = front.ends;
      log = front.log ∙ sym (append-nil front.front);
      lends = tt;
      begun = λ fine. cc;
      cause = λ fault. came.talked.met;
      untaken = λ none fine. cc;
      unmet = λ begun. cc;
      faults = ap (λ m. (view m).faults) broke.leaves.medium;
      told = λ fine. cc;
    }

    step : Acts (r.books.plan) event_is
    step = record {
      replied = replied_sounding (event_on view (Asks (Lend frames)) reply.FaultFrame false false r s) sound false (loop_fault_replied view (Asks (Lend frames)) tt false false r s (still_tape view r s cut.drive.still));
      next = loop_interrupted_next view (Asks (Lend frames)) r s tt cut broke.leaves;
      travels = travels_sounding (event_on view (Asks (Lend frames)) reply.FaultFrame false false r s) sound false (travels_came view (Asks (Lend frames)) reply.FaultFrame false false false r s empty came (shortens came.talked.adds.room));
      heard = λ other. let clash : true ≡ false = other in cc;
      exchanged = λ other. let clash : true ≡ false = other in cc;
      lent = λ count is. let same : frames ≡ count = cc in subst (λ count. Lent (r.books.plan) count event_is) same lent;
      by_plan = went_by_plan view r s (inr (false, came)) ring begins;
      ready = λ sends. refl;
      controls = λ on. let clash : false ≡ true = on in cc;
      clears = λ sends off. ap takes_back_first (front.log ∙ sym (append-nil front.front)) ∙ front_first false r s false refl front [];
      sound = λ of. cc;
      unsound = λ other sends. and_false sound;
      still = λ none. cc;
    }
