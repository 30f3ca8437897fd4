-- The commands that ask the devices of the loop, from the moment at which their log is emptied to their reply, are steps of a run.
use Rattle.std.proofs.Common.{◌≡◌, ◌∙◌, ◌≤◌, ◌&&◌, ⊎_elim, inr, ℕ, Bool, is_some, true, false, suc, List, length, Option, Some, None, option_map, refl, sym, ap, subst, not}
use Rattle.std.specs.Prelude.{Ok, Err}
use Rattle.std.specs.List.{position}
use Rattle.il_frames.specs.declared.entry.Entry.{Entry}
use Rattle.il_frames.specs.declared.frame.Frame.{Frame}
use Rattle.il_poll.specs.Service.{status_byte_of}
use Rattle.lif_model.proofs.Moments.{started, still}
use Rattle.il_ports.specs.Media.{MediumView}
use Rattle.il_ports.specs.Stores.{Begun, IsQuiet, IsStore, RecordsView}
use Rattle.il_ports.specs.declared.records.Trouble.{Trouble}
use Rattle.il_ports.specs.declared.records.Trouble.TheVariants as trouble
use Rattle.loop_model.specs.Polls.{polled_along}
use Rattle.il_ring.specs.Rings.{IsRing, RingView, devices_of, drive_party, has_id, printer_id}
use Rattle.il_control.specs.Calls.{IsIdle, idy}
use Rattle.il_record.specs.declared.records.Since.{Since}
use Rattle.il_record.specs.declared.records.Since.TheVariants as since
use Rattle.il_record.specs.Asks.{up_to, CameAsked}
use Rattle.il_control.specs.Lent.{LendBroken, LendMade}
use Rattle.il_record.specs.Called.{Called}
use Rattle.il_record.specs.LoopCalls.{AllNamed, LeftAlone, NotSaid, Said, id_asks}
use Rattle.il_record.specs.LoopStores.{Addresses, LoopView, NotAddressed, StandsBy, view_of}
use Rattle.il_record.proofs.StoreStarts.{got_ready, stands_free}
use Rattle.il_record.specs.Polls.{HasPolled, PollBroke, poll_asks, Released, PollsOn}
use Rattle.il_record.specs.Runs.{NotPolled, Polled}
use Rattle.il_script.specs.declared.reply.Reply.{Reply}
use Rattle.il_script.specs.declared.reply.Reply.TheVariants as reply
use Rattle.il_script.specs.declared.reply.Code.TheVariants as code
use Rattle.host_model.specs.Requests.{Asks, Devices, Item, Poll, Say, Status, is_of_volume, Lend, is_lending}
use Rattle.host_model.specs.LoopStates.{LoopState, addresses_asked, all_ids, device_count, poll_frame, printer_at, status_byte}
use Rattle.host_model.specs.Replies.{guest_lines, reply_of}
use Rattle.il_guest.specs.State.{GuestState}
use Rattle.il_ring.specs.Guests.{guest_mind}
use Rattle.il_drive.specs.Steps.{IsStill}
use Rattle.il_host.specs.Texts.{found_lines}
use Rattle.host_model.specs.HostStates.{HostState, log_room}
use Rattle.host_model.specs.RingStates.{loop_on, state_on}
use Rattle.host_model.specs.Courses.{Due, course_of}
use Rattle.host_model.specs.Steps.{Event, Exchanged, Acts, event, is_frame_fault, leaves_sound}
use Rattle.host_model.proofs.Fronts.{clears_course, controls_still}
use Rattle.host_model.proofs.Steps.{is_lend_or}
use Rattle.host_model.specs.Stops.{MayBeLeft, StopsLeave}
use Rattle.host_model.proofs.Growing.{left_at_first}
use Rattle.il_host.specs.Standings.{HasDriveId, IsHostRing, event_at, state_at}
use Rattle.il_host.proofs.CommandTravels.{event_by, event_on, travels_came}
use Rattle.il_host.proofs.LoopCallsEvents.{ready_frame, ready_ids}
use Rattle.il_host.proofs.LoopEvents.{IsOfLoop, Readies, not_of_volume}
use Rattle.il_host.proofs.LendSteps.{LendRan, broken_step, found_told, made_step, ready_idle, taker_reply, unready_step}
use Rattle.il_host.proofs.LoopReady.{ReadyBroke, ready_err, ready_ok}
use Rattle.il_host.proofs.LoopReplied.{sends_frames}
use Rattle.il_host.proofs.LoopRuns.{Outcome, Ran, broken, course_there, done, ran_devices, ran_no_printer, ran_poll, ran_status, ran_status_broken, ran_unnamed, ran_unready}
use Rattle.il_host.proofs.SayRuns.{ran_not_said, ran_said}
use Rattle.il_host.proofs.Sounding.{exchanged_sounding, replied_sounding, travels_sounding}
use Rattle.il_host.proofs.StatusEvents.{ready_leaves}
use Rattle.il_host.proofs.VolumeCommands.{KeepsRing, keeps_by, keeps_emptied, keeps_rings, short_at}
use Rattle.il_host.proofs.VolumePerforms.{Performs}
use Rattle.il_host.proofs.VolumeReplied.{IsSeenAs, quiet_rings, quiet_then, seen_as, told_tape}
use Rattle.il_host.proofs.VolumeStarts.{Emptied, emptied_ring, volume_begun}
use Rattle.il_host.proofs.VolumeTravels.{went_by_plan}
use Rattle.il_host.proofs.Devices.{boxed_to}
use Rattle.il_host.proofs.LoopNext.{Still}

-- ---- parts of a step

and_true : (b : Bool) → b ≡ (b && true)
and_true true = refl
and_true false = refl

and_false : (b : Bool) → false ≡ (b && false)
and_false true = refl
and_false false = refl

not_volume : (item : Item) → IsOfLoop item → is_of_volume item ≡ false
not_volume (Asks Devices) of_loop = refl
not_volume (Asks Status) of_loop = refl
not_volume (Asks Poll) of_loop = refl
not_volume (Asks (Say bytes)) of_loop = refl
not_volume (Asks (Lend frames)) of_loop = refl
not_volume _ of_loop = absurd of_loop

-- which leaves a sound store sound, where it is no lend
sound_left : (item : Item) (answered : Reply) → is_lending item ≡ false → leaves_sound item answered ≡ not (is_frame_fault answered)
sound_left (Asks (Lend frames)) answered other = let clash : true ≡ false = other in cc
sound_left _ answered other = refl

-- Where no record changes and no time goes by, a stop leaves the tape as it was.
pub quiet_stops : {S : Type 0} (item : Item) (answered : Reply) (log : List Entry) (s t : HostState) (v w : RecordsView S) → IsSeenAs s v → IsStore v → IsQuiet v w
    → StopsLeave (event item answered log s t) v.moment w.moment v.left_since w.left_since
quiet_stops item answered log s t v w before store quiet told =
    let tape = told_tape s.tape told in
    still v.moment v.moment w.moment v.left_since v.left_since w.left_since (MayBeLeft item s) quiet.moment quiet.since
    (started v.moment v.left_since (MayBeLeft item s) tape.0 (λ c left. store.leaves_only tape.0 c (sym before.tape ∙ tape.1) left) (left_at_first item s tape.0 tape.1))

-- ---- the laws

-- The store was o, and was emptied as a.
module _ {M S : Type 0} (view : M → MediumView) (seen : S → RingView M) (o a : S) (old begun : LoopView M)
    (valid : (view_of view seen o old).valid) (here : seen o ≡ old.ring) (there : seen a ≡ begun.ring) (empties : Begun (view_of view seen o old) (view_of view seen a begun)) where
  emptied : Emptied view old begun
  emptied = volume_begun view seen o a old begun valid here there empties

  loop_is : loop_on begun.ring ≡ (state_at view old).loop
  loop_is = ap (λ (s : HostState). s.loop) emptied.state

  ring_here : IsRing begun.ring
  ring_here = (stands_free begun.ready begun.ring begun.sound since.Unbroken emptied.stands).ring

  -- the drive keeps its accessory ID as the log is emptied
  id_is : HasDriveId old.ring → HasDriveId begun.ring
  id_is has = subst (λ (s : RingView M). HasDriveId s) (sym (emptied_ring view seen o a old begun here there empties)) has

  -- It is q in the end.
  module _ (q : S) (new : LoopView M) (store : IsStore (view_of view seen o old)) (room : IsHostRing view old.ring) (left : 1 ≤ (view_of view seen q new).calls_left) where
    abbrev was : Bool
    was = begun.ready

    abbrev r : RingView M
    r = begun.ring

    abbrev s : RingView M
    s = new.ring

    -- from what it did with the ring, on which its log began empty
    pub step_performs : (item : Item) (answered : Reply) (is : Bool) → new.ready ≡ is → IsStill (view r.drive.medium) (view s.drive.medium) → KeepsRing view begun new
        → Acts (r.books.plan) (event_by view item answered was is begun.sound new.sound r s) → Performs view seen o q item answered old new
    step_performs item answered is at same keeps step = record {
      step = subst (λ plan. Acts plan (event_at view item answered old new)) emptied.plan
          (subst (λ (s : HostState). Acts (begun.ring.books.plan) (event_from s)) emptied.state
          (subst (λ is. Acts (r.books.plan) (event_by view item answered was is begun.sound new.sound r s)) (sym at) step));
      stops = quiet_stops item answered (new.ring.books.log) (state_at view old) (state_at view new) (view_of view seen o old) (view_of view seen q new) (seen_as view seen o old) store
          (quiet_then (view_of view seen o old) (view_of view seen a begun) (view_of view seen q new) empties.quiet (quiet_rings view seen a q begun new same).quiet);
      keeps = keeps_emptied view old begun new emptied keeps;
    }
      where
        event_from : HostState → Event
        event_from s = event item answered (new.ring.books.log) s (state_at view new)

    -- the room of its log
    pub short_behind : s.books.room ≡ r.books.room → length s.books.log ≤ log_room (view r.drive.medium).record_count
    short_behind same = subst (λ n. length s.books.log ≤ n) (same ∙ emptied.room room) (short_at view seen q new left)

    -- by exchanges
    ran_performs : (item : Item) (answered : Reply) (is : Bool) → IsOfLoop item → is_lending item ≡ false → new.ready ≡ is → new.sound ≡ (begun.sound && is) → Ran view item answered was is r s
        → Performs view seen o q item answered old new
    ran_performs item answered is of_loop other_item at sound ran =
        step_performs item answered is at ran.still (keeps_rings view begun new (inr (is, ran.came)) ran.still.stays_in.size (emptied.room room)) step
      where
        exchanged : Exchanged (r.books.plan) (event_by view item answered was is begun.sound new.sound r s)
        exchanged = exchanged_sounding (event_on view item answered was is r s) begun.sound new.sound (r.books.plan) (not_volume item of_loop) ran.exchanged

        course : (course : List Due) × (course_of item (loop_on r) ≡ Some course)
        course = course_there item (loop_on r) of_loop other_item

        step : Acts (r.books.plan) (event_by view item answered was is begun.sound new.sound r s)
        step = record {
          replied = replied_sounding (event_on view item answered was is r s) begun.sound new.sound ran.replied;
          next = ran.next;
          travels = travels_sounding (event_on view item answered was is r s) begun.sound new.sound (travels_came view item answered was is is r s ran.empty ran.came (short_behind ran.came.talked.adds.room));
          heard = λ other. ran.heard;
          exchanged = λ other. exchanged;
          lent = λ frames lends. let clash : true ≡ false = sym (ap is_lending lends) ∙ other_item in cc;
          by_plan = went_by_plan view r s (inr (is, ran.came)) ring_here emptied.begins;
          ready = λ frames. ran.ends;
          controls = λ on. controls_still (r.books.plan) (event_by view item answered was is begun.sound new.sound r s) exchanged;
          clears = λ frames. clears_course (r.books.plan) (event_by view item answered was is begun.sound new.sound r s) exchanged course.0 course.1;
          sound = λ of. absurd (not_of_volume item of_loop of);
          unsound = λ other frames. sound ∙ ap (λ b. begun.sound && b) (ran.ends ∙ sym (sound_left item answered other_item));
          still = λ none. let clash : true ≡ false = sym (sends_frames item of_loop) ∙ none in cc;
        }

    -- The loop was not ready, and its addressing was broken off: this is the reply to every command that asks the devices.
    pub loop_unready : (T : Type 0) (item : Item) (e : Trouble) → IsOfLoop item → Addresses {T = T} view begun.ready begun new (Err e) → (e ≡ trouble.Frame) × Performs view seen o q item reply.FaultFrame old new
    loop_unready T item e of_loop addresses = (broke.1, ⊎_elim (λ is. subst (λ item. Performs view seen o q item reply.FaultFrame old new) (sym is.1) (lent is.0)) asked (is_lend_or item))
      where
        broke : (begun.ready ≡ false) × (e ≡ trouble.Frame) × NotAddressed view begun new
        broke = ready_err T view e begun.ready begun new addresses

        not : NotAddressed view begun new
        not = broke.2

        lost_by : ReadyBroke view r s
        lost_by = record { interrupted = not.interrupted; leaves = not.leaves }

        lost : new.ready ≡ false
        lost = ap (λ (l : LoopView M). l.ready) not.left

        unsound : new.sound ≡ false
        unsound = ap (λ (l : LoopView M). l.sound) not.left

        asked : is_lending item ≡ false → Performs view seen o q item reply.FaultFrame old new
        asked other =
            ran_performs item reply.FaultFrame false of_loop other lost (unsound ∙ and_false begun.sound)
            (subst (λ was. Ran view item reply.FaultFrame was false r s) (sym broke.0) (ran_unready view item r s of_loop other emptied.log lost_by))

        lent : (frames : ℕ) → Performs view seen o q (Asks (Lend frames)) reply.FaultFrame old new
        lent frames =
            let ran = subst (λ was. LendRan view frames reply.FaultFrame was false begun.sound r s) (sym broke.0)
            (unready_step view frames begun.sound r s emptied.log lost_by short_behind emptied.begins ring_here) in
            step_performs (Asks (Lend frames)) reply.FaultFrame false lost ran.still (keeps_by view begun new ran.plan ran.room ran.images ran.still.stays_in.size (emptied.room room))
            (subst (λ sound. Acts (r.books.plan) (event_by view (Asks (Lend frames)) reply.FaultFrame was false begun.sound sound r s)) (sym unsound) ran.acts)

  -- The loop is ready, and the store is mid.
  module _ {T : Type 0} (x : T) (mid : LoopView M) (addresses : Addresses view begun.ready begun mid (Ok x)) where
    ready : Readies view begun.ready begun.ring mid.ring
    ready = ready_ok view x begun.ready begun.sound since.Unbroken begun mid emptied.stands addresses

    sound_ready : mid.sound ≡ begun.sound
    sound_ready = (got_ready view begun mid x (subst (λ log. StandsBy begun.ready begun.ring begun.sound log) (sym emptied.unbroken) emptied.stands) addresses).sound

    -- The devices told these accessory IDs.
    pub ids_told : (on : Since) (ids : List (Option ℕ)) (named : LoopView M) → HasDriveId old.ring → Called (λ r s. AllNamed view ids r s) true mid.sound on mid named → ids ≡ all_ids (state_at view old).loop
    ids_told on ids named has did =
        did.did.ids_are ∙ ready_ids view begun.ready begun.ring mid.ring ready (id_is has) ∙ ap (λ (z : LoopState). all_ids z) loop_is

    -- The printer is the first of them that is one.
    pub printer_told : (on : Since) (ids : List (Option ℕ)) (named : LoopView M) → HasDriveId old.ring → Called (λ r s. AllNamed view ids r s) true mid.sound on mid named
        → option_map suc (position (has_id printer_id) ids) ≡ printer_at (state_at view old).loop
    printer_told on ids named has did = ap (λ (ids : List (Option ℕ)). option_map suc (position (has_id printer_id) ids)) (ids_told on ids named has did)

    -- It is q in the end.
    module _ (q : S) (new : LoopView M) (store : IsStore (view_of view seen o old)) (room : IsHostRing view old.ring) (left : 1 ≤ (view_of view seen q new).calls_left) where
      -- one call, whole or broken off
      called : (item : Item) (answered : Reply) (P : RingView M → RingView M → Type 0) (is sound : Bool) (log : Since) → IsOfLoop item → is_lending item ≡ false → Called P is sound log mid new → sound ≡ (begun.sound && is) → Ran view item answered begun.ready is begun.ring new.ring
          → Performs view seen o q item answered old new
      called item answered P is sound log of_loop other did so ran = ran_performs q new store room left item answered is of_loop other (ap (λ (l : LoopView M). l.ready) did.left) (ap (λ (l : LoopView M). l.sound) did.left ∙ so) ran

      done_by : (item : Item) → IsOfLoop item → reply.Ok ≡ reply_of item (state_on view begun.ready false begun.ring) → Outcome view item reply.Ok begun.ready true begun.ring new.ring
      done_by item of_loop right = done view item of_loop begun.ready begun.ring new.ring emptied.log right

      broken_by : (item : Item) → IsOfLoop item → Outcome view item reply.FaultFrame begun.ready false begun.ring new.ring
      broken_by item of_loop = broken view item of_loop begun.ready begun.ring new.ring emptied.log

      whole : mid.sound ≡ (begun.sound && true)
      whole = sound_ready ∙ and_true begun.sound

      -- ---- the status

      -- The drive told its status.
      pub status_performs : (on : Since) (byte : ℕ) → Called (λ r s. Polled view (drive_party r) byte r s) true mid.sound on mid new
          → (byte ≡ status_byte (state_at view old).loop) × Performs view seen o q (Asks Status) reply.Ok old new
      status_performs on byte did = (
        did.did.drive.byte_is ∙ ap status_byte_of (ready_leaves view begun.ready begun.ring mid.ring ready).status ∙ ap (λ (z : LoopState). status_byte z) loop_is,
        called (Asks Status) reply.Ok _ true _ on tt refl did whole (ran_status view begun.ready begun.ring mid.ring new.ring emptied.log ready byte did.did),
      )

      -- That was broken off.
      pub status_broke : (off : Since) (e : Trouble) → (e ≡ trouble.Frame) × Called (λ r s. NotPolled view (drive_party r) r s) false false off mid new → (e ≡ trouble.Frame) × Performs view seen o q (Asks Status) reply.FaultFrame old new
      status_broke off e did = (did.0, called (Asks Status) reply.FaultFrame _ false _ off tt refl did.1 (and_false begun.sound) (ran_status_broken view begun.ready begun.ring mid.ring new.ring emptied.log ready did.1.did))

      -- ---- accessory IDs

      -- Each device told its accessory ID, if it has one.
      pub devices_performs : (on : Since) (ids : List (Option ℕ)) → HasDriveId old.ring → Called (λ r s. AllNamed view ids r s) true mid.sound on mid new
          → (ids ≡ all_ids (state_at view old).loop) × Performs view seen o q (Asks Devices) reply.Ok old new
      devices_performs on ids has did = (
        ids_told on ids new has did,
        called (Asks Devices) reply.Ok _ true _ on tt refl did whole (ran_devices view begun.ready begun.ring mid.ring new.ring emptied.log ready (id_is has) reply.Ok true (done_by (Asks Devices) tt refl) did.did.left),
      )

      -- That was broken off.
      pub devices_broke : (off : Since) (e : Trouble) → HasDriveId old.ring → (e ≡ trouble.Frame) × Called (λ r s. LeftAlone view false (up_to (id_asks (devices_of r)) (length (devices_of r))) r s) false false off mid new
          → (e ≡ trouble.Frame) × Performs view seen o q (Asks Devices) reply.FaultFrame old new
      devices_broke off e has did =
          (did.0, called (Asks Devices) reply.FaultFrame _ false _ off tt refl did.1 (and_false begun.sound) (ran_devices view begun.ready begun.ring mid.ring new.ring emptied.log ready (id_is has) reply.FaultFrame false (broken_by (Asks Devices) tt) did.1.did))

      -- ---- the parallel poll

      -- The devices answered.
      pub poll_performs : (on : Since) (f : Frame) → Called (HasPolled view f) true mid.sound on mid new
          → (f ≡ poll_frame (state_at view old).loop) × Performs view seen o q (Asks Poll) reply.Ok old new
      poll_performs on f did =
          let polled = did.did in (
            polled.frame ∙ ready_frame view begun.ready begun.ring mid.ring ready ∙ ap (λ (z : LoopState). poll_frame z) loop_is,
            called (Asks Poll) reply.Ok _ true _ on tt refl did whole (ran_poll view begun.ready begun.ring mid.ring new.ring emptied.log ready reply.Ok true (done_by (Asks Poll) tt refl)
                (subst (λ f. CameAsked view true (poll_asks (length (devices_of mid.ring)) f) mid.ring new.ring) polled.frame polled.came) polled.drive polled.unheard
                (boxed_to Released Still mid.ring new.ring polled.came.units.came.talked.adds.before polled.released (λ party d e is. record { nothing = is.nothing; wants = is.wants }))),
          )

      -- That was broken off.
      pub poll_broke : (off : Since) (n : ℕ) (e : Trouble) → (e ≡ trouble.Frame) × Called (λ r s. PollBroke view n (poll_asks (length (devices_of r)) (polled_along 1 (devices_of r) idy)) r s) false false off mid new
          → (e ≡ trouble.Frame) × Performs view seen o q (Asks Poll) reply.FaultFrame old new
      poll_broke off n e did =
          let broke = did.1.did in (
            did.0,
            called (Asks Poll) reply.FaultFrame _ false _ off tt refl did.1 (and_false begun.sound) (ran_poll view begun.ready begun.ring mid.ring new.ring emptied.log ready reply.FaultFrame false (broken_by (Asks Poll) tt) broke.came broke.drive broke.unheard
                (boxed_to PollsOn Still mid.ring new.ring broke.came.units.came.talked.adds.before broke.devices (λ party d e is. record { nothing = is.nothing; wants = is.wants }))),
          )

      -- ---- bytes for the printer

      -- A device was asked for its accessory ID, and that was broken off.
      pub say_unnamed : (off : Since) (bytes : List ℕ) (e : Trouble) → HasDriveId old.ring → (e ≡ trouble.Frame) × Called (λ r s. LeftAlone view false (up_to (id_asks (devices_of r)) (length (devices_of r))) r s) false false off mid new
          → (e ≡ trouble.Frame) × Performs view seen o q (Asks (Say bytes)) reply.FaultFrame old new
      say_unnamed off bytes e has did =
          (did.0, called (Asks (Say bytes)) reply.FaultFrame _ false _ off tt refl did.1 (and_false begun.sound) (ran_unnamed view begun.ready begun.ring mid.ring new.ring emptied.log ready (id_is has) bytes did.1.did))

      -- No device is a printer.
      pub say_no_printer : (on : Since) (ids : List (Option ℕ)) (bytes : List ℕ) → HasDriveId old.ring → None ≡ printer_at (state_at view old).loop → Called (λ r s. AllNamed view ids r s) true mid.sound on mid new
          → Performs view seen o q (Asks (Say bytes)) (reply.No code.NoPrinter) old new
      say_no_printer on ids bytes has none did =
          called (Asks (Say bytes)) (reply.No code.NoPrinter) _ true _ on tt refl did whole (ran_no_printer view begun.ready begun.ring mid.ring new.ring emptied.log ready (id_is has) bytes (ap (λ (z : LoopState). printer_at z) loop_is ∙ sym none) did.did.left)

      -- The devices told their accessory IDs, and the first printer has this address.
      module _ (on : Since) (ids : List (Option ℕ)) (named : LoopView M) (first : Called (λ r s. AllNamed view ids r s) true mid.sound on mid named) (has : HasDriveId old.ring) (address : ℕ) (printer : Some address ≡ printer_at (state_at view old).loop)
          (bytes : List ℕ) where
        printer_here : printer_at (loop_on begun.ring) ≡ Some address
        printer_here = ap (λ (z : LoopState). printer_at z) loop_is ∙ sym printer

        -- The printer heard all bytes.
        pub say_performs : (more : Since) → Called (λ r s. Said view address bytes r s) true named.sound more named new → Performs view seen o q (Asks (Say bytes)) reply.Ok old new
        say_performs more did =
            ran_performs q new store room left (Asks (Say bytes)) reply.Ok true tt refl (ap (λ (l : LoopView M). l.ready) did.left) (ap (λ (l : LoopView M). l.sound) did.left ∙ ap (λ (l : LoopView M). l.sound) first.left ∙ sound_ready ∙ and_true begun.sound)
            (ran_said view begun.ready begun.ring mid.ring named.ring new.ring emptied.log ready address bytes printer_here (id_is has) ids first.did did.did)

        -- That was broken off.
        pub say_broke : (off : Since) (e : Trouble) → (e ≡ trouble.Frame) × Called (λ r s. NotSaid view address bytes r s) false false off named new
            → (e ≡ trouble.Frame) × Performs view seen o q (Asks (Say bytes)) reply.FaultFrame old new
        say_broke off e did = (
          did.0,
          ran_performs q new store room left (Asks (Say bytes)) reply.FaultFrame false tt refl (ap (λ (l : LoopView M). l.ready) did.1.left) (ap (λ (l : LoopView M). l.sound) did.1.left ∙ and_false begun.sound)
              (ran_not_said view begun.ready begun.ring mid.ring named.ring new.ring emptied.log ready address bytes printer_here (id_is has) ids first.did did.1.did),
        )

      -- ---- a lend

      -- from what it did with the ring
      lend_ran : (frames : ℕ) (answered : Reply) (is : Bool) → new.ready ≡ is → new.sound ≡ false → LendRan view frames answered begun.ready is begun.sound begun.ring new.ring → Performs view seen o q (Asks (Lend frames)) answered old new
      lend_ran frames answered is at off ran =
          step_performs q new store room left (Asks (Lend frames)) answered is at ran.still (keeps_by view begun new ran.plan ran.room ran.images ran.still.stays_in.size (emptied.room room))
          (subst (λ sound. Acts (begun.ring.books.plan) (event_by view (Asks (Lend frames)) answered begun.ready is begun.sound sound begun.ring new.ring)) (sym off) ran.acts)

      -- the last device has this address, and a second controller is the last device
      abbrev pub LendsBy : ℕ → Type 0
      LendsBy address = (address ≡ length (devices_of mid.ring)) × (is_some mid.ring.guest ≡ true → 1 ≤ length mid.ring.after)

      idle_mid : IsIdle mid.ring
      idle_mid = ready_idle view begun.ready begun.ring mid.ring ready

      -- a second controller took control, or nobody did
      pub lend_performs : (address frames : ℕ) (taken : Bool) → LendsBy address → Called (LendMade address frames taken) true false since.Mended mid new → Performs view seen o q (Asks (Lend frames)) (taker_reply taken) old new
      lend_performs address frames taken there did =
          lend_ran frames (taker_reply taken) true (ap (λ (l : LoopView M). l.ready) did.left) (ap (λ (l : LoopView M). l.sound) did.left)
          (made_step view frames begun.ready begun.sound begun.ring mid.ring new.ring emptied.log emptied.begins ring_here ready idle_mid there.1 taken
          (subst (λ a. LendMade a frames taken mid.ring new.ring) there.0 did.did) (short_behind q new store room left))

      -- it was broken off
      pub lend_broke : (address frames : ℕ) (e : Trouble) → LendsBy address → (e ≡ trouble.Frame) × Called (LendBroken address frames) false false since.Mended mid new → (e ≡ trouble.Frame) × Performs view seen o q (Asks (Lend frames)) reply.FaultFrame old new
      lend_broke address frames e there did = (
        did.0,
        lend_ran frames reply.FaultFrame false (ap (λ (l : LoopView M). l.ready) did.1.left) (ap (λ (l : LoopView M). l.sound) did.1.left)
            (broken_step view frames begun.ready begun.sound begun.ring mid.ring new.ring emptied.log emptied.begins ring_here ready idle_mid there.1
            (subst (λ a. LendBroken a frames mid.ring new.ring) there.0 did.1.did) (short_behind q new store room left)),
      )

      -- what the second controller has found
      pub lend_lines : (address frames : ℕ) → LendsBy address → Called (LendMade address frames true) true false since.Mended mid new → (guest : Option GuestState) → guest_mind guest ≡ new.ring.guest
          → found_lines address guest new.ring.books.log
          ≡ guest_lines (device_count (state_at view old).loop) (new.ring.books.log) (addresses_asked (state_at view old).loop)
      lend_lines address frames there did guest same =
          ap (λ a. found_lines a guest new.ring.books.log) there.0
          ∙ found_told view frames begun.ready begun.sound begun.ring mid.ring new.ring emptied.log emptied.begins ring_here ready idle_mid there.1
          (subst (λ a. LendMade a frames true mid.ring new.ring) there.0 did.did) guest same
          ∙ ap (λ (z : LoopState). guest_lines (device_count z) new.ring.books.log (addresses_asked z)) loop_is
