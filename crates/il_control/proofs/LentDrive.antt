-- The drive while a second controller polls: it keeps its medium, and its status is as it was or reported, from any place
-- of the rounds to the next.
use Rattle.std.proofs.Common.{◌≡◌, ◌≢◌, ◌∙◌, inl, inr, ⊎_elim, ◌≤◌, ◌+◌, ℕ, true, false, List, [], ◌∷◌, Option, Some, None, length, refl, sym, ap, subst, arith, length-append}
use Rattle.std.proofs.lemmas.Bool.{and_from, cases_lt}
use Rattle.il_frames.specs.declared.entry.Entry.{Entry}
use Rattle.il_frames.specs.declared.entry.Outcome.TheVariants as outcome
use Rattle.il_frames.specs.declared.frame.Frame.{Frame}
use Rattle.il_frames.specs.Frames.{byte_of, is_data}
use Rattle.il_frames.specs.Messages.{message_of}
use Rattle.il_frames.specs.NamedFrames.{entry, is_frame, is_ifc, nrd, rfc, unt}
use Rattle.il_poll.specs.Service.{status_byte_of}
use Rattle.il_device.specs.Passing.{is_plain}
use Rattle.il_device.specs.Takes.{eto}
use Rattle.il_ports.specs.Media.{MediumView}
use Rattle.il_drive.specs.declared.mode.Start.{Start}
use Rattle.il_drive.specs.declared.mode.Start.TheVariants as start
use Rattle.il_drive.specs.State.{DriveView, device_of, status_of}
use Rattle.il_drive.proofs.ExchangesStill.{deaf-ran}
use Rattle.loop_model.specs.Exchanges.{echoed, receive_front, returned}
use Rattle.il_guest.specs.declared.control.Command.{Command}
use Rattle.il_guest.specs.declared.control.Command.TheVariants as command
use Rattle.il_guest.specs.declared.control.Control.TheVariants as control
use Rattle.il_guest.specs.declared.control.Place.{Place}
use Rattle.il_guest.specs.declared.control.Place.TheVariants as place
use Rattle.il_guest.specs.Frames.{sst}
use Rattle.il_guest.specs.Steps.{IsRoundPlace, command_frame, command_then, control_after, expecting, sent_at}
use Rattle.il_guest.proofs.RoundLaws.{is_same-refl}
use Rattle.il_guest.proofs.SentLemmas.{command_says, message_of-command}
use Rattle.il_ring.specs.declared.plan.Arrival.{Arrival}
use Rattle.il_ring.specs.declared.flight.Flight.{Flight}
use Rattle.il_ring.specs.Flights.{sourced}
use Rattle.il_ring.specs.Lending.{IsControlled, going_on}
use Rattle.il_ring.specs.Lists.{Each}
use Rattle.il_ring.specs.Rings.{RingView, devices_of, drive_party}
use Rattle.il_ring.specs.Statuses.{reported_by, ReportsStatus}
use Rattle.il_ring.specs.Turned.{turned_flight}
use Rattle.il_ring.proofs.ControlledSteps.{IsOwn}
use Rattle.il_control.specs.Lent.{DriveLeft}
use Rattle.il_control.specs.Receives.{IsCalm, IsHolding}
use Rattle.il_control.proofs.LentBytes.{ByteAltered, ByteBack, ByteGone, NrdGone, NrdOn, byte_move, hold, hold_then, holds, holds_then, nrd_move}
use Rattle.il_control.proofs.LentCame.{AllQuiet, StaysSo, brought_quiet, data_quiet_frame, ended_status, plain_came, plain_message, plain_quiet_frame, plain_stays, quiet_frame, quiet_listens, quiet_mild, silent_stays, spoken_quiet, told_status}
use Rattle.il_control.proofs.LentMild.{DriveMild, DriveWent, TellsOnWay, broke_left, calm_silent, goes_so, left_so, left_stays, not_begun_left, not_took_left, other_silent, own_way, quiet_left, severed_left, stands_out, stays_so}
use Rattle.il_control.proofs.LentMoves.{MovedOn, MoveLost, others, others_then, plain_move}
use Rattle.il_control.proofs.LentPlaces.{AskedSince, command_plain, since_one}
use Rattle.il_control.proofs.LentRings.{own_ring}
use Rattle.il_control.proofs.LentRounds.{Passed, turned_same}
use Rattle.il_control.proofs.LentStarts.{NoStatus, StatusHeld, StartLostAt, StatusLost, rest, rest_then, start_move}
use Rattle.il_control.proofs.LentSteps.{GoesOut}
use Rattle.il_control.proofs.LentTelling.{byte_stands, held_stands, within}
use Rattle.il_control.proofs.LentReports.{tells_more, told_mine, told_one, told_other}
use Rattle.il_control.proofs.LentWalks.{Polling, StandsSo, Stays, front_of, stays}
use Rattle.il_ring.proofs.MessageKinds.{each_command}

then_own : (own : Option ℕ) (last : ℕ) (c : Command) → IsOwn (command_then own last c)
then_own own last command.Nop = tt
then_own own last (command.Unl a) = tt
then_own own last (command.Tad a) = tt
then_own own last (command.Unt a) = tt

command_other : (c : Command) → is_data (command_frame c) ≡ false
command_other = each_command (λ c. is_data (command_frame c) ≡ false) refl (λ a. refl) (λ a. refl) (λ a. refl)

command_no_eto : (c : Command) → is_frame (command_frame c) eto ≡ false
command_no_eto = each_command (λ c. is_frame (command_frame c) eto ≡ false) refl (λ a. refl) (λ a. refl) (λ a. refl)

said_other : (c : Command) → is_ifc (command_says c) ≡ false
said_other = each_command (λ c. is_ifc (command_says c) ≡ false) refl (λ a. refl) (λ a. refl) (λ a. refl)

said_plain : (c : Command) → plain_message (command_says c) ≡ true
said_plain = each_command (λ c. plain_message (command_says c) ≡ true) refl (λ a. refl) (λ a. refl) (λ a. refl)

module _ {M : Type 0} (view : M → MediumView) (k last : ℕ) (own : Option ℕ) (base : List Entry) (r s : RingView M) (arrived : ℕ) (answer : Arrival) (old : Polling view k last own base r arrived) (passed : Passed view r answer s) (controlled : IsControlled s) (before : DriveView M) (mild : DriveMild before base r) where
  abbrev Went : Type 0
  Went = DriveWent view before base r s

  abbrev n : ℕ
  n = length (devices_of r)

  abbrev q : ℕ
  q = drive_party r

  abbrev entries : List Entry
  entries = mild.so.entries

  many_some : 1 ≤ length (devices_of r)
  many_some =
      let all = length-append r.before (device_of r.drive.state ∷ r.after) in
      omega (arith, all)

  -- a frame of its own went round
  own_so : (held : Option Flight) (f : Frame) → r.books.lent ≡ Some (sourced k f) → Stays view k last own base r s arrived old answer held (sourced 0 f)
  own_so held f lent =
      stays view k last own base r s arrived answer held (sourced 0 f) old
      (passed held (sourced 0 f) (lent ∙ ap (λ k. Some (sourced k f)) (sym old.many)) many_some) controlled

  module _ (held : Option Flight) (g : Flight) (so : Stays view k last own base r s arrived old answer held g) where
    many : length (devices_of s) ≡ n
    many = so.many_then ∙ sym old.many

    party : drive_party s ≡ q
    party = ap (λ n. n + 1) so.two.before

    -- the drive is not the last party
    no_last : n ≢ drive_party s
    no_last same =
        let all = length-append s.before (device_of s.drive.state ∷ s.after) in
        let after = ap length so.two.after_then ∙ length-append so.two.boxed_then (so.two.h.device ∷ []) in
        omega (arith, same, all, after, many)

    -- a frame of its own goes out after this entry
    own_on : (e : Entry) (f : Frame) → is_frame e.frame eto ≡ false → GoesOut (going_on r) (e ∷ []) (sourced n f) None answer s → StaysSo r.drive s.drive → (h : Flight) → s.books.lent ≡ Some h → DriveMild before base s
    own_on e f no_eto goes kept h lent =
        let out = stands_out r s (e ∷ []) (sourced n f) None answer goes h lent in
        stays_so before base r s mild many party (e ∷ []) out.0 kept (told_one n q entries e no_eto)
        (own_way s h out.1 lent (λ same. no_last (sym out.2 ∙ same)))

  nothing_stands : s.books.lent ≡ None → (f : Flight) → s.books.lent ≡ Some f → DriveMild before base s
  nothing_stands none f stands = let clash = sym none ∙ stands in cc

  -- ---- a command, and its handshake

  module _ (f : Frame) (so : Stays view k last own base r s arrived old answer None (sourced 0 f)) where
    plain_went : (p : Place) → IsOwn p → r.books.kept ≡ None → is_plain (message_of f) ≡ true → is_data f ≡ false → is_ifc (message_of f) ≡ false → control_after so.two.g.device.roles.address so.two.g.last old.place f ≡ control.Rounds p
        → plain_message (message_of f) ≡ true → is_frame f eto ≡ false → Went
    plain_went p is kept plain other no_ifc next quiet no_eto = ⊎_elim
        (λ (on : MovedOn view r s f answer so.two p).
        let adds = on.whole.adds in
        let m = others view r s f answer so.two in
        let here = plain_stays view f adds.came adds.answers r.drive s.drive quiet (plain_came (length (devices_of m)) q 0 f (outcome.Back f) adds.came quiet (on.whole.brought refl)) mild.mild adds.drive in
        record {
          left = left_stays view r.drive s.drive here;
          on = own_on None (sourced 0 f) so (returned n f) (sent_at p) no_eto on.out here;
        })
        (λ (lost : MoveLost view r s f answer so.two). record {
          left =
              broke_left view (others view r s f answer so.two) (others_then view r s f answer so.two) (returned 0 f ∷ []) lost.broke
              (and_from (quiet_frame start.Status f) true (plain_quiet_frame f quiet) refl) refl mild.mild;
          on = nothing_stands lost.ends.lent_is;
        })
        (plain_move view r s f answer so.two old.controlled kept old.place p so.control_is is plain other no_ifc next)

  command_went : (c : Command) → old.place ≡ place.Command c → Went
  command_went c at =
      let stands = subst (λ p. StandsSo view k last own base p r old.boxed old.entries) at old.stands in
      let f = command_frame c in
      let so = own_so None f stands.2.lent_is in
      let says = message_of-command c (subst IsRoundPlace at old.range) in
      let next : control_after so.two.g.device.roles.address so.two.g.last old.place f ≡ control.Rounds (place.Ready c) =
      ap (λ p. control_after so.two.g.device.roles.address so.two.g.last p f) at ∙ ap (λ right. expecting right (place.Ready c)) (is_same-refl f) in
      plain_went f so (place.Ready c) tt stands.2.kept_is (ap is_plain says ∙ command_plain c) (command_other c) (ap is_ifc says ∙ said_other c) next (ap plain_message says ∙ said_plain c) (command_no_eto c)

  ready_went : (c : Command) → old.place ≡ place.Ready c → Went
  ready_went c at =
      let stands = subst (λ p. StandsSo view k last own base p r old.boxed old.entries) at old.stands in
      let so = own_so None rfc stands.2.lent_is in
      let p = command_then so.two.g.device.roles.address so.two.g.last c in
      let next : control_after so.two.g.device.roles.address so.two.g.last old.place rfc ≡ control.Rounds p = ap (λ p. control_after so.two.g.device.roles.address so.two.g.last p rfc) at in
      plain_went rfc so p (then_own so.two.g.device.roles.address so.two.g.last c) stands.2.kept_is refl refl refl next refl refl

  -- ---- SST

  module _ (a : ℕ) (at : old.place ≡ place.Start a) where
    start_stands : StandsSo view k last own base (place.Start a) r old.boxed old.entries
    start_stands = subst (λ p. StandsSo view k last own base p r old.boxed old.entries) at old.stands

    start_so : Stays view k last own base r s arrived old answer None (sourced 0 sst)
    start_so = own_so None sst start_stands.2.lent_is

    calm : Each IsCalm 1 (devices_of (rest view r s answer start_so.two))
    calm = subst (λ boxed. Each IsCalm 1 (front_of view k last own base r boxed)) start_so.boxed_is start_stands.2.quiet

    since : AskedSince (λ since. since ≡ receive_front 0 a None) (devices_of (rest view r s answer start_so.two))
    since = subst (λ boxed. AskedSince (λ since. since ≡ receive_front 0 a None) (front_of view k last own base r boxed)) start_so.boxed_is start_stands.2.since

    none_went : NoStatus view r s answer start_so.two a → Went
    none_went none =
        let adds = none.whole.adds in
        let m = rest view r s answer start_so.two in
        let here = plain_stays view sst adds.came adds.answers r.drive s.drive refl (plain_came (length (devices_of m)) q 0 sst (outcome.Back sst) adds.came refl (none.whole.brought refl)) mild.mild adds.drive in
        record {
          left = left_stays view r.drive s.drive here;
          on = own_on None (sourced 0 sst) start_so (returned n sst) unt refl none.out here;
        }

    held_went : StatusHeld view r s answer start_so.two a → Went
    held_went held =
        let began = held.began in
        let flight = began.now.flight in
        let p = flight.source in
        let added = began.added in
        let came = added.adds.came in
        let m = rest view r s answer start_so.two in
        let es : List Entry = entry 0 sst (outcome.Taken p) ∷ [] in
        let here : StaysSo r.drive s.drive = ⊎_elim
        (λ less. silent_stays view came added.adds.answers r.drive s.drive (λ what. spoken_quiet what came (added.far less)) (calm_silent m calm) mild.mild added.adds.drive)
        (λ on. plain_stays view sst came added.adds.answers r.drive s.drive refl (plain_came (length (devices_of m)) q 0 sst (outcome.Taken p) came refl (added.near on).0) mild.mild added.adds.drive)
        (cases_lt p q) in
        let tells : q ≡ p → byte_of flight.sent ≡ status_byte_of (status_of s.drive.state) = (λ same.
        let near = added.near (omega (arith, same)) in
        told_status view came added.adds.answers r.drive s.drive flight.sent (quiet_mild start.Status came (brought_quiet start.Status (length (devices_of m)) q es came refl near.0)) (near.1 same) began.now.data_frame mild.mild added.adds.drive) in
        record {
          left = left_stays view r.drive s.drive here;
          on = λ h lent.
              let out = stands_out r s (entry n sst (outcome.Taken p) ∷ []) (sourced n nrd) (Some flight) answer held.out h lent in
              stays_so before base r s mild (many None (sourced 0 sst) start_so) (party None (sourced 0 sst) start_so) (entry n sst (outcome.Taken p) ∷ []) out.0 here (told_one n q entries (entry n sst (outcome.Taken p)) refl)
              (way flight h out.1 lent out.2 tells);
        }
      where
        way : (flight h : Flight) → s.books.kept ≡ Some flight → s.books.lent ≡ Some h → h.source ≡ n → (q ≡ flight.source → byte_of flight.sent ≡ status_byte_of (status_of s.drive.state)) → TellsOnWay s
        way flight h kept lent source tells g (inl is) mine =
            let same : flight ≡ g = ap (λ (o : Option Flight). elim o [ Some f ↦ f | None ↦ flight ]) (sym kept ∙ is) in
            ap (λ (f : Flight). byte_of f.sent) (sym same) ∙ tells (sym (party None (sourced 0 sst) start_so) ∙ sym mine ∙ ap (λ (f : Flight). f.source) (sym same))
        way flight h kept lent source tells g (inr is) mine =
            let same : h ≡ g = ap (λ (o : Option Flight). elim o [ Some f ↦ f | None ↦ h ]) (sym lent ∙ is) in
            absurd (no_last None (sourced 0 sst) start_so (sym source ∙ ap (λ (f : Flight). f.source) same ∙ mine))

    start_went : Went
    start_went =
        let m = rest view r s answer start_so.two in
        let m_then = rest_then view r s answer start_so.two in
        ⊎_elim
        (λ on. ⊎_elim none_went held_went on)
        (λ off. ⊎_elim
        (λ (gone : StartLostAt view r s answer start_so.two). record { left = not_begun_left view m m_then gone.failed mild.mild; on = nothing_stands gone.ends.lent_is })
        (λ (lost : StatusLost view r s answer start_so.two). record { left = not_begun_left view m m_then lost.failed mild.mild; on = nothing_stands lost.ends.lent_is })
        off)
        (start_move view r s answer start_so.two old.controlled start_stands.2.kept_is a (start_so.control_is ∙ ap (λ p. control.Rounds p) at) calm (since_one a (devices_of m) (subst IsRoundPlace at old.range).1 since))

  -- ---- NRD

  module _ (a : ℕ) (d : Frame) (at : old.place ≡ place.Held a d) where
    abbrev kept_stands : StandsSo view k last own base (place.Held a d) r old.boxed old.entries
    kept_stands = held_stands view k last own base r s arrived answer a d old at

    abbrev byte : Flight
    byte = kept_stands.2.flight

    held_so : Stays view k last own base r s arrived old answer (Some byte) (sourced 0 nrd)
    held_so = own_so (Some byte) nrd kept_stands.2.lent_is

    holding : (h : IsHolding (holds view r s byte answer held_so.two)) × (h.flight ≡ byte)
    holding = subst (λ boxed. (h : IsHolding (own_ring boxed (Some byte) (going_on r))) × (h.flight ≡ byte)) held_so.boxed_is (kept_stands.2.holding, kept_stands.2.holding_is)

    nrd_on : NrdOn view r s byte answer held_so.two a d holding.0 → Went
    nrd_on on =
        let added = on.back.added in
        let came = added.adds.came in
        let m = holds view r s byte answer held_so.two in
        let p = holding.0.flight.source in
        let here : StaysSo r.drive s.drive = ⊎_elim
        (λ less. silent_stays view came added.adds.answers r.drive s.drive (λ what. spoken_quiet what came (added.far less)) (other_silent m p (Some holding.0.own) holding.0.talking (λ same. omega (arith, same, less)) mild.mild) mild.mild added.adds.drive)
        (λ near. plain_stays view nrd came added.adds.answers r.drive s.drive refl (plain_came (length (devices_of m)) q 0 nrd (outcome.Back nrd) came refl (added.near near).0) mild.mild added.adds.drive)
        (cases_lt p q) in
        record {
          left = left_stays view r.drive s.drive here;
          on = λ h lent.
              let out = stands_out r s (returned n nrd ∷ []) byte None answer on.out h lent in
              stays_so before base r s mild (many (Some byte) (sourced 0 nrd) held_so) (party (Some byte) (sourced 0 nrd) held_so) (returned n nrd ∷ []) out.0 here (told_one n q entries (returned n nrd) refl)
              (way h out.1 lent out.2 out.3 here.status);
        }
      where
        way : (h : Flight) → s.books.kept ≡ None → s.books.lent ≡ Some h → h.source ≡ byte.source → h.sent ≡ byte.sent → status_of s.drive.state ≡ status_of r.drive.state → TellsOnWay s
        way h kept lent source sent status g (inl is) mine = let clash = sym kept ∙ is in cc
        way h kept lent source sent status g (inr is) mine =
            let same : h ≡ g = ap (λ (o : Option Flight). elim o [ Some f ↦ f | None ↦ h ]) (sym lent ∙ is) in
            ap (λ (f : Flight). byte_of f.sent) (sym same) ∙ ap byte_of sent
            ∙ mild.so.under_way byte (inl kept_stands.2.kept_is) (sym source ∙ ap (λ (f : Flight). f.source) same ∙ mine ∙ party (Some byte) (sourced 0 nrd) held_so)
            ∙ ap status_byte_of (sym status)

    nrd_went : Went
    nrd_went = ⊎_elim nrd_on
        (λ (gone : NrdGone view r s byte answer held_so.two holding.0). record {
          left = not_took_left view (holds view r s byte answer held_so.two) holding.0 1 (holds_then view r s byte answer held_so.two) gone.not_took mild.mild;
          on = nothing_stands gone.ends.lent_is;
        })
        (nrd_move view r s byte answer held_so.two old.controlled kept_stands.2.kept_is a d (held_so.control_is ∙ ap (λ p. control.Rounds p) at) holding.0)

  -- ---- the byte

  module _ (a : ℕ) (d : Frame) (at : old.place ≡ place.Relayed a d) where
    abbrev there_stands : StandsSo view k last own base (place.Relayed a d) r old.boxed old.entries
    there_stands = byte_stands view k last own base r s arrived answer a d old at

    abbrev told : Flight
    told = there_stands.2.flight

    byte_so : Stays view k last own base r s arrived old answer None told
    byte_so =
        let on = within view k last own base r old.boxed old.device told old.after old.many there_stands.2.holding there_stands.2.holding_is in
        let lent : r.books.lent ≡ Some (turned_flight n told) = there_stands.2.lent_is ∙ ap (λ f. Some f) (sym (turned_same n told on.0)) in
        stays view k last own base r s arrived answer None told old (passed None told lent (omega (arith, on.1, old.many))) controlled

    holding₂ : (h : IsHolding (hold view r s told answer byte_so.two)) × (h.flight ≡ told) × (h.own.stopped ≡ true)
    holding₂ = subst (λ boxed. (h : IsHolding (own_ring boxed (Some told) (going_on r))) × (h.flight ≡ told) × (h.own.stopped ≡ true)) byte_so.boxed_is (there_stands.2.holding, there_stands.2.holding_is, there_stands.2.stopped)

    source : holding₂.0.flight.source ≡ told.source
    source = ap (λ (f : Flight). f.source) holding₂.1

    bytes : is_data told.sent ≡ true
    bytes = subst (λ (f : Flight). is_data f.sent ≡ true) holding₂.1 holding₂.0.data_frame

    module _ (back : ByteBack view r s told answer byte_so.two a holding₂.0) where
      abbrev came : List Frame
      came = back.ended.added.adds.came

      abbrev e : List Entry
      e = entry told.source told.sent (outcome.Back back.ended.back) ∷ entry told.source eto (outcome.Taken n) ∷ []

      quiet_near : (what : Start) → q ≤ holding₂.0.flight.source → AllQuiet what came
      quiet_near what near =
          brought_quiet what (length (devices_of (hold view r s told answer byte_so.two))) q
          (echoed holding₂.0.flight.source (record { sent = holding₂.0.flight.sent; back = back.ended.back }) ∷ entry holding₂.0.flight.source eto (outcome.Taken 0) ∷ []) came
          (and_from (quiet_frame what holding₂.0.flight.sent) true (data_quiet_frame what holding₂.0.flight.sent holding₂.0.data_frame) refl) (back.ended.added.near near).0

      -- that of another device
      other_back : holding₂.0.flight.source ≢ q → ((what : Start) → AllQuiet what came) → Went
      other_back other all =
          let m = hold view r s told answer byte_so.two in
          let here = silent_stays view came back.ended.added.adds.answers r.drive s.drive all (other_silent m holding₂.0.flight.source (Some holding₂.0.own) holding₂.0.talking other mild.mild) mild.mild back.ended.added.adds.drive in
          record {
            left = left_stays view r.drive s.drive here;
            on = λ h lent.
                let out = stands_out r s e (sourced n unt) None answer back.out h lent in
                stays_so before base r s mild (many None told byte_so) (party None told byte_so) e out.0 here (told_other n q entries told.source told.sent back.ended.back (λ same. other (source ∙ same)) bytes)
                (own_way s h out.1 lent (λ same. no_last None told byte_so (sym out.2 ∙ same)));
          }

      -- the drive's
      own_back : holding₂.0.flight.source ≡ q → Went
      own_back mine =
          let near = back.ended.added.near (omega (arith, mine)) in
          let all = quiet_near start.Status (omega (arith, mine)) in
          let adds = back.ended.added.adds in
          let left = quiet_left view came adds.answers r.drive s.drive all mild.mild adds.drive in
          let none = ended_status view came adds.answers r.drive s.drive (quiet_mild start.Status came all) (near.1 (sym mine)) mild.mild adds.drive in
          let tells = mild.so.under_way told (inr there_stands.2.lent_is) (sym source ∙ mine) in
          record {
            left = left;
            on = λ h lent.
                let out = stands_out r s e (sourced n unt) None answer back.out h lent in
                goes_so before base r s mild (many None told byte_so) (party None told byte_so) e out.0 left.medium left.mild (deaf-ran view came adds.answers r.drive s.drive mild.so.deaf (quiet_listens start.Status came all) adds.drive)
                (subst (λ bytes. ReportsStatus (status_of before.state) bytes (status_of s.drive.state)) (sym (told_mine n q entries told.source told.sent back.ended.back (sym source ∙ mine) bytes))
                (tells_more (status_of before.state) (reported_by n q entries) (status_of r.drive.state) (byte_of told.sent) (status_of s.drive.state) mild.so.told tells none))
                (own_way s h out.1 lent (λ same. no_last None told byte_so (sym out.2 ∙ same)));
          }

      byte_back : Went
      byte_back = ⊎_elim
          (λ less. other_back (λ same. omega (arith, same, less)) (λ what. spoken_quiet what came (back.ended.added.far less)))
          (λ near. ⊎_elim
          (λ less. other_back (λ same. omega (arith, same, less)) (λ what. quiet_near what near))
          (λ far. own_back (omega (arith, near, far)))
          (cases_lt q holding₂.0.flight.source))
          (cases_lt holding₂.0.flight.source q)

    byte_went : Went
    byte_went =
        let m = hold view r s told answer byte_so.two in
        let m_then = hold_then view r s told answer byte_so.two in
        ⊎_elim byte_back
        (λ off. ⊎_elim
        (λ (gone : ByteGone view r s told answer byte_so.two holding₂.0). record { left = severed_left view m holding₂.0 m_then gone.severed mild.mild; on = nothing_stands gone.ends.lent_is })
        (λ (gone : ByteAltered view r s told answer byte_so.two holding₂.0). record { left = severed_left view m holding₂.0 m_then gone.severed mild.mild; on = nothing_stands gone.ends.lent_is })
        off)
        (byte_move view r s told answer byte_so.two old.controlled there_stands.2.kept_is a d (byte_so.control_is ∙ ap (λ p. control.Rounds p) at) holding₂.0 holding₂.1 holding₂.2)

  -- ---- from any place

  by_place : (p : Place) → old.place ≡ p → Went
  by_place (place.Command c) at = command_went c at
  by_place (place.Ready c) at = ready_went c at
  by_place (place.Start a) at = start_went a at
  by_place (place.Held a d) at = nrd_went a d at
  by_place (place.Relayed a d) at = byte_went a d at

  -- a pass leaves the medium and the status, which may be reported; and if a frame is at the host all of it is kept
  pub drive_went : DriveWent view before base r s
  drive_went = by_place old.place refl

  pub drive_left : DriveLeft before s.drive
  drive_left = left_so view before base r s.drive mild.so drive_went.left
