-- What a lent ring added since it was lent, and which frame is under way: the sums of its passes, as its second controller polls.
use Rattle.std.proofs.Common.{◌≡◌, ◌∙◌, ◌<◌, ◌++◌, ◌==◌, ◌&&◌, ◌⊎◌, inl, inr, ⊎_elim, nat_lt, ℕ, Bool, true, false, not, flat_map, List, [], ◌∷◌, Option, Some, None, length, refl, sym, ap, subst, arith, append_assoc, length-append}
use Rattle.std.specs.Prelude.{if◌then◌else◌}
use Rattle.std.specs.List.{list_all}
use Rattle.std.proofs.lemmas.Bool.{and_from, and_parts, ne_eqb, not-true}
use Rattle.std.proofs.lemmas.List.{append_cancel_left}
use Rattle.std.proofs.lemmas.List.Folds.{list_all-append}
use Rattle.il_frames.specs.declared.entry.Entry.{Entry}
use Rattle.il_frames.specs.declared.entry.Outcome.{Outcome}
use Rattle.il_frames.specs.declared.entry.Outcome.TheVariants as outcome
use Rattle.il_frames.specs.declared.frame.Frame.{Frame}
use Rattle.il_frames.specs.Frames.{is_data}
use Rattle.il_frames.specs.Messages.{message_of}
use Rattle.il_frames.specs.NamedFrames.{entry, is_frame, nrd, rfc, tad, unl, unt}
use Rattle.il_device.specs.State.{DeviceState}
use Rattle.il_device.specs.Takes.{eto}
use Rattle.il_drive.specs.State.{device_of}
use Rattle.il_ports.specs.Media.{MediumView}
use Rattle.loop_model.specs.Exchanges.{Answer, NotTaken, ToItsEnd, Stopped, Exchange, Receive, Sst, Break, FrameLost, HostAltered, TalkerAltered, answer_entries, break_entries, commanded, echoed, entries_of, is_answer, returned, start_frame}
use Rattle.loop_model.specs.Leading.{controller_after, handed_or_back}
use Rattle.il_guest.specs.declared.control.Place.{Place}
use Rattle.il_guest.specs.declared.control.Place.TheVariants as place
use Rattle.il_guest.specs.Frames.{nop}
use Rattle.il_guest.specs.Rounds.{addresses}
use Rattle.il_ring.specs.declared.flight.Flight.{Flight}
use Rattle.il_ring.specs.Flights.{sourced}
use Rattle.il_ring.specs.ControlledAdds.{IsUnderWay, ControlledAdds, others_of}
use Rattle.il_ring.specs.Lending.{going_on}
use Rattle.il_ring.specs.Lends.{RoundsEnd, AtHost, BreaksOff, ByteLost, receives_of, end_entries, held_entries, is_one_status, rounds_asked, rounds_entries}
use Rattle.il_ring.specs.Remaining.{BeginRounds, from_byte, from_command, from_ready, from_start}
use Rattle.il_ring.specs.Rings.{RingView, devices_of}
use Rattle.il_ring.specs.Rounded.{IsAwaited}
use Rattle.il_ring.proofs.Remaining.{none_told}
use Rattle.il_control.specs.Receives.{IsHolding}
use Rattle.il_control.proofs.LentAtHost.{Holds, OtherAtHost, OwnAtHost, at_host}
use Rattle.il_control.proofs.LentPolls.{RoundsEndSo, own_echo, own_echo-is}
use Rattle.il_control.proofs.LentRings.{own_ring}
use Rattle.il_ring.proofs.ControlledSums.{others_are}
use Rattle.il_ring.proofs.ControlledSince.{since_append, since_pass}
use Rattle.il_ring.specs.ControlledAdds.{ControlledSince}
use Rattle.il_control.proofs.LentRounds.{turned_same}
use Rattle.il_control.proofs.LentTelling.{within}
use Rattle.il_control.proofs.LentWalks.{BrokeOff, Polling, StandsSo, yet_at}
use Rattle.il_control.proofs.Relaying.{awaited}

-- ---- which frame is under way

-- the devices before the last are those of the ring that a second controller has
others_own : {M : Type 0} (r : RingView M) (boxed : List DeviceState) (last : DeviceState) (held : Option Flight) → r.after ≡ boxed ++ last ∷ [] → others_of r ≡ devices_of (own_ring boxed held (going_on r))
others_own r boxed last held after = others_are r boxed last after

-- a frame that is held is awaited
held_awaits : {M : Type 0} (m : RingView M) (h : IsHolding m) (f : Flight) → h.flight ≡ f → IsAwaited 0 f (devices_of m)
held_awaits m h f is =
    subst (λ f. IsAwaited 0 f (devices_of m)) is
    (⊎_elim (λ host. let no : ⊥ = omega (arith, host, h.talking.party) in absurd no) (λ waits. waits) (awaited h.flight.source h.own h.flight (devices_of m) refl h.stood.data_frame h.talking))

some_same : (f g : Flight) → Some f ≡ Some g → f ≡ g
some_same f g same = ap (λ o. elim o [ Some h ↦ h | None ↦ f ]) same

module _ {M : Type 0} (view : M → MediumView) (k last : ℕ) (own : Option ℕ) (base : List Entry) (r : RingView M) (arrived : ℕ) (old : Polling view k last own base r arrived) where
  abbrev UnderWay : Type 0
  UnderWay = (f : Flight) × IsUnderWay r f

  many_some : 0 < length (devices_of r)
  many_some =
      let all = length-append r.before (device_of r.drive.state ∷ r.after) in
      omega (arith, all)

  nothing_kept : r.books.kept ≡ None → (h : Flight) → r.books.kept ≡ Some h → IsAwaited 0 h (others_of r)
  nothing_kept none h is = let clash = sym none ∙ is in cc

  -- a frame of its own is at the host
  own_way : (f : Frame) → r.books.lent ≡ Some (sourced k f) → ((h : Flight) → r.books.kept ≡ Some h → IsAwaited 0 h (others_of r)) → UnderWay
  own_way f lent kept = (
    sourced 0 f,
    record {
      stands = lent ∙ ap (λ k. Some (sourced k f)) (sym old.many);
      within = many_some;
      ready = inl refl;
      kept = kept;
    },
  )

  -- the source of a frame that it withholds awaits it
  awaits : (flight : Flight) → Holds view k last own base r arrived old flight → (h : Flight) → flight ≡ h → IsAwaited 0 h (others_of r)
  awaits flight holds h same =
      subst (λ ds. IsAwaited 0 h ds) (sym (others_own r old.boxed old.device (Some flight) old.after)) (held_awaits (own_ring old.boxed (Some flight) (going_on r)) holds.0 h (holds.1 ∙ same))

  -- a frame of another is at the host
  other_way : OtherAtHost view k last own base r arrived old → UnderWay
  other_way other =
      let on = within view k last own base r old.boxed old.device other.flight old.after old.many other.holds.0 other.holds.1 in (
        other.flight,
        record {
          stands = other.lent_is ∙ ap (λ f. Some f) (sym (turned_same (length (devices_of r)) other.flight on.0));
          within = omega (arith, on.1, old.many);
          ready = inr (awaits other.flight other.holds other.flight refl);
          kept = nothing_kept other.kept_is;
        },
      )

  -- at every moment of polling the frames that are under way are awaited
  pub under_way : (f : Flight) × IsUnderWay r f
  under_way = ⊎_elim
      (λ (one : OwnAtHost view k last own base r arrived old).
      own_way one.frame one.lent_is (⊎_elim nothing_kept (λ kept h is. awaits kept.0 kept.1 h (some_same kept.0 h (sym kept.2 ∙ is))) one.kept))
      other_way
      (at_host view k last own base r arrived old)

-- ---- control stays

-- entries of which none is the host's leave control where it is
pub control_stays : (k : ℕ) (entries : List Entry) → list_all (λ e. not (e.source == 0)) entries ≡ true → controller_after k entries ≡ k
control_stays k [] others = refl
control_stays k (e ∷ entries) others =
    let parts = and_parts (not (e.source == 0)) (list_all (λ e. not (e.source == 0)) entries) others in
    ap (λ b. controller_after (if b then handed_or_back k e.outcome (message_of e.frame) else k) entries) (not-true (e.source == 0) parts.0) ∙ control_stays k entries parts.1

-- ---- control stays while the rounds go on

abbrev pub is_theirs : Entry → Bool
is_theirs e = not (e.source == 0)

abbrev pub are_theirs : List Entry → Bool
are_theirs entries = list_all is_theirs entries

module _ (k : ℕ) (guest : (k == 0) ≡ false) where
  -- the entries of rounds are party k's and its talkers'
  own_theirs : (f : Frame) (o : Outcome) (more : List Entry) → are_theirs more ≡ true → are_theirs (entry k f o ∷ more) ≡ true
  own_theirs f o more all = and_from (not (k == 0)) (are_theirs more) (ap not guest) all

  command_theirs : (f : Frame) (more : List Entry) → are_theirs more ≡ true → are_theirs (commanded k f ++ more) ≡ true
  command_theirs f more all = own_theirs f (outcome.Back f) (returned k rfc ∷ more) (own_theirs rfc (outcome.Back rfc) more all)

  answer_theirs : (answer : Answer) → is_one_status k answer ≡ true → (more : List Entry) → are_theirs more ≡ true → are_theirs (answer_entries k (start_frame Sst) answer ++ more) ≡ true
  answer_theirs NotTaken one more all = own_theirs (start_frame Sst) (outcome.Back (start_frame Sst)) more all
  answer_theirs (ToItsEnd p data_frames) one more all = cc
  answer_theirs (Stopped p (d ∷ data_frames) last) one more all = cc
  answer_theirs (Stopped p [] last) one more all =
      let party = (and_parts (not (p == 0)) (nat_lt p k && is_answer k (Stopped p [] last)) one).0 in
      own_theirs (start_frame Sst) (outcome.Taken p) (returned k nrd ∷ echoed p last ∷ entry p eto (outcome.Taken k) ∷ more)
      (own_theirs nrd (outcome.Back nrd) (echoed p last ∷ entry p eto (outcome.Taken k) ∷ more)
      (and_from (not (p == 0)) (are_theirs (entry p eto (outcome.Taken k) ∷ more)) party (and_from (not (p == 0)) (are_theirs more) party all)))

  status_theirs : (a : ℕ) (answer : Answer) → is_one_status k answer ≡ true → (more : List Entry) → are_theirs more ≡ true → are_theirs (entries_of k (Receive a None Sst answer) ++ more) ≡ true
  status_theirs a answer one more all =
      ap are_theirs (append_assoc (commanded k unl ++ commanded k (tad a)) (answer_entries k (start_frame Sst) answer ++ commanded k unt) more)
      ∙ command_theirs unl (commanded k (tad a) ++ ((answer_entries k (start_frame Sst) answer ++ commanded k unt) ++ more))
      (command_theirs (tad a) ((answer_entries k (start_frame Sst) answer ++ commanded k unt) ++ more)
      (ap are_theirs (append_assoc (answer_entries k (start_frame Sst) answer) (commanded k unt) more) ∙ answer_theirs answer one (commanded k unt ++ more) (command_theirs unt more all)))

  asked_theirs : (asked : List ℕ) (answers : List Answer) → list_all (is_one_status k) answers ≡ true → (more : List Exchange) → are_theirs (flat_map (entries_of k) more) ≡ true → are_theirs (flat_map (entries_of k) (receives_of asked answers ++ more)) ≡ true
  asked_theirs [] answers ones more all = all
  asked_theirs (a ∷ asked) [] ones more all = status_theirs a NotTaken refl (flat_map (entries_of k) (receives_of asked [] ++ more)) (asked_theirs asked [] refl more all)
  asked_theirs (a ∷ asked) (answer ∷ answers) ones more all =
      let parts = and_parts (is_one_status k answer) (list_all (is_one_status k) answers) ones in
      status_theirs a answer parts.0 (flat_map (entries_of k) (receives_of asked answers ++ more)) (asked_theirs asked answers parts.1 more all)

  rounds_theirs : (asked : List ℕ) (answers : List (List Answer)) → list_all (λ round. list_all (is_one_status k) round) answers ≡ true → are_theirs (rounds_entries k asked answers) ≡ true
  rounds_theirs asked [] ones = refl
  rounds_theirs asked (round ∷ answers) ones =
      let parts = and_parts (list_all (is_one_status k) round) (list_all (λ round. list_all (is_one_status k) round) answers) ones in
      command_theirs nop (flat_map (entries_of k) (receives_of asked round ++ rounds_asked asked answers)) (asked_theirs asked round parts.0 (rounds_asked asked answers) (rounds_theirs asked answers parts.1))

  -- so are those that stand, and what ends them
  begun_theirs : (asked : List ℕ) (entries : List Entry) (yet : List ℕ) (goes : List Answer → List (List Answer) → List Entry) → BeginRounds k asked entries yet goes → are_theirs entries ≡ true
  begun_theirs asked entries yet goes begun =
      let all = begun [] [] (none_told k yet) (refl, refl) in
      let whole : are_theirs (entries ++ goes [] []) ≡ true = ap are_theirs (sym all.2) ∙ rounds_theirs asked all.0 all.1.0 in
      (and_parts (are_theirs entries) (are_theirs (goes [] [])) (sym (list_all-append is_theirs entries (goes [] [])) ∙ whole)).0

  held_theirs : (due : Entry) (more rest : List Entry) → are_theirs more ≡ true → are_theirs rest ≡ true → are_theirs (held_entries k due more ++ rest) ≡ true
  held_theirs due [] rest all then_all = then_all
  held_theirs due (next ∷ more) rest all then_all = by (is_frame due.frame nrd)
    where
      by : (b : Bool) → are_theirs ((elim b [ true ↦ entry next.source next.frame (outcome.Taken k) ∷ [] | false ↦ [] ]) ++ rest) ≡ true
      by true = and_from (is_theirs next) (are_theirs rest) (and_parts (is_theirs next) (are_theirs more) all).0 then_all
      by false = then_all

  end_theirs : (due : Entry) (more : List Entry) (end : RoundsEnd) → is_theirs due ≡ true → are_theirs more ≡ true → are_theirs (end_entries k due more end) ≡ true
  end_theirs due more AtHost one all = held_theirs due more (entry due.source due.frame (outcome.Taken 0) ∷ []) all (and_from (is_theirs due) true one refl)
  end_theirs due more (BreaksOff b) one all = held_theirs due more (break_entries due b) all (by b)
    where
      by : (b : Break) → are_theirs (break_entries due b) ≡ true
      by (FrameLost q) = and_from (is_theirs due) true one refl
      by (HostAltered f) = and_from (is_theirs due) true one refl
      by (TalkerAltered f o) = and_from (is_theirs due) (is_theirs due && true) one (and_from (is_theirs due) true one refl)
  end_theirs due [] (ByteLost q) one all = refl
  end_theirs due (next ∷ more) (ByteLost q) one all = and_from (is_theirs next) true (and_parts (is_theirs next) (are_theirs more) all).0 refl

  pub ends_theirs : (asked : List ℕ) (entries tail : List Entry) (end : RoundsEnd) → RoundsEndSo k asked entries tail end → are_theirs (entries ++ tail) ≡ true
  ends_theirs asked entries tail end so =
      let whole : are_theirs (entries ++ so.due ∷ so.more) ≡ true = ap are_theirs (sym so.rounds) ∙ rounds_theirs asked so.all so.rounds_are.0 in
      let parts = and_parts (are_theirs entries) (are_theirs (so.due ∷ so.more)) (sym (list_all-append is_theirs entries (so.due ∷ so.more)) ∙ whole) in
      let due = and_parts (is_theirs so.due) (are_theirs so.more) parts.1 in
      list_all-append is_theirs entries tail ∙ and_from (are_theirs entries) (are_theirs tail) parts.0 (ap are_theirs so.tail_is ∙ end_theirs so.due so.more end due.0 due.1)

module _ {M : Type 0} (view : M → MediumView) (k last : ℕ) (own : Option ℕ) (base : List Entry) where
  no_host : (r : RingView M) → length (devices_of r) ≡ k → (k == 0) ≡ false
  no_host r many =
      let all = length-append r.before (device_of r.drive.state ∷ r.after) in
      ne_eqb k 0 (λ e. omega (arith, e, many, all))

  -- what is in the log at every moment of polling is none of the host's
  pub polling_theirs : (r : RingView M) (arrived : ℕ) (old : Polling view k last own base r arrived) → list_all (λ e. not (e.source == 0)) old.entries ≡ true
  polling_theirs r arrived old = by old.place refl
    where
      by : (p : Place) → old.place ≡ p → are_theirs old.entries ≡ true
      by (place.Command c) at =
          let stands = subst (λ p. StandsSo view k last own base p r old.boxed old.entries) at old.stands in
          begun_theirs k (no_host r old.many) (addresses own last) old.entries (yet_at view k last own base c stands.0) (from_command k (addresses own last) stands.0 c) stands.2.begun
      by (place.Ready c) at =
          let stands = subst (λ p. StandsSo view k last own base p r old.boxed old.entries) at old.stands in
          begun_theirs k (no_host r old.many) (addresses own last) old.entries (yet_at view k last own base c stands.0) (from_ready k (addresses own last) stands.0 c) stands.2.begun
      by (place.Start a) at =
          let stands = subst (λ p. StandsSo view k last own base p r old.boxed old.entries) at old.stands in
          begun_theirs k (no_host r old.many) (addresses own last) old.entries (a ∷ stands.0) (from_start k (addresses own last) stands.0) stands.2.begun
      by (place.Held a d) at =
          let stands = subst (λ p. StandsSo view k last own base p r old.boxed old.entries) at old.stands in
          let flight = stands.2.flight in
          let bytes = subst (λ (f : Flight). is_data f.sent ≡ true) stands.2.holding_is stands.2.holding.data_frame in
          begun_theirs k (no_host r old.many) (addresses own last) old.entries stands.0 (λ now later. returned k nrd ∷ from_byte k (addresses own last) stands.0 flight.source (own_echo flight.sent) now later)
          (stands.2.begun flight.sent (own_echo-is flight.sent bytes))
      by (place.Relayed a d) at =
          let stands = subst (λ p. StandsSo view k last own base p r old.boxed old.entries) at old.stands in
          let flight = stands.2.flight in
          let bytes = subst (λ (f : Flight). is_data f.sent ≡ true) stands.2.holding_is stands.2.holding.data_frame in
          begun_theirs k (no_host r old.many) (addresses own last) old.entries stands.0 (from_byte k (addresses own last) stands.0 flight.source (own_echo flight.sent)) (stands.2.begun flight.sent (own_echo-is flight.sent bytes))

  -- nor if the rounds broke off
  pub broken_theirs : (s : RingView M) (arrived : ℕ) (off : BrokeOff view k last own base s arrived) → (k == 0) ≡ false → list_all (λ e. not (e.source == 0)) (off.entries ++ off.tail) ≡ true
  broken_theirs s arrived off guest = ends_theirs k guest (addresses own last) off.entries off.tail off.end off.ends

  -- a pass leaves control to the second controller
  pub pass_stays : (r s : RingView M) (arrived then_arrived : ℕ) (old : Polling view k last own base r arrived) → Polling view k last own base s then_arrived ⊎ BrokeOff view k last own base s then_arrived → (new : List Entry) → s.books.log ≡ r.books.log ++ new
      → controller_after (length (devices_of r)) new ≡ length (devices_of r)
  pass_stays r s arrived then_arrived old next new log =
      subst (λ k. controller_after k new ≡ k) (sym old.many)
      (⊎_elim
      (λ (goes : Polling view k last own base s then_arrived). by goes.entries goes.log (polling_theirs s then_arrived goes))
      (λ (off : BrokeOff view k last own base s then_arrived). by (off.entries ++ off.tail) off.log (broken_theirs s then_arrived off (no_host r old.many)))
      next)
    where
      by : (entries : List Entry) → s.books.log ≡ base ++ entries → are_theirs entries ≡ true → controller_after k new ≡ k
      by entries log_then theirs =
          let same : entries ≡ old.entries ++ new =
          append_cancel_left base entries (old.entries ++ new) (sym log_then ∙ log ∙ ap (λ log. log ++ new) old.log ∙ append_assoc base old.entries new) in
          let parts = and_parts (are_theirs old.entries) (are_theirs new) (sym (list_all-append is_theirs old.entries new) ∙ ap are_theirs (sym same) ∙ theirs) in
          control_stays k new parts.1

  -- so a pass of the rounds adds to what was added
  pub since_polls : (c : ℕ) (q r s : RingView M) (arrived then_arrived : ℕ) (entries : List Entry) → ControlledSince c k q r entries → Polling view k last own base r arrived → Polling view k last own base s then_arrived ⊎ BrokeOff view k last own base s then_arrived → (adds : ControlledAdds r s)
      → ControlledSince c k q s (entries ++ adds.counts.entries)
  since_polls c q r s arrived then_arrived entries since old next adds =
      let new = adds.counts.entries in
      since_append c k k q r s entries new since
      (subst (λ j. ControlledSince j j r s new) old.many (since_pass r s adds (pass_stays r s arrived then_arrived old next new adds.counts.log)))
