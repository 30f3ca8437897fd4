-- Worked examples of lends, computed by the checker: a drive (party 1), a printer (party 2) and a second controller (party 3), which asks
-- the addresses up to 2. The loop is ready.
use Rattle.std.proofs.Common.{◌≡◌, ◌+◌, ◌++◌, ◌∙◌, ℕ, All, zero, suc, true, false, List, [], ◌∷◌, Option, Some, None, is_some, IfSome, inl, inr, refl, sym, ap, subst, arith, codes, get_or, length, eqb-true, ⊎_elim}
use Rattle.std.specs.Fmt.{digits}
use Rattle.std.proofs.lemmas.Bool.{and_parts}
use Rattle.std.proofs.lemmas.List.Elements.{All-append, All-cons, All-nil}
use Rattle.hex.specs.Hex.{encode_with}
use Rattle.lif_model.specs.Tape.{Tape}
use Rattle.lif_model.proofs.Examples as base
use Rattle.il_frames.specs.declared.entry.Entry.{Entry}
use Rattle.il_frames.specs.declared.entry.Outcome.TheVariants as outcome
use Rattle.il_frames.specs.declared.frame.Class.TheVariants as class
use Rattle.il_frames.specs.Frames.{byte_of, framed}
use Rattle.il_frames.specs.NamedFrames.{aau, entry, ifc}
use Rattle.loop_model.specs.Exchanges.{Answer, Echo, Stopped, Command, Address, Piece, Whole, NotTaken}
use Rattle.loop_model.specs.Hearing.{roles_at}
use Rattle.loop_model.specs.Reach.{links, met}
use Rattle.il_device.specs.State.{risen_by}
use Rattle.il_ring.specs.Plans.{hops_of}
use Rattle.il_script.specs.declared.reply.Code.TheVariants as code
use Rattle.il_script.specs.declared.reply.Reply.TheVariants as reply
use Rattle.il_ring.specs.declared.plan.Planned.{Planned}
use Rattle.il_guest.specs.Frames.{tct}
use Rattle.il_ring.specs.Fates.{IsByPlan}
use Rattle.il_ring.specs.Lends.{Lend as Lending, AtHost, NoTaker, NoTakerCut, Lent as LentSo, LentCut, LentLost, addressed_talker, are_rounds, arrivals, is_lend, lend_entries, rounds_entries, stands_at_last}
use Rattle.il_ring.specs.Statuses.{is_back}
use Rattle.host_model.proofs.Tapes.{tape_other}
use Rattle.host_model.specs.Courses.{keeps_to}
use Rattle.host_model.specs.Requests.{Status, Lend, Item, Asks, NoCommand, items_of}
use Rattle.host_model.specs.LoopStates.{LoopState, addresses_asked, device_count, last_address}
use Rattle.host_model.specs.HostStates.{HostState, fresh_host}
use Rattle.host_model.specs.Replies.{reply_of, reply_text, trace_text}
use Rattle.host_model.specs.Histories.{IsLostWhere, joined_exchanges}
use Rattle.host_model.specs.Next.{BoxedBecome, DeviceBehind, MayBeTold}
use Rattle.host_model.specs.Steps.{Acts, Event, IsLendOf, IsStep, Lent, entries_lent, event, leaves_sound, takes_back_first}
use Rattle.host_model.proofs.Steps.{alike_staying, unfaulted}
use Rattle.host_model.proofs.Small.{printer, quiet, texts_differ, numbers_differ, false_is_not_true}
use Rattle.host_model.proofs.StepExamples.{addressed, lines, log_of, loss_at, lost_pieces, status_event, status_pieces}

-- ---- requests

lend_items : (items_of (codes "lend 10") ≡ Asks (Lend 10) ∷ []) × (items_of (codes "lend 0") ≡ NoCommand code.BadLine ∷ [])
lend_items = (refl, refl)

-- ---- the loop

-- the devices have their addresses, the drive this status, and the printer and the second controller took so many frames
abbrev lending_loop : (status printed led : ℕ) → LoopState
lending_loop status printed led = record {
  before = [];
  status = status;
  drive = addressed 1;
  after = record printer { roles = addressed 2; frames = printed } ∷ record quiet { roles = addressed 3; frames = led } ∷ [];
  guest = Some 2;
}

abbrev ready_on : Tape → ℕ → HostState
ready_on tape n = record (fresh_host (Some tape) n 0 [] [] None) { ready = true; sound = true; loop = lending_loop 0 0 0 }

abbrev ready_host : HostState
ready_host = ready_on base.formatted 12

-- the same without the second controller
abbrev lone_on : Tape → ℕ → HostState
lone_on tape n = record (ready_on tape n) {
  loop = record {
    before = [];
    status = 0;
    drive = addressed 1;
    after = record printer { roles = addressed 2 } ∷ [];
    guest = None;
  };
}

abbrev lone_host : HostState
lone_host = lone_on base.formatted 12

-- of the addresses up to the last its own is not asked
asked : (addresses_asked ready_host.loop ≡ 1 ∷ 2 ∷ []) × (addresses_asked (record ready_host.loop { guest = Some 5 }) ≡ 1 ∷ 2 ∷ 4 ∷ 5 ∷ []) × (addresses_asked lone_host.loop ≡ [])
asked = (refl, refl, refl)

own_asked : addresses_asked (record ready_host.loop { guest = Some 3 }) ≡ 1 ∷ 2 ∷ 3 ∷ [] → ⊥
own_asked = texts_differ _ _ refl

-- ---- the lends

-- address 1 tells the status 0, and address 2 none
abbrev zero_status : Echo
zero_status = record { sent = framed class.Dab 0; back = framed class.Dab 0 }

abbrev answers : List (List Answer)
answers = (Stopped 1 [] zero_status ∷ []) ∷ (Stopped 1 [] zero_status ∷ []) ∷ []

-- of one frame; of two; and of ten, in which address 1 was asked
abbrev one : Lending
one = LentSo 3 answers 0

abbrev two : Lending
two = LentSo 3 answers 1

abbrev ten : Lending
ten = LentSo 3 answers 10

abbrev entries : Lending → List Entry
entries lend = lend_entries 3 (1 ∷ 2 ∷ []) lend

one_trace : trace_text (entries one) ≡ lines (codes "~ 0 UNL = UNL" ∷ codes "~ 0 RFC = RFC" ∷ codes "~ 0 TAD 03 = TAD 03" ∷ codes "~ 0 RFC = RFC" ∷ codes "~ 0 TCT > 3"
    ∷ codes "~ 3 NOP > 0" ∷ codes "~ 0 IFC = IFC" ∷ codes "~ 0 RFC = RFC" ∷ [])
unfolding digits
one_trace = refl

-- ---- replies and texts

replies : (reply_of (Asks (Lend 10)) ready_host ≡ reply.Ok) × (reply_of (Asks (Lend 10)) lone_host ≡ reply.No code.NoTaker)
replies = (refl, refl)

ten_text : reply_text (Asks (Lend 10)) ready_host (entries ten) reply.Ok ≡ codes "guest 1 00" ++ 10 ∷ codes "guest 2 --" ++ 10 ∷ codes "ok" ++ 10 ∷ []
unfolding digits encode_with
ten_text = refl

-- one frame is too few for a status
one_text : reply_text (Asks (Lend 1)) ready_host (entries one) reply.Ok ≡ codes "guest 1 --" ++ 10 ∷ codes "guest 2 --" ++ 10 ∷ codes "ok" ++ 10 ∷ []
unfolding digits encode_with
one_text = refl

refused_text : reply_text (Asks (Lend 10)) lone_host [] (reply.No code.NoTaker) ≡ codes "error 17 NoTaker" ++ 10 ∷ []
unfolding digits
refused_text = refl

not_asked : reply_text (Asks (Lend 10)) ready_host (entries ten) reply.Ok
    ≡ codes "guest 1 00" ++ 10 ∷ codes "guest 2 --" ++ 10 ∷ codes "guest 3 --" ++ 10 ∷ codes "ok" ++ 10 ∷ [] → ⊥
unfolding digits encode_with
not_asked = texts_differ _ _ refl

not_told : reply_text (Asks (Lend 10)) ready_host (entries ten) reply.Ok ≡ codes "guest 1 00" ++ 10 ∷ codes "guest 2 00" ++ 10 ∷ codes "ok" ++ 10 ∷ [] → ⊥
unfolding digits encode_with
not_told = texts_differ _ _ refl

fault_with_guests : reply_text (Asks (Lend 10)) ready_host (entries ten) reply.FaultFrame ≡ codes "guest 1 00" ++ 10 ∷ codes "guest 2 --" ++ 10 ∷ codes "fault frame" ++ 10 ∷ [] → ⊥
unfolding digits encode_with
fault_with_guests = texts_differ _ _ refl

-- ---- steps

-- how many frames an item asks for
abbrev frames_asked : Item → ℕ
frames_asked (Asks (Lend frames)) = frames
frames_asked item = 0

-- No device hears anything of a lend. What it makes of the drive's status is said apart.
heard_nothing : (frames before_status status printed led : ℕ)
    → BoxedBecome (DeviceBehind (Asks (Lend frames)) reply.Ok (lending_loop before_status 0 0)) (lending_loop before_status 0 0) (lending_loop status printed led)
heard_nothing frames before_status status printed led = record {
  before = tt;
  after = (
    record { accessory = refl; hears = record { heard = refl; heard_count = refl; room = refl; accessory = refl }; service = λ h. refl },
    (record { accessory = refl; hears = record { heard = refl; heard_count = refl; room = refl; accessory = refl }; service = λ h. refl }, tt),
  );
}

-- after it the store is not sound, since the drive was not the host's
abbrev after_one : Tape → ℕ → HostState
after_one tape n = record (ready_on tape n) { crossings = 28; sound = false; loop = lending_loop 0 7 7 }

abbrev one_on : Tape → ℕ → Event
one_on tape n = event (Asks (Lend 1)) reply.Ok (entries one) (ready_on tape n) (after_one tape n)

one_lent : (tape : Tape) (n : ℕ) → Lent [] 1 (one_on tape n)
one_lent tape n = record {
  front = [];
  reading = record { pieces = []; legal = refl; entries = refl };
  addressed = refl;
  lent = Some one;
  ends = refl;
  log = refl;
  lends = record { is = refl; own = refl; address = refl; whole = refl; taken = λ h. refl; refused = λ h. absurd (false_is_not_true h); answered = refl };
  begun = λ h. refl;
  cause = λ h. absurd (false_is_not_true h);
  untaken = λ h g. refl;
  unmet = λ h. refl;
  faults = refl;
  told = λ h. refl;
}

one_acts : (tape : Tape) (n : ℕ) → Acts [] (one_on tape n)
one_acts tape n = record {
  replied = record { may = tt; whole = λ h. (refl, refl); stays = λ h. refl; told = refl; size = refl; gate = λ g. g; foreign = alike_staying (Some tape) };
  next = record { devices = heard_nothing 1 0 0 7 7; status = inl refl };
  travels = record { one_talker = refl; commands = refl; roles = refl; crossings = refl; frames = record { before = tt; after = (refl, (refl, tt)) }; guest = refl; short = omega arith };
  heard = λ h. absurd (false_is_not_true (sym h));
  exchanged = λ h. absurd (false_is_not_true (sym h));
  lent = λ frames is. subst (λ frames. Lent [] frames (one_on tape n)) (ap frames_asked is) (one_lent tape n);
  by_plan = unfaulted [] 0 28 (entries one) refl;
  ready = λ h. refl;
  controls = λ h. refl;
  clears = λ h g. absurd (false_is_not_true (sym g));
  sound = λ h. absurd (false_is_not_true h);
  unsound = λ h g. refl;
  still = λ h. absurd (false_is_not_true (sym h));
}

one_step : (tape : Tape) (n : ℕ) → IsStep [] (one_on tape n)
one_step tape n = record { acts = one_acts tape n; directory = record { kept = refl; log = λ on. absurd (false_is_not_true on) }; tape = tape_other (one_on tape n) refl }

abbrev one_event : Event
one_event = one_on base.formatted 12

-- ---- what is no lend of one frame

lend_refused : IsStep [] (record one_event { reply = reply.No code.NoTaker }) → ⊥
lend_refused s = no_is_ok (s.acts.replied.whole (λ h. refl)).0
  where
    no_is_ok : reply.No code.NoTaker ≡ reply.Ok → ⊥
    no_is_ok h = cc

still_sound : IsStep [] (record one_event { after = record one_event.after { sound = true } }) → ⊥
still_sound s = false_is_not_true (sym (s.acts.unsound refl refl))

-- the address of another party is left with the role to talk
still_talking : IsStep [] (record one_event { after = record one_event.after { loop = record one_event.after.loop { drive = record (addressed 1) { talks = true } } } }) → ⊥
still_talking s = false_is_not_true (sym (ap (λ rs. (roles_at 1 rs).talks) s.acts.travels.roles))

-- a lend of one frame that replied ok on the ready loop
module _ (log : List Entry) (after : HostState) where
  abbrev lent_event : Event
  lent_event = event (Asks (Lend 1)) reply.Ok log ready_host after

  -- nothing goes before it, and it is whole
  lent_log : Lent [] 1 lent_event → (lend : Lending) × (log ≡ entries lend) × IsLendOf ready_host.loop 1 reply.Ok lend
  lent_log l = by l.lent (l.begun refl) l.log l.lends
    where
      none_before : (pieces : List Piece) → keeps_to [] pieces ≡ true → log_of pieces ≡ []
      none_before [] keeps = refl
      none_before (p ∷ pieces) keeps = cc

      no_front : l.front ≡ []
      no_front = l.reading.entries ∙ none_before l.reading.pieces l.addressed

      by : (o : Option Lending) → is_some o ≡ true → log ≡ l.front ++ entries_lent ready_host.loop o → IfSome o (IsLendOf ready_host.loop 1 reply.Ok)
          → (lend : Lending) × (log ≡ entries lend) × IsLendOf ready_host.loop 1 reply.Ok lend
      by None begun is lends = absurd (false_is_not_true begun)
      by (Some lend) begun is lends = (lend, is ∙ ap (λ front. front ++ entries lend) no_front, lends)

  -- the last device took control
  lent_so : Lent [] 1 lent_event → (asks : List (List Answer)) × (n : ℕ) × (log ≡ entries (LentSo 3 asks n)) × (is_lend 3 (1 ∷ 2 ∷ []) 1 (LentSo 3 asks n) ≡ true)
  lent_so l = let found = lent_log l in by found.0 found.1 found.2
    where
      by : (lend : Lending) → log ≡ entries lend → IsLendOf ready_host.loop 1 reply.Ok lend
          → (asks : List (List Answer)) × (n : ℕ) × (log ≡ entries (LentSo 3 asks n)) × (is_lend 3 (1 ∷ 2 ∷ []) 1 (LentSo 3 asks n) ≡ true)
      by (NoTaker a) is lends = absurd (false_is_not_true (sym (lends.refused refl)))
      by (NoTakerCut a n q) is lends = absurd (false_is_not_true lends.whole)
      by (LentSo a asks n) is lends =
          (asks, n, is ∙ ap (λ a. entries (LentSo a asks n)) lends.address, ap (λ a. is_lend 3 (1 ∷ 2 ∷ []) 1 (LentSo a asks n)) (sym lends.address) ∙ lends.is)
      by (LentCut a asks n end) is lends = absurd (false_is_not_true lends.whole)
      by (LentLost a asks n m q) is lends = absurd (false_is_not_true lends.whole)

-- an entry of a log
abbrev place_of : ℕ → List Entry → Entry
place_of n log = get_or log n (entry 0 ifc (outcome.Back ifc))

-- the second controller asks other addresses than before
another_last : IsStep [] (record one_event { after = record one_event.after { loop = record one_event.after.loop { guest = Some 1 } } }) → ⊥
another_last s = numbers_differ 1 2 refl (ap last_address s.acts.travels.guest)

-- another device was told to talk
another_address : IsStep [] (record one_event { log = entries (LentSo 2 answers 0) }) → ⊥
another_address s =
    let found = lent_so (entries (LentSo 2 answers 0)) one_event.after (s.acts.lent 1 refl) in
    numbers_differ 0x42 0x43 refl (ap (λ log. byte_of (place_of 2 log).frame) found.2)

-- two frames came to the host
two_frames : IsStep [] (record one_event { log = entries two }) → ⊥
two_frames s = let found = lent_so (entries two) one_event.after (s.acts.lent 1 refl) in by found.0 found.1 found.2 found.3
  where
    by : (asks : List (List Answer)) (n : ℕ) → entries two ≡ entries (LentSo 3 asks n) → is_lend 3 (1 ∷ 2 ∷ []) 1 (LentSo 3 asks n) ≡ true → ⊥
    by [] n is lends = false_is_not_true lends
    by (round ∷ asks) zero is lends = false_is_not_true (sym (ap (λ log. is_back (place_of 5 log).outcome) is))
    by (round ∷ asks) (suc n) is lends =
        let parts = and_parts (are_rounds 3 (1 ∷ 2 ∷ []) (round ∷ asks) (suc n) AtHost) (stands_at_last 3 (1 ∷ 2 ∷ []) 1 (round ∷ asks) (suc n)) lends in
        let count = eqb-true (arrivals 3 (rounds_entries 3 (1 ∷ 2 ∷ []) (round ∷ asks)) (suc n) + 1) 1 parts.1 in omega (arith, count)

-- ---- ten frames

-- the drive's status is 2, which address 1 tells
abbrev two_status : Echo
two_status = record { sent = framed class.Dab 0x42; back = framed class.Dab 0x42 }

abbrev told_two : Lending
told_two = LentSo 3 ((Stopped 1 [] two_status ∷ []) ∷ []) 10

abbrev ten_on : Tape → ℕ → Event
ten_on tape n = event (Asks (Lend 10)) reply.Ok (entries told_two) (record (ready_on tape n) { loop = lending_loop 2 0 0 })
    (record (ready_on tape n) { crossings = 64; sound = false; loop = lending_loop 0 16 16 })

ten_lent : (tape : Tape) (n : ℕ) → Lent [] 10 (ten_on tape n)
ten_lent tape n = record {
  front = [];
  reading = record { pieces = []; legal = refl; entries = refl };
  addressed = refl;
  lent = Some told_two;
  ends = refl;
  log = refl;
  lends = record { is = refl; own = refl; address = refl; whole = refl; taken = λ h. refl; refused = λ h. absurd (false_is_not_true h); answered = refl };
  begun = λ h. refl;
  cause = λ h. absurd (false_is_not_true h);
  untaken = λ h g. refl;
  unmet = λ h. refl;
  faults = refl;
  told = λ h. (refl, All-nil (λ b. b ≡ 0), refl);
}

ten_acts : (tape : Tape) (n : ℕ) → Acts [] (ten_on tape n)
ten_acts tape n = record {
  replied = record { may = tt; whole = λ h. (refl, refl); stays = λ h. refl; told = refl; size = refl; gate = λ g. g; foreign = alike_staying (Some tape) };
  next = record { devices = heard_nothing 10 2 0 16 16; status = inl refl };
  travels = record { one_talker = refl; commands = refl; roles = refl; crossings = refl; frames = record { before = tt; after = (refl, (refl, tt)) }; guest = refl; short = omega arith };
  heard = λ h. absurd (false_is_not_true (sym h));
  exchanged = λ h. absurd (false_is_not_true (sym h));
  lent = λ frames is. subst (λ frames. Lent [] frames (ten_on tape n)) (ap frames_asked is) (ten_lent tape n);
  by_plan = unfaulted [] 0 64 (entries told_two) refl;
  ready = λ h. refl;
  controls = λ h. refl;
  clears = λ h g. absurd (false_is_not_true (sym g));
  sound = λ h. absurd (false_is_not_true h);
  unsound = λ h g. refl;
  still = λ h. absurd (false_is_not_true (sym h));
}

abbrev ten_event : Event
ten_event = ten_on base.formatted 12

-- telling the status ends it
status_stays : IsStep [] (record ten_event { after = record ten_event.after { loop = record ten_event.after.loop { status = 2 } } }) → ⊥
status_stays s = numbers_differ 2 0 refl ((s.acts.lent 10 refl).told refl).2

-- the drive had told another status
another_status : IsStep [] (record ten_event { before = record ten_event.before { loop = record ten_event.before.loop { status = 1 } } }) → ⊥
another_status s = numbers_differ 0x42 0x41 refl ((s.acts.lent 10 refl).told refl).0

may_be_told : MayBeTold 2 0 × MayBeTold 2 2
may_be_told = (inl refl, inr refl)

told_in_part : MayBeTold 2 1 → ⊥
told_in_part h = ⊎_elim (λ none. numbers_differ 1 0 refl none) (λ same. numbers_differ 1 2 refl same) h

-- ---- without a second controller

abbrev none : Lending
none = NoTaker 2

abbrev none_on : Tape → ℕ → Event
none_on tape n = event (Asks (Lend 1)) (reply.No code.NoTaker) (lend_entries 2 [] none) (lone_on tape n)
    (record (lone_on tape n) { crossings = 21; sound = false; loop = record (lone_on tape n).loop { after = record printer { roles = addressed 2; frames = 7 } ∷ [] } })

none_trace : trace_text (lend_entries 2 [] none) ≡ lines (codes "~ 0 UNL = UNL" ∷ codes "~ 0 RFC = RFC" ∷ codes "~ 0 TAD 02 = TAD 02" ∷ codes "~ 0 RFC = RFC"
    ∷ codes "~ 0 TCT = TCT" ∷ codes "~ 0 UNT = UNT" ∷ codes "~ 0 RFC = RFC" ∷ [])
unfolding digits
none_trace = refl

none_lent : (tape : Tape) (n : ℕ) → Lent [] 1 (none_on tape n)
none_lent tape n = record {
  front = [];
  reading = record { pieces = []; legal = refl; entries = refl };
  addressed = refl;
  lent = Some none;
  ends = refl;
  log = refl;
  lends = record { is = refl; own = refl; address = refl; whole = refl; taken = λ h. absurd (false_is_not_true h); refused = λ h. refl; answered = refl };
  begun = λ h. refl;
  cause = λ h. absurd (false_is_not_true h);
  untaken = λ h g. refl;
  unmet = λ h. refl;
  faults = refl;
  told = λ h. refl;
}

none_acts : (tape : Tape) (n : ℕ) → Acts [] (none_on tape n)
none_acts tape n = record {
  replied = record { may = tt; whole = λ h. (refl, refl); stays = λ h. refl; told = refl; size = refl; gate = λ g. g; foreign = alike_staying (Some tape) };
  next = record {
    devices = record {
      before = tt;
      after = (record { accessory = refl; hears = record { heard = refl; heard_count = refl; room = refl; accessory = refl }; service = λ h. refl }, tt);
    };
    status = inl refl;
  };
  travels = record { one_talker = refl; commands = refl; roles = refl; crossings = refl; frames = record { before = tt; after = (refl, tt) }; guest = refl; short = omega arith };
  heard = λ h. absurd (false_is_not_true (sym h));
  exchanged = λ h. absurd (false_is_not_true (sym h));
  lent = λ frames is. subst (λ frames. Lent [] frames (none_on tape n)) (ap frames_asked is) (none_lent tape n);
  by_plan = unfaulted [] 0 21 (lend_entries 2 [] none) refl;
  ready = λ h. refl;
  controls = λ h. refl;
  clears = λ h g. absurd (false_is_not_true (sym g));
  sound = λ h. absurd (false_is_not_true h);
  unsound = λ h g. refl;
  still = λ h. absurd (false_is_not_true (sym h));
}

-- whatever the log
taken_by_nobody : (log : List Entry) (after : HostState) → IsStep [] (event (Asks (Lend 1)) reply.Ok log lone_host after) → ⊥
taken_by_nobody log after s = ok_is_no (s.acts.replied.whole (λ h. refl)).0
  where
    ok_is_no : reply.Ok ≡ reply.No code.NoTaker → ⊥
    ok_is_no h = cc

-- ---- a loop that is not ready

abbrev front_pieces : List Piece
front_pieces = Whole (Command ifc) ∷ Whole (Command aau) ∷ Whole (Address 3) ∷ []

abbrev fresh_on : Tape → ℕ → HostState
fresh_on tape n = fresh_host (Some tape) n 0 [] (printer ∷ quiet ∷ []) (Some 2)

abbrev first_on : Tape → ℕ → Event
first_on tape n = event (Asks (Lend 1)) reply.Ok (log_of front_pieces ++ entries one) (fresh_on tape n)
    (record (fresh_on tape n) { crossings = 48; ready = true; loop = lending_loop 0 12 12 })

first_lent : (tape : Tape) (n : ℕ) → Lent [] 1 (first_on tape n)
first_lent tape n = record {
  front = log_of front_pieces;
  reading = record { pieces = front_pieces; legal = refl; entries = refl };
  addressed = refl;
  lent = Some one;
  ends = refl;
  log = refl;
  lends = record { is = refl; own = refl; address = refl; whole = refl; taken = λ h. refl; refused = λ h. absurd (false_is_not_true h); answered = refl };
  begun = λ h. refl;
  cause = λ h. absurd (false_is_not_true h);
  untaken = λ h g. refl;
  unmet = λ h. refl;
  faults = refl;
  told = λ h. refl;
}

first_acts : (tape : Tape) (n : ℕ) → Acts [] (first_on tape n)
first_acts tape n = record {
  replied = record { may = tt; whole = λ h. (refl, refl); stays = λ h. refl; told = refl; size = refl; gate = λ g. g; foreign = alike_staying (Some tape) };
  next = record {
    devices = record {
      before = tt;
      after = (
        record { accessory = refl; hears = record { heard = refl; heard_count = refl; room = refl; accessory = refl }; service = λ h. refl },
        (record { accessory = refl; hears = record { heard = refl; heard_count = refl; room = refl; accessory = refl }; service = λ h. refl }, tt),
      );
    };
    status = inl refl;
  };
  travels = record { one_talker = refl; commands = refl; roles = refl; crossings = refl; frames = record { before = tt; after = (refl, (refl, tt)) }; guest = refl; short = omega arith };
  heard = λ h. absurd (false_is_not_true (sym h));
  exchanged = λ h. absurd (false_is_not_true (sym h));
  lent = λ frames is. subst (λ frames. Lent [] frames (first_on tape n)) (ap frames_asked is) (first_lent tape n);
  by_plan = unfaulted [] 0 48 (log_of front_pieces ++ entries one) refl;
  ready = λ h. refl;
  controls = λ h. refl;
  clears = λ h g. refl;
  sound = λ h. absurd (false_is_not_true h);
  unsound = λ h g. refl;
  still = λ h. absurd (false_is_not_true (sym h));
}

-- ---- which values are lends

lends : IsLendOf ready_host.loop 1 reply.Ok one × IsLendOf ready_host.loop 10 reply.Ok ten × IsLendOf lone_host.loop 1 (reply.No code.NoTaker) none
lends = (
  record { is = refl; own = refl; address = refl; whole = refl; taken = λ h. refl; refused = λ h. absurd (false_is_not_true h); answered = refl },
  record { is = refl; own = refl; address = refl; whole = refl; taken = λ h. refl; refused = λ h. absurd (false_is_not_true h); answered = refl },
  record { is = refl; own = refl; address = refl; whole = refl; taken = λ h. absurd (false_is_not_true h); refused = λ h. refl; answered = refl },
)

-- nine frames were asked for, where ten came
nine_asked : IsLendOf ready_host.loop 9 reply.Ok ten → ⊥
nine_asked l = false_is_not_true l.is

-- the printer answered where the drive was asked
told_by_another : IsLendOf ready_host.loop 10 reply.Ok (LentSo 3 ((Stopped 2 [] zero_status ∷ []) ∷ []) 10) → ⊥
told_by_another l = false_is_not_true l.own

-- the drive let the SST pass that asked it
silent_drive : IsLendOf ready_host.loop 8 reply.Ok (LentSo 3 ((NotTaken ∷ []) ∷ []) 8) → ⊥
silent_drive l = false_is_not_true l.answered

address_of_printer : IsLendOf ready_host.loop 1 reply.Ok (LentSo 2 answers 0) → ⊥
address_of_printer l = numbers_differ 2 3 refl l.address

whole_in_spite : IsLendOf ready_host.loop 1 reply.FaultFrame one → ⊥
whole_in_spite l = false_is_not_true (sym l.whole)

-- a printer took control; and the second controller did not
taken_by_printer : IsLendOf lone_host.loop 1 reply.Ok (LentSo 2 (([]) ∷ []) 0) → ⊥
taken_by_printer l = false_is_not_true (l.taken refl)

taken_by_none : IsLendOf ready_host.loop 1 reply.Ok (NoTaker 3) → ⊥
taken_by_none l = false_is_not_true (sym (l.refused refl))

-- ---- faults

-- a loss at the eighteenth crossing, where TCT goes to the printer
abbrev cut : Lending
cut = NoTakerCut 3 4 2

cut_trace : trace_text (entries cut) ≡ lines (codes "~ 0 UNL = UNL" ∷ codes "~ 0 RFC = RFC" ∷ codes "~ 0 TAD 03 = TAD 03" ∷ codes "~ 0 RFC = RFC" ∷ codes "~ 0 TCT ! 2" ∷ [])
unfolding digits
cut_trace = refl

abbrev cut_on : Tape → ℕ → Event
cut_on tape n = event (Asks (Lend 1)) reply.FaultFrame (entries cut) (ready_on tape n) (record (ready_on tape n) {
  crossings = 18;
  ready = false;
  sound = false;
  loop = record (ready_on tape n).loop {
    after = record printer { roles = addressed 2; frames = 4 } ∷ record quiet { roles = record (addressed 3) { talks = true }; frames = 4 } ∷ [];
  };
})

cut_lent : (tape : Tape) (n : ℕ) → Lent (loss_at 18) 1 (cut_on tape n)
cut_lent tape n = record {
  front = [];
  reading = record { pieces = []; legal = refl; entries = refl };
  addressed = refl;
  lent = Some cut;
  ends = refl;
  log = refl;
  lends = record { is = refl; own = refl; address = refl; whole = refl; taken = λ h. refl; refused = λ h. absurd (false_is_not_true h); answered = refl };
  begun = λ h. refl;
  cause = λ h met. cc;
  untaken = λ h g. absurd (false_is_not_true (sym g));
  unmet = λ h. refl;
  faults = refl;
  told = λ h. absurd (false_is_not_true (sym h));
}

cut_by_plan : All (IsByPlan (loss_at 18) 0 18) (entries cut)
cut_by_plan =
    let by = IsByPlan (loss_at 18) 0 18 in
    All-append by (addressed_talker 3) (entry 0 tct (outcome.Lost 2) ∷ []) (unfaulted (loss_at 18) 0 18 (addressed_talker 3) refl)
    (All-cons by (entry 0 tct (outcome.Lost 2)) [] (inl (record { hop = 18; after = omega arith; up_to = omega arith; planned = refl })) (All-nil by))

cut_acts : (tape : Tape) (n : ℕ) → Acts (loss_at 18) (cut_on tape n)
cut_acts tape n = record {
  replied = record { may = refl; whole = λ h g. inl refl; stays = λ h. refl; told = refl; size = refl; gate = λ g. g; foreign = alike_staying (Some tape) };
  next = record {
    devices = record {
      before = tt;
      after = (
        record { accessory = refl; hears = record { heard = refl; heard_count = refl; room = refl; accessory = refl }; service = λ h. refl },
        (record { accessory = refl; hears = record { heard = refl; heard_count = refl; room = refl; accessory = refl }; service = λ h. refl }, tt),
      );
    };
    status = inl refl;
  };
  travels = record { one_talker = refl; commands = refl; roles = refl; crossings = refl; frames = record { before = tt; after = (refl, (refl, tt)) }; guest = refl; short = omega arith };
  heard = λ h. absurd (false_is_not_true (sym h));
  exchanged = λ h. absurd (false_is_not_true (sym h));
  lent = λ frames is. subst (λ frames. Lent (loss_at 18) frames (cut_on tape n)) (ap frames_asked is) (cut_lent tape n);
  by_plan = cut_by_plan;
  ready = λ h. refl;
  controls = λ h. refl;
  clears = λ h g. absurd (false_is_not_true (sym g));
  sound = λ h. absurd (false_is_not_true h);
  unsound = λ h g. refl;
  still = λ h. absurd (false_is_not_true (sym h));
}

-- where nothing is planned there
cut_without_plan : IsStep (loss_at 19) (cut_on base.formatted 12) → ⊥
cut_without_plan s = (s.acts.lent 1 refl).cause refl refl

-- the medium fails in no lend, not in one that is broken off either
medium_failed : IsStep (loss_at 18) (record (cut_on base.formatted 12) { after = record (cut_on base.formatted 12).after { faults = 1 } }) → ⊥
medium_failed s = numbers_differ _ _ refl (s.acts.lent 1 refl).faults

still_ready : IsStep (loss_at 18) (record (cut_on base.formatted 12) { after = record (cut_on base.formatted 12).after { ready = true } }) → ⊥
still_ready s = false_is_not_true (sym (s.acts.ready refl))

-- the addressing broke off, and no lend began
abbrev unbegun_on : Tape → ℕ → Event
unbegun_on tape n = event (Asks (Lend 1)) reply.FaultFrame (log_of lost_pieces) (fresh_on tape n)
    (record (fresh_on tape n) { crossings = 8; loop = record (fresh_on tape n).loop { after = record printer { frames = 2 } ∷ record quiet { frames = 2 } ∷ [] } })

unbegun_lent : (tape : Tape) (n : ℕ) → Lent (loss_at 8) 1 (unbegun_on tape n)
unbegun_lent tape n = record {
  front = log_of lost_pieces;
  reading = record { pieces = lost_pieces; legal = refl; entries = refl };
  addressed = refl;
  lent = None;
  ends = refl;
  log = refl;
  lends = tt;
  begun = λ h. absurd (false_is_not_true (sym h));
  cause = λ h met. cc;
  untaken = λ h g. absurd (false_is_not_true (sym g));
  unmet = λ h. absurd (false_is_not_true h);
  faults = refl;
  told = λ h. absurd (false_is_not_true (sym h));
}

-- a hop of the addressing was met, and yet a lend began
met_before : (e : Event) → e.before.crossings ≡ 0 → e.before.loop ≡ (fresh_on base.formatted 12).loop → (lent : Lent (loss_at 8) 1 e) → lent.front ≡ log_of front_pieces → is_some lent.lent ≡ true → ⊥
met_before e none loop lent front begun = some_met (subst (λ n. met (hops_of (loss_at 8)) n (risen_by (links 3 (log_of front_pieces)) n) ≡ []) none
    (subst (λ z. met (hops_of (loss_at 8)) e.before.crossings (risen_by (links (device_count z) (log_of front_pieces)) e.before.crossings) ≡ []) loop
    (subst (λ es. met (hops_of (loss_at 8)) e.before.crossings (risen_by (links (device_count e.before.loop) es) e.before.crossings) ≡ []) front (lent.unmet begun))))
  where
    some_met : met (hops_of (loss_at 8)) 0 (risen_by (links 3 (log_of front_pieces)) 0) ≡ [] → ⊥
    some_met h = cc

-- an IFC goes before, also where it is lost
back_first : (takes_back_first (log_of front_pieces ++ entries one) ≡ true) × (takes_back_first (entry 0 ifc (outcome.Lost 2) ∷ []) ≡ true)
    × (takes_back_first (entries one) ≡ false) × (takes_back_first [] ≡ false)
back_first = (refl, refl, refl, refl)

not_taken_back : (plan : List Planned) → IsStep plan (record (first_on base.formatted 12) { log = entries one }) → ⊥
not_taken_back plan s = false_is_not_true (s.acts.clears refl refl)

-- ---- what a run tells of lends

sound_behind : (leaves_sound (Asks Status) reply.Ok ≡ true) × (leaves_sound (Asks Status) reply.FaultFrame ≡ false) × (leaves_sound (Asks (Lend 1)) reply.Ok ≡ false)
    × (leaves_sound (Asks (Lend 1)) (reply.No code.NoTaker) ≡ false)
sound_behind = (refl, refl, refl, refl)

-- a lend need not lose by a hop that is met, and loses by none that is not
lost_where : IsLostWhere (Asks (Lend 1)) ⊥ (Unit {0}) × IsLostWhere (Asks Status) (Unit {0}) (Unit {0})
lost_where = (λ lost. absurd lost, (λ lost. tt, λ is_met. tt))

lost_nowhere : IsLostWhere (Asks (Lend 1)) (Unit {0}) ⊥ → ⊥
lost_nowhere h = h tt

kept_in_spite : IsLostWhere (Asks Status) ⊥ (Unit {0}) → ⊥
kept_in_spite h = h.1 tt

-- a lend is left out
exchanges_of_two : joined_exchanges (status_event ∷ one_event ∷ []) ≡ log_of status_pieces
exchanges_of_two = refl

exchanges_of_lend : joined_exchanges (one_event ∷ []) ≡ entries one → ⊥
exchanges_of_lend h = numbers_differ 0 8 refl (ap length h)
