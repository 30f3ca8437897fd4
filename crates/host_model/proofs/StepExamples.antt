-- Worked examples of steps, computed by the checker: a drive, which is party 1, with a printer after it, is asked for its status.
use Rattle.std.proofs.Common.{◌≡◌, ◌++◌, ℕ, All, List, [], ◌∷◌, Some, None, false, inl, length, refl, sym, ap, ◌∙◌, arith, flat_map, codes, true}
use Rattle.std.specs.Prelude.{unwrap_or}
use Rattle.std.specs.Fmt.{digits}
use Rattle.std.proofs.lemmas.List.Elements.{All-nil, All-cons}
use Rattle.lif_model.specs.Tape.{Tape, record_at}
use Rattle.lif_model.proofs.Examples as base
use Rattle.il_frames.specs.declared.frame.Class.TheVariants as class
use Rattle.il_frames.specs.declared.entry.Entry.{Entry}
use Rattle.il_frames.specs.declared.entry.Outcome.TheVariants as outcome
use Rattle.il_frames.specs.Frames.{framed}
use Rattle.il_device.specs.declared.roles.Roles.{Roles}
use Rattle.il_device.specs.Roles.{no_roles}
use Rattle.il_device.specs.State.{risen_by}
use Rattle.il_frames.specs.NamedFrames.{entry, ifc, aau, aad, rfc}
use Rattle.loop_model.specs.Exchanges.{Echo, Exchange, Command, Address, Receive, Sst, Stopped, Piece, Whole, Cut, FrameLost, piece_entries}
use Rattle.loop_model.specs.Hearing.{roles_at}
use Rattle.il_script.specs.declared.reply.Code.TheVariants as code
use Rattle.il_script.specs.declared.reply.Reply.TheVariants as reply
use Rattle.il_ring.specs.declared.plan.Planned.{Planned}
use Rattle.il_ring.specs.declared.plan.PlanFault.TheVariants.{Lose}
use Rattle.il_ring.specs.Plans.{hops_of}
use Rattle.il_ring.specs.Fates.{IsByPlan}
use Rattle.host_model.proofs.Tapes.{tape_other}
use Rattle.host_model.specs.Requests.{Status, Asks}
use Rattle.host_model.specs.HostStates.{HostState}
use Rattle.host_model.specs.Replies.{trace_text}
use Rattle.host_model.specs.Steps.{Acts, IsStep, Event, event}
use Rattle.host_model.proofs.Steps.{alike_staying, unfaulted}
use Rattle.host_model.proofs.Small.{printer, empty_host, host_on, a_tape, texts_differ, numbers_differ, false_is_not_true}

-- ---- asking for the status after power on

-- the status 00, as the drive sends it and as it comes back
abbrev pub told : Echo
told = record { sent = framed class.Dab 0; back = framed class.Dab 0 }

abbrev pub asking : Exchange
asking = Receive 1 None Sst (Stopped 1 [] told)

abbrev pub status_pieces : List Piece
status_pieces = Whole (Command ifc) ∷ Whole (Command aau) ∷ Whole (Address 2) ∷ Whole asking ∷ []

abbrev pub log_of : List Piece → List Entry
log_of pieces = flat_map (piece_entries 0) pieces

abbrev pub lines : List (List ℕ) → List ℕ
lines texts = flat_map (λ text. text ++ 10 ∷ []) texts

status_trace : trace_text (log_of status_pieces) ≡ lines (codes "~ 0 IFC = IFC" ∷ codes "~ 0 RFC = RFC" ∷ codes "~ 0 AAU = AAU" ∷ codes "~ 0 RFC = RFC"
    ∷ codes "~ 0 AAD 01 = AAD 03" ∷ codes "~ 0 UNL = UNL" ∷ codes "~ 0 RFC = RFC" ∷ codes "~ 0 TAD 01 = TAD 01" ∷ codes "~ 0 RFC = RFC" ∷ codes "~ 0 SST > 1"
    ∷ codes "~ 0 NRD = NRD" ∷ codes "~ 1 DAB 00 = DAB 00" ∷ codes "~ 1 ETO > 0" ∷ codes "~ 0 UNT = UNT" ∷ codes "~ 0 RFC = RFC" ∷ [])
unfolding digits
status_trace = refl

-- the number of an AAD goes up by one at each device that takes it
shared_address : trace_text (entry 0 (aad 1) (outcome.Back (aad 3)) ∷ []) ≡ codes "~ 0 AAD 01 = AAD 02" ++ 10 ∷ [] → ⊥
unfolding digits
shared_address = texts_differ _ _ refl

abbrev pub addressed : ℕ → Roles
addressed a = record { address = Some a; talks = false; listens = false }

-- The devices have their addresses. The printer took the frame of every line but the one of SST.
abbrev pub asked_on : Tape → ℕ → HostState
asked_on tape n = record (host_on tape n) {
  crossings = 42;
  ready = true;
  loop = record { before = []; status = 0; drive = addressed 1; after = record printer { roles = addressed 2; frames = 14 } ∷ []; guest = None };
}

abbrev pub status_on : Tape → ℕ → Event
status_on tape n = event (Asks Status) reply.Ok (log_of status_pieces) (host_on tape n) (asked_on tape n)

status_acts : (tape : Tape) (n : ℕ) → Acts [] (status_on tape n)
status_acts tape n = record {
  replied = record { may = tt; whole = λ h. (refl, refl); stays = λ h. refl; told = refl; size = refl; gate = λ g. g; foreign = alike_staying (Some tape) };
  next = record {
    devices = record {
      before = tt;
      after = (record { accessory = refl; hears = record { heard = refl; heard_count = refl; room = refl; accessory = refl }; service = λ h. refl }, tt);
    };
    status = refl;
  };
  travels = record { one_talker = refl; commands = refl; roles = refl; crossings = refl; frames = record { before = tt; after = (refl, tt) }; guest = refl; short = omega arith };
  heard = λ h. record { before = tt; after = (record { more = []; few = omega arith; none = λ h. refl; heard = record { heard = refl; heard_count = refl; room = refl; accessory = refl } }, tt) };
  exchanged = λ h. record {
    reading = record { pieces = status_pieces; legal = refl; entries = refl };
    ends = refl;
    course = refl;
    begins = λ h. absurd (false_is_not_true h);
    outside = refl;
    cause = (refl, refl, refl);
    effect = refl;
    carried = tt;
  };
  lent = λ frames is. cc;
  by_plan = unfaulted [] 0 42 (log_of status_pieces) refl;
  ready = λ h. refl;
  controls = λ h. refl;
  clears = λ h g. refl;
  sound = λ h. absurd (false_is_not_true h);
  unsound = λ h g. refl;
  still = λ h. absurd (false_is_not_true (sym h));
}

pub status_step : (tape : Tape) (n : ℕ) → IsStep [] (status_on tape n)
status_step tape n = record { acts = status_acts tape n; directory = record { kept = refl; log = λ on. absurd (false_is_not_true on) }; tape = tape_other (status_on tape n) refl }

abbrev pub asked_host : HostState
asked_host = asked_on base.formatted 12

abbrev pub status_event : Event
status_event = status_on base.formatted 12

-- ---- what is no step

-- a loss is planned at this crossing
abbrev pub loss_at : ℕ → List Planned
loss_at hop = record { hop = hop; fault = Lose } ∷ []

abbrev pub sixth : List Planned
sixth = loss_at 6

pub hop_is_none : hops_of sixth ≡ [] → ⊥
hop_is_none h = cc

-- one frame more at the printer
one_more_frame : IsStep [] (record status_event { after = record asked_host { loop = record asked_host.loop { after = record printer { roles = addressed 2; frames = 15 } ∷ [] } } }) → ⊥
one_more_frame s = numbers_differ 15 14 refl s.acts.travels.frames.after.0

-- a byte at the printer that no entry of the log has brought
one_more_byte : IsStep [] (record status_event { after = record asked_host { loop = record asked_host.loop { after = record printer { roles = addressed 2; frames = 14; heard_count = 1 } ∷ [] } } }) → ⊥
one_more_byte s =
    let heard = (s.acts.heard refl).after.0 in
    numbers_differ 1 0 refl (heard.heard.heard_count ∙ ap (λ more. risen_by (length more) 0) (heard.none refl))

-- a crossing that no entry stands for
one_more_crossing : IsStep [] (record status_event { after = record asked_host { crossings = 43 } }) → ⊥
one_more_crossing s = numbers_differ 43 42 refl s.acts.travels.crossings

-- the drive is left without its address
no_address : IsStep [] (record status_event { after = record asked_host { loop = record asked_host.loop { drive = no_roles } } }) → ⊥
no_address s = numbers_differ 0 1 refl (ap (λ rs. unwrap_or (roles_at 1 rs).address 0) s.acts.travels.roles)

-- a refusal, or a fault of the medium, of a command that has neither
refused_status : IsStep [] (record status_event { reply = reply.No code.NotLif }) → ⊥
refused_status s = no_is_ok (s.acts.replied.whole (λ h. refl)).0
  where
    no_is_ok : reply.No code.NotLif ≡ reply.Ok → ⊥
    no_is_ok h = cc

medium_at_status : IsStep [] (record status_event { reply = reply.FaultMedium }) → ⊥
medium_at_status s = false_is_not_true s.acts.replied.may

-- `fault frame` where no fault is planned, and ok where one was met
fault_without_a_plan : IsStep [] (record status_event { reply = reply.FaultFrame }) → ⊥
fault_without_a_plan s = (s.acts.exchanged refl).cause.0 refl

ok_in_spite_of_a_hop : IsStep sixth status_event → ⊥
ok_in_spite_of_a_hop s = hop_is_none (s.acts.exchanged refl).cause.0

-- another tape after it
another_tape : IsStep [] (record status_event { after = record asked_host { tape = Some a_tape } }) → ⊥
another_tape s = texts_differ (record_at a_tape 4) (record_at base.formatted 4) refl (ap (λ t. record_at (unwrap_or t []) 4) (s.acts.replied.stays refl))

-- ---- a loss at the sixth crossing

-- RFC after IFC comes past both devices and not back to the host
abbrev pub lost_pieces : List Piece
lost_pieces = Cut (Command ifc) 1 (FrameLost 0) ∷ []

lost_trace : trace_text (log_of lost_pieces) ≡ lines (codes "~ 0 IFC = IFC" ∷ codes "~ 0 RFC ! 0" ∷ [])
unfolding digits
lost_trace = refl

abbrev pub lost_on : Tape → ℕ → HostState
lost_on tape n = record (host_on tape n) { crossings = 6; loop = record empty_host.loop { after = record printer { frames = 2 } ∷ [] } }

abbrev pub loss_on : Tape → ℕ → Event
loss_on tape n = event (Asks Status) reply.FaultFrame (log_of lost_pieces) (host_on tape n) (lost_on tape n)

-- by the loss that is planned there
pub sixth_lost : All (IsByPlan sixth 0 6) (log_of lost_pieces)
sixth_lost =
    let by = IsByPlan sixth 0 6 in
    All-cons by (entry 0 ifc (outcome.Back ifc)) (entry 0 rfc (outcome.Lost 0) ∷ []) (λ is. absurd (false_is_not_true is))
    (All-cons by (entry 0 rfc (outcome.Lost 0)) [] (inl (record { hop = 6; after = omega arith; up_to = omega arith; planned = refl })) (All-nil by))

lost_acts : (tape : Tape) (n : ℕ) → Acts sixth (loss_on tape n)
lost_acts tape n = record {
  replied = record { may = refl; whole = λ h g. inl refl; stays = λ h. refl; told = refl; size = refl; gate = λ g. g; foreign = alike_staying (Some tape) };
  next = record {
    devices = record {
      before = tt;
      after = (record { accessory = refl; hears = record { heard = refl; heard_count = refl; room = refl; accessory = refl }; service = λ h. refl }, tt);
    };
    status = inl refl;
  };
  travels = record { one_talker = refl; commands = refl; roles = refl; crossings = refl; frames = record { before = tt; after = (refl, tt) }; guest = refl; short = omega arith };
  heard = λ h. record { before = tt; after = (record { more = []; few = omega arith; none = λ h. refl; heard = record { heard = refl; heard_count = refl; room = refl; accessory = refl } }, tt) };
  exchanged = λ h. record {
    reading = record { pieces = lost_pieces; legal = refl; entries = refl };
    ends = refl;
    course = refl;
    begins = λ h. absurd (false_is_not_true h);
    outside = refl;
    cause = (hop_is_none, omega arith);
    effect = refl;
    carried = tt;
  };
  lent = λ frames is. cc;
  by_plan = sixth_lost;
  ready = λ h. refl;
  controls = λ h. refl;
  clears = λ h g. refl;
  sound = λ h. absurd (false_is_not_true h);
  unsound = λ h g. refl;
  still = λ h. absurd (false_is_not_true (sym h));
}

pub lost_step : (tape : Tape) (n : ℕ) → IsStep sixth (loss_on tape n)
lost_step tape n = record { acts = lost_acts tape n; directory = record { kept = refl; log = λ on. absurd (false_is_not_true on) }; tape = tape_other (loss_on tape n) refl }

abbrev pub lost_host : HostState
lost_host = lost_on base.formatted 12

abbrev pub lost_event : Event
lost_event = loss_on base.formatted 12

-- with a plan of the seventh crossing the loss is no step
lost_too_early : IsStep (loss_at 7) lost_event → ⊥
lost_too_early s = (s.acts.exchanged refl).cause.0 refl
