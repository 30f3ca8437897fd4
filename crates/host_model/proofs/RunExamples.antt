-- Worked examples of runs, computed by the checker: the status is asked for twice, and the sixth crossing is lost.
use Rattle.std.proofs.Common.{◌≡◌, ◌++◌, ℕ, List, [], ◌∷◌, Some, None, true, false, inl, inr, refl, sym, ap, arith, length, map, take, codes, replicate}
use Rattle.std.specs.Prelude.{◌-◌, ◌*◌, ◌+◌, unwrap_or, get_or, is_some}
use Rattle.std.specs.Fmt.{digits}
use Rattle.lif_model.specs.Tape.{record_at}
use Rattle.hex.proofs.OnLiterals.{hex_on_literals}
use Rattle.hex.specs.Hex.{encode_with}
use Rattle.lif_model.specs.Numbers.{two_at, four_at}
use Rattle.lif_model.specs.Gate.{is_open}
use Rattle.lif_model.specs.Directory.{name_of, entry_at, entries_of}
use Rattle.lif_model.specs.Made.{filled, new_entry}
use Rattle.lif_model.specs.Apply as volume
use Rattle.lif_model.proofs.Examples as base
use Rattle.lif_model.proofs.VolumeExamples.{a_name}
use Rattle.il_script.specs.declared.reply.Code.TheVariants as code
use Rattle.il_script.specs.declared.reply.Reply.TheVariants as reply
use Rattle.host_model.proofs.Tapes.{tape_other}
use Rattle.host_model.specs.Requests.{OfVolume, Status, Item, Asks, items_of}
use Rattle.host_model.specs.Generated.{draw, drawn, generated_lines, items_generated}
use Rattle.host_model.specs.HostStates.{HostState}
use Rattle.host_model.specs.Steps.{Acts, IsStep, Event}
use Rattle.host_model.specs.Stops.{MayBeLeft, LeftWithin}
use Rattle.host_model.specs.Runs.{Chained, all_ok, tally_of, WithTrace, Quiet, Summary, AreTextsOf, IsTextOf, event_text, output, reply_text_of}
use Rattle.host_model.specs.Histories.{RunTells}
use Rattle.host_model.specs.Endings.{SourceFailed, SinkFailed, AllOk, SomeNotOk, exit_status}
use Rattle.host_model.specs.Leaves.{AsksScript, WritesAs, IsOkAs}
use Rattle.host_model.proofs.Runs.{run_tells}
use Rattle.host_model.proofs.Steps.{alike_staying, unfaulted}
use Rattle.host_model.proofs.Small.{printer, empty_host, a_tape, not_foreign, texts_differ, numbers_differ, false_is_not_true}
use Rattle.host_model.proofs.StepExamples.{status_event, status_pieces, asked_host, log_of, lost_event, lost_step, lost_host, addressed, sixth, lines}

-- ---- two events

-- the second one begins where the first one ended
abbrev pub late_host : HostState
late_host = record asked_host { crossings = 48; loop = record asked_host.loop { after = record printer { roles = addressed 2; frames = 16 } ∷ [] } }

abbrev pub late_event : Event
late_event = record status_event { before = lost_host; after = late_host }

late_acts : Acts sixth late_event
late_acts = record {
  replied = record { may = tt; whole = λ h. (refl, refl); stays = λ h. refl; told = refl; size = refl; gate = λ g. g; foreign = alike_staying lost_host.tape };
  next = record {
    devices = record {
      before = tt;
      after = (record { accessory = refl; hears = record { heard = refl; heard_count = refl; room = refl; accessory = refl }; service = λ h. refl }, tt);
    };
    status = refl;
  };
  travels = record { one_talker = refl; commands = refl; roles = refl; crossings = refl; frames = record { before = tt; after = (refl, tt) }; guest = refl; short = omega arith };
  heard = λ h. record { before = tt; after = (record { more = []; few = omega arith; none = λ h. refl; heard = record { heard = refl; heard_count = refl; room = refl; accessory = refl } }, tt) };
  exchanged = λ h. record {
    reading = record { pieces = status_pieces; legal = refl; entries = refl };
    ends = refl;
    course = refl;
    begins = λ h. absurd (false_is_not_true h);
    outside = refl;
    cause = (refl, refl, refl);
    effect = refl;
    carried = tt;
  };
  lent = λ frames is. cc;
  by_plan = unfaulted sixth 6 48 (log_of status_pieces) refl;
  ready = λ h. refl;
  controls = λ h. refl;
  clears = λ h g. refl;
  sound = λ h. absurd (false_is_not_true h);
  unsound = λ h g. refl;
  still = λ h. absurd (false_is_not_true (sym h));
}

late_step : IsStep sixth late_event
late_step = record { acts = late_acts; directory = record { kept = refl; log = λ on. absurd (false_is_not_true on) }; tape = tape_other late_event refl }

abbrev pub events : List Event
events = lost_event ∷ late_event ∷ []

chained : Chained sixth empty_host events late_host
chained = (refl, lost_step base.formatted 12, (refl, late_step, refl))

-- the same two events in the other order are no run
turned : Chained sixth empty_host (late_event ∷ lost_event ∷ []) late_host → ⊥
turned chain = numbers_differ 6 0 refl (ap (λ s. s.crossings) chain.0)

together : RunTells sixth empty_host events late_host
together = run_tells sixth empty_host events late_host chained refl (omega arith)

-- ---- what it writes

abbrev pub texts : List (List ℕ)
texts = map reply_text_of events

texts_told : AreTextsOf events texts
texts_told = (λ told. refl, (λ told. refl, tt))

-- a reply that is told has its own text, and each event has one
other_text : IsTextOf late_event [] → ⊥
unfolding encode_with
other_text told = texts_differ _ _ refl (told (λ h. absurd (false_is_not_true h)))

text_left_out : AreTextsOf events (reply_text_of late_event ∷ []) → ⊥
text_left_out are = are.1

traced : event_text WithTrace lost_event (reply_text_of lost_event) ≡ lines (codes "~ 0 IFC = IFC" ∷ codes "~ 0 RFC ! 0" ∷ codes "fault frame" ∷ [])
unfolding digits
traced = refl

traced_whole : output WithTrace events texts ≡ lines (codes "~ 0 IFC = IFC" ∷ codes "~ 0 RFC ! 0" ∷ codes "fault frame"
    ∷ codes "~ 0 IFC = IFC" ∷ codes "~ 0 RFC = RFC" ∷ codes "~ 0 AAU = AAU" ∷ codes "~ 0 RFC = RFC"
    ∷ codes "~ 0 AAD 01 = AAD 03" ∷ codes "~ 0 UNL = UNL" ∷ codes "~ 0 RFC = RFC" ∷ codes "~ 0 TAD 01 = TAD 01" ∷ codes "~ 0 RFC = RFC" ∷ codes "~ 0 SST > 1"
    ∷ codes "~ 0 NRD = NRD" ∷ codes "~ 1 DAB 00 = DAB 00" ∷ codes "~ 1 ETO > 0" ∷ codes "~ 0 UNT = UNT" ∷ codes "~ 0 RFC = RFC" ∷ codes "status 00" ∷ codes "ok" ∷ [])
unfolding digits encode_with
traced_whole = refl

quiet : output Quiet events texts ≡ lines (codes "fault frame" ∷ codes "status 00" ∷ codes "ok" ∷ [])
unfolding encode_with
quiet = refl

summed : output Summary events texts ≡ lines (codes "generated 2" ∷ codes "ok 1" ∷ codes "error 0" ∷ codes "fault 1" ∷ [])
unfolding digits
summed = refl

-- the reply after its log, and no reply left out; a fault is no error
reply_first : event_text WithTrace lost_event (reply_text_of lost_event) ≡ lines (codes "fault frame" ∷ codes "~ 0 IFC = IFC" ∷ codes "~ 0 RFC ! 0" ∷ []) → ⊥
unfolding digits
reply_first = texts_differ _ _ refl

-- What a directory's reply tells where the tape is not told may be any text; but its log is written.
abbrev pub untold_event : Event
untold_event = record lost_event { item = Asks (OfVolume volume.Dir); before = record empty_host { tape = None } }

any_text : IsTextOf untold_event (codes "x")
any_text told = absurd (false_is_not_true (told refl))

trace_left_out : WritesAs AllOk WithTrace (untold_event ∷ []) (codes "x" ∷ []) (Some []) (Some (codes "x")) → ⊥
unfolding digits
trace_left_out written = texts_differ _ _ refl written

quiet_without_faults : output Quiet events texts ≡ lines (codes "status 00" ∷ codes "ok" ∷ []) → ⊥
unfolding encode_with
quiet_without_faults = texts_differ _ _ refl

fault_as_error : output Summary events texts ≡ lines (codes "generated 2" ∷ codes "ok 1" ∷ codes "error 1" ∷ codes "fault 0" ∷ []) → ⊥
unfolding digits
fault_as_error = texts_differ _ _ refl

-- ---- tallies

tally : tally_of (reply.Ok ∷ reply.No code.NoFile ∷ reply.FaultMedium ∷ reply.Ok ∷ reply.FaultFrame ∷ []) ≡ record { ok = 2; errors = 1; faults = 2 }
tally = refl

not_all_ok : (all_ok events ≡ false) × (all_ok (status_event ∷ []) ≡ true) × (all_ok [] ≡ true)
not_all_ok = (refl, refl, refl)

-- ---- how runs end

ends_so : IsOkAs SomeNotOk events
ends_so = refl

ends_otherwise : IsOkAs AllOk events → ⊥
ends_otherwise h = false_is_not_true h

statuses : (exit_status AllOk ≡ 0) × (exit_status SomeNotOk ≡ 1) × (exit_status SourceFailed ≡ 5) × (exit_status SinkFailed ≡ 6)
statuses = (refl, refl, refl, refl)

-- a line that a failed read cut is not performed
cut_line : AsksScript SourceFailed (codes "status" ++ 10 ∷ codes "status") (Some (codes "us")) (Asks Status ∷ [])
cut_line = record { taken = codes "status" ++ 10 ∷ codes "stat"; rest = codes "us"; known = refl; whole = refl; are = refl }

-- where the sink failed in the second text
written_front : WritesAs SinkFailed Quiet events texts (Some []) (Some (lines (codes "fault frame" ∷ []) ++ codes "stat"))
unfolding encode_with
written_front = record { done = lost_event ∷ []; last = late_event; are = refl; said = reply_text_of lost_event ∷ []; text = reply_text_of late_event; texts_are = refl; size = 4; front = omega arith; written = refl }

-- ---- a script that is generated

-- the first numbers that are drawn of the seed 1
draws : (drawn (draw 1) ≡ 16838) × (drawn (draw (draw 1)) ≡ 5758) × (drawn (draw (draw (draw 1))) ≡ 10113) × (drawn (draw (draw (draw (draw 1)))) ≡ 17515)
draws = (refl, refl, refl, refl)

generated : generated_lines 1 7
    ≡ codes "format GENTAP 64" ∷ codes "purge F06" ∷ codes "fetch F01" ∷ codes "fetch F11" ∷ codes "fetch F02" ∷ codes "purge F04" ∷ codes "fetch F13" ∷ []
generated = refl

none_generated : generated_lines 1 0 ≡ []
none_generated = refl

abbrev pub last_line : List (List ℕ) → List ℕ
last_line texts = get_or texts (length texts - 1) []

-- a store draws a third number: 225 bytes from 0C hex on
stored_line : take 36 (last_line (generated_lines 1 8)) ≡ codes "store F12 0001 00000000 0C0D0E0F1011"
unfolding encode_with
stored_line = refl

stored_size : length (last_line (generated_lines 1 8)) ≡ 24 + 2 * 225
unfolding encode_with
stored_size = refl

-- what the lines ask for is what they ask for as a script
generated_items : items_generated 1 4 ≡ items_of (lines (generated_lines 1 4))
unfolding hex_on_literals
generated_items = refl

first_items : items_generated 1 2 ≡ Asks (OfVolume (volume.Format (codes "GENTAP") 64)) ∷ Asks (OfVolume (volume.Purge (codes "F06       "))) ∷ []
first_items = refl

-- ---- power stops

abbrev pub asks_store : Item
asks_store = Asks (OfVolume (volume.Store a_name 1 (replicate 4 0) (codes "AB")))

-- within a store a stop leaves the volume before, or the one with the file
left_before : MayBeLeft asks_store empty_host base.formatted
unfolding two_at four_at name_of is_open entry_at entries_of
left_before = record { own = λ gate. (inl refl, refl); foreign = λ t was foreign. absurd (not_foreign base.formatted t refl was foreign) }

left_behind : MayBeLeft asks_store empty_host a_tape
unfolding two_at four_at name_of is_open entry_at entries_of filled new_entry
left_behind = record { own = λ gate. (inr refl, refl); foreign = λ t was foreign. absurd (not_foreign base.formatted t refl was foreign) }

-- and no tape without a volume
left_blank : MayBeLeft asks_store empty_host (replicate 12 base.blank) → ⊥
unfolding two_at four_at name_of is_open entry_at entries_of filled new_entry
left_blank left = elim ((left.own refl).0) [
  | inl h ↦ false_is_not_true (ap is_some h)
  | inr h ↦ false_is_not_true (ap is_some h)
]

-- within a command of the loop it leaves the tape as it is
left_by_status : MayBeLeft (Asks Status) empty_host a_tape → ⊥
left_by_status h = texts_differ (record_at base.formatted 4) (record_at a_tape 4) refl (ap (λ t. record_at (unwrap_or t []) 4) h)

left_by_run : LeftWithin events late_host base.formatted
left_by_run = inl refl
