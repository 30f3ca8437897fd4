-- Worked examples of what is no step: each event is refused by one field of it.
use Rattle.std.proofs.Common.{◌≡◌, ◌==◌, ◌++◌, ◌∙◌, ◌≤◌, ◌<◌, ℕ, zero, suc, Bool, if◌then◌else◌, List, [], ◌∷◌, Some, None, false, true, inl, inr, length, replicate, refl, sym, ap, subst, arith, flat_map, codes, set}
use Rattle.std.specs.Prelude.{get_or, unwrap_or}
use Rattle.std.proofs.lemmas.List.{length-replicate}
use Rattle.std.proofs.lemmas.List.Elements.{All-head}
use Rattle.lif_model.specs.Numbers.{two_at, four_at}
use Rattle.lif_model.specs.Gate.{is_open}
use Rattle.lif_model.specs.Directory.{name_of, entry_at, entries_of}
use Rattle.lif_model.specs.Shelf.{piece}
use Rattle.lif_model.specs.Redo.{zeros, targets_record, is_valid}
use Rattle.lif_model.specs.Tape.{Tape, record_at}
use Rattle.lif_model.specs.Apply as volume
use Rattle.lif_model.proofs.Examples as base
use Rattle.lif_model.proofs.VolumeExamples.{file, a_name}
use Rattle.il_frames.specs.declared.frame.Class.TheVariants as class
use Rattle.il_frames.specs.declared.entry.Entry.{Entry}
use Rattle.il_frames.specs.declared.entry.Outcome.TheVariants as outcome
use Rattle.il_frames.specs.Frames.{framed}
use Rattle.il_frames.specs.NamedFrames.{entry, ifc, rfc}
use Rattle.loop_model.specs.Exchanges as loops
use Rattle.loop_model.specs.Loops.{host_loop}
use Rattle.loop_model.specs.Units.{units_of}
use Rattle.loop_model.specs.Effect.{UnitsEffect}
use Rattle.il_script.specs.declared.reply.Reply.TheVariants as reply
use Rattle.il_ring.specs.declared.plan.PlanFault.TheVariants.{Lose, Alter}
use Rattle.il_ring.specs.Fates.{CameSo, IsByPlan}
use Rattle.host_model.specs.Requests.{Item, OfVolume, Devices, Paper, Asks}
use Rattle.host_model.specs.HostStates.{HostState, log_room}
use Rattle.host_model.specs.Courses.{course_of, keeps_course}
use Rattle.host_model.specs.Steps.{Event, IsStep, event}
use Rattle.host_model.proofs.Small.{printer, empty_host, a_tape, host_on, texts_differ, numbers_differ, false_is_not_true}
use Rattle.host_model.proofs.StepExamples.{asked_host, sixth, lost_event, status_event}

-- ---- the tape

-- a command of the volume that sent nothing
abbrev pub asks_dir : Item
asks_dir = Asks (OfVolume volume.Dir)

abbrev pub dir_from : HostState → HostState → Event
dir_from before after = event asks_dir reply.FaultMedium [] before after

-- a tape that was not told is
told_late : IsStep [] (dir_from (record empty_host { tape = None }) empty_host) → ⊥
told_late s = false_is_not_true (sym s.acts.replied.told)

-- the medium has another size
other_size : IsStep [] (record status_event { after = record asked_host { records = 13 } }) → ⊥
other_size s = numbers_differ 13 12 refl s.acts.replied.size

-- an open redo over a volume without a redo file, whose file A holds the gate record
abbrev pub foreign_tape : Tape
foreign_tape = base.header ∷ base.blank ∷ base.filled (file a_name 4 6 ++ base.end_entry) ∷ base.blank ∷ base.blank ∷ base.blank ∷ base.blank ∷ base.blank
    ∷ base.filled (codes "LIFREDO1 OPEN   ") ∷ base.filled (codes "LIFREDO1" ++ (0 ∷ 1 ∷ 0 ∷ 4 ∷ [])) ∷ base.blank ∷ base.blank ∷ []

abbrev pub foreign_host : HostState
foreign_host = host_on foreign_tape 12

-- one comes to be
a_foreign_gate : IsStep [] (dir_from empty_host foreign_host) → ⊥
unfolding four_at two_at entries_of entry_at name_of is_open is_valid targets_record piece zeros
a_foreign_gate s = false_is_not_true (sym (s.acts.replied.gate refl))

-- record 0 of such a tape is written over
over_the_header : IsStep [] (dir_from foreign_host (host_on (set foreign_tape 0 base.blank) 12)) → ⊥
unfolding four_at two_at entries_of entry_at name_of is_open is_valid targets_record piece zeros
over_the_header s =
    let settles = s.acts.replied.foreign foreign_tape refl refl in
    numbers_differ 0 0x80 refl (ap (λ r. get_or r 0 0) (settles.same 0 (λ h. cc)))

-- ---- the loop

-- a printer with another accessory ID
other_id : IsStep [] (record status_event { after = record asked_host { loop = record asked_host.loop { after = record printer { accessory = Some 33; frames = 14 } ∷ [] } } }) → ⊥
other_id s = numbers_differ 33 32 refl (ap (λ o. unwrap_or o 0) s.acts.next.devices.after.0.accessory)

-- the drive has a status, though it was told
other_status : IsStep [] (record status_event { after = record asked_host { loop = record asked_host.loop { status = 3 } } }) → ⊥
other_status s = numbers_differ 3 0 refl s.acts.next.status

-- a device that does not talk sends a byte
out_of_turn : IsStep [] (record status_event { log = entry 2 (framed class.Dab 0) (outcome.Back (framed class.Dab 0)) ∷ [] }) → ⊥
out_of_turn s = false_is_not_true s.acts.travels.one_talker

-- a log of more entries than there is room for
abbrev pub long_log : ℕ → List Entry
long_log size = replicate size (entry 0 ifc (outcome.Back ifc))

too_long : (size : ℕ) → log_room 12 < size → IsStep [] (record status_event { log = long_log size }) → ⊥
too_long size long s =
    let fits : length (long_log size) ≤ log_room 12 = s.acts.travels.short in
    let is : length (long_log size) ≡ size = length-replicate size (entry 0 ifc (outcome.Back ifc)) in
    absurd (omega (arith, fits, is, long))

-- ---- the plan

-- at the sixth crossing a loss is planned, and a byte came back as another
abbrev pub altered_log : List Entry
altered_log = entry 0 (framed class.Dab 0) (outcome.Back (framed class.Dab 1)) ∷ []

loss_as_alteration : IsStep sixth (record lost_event { log = altered_log }) → ⊥
loss_as_alteration s = by (All-head (IsByPlan sixth 0 6) (entry 0 (framed class.Dab 0) (outcome.Back (framed class.Dab 1))) [] s.acts.by_plan refl)
  where
    no_alteration : (hop change : ℕ) (b : Bool) → (if b then Some Lose else None) ≡ Some (Alter change) → ⊥
    no_alteration hop change true is = cc
    no_alteration hop change false is = cc

    by : CameSo sixth 0 6 (framed class.Dab 0) (framed class.Dab 1) → ⊥
    by (inl same) = numbers_differ 1 0 refl same
    by (inr altered) = no_alteration altered.1.hop altered.0 (6 == altered.1.hop) altered.1.planned

-- ---- the host

-- the loop is not ready after the status
not_ready : IsStep [] (record status_event { after = record asked_host { ready = false } }) → ⊥
not_ready s = false_is_not_true (s.acts.ready refl)

-- a store that was not sound is, though nothing cleared the drive
sound_for_nothing : IsStep [] (record status_event { after = record asked_host { sound = true } }) → ⊥
sound_for_nothing s = false_is_not_true (sym (s.acts.unsound refl refl))

-- `paper` sends frames, or leaves another host
paper_by_frames : IsStep [] (event (Asks Paper) reply.Ok (entry 0 ifc (outcome.Back ifc) ∷ []) empty_host empty_host) → ⊥
paper_by_frames s = let some : suc zero ≡ zero = ap length (s.acts.still refl).0 in cc

paper_readies : IsStep [] (event (Asks Paper) reply.Ok [] empty_host (record empty_host { ready = true })) → ⊥
paper_readies s = false_is_not_true (sym (ap (λ h. h.ready) (s.acts.still refl).1))

-- ---- exchanges

-- an exchange begins with an entry of the host
abbrev pub Begins : List Entry → Type 0
Begins log = (e : Entry) × (more : List Entry) × (log ≡ e ∷ more) × (e.source ≡ 0)

exchange_begins : (x : loops.Exchange) → Begins (loops.entries_of 0 x)
exchange_begins (loops.Command f) = (_, _, refl, refl)
exchange_begins (loops.Address devices) = (_, _, refl, refl)
exchange_begins (loops.Send a number echoes) = (_, _, refl, refl)
exchange_begins (loops.Receive a number start answer) = (_, _, refl, refl)
exchange_begins (loops.Identify f) = (_, _, refl, refl)

break_begins : (e : Entry) (b : loops.Break) → e.source ≡ 0 → Begins (loops.break_entries e b)
break_begins e (loops.FrameLost q) of_host = (_, _, refl, of_host)
break_begins e (loops.HostAltered f) of_host = (_, _, refl, of_host)
break_begins e (loops.TalkerAltered f end) of_host = (_, _, refl, of_host)

cut_begins : (log : List Entry) (n : ℕ) (b : loops.Break) → Begins log → Begins (loops.cut_at log n b)
cut_begins log zero b begins = subst (λ (es : List Entry). Begins (loops.cut_at es zero b)) (sym begins.2) (break_begins begins.0 b begins.3)
cut_begins log (suc n) b begins = subst (λ (es : List Entry). Begins (loops.cut_at es (suc n) b)) (sym begins.2) (begins.0, _, refl, begins.3)

piece_begins : (p : loops.Piece) → Begins (loops.piece_entries 0 p)
piece_begins (loops.Whole x) = exchange_begins x
piece_begins (loops.Cut x n b) = cut_begins (loops.entries_of 0 x) n b (exchange_begins x)

-- so no log is a list of them that a device begins, and an empty one has none
abbrev pub first_source : List Entry → ℕ
first_source [] = 0
first_source (e ∷ log) = e.source

begun_by_host : (pieces : List loops.Piece) → first_source (flat_map (loops.piece_entries 0) pieces) ≡ 0
begun_by_host [] = refl
begun_by_host (p ∷ pieces) =
    let begins = piece_begins p in
    ap (λ es. first_source (es ++ flat_map (loops.piece_entries 0) pieces)) begins.2 ∙ begins.3

no_pieces : (pieces : List loops.Piece) → [] ≡ flat_map (loops.piece_entries 0) pieces → pieces ≡ []
no_pieces [] none = refl
no_pieces (p ∷ pieces) none =
    let begins = piece_begins p in
    let some : zero ≡ suc (length (begins.1 ++ flat_map (loops.piece_entries 0) pieces)) =
    ap length (none ∙ ap (λ es. es ++ flat_map (loops.piece_entries 0) pieces) begins.2) in
    cc

begun_by_a_device : IsStep [] (record status_event { log = entry 5 rfc (outcome.Back rfc) ∷ [] }) → ⊥
begun_by_a_device s =
    numbers_differ 5 0 refl (ap first_source (s.acts.exchanged refl).reading.entries ∙ begun_by_host (s.acts.exchanged refl).reading.pieces)

-- the devices are named by no frame
abbrev pub ready_host : HostState
ready_host = record asked_host { sound = true }

named_by_nothing : IsStep [] (event (Asks Devices) reply.Ok [] ready_host ready_host) → ⊥
named_by_nothing s =
    false_is_not_true (subst (λ pieces. keeps_course ready_host.loop true (course_of (Asks Devices) ready_host.loop) pieces ≡ true)
    (no_pieces (s.acts.exchanged refl).reading.pieces (s.acts.exchanged refl).reading.entries) (s.acts.exchanged refl).course)

-- the tape is another, and no record was written
written_by_nothing : IsStep [] (event asks_dir reply.Ok [] ready_host (record ready_host { tape = Some a_tape })) → ⊥
written_by_nothing s =
    texts_differ (record_at a_tape 4) (record_at base.formatted 4) refl (ap (λ t. record_at t 4)
    (subst (λ pieces. UnitsEffect (units_of (host_loop 2 1) pieces) base.formatted a_tape)
    (no_pieces (s.acts.exchanged refl).reading.pieces (s.acts.exchanged refl).reading.entries) (s.acts.exchanged refl).effect))
