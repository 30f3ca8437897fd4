-- Worked examples of what one command leaves and of the exchanges that it makes, computed by the checker.
use Rattle.std.proofs.Common.{◌≡◌, ℕ, List, [], ◌∷◌, Some, None, true, false, refl, arith, codes, replicate, Bool, ◌+◌, ◌++◌}
use Rattle.lif_model.specs.Numbers.{two_at, four_at}
use Rattle.lif_model.specs.Fit.{At}
use Rattle.lif_model.specs.Gate.{is_open}
use Rattle.lif_model.specs.Directory.{name_of, entry_at, entries_of}
use Rattle.lif_model.specs.Made.{filled}
use Rattle.lif_model.specs.Apply.{Store}
use Rattle.lif_model.proofs.Examples as base
use Rattle.lif_model.proofs.VolumeExamples.{a_name}
use Rattle.il_frames.specs.declared.frame.Class.TheVariants as class
use Rattle.il_frames.specs.Frames.{framed}
use Rattle.il_frames.specs.declared.frame.Frame.{Frame}
use Rattle.il_frames.specs.NamedFrames.{unl, lad}
use Rattle.loop_model.specs.Exchanges.{Command, Identify, Echo, Send, Receive, Sst, Sai, Stopped, Piece, Whole}
use Rattle.loop_model.specs.Polls.{poll_enable, poll_unconfigure}
use Rattle.loop_model.specs.Units.{RecordUnit}
use Rattle.il_script.specs.declared.reply.Code.TheVariants as code
use Rattle.il_script.specs.declared.reply.Reply.{Reply}
use Rattle.il_script.specs.declared.reply.Reply.TheVariants as reply
use Rattle.host_model.specs.Requests.{Poll, OfVolume, Devices, Status, Say, Item, Asks}
use Rattle.host_model.specs.LoopStates.{LoopState}
use Rattle.host_model.specs.HostStates.{volume_at}
use Rattle.host_model.specs.Next.{Next}
use Rattle.host_model.specs.Steps.{IsCarried, IsStoredAt}
use Rattle.host_model.specs.Courses.{keeps_course, course_of}
use Rattle.host_model.proofs.StepExamples.{told, asking, status_pieces, lost_pieces}
use Rattle.host_model.proofs.Small.{printer, empty_host, numbers_differ, false_is_not_true}

-- ---- transfers

abbrev pub stored : (first : ℕ) (bytes : List ℕ) → List RecordUnit
stored first bytes = record { writes = true; first = first; bytes = bytes; status = Some 0 } ∷ []

abbrev pub asks_store : Item
asks_store = Asks (OfVolume (Store a_name 1 (replicate 4 0) (codes "AB")))

-- a file of two bytes goes to record 4, filled up to a record
carried_out : IsCarried asks_store reply.Ok 12 (volume_at empty_host) (stored 4 (base.filled (codes "AB")))
unfolding two_at four_at name_of is_open entry_at entries_of filled
carried_out = (refl, refl)

-- not to another record, and not without the zeros
carried_elsewhere : IsCarried asks_store reply.Ok 12 (volume_at empty_host) (stored 5 (base.filled (codes "AB"))) → ⊥
unfolding two_at four_at name_of is_open entry_at entries_of filled
carried_elsewhere = λ h. false_is_not_true h.0

carried_short : IsCarried asks_store reply.Ok 12 (volume_at empty_host) (stored 4 (codes "AB")) → ⊥
unfolding two_at four_at name_of is_open entry_at entries_of filled
carried_short = λ h. false_is_not_true h.0

-- and not by a transfer whose status is not 0
carried_by_a_bad_one : IsCarried asks_store reply.Ok 12 (volume_at empty_host)
    (record { writes = true; first = 4; bytes = base.filled (codes "AB"); status = Some 0x42 } ∷ []) → ⊥
unfolding two_at four_at name_of is_open entry_at entries_of filled
carried_by_a_bad_one = λ h. false_is_not_true h.0

-- and a file of two records by one transfer alone
abbrev long_bytes : List ℕ
long_bytes = replicate 512 7

carried_at_once : IsStoredAt (At 0 4) long_bytes (stored 4 long_bytes)
unfolding filled
carried_at_once = (refl, refl)

carried_in_parts : IsStoredAt (At 0 4) long_bytes (stored 4 (replicate 256 7) ++ stored 5 (replicate 256 7)) → ⊥
unfolding filled
carried_in_parts = λ h. false_is_not_true h.1

-- ---- what the printer hears

-- with a printer that has heard these bytes, so many in all
abbrev pub heard : List ℕ → ℕ → LoopState
heard bytes count = record empty_host.loop { after = record printer { heard = bytes; heard_count = count } ∷ [] }

abbrev pub Says : Reply → LoopState → Type 0
Says r y = Next (Asks (Say (codes "HI"))) r empty_host.loop y

said : Says reply.Ok (heard (codes "HI") 2)
said = record {
  devices = record { before = tt; after = (record { accessory = refl; hears = record { heard = refl; heard_count = refl; room = refl; accessory = refl }; service = λ h. refl }, tt) };
  status = refl;
}

-- after a fault the first ones, and one byte of any value
said_in_part : Says reply.FaultFrame (heard (codes "HX") 2)
said_in_part = record {
  devices = record {
    before = tt;
    after = (
      record {
        accessory = refl;
        hears = (1, omega arith, record { more = codes "X"; few = omega arith; heard = record { heard = refl; heard_count = refl; room = refl; accessory = refl } });
        service = λ h. refl;
      },
      tt,
    );
  };
  status = refl;
}

-- with ok not a front alone, and with a refusal nothing
said_short : Says reply.Ok (heard (codes "H") 1) → ⊥
said_short n = numbers_differ 1 2 refl n.devices.after.0.hears.heard_count

refused_and_said : Says (reply.No code.NoPrinter) (heard (codes "HI") 2) → ⊥
refused_and_said n = numbers_differ 2 0 refl n.devices.after.0.hears.heard_count

-- `status` makes no printer hear
heard_at_status : Next (Asks Status) reply.Ok empty_host.loop (heard (codes "H") 1) → ⊥
heard_at_status n = numbers_differ 1 0 refl n.devices.after.0.hears.heard_count

-- ---- the drive's status

abbrev pub at_status : ℕ → LoopState
at_status n = record empty_host.loop { status = n }

-- telling it ends it; asking for the accessory IDs does not
told_and_kept : Next (Asks Status) reply.Ok (at_status 2) (at_status 2) → ⊥
told_and_kept n = numbers_differ 2 0 refl n.status

cleared_by_devices : Next (Asks Devices) reply.Ok (at_status 2) (at_status 0) → ⊥
cleared_by_devices n = numbers_differ 0 2 refl n.status

left_by_a_volume : Next asks_store reply.FaultMedium (at_status 0) (at_status 2) → ⊥
left_by_a_volume n = numbers_differ 2 0 refl n.status

-- ---- courses

-- asking for the status, of a loop that is ready or not
abbrev pub keeps_status : Bool → List Piece → Bool
keeps_status ready pieces = keeps_course empty_host.loop ready (course_of (Asks Status) empty_host.loop) pieces

-- the loop is addressed first exactly where it is not ready
addresses_first : (keeps_status false status_pieces ≡ true) × (keeps_status true (Whole asking ∷ []) ≡ true)
    × (keeps_status true status_pieces ≡ false) × (keeps_status false (Whole asking ∷ []) ≡ false)
addresses_first = (refl, refl, refl, refl)

-- a broken beginning
breaks_off_early : keeps_status false lost_pieces ≡ true
breaks_off_early = refl

-- the status is asked for once, and of the drive
asked_twice : keeps_status true (Whole asking ∷ Whole asking ∷ []) ≡ false
asked_twice = refl

asked_the_printer : keeps_status true (Whole (Receive 2 None Sst (Stopped 2 [] told)) ∷ []) ≡ false
asked_the_printer = refl

-- the IDs of both devices, and then the bytes for the printer
abbrev pub byte : ℕ → Echo
byte b = record { sent = framed class.Dab b; back = framed class.Dab b }

abbrev pub id_told : ℕ → ℕ → Piece
id_told a id = Whole (Receive a None Sai (Stopped a [] (byte id)))

abbrev pub said_hi : Piece
said_hi = Whole (Send 2 None (byte 72 ∷ byte 73 ∷ []))

abbrev pub keeps_hi : List Piece → Bool
keeps_hi pieces = keeps_course empty_host.loop true (course_of (Asks (Say (codes "HI"))) empty_host.loop) pieces

says_hi : (keeps_hi (id_told 1 16 ∷ id_told 2 32 ∷ said_hi ∷ []) ≡ true) × (keeps_hi (said_hi ∷ []) ≡ false) × (keeps_hi (id_told 1 16 ∷ id_told 2 32 ∷ []) ≡ false)
says_hi = (refl, refl, refl)

-- each device gets its place in the poll before the identify frame goes round
abbrev pub sent : Frame → Piece
sent f = Whole (Command f)

abbrev pub placed : ℕ → List Piece
placed a = sent unl ∷ sent (lad a) ∷ sent (poll_enable (7 + a)) ∷ []

abbrev pub identified : List Piece
identified = sent unl ∷ Whole (Identify (framed class.Idy 0)) ∷ sent poll_unconfigure ∷ []

abbrev pub keeps_poll : List Piece → Bool
keeps_poll pieces = keeps_course empty_host.loop true (course_of (Asks Poll) empty_host.loop) pieces

polls : (keeps_poll (placed 1 ++ placed 2 ++ identified) ≡ true) × (keeps_poll (placed 1 ++ identified) ≡ false) × (keeps_poll (placed 2 ++ placed 1 ++ identified) ≡ false)
polls = (refl, refl, refl)
