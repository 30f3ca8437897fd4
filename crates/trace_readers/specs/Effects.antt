-- The units that write, and how an entry after another makes and ends them.
use Rattle.std.specs.Prelude.{◌≡◌, ◌≤◌, ℕ, ◌+◌, ◌*◌, ◌==◌, nat_lt, length, map, take, true, if◌then◌else◌, List, [], ◌∷◌, ◌++◌, Option, Some, None, option_map, option_to_list, flat_map}
use Rattle.std.specs.List.{list_all}
use Rattle.il_frames.specs.declared.frame.Class.{Class}
use Rattle.il_frames.specs.declared.frame.Class.TheVariants as class
use Rattle.il_frames.specs.declared.frame.Frame.{Frame}
use Rattle.il_frames.specs.declared.entry.Entry.{Entry}
use Rattle.il_frames.specs.Frames.{class_of, byte_of}
use Rattle.lif_model.specs.Tape.{Tape, IsTape}
use Rattle.loop_model.specs.Loops.{Loop}
use Rattle.loop_model.specs.Exchanges.{Piece, piece_entries, is_piece}
use Rattle.loop_model.specs.Units.{RecordUnit, units_of}
use Rattle.trace_readers.specs.Places.{fate_of}
use Rattle.loop_model.specs.Effect.{is_good}
use Rattle.trace_readers.specs.declared.expected.UnitFault.{UnitFault}
use Rattle.trace_readers.specs.Expected.{Known, write_fault, known_after, write_unit, unit_fault, after_unit}
use Rattle.trace_readers.specs.declared.exchanges.Fate.{Fate}
use Rattle.trace_readers.specs.declared.exchanges.Fate.TheVariants as fate
use Rattle.trace_readers.specs.declared.effects.Cue.{Cue}
use Rattle.trace_readers.specs.declared.effects.Cue.TheVariants as cue
use Rattle.trace_readers.specs.declared.effects.Progress.{Progress}
use Rattle.trace_readers.specs.declared.effects.Progress.TheVariants as progress_to
use Rattle.trace_readers.specs.declared.effects.Told.{Told}
use Rattle.trace_readers.specs.declared.effects.Told.TheVariants as told
use Rattle.trace_readers.specs.declared.effects.Stage.{Stage}
use Rattle.trace_readers.specs.declared.effects.Stage.TheVariants as stage
use Rattle.trace_readers.specs.declared.effects.Ended.{Ended}

-- ---- where a unit ends

-- by some reading the last entry of the log ends this unit
pub record EndsUnit (l : Loop) (log : List Entry) (e : Entry) (w : RecordUnit) : Type 0 where
  pub before : List Piece
  pub last : Piece
  pub legal : list_all (is_piece l) (before ++ last ∷ []) ≡ true
  pub entries : log ++ e ∷ [] ≡ flat_map (piece_entries l.controller) (before ++ last ∷ [])
  pub unit : units_of l (before ++ last ∷ []) ≡ units_of l before ++ w ∷ []

-- ---- frames

-- what a command of this byte is to the drive at party d
abbrev pub command_cue : ℕ → ℕ → Cue
command_cue d byte =
    if byte == 0x3F then cue.Unlisten
    else if byte == 0xA2 then cue.Write
    else if byte == 0xA4 then cue.Seek
    else if byte == 0x20 + d then cue.Listen
    else if byte == 0x40 + d then cue.Talk
    else cue.Other

-- what a ready message of this byte is
abbrev pub ready_cue : ℕ → Cue
ready_cue byte =
    if byte == 0x00 then cue.Ready
    else if byte == 0x41 then cue.Failed
    else if byte == 0x61 then cue.Status
    else cue.Other

-- what a frame of this class and byte is
abbrev pub class_cue : ℕ → Class → ℕ → Cue
class_cue d class.Dab byte = cue.Data byte
class_cue d class.Dsr byte = cue.Data byte
class_cue d class.End byte = cue.Data byte
class_cue d class.Esr byte = cue.Data byte
class_cue d class.Cmd byte = command_cue d byte
class_cue d class.Rdy byte = ready_cue byte
class_cue d class.Idy byte = cue.Other
class_cue d class.Isr byte = cue.Other

-- what a frame is to the drive at party d
abbrev pub cue_of : ℕ → Frame → Cue
cue_of d f = class_cue d (class_of f) (byte_of f)

-- ---- stages

-- the bytes of a status, with one more
abbrev pub told_more : Told → ℕ → Told
told_more told.Nothing byte = told.One byte
told_more (told.One b) byte = told.More
told_more told.More byte = told.More

-- what a unit can go on from after UNL
abbrev pub progress : Stage → Progress
progress (stage.Sought n) = progress_to.Sought n
progress (stage.Sent n) = progress_to.Sent n
progress s = progress_to.Nothing

-- after the drive's listen address
abbrev pub after_listen : Stage → Stage
after_listen (stage.Unlistened p) = stage.Listening p
after_listen s = stage.Clear

-- after the drive's talk address: where bytes of a unit went before, its status can follow
abbrev pub talker_named : Stage → Stage
talker_named (stage.Unlistened (progress_to.Sent n)) = stage.Talking n
talker_named s = stage.Clear

-- after DDL 4
abbrev pub after_seek : Stage → Stage
after_seek (stage.Listening p) = stage.Seeking
after_seek s = stage.Clear

-- after DDL 2: bytes of a unit can follow a seek alone
abbrev pub after_write : Stage → Stage
after_write (stage.Listening (progress_to.Sought n)) = stage.Writing n
after_write s = stage.Clear

-- after SST
abbrev pub after_status : Stage → Stage
after_status (stage.Talking n) = stage.Asked n told.Nothing
after_status s = stage.Clear

-- after RFC, with which a status is complete
abbrev pub after_ready : Stage → Stage
after_ready (stage.Asked n t) = stage.Clear
after_ready s = s

-- a status that is asked for stays so
abbrev pub still_asked : Stage → Stage
still_asked (stage.Asked n t) = stage.Asked n t
still_asked s = stage.Clear

-- after a data or end frame that came back as it was
abbrev pub byte_sent : Stage → ℕ → Stage
byte_sent stage.Seeking byte = stage.High byte
byte_sent (stage.High high) byte = stage.Sought (256 * high + byte)
byte_sent (stage.Writing n) byte = stage.Sent n
byte_sent (stage.Sent n) byte = stage.Sent n
byte_sent (stage.Asked n t) byte = stage.Asked n (told_more t byte)
byte_sent s byte = stage.Clear

-- after a frame that was not lost, nor altered
abbrev pub after_heard : Stage → Cue → Stage
after_heard s cue.Unlisten = stage.Unlistened (progress s)
after_heard s cue.Listen = after_listen s
after_heard s cue.Talk = talker_named s
after_heard s cue.Seek = after_seek s
after_heard s cue.Write = after_write s
after_heard s cue.Status = after_status s
after_heard s cue.Ready = after_ready s
after_heard s cue.Failed = stage.Clear
after_heard s (cue.Data byte) = byte_sent s byte
after_heard s cue.Other = still_asked s

-- after any frame: one that was lost ends its exchange, and so does an altered byte of the host
abbrev pub stage_after : Stage → Cue → Fate → Stage
stage_after s c fate.Returned = after_heard s c
stage_after s c fate.Altered = still_asked s
stage_after s c (fate.Taken q) = after_heard s c
stage_after s c fate.Lost = stage.Clear

-- ---- the ends of units

-- a unit on record n, without a status
abbrev pub unfinished : ℕ → Option Ended
unfinished n = Some (record { first = n; status = None })

-- UNL, RFC, the talk address, SST and what follows it, each lost, after the bytes of a unit; and a byte of its own
abbrev pub ended_by_loss : Stage → Cue → Option Ended
ended_by_loss (stage.Writing n) (cue.Data byte) = unfinished n
ended_by_loss (stage.Sent n) (cue.Data byte) = unfinished n
ended_by_loss (stage.Sent n) cue.Unlisten = unfinished n
ended_by_loss (stage.Unlistened (progress_to.Sent n)) cue.Ready = unfinished n
ended_by_loss (stage.Unlistened (progress_to.Sent n)) cue.Talk = unfinished n
ended_by_loss (stage.Talking n) cue.Ready = unfinished n
ended_by_loss (stage.Talking n) cue.Status = unfinished n
ended_by_loss (stage.Asked n t) c = unfinished n
ended_by_loss s c = None

-- a byte of the unit came back as another
abbrev pub ended_by_change : Stage → Cue → Option Ended
ended_by_change (stage.Writing n) (cue.Data byte) = unfinished n
ended_by_change (stage.Sent n) (cue.Data byte) = unfinished n
ended_by_change s c = None

-- ETE after a byte of the status that was altered
abbrev pub ended_failed : Stage → Option Ended
ended_failed (stage.Asked n t) = unfinished n
ended_failed s = None

-- the last RFC after a status of one byte
abbrev pub ended_ready : Stage → Option Ended
ended_ready (stage.Asked n (told.One byte)) = Some (record { first = n; status = Some byte })
ended_ready s = None

-- a frame that was not lost, nor altered
abbrev pub ended_heard : Stage → Cue → Option Ended
ended_heard s cue.Failed = ended_failed s
ended_heard s cue.Ready = ended_ready s
ended_heard s c = None

-- the unit that ends by a frame, if one does
abbrev pub ended : Stage → Cue → Fate → Option Ended
ended s c fate.Returned = ended_heard s c
ended s c fate.Altered = ended_by_change s c
ended s c (fate.Taken q) = ended_heard s c
ended s c fate.Lost = ended_by_loss s c

-- ---- a log

-- what an entry is to the drive, and how its frame ended
pub record Signal : Type 0 where
  pub cue : Cue
  pub fate : Fate

-- the signal of an entry
abbrev pub signal_of : ℕ → Entry → Signal
signal_of d e = record { cue = cue_of d e.frame; fate = fate_of e.frame e.outcome }

-- how far a log has come in a unit that writes, and the bytes of that unit
pub record Course : Type 0 where
  pub stage : Stage
  pub bytes : List ℕ

-- before any entry
abbrev pub no_course : Course
no_course = record { stage = stage.Clear; bytes = [] }

-- a byte of the unit counts when it is sent, also where its frame is lost or altered
abbrev pub bytes_and : Stage → ℕ → List ℕ → List ℕ
bytes_and (stage.Writing n) byte bytes = byte ∷ []
bytes_and (stage.Sent n) byte bytes = bytes ++ byte ∷ []
bytes_and s byte bytes = bytes

-- the bytes of the unit after a frame
abbrev pub bytes_after : Stage → Cue → List ℕ → List ℕ
bytes_after s (cue.Data byte) bytes = bytes_and s byte bytes
bytes_after s c bytes = bytes

-- the course after one more signal
abbrev pub course_step : Course → Signal → Course
course_step c s = record { stage = stage_after c.stage s.cue s.fate; bytes = bytes_after c.stage s.cue c.bytes }

-- the unit that ended so, of these bytes
abbrev pub unit_ended : List ℕ → Option Ended → Option RecordUnit
unit_ended bytes o = option_map (λ x. write_unit x.first bytes x.status) o

-- the unit that ends by this signal
abbrev pub unit_told : Course → Signal → Option RecordUnit
unit_told c s = unit_ended (bytes_after c.stage s.cue c.bytes) (ended c.stage s.cue s.fate)

-- after a log
abbrev pub course_after : ℕ → Course → List Entry → Course
course_after d c [] = c
course_after d c (e ∷ log) = course_after d (course_step c (signal_of d e)) log

-- the units that write of a log
abbrev pub units_told : ℕ → Course → List Entry → List RecordUnit
units_told d c [] = []
units_told d c (e ∷ log) = option_to_list (unit_told c (signal_of d e)) ++ units_told d (course_step c (signal_of d e)) log

-- ---- the reader

-- Room for the bytes of a unit on a tape of so many records. It is two records more than the tape has: what
-- fills it is past the tape, and has two records at least that were sent whole.
abbrev pub unit_room : ℕ → ℕ
unit_room size = 256 * (size + 2)

-- of the bytes of a unit, as many as there is room for
abbrev pub kept_and : Stage → ℕ → ℕ → List ℕ → List ℕ
kept_and (stage.Writing n) room byte bytes = byte ∷ []
kept_and (stage.Sent n) room byte bytes = if nat_lt (length bytes) room then bytes ++ byte ∷ [] else bytes
kept_and s room byte bytes = bytes

-- those that are kept after a frame
abbrev pub kept_bytes_after : Stage → ℕ → Cue → List ℕ → List ℕ
kept_bytes_after s room (cue.Data byte) bytes = kept_and s room byte bytes
kept_bytes_after s room c bytes = bytes

-- what keeps a unit of these bytes that ended so from being told, and what is known of the tape after it
abbrev pub end_fault : ℕ → List ℕ → Option Ended → Option UnitFault
end_fault size bytes None = None
end_fault size bytes (Some x) = write_fault size x.first bytes (is_good x.status)

abbrev pub known_end : List ℕ → Option Ended → List (Option (List ℕ)) → List (Option (List ℕ))
known_end bytes None records = records
known_end bytes (Some x) records = known_after x.first bytes (is_good x.status) records

-- what is known after these units
abbrev pub known_by : List RecordUnit → List (Option (List ℕ)) → List (Option (List ℕ))
known_by [] records = records
known_by (w ∷ ws) records = known_by ws (after_unit w records)

-- each of these units is told, on a tape of so many records
abbrev pub AreClear : ℕ → List RecordUnit → Type 0
AreClear size [] = Unit {0}
AreClear size (w ∷ ws) = (unit_fault size w ≡ None) × AreClear size ws

-- which party the drive is, how far a log has come in a unit, the bytes of that unit, and what is known of the tape
pub record EffectReader : Type 0 where
  pub drive : ℕ
  pub stage : Stage
  pub bytes : List ℕ
  pub expected : Known

-- the reader has read this log after this tape, without a fault
pub record IsEffectAfter (d : ℕ) (old : Tape) (log : List Entry) (r : EffectReader) : Type 0 where
  pub reach : d ≤ 30
  pub drive : r.drive ≡ d
  pub stage : r.stage ≡ (course_after d no_course log).stage
  pub bytes : r.bytes ≡ take (unit_room r.expected.room) (course_after d no_course log).bytes
  pub tape : IsTape (length old) old
  pub room : length old ≤ r.expected.room
  pub records : r.expected.records ≡ known_by (units_told d no_course log) (map Some old)
  pub clear : AreClear (length old) (units_told d no_course log)
