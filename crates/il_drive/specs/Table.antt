-- What each frame does to the drive, beyond what it does to every device. The commands' names follow the HP 82161A
-- Owner's Manual; their numbers and exact effects, and the status numbers, are this project's own.
use Rattle.std.specs.Prelude.{ℕ, ◌+◌, ◌*◌, ◌/◌, ◌%◌, ◌==◌, nat_lt, Bool, true, false, ◌&&◌, ◌||◌, if◌then◌else◌, get_or, set, Option, Some, None}
use Rattle.il_frames.specs.declared.frame.Class.TheVariants as class
use Rattle.il_frames.specs.declared.frame.Frame.{Frame}
use Rattle.il_frames.specs.declared.message.Message.{Message}
use Rattle.il_frames.specs.declared.message.Message.TheVariants as msg
use Rattle.il_frames.specs.Frames.{byte_of, framed, same_but_service}
use Rattle.il_frames.specs.Messages.{message_of}
use Rattle.il_poll.specs.Service.{status_byte_of, agree}
use Rattle.il_device.specs.declared.device.Out.{Out}
use Rattle.il_device.specs.declared.device.Out.TheVariants.{Pass, Source}
use Rattle.il_device.specs.declared.interface.OwnFrame.{OwnFrame}
use Rattle.il_device.specs.declared.interface.Turn.{Turn}
use Rattle.il_device.specs.declared.interface.Turn.TheVariants as turn
use Rattle.il_device.specs.declared.roles.Roles.{Roles}
use Rattle.il_device.specs.Takes.{just_sent, eto, ete}
use Rattle.il_device.specs.Interfaces.{turn_on, interface_after, passed_on, sending, with_status}
use Rattle.il_drive.specs.declared.commands.ListenerCommand.{ListenerCommand}
use Rattle.il_drive.specs.declared.commands.ListenerCommand.TheVariants as ddl
use Rattle.il_drive.specs.declared.commands.TalkerCommand.{TalkerCommand}
use Rattle.il_drive.specs.declared.commands.TalkerCommand.TheVariants as ddt
use Rattle.il_drive.specs.declared.mode.Mode.{Mode}
use Rattle.il_drive.specs.declared.mode.Mode.TheVariants as mode
use Rattle.il_drive.specs.declared.mode.Start.{Start}
use Rattle.il_drive.specs.declared.mode.Start.TheVariants as start
use Rattle.il_drive.specs.declared.mode.Fault.{Fault}
use Rattle.il_drive.specs.declared.mode.Fault.TheVariants as fault
use Rattle.il_drive.specs.Commands.{listener_command, talker_command}
use Rattle.il_drive.specs.Faults.{status_of_fault}
use Rattle.il_drive.specs.State.{DriveState, status_of}
use Rattle.il_drive.specs.Steps.{Step, Now, Reads, Writes, then_by}

-- ---- the parts of a step

abbrev pub in_mode : Mode → DriveState → DriveState
in_mode m s = record s { mode = m }

abbrev pub at_rest : DriveState → DriveState
at_rest s = in_mode mode.Rest s

abbrev pub in_status : ℕ → DriveState → DriveState
in_status status s = record s { interface = with_status s.interface status }

-- the drive tells a fault by its status, and rests
abbrev pub faulty : Fault → DriveState → DriveState
faulty why s = at_rest (in_status (status_of_fault why) s)

-- buffer 0 is empty
abbrev pub emptied : DriveState → DriveState
emptied s = record s { pointer = 0; filled = false }

-- the pointer goes up by one, after 255 to 0
abbrev pub next_pointer : ℕ → ℕ
next_pointer pointer = (pointer + 1) % 256

abbrev pub advanced : DriveState → DriveState
advanced s = record s { pointer = next_pointer s.pointer }

-- ---- the tape

-- the record at the position comes into buffer 0, and whether it did
abbrev pub loaded : ℕ → DriveState → Step (DriveState × Bool)
loaded n s =
    if s.position == n then Now (faulty fault.NoRecord s, false)
    else Reads s.position (λ bytes. (record s { buffer_0 = bytes }, true)) (faulty fault.Unread s, false)

-- buffer 0 becomes the record at the position
abbrev pub recorded : ℕ → DriveState → Step DriveState
recorded n s =
    if s.position == n then Now (faulty fault.NoRecord s)
    else Writes s.position s.buffer_0 (record s { position = s.position + 1 }) (faulty fault.Unwritten s)

-- the record is put: buffer 0 goes on the tape, and is empty then
abbrev pub put : ℕ → DriveState → Step DriveState
put n s = then_by emptied (recorded n s)

-- ---- DDL, while listening

abbrev pub write : DriveState → DriveState
write s = if status_of s == 0 then in_mode mode.Write (emptied s) else at_rest s

abbrev pub revising : DriveState × Bool → DriveState
revising (s, true) = in_mode mode.Write (record s { filled = false })
revising (s, false) = s

abbrev pub partial_write : ℕ → DriveState → Step DriveState
partial_write n s = if status_of s == 0 then then_by revising (loaded n s) else Now (at_rest s)

abbrev pub is_write : Mode → Bool
is_write mode.Write = true
is_write _ = false

abbrev pub close_record : ℕ → DriveState → Step DriveState
close_record n s =
    then_by (λ u. at_rest (emptied u)) (if is_write s.mode && s.filled then put n s else Now s)

abbrev pub listened : ListenerCommand → ℕ → DriveState → Step DriveState
listened ddl.FillBuffer0 n s = Now (in_mode mode.FillBuffer0 s)
listened ddl.FillBuffer1 n s = Now (in_mode mode.FillBuffer1 s)
listened ddl.Write n s = Now (write s)
listened ddl.SetPointer n s = Now (in_mode mode.SetPointer s)
listened ddl.Seek n s = Now (in_mode mode.SeekHigh s)
listened ddl.PartialWrite n s = partial_write n s
listened ddl.Rewind n s = Now (at_rest (record s { position = 0 }))
listened ddl.CloseRecord n s = close_record n s
listened ddl.CopyBuffer n s = Now (at_rest (record s { buffer_1 = s.buffer_0 }))

-- a number that the drive does not have has no effect
abbrev pub listened_to : Option ListenerCommand → ℕ → DriveState → Step DriveState
listened_to None n s = Now s
listened_to (Some command) n s = listened command n s

-- ---- DDT, while talking

abbrev pub read : DriveState → DriveState
read s = if status_of s == 0 then in_mode mode.Read (record s { pointer = 0 }) else at_rest s

abbrev pub talked : TalkerCommand → DriveState → DriveState
talked ddt.SendBuffer0 s = in_mode mode.SendBuffer0 s
talked ddt.SendBuffer1 s = in_mode mode.SendBuffer1 s
talked ddt.Read s = read s
talked ddt.SendPosition s = in_mode mode.PositionHigh s
talked ddt.ExchangeBuffers s = at_rest (record s { buffer_0 = s.buffer_1; buffer_1 = s.buffer_0 })

abbrev pub talked_by : Option TalkerCommand → DriveState → DriveState
talked_by None s = s
talked_by (Some command) s = talked command s

-- ---- messages

-- talking or listening begins or ends: before the message the roles were r
abbrev pub at_rest_if_changed : Roles → DriveState → DriveState
at_rest_if_changed r s =
    if agree r.talks s.interface.roles.talks && agree r.listens s.interface.roles.listens then s else at_rest s

-- SDC while listening, and DCL
abbrev pub cleared : DriveState → DriveState
cleared s = at_rest (in_status 0 (emptied s))

-- what a message does that no data come with; before it the roles were r
abbrev pub obeyed : Message → ℕ → Roles → DriveState → Step DriveState
obeyed msg.Ifc n r s = Now (at_rest s)
obeyed msg.Aau n r s = Now (at_rest s)
obeyed (msg.Tad a) n r s = Now (at_rest_if_changed r s)
obeyed msg.Unt n r s = Now (at_rest_if_changed r s)
obeyed (msg.Lad a) n r s = Now (at_rest_if_changed r s)
obeyed msg.Unl n r s = Now (at_rest_if_changed r s)
obeyed msg.Sdc n r s = Now (if r.listens then cleared s else s)
obeyed msg.Dcl n r s = Now (cleared s)
obeyed (msg.Ddl k) n r s = if r.listens then listened_to (listener_command k) n s else Now s
obeyed (msg.Ddt k) n r s = Now (if r.talks then talked_by (talker_command k) s else s)
obeyed _ n r s = Now s

-- ---- a data byte that is heard

-- the position becomes k, where the tape has record k
abbrev pub sought : ℕ → ℕ → DriveState → DriveState
sought k n s = if nat_lt k n then at_rest (record s { position = k }) else faulty fault.NoRecord s

-- a byte of the record to be written; the 256th puts the record
abbrev pub taken : ℕ → ℕ → DriveState → Step DriveState
taken byte n s =
    if nat_lt s.pointer 255 then Now (advanced (record s { buffer_0 = set s.buffer_0 s.pointer byte; filled = true }))
    else put n (record s { buffer_0 = set s.buffer_0 s.pointer byte; filled = true })

abbrev pub heard_in : Mode → ℕ → ℕ → DriveState → Step DriveState
heard_in mode.FillBuffer0 byte n s = Now (advanced (record s { buffer_0 = set s.buffer_0 s.pointer byte }))
heard_in mode.FillBuffer1 byte n s = Now (advanced (record s { buffer_1 = set s.buffer_1 s.pointer byte }))
heard_in mode.SetPointer byte n s = Now (at_rest (record s { pointer = byte }))
heard_in mode.SeekHigh byte n s = Now (in_mode (mode.SeekLow byte) s)
heard_in (mode.SeekLow high) byte n s = Now (sought (256 * high + byte) n s)
heard_in mode.Write byte n s = taken byte n s
heard_in _ byte n s = Now s

-- ---- the byte that is due

-- after the last byte of a buffer none is due
abbrev pub after_byte : DriveState → DriveState
after_byte s = if nat_lt s.pointer 255 then advanced s else at_rest (advanced s)

-- the byte of a record in buffer 0
abbrev pub byte_of_record : DriveState → DriveState × Option ℕ
byte_of_record s = (advanced s, Some (get_or s.buffer_0 s.pointer 0))

abbrev pub first_of_record : DriveState × Bool → DriveState × Option ℕ
first_of_record (s, true) = byte_of_record (record s { position = s.position + 1 })
first_of_record (s, false) = (s, None)

-- at pointer 0 the record at the position is read first
abbrev pub due_of_record : ℕ → DriveState → Step (DriveState × Option ℕ)
due_of_record n s = if s.pointer == 0 then then_by first_of_record (loaded n s) else Now (byte_of_record s)

abbrev pub due_in : Mode → ℕ → DriveState → Step (DriveState × Option ℕ)
due_in mode.SendBuffer0 n s = Now (after_byte s, Some (get_or s.buffer_0 s.pointer 0))
due_in mode.SendBuffer1 n s = Now (after_byte s, Some (get_or s.buffer_1 s.pointer 0))
due_in mode.Read n s = due_of_record n s
due_in mode.PositionHigh n s = Now (in_mode mode.PositionLow s, Some (s.position / 256))
due_in mode.PositionLow n s = Now (at_rest s, Some (s.position % 256))
due_in _ n s = Now (s, None)

-- the next byte to send, where one is due
abbrev pub due : ℕ → DriveState → Step (DriveState × Option ℕ)
due n s = due_in s.mode n s

-- ---- transmissions

-- sends a byte, the last one or not, as an answer to that start message
abbrev pub sends : Start → Bool → ℕ → DriveState → DriveState × Out
sends by last byte s =
    (record s { interface = sending s.interface (Some (just_sent (framed class.Dab byte) last)); begun = by }, Source (framed class.Dab byte))

-- ETO or ETE
abbrev pub ends : Frame → DriveState → DriveState × Out
ends end s = (at_rest (record s { interface = sending s.interface None }), Source end)

-- the frame goes on; as it came the roles were r
abbrev pub passes : Roles → Frame → DriveState → DriveState × Out
passes r f s = (s, Pass (passed_on s.interface r f))

-- SDA: the byte that is due, if one is
abbrev pub first_or_pass : Roles → Frame → DriveState × Option ℕ → DriveState × Out
first_or_pass r f (s, Some byte) = sends start.Data false byte s
first_or_pass r f (s, None) = passes r f s

-- after the right echo: the next byte that is due, or ETO
abbrev pub next_or_end : DriveState × Option ℕ → DriveState × Out
next_or_end (s, Some byte) = sends start.Data false byte s
next_or_end (s, None) = ends eto s

-- a start message to a talker
abbrev pub began : Message → ℕ → Roles → Frame → DriveState → Step (DriveState × Out)
began msg.Sda n r f s = then_by (first_or_pass r f) (due n s)
began msg.Sst n r f s = Now (sends start.Status true (status_byte_of (status_of s)) s)
began _ n r f s = Now (passes r f s)

-- the status that was sent is cleared
abbrev pub acknowledged : Start → DriveState → DriveState
acknowledged start.Status s = in_status 0 s
acknowledged start.Data s = s
acknowledged start.Identity s = s

-- After the right echo of a frame that is stopped or the last no byte is asked for.
abbrev pub went_on : Bool → ℕ → DriveState → Step (DriveState × Out)
went_on true n s = Now (ends eto (acknowledged s.begun s))
went_on false n s = then_by next_or_end (due n s)

abbrev pub compared : Bool → OwnFrame → ℕ → DriveState → Step (DriveState × Out)
compared false own n s = Now (ends ete s)
compared true own n s = went_on (own.stopped || own.last) n s

-- ---- all of it

-- the answer by what the frame asks of the device; as it came the roles were r
abbrev pub answered : Turn → ℕ → Roles → Frame → DriveState → Step (DriveState × Out)
answered turn.Pass n r f s = then_by (passes r f) (obeyed (message_of f) n r s)
answered turn.Hear n r f s = then_by (passes r f) (heard_in s.mode (byte_of f) n s)
answered turn.Begin n r f s = began (message_of f) n r f s
answered (turn.Identify id) n r f s = Now (sends start.Identity true id s)
answered (turn.Compare own) n r f s = compared (same_but_service own.frame f) own n s

-- what the frame does to every device comes first
abbrev pub behind_effect : Frame → DriveState → DriveState
behind_effect f s = record s { interface = interface_after s.interface f }

-- A frame comes to a drive over a tape of n records.
abbrev pub drive_step : ℕ → DriveState → Frame → Step (DriveState × Out)
drive_step n s f = answered (turn_on s.interface f) n s.interface.roles f (behind_effect f s)
