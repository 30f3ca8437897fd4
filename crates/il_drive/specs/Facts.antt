-- What the table of the drive comes to: when it ends a transmission by ETE, which record it puts, and which records it
-- lacks.
use Rattle.std.specs.Prelude.{◌≡◌, ◌⊎◌, ◌+◌, ◌*◌, ◌==◌, nat_lt, ℕ, Bool, true, false, not, ◌&&◌, ◌||◌, if◌then◌else◌, List, set, Option, Some, None}
use Rattle.il_frames.specs.declared.frame.Frame.{Frame}
use Rattle.il_frames.specs.declared.message.Message.{Message}
use Rattle.il_frames.specs.declared.message.Message.TheVariants as msg
use Rattle.il_frames.specs.Frames.{byte_of, same_but_service}
use Rattle.il_frames.specs.Messages.{message_of}
use Rattle.il_device.specs.declared.interface.Turn.{Turn}
use Rattle.il_device.specs.declared.interface.Turn.TheVariants as turn
use Rattle.il_device.specs.declared.roles.Roles.{Roles}
use Rattle.il_device.specs.Interfaces.{turn_on}
use Rattle.lif_model.specs.Tape.{Tape}
use Rattle.lif_model.specs.Stops.{Torn}
use Rattle.il_drive.specs.declared.commands.ListenerCommand.{ListenerCommand}
use Rattle.il_drive.specs.declared.commands.ListenerCommand.TheVariants as ddl
use Rattle.il_drive.specs.declared.mode.Mode.{Mode}
use Rattle.il_drive.specs.declared.mode.Mode.TheVariants as mode
use Rattle.il_drive.specs.Commands.{listener_command}
use Rattle.il_drive.specs.State.{DriveState, status_of}
use Rattle.il_drive.specs.Table.{is_write, behind_effect}

-- ---- echoes

-- the frame has come in the place of the own frame, and is another, apart from the service bit
abbrev pub is_wrong_echo : Turn → Frame → Bool
is_wrong_echo (turn.Compare own) f = not (same_but_service own.frame f)
is_wrong_echo turn.Pass f = false
is_wrong_echo turn.Hear f = false
is_wrong_echo turn.Begin f = false
is_wrong_echo (turn.Identify id) f = false

abbrev pub has_wrong_echo : DriveState → Frame → Bool
has_wrong_echo s f = is_wrong_echo (turn_on s.interface f) f

-- ---- records that are put

-- In what follows s is the drive after what the frame does to every device, and r the roles as the frame came.

-- what buffer 0 holds as it is put, by a byte that is heard and by DDL 8
abbrev pub full_by : Mode → ℕ → DriveState → Option (List ℕ)
full_by mode.Write byte s = if nat_lt s.pointer 255 then None else Some (set s.buffer_0 s.pointer byte)
full_by _ byte s = None

abbrev pub closed_by : Option ListenerCommand → DriveState → Option (List ℕ)
closed_by (Some ddl.CloseRecord) s = if is_write s.mode && s.filled then Some s.buffer_0 else None
closed_by _ s = None

abbrev pub put_at_message : Message → Roles → DriveState → Option (List ℕ)
put_at_message (msg.Ddl k) r s = if r.listens then closed_by (listener_command k) s else None
put_at_message _ r s = None

abbrev pub put_at : Turn → Roles → Frame → DriveState → Option (List ℕ)
put_at turn.Pass r f s = put_at_message (message_of f) r s
put_at turn.Hear r f s = full_by s.mode (byte_of f) s
put_at turn.Begin r f s = None
put_at (turn.Identify id) r f s = None
put_at (turn.Compare own) r f s = None

-- these bytes go on the tape of n records at the position, where it has that record
abbrev pub placed_on : Bool → ℕ → Option (List ℕ) → Option (ℕ × List ℕ)
placed_on true position bytes = None
placed_on false position None = None
placed_on false position (Some bytes) = Some (position, bytes)

-- the record that is written as the frame comes, and its bytes
abbrev pub record_put : ℕ → DriveState → Frame → Option (ℕ × List ℕ)
record_put n s f = placed_on (s.position == n) s.position (put_at (turn_on s.interface f) s.interface.roles f (behind_effect f s))

-- the tape after the call: the record holds the bytes, or any where the write failed, and all else is as it was
abbrev pub IsTapeAfter : Option (ℕ × List ℕ) → Option Tape → Option Tape → Type 0
IsTapeAfter None old new = new ≡ old
IsTapeAfter (Some (k, bytes)) old new =
    (t : Tape) → old ≡ Some t → (new ≡ Some (set t k bytes)) ⊎ ((u : Tape) × (new ≡ Some u) × Torn k t u)

-- what a power stop during the call may leave
abbrev pub IsLeft : Option (ℕ × List ℕ) → Tape → Tape → Type 0
IsLeft None t c = c ≡ t
IsLeft (Some (k, bytes)) t c = Torn k t c

-- ---- records that the tape does not have

-- the byte that is due is the first of the record after the last
abbrev pub lacks_due : Mode → ℕ → DriveState → Bool
lacks_due mode.Read n s = (s.pointer == 0) && (s.position == n)
lacks_due _ n s = false

abbrev pub lacks_for : Option ListenerCommand → ℕ → DriveState → Bool
lacks_for (Some ddl.PartialWrite) n s = (status_of s == 0) && (s.position == n)
lacks_for (Some ddl.CloseRecord) n s = (is_write s.mode && s.filled) && (s.position == n)
lacks_for _ n s = false

abbrev pub lacks_at_message : Message → ℕ → Roles → DriveState → Bool
lacks_at_message (msg.Ddl k) n r s = r.listens && lacks_for (listener_command k) n s
lacks_at_message _ n r s = false

abbrev pub lacks_at_byte : Mode → ℕ → ℕ → DriveState → Bool
lacks_at_byte (mode.SeekLow high) byte n s = not (nat_lt (256 * high + byte) n)
lacks_at_byte mode.Write byte n s = not (nat_lt s.pointer 255) && (s.position == n)
lacks_at_byte _ byte n s = false

abbrev pub lacks_at_start : Message → ℕ → DriveState → Bool
lacks_at_start msg.Sda n s = lacks_due s.mode n s
lacks_at_start _ n s = false

abbrev pub lacks_at : Turn → ℕ → Roles → Frame → DriveState → Bool
lacks_at turn.Pass n r f s = lacks_at_message (message_of f) n r s
lacks_at turn.Hear n r f s = lacks_at_byte s.mode (byte_of f) n s
lacks_at turn.Begin n r f s = lacks_at_start (message_of f) n s
lacks_at (turn.Identify id) n r f s = false
lacks_at (turn.Compare own) n r f s =
    same_but_service own.frame f && (not (own.stopped || own.last) && lacks_due s.mode n s)

-- the frame asks for a record that the tape of n records does not have: by a seek at or past n, or by a record that is
-- to be read or put at the position n
abbrev pub lacks_record : ℕ → DriveState → Frame → Bool
lacks_record n s f = lacks_at (turn_on s.interface f) n s.interface.roles f (behind_effect f s)
