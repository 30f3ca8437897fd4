-- What the parts of a step do to the interface and to the status, and which records they write.
use Rattle.std.proofs.Common.{◌≡◌, ◌+◌, ◌*◌, ◌⊎◌, inl, inr, ℕ, List, Bool, true, false, refl, ap, ◌∙◌}
use Rattle.std.specs.Prelude.{Option, Some, None, not, ◌&&◌, ◌==◌, nat_lt, if◌then◌else◌, set}
use Rattle.il_frames.specs.declared.message.Message.{Message}
use Rattle.il_frames.specs.declared.message.Message.TheVariants as msg
use Rattle.il_device.specs.declared.roles.Roles.{Roles}
use Rattle.il_device.specs.Interfaces.{InterfaceState, with_status}
use Rattle.il_device.specs.Takes.{may_change_service}
use Rattle.il_drive.specs.declared.commands.ListenerCommand.{ListenerCommand}
use Rattle.il_drive.specs.declared.commands.ListenerCommand.TheVariants as ddl
use Rattle.il_drive.specs.declared.commands.TalkerCommand.{TalkerCommand}
use Rattle.il_drive.specs.declared.commands.TalkerCommand.TheVariants as ddt
use Rattle.il_drive.specs.declared.mode.Mode.{Mode}
use Rattle.il_drive.specs.declared.mode.Fault.TheVariants as fault
use Rattle.il_drive.specs.declared.mode.Mode.TheVariants as mode
use Rattle.il_drive.specs.Commands.{listener_command, talker_command}
use Rattle.il_drive.specs.State.{DriveState, status_of}
use Rattle.il_drive.specs.Steps.{Now, Reads, Writes, then_by}
use Rattle.il_drive.specs.Table as table
use Rattle.il_drive.specs.Facts.{lacks_due, lacks_for, lacks_at_message, lacks_at_byte, placed_on, closed_by, full_by, put_at_message}
use Rattle.il_drive.proofs.Outcomes.{Every, every_then, every_weaker, written, written_then}

-- ---- the status

-- A failing medium leaves status 1 or 2. Otherwise status 3 comes exactly where the record is lacking, and the status stays
-- or becomes 0 where it is not.
abbrev pub StatusFact : Bool → ℕ → Bool → ℕ → Type 0
StatusFact lack before true after = (lack ≡ false) × ((after ≡ 1) ⊎ (after ≡ 2))
StatusFact true before false after = after ≡ 3
StatusFact false before false after = (after ≡ before) ⊎ (after ≡ 0)

-- nothing but the status changes in the interface
pub record Moves (s : DriveState) (lack failed : Bool) (u : DriveState) : Type 0 where
  pub interface : u.interface ≡ with_status s.interface (status_of u)
  pub status : StatusFact lack (status_of s) failed (status_of u)

-- the interface stays
pub moves_still : (s u : DriveState) → u.interface ≡ s.interface → Moves s false false u
moves_still s u e = record { interface = rw e refl; status = inl (ap (λ (i : InterfaceState). i.service.status) e) }

-- what follows leaves the interface
moves_on : (s u v : DriveState) (lack failed : Bool) → v.interface ≡ u.interface → Moves s lack failed u → Moves s lack failed v
moves_on s u v lack failed e moves = record { interface = rw e moves.interface; status = rw e moves.status }

-- ---- the tape

-- the same of the first of a pair
abbrev pub MovesWith : (X : Type 0) → DriveState → Bool → Bool → DriveState × X → Type 0
MovesWith X s lack failed x = Moves s lack failed x.0

load_moves : (b : Bool) (s : DriveState) → Every (MovesWith Bool s b) (if b then Now (table.faulty fault.NoRecord s, false) else Reads s.position (λ bytes. (record s { buffer_0 = bytes }, true)) (table.faulty fault.Unread s, false))
load_moves true s = record { interface = refl; status = refl }
load_moves false s = (λ bytes. moves_still s _ refl, record { interface = refl; status = (refl, inl refl) })

record_moves : (b : Bool) (s : DriveState) → Every (Moves s b) (if b then Now (table.faulty fault.NoRecord s) else Writes s.position s.buffer_0 (record s { position = s.position + 1 }) (table.faulty fault.Unwritten s))
record_moves true s = record { interface = refl; status = refl }
record_moves false s = (moves_still s _ refl, record { interface = refl; status = (refl, inr refl) })

put_moves : (n : ℕ) (s : DriveState) → Every (Moves s (s.position == n)) (table.put n s)
put_moves n s = every_then (Moves s (s.position == n)) (Moves s (s.position == n)) table.emptied (table.recorded n s) (λ failed u moves. moves_on s u (table.emptied u) (s.position == n) failed refl moves) (record_moves (s.position == n) s)

-- ---- DDL

write_moves : (b : Bool) (s : DriveState) → Moves s false false (if b then table.in_mode mode.Write (table.emptied s) else table.at_rest s)
write_moves true s = moves_still s _ refl
write_moves false s = moves_still s _ refl

revising_moves : (s : DriveState) (b failed : Bool) (x : DriveState × Bool) → Moves s b failed x.0 → Moves s b failed (table.revising x)
revising_moves s b failed (u, true) moves = moves_on s u _ b failed refl moves
revising_moves s b failed (u, false) moves = moves

partial_moves : (c : Bool) (n : ℕ) (s : DriveState) → Every (Moves s (c && (s.position == n))) (if c then then_by table.revising (table.loaded n s) else Now (table.at_rest s))
partial_moves true n s = every_then (MovesWith Bool s (s.position == n)) (Moves s (s.position == n)) table.revising (table.loaded n s) (revising_moves s (s.position == n)) (load_moves (s.position == n) s)
partial_moves false n s = moves_still s _ refl

close_moves : (c : Bool) (n : ℕ) (s : DriveState) → Every (Moves s (c && (s.position == n))) (if c then table.put n s else Now s)
close_moves true n s = put_moves n s
close_moves false n s = moves_still s _ refl

listened_moves : (command : Option ListenerCommand) (n : ℕ) (s : DriveState) → Every (Moves s (lacks_for command n s)) (table.listened_to command n s)
listened_moves None n s = moves_still s _ refl
listened_moves (Some ddl.FillBuffer0) n s = moves_still s _ refl
listened_moves (Some ddl.FillBuffer1) n s = moves_still s _ refl
listened_moves (Some ddl.Write) n s = write_moves (status_of s == 0) s
listened_moves (Some ddl.SetPointer) n s = moves_still s _ refl
listened_moves (Some ddl.Seek) n s = moves_still s _ refl
listened_moves (Some ddl.PartialWrite) n s = partial_moves (status_of s == 0) n s
listened_moves (Some ddl.Rewind) n s = moves_still s _ refl
listened_moves (Some ddl.CloseRecord) n s =
    let lack = (table.is_write s.mode && s.filled) && (s.position == n) in
    every_then (Moves s lack) (Moves s lack) (λ u. table.at_rest (table.emptied u)) (if table.is_write s.mode && s.filled then table.put n s else Now s)
    (λ failed u moves. moves_on s u (table.at_rest (table.emptied u)) lack failed refl moves) (close_moves (table.is_write s.mode && s.filled) n s)
listened_moves (Some ddl.CopyBuffer) n s = moves_still s _ refl

-- ---- DDT

read_moves : (b : Bool) (s : DriveState) → Moves s false false (if b then table.in_mode mode.Read (record s { pointer = 0 }) else table.at_rest s)
read_moves true s = moves_still s _ refl
read_moves false s = moves_still s _ refl

talked_moves : (command : Option TalkerCommand) (s : DriveState) → Moves s false false (table.talked_by command s)
talked_moves None s = moves_still s _ refl
talked_moves (Some ddt.SendBuffer0) s = moves_still s _ refl
talked_moves (Some ddt.SendBuffer1) s = moves_still s _ refl
talked_moves (Some ddt.Read) s = read_moves (status_of s == 0) s
talked_moves (Some ddt.SendPosition) s = moves_still s _ refl
talked_moves (Some ddt.ExchangeBuffers) s = moves_still s _ refl

-- ---- messages

changed_moves : (b : Bool) (s : DriveState) → Moves s false false (if b then s else table.at_rest s)
changed_moves true s = moves_still s _ refl
changed_moves false s = moves_still s _ refl

cleared_moves : (s : DriveState) → Moves s false false (table.cleared s)
cleared_moves s = record { interface = refl; status = inr refl }

cleared_if : (b : Bool) (s : DriveState) → Moves s false false (if b then table.cleared s else s)
cleared_if true s = cleared_moves s
cleared_if false s = moves_still s _ refl

listened_if : (b : Bool) (command : Option ListenerCommand) (n : ℕ) (s : DriveState) → Every (Moves s (b && lacks_for command n s)) (if b then table.listened_to command n s else Now s)
listened_if true command n s = listened_moves command n s
listened_if false command n s = moves_still s _ refl

talked_if : (b : Bool) (command : Option TalkerCommand) (s : DriveState) → Moves s false false (if b then table.talked_by command s else s)
talked_if true command s = talked_moves command s
talked_if false command s = moves_still s _ refl

pub obeyed_moves : (m : Message) (n : ℕ) (r : Roles) (s : DriveState) → Every (Moves s (lacks_at_message m n r s)) (table.obeyed m n r s)
obeyed_moves msg.Ifc n r s = moves_still s _ refl
obeyed_moves msg.Aau n r s = moves_still s _ refl
obeyed_moves (msg.Tad a) n r s = changed_moves _ s
obeyed_moves msg.Unt n r s = changed_moves _ s
obeyed_moves (msg.Lad a) n r s = changed_moves _ s
obeyed_moves msg.Unl n r s = changed_moves _ s
obeyed_moves msg.Sdc n r s = cleared_if r.listens s
obeyed_moves msg.Dcl n r s = cleared_moves s
obeyed_moves (msg.Ddl k) n r s = listened_if r.listens (listener_command k) n s
obeyed_moves (msg.Ddt k) n r s = talked_if r.talks (talker_command k) s
obeyed_moves _ n r s = moves_still s s refl

-- messages at which the wish for service may not change leave the status
abbrev pub KeepsStatus : DriveState → Bool → DriveState → Type 0
KeepsStatus s failed u = status_of u ≡ status_of s

kept_if : (b : Bool) (s : DriveState) → status_of (if b then s else table.at_rest s) ≡ status_of s
kept_if true s = refl
kept_if false s = refl

pub obeyed_keeps : (m : Message) (n : ℕ) (r : Roles) (s : DriveState) → may_change_service m ≡ false → Every (KeepsStatus s) (table.obeyed m n r s)
obeyed_keeps msg.Ifc n r s h = refl
obeyed_keeps msg.Aau n r s h = refl
obeyed_keeps (msg.Tad a) n r s h = kept_if _ s
obeyed_keeps msg.Unt n r s h = kept_if _ s
obeyed_keeps (msg.Lad a) n r s h = kept_if _ s
obeyed_keeps msg.Unl n r s h = kept_if _ s
obeyed_keeps msg.Sdc n r s h = cc
obeyed_keeps msg.Dcl n r s h = cc
obeyed_keeps (msg.Ddl k) n r s h = cc
obeyed_keeps (msg.Ddt k) n r s h = cc
obeyed_keeps _ n r s h = refl

-- ---- a byte that is heard

sought_moves : (b : Bool) (k : ℕ) (s : DriveState) → Moves s (not b) false (if b then table.at_rest (record s { position = k }) else table.faulty fault.NoRecord s)
sought_moves true k s = moves_still s _ refl
sought_moves false k s = record { interface = refl; status = refl }

taken_moves : (b : Bool) (n : ℕ) (s u : DriveState) → u.interface ≡ s.interface → Every (Moves s (not b && (u.position == n))) (if b then Now (table.advanced u) else table.put n u)
taken_moves true n s u e = moves_still s _ e
taken_moves false n s u e = every_weaker (Moves u (u.position == n)) (Moves s (u.position == n)) (table.put n u) (λ failed v moves. record { interface = moves.interface ∙ ap (λ (i : InterfaceState). with_status i (status_of v)) e; status = rw (← e) moves.status }) (put_moves n u)

pub heard_moves : (m : Mode) (byte n : ℕ) (s : DriveState) → Every (Moves s (lacks_at_byte m byte n s)) (table.heard_in m byte n s)
heard_moves mode.FillBuffer0 byte n s = moves_still s _ refl
heard_moves mode.FillBuffer1 byte n s = moves_still s _ refl
heard_moves mode.SetPointer byte n s = moves_still s _ refl
heard_moves mode.SeekHigh byte n s = moves_still s _ refl
heard_moves (mode.SeekLow high) byte n s = sought_moves (nat_lt (256 * high + byte) n) (256 * high + byte) s
heard_moves mode.Write byte n s = taken_moves (nat_lt s.pointer 255) n s (record s { buffer_0 = set s.buffer_0 s.pointer byte; filled = true }) refl
heard_moves _ byte n s = moves_still s s refl

-- ---- the byte that is due

left_moves : (b : Bool) (s : DriveState) → Moves s false false (if b then table.advanced s else table.at_rest (table.advanced s))
left_moves true s = moves_still s _ refl
left_moves false s = moves_still s _ refl

first_moves : (s : DriveState) (b failed : Bool) (x : DriveState × Bool) → Moves s b failed x.0 → Moves s b failed (table.first_of_record x).0
first_moves s b failed (u, true) moves = moves_on s u _ b failed refl moves
first_moves s b failed (u, false) moves = moves

record_due_moves : (c : Bool) (n : ℕ) (s : DriveState) → Every (MovesWith (Option ℕ) s (c && (s.position == n))) (if c then then_by table.first_of_record (table.loaded n s) else Now (table.byte_of_record s))
record_due_moves true n s = every_then (MovesWith Bool s (s.position == n)) (MovesWith (Option ℕ) s (s.position == n)) table.first_of_record (table.loaded n s) (first_moves s (s.position == n)) (load_moves (s.position == n) s)
record_due_moves false n s = moves_still s _ refl

pub due_moves : (m : Mode) (n : ℕ) (s : DriveState) → Every (MovesWith (Option ℕ) s (lacks_due m n s)) (table.due_in m n s)
due_moves mode.SendBuffer0 n s = left_moves (nat_lt s.pointer 255) s
due_moves mode.SendBuffer1 n s = left_moves (nat_lt s.pointer 255) s
due_moves mode.Read n s = record_due_moves (s.pointer == 0) n s
due_moves mode.PositionHigh n s = moves_still s _ refl
due_moves mode.PositionLow n s = moves_still s _ refl
due_moves _ n s = moves_still s s refl

-- ---- the records that are written

nothing_placed : (b : Bool) (k : ℕ) → None ≡ placed_on b k None
nothing_placed true k = refl
nothing_placed false k = refl

record_written : (b : Bool) (k : ℕ) (bytes : List ℕ) (off good bad : DriveState) → written (if b then Now off else Writes k bytes good bad) ≡ placed_on b k (Some bytes)
record_written true k bytes off good bad = refl
record_written false k bytes off good bad = refl

load_written : {X : Type 0} (b : Bool) (k : ℕ) (off bad : X) (good : List ℕ → X) → written (if b then Now off else Reads k good bad) ≡ None
load_written true k off bad good = refl
load_written false k off bad good = refl

put_written : (n : ℕ) (s : DriveState) → written (table.put n s) ≡ placed_on (s.position == n) s.position (Some s.buffer_0)
put_written n s = written_then table.emptied (table.recorded n s) ∙ record_written (s.position == n) s.position s.buffer_0 _ _ _

partial_written : (c : Bool) (n : ℕ) (s : DriveState) → written (if c then then_by table.revising (table.loaded n s) else Now (table.at_rest s)) ≡ None
partial_written true n s = written_then table.revising (table.loaded n s) ∙ load_written (s.position == n) s.position _ _ _
partial_written false n s = refl

close_written : (c : Bool) (n : ℕ) (s : DriveState) → written (if c then table.put n s else Now s) ≡ placed_on (s.position == n) s.position (if c then Some s.buffer_0 else None)
close_written true n s = put_written n s
close_written false n s = nothing_placed (s.position == n) s.position

listened_written : (command : Option ListenerCommand) (n : ℕ) (s : DriveState) → written (table.listened_to command n s) ≡ placed_on (s.position == n) s.position (closed_by command s)
listened_written None n s = nothing_placed (s.position == n) s.position
listened_written (Some ddl.FillBuffer0) n s = nothing_placed (s.position == n) s.position
listened_written (Some ddl.FillBuffer1) n s = nothing_placed (s.position == n) s.position
listened_written (Some ddl.Write) n s = nothing_placed (s.position == n) s.position
listened_written (Some ddl.SetPointer) n s = nothing_placed (s.position == n) s.position
listened_written (Some ddl.Seek) n s = nothing_placed (s.position == n) s.position
listened_written (Some ddl.PartialWrite) n s = partial_written (status_of s == 0) n s ∙ nothing_placed (s.position == n) s.position
listened_written (Some ddl.Rewind) n s = nothing_placed (s.position == n) s.position
listened_written (Some ddl.CloseRecord) n s = written_then _ (if table.is_write s.mode && s.filled then table.put n s else Now s) ∙ close_written (table.is_write s.mode && s.filled) n s
listened_written (Some ddl.CopyBuffer) n s = nothing_placed (s.position == n) s.position

listened_written_if : (b : Bool) (command : Option ListenerCommand) (n : ℕ) (s : DriveState)
    → written (if b then table.listened_to command n s else Now s) ≡ placed_on (s.position == n) s.position (if b then closed_by command s else None)
listened_written_if true command n s = listened_written command n s
listened_written_if false command n s = nothing_placed (s.position == n) s.position

pub obeyed_written : (m : Message) (n : ℕ) (r : Roles) (s : DriveState) → written (table.obeyed m n r s) ≡ placed_on (s.position == n) s.position (put_at_message m r s)
obeyed_written msg.Ifc n r s = nothing_placed (s.position == n) s.position
obeyed_written msg.Aau n r s = nothing_placed (s.position == n) s.position
obeyed_written (msg.Tad a) n r s = nothing_placed (s.position == n) s.position
obeyed_written msg.Unt n r s = nothing_placed (s.position == n) s.position
obeyed_written (msg.Lad a) n r s = nothing_placed (s.position == n) s.position
obeyed_written msg.Unl n r s = nothing_placed (s.position == n) s.position
obeyed_written msg.Sdc n r s = nothing_placed (s.position == n) s.position
obeyed_written msg.Dcl n r s = nothing_placed (s.position == n) s.position
obeyed_written (msg.Ddl k) n r s = listened_written_if r.listens (listener_command k) n s
obeyed_written (msg.Ddt k) n r s = nothing_placed (s.position == n) s.position
obeyed_written _ n r s = nothing_placed (s.position == n) s.position

taken_written : (b : Bool) (n : ℕ) (u : DriveState) → written (if b then Now (table.advanced u) else table.put n u) ≡ placed_on (u.position == n) u.position (if b then None else Some u.buffer_0)
taken_written true n u = nothing_placed (u.position == n) u.position
taken_written false n u = put_written n u

pub heard_written : (m : Mode) (byte n : ℕ) (s : DriveState) → written (table.heard_in m byte n s) ≡ placed_on (s.position == n) s.position (full_by m byte s)
heard_written mode.Write byte n s = taken_written (nat_lt s.pointer 255) n (record s { buffer_0 = set s.buffer_0 s.pointer byte; filled = true })
heard_written mode.FillBuffer0 byte n s = nothing_placed (s.position == n) s.position
heard_written mode.FillBuffer1 byte n s = nothing_placed (s.position == n) s.position
heard_written mode.SetPointer byte n s = nothing_placed (s.position == n) s.position
heard_written mode.SeekHigh byte n s = nothing_placed (s.position == n) s.position
heard_written (mode.SeekLow high) byte n s = nothing_placed (s.position == n) s.position
heard_written _ byte n s = nothing_placed (s.position == n) s.position

record_due_written : (c : Bool) (n : ℕ) (s : DriveState) → written (if c then then_by table.first_of_record (table.loaded n s) else Now (table.byte_of_record s)) ≡ None
record_due_written true n s = written_then table.first_of_record (table.loaded n s) ∙ load_written (s.position == n) s.position _ _ _
record_due_written false n s = refl

pub due_written : (m : Mode) (n : ℕ) (s : DriveState) → written (table.due_in m n s) ≡ None
due_written mode.Read n s = record_due_written (s.pointer == 0) n s
due_written mode.SendBuffer0 n s = refl
due_written mode.SendBuffer1 n s = refl
due_written mode.PositionHigh n s = refl
due_written mode.PositionLow n s = refl
due_written _ n s = refl

pub placed_nothing : (b : Bool) (k : ℕ) → None ≡ placed_on b k None
placed_nothing = nothing_placed
