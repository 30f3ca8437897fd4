-- Transfers of records between the controller and the drive: three exchanges directly after each other,
-- which seek a record, move bytes and ask for the drive's status. The numbers of DDL and DDT
-- are this project's own.
use Rattle.std.specs.Prelude.{ℕ, ◌+◌, ◌*◌, ◌==◌, nat_lt, Bool, true, false, ◌&&◌, ◌||◌, if◌then◌else◌, List, [], ◌∷◌, ◌++◌, length, flat_map, Option, Some, None, is_some, option_map, option_and_then, option_to_list}
use Rattle.il_frames.specs.declared.entry.Entry.{Entry}
use Rattle.il_frames.specs.Frames.{is_data, byte_of}
use Rattle.loop_model.specs.Loops.{Loop}
use Rattle.loop_model.specs.Exchanges.{Exchange, Send, Receive, Sda, Sst, entries_of, cut_at, Piece, Whole, Cut}

-- a write or else a read: its first record, its bytes as they were sent, and the status byte. Where
-- no status byte came, since an exchange broke off, the unit is unfinished
pub record RecordUnit : Type 0 where
  pub writes : Bool
  pub first : ℕ
  pub bytes : List ℕ
  pub status : Option ℕ

-- the bytes of the data and end frames that were sent, those that were lost or altered too
abbrev pub sent_bytes : List Entry → List ℕ
sent_bytes log = flat_map (λ e. if is_data e.frame then byte_of e.frame ∷ [] else []) log

-- a send to party d under DDL n
abbrev pub is_send : ℕ → ℕ → Exchange → Bool
is_send d n (Send a (Some number) data_frames) = (a == d) && (number == n)
is_send d n x = false

-- a receive of data from party d under DDT n
abbrev pub is_read : ℕ → ℕ → Exchange → Bool
is_read d n (Receive a (Some number) Sda answer) = (a == d) && (number == n)
is_read d n x = false

-- a receive of the status of party d
abbrev pub is_status : ℕ → Exchange → Bool
is_status d (Receive a None Sst answer) = a == d
is_status d x = false

-- the number in two bytes, high byte first
abbrev pub number_of : List ℕ → Option ℕ
number_of (high ∷ low ∷ []) = Some (256 * high + low)
number_of bytes = None

-- the one byte
abbrev pub only_byte : List ℕ → Option ℕ
only_byte (byte ∷ []) = Some byte
only_byte bytes = None

-- the record that a whole seek, a send under DDL 4, names
abbrev pub sought : Loop → Piece → Option ℕ
sought l (Whole x) = if is_send l.drive 4 x then number_of (sent_bytes (entries_of l.controller x)) else None
sought l (Cut x n b) = None

-- the exchange moves these bytes of a unit: out under DDL 2, in under DDT 2. A send of no byte is none:
-- its entries are those of three commands
abbrev pub is_transfer : ℕ → Exchange → List ℕ → Bool
is_transfer d x bytes = (is_send d 2 x && nat_lt 0 (length bytes)) || is_read d 2 x

-- what the receive of the status says: the one byte, or that it broke off
abbrev pub told_status : Loop → Piece → Option (Option ℕ)
told_status l (Whole x) = if is_status l.drive x then option_map Some (only_byte (sent_bytes (entries_of l.controller x))) else None
told_status l (Cut x n b) = if is_status l.drive x then Some None else None

-- the unit on record k whose second exchange moved these bytes, with this status
abbrev pub unit_of : ℕ → ℕ → Exchange → List ℕ → Option ℕ → Option RecordUnit
unit_of d k x bytes status =
    if is_transfer d x bytes then Some (record { writes = is_send d 2 x; first = k; bytes = bytes; status = status }) else None

-- the unit on record k whose second and third exchange stand first here; a broken second is its last
abbrev pub unit_after_seek : Loop → List Piece → ℕ → Option RecordUnit
unit_after_seek l [] k = None
unit_after_seek l (Cut x n b ∷ ps) k = unit_of l.drive k x (sent_bytes (cut_at (entries_of l.controller x) n b)) None
unit_after_seek l (Whole x ∷ []) k = None
unit_after_seek l (Whole x ∷ p ∷ ps) k = option_and_then (unit_of l.drive k x (sent_bytes (entries_of l.controller x))) (told_status l p)

-- the unit whose first exchange stands first here
abbrev pub unit_at : Loop → List Piece → Option RecordUnit
unit_at l [] = None
unit_at l (p ∷ ps) = option_and_then (unit_after_seek l ps) (sought l p)

-- the units of a log, in order; a unit's second and third exchange begin no other unit
abbrev pub units_of : Loop → List Piece → List RecordUnit
units_of l [] = []
units_of l (p ∷ ps) = option_to_list (unit_at l (p ∷ ps)) ++ units_of l ps

-- after a seek these exchanges are the rest of the log, and leave the unit open
abbrev pub is_open : Loop → List Piece → Bool
is_open l [] = true
is_open l (Whole x ∷ []) = is_transfer l.drive x (sent_bytes (entries_of l.controller x))
is_open l (Whole x ∷ p ∷ ps) = false
is_open l (Cut x n b ∷ ps) = false

-- the exchanges end within a unit, though none of them broke off: what follows could go on with it
abbrev pub ends_within : Loop → List Piece → Bool
ends_within l [] = false
ends_within l (p ∷ ps) = (is_some (sought l p) && is_open l ps) || ends_within l ps
