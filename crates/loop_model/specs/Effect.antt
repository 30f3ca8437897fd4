-- What a log did to the tape in the drive, and which bytes it carried: this project's own.
use Rattle.std.specs.Prelude.{◌≡◌, ℕ, ◌==◌, Bool, true, false, not, ◌&&◌, MatchBool, List, [], ◌∷◌, map, Option, Some, None}
use Rattle.std.specs.List.{list_all}
use Rattle.il_frames.specs.declared.entry.Entry.{Entry}
use Rattle.lif_model.specs.Tape.{Tape}
use Rattle.lif_model.specs.Transfers.{Transfer, all_pieces, full_pieces, Replaced, PartlyReplaced, carries}
use Rattle.loop_model.specs.Loops.{Loop}
use Rattle.loop_model.specs.Exchanges.{Piece, are_whole, breaks_off, Reading}
use Rattle.loop_model.specs.Units.{RecordUnit, units_of, ends_within}

-- ---- effect

-- the status byte came and is 0
abbrev pub is_good : Option ℕ → Bool
is_good None = false
is_good (Some status) = status == 0

-- the status of each unit is 0
abbrev pub all_good : List RecordUnit → Bool
all_good ws = list_all (λ w. is_good w.status) ws

-- a write with status 0 put all its pieces; one with another status, or an unfinished one, may have
-- put some of those that were sent whole; a read left the tape
abbrev pub UnitEffect : RecordUnit → Tape → Tape → Type 0
UnitEffect w old new =
    MatchBool w.writes
    (MatchBool (is_good w.status) (Replaced w.first (all_pieces w.bytes) old new) (PartlyReplaced w.first (full_pieces w.bytes) old new))
    (new ≡ old)

-- unit after unit
abbrev pub UnitsEffect : List RecordUnit → Tape → Tape → Type 0
UnitsEffect [] old new = new ≡ old
UnitsEffect (w ∷ ws) old new = (between : Tape) × UnitEffect w old between × UnitsEffect ws between new

-- the log made the old tape into the new one: what is no unit left it
pub record Effect (l : Loop) (old : Tape) (log : List Entry) (new : Tape) : Type 0 where
  pub reading : Reading l log
  pub effect : UnitsEffect (units_of l reading.pieces) old new

-- ---- transfers

-- a write with status 0
abbrev pub is_out : RecordUnit → Bool
is_out w = w.writes && is_good w.status

-- a read with status 0
abbrev pub is_in : RecordUnit → Bool
is_in w = not w.writes && is_good w.status

-- the transfer that a unit made, or was to make
abbrev pub transfer_of : RecordUnit → Transfer
transfer_of w = record { writes = w.writes; first = w.first; bytes = w.bytes }

-- the log carried exactly these bytes out to the records from n on
pub record CarriesOut (l : Loop) (log : List Entry) (n : ℕ) (bytes : List ℕ) : Type 0 where
  pub reading : Reading l log
  pub carried : carries transfer_of is_out (units_of l reading.pieces) n bytes ≡ true

-- the log carried exactly these bytes in from the records from n on
pub record CarriesIn (l : Loop) (log : List Entry) (n : ℕ) (bytes : List ℕ) : Type 0 where
  pub reading : Reading l log
  pub carried : carries transfer_of is_in (units_of l reading.pieces) n bytes ≡ true

-- ---- the log of a command

-- the exchanges are all whole, or else the last of them broke off
abbrev pub ends_as : Bool → List Piece → Bool
ends_as true ps = are_whole ps
ends_as false ps = breaks_off ps

-- by one reading the log is whole, or else broken; it ends outside a unit; and it made the old tape into
-- the new one
pub record IsLogOf (l : Loop) (whole : Bool) (old : Tape) (log : List Entry) (new : Tape) : Type 0 where
  pub reading : Reading l log
  pub ends : ends_as whole reading.pieces ≡ true
  pub outside : ends_within l reading.pieces ≡ false
  pub effect : UnitsEffect (units_of l reading.pieces) old new

-- By one reading the log is exchanges that end outside a unit, and its units, which all have status 0, are in order these
-- transfers.
pub record Transferred (l : Loop) (log : List Entry) (list : List Transfer) : Type 0 where
  pub reading : Reading l log
  pub outside : ends_within l reading.pieces ≡ false
  pub good : all_good (units_of l reading.pieces) ≡ true
  pub are : map transfer_of (units_of l reading.pieces) ≡ list
