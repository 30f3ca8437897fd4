-- What exchanges one after the other made of a ring and of the tape in its drive.
use Rattle.std.specs.Prelude.{◌≡◌, ◌≢◌, ◌≤◌, ◌+◌, ◌++◌, ℕ, Bool, false, List, [], ◌∷◌, length, Some}
use Rattle.lif_model.specs.Tape.{Tape}
use Rattle.il_frames.specs.declared.entry.Entry.{Entry}
use Rattle.il_device.specs.State.{DeviceState}
use Rattle.il_ports.specs.Media.{MediumView}
use Rattle.loop_model.specs.Effect.{UnitsEffect}
use Rattle.loop_model.specs.Exchanges.{Piece}
use Rattle.loop_model.specs.Hearing.{heard_by}
use Rattle.loop_model.specs.Roles.{roles_after}
use Rattle.loop_model.specs.Units.{RecordUnit, units_of, ends_within}
use Rattle.il_ring.specs.Rings.{RingView, devices_of, roles_of}
use Rattle.il_ring.specs.Outcomes.{HearsNothing}
use Rattle.il_control.specs.Calls.{loop_of}
use Rattle.il_record.specs.Talks.{Talked}

-- each of these devices, of which the first is party k, heard nothing, but party a
abbrev pub OthersUnheard : ℕ → ℕ → List DeviceState → List DeviceState → Type 0
OthersUnheard a k [] [] = Unit {0}
OthersUnheard a k (d ∷ ds) (e ∷ es) = (k ≢ a → HearsNothing d e) × OthersUnheard a (k + 1) ds es
OthersUnheard a k _ _ = ⊥

-- The ring r became s by exchanges, all whole, or the last of them broken off: exactly where a planned hop was met. The log grew by
-- their entries, which tell the links that were crossed, the frames that came to each device, and the roles; at most one party talked
-- at every moment. They end outside a unit, and their units made of the tape at first, where it is told, the tape as it is.
pub record CameBy {M : Type 0} (view : M → MediumView) (whole : Bool) (r s : RingView M) : Type 0 where
  pub pieces : List Piece
  pub talked : Talked view whole pieces r s
  pub outside : ends_within (loop_of r) pieces ≡ false
  pub effect : (t : Tape) → (view r.drive.medium).tape ≡ Some t → (u : Tape) × ((view s.drive.medium).tape ≡ Some u) × UnitsEffect (units_of (loop_of r) pieces) t u

-- what party k heard of these entries, which the log of the ring r gained: the data bytes that came to it, as they were sent, while it
-- listened
abbrev pub heard_on : {M : Type 0} → RingView M → ℕ → List Entry → List ℕ
heard_on r k entries = heard_by (length (devices_of r)) k (roles_of (devices_of r)) entries

-- No device but party a heard anything. The log tells the same: of the entries that it gained, which give the roles too, no other party
-- heard anything.
pub record OnlyHeard {M : Type 0} (a : ℕ) (r s : RingView M) : Type 0 where
  pub unheard : OthersUnheard a 1 (devices_of r) (devices_of s)
  pub entries : List Entry
  pub log : s.books.log ≡ r.books.log ++ entries
  pub roles : roles_of (devices_of s) ≡ roles_after (roles_of (devices_of r)) entries
  pub size : length (devices_of s) ≡ length (devices_of r)
  pub by_log : (k : ℕ) → 1 ≤ k → k ≤ length (devices_of r) → k ≢ a → heard_on r k entries ≡ []

-- no device heard anything: none is party 0
abbrev pub NoneHeard : {M : Type 0} → RingView M → RingView M → Type 0
NoneHeard r s = OnlyHeard 0 r s

-- with these units
pub record CameUnits {M : Type 0} (view : M → MediumView) (whole : Bool) (units : List RecordUnit) (r s : RingView M) : Type 0 where
  pub came : CameBy view whole r s
  pub are : units_of (loop_of r) came.pieces ≡ units
