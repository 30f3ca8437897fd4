-- A run of records: the seek, the transfer and the status poll, each over the loop, and what the drive did meanwhile.
use Rattle.std.specs.Prelude.{◌≡◌, ◌≢◌, ◌≤◌, ◌*◌, ◌/◌, ◌⊎◌, ℕ, Bool, true, false, List, [], ◌∷◌, length, Some, None}
use Rattle.lif_model.specs.Tape.{Tape, bytes_from}
use Rattle.lif_model.specs.Causes.{Rose}
use Rattle.lif_model.specs.Shelf.{bytes_of}
use Rattle.lif_model.specs.Transfers.{Replaced, PartlyReplaced}
use Rattle.il_frames.specs.Frames.{byte_of}
use Rattle.il_poll.specs.Service.{status_byte_of}
use Rattle.il_ports.specs.Media.{MediumView}
use Rattle.il_drive.specs.State.{DriveView, status_of}
use Rattle.il_drive.specs.Steps.{IsStill}
use Rattle.il_drive.specs.Resting.{IsAtRest, sdc, HasKept, IsRead}
use Rattle.il_frames.specs.NamedFrames.{aau, ifc, lad, unl}
use Rattle.loop_model.specs.Exchanges.{Answer, Echo, Stopped, Receive, Sst}
use Rattle.loop_model.specs.Units.{RecordUnit}
use Rattle.il_ring.specs.Rings.{RingView, drive_party}
use Rattle.il_control.specs.Calls.{AllStay, IsIdle, Made, BrokenOff}
use Rattle.il_record.specs.Asks.{Ask, AskAddresses, AskCommand, CameAsked}
use Rattle.il_record.specs.Came.{NoneHeard, OnlyHeard, CameBy, CameUnits}
use Rattle.il_record.specs.Polls.{PlacesKept}

-- ---- what the drive did, which has address d

-- no record changed, and no count of the medium fell
pub record LeavesRecords {M : Type 0} (view : M → MediumView) (v w : DriveView M) : Type 0 where
  pub still : IsStill (view v.medium) (view w.medium)
  pub count : (view v.medium).faults ≤ (view w.medium).faults

-- it told its status by this byte; after that the status is 0, and the drive rests
pub record TellsStatus {M : Type 0} (d byte : ℕ) (v w : DriveView M) : Type 0 where
  pub byte_is : byte ≡ status_byte_of (status_of v.state)
  pub rests : IsAtRest d w.state
  pub medium : w.medium ≡ v.medium

-- it sent all bytes of k records
pub record ReadAll {M : Type 0} (view : M → MediumView) (d k first : ℕ) (bytes : List ℕ) (v w : DriveView M) : Type 0 where
  pub long : length bytes ≡ 256 * k
  pub content : (t : Tape) → (view v.medium).tape ≡ Some t → bytes ≡ bytes_from t first k
  pub rests : IsAtRest d w.state
  pub medium : IsRead (view v.medium) (view w.medium)

-- it could not read one of them
pub record ReadPart {M : Type 0} (view : M → MediumView) (v w : DriveView M) : Type 0 where
  pub status : status_of w.state ≡ 1
  pub still : IsStill (view v.medium) (view w.medium)
  pub rose : Rose (view v.medium).faults (view w.medium).faults

-- ---- exchanges that move no record

-- this was asked for, and broken off
pub record Interrupted {M : Type 0} (view : M → MediumView) (asks : List Ask) (d : ℕ) (r s : RingView M) : Type 0 where
  pub came : CameAsked view false asks r s
  pub unheard : OnlyHeard d r s
  pub places : PlacesKept r s
  pub drive : LeavesRecords view r.drive s.drive

-- ---- addressing

-- interface clear, auto address unconfigure, and addresses for all
abbrev pub address_asks : List Ask
address_asks = AskCommand ifc ∷ AskCommand aau ∷ AskAddresses ∷ []

-- What addressing leaves, whole or broken off: what each device heard, its place in the poll and its wish for service, and the
-- drive's status and medium.
pub record LeavesDevices {M : Type 0} (r s : RingView M) : Type 0 where
  pub stays : AllStay true r s
  pub status : status_of s.drive.state ≡ status_of r.drive.state
  pub medium : s.drive.medium ≡ r.drive.medium

-- each device has its number as address, and none has a role
pub record Readied {M : Type 0} (view : M → MediumView) (r s : RingView M) : Type 0 where
  pub came : CameAsked view true address_asks r s
  pub unheard : OnlyHeard (drive_party r) r s
  pub leaves : LeavesDevices r s
  pub idle : IsIdle s

-- ---- clearing

-- the drive alone listens, and selected devices are cleared
abbrev pub clear_asks : ℕ → List Ask
clear_asks d = AskCommand unl ∷ AskCommand (lad d) ∷ AskCommand sdc ∷ []

-- the drive was cleared: it rests with status 0
pub record Cleared {M : Type 0} (view : M → MediumView) (d : ℕ) (r s : RingView M) : Type 0 where
  pub came : CameAsked view true (clear_asks d) r s
  pub unheard : OnlyHeard d r s
  pub places : PlacesKept r s
  pub rests : IsAtRest d s.drive.state
  pub medium : s.drive.medium ≡ r.drive.medium
  pub idle : IsIdle s

-- ---- the status

-- the drive was asked for its status, and told this byte; no device heard anything
pub record Polled {M : Type 0} (view : M → MediumView) (d byte : ℕ) (r s : RingView M) : Type 0 where
  pub echo : Echo
  pub byte_is : byte ≡ byte_of echo.sent
  pub made : Made view (Receive d None Sst (Stopped d [] echo)) r s
  pub unheard : NoneHeard r s
  pub drive : TellsStatus d byte r.drive s.drive

-- That was broken off: no device heard anything, and the status is as it was, or was told and is 0 then.
pub record NotPolled {M : Type 0} (view : M → MediumView) (d : ℕ) (r s : RingView M) : Type 0 where
  pub answer : Answer
  pub broken : BrokenOff view (Receive d None Sst answer) r s
  pub unheard : NoneHeard r s
  pub drive : LeavesRecords view r.drive s.drive
  pub status : (status_of s.drive.state ≡ status_of r.drive.state) ⊎ (status_of s.drive.state ≡ 0)
  pub medium : s.drive.medium ≡ r.drive.medium

-- ---- a read

-- the unit of a run from record `first` on
abbrev pub unit : Bool → ℕ → List ℕ → ℕ → RecordUnit
unit writes first bytes status = record { writes = writes; first = first; bytes = bytes; status = Some status }

-- these are the bytes of k records
pub record ReadRun {M : Type 0} (view : M → MediumView) (d k first : ℕ) (bytes : List ℕ) (r s : RingView M) : Type 0 where
  pub came : CameUnits view true (unit false first bytes 0 ∷ []) r s
  pub unheard : OnlyHeard d r s
  pub drive : ReadAll view d k first bytes r.drive s.drive

-- the medium could not read one of them, and the status told it
pub record NotRead {M : Type 0} (view : M → MediumView) (d first : ℕ) (r s : RingView M) : Type 0 where
  pub bytes : List ℕ
  pub status : ℕ
  pub bad : status ≢ 0
  pub came : CameUnits view true (unit false first bytes status ∷ []) r s
  pub unheard : OnlyHeard d r s
  pub rests : IsAtRest d s.drive.state
  pub still : IsStill (view r.drive.medium) (view s.drive.medium)
  pub rose : Rose (view r.drive.medium).faults (view s.drive.medium).faults

-- an exchange was broken off
pub record ReadBroke {M : Type 0} (view : M → MediumView) (d : ℕ) (r s : RingView M) : Type 0 where
  pub came : CameBy view false r s
  pub unheard : OnlyHeard d r s
  pub drive : LeavesRecords view r.drive s.drive

abbrev pub ReadAs : {M : Type 0} → (M → MediumView) → ℕ → ℕ → List ℕ → Bool → RingView M → RingView M → Type 0
ReadAs view d first bytes true r s = ReadRun view d (length bytes / 256) first bytes r s
ReadAs view d first bytes false r s = NotRead view d first r s

-- ---- a write

-- of these pieces, from record `first` on, some stand, the first ones, and the record of the next may hold any bytes
pub record WrotePartly {M : Type 0} (view : M → MediumView) (first : ℕ) (pieces : List (List ℕ)) (v w : DriveView M) : Type 0 where
  pub kept : HasKept first pieces (view v.medium) (view w.medium)
  pub stand : (t : Tape) → (view v.medium).tape ≡ Some t → (u : Tape) × ((view w.medium).tape ≡ Some u) × PartlyReplaced first pieces t u
  pub count : (view v.medium).faults ≤ (view w.medium).faults

-- all stand
pub record WriteRun {M : Type 0} (view : M → MediumView) (d first : ℕ) (bytes : List ℕ) (pieces : List (List ℕ)) (r s : RingView M) : Type 0 where
  pub came : CameUnits view true (unit true first bytes 0 ∷ []) r s
  pub unheard : OnlyHeard d r s
  pub kept : HasKept first pieces (view r.drive.medium) (view s.drive.medium)
  pub stand : (t : Tape) → (view r.drive.medium).tape ≡ Some t → (u : Tape) × ((view s.drive.medium).tape ≡ Some u) × Replaced first pieces t u
  pub count : (view s.drive.medium).faults ≡ (view r.drive.medium).faults
  pub rests : IsAtRest d s.drive.state

-- the medium could not write one of them, and the status told it
pub record NotWritten {M : Type 0} (view : M → MediumView) (d first : ℕ) (bytes : List ℕ) (pieces : List (List ℕ)) (r s : RingView M) : Type 0 where
  pub status : ℕ
  pub bad : status ≢ 0
  pub came : CameUnits view true (unit true first bytes status ∷ []) r s
  pub unheard : OnlyHeard d r s
  pub rests : IsAtRest d s.drive.state
  pub left : WrotePartly view first pieces r.drive s.drive
  pub rose : Rose (view r.drive.medium).faults (view s.drive.medium).faults

-- an exchange was broken off
pub record WriteBroke {M : Type 0} (view : M → MediumView) (d first : ℕ) (pieces : List (List ℕ)) (r s : RingView M) : Type 0 where
  pub came : CameBy view false r s
  pub unheard : OnlyHeard d r s
  pub left : WrotePartly view first pieces r.drive s.drive

abbrev pub WroteAs : {M : Type 0} → (M → MediumView) → ℕ → ℕ → List (List ℕ) → Bool → RingView M → RingView M → Type 0
WroteAs view d first pieces true r s = WriteRun view d first (bytes_of pieces) pieces r s
WroteAs view d first pieces false r s = NotWritten view d first (bytes_of pieces) pieces r s
