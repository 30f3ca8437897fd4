-- What exchanges find of the drive and leave of it and its medium: a drive at rest between two exchanges, records that were
-- written, a seek, and a reading.
use Rattle.std.specs.Prelude.{◌≡◌, ◌⊎◌, ℕ, Bool, true, false, List, Option, Some, None, is_some}
use Rattle.lif_model.specs.Stops.{Elapses}
use Rattle.lif_model.specs.Transfers.{PartlyReplaced}
use Rattle.il_ports.specs.Inserting.{OthersAreKept}
use Rattle.il_ports.specs.Media.{MediumView, KeepsIn}
use Rattle.il_frames.specs.declared.frame.Class.TheVariants as class
use Rattle.il_frames.specs.declared.frame.Frame.{Frame}
use Rattle.il_frames.specs.Frames.{framed}
use Rattle.il_device.specs.declared.interface.OwnFrame.{OwnFrame}
use Rattle.il_drive.specs.declared.mode.Mode.TheVariants as mode
use Rattle.il_drive.specs.declared.mode.Start.{Start}
use Rattle.il_drive.specs.State.{DriveState, DriveView, status_of}
use Rattle.il_drive.specs.Steps.{IsStill}

-- selected device clear
abbrev pub sdc : Frame
sdc = framed class.Cmd 0x04

-- The drive between two exchanges: it has this address, does not talk, sends nothing, and its status is 0. It may listen.
-- Mode, buffers, pointer, position and mark are any.
pub record IsFree (p : ℕ) (s : DriveState) : Type 0 where
  pub address : s.interface.roles.address ≡ Some p
  pub mute : s.interface.roles.talks ≡ false
  pub silent : s.interface.own ≡ None
  pub status : status_of s ≡ 0

-- and it awaits nothing
pub record IsAtRest (p : ℕ) (s : DriveState) : Type 0 where
  pub free : IsFree p s
  pub mode : s.mode ≡ mode.Rest

-- What writes of these pieces, or of some of them, leave of the medium but for the tape. A power stop meanwhile leaves the
-- first ones, any bytes in the record of the next, and all others as before.
pub record HasKept (first : ℕ) (pieces : List (List ℕ)) (v w : MediumView) : Type 0 where
  pub stays_in : KeepsIn v w
  pub shelf_told : is_some w.shelf ≡ is_some v.shelf
  pub others : OthersAreKept v.inside v.shelf w.shelf
  pub time : Elapses v.moment w.moment v.left_since w.left_since v.tape (PartlyReplaced first pieces)

-- all stays, and no call failed
pub record IsRead (v w : MediumView) : Type 0 where
  pub still : IsStill v w
  pub count : w.faults ≡ v.faults

-- After a seek of record k the drive rests there, with buffer 0 and the medium as before.
module _ {M : Type 0} (view : M → MediumView) where
  pub record HasSought (p k : ℕ) (v w : DriveView M) : Type 0 where
    pub rests : IsAtRest p w.state
    pub position : w.state.position ≡ k
    pub buffer_0 : w.state.buffer_0 ≡ v.state.buffer_0
    pub medium : w.medium ≡ v.medium

-- ---- a drive that is asked for its name or its status alone

-- nothing, or the one frame that answers this while it talks
abbrev pub OneByte : Start → Option OwnFrame → Start → Bool → Type 0
OneByte what None by talks = Unit {0}
OneByte what (Some own) by talks = (own.last ≡ true) × (by ≡ what) × (talks ≡ true)

-- The drive heeds no data, since it does not listen or awaits nothing, and sends so.
pub record IsMildFor (what : Start) (s : DriveState) : Type 0 where
  pub deaf : (s.interface.roles.listens ≡ false) ⊎ (s.mode ≡ mode.Rest)
  pub sends : OneByte what s.interface.own s.begun s.interface.roles.talks
