-- The drive's own frame on the loop.
use Rattle.std.proofs.Common.{Bool, true, false}
use Rattle.std.specs.Prelude.{Option, Some, None, if◌then◌else◌}
use Rattle.il_frames.specs.declared.message.Message.{Message}
use Rattle.il_frames.specs.declared.message.Message.TheVariants as msg
use Rattle.il_device.specs.declared.interface.OwnFrame.{OwnFrame}
use Rattle.il_device.specs.declared.roles.Roles.{Roles}
use Rattle.il_device.specs.Roles.{is_own, stopped, own_after}
use Rattle.il_drive.specs.declared.mode.Start.{Start}
use Rattle.il_drive.specs.State.{IsSending}

sending_unless : (by : Start) (own : Option OwnFrame) (ends : Bool) → IsSending by own → IsSending by (if ends then None else own)
sending_unless by own true h = tt
sending_unless by own false h = h

sending_stopped : (by : Start) (own : Option OwnFrame) → IsSending by own → IsSending by (stopped own)
sending_stopped by None h = h
sending_stopped by (Some own) h = h

-- a message ends or stops it, or leaves it as it is
pub IsSending-after : (by : Start) (r : Roles) (own : Option OwnFrame) (m : Message) → IsSending by own → IsSending by (own_after r own m)
IsSending-after by r own msg.Ifc h = tt
IsSending-after by r own msg.Aau h = tt
IsSending-after by r own (msg.Tad a) h = tt
IsSending-after by r own msg.Unt h = tt
IsSending-after by r own (msg.Lad a) h = sending_unless by own (is_own r.address a) h
IsSending-after by r own msg.Nrd h = sending_stopped by own h
IsSending-after by r own _ h = h
