-- What holds of the drive of a store over the loop that can be used.
use Rattle.std.proofs.Common.{Bool}
use Rattle.il_ring.specs.Rings.{RingView}
use Rattle.il_record.specs.declared.records.Since.{Since}
use Rattle.il_record.specs.LoopStores.{StandsBy}
use Rattle.il_record.proofs.StoreStarts.{stands_free}
use Rattle.il_host.specs.Standings.{HasDriveId, HasDriveStatus}

pub has_status : {M : Type 0} (ready : Bool) (r : RingView M) (sound : Bool) (log : Since) → StandsBy ready r sound log → HasDriveStatus r
has_status ready r sound log stands = (stands_free ready r sound log stands).ring.drive.1.status

pub has_drive_id : {M : Type 0} (ready : Bool) (r : RingView M) (sound : Bool) (log : Since) → StandsBy ready r sound log → HasDriveId r
has_drive_id ready r sound log stands = (stands_free ready r sound log stands).ring.drive.1.accessory
