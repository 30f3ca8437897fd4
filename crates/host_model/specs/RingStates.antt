-- What a ring stands for, with its drive and medium.
use Rattle.std.specs.Prelude.{Bool, false}
use Rattle.il_ports.specs.Media.{MediumView}
use Rattle.il_drive.specs.State.{status_of}
use Rattle.il_ring.specs.Guests.{last_asked}
use Rattle.il_ring.specs.Rings.{RingView}
use Rattle.host_model.specs.LoopStates.{LoopState}
use Rattle.host_model.specs.HostStates.{HostState}

abbrev pub loop_on : {M : Type 0} → RingView M → LoopState
loop_on r = record {
  before = r.before;
  status = status_of r.drive.state;
  drive = r.drive.state.interface.roles;
  after = r.after;
  guest = last_asked r.guest;
}

-- of a host whose controller is ready or not, whose store is sound or not, and which keeps no directory
abbrev pub state_on : {M : Type 0} → (M → MediumView) → (ready sound : Bool) → RingView M → HostState
state_on view ready sound r = record {
  tape = (view r.drive.medium).tape;
  records = (view r.drive.medium).record_count;
  faults = (view r.drive.medium).faults;
  crossings = r.books.crossings;
  ready = ready;
  sound = sound;
  kept = false;
  loop = loop_on r;
}
