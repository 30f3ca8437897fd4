-- What jobs see of a host.
use Rattle.std.specs.Prelude.{◌≡◌, []}
use Rattle.host_model.specs.HostStates.{HostState}
use Rattle.il_host.specs.HostView.{HostView}
use Rattle.il_host.specs.Kept.{FileRead}
use Rattle.tape_volumes.specs.Volumes.{FileContent, Mounted, VolumesView}

-- the tape in the drive of a host
abbrev pub mounted_in : HostState → Mounted
mounted_in s = record { records = s.records; tape = s.tape; kept = s.kept; faults = s.faults }

-- a host under a plan without faults
abbrev pub mounted : HostView → VolumesView
mounted v = record {
  valid = v.valid × (v.plan ≡ []);
  mounted = mounted_in v.state;
  inside = v.inside;
  images = v.images;
  moment = v.moment;
  left_since = v.left_since;
}

-- a file that a host has read
abbrev pub content_read : FileRead → FileContent
content_read file = record { kind = file.fetched.kind; field = file.fetched.implementation; bytes = file.bytes }
