use Rattle.host_model.specs.Requests.{Asks, Devices}
use Rattle.host_model.specs.Replies.{device_lines}
use Rattle.il_host.proofs.host.Host.devices.Goals as goal
use Rattle.il_host.proofs.HostVolumes.{ends_blank, ends_told}
use Rattle.il_host.proofs.Drives.{has_drive_id}
use Rattle.il_host.proofs.HostLoops.{devices_failed, devices_told, lent, not_ready, room_ready}

pub returns-in-Err : goal.returns-in-Err
returns-in-Err g c =
    ends_blank c.make_ready.ensures.rests c.requires.blank c.faulted.ensures.ended
    (not_ready _ _ c.args.self.now.volume c.begin.new.self _ _ c.requires.valid c.begin.ensures.begun g.met.M.Medium.is_medium _ c.make_ready.new.self.volume (Asks Devices) _ c.in-Err.trouble c.in-Err.ensures.opens tt c.in-Err.ensures.addresses c.in-Err.ensures.leaves c.make_ready.ensures.kept)

pub accessories-requires-clause-room : goal.accessories-requires-clause-room
accessories-requires-clause-room g c =
    room_ready _ _ c.args.self.now.volume c.begin.new.self _ _ c.requires.valid c.begin.ensures.begun g.met.M.Medium.is_medium c.args.self.now.page.text c.make_ready.new.self.volume c.in_default.field-0 _ c.in_default.ensures.addresses c.in_default.ensures.leaves c.in_default.ensures.opens _ c.records_mut.ensures.value

pub returns-in-Ok : goal.returns-in-Ok
returns-in-Ok g c =
    ends_told {n = lent c.make_ready.new.self.volume c.accessories.new.self} (device_lines 1 c.accessories.new.into.items) c.make_ready.ensures.rests c.requires.blank c.put_devices.ensures.text c.answered.ensures.ended
    (devices_told _ _ c.args.self.now.volume c.begin.new.self _ _ c.requires.valid c.begin.ensures.begun g.met.M.Medium.is_medium _ c.make_ready.new.self.volume c.in_default.field-0 _ c.in_default.ensures.addresses c.in_default.ensures.leaves c.in_default.ensures.opens _ c.records_mut.ensures.value
    c.accessories.new.self c.accessories.new.into.items _ c.in-Ok.field-0 (has_drive_id _ _ _ _ c.requires.valid.volume_open.valid) c.in-Ok.ensures.named c.in-Ok.ensures.leaves)

pub returns-in-Err-accessories : goal.returns-in-Err-accessories
returns-in-Err-accessories g c =
    ends_blank {n = lent c.make_ready.new.self.volume c.accessories.new.self} c.make_ready.ensures.rests c.requires.blank c.faulted-in-Err-accessories.ensures.ended
    (devices_failed _ _ c.args.self.now.volume c.begin.new.self _ _ c.requires.valid c.begin.ensures.begun g.met.M.Medium.is_medium _ c.make_ready.new.self.volume c.in_default.field-0 _ c.in_default.ensures.addresses c.in_default.ensures.leaves c.in_default.ensures.opens _ c.records_mut.ensures.value
    c.accessories.new.self c.in-Err-accessories.trouble _ (has_drive_id _ _ _ _ c.requires.valid.volume_open.valid) c.in-Err-accessories.ensures.named c.in-Err-accessories.ensures.leaves)
