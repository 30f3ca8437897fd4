use Rattle.host_model.specs.Requests.{Asks, Status}
use Rattle.host_model.specs.Replies.{status_line}
use Rattle.il_host.proofs.host.Host.status.Goals as goal
use Rattle.il_host.proofs.HostVolumes.{ends_blank, ends_told}
use Rattle.il_host.proofs.HostLoops.{lent, not_ready, room_ready, status_failed, status_told}

pub returns-in-Err : goal.returns-in-Err
returns-in-Err g c =
    ends_blank c.make_ready.ensures.rests c.requires.blank c.faulted.ensures.ended
    (not_ready _ _ c.args.self.now.volume c.begin.new.self _ _ c.requires.valid c.begin.ensures.begun g.met.M.Medium.is_medium _ c.make_ready.new.self.volume (Asks Status) _ c.in-Err.trouble c.in-Err.ensures.opens tt c.in-Err.ensures.addresses c.in-Err.ensures.leaves c.make_ready.ensures.kept)

pub drive_status-requires-clause-room : goal.drive_status-requires-clause-room
drive_status-requires-clause-room g c =
    room_ready _ _ c.args.self.now.volume c.begin.new.self _ _ c.requires.valid c.begin.ensures.begun g.met.M.Medium.is_medium c.args.self.now.page.text c.make_ready.new.self.volume c.in_default.field-0 _ c.in_default.ensures.addresses c.in_default.ensures.leaves c.in_default.ensures.opens _ c.records_mut.ensures.value

pub returns-in-Ok : goal.returns-in-Ok
returns-in-Ok g c =
    ends_told {n = lent c.make_ready.new.self.volume c.drive_status.new.self} (status_line c.in-Ok.byte) c.make_ready.ensures.rests c.requires.blank c.put_status.ensures.text c.answered.ensures.ended
    (status_told _ _ c.args.self.now.volume c.begin.new.self _ _ c.requires.valid c.begin.ensures.begun g.met.M.Medium.is_medium _ c.make_ready.new.self.volume c.in_default.field-0 _ c.in_default.ensures.addresses c.in_default.ensures.leaves c.in_default.ensures.opens _ c.records_mut.ensures.value
    c.drive_status.new.self c.in-Ok.byte _ c.in-Ok.ensures.told c.in-Ok.ensures.leaves)

pub returns-in-Err-drive_status : goal.returns-in-Err-drive_status
returns-in-Err-drive_status g c =
    ends_blank {n = lent c.make_ready.new.self.volume c.drive_status.new.self} c.make_ready.ensures.rests c.requires.blank c.faulted-in-Err-drive_status.ensures.ended
    (status_failed _ _ c.args.self.now.volume c.begin.new.self _ _ c.requires.valid c.begin.ensures.begun g.met.M.Medium.is_medium _ c.make_ready.new.self.volume c.in_default.field-0 _ c.in_default.ensures.addresses c.in_default.ensures.leaves c.in_default.ensures.opens _ c.records_mut.ensures.value
    c.drive_status.new.self c.in-Err-drive_status.trouble _ c.in-Err-drive_status.ensures.told c.in-Err-drive_status.ensures.leaves)
