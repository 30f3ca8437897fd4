use Rattle.host_model.specs.Requests.{Asks, Poll}
use Rattle.host_model.specs.Replies.{poll_line}
use Rattle.il_host.proofs.host.Host.poll.Goals as goal
use Rattle.il_host.proofs.HostVolumes.{ends_blank, ends_told}
use Rattle.il_host.proofs.HostLoops.{lent, not_ready, poll_failed, poll_told, room_ready}

pub returns-in-Err : goal.returns-in-Err
returns-in-Err g c =
    ends_blank c.make_ready.ensures.rests c.requires.blank c.faulted.ensures.ended
    (not_ready _ _ c.args.self.now.volume c.begin.new.self _ _ c.requires.valid c.begin.ensures.begun g.met.M.Medium.is_medium _ c.make_ready.new.self.volume (Asks Poll) _ c.in-Err.trouble c.in-Err.ensures.opens tt c.in-Err.ensures.addresses c.in-Err.ensures.leaves c.make_ready.ensures.kept)

pub parallel_poll-requires-clause-room : goal.parallel_poll-requires-clause-room
parallel_poll-requires-clause-room g c =
    room_ready _ _ c.args.self.now.volume c.begin.new.self _ _ c.requires.valid c.begin.ensures.begun g.met.M.Medium.is_medium c.args.self.now.page.text c.make_ready.new.self.volume c.in_default.field-0 _ c.in_default.ensures.addresses c.in_default.ensures.leaves c.in_default.ensures.opens _ c.records_mut.ensures.value

pub returns-in-Ok : goal.returns-in-Ok
returns-in-Ok g c =
    ends_told {n = lent c.make_ready.new.self.volume c.parallel_poll.new.self} (poll_line c.in-Ok.frame) c.make_ready.ensures.rests c.requires.blank c.put_poll.ensures.text c.answered.ensures.ended
    (poll_told _ _ c.args.self.now.volume c.begin.new.self _ _ c.requires.valid c.begin.ensures.begun g.met.M.Medium.is_medium _ c.make_ready.new.self.volume c.in_default.field-0 _ c.in_default.ensures.addresses c.in_default.ensures.leaves c.in_default.ensures.opens _ c.records_mut.ensures.value
    c.parallel_poll.new.self c.in-Ok.frame _ c.in-Ok.ensures.polled c.in-Ok.ensures.leaves)

pub returns-in-Err-parallel_poll : goal.returns-in-Err-parallel_poll
returns-in-Err-parallel_poll g c =
    ends_blank {n = lent c.make_ready.new.self.volume c.parallel_poll.new.self} c.make_ready.ensures.rests c.requires.blank c.faulted-in-Err-parallel_poll.ensures.ended
    (poll_failed _ _ c.args.self.now.volume c.begin.new.self _ _ c.requires.valid c.begin.ensures.begun g.met.M.Medium.is_medium _ c.make_ready.new.self.volume c.in_default.field-0 _ c.in_default.ensures.addresses c.in_default.ensures.leaves c.in_default.ensures.opens _ c.records_mut.ensures.value
    c.parallel_poll.new.self c.in-Err-parallel_poll.trouble _ c.in-Err-parallel_poll.ensures.polled c.in-Err-parallel_poll.ensures.leaves)
