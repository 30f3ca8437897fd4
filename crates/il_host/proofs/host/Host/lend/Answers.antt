use Rattle.std.specs.Prelude.{option_map}
use Rattle.host_model.specs.Requests.{Asks, Lend}
use Rattle.il_host.specs.Texts.{found_lines}
use Rattle.il_host.proofs.host.Host.lend.Goals as goal
use Rattle.il_host.proofs.HostVolumes.{ends_blank, ends_told}
use Rattle.il_host.proofs.HostLoops.{lend_failed, lend_not_taken, lend_room, lend_told, lent, not_ready}

pub returns-in-Err : goal.returns-in-Err
returns-in-Err g c =
    ends_blank c.make_ready.ensures.rests c.requires.blank c.faulted.ensures.ended
    (not_ready _ _ c.args.self.now.volume c.begin.new.self _ _ c.requires.valid c.begin.ensures.begun g.met.M.Medium.is_medium _ c.make_ready.new.self.volume (Asks (Lend c.args.frames)) _ c.in-Err.trouble c.in-Err.ensures.opens tt c.in-Err.ensures.addresses c.in-Err.ensures.leaves c.make_ready.ensures.kept)

pub lend-requires-clause-room : goal.lend-requires-clause-room
lend-requires-clause-room g c =
    lend_room _ _ c.args.self.now.volume c.begin.new.self _ _ c.requires.valid c.begin.ensures.begun g.met.M.Medium.is_medium c.args.self.now.page.text c.make_ready.new.self.volume c.in_default.field-0 _ c.in_default.ensures.addresses c.in_default.ensures.leaves c.in_default.ensures.opens _ c.records_mut.ensures.value
    c.args.frames c.requires.frames.1

pub returns-in-Ok-true : goal.returns-in-Ok-true
returns-in-Ok-true g c =
    ends_told {n = lent c.make_ready.new.self.volume c.lend.new.self} (found_lines c.devices-last.result (option_map (λ g. g.now) c.guest.result) c.log.result.now) c.make_ready.ensures.rests c.requires.blank c.put_found.ensures.text c.answered.ensures.ended
    (lend_told _ _ c.args.self.now.volume c.begin.new.self _ _ c.requires.valid c.begin.ensures.begun g.met.M.Medium.is_medium _ c.make_ready.new.self.volume c.in_default.field-0 _ c.in_default.ensures.addresses c.in_default.ensures.leaves c.in_default.ensures.opens _ c.records_mut.ensures.value
    c.lend.new.self c.devices-last.result c.args.frames c.requires.frames.1 _ _ c.records.ensures c.ring.ensures c.devices-last.ensures.count c.devices-last.ensures.guest c.in-Ok-true.ensures.leaves
    c.in-Ok-true.field-0 c.in-Ok-true.field-0-test (option_map (λ g. g.now) c.guest.result) _ _ c.records-in-Ok-true.ensures c.ring-ring.ensures c.guest.ensures.mind c.log.result.now c.log.ensures c.in-Ok-true.ensures.lent)

pub returns-in-Ok-false : goal.returns-in-Ok-false
returns-in-Ok-false g c =
    ends_blank {n = lent c.make_ready.new.self.volume c.lend.new.self} c.make_ready.ensures.rests c.requires.blank c.answered-in-Ok-false.ensures.ended
    (lend_not_taken _ _ c.args.self.now.volume c.begin.new.self _ _ c.requires.valid c.begin.ensures.begun g.met.M.Medium.is_medium _ c.make_ready.new.self.volume c.in_default.field-0 _ c.in_default.ensures.addresses c.in_default.ensures.leaves c.in_default.ensures.opens _ c.records_mut.ensures.value
    c.lend.new.self c.devices-last.result c.args.frames c.requires.frames.1 _ _ c.records.ensures c.ring.ensures c.devices-last.ensures.count c.devices-last.ensures.guest c.in-Ok-false.ensures.leaves
    c.in-Ok-false.field-0 c.in-Ok-false.field-0-test c.in-Ok-false.ensures.lent)

pub returns-in-Err-lend : goal.returns-in-Err-lend
returns-in-Err-lend g c =
    ends_blank {n = lent c.make_ready.new.self.volume c.lend.new.self} c.make_ready.ensures.rests c.requires.blank c.faulted-in-Err-lend.ensures.ended
    (lend_failed _ _ c.args.self.now.volume c.begin.new.self _ _ c.requires.valid c.begin.ensures.begun g.met.M.Medium.is_medium _ c.make_ready.new.self.volume c.in_default.field-0 _ c.in_default.ensures.addresses c.in_default.ensures.leaves c.in_default.ensures.opens _ c.records_mut.ensures.value
    c.lend.new.self c.devices-last.result c.args.frames c.requires.frames.1 _ _ c.records.ensures c.ring.ensures c.devices-last.ensures.count c.devices-last.ensures.guest c.in-Err-lend.ensures.leaves
    c.in-Err-lend.trouble c.in-Err-lend.ensures.lent)
