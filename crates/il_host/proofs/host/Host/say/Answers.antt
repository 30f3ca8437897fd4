use Rattle.host_model.specs.Requests.{Asks, Say}
use Rattle.il_host.proofs.host.Host.say.Goals as goal
use Rattle.il_host.proofs.HostVolumes.{ends_blank}
use Rattle.il_host.proofs.Drives.{has_drive_id}
use Rattle.il_host.proofs.HostLoops.{lent, no_printer, not_ready, room_named, room_ready, say_failed, say_told, unnamed_failed}

pub returns-in-Err : goal.returns-in-Err
returns-in-Err g c =
    ends_blank c.make_ready.ensures.rests c.requires.blank c.faulted.ensures.ended
    (not_ready _ _ c.args.self.now.volume c.begin.new.self _ _ c.requires.valid c.begin.ensures.begun g.met.M.Medium.is_medium _ c.make_ready.new.self.volume (Asks (Say c.args.bytes.now)) _ c.in-Err.trouble c.in-Err.ensures.opens tt c.in-Err.ensures.addresses c.in-Err.ensures.leaves c.make_ready.ensures.kept)

pub accessories-requires-clause-room : goal.accessories-requires-clause-room
accessories-requires-clause-room g c = room_ready _ _ c.args.self.now.volume c.begin.new.self _ _ c.requires.valid c.begin.ensures.begun g.met.M.Medium.is_medium c.args.self.now.page.text c.make_ready.new.self.volume c.in_default.field-0 _ c.in_default.ensures.addresses c.in_default.ensures.leaves c.in_default.ensures.opens _ c.records_mut.ensures.value

pub returns-in-Err-accessories : goal.returns-in-Err-accessories
returns-in-Err-accessories g c =
    ends_blank {n = lent c.make_ready.new.self.volume c.accessories.new.self} c.make_ready.ensures.rests c.requires.blank c.faulted-in-Err-accessories.ensures.ended
    (unnamed_failed _ _ c.args.self.now.volume c.begin.new.self _ _ c.requires.valid c.begin.ensures.begun g.met.M.Medium.is_medium _ c.make_ready.new.self.volume c.in_default.field-0 _ c.in_default.ensures.addresses c.in_default.ensures.leaves c.in_default.ensures.opens _ c.records_mut.ensures.value
    c.accessories.new.self c.in-Err-accessories.trouble _ c.args.bytes.now (has_drive_id _ _ _ _ c.requires.valid.volume_open.valid) c.in-Err-accessories.ensures.named c.in-Err-accessories.ensures.leaves)

pub returns-in_default-printer_among : goal.returns-in_default-printer_among
returns-in_default-printer_among g c =
    ends_blank {n = lent c.make_ready.new.self.volume c.accessories.new.self} c.make_ready.ensures.rests c.requires.blank c.answered.ensures.ended
    (no_printer _ _ c.args.self.now.volume c.begin.new.self _ _ c.requires.valid c.begin.ensures.begun g.met.M.Medium.is_medium _ c.make_ready.new.self.volume c.in_default.field-0 _ c.in_default.ensures.addresses c.in_default.ensures.leaves c.in_default.ensures.opens _ c.records_mut.ensures.value
    c.accessories.new.self c.accessories.new.into.items _ c.in_default-accessories.field-0 (has_drive_id _ _ _ _ c.requires.valid.volume_open.valid) c.in_default-accessories.ensures.named c.in_default-accessories.ensures.leaves c.args.bytes.now c.printer_among.result c.printer_among.ensures.first c.in_default-printer_among.is)

pub say-requires-clause-room : goal.say-requires-clause-room
say-requires-clause-room g c =
    room_named _ _ c.args.self.now.volume c.begin.new.self _ _ c.requires.valid c.begin.ensures.begun g.met.M.Medium.is_medium c.args.self.now.page.text c.make_ready.new.self.volume c.in_default.field-0 _ c.in_default.ensures.addresses c.in_default.ensures.leaves c.in_default.ensures.opens _ c.records_mut.ensures.value
    c.accessories.new.self c.accessories.new.into.items _ c.in_default-accessories.field-0 (has_drive_id _ _ _ _ c.requires.valid.volume_open.valid) c.in_default-accessories.ensures.named c.in_default-accessories.ensures.leaves c.args.bytes.now c.printer_among.result c.printer_among.ensures.first
    c.requires.few c.in-Some.address c.in-Some.is _ c.records_mut-2.ensures.value

pub returns-in-Ok : goal.returns-in-Ok
returns-in-Ok g c =
    ends_blank {n = lent c.make_ready.new.self.volume c.say.new.self} c.make_ready.ensures.rests c.requires.blank c.answered-in-Ok.ensures.ended
    (say_told _ _ c.args.self.now.volume c.begin.new.self _ _ c.requires.valid c.begin.ensures.begun g.met.M.Medium.is_medium _ c.make_ready.new.self.volume c.in_default.field-0 _ c.in_default.ensures.addresses c.in_default.ensures.leaves c.in_default.ensures.opens _ c.records_mut.ensures.value
    c.accessories.new.self c.accessories.new.into.items _ c.in_default-accessories.field-0 (has_drive_id _ _ _ _ c.requires.valid.volume_open.valid) c.in_default-accessories.ensures.named c.in_default-accessories.ensures.leaves c.args.bytes.now c.printer_among.result c.printer_among.ensures.first
    c.requires.few c.in-Some.address c.in-Some.is _ c.records_mut-2.ensures.value c.say.new.self _ c.in-Ok.field-0 c.in-Ok.ensures.said c.in-Ok.ensures.leaves)

pub returns-in-Err-say : goal.returns-in-Err-say
returns-in-Err-say g c =
    ends_blank {n = lent c.make_ready.new.self.volume c.say.new.self} c.make_ready.ensures.rests c.requires.blank c.faulted-in-Err-say.ensures.ended
    (say_failed _ _ c.args.self.now.volume c.begin.new.self _ _ c.requires.valid c.begin.ensures.begun g.met.M.Medium.is_medium _ c.make_ready.new.self.volume c.in_default.field-0 _ c.in_default.ensures.addresses c.in_default.ensures.leaves c.in_default.ensures.opens _ c.records_mut.ensures.value
    c.accessories.new.self c.accessories.new.into.items _ c.in_default-accessories.field-0 (has_drive_id _ _ _ _ c.requires.valid.volume_open.valid) c.in_default-accessories.ensures.named c.in_default-accessories.ensures.leaves c.args.bytes.now c.printer_among.result c.printer_among.ensures.first
    c.requires.few c.in-Some.address c.in-Some.is _ c.records_mut-2.ensures.value c.say.new.self c.in-Err-say.trouble _ c.in-Err-say.ensures.said c.in-Err-say.ensures.leaves)
