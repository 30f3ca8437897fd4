use Rattle.lif_model.specs.Apply.{Batch}
use Rattle.lif_dir.specs.Batches.{parts_of}
use Rattle.il_host.proofs.HostChanges.{altered}
use Rattle.il_host.proofs.HostVolumes.{ends_blank}
use Rattle.il_host.proofs.Prepared.{batch_prepared, memory_to_pack, prepared, room_to_prepare, unprepared}
use Rattle.il_host.proofs.host.Host.on_batch.Goals as goal

pub prepare-requires-clause-left : goal.prepare-requires-clause-left
prepare-requires-clause-left g c = room_to_prepare _ _ c.args.self.now.volume c.begin.new.self _ c.args.self.now.file c.args.self.now.packer c.requires.valid c.begin.ensures.begun

pub prepare-requires-clause-memory : goal.prepare-requires-clause-memory
prepare-requires-clause-memory g c = memory_to_pack _ _ c.args.self.now.volume c.begin.new.self _ c.args.self.now.file c.args.self.now.packer c.requires.valid c.begin.ensures.begun

pub returns-in-Err : goal.returns-in-Err
returns-in-Err g c =
    ends_blank c.prepare.ensures.rests c.requires.blank c.faulted.ensures.ended
    (unprepared _ _ c.args.self.now.volume c.begin.new.self c.prepare.new.self.volume _ _ c.requires.valid c.begin.ensures.begun g.met.M.Medium.is_medium (Batch (parts_of c.args.batch.now)) c.in-Err.ensures.opens c.faulted.ensures.drive c.in-Err.trouble _ c.begin.ensures.kept c.in-Err.ensures.prepares)

pub batch-answer-requires-clause-ready : goal.batch-answer-requires-clause-ready
batch-answer-requires-clause-ready g c = batch_prepared _ _ c.args.self.now.volume c.begin.new.self c.prepare.new.self.volume _ _ c.requires.valid c.begin.ensures.begun g.met.M.Medium.is_medium (prepared _ _ c.args.self.now.volume c.begin.new.self c.prepare.new.self.volume _ _ c.requires.valid c.begin.ensures.begun g.met.M.Medium.is_medium c.in_default.field-0 c.begin.ensures.kept c.in_default.ensures.prepares)

pub returns : goal.returns
returns g c =
    ends_blank c.prepare.ensures.rests c.requires.blank c.ended.ensures.ended
    (altered _ _ c.args.self.now.volume c.begin.new.self c.prepare.new.self.volume c.batch-answer.new.self _ _ c.requires.valid c.begin.ensures.begun g.met.M.Medium.is_medium (prepared _ _ c.args.self.now.volume c.begin.new.self c.prepare.new.self.volume _ _ c.requires.valid c.begin.ensures.begun g.met.M.Medium.is_medium c.in_default.field-0 c.begin.ensures.kept c.in_default.ensures.prepares)
    c.in_default.ensures.opens c.batch-answer.ensures.open c.ended.ensures.drive (Batch (parts_of c.args.batch.now)) _ _ tt c.batch-answer.ensures.formed c.batch-answer.ensures.did)
