use Rattle.std.proofs.Common.{◌∙◌}
use Rattle.std.specs.Prelude.{replicate}
use Rattle.lif_dir.specs.Entries.{name_bytes}
use Rattle.lif_dir.specs.Names.{made_name}
use Rattle.lif_model.specs.Apply.{Store}
use Rattle.host_model.specs.Requests.{text_type}
use Rattle.il_host.proofs.HostChanges.{altered}
use Rattle.il_host.proofs.HostVolumes.{ends_blank}
use Rattle.il_host.proofs.Prepared.{memory_to_pack, prepared, ready_prepared, room_to_prepare, unprepared}
use Rattle.il_host.proofs.TextPerforms.{stored_as}
use Rattle.il_host.proofs.host.Host.store_text.Goals as goal

pub prepare-requires-clause-left : goal.prepare-requires-clause-left
prepare-requires-clause-left g c = room_to_prepare _ _ c.args.self.now.volume c.begin.new.self _ c.args.self.now.file c.args.self.now.packer c.requires.valid c.begin.ensures.begun

pub prepare-requires-clause-memory : goal.prepare-requires-clause-memory
prepare-requires-clause-memory g c = memory_to_pack _ _ c.args.self.now.volume c.begin.new.self _ c.args.self.now.file c.args.self.now.packer c.requires.valid c.begin.ensures.begun

pub returns-in-Err : goal.returns-in-Err
returns-in-Err g c =
    ends_blank c.prepare.ensures.rests c.requires.blank c.faulted.ensures.ended
    (unprepared _ _ c.args.self.now.volume c.begin.new.self c.prepare.new.self.volume _ _ c.requires.valid c.begin.ensures.begun g.met.M.Medium.is_medium (Store (name_bytes (made_name c.args.name.now)) text_type (replicate 4 0) c.args.self.now.text)
    c.in-Err.ensures.opens c.faulted.ensures.drive c.in-Err.trouble _ c.begin.ensures.kept c.in-Err.ensures.prepares)

pub store-answer-requires-clause-ready : goal.store-answer-requires-clause-ready
store-answer-requires-clause-ready g c = ready_prepared _ _ c.args.self.now.volume c.begin.new.self c.prepare.new.self.volume _ _ c.requires.valid c.begin.ensures.begun g.met.M.Medium.is_medium (prepared _ _ c.args.self.now.volume c.begin.new.self c.prepare.new.self.volume _ _ c.requires.valid c.begin.ensures.begun g.met.M.Medium.is_medium c.in_default.field-0 c.begin.ensures.kept c.in_default.ensures.prepares)

pub returns : goal.returns
returns g c =
    stored_as (c.bytes.ensures ∙ c.prepare.ensures.text)
    (ends_blank c.prepare.ensures.rests c.requires.blank c.ended.ensures.ended
    (altered _ _ c.args.self.now.volume c.begin.new.self c.prepare.new.self.volume c.store-answer.new.self _ _ c.requires.valid c.begin.ensures.begun g.met.M.Medium.is_medium (prepared _ _ c.args.self.now.volume c.begin.new.self c.prepare.new.self.volume _ _ c.requires.valid c.begin.ensures.begun g.met.M.Medium.is_medium c.in_default.field-0 c.begin.ensures.kept c.in_default.ensures.prepares)
    c.in_default.ensures.opens c.store-answer.ensures.open c.ended.ensures.drive (Store (name_bytes (made_name c.args.name.now)) text_type (replicate 4 0) c.bytes.result.now) _ _ tt tt c.store-answer.ensures.did))
