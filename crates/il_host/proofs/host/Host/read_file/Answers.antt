use Rattle.std.proofs.Common.{◌∙◌, take, sym, ap}
use Rattle.std.proofs.lemmas.List.{with_items_is}
use Rattle.lif_dir.specs.Entries.{name_bytes}
use Rattle.lif_model.specs.Apply.{Fetch}
use Rattle.il_host.specs.Kept.{file_held}
use Rattle.il_host.specs.Texts.{data_text}
use Rattle.il_host.proofs.Getting.{error_not_ok, fault_not_ok, never_ok}
use Rattle.il_host.proofs.HostReads.{fetched, not_fetched, same_room}
use Rattle.il_host.proofs.HostVolumes.{ends_blank, ends_told}
use Rattle.il_host.proofs.Prepared.{memory_to_pack, prepared, ready_prepared, room_to_prepare, unprepared}
use Rattle.il_host.proofs.TextPerforms.{file_read}
use Rattle.il_host.proofs.host.Host.read_file.Goals as goal

pub prepare-requires-clause-left : goal.prepare-requires-clause-left
prepare-requires-clause-left g c = room_to_prepare _ _ c.args.self.now.volume c.begin.new.self _ c.args.self.now.file c.args.self.now.packer c.requires.valid c.begin.ensures.begun

pub prepare-requires-clause-memory : goal.prepare-requires-clause-memory
prepare-requires-clause-memory g c = memory_to_pack _ _ c.args.self.now.volume c.begin.new.self _ c.args.self.now.file c.args.self.now.packer c.requires.valid c.begin.ensures.begun

pub returns-in-Err-clause-performed : goal.returns-in-Err-clause-performed
returns-in-Err-clause-performed g c =
    ends_blank c.prepare.ensures.rests c.requires.blank c.faulted.ensures.ended
    (unprepared _ _ c.args.self.now.volume c.begin.new.self c.prepare.new.self.volume _ _ c.requires.valid c.begin.ensures.begun g.met.M.Medium.is_medium (Fetch (name_bytes c.args.name.now)) c.in-Err.ensures.opens c.faulted.ensures.drive c.in-Err.trouble _ c.begin.ensures.kept c.in-Err.ensures.prepares)

pub returns-in-Err-clause-read : goal.returns-in-Err-clause-read
returns-in-Err-clause-read g c = λ ok. never_ok _ (fault_not_ok c.in-Err.trouble) (sym c.faulted.ensures.ended.reply ∙ ok) _

pub fetch-requires-clause-ready : goal.fetch-requires-clause-ready
fetch-requires-clause-ready g c = ready_prepared _ _ c.args.self.now.volume c.begin.new.self c.prepare.new.self.volume _ _ c.requires.valid c.begin.ensures.begun g.met.M.Medium.is_medium (prepared _ _ c.args.self.now.volume c.begin.new.self c.prepare.new.self.volume _ _ c.requires.valid c.begin.ensures.begun g.met.M.Medium.is_medium c.in_default.field-0 c.begin.ensures.kept c.in_default.ensures.prepares)

pub returns-in-Ok-clause-performed : goal.returns-in-Ok-clause-performed
returns-in-Ok-clause-performed g c =
    let into = c.fetch.new.into in
    let long = c.fetch.auto.into ∙ c.deref_mut.ensures.len in
    let shown = c.read.ensures.bytes ∙ ap (take c.in-Ok.fetched.length) (with_items_is c.fill.new.self.bytes into long) in
    ends_told (data_text c.in-Ok.fetched.kind c.in-Ok.fetched.implementation c.read.result.now) (record { page = c.prepare.ensures.rests.page; room = same_room c.prepare.new.self.packer c.fill.ensures.room ∙ c.prepare.ensures.rests.room }) c.requires.blank c.put_data.ensures.text c.answered.ensures.ended
    (fetched _ _ c.args.self.now.volume c.begin.new.self c.prepare.new.self.volume c.fetch.new.self _ _ c.requires.valid c.begin.ensures.begun g.met.M.Medium.is_medium (prepared _ _ c.args.self.now.volume c.begin.new.self c.prepare.new.self.volume _ _ c.requires.valid c.begin.ensures.begun g.met.M.Medium.is_medium c.in_default.field-0 c.begin.ensures.kept c.in_default.ensures.prepares)
    c.in_default.ensures.opens c.fetch.ensures.open c.answered.ensures.drive (name_bytes c.args.name.now) c.in-Ok.fetched into _ _ shown c.in-Ok.ensures.did c.in-Ok.ensures.fetched c.in-Ok.ensures.run)

pub returns-in-Ok-clause-read : goal.returns-in-Ok-clause-read
returns-in-Ok-clause-read g c = λ ok.
    let into = c.fetch.new.into in
    let long = c.fetch.auto.into ∙ c.deref_mut.ensures.len in
    let held = ap file_held c.answered.ensures.file in
    let same = ap (take c.in-Ok.fetched.length) (with_items_is c.fill.new.self.bytes into long) in
    file_read _ _ c.args.self.now.volume c.begin.new.self c.prepare.new.self.volume c.fetch.new.self _ _ c.requires.valid c.begin.ensures.begun g.met.M.Medium.is_medium (prepared _ _ c.args.self.now.volume c.begin.new.self c.prepare.new.self.volume _ _ c.requires.valid c.begin.ensures.begun g.met.M.Medium.is_medium c.in_default.field-0 c.begin.ensures.kept c.in_default.ensures.prepares)
    c.in_default.ensures.opens c.fetch.ensures.open c.answered.ensures.drive (name_bytes c.args.name.now) c.in-Ok.fetched into c.args.self.now.page.text held same c.in-Ok.ensures.fetched

pub returns-in-Err-fetch-clause-performed : goal.returns-in-Err-fetch-clause-performed
returns-in-Err-fetch-clause-performed g c =
    ends_blank (record { page = c.prepare.ensures.rests.page; room = same_room c.prepare.new.self.packer c.fill.ensures.room ∙ c.prepare.ensures.rests.room }) c.requires.blank c.refused.ensures.ended
    (not_fetched _ _ c.args.self.now.volume c.begin.new.self c.prepare.new.self.volume c.fetch.new.self _ _ c.requires.valid c.begin.ensures.begun g.met.M.Medium.is_medium (prepared _ _ c.args.self.now.volume c.begin.new.self c.prepare.new.self.volume _ _ c.requires.valid c.begin.ensures.begun g.met.M.Medium.is_medium c.in_default.field-0 c.begin.ensures.kept c.in_default.ensures.prepares)
    c.in_default.ensures.opens c.fetch.ensures.open c.refused.ensures.drive (name_bytes c.args.name.now) c.in-Err-fetch.fault _ c.in-Err-fetch.ensures.did)

pub returns-in-Err-fetch-clause-read : goal.returns-in-Err-fetch-clause-read
returns-in-Err-fetch-clause-read g c = λ ok. never_ok _ (error_not_ok c.in-Err-fetch.fault) (sym c.refused.ensures.ended.reply ∙ ok) _
