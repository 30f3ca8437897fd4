use Rattle.std.proofs.Common.{◌∙◌, take, sym, ap}
use Rattle.std.specs.Prelude.{min}
use Rattle.std.proofs.lemmas.List.{take_min, with_items_is}
use Rattle.lif_dir.specs.Entries.{name_bytes}
use Rattle.lif_model.specs.Apply.{Fetch}
use Rattle.host_model.specs.Replies.{lines_of_type, lines_text}
use Rattle.il_host.proofs.Getting.{error_not_ok, fault_not_ok, not_got}
use Rattle.il_host.proofs.HostReads.{not_fetched, same_room}
use Rattle.il_host.proofs.HostVolumes.{ends_blank, ends_told}
use Rattle.il_host.proofs.Prepared.{memory_to_pack, prepared, ready_prepared, room_to_prepare, unprepared}
use Rattle.il_host.proofs.TextPerforms.{ends_as, lines_got}
use Rattle.il_host.proofs.host.Host.get.Goals as goal

pub prepare-requires-clause-left : goal.prepare-requires-clause-left
prepare-requires-clause-left g c = room_to_prepare _ _ c.args.self.now.volume c.begin.new.self _ c.args.self.now.file c.args.self.now.packer c.requires.valid c.begin.ensures.begun

pub prepare-requires-clause-memory : goal.prepare-requires-clause-memory
prepare-requires-clause-memory g c = memory_to_pack _ _ c.args.self.now.volume c.begin.new.self _ c.args.self.now.file c.args.self.now.packer c.requires.valid c.begin.ensures.begun

pub returns-in-Err : goal.returns-in-Err
returns-in-Err g c =
    ends_blank c.prepare.ensures.rests c.requires.blank c.faulted.ensures.ended
    (not_got (name_bytes c.args.name.now) _ _ _ (fault_not_ok c.in-Err.trouble)
    (unprepared _ _ c.args.self.now.volume c.begin.new.self c.prepare.new.self.volume _ _ c.requires.valid c.begin.ensures.begun g.met.M.Medium.is_medium (Fetch (name_bytes c.args.name.now)) c.in-Err.ensures.opens c.faulted.ensures.drive c.in-Err.trouble _ c.begin.ensures.kept c.in-Err.ensures.prepares))

pub fetch-requires-clause-ready : goal.fetch-requires-clause-ready
fetch-requires-clause-ready g c = ready_prepared _ _ c.args.self.now.volume c.begin.new.self c.prepare.new.self.volume _ _ c.requires.valid c.begin.ensures.begun g.met.M.Medium.is_medium (prepared _ _ c.args.self.now.volume c.begin.new.self c.prepare.new.self.volume _ _ c.requires.valid c.begin.ensures.begun g.met.M.Medium.is_medium c.in_default.field-0 c.begin.ensures.kept c.in_default.ensures.prepares)

pub returns-in-Ok : goal.returns-in-Ok
returns-in-Ok g c =
    let into = c.fetch.new.into in
    let long = c.fetch.auto.into ∙ c.deref_mut.ensures.len in
    let count = c.min-count.ensures ∙ ap (λ k. min c.in-Ok.fetched.length k) (c.len.ensures ∙ sym long) in
    let shown = ap (take c.min-count.result) (c.deref.ensures.value ∙ with_items_is c.fill.new.self.bytes into long) ∙ ap (λ k. take k into) count ∙ take_min c.in-Ok.fetched.length into in
    ends_told (lines_text (lines_of_type c.in-Ok.fetched.kind (take c.min-count.result c.deref.result.now))) (record { page = c.prepare.ensures.rests.page; room = same_room c.prepare.new.self.packer c.fill.ensures.room ∙ c.prepare.ensures.rests.room }) c.requires.blank c.put_text-reply.ensures.text
    (ends_as c.put_text-reply.ensures.reply c.answered.ensures.ended)
    (lines_got _ _ c.args.self.now.volume c.begin.new.self c.prepare.new.self.volume c.fetch.new.self _ _ c.requires.valid c.begin.ensures.begun g.met.M.Medium.is_medium (prepared _ _ c.args.self.now.volume c.begin.new.self c.prepare.new.self.volume _ _ c.requires.valid c.begin.ensures.begun g.met.M.Medium.is_medium c.in_default.field-0 c.begin.ensures.kept c.in_default.ensures.prepares)
    c.in_default.ensures.opens c.fetch.ensures.open c.answered.ensures.drive (name_bytes c.args.name.now) c.in-Ok.fetched into _ _ shown c.in-Ok.ensures.did c.in-Ok.ensures.fetched c.in-Ok.ensures.run)

pub returns-in-Err-fetch : goal.returns-in-Err-fetch
returns-in-Err-fetch g c =
    ends_blank (record { page = c.prepare.ensures.rests.page; room = same_room c.prepare.new.self.packer c.fill.ensures.room ∙ c.prepare.ensures.rests.room }) c.requires.blank c.refused.ensures.ended
    (not_got (name_bytes c.args.name.now) _ _ _ (error_not_ok c.in-Err-fetch.fault)
    (not_fetched _ _ c.args.self.now.volume c.begin.new.self c.prepare.new.self.volume c.fetch.new.self _ _ c.requires.valid c.begin.ensures.begun g.met.M.Medium.is_medium (prepared _ _ c.args.self.now.volume c.begin.new.self c.prepare.new.self.volume _ _ c.requires.valid c.begin.ensures.begun g.met.M.Medium.is_medium c.in_default.field-0 c.begin.ensures.kept c.in_default.ensures.prepares)
    c.in_default.ensures.opens c.fetch.ensures.open c.refused.ensures.drive (name_bytes c.args.name.now) c.in-Err-fetch.fault _ c.in-Err-fetch.ensures.did))
