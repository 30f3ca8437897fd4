use Rattle.std.proofs.Common.{◌∙◌, sym, ap, arith}
use Rattle.std.specs.Prelude.{length}
use Rattle.il_script.specs.Sheet.{Sheet}
use Rattle.il_host.specs.Hosts.{volume_in}
use Rattle.il_host.specs.Texts.{label_text, listing_text}
use Rattle.il_host.proofs.HostChanges.{altered}
use Rattle.il_host.proofs.HostReads.{labelled, listed, not_labelled, not_listed}
use Rattle.il_host.proofs.HostVolumes.{changes_volume, ends_blank, ends_told, on_volume, volume_request}
use Rattle.il_host.proofs.Prepared.{memory_to_pack, prepared, ready_prepared, room_to_prepare, size_prepared, unprepared}
use Rattle.il_host.proofs.Texts.{dir_told, listing_fits}
use Rattle.il_host.proofs.host.Host.on_volume.Goals as goal

pub prepare-requires-clause-left : goal.prepare-requires-clause-left
prepare-requires-clause-left g c = room_to_prepare _ _ c.args.self.now.volume c.begin.new.self _ c.args.self.now.file c.args.self.now.packer c.requires.valid c.begin.ensures.begun

pub prepare-requires-clause-memory : goal.prepare-requires-clause-memory
prepare-requires-clause-memory g c = memory_to_pack _ _ c.args.self.now.volume c.begin.new.self _ c.args.self.now.file c.args.self.now.packer c.requires.valid c.begin.ensures.begun

pub returns-in-Err : goal.returns-in-Err
returns-in-Err g c =
    let asks = volume_request c.args.command.now c.args.bytes.now c.requires.volume in
    rw asks.1 (ends_blank c.prepare.ensures.rests c.requires.blank c.faulted.ensures.ended
    (unprepared _ _ c.args.self.now.volume c.begin.new.self c.prepare.new.self.volume _ _ c.requires.valid c.begin.ensures.begun g.met.M.Medium.is_medium asks.0 c.in-Err.ensures.opens c.faulted.ensures.drive c.in-Err.trouble _ c.begin.ensures.kept c.in-Err.ensures.prepares))

pub dir-requires-clause-ready : goal.dir-requires-clause-ready
dir-requires-clause-ready g c = ready_prepared _ _ c.args.self.now.volume c.begin.new.self c.prepare.new.self.volume _ _ c.requires.valid c.begin.ensures.begun g.met.M.Medium.is_medium (prepared _ _ c.args.self.now.volume c.begin.new.self c.prepare.new.self.volume _ _ c.requires.valid c.begin.ensures.begun g.met.M.Medium.is_medium c.in_default.field-0 c.begin.ensures.kept c.in_default.ensures.prepares)

pub label-requires-clause-ready : goal.label-requires-clause-ready
label-requires-clause-ready g c = ready_prepared _ _ c.args.self.now.volume c.begin.new.self c.prepare.new.self.volume _ _ c.requires.valid c.begin.ensures.begun g.met.M.Medium.is_medium (prepared _ _ c.args.self.now.volume c.begin.new.self c.prepare.new.self.volume _ _ c.requires.valid c.begin.ensures.begun g.met.M.Medium.is_medium c.in_default.field-0 c.begin.ensures.kept c.in_default.ensures.prepares)

pub alter-answer-requires : goal.alter-answer-requires
alter-answer-requires g c = record {
  «open» = c.in_default.ensures.opens;
  ready = ready_prepared _ _ c.args.self.now.volume c.begin.new.self c.prepare.new.self.volume _ _ c.requires.valid c.begin.ensures.begun g.met.M.Medium.is_medium (prepared _ _ c.args.self.now.volume c.begin.new.self c.prepare.new.self.volume _ _ c.requires.valid c.begin.ensures.begun g.met.M.Medium.is_medium c.in_default.field-0 c.begin.ensures.kept c.in_default.ensures.prepares);
  plain = c.requires.plain;
  changes = changes_volume c.args.command.now c.requires.volume c.in_default-command.not-Dir c.in_default-command.not-Label;
}

pub put_listing-requires : goal.put_listing-requires
put_listing-requires g c =
    let fits = listing_fits _ _ c.dir.ensures.open c.in-Ok.ensures.did.consults.kept in
    let size = c.in-Ok.ensures.did.consults.goes_on.continues.size ∙ size_prepared _ _ c.args.self.now.volume c.begin.new.self c.prepare.new.self.volume _ _ c.requires.valid c.begin.ensures.begun g.met.M.Medium.is_medium (prepared _ _ c.args.self.now.volume c.begin.new.self c.prepare.new.self.volume _ _ c.requires.valid c.begin.ensures.begun g.met.M.Medium.is_medium c.in_default.field-0 c.begin.ensures.kept c.in_default.ensures.prepares) in
    let text = ap (λ (p : Sheet). length p.text) c.prepare.ensures.rests.page ∙ ap length c.requires.blank in
    let room = ap (λ (p : Sheet). p.room) c.prepare.ensures.rests.page ∙ c.requires.valid.text in
    let slots = ap length c.slots.ensures in
    omega (arith, fits, size, text, room, slots)

pub answered-requires-clause-room : goal.answered-requires-clause-room
answered-requires-clause-room g c =
    let fits = listing_fits _ _ c.dir.ensures.open c.in-Ok.ensures.did.consults.kept in
    let size = c.in-Ok.ensures.did.consults.goes_on.continues.size ∙ size_prepared _ _ c.args.self.now.volume c.begin.new.self c.prepare.new.self.volume _ _ c.requires.valid c.begin.ensures.begun g.met.M.Medium.is_medium (prepared _ _ c.args.self.now.volume c.begin.new.self c.prepare.new.self.volume _ _ c.requires.valid c.begin.ensures.begun g.met.M.Medium.is_medium c.in_default.field-0 c.begin.ensures.kept c.in_default.ensures.prepares) in
    let text = ap (λ (p : Sheet). length p.text) c.prepare.ensures.rests.page ∙ ap length c.requires.blank in
    let room = ap (λ (p : Sheet). p.room) c.put_listing.ensures.text ∙ ap (λ (p : Sheet). p.room) c.prepare.ensures.rests.page ∙ c.requires.valid.text in
    let slots = ap length c.slots.ensures in
    let long = c.put_listing.ensures.size in
    omega (arith, fits, size, text, room, slots, long)

pub returns-in-Ok : goal.returns-in-Ok
returns-in-Ok g c =
    rw c.in-Dir.is (
    ends_told (listing_text c.in-Ok.listing c.slots.result.now.slots) c.prepare.ensures.rests c.requires.blank c.put_listing.ensures.text c.answered.ensures.ended
    (listed _ _ c.args.self.now.volume c.begin.new.self c.prepare.new.self.volume c.dir.new.self _ _ c.requires.valid c.begin.ensures.begun g.met.M.Medium.is_medium (prepared _ _ c.args.self.now.volume c.begin.new.self c.prepare.new.self.volume _ _ c.requires.valid c.begin.ensures.begun g.met.M.Medium.is_medium c.in_default.field-0 c.begin.ensures.kept c.in_default.ensures.prepares)
    c.in_default.ensures.opens c.dir.ensures.open c.answered.ensures.drive c.in-Ok.listing _ _ c.in-Ok.ensures.did
    (λ t told. dir_told _ (volume_in c.prepare.new.self.volume) (volume_in c.dir.new.self) t told c.in-Ok.listing c.dir.ensures.open c.in-Ok.ensures.did.consults c.in-Ok.ensures.listed ∙ ap (listing_text c.in-Ok.listing) (sym c.slots.ensures))))

pub returns-in-Err-dir : goal.returns-in-Err-dir
returns-in-Err-dir g c =
    rw c.in-Dir.is (
    ends_blank c.prepare.ensures.rests c.requires.blank c.refused.ensures.ended
    (not_listed _ _ c.args.self.now.volume c.begin.new.self c.prepare.new.self.volume c.dir.new.self _ _ c.requires.valid c.begin.ensures.begun g.met.M.Medium.is_medium (prepared _ _ c.args.self.now.volume c.begin.new.self c.prepare.new.self.volume _ _ c.requires.valid c.begin.ensures.begun g.met.M.Medium.is_medium c.in_default.field-0 c.begin.ensures.kept c.in_default.ensures.prepares)
    c.in_default.ensures.opens c.dir.ensures.open c.refused.ensures.drive c.in-Err-dir.fault _ c.in-Err-dir.ensures.did))

pub returns-in-Ok-label : goal.returns-in-Ok-label
returns-in-Ok-label g c =
    rw c.in-Label.is (
    ends_told (label_text c.in-Ok-label.label) c.prepare.ensures.rests c.requires.blank c.put_label.ensures.text c.answered-in-Ok-label.ensures.ended
    (labelled _ _ c.args.self.now.volume c.begin.new.self c.prepare.new.self.volume c.label.new.self _ _ c.requires.valid c.begin.ensures.begun g.met.M.Medium.is_medium (prepared _ _ c.args.self.now.volume c.begin.new.self c.prepare.new.self.volume _ _ c.requires.valid c.begin.ensures.begun g.met.M.Medium.is_medium c.in_default.field-0 c.begin.ensures.kept c.in_default.ensures.prepares)
    c.in_default.ensures.opens c.label.ensures.open c.answered-in-Ok-label.ensures.drive c.in-Ok-label.label _ c.in-Ok-label.ensures.did c.in-Ok-label.ensures.exactly c.in-Ok-label.ensures.label))

pub returns-in-Err-label : goal.returns-in-Err-label
returns-in-Err-label g c =
    rw c.in-Label.is (
    ends_blank c.prepare.ensures.rests c.requires.blank c.refused-in-Err-label.ensures.ended
    (not_labelled _ _ c.args.self.now.volume c.begin.new.self c.prepare.new.self.volume c.label.new.self _ _ c.requires.valid c.begin.ensures.begun g.met.M.Medium.is_medium (prepared _ _ c.args.self.now.volume c.begin.new.self c.prepare.new.self.volume _ _ c.requires.valid c.begin.ensures.begun g.met.M.Medium.is_medium c.in_default.field-0 c.begin.ensures.kept c.in_default.ensures.prepares)
    c.in_default.ensures.opens c.label.ensures.open c.refused-in-Err-label.ensures.drive c.in-Err-label.fault _ c.in-Err-label.ensures.did))

pub returns-in_default-command : goal.returns-in_default-command
returns-in_default-command g c =
    let did = on_volume _ c.args.command.now c.args.bytes.now
    (changes_volume c.args.command.now c.requires.volume c.in_default-command.not-Dir c.in_default-command.not-Label) c.alter-answer.ensures.did in
    rw did.1 (ends_blank c.prepare.ensures.rests c.requires.blank c.ended.ensures.ended
    (altered _ _ c.args.self.now.volume c.begin.new.self c.prepare.new.self.volume c.alter-answer.new.volume _ _ c.requires.valid c.begin.ensures.begun g.met.M.Medium.is_medium (prepared _ _ c.args.self.now.volume c.begin.new.self c.prepare.new.self.volume _ _ c.requires.valid c.begin.ensures.begun g.met.M.Medium.is_medium c.in_default.field-0 c.begin.ensures.kept c.in_default.ensures.prepares)
    c.in_default.ensures.opens c.alter-answer.ensures.open c.ended.ensures.drive did.0 _ _ did.2 (did.3 _) did.4))
