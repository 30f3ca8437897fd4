use Rattle.std.proofs.Common.{◌∙◌, ◌-◌, ◌*◌, ℕ, sym, ap}
use Rattle.host_model.specs.Replies.{packed_text}
use Rattle.il_host.specs.Hosts.{Space}
use Rattle.il_host.proofs.HostVolumes.{ends_blank, ends_told}
use Rattle.il_host.proofs.PackPerforms.{not_packed_host, pack_unsound, packed_host, ready_to_pack, same_space, small_to_pack}
use Rattle.il_host.proofs.host.Host.pack.Goals as goal

pub returns-in-Err : goal.returns-in-Err
returns-in-Err g c =
    ends_blank c.make_sound.ensures.rests c.requires.blank c.faulted.ensures.ended
    (pack_unsound _ _ c.args.self.now.volume c.begin.new.self c.make_sound.new.self.volume _ _ c.requires.valid c.begin.ensures.begun g.met.M.Medium.is_medium
    c.make_sound.ensures.opens c.faulted.ensures.drive c.in-Err.trouble _
    (record { makes = c.in-Err.ensures.makes; sounds = c.in-Err.ensures.sounds; kept = c.make_sound.ensures.kept }))

pub pack-requires-clause-ready : goal.pack-requires-clause-ready
pack-requires-clause-ready g c = ready_to_pack _ _ c.args.self.now.volume c.begin.new.self c.make_sound.new.self.volume _ _ c.requires.valid c.begin.ensures.begun c.in_default.ensures.sounds

pub pack-requires-clause-small : goal.pack-requires-clause-small
pack-requires-clause-small g c = small_to_pack _ _ _ c.in_default.ensures.sounds.size c.begin.ensures.begun.size c.requires.valid.size

pub returns-in-Ok : goal.returns-in-Ok
returns-in-Ok g c =
    let slots = c.pack.ensures.memory.room ∙ ap (λ (n : ℕ). 8 * (n - 5)) (c.in_default.ensures.sounds.size ∙ c.begin.ensures.begun.size) ∙ sym c.requires.valid.space_is.slots in
    let room = same_space c.make_sound.new.self.file c.args.self.now.file c.pack.new.self c.args.self.now.packer (ap (λ (s : Space). s.file) c.make_sound.ensures.rests.room) slots in
    ends_told (packed_text c.in-Ok.packed.files c.in-Ok.packed.free) (record { page = c.make_sound.ensures.rests.page; room = room }) c.requires.blank c.put_packed.ensures.text c.answered.ensures.ended
    (packed_host _ _ c.args.self.now.volume c.begin.new.self c.pack.new.volume _ _ c.requires.valid c.begin.ensures.begun g.met.M.Medium.is_medium
    c.pack.ensures.open c.answered.ensures.drive c.make_sound.new.self.volume c.in_default.ensures.makes c.in_default.ensures.sounds
    c.in-Ok.packed _ c.in-Ok.ensures.goes_on c.pack.ensures.kept c.in-Ok.ensures.answers c.pack.ensures.files c.pack.ensures.foreign
    c.in-Ok.ensures.again c.in-Ok.ensures.refusal)

pub returns-in-Err-pack : goal.returns-in-Err-pack
returns-in-Err-pack g c =
    let slots = c.pack.ensures.memory.room ∙ ap (λ (n : ℕ). 8 * (n - 5)) (c.in_default.ensures.sounds.size ∙ c.begin.ensures.begun.size) ∙ sym c.requires.valid.space_is.slots in
    let room = same_space c.make_sound.new.self.file c.args.self.now.file c.pack.new.self c.args.self.now.packer (ap (λ (s : Space). s.file) c.make_sound.ensures.rests.room) slots in
    ends_blank (record { page = c.make_sound.ensures.rests.page; room = room }) c.requires.blank c.refused.ensures.ended
    (not_packed_host _ _ c.args.self.now.volume c.begin.new.self c.pack.new.volume _ _ c.requires.valid c.begin.ensures.begun g.met.M.Medium.is_medium
    c.pack.ensures.open c.refused.ensures.drive c.make_sound.new.self.volume c.in_default.ensures.makes c.in_default.ensures.sounds
    c.in-Err-pack.fault _ c.in-Err-pack.ensures.goes_on c.pack.ensures.kept c.in-Err-pack.ensures.answers c.pack.ensures.files c.pack.ensures.foreign
    c.in-Err-pack.ensures.again c.in-Err-pack.ensures.refusal)
