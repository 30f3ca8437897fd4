use Rattle.std.proofs.Common.{◌≡◌, ◌≤◌, ◌+◌, ◌*◌, ◌∙◌, [], length, map, sym, ap, arith}
use Rattle.std.proofs.lemmas.Bool.{not-true, not-false}
use Rattle.std.proofs.lemmas.List.{length-map}
use Rattle.std.proofs.Math.Nat.{min-le_left, min-le_right}
use Rattle.lif_commit.proofs.Staging.{none_staged}
use Rattle.lif_dir.specs.Entries.{slot_bytes}
use Rattle.lif_dir.specs.Tables.{Table}
use Rattle.lif_pack.specs.Packers.{slots_held}
use Rattle.lif_pack.proofs.SetAside.{closed_becomes}
use Rattle.lif_pack.proofs.memory.Packer.stage_closed.Goals as goal

pub stage_slots-requires-clause-some : goal.stage_slots-requires-clause-some
stage_slots-requires-clause-some g c =
    let done = c.close_slots-closed.ensures in
    let all : c.len.result ≡ length (slots_held c.args.self.now) = c.len.ensures.count ∙ sym (length-map c.args.self.now.slots.slots slot_bytes) in
    omega (arith, done.moved (not-false _ c.if-not-closed.false), done.few, done.long, all, c.min-until.ensures, min-le_left c.len.result (8 * c.args.i + 8))

pub returns-then-not-closed-clause-staged : goal.returns-then-not-closed-clause-staged
returns-then-not-closed-clause-staged g c =
    let done = c.close_slots-closed.ensures in
    ([], none_staged c.args.first _ _ (ap (λ cs. cs.items) done.changes ∙ c.clear.ensures.items), tt, sym (done.still (not-true _ c.if-not-closed.true)))

pub returns-clause-staged : goal.returns-clause-staged
returns-clause-staged g c =
    let done = c.close_slots-closed.ensures in
    let staged = c.in_ok-stage_slots.ensures.staged in
    let few : c.min-until.result ≤ 8 * c.args.i + 8 = omega (arith, c.min-until.ensures, min-le_right c.len.result (8 * c.args.i + 8)) in
    let both = closed_becomes c.args.first c.args.front c.close_slots-closed.result.next c.min-until.result c.args.i _ (slots_held c.args.self.now)
    (slots_held c.close_slots-closed.new.self) staged.0 c.stage_slots.new.self.changes.items done.others few done.gap.order done.few done.long staged.1 staged.2 staged.3 staged.4 in
    (staged.0, staged.1.staged, both.0, both.1 ∙ sym (ap (λ (t : Table). map slot_bytes t.slots) c.in_ok-stage_slots.ensures.still))
