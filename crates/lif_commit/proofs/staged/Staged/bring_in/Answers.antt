use Rattle.std.proofs.Common.{◌≡◌, ◌+◌, ◌/◌, ◌++◌, ◌∷◌, [], ◌∙◌, ℕ, length, ap, sym, arith, refl, rules}
use Rattle.lif_model.specs.Redo.{Changes, targets_in}
use Rattle.lif_model.specs.Writing.{slot_record}
use Rattle.lif_commit.specs.Staged.{there, read, past_end}
use Rattle.lif_commit.proofs.Staging.{past_more}
use Rattle.lif_commit.proofs.staged.Staged.bring_in.Goals as goal

pub returns-in-Some-clause-found : goal.returns-in-Some-clause-found
returns-in-Some-clause-found g c = there c.in-Some.ensures.there.0 (c.in-Some.ensures.there.1 ∙ ap (λ (k : ℕ). k + c.args.slot / 8) c.start.ensures) refl

pub returns-clause-found : goal.returns-clause-found
returns-clause-found g c =
    let number : c.start.result + c.args.slot / 8 ≡ slot_record c.args.header.now.start c.args.slot = ap (λ (k : ℕ). k + c.args.slot / 8) c.start.ensures in
    let pushed : c.push.new.self.items ≡ c.args.self.now.changes.items ++ (c.start.result + c.args.slot / 8, c.in_ok-bytes.bytes) ∷ [] = search rules in
    read (λ p lt e. c.place_of.ensures.nowhere (search rules) p lt (e ∙ sym number)) (search rules) c.in_ok-bytes.bytes
    (pushed ∙ ap (λ (k : ℕ). c.args.self.now.changes.items ++ (k, c.in_ok-bytes.bytes) ∷ []) number) c.in_ok-bytes.ensures.content

pub returns-clause-few : goal.returns-clause-few
returns-clause-few g c =
    let start : ℕ = c.args.header.now.start in
    let count : ℕ = length c.args.table.now.slots in
    let number : c.start.result + c.args.slot / 8 ≡ slot_record start c.args.slot = ap (λ (k : ℕ). k + c.args.slot / 8) c.start.ensures in
    let pushed : c.push.new.self.items ≡ c.args.self.now.changes.items ++ (c.start.result + c.args.slot / 8, c.in_ok-bytes.bytes) ∷ [] = search rules in
    let now : c.push.new.self.items ≡ c.args.self.now.changes.items ++ (slot_record start c.args.slot, c.in_ok-bytes.bytes) ∷ [] = pushed ∙ ap (λ (k : ℕ). c.args.self.now.changes.items ++ (k, c.in_ok-bytes.bytes) ∷ []) number in
    let more = ap (λ (cs : Changes). past_end start count (targets_in cs)) now ∙ past_more start count (slot_record start c.args.slot) c.in_ok-bytes.bytes c.args.self.now.changes.items in
    omega (arith, more, c.in_ok-bytes.ensures.few)
