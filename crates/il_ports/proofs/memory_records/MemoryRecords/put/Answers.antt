use Rattle.std.proofs.Common.{◌≡◌, ◌∙◌, ◌++◌, ℕ, List, [], ◌∷◌, ap, sym, arith, length-set, set}
use Rattle.lif_model.proofs.History.{tape_later, set_shaped}
use Rattle.il_ports.proofs.Kept.{pushed}
use Rattle.il_ports.proofs.memory_records.MemoryRecords.put.Goals as goal

pub invariant_of-self-clause-replays : goal.invariant_of-self-clause-replays
invariant_of-self-clause-replays c =
    let self = c.args.self.now in
    let w : ℕ × List ℕ = (c.args.n, c.args.bytes.now) in
    let more : c.push.new.self.items ≡ self.writes.items ++ w ∷ [] = pushed _ _ _ _ _ _ c.push.ensures.full (omega arith) c.push.ensures.items in
    ap (λ (u : List (List ℕ)). set u w.0 w.1) self.replays ∙ sym (tape_later self.first.items self.writes.items c.push.new.self.items w more)

pub invariant_of-self-clause-shaped : goal.invariant_of-self-clause-shaped
invariant_of-self-clause-shaped c = set_shaped _ _ _ c.told-bytes c.args.self.now.shaped

pub invariant_of-self-clause-few : goal.invariant_of-self-clause-few
invariant_of-self-clause-few c = omega (arith, length-set c.args.self.now.records.items c.args.n c.args.bytes.now, c.args.self.now.few)
