use Rattle.std.proofs.Common.{◌<◌, ◌++◌, ℕ, List, [], ◌∷◌, sym, ap, length, ◌∙◌}
use Rattle.lif_model.proofs.History.{elapses_same_first}
use Rattle.il_ports.proofs.memory_records.MemoryRecordsRecords.write.Goals as goal

pub returns-clause-time : goal.returns-clause-time
returns-clause-time c =
    let old = c.args.self.now in
    let w : ℕ × List ℕ = (c.args.n, c.args.from.now) in
    let within : w.0 < length old.records.items = c.requires.within in
    elapses_same_first old.first.items c.put.new.self.first.items old.writes.items c.put.new.self.writes.items w
    (ap (λ s. s.first) c.put.ensures ∙ ap (λ s. s.first) c.count.ensures.counts) (ap (λ s. s.writes) c.put.ensures ∙ ap (λ s. s.writes ++ w ∷ []) c.count.ensures.counts) old.records.items old.replays
    (c.told-from ∙ sym (old.shaped w.0 within)) within
