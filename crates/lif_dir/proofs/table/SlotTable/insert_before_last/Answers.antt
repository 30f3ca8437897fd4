use Rattle.std.proofs.Common.{◌≡◌, ◌∙◌, ◌-◌, ◌++◌, ◌∷◌, [], ℕ, suc, List, length, ap, arith}
use Rattle.std.specs.List.{insert}
use Rattle.lif_dir.specs.declared.entries.Slot.{Slot}
use Rattle.lif_dir.specs.Tables.{Table}
use Rattle.lif_dir.proofs.TableLemmas.{before_last}
use Rattle.lif_dir.proofs.table.SlotTable.insert_before_last.Goals as goal

pub returns : goal.returns
returns c =
    let slots : List Slot = c.args.self.now.slots in
    let k : ℕ = c.len-end.result - 1 in
    let table : List Slot → Table = λ (xs : List Slot). record { slots = xs; room = c.args.self.now.room } in
    let last : suc k ≡ length slots = omega (arith, c.len-end.ensures.count, c.requires.some) in
    let place : k ≡ length slots - 1 = omega (arith, c.len-end.ensures.count) in
    c.push.ensures ∙ ap (λ (t : Table). record t { slots = t.slots ++ c.get-last.result.now ∷ [] }) c.set.ensures
    ∙ ap table (before_last slots k c.args.slot c.get-last.result.now last c.get-last.ensures.slot ∙ ap (λ (n : ℕ). insert slots n c.args.slot) place)
