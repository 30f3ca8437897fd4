use Rattle.std.proofs.Common.{◌≡◌, ◌+◌, ◌-◌, ◌*◌, ◌++◌, ◌∷◌, [], ◌∙◌, ℕ, min, length, sym, ap, subst, rules}
use Rattle.std.proofs.lemmas.List.{length-map}
use Rattle.lif_dir.specs.Entries.{slot_bytes}
use Rattle.lif_pack.specs.Packers.{slots_held}
use Rattle.lif_pack.specs.Steps.{AreSetAside}
use Rattle.lif_pack.proofs.SetAside.{few_in_record, set_aside_more}
use Rattle.lif_pack.proofs.memory.Packer.stage_record.Goals as goal

pub returns-clause-staged : goal.returns-clause-staged
returns-clause-staged g c = λ writes aside.
    let v = g.R.Records.view c.args.records.now in
    let slots = slots_held c.args.self.now in
    let count : ℕ = c.min-count.result in
    let row : ℕ = c.args.first + c.args.i in
    let pushed : c.push.new.self.items ≡ c.args.self.now.changes.items ++ (row, c.put_slots.new.bytes) ∷ [] = search rules in
    let size : c.len.result ≡ length slots = c.len.ensures.count ∙ sym (length-map c.args.self.now.slots.slots slot_bytes) in
    let fits = few_in_record (length slots) (8 * c.args.i) count (c.min-count.ensures ∙ ap (λ (m : ℕ). min 8 (m - 8 * c.args.i)) size) c.requires.some in
    let made = set_aside_more v.record_count c.args.first c.args.i count v.tape slots writes c.args.self.now.changes.items c.in_ok-bytes.bytes c.put_slots.new.bytes
    (λ t told. (g.met.R.Records.is_store _).is_tape t told) c.requires.within fits.0 fits.1 fits.2 fits.3 c.put_slots.ensures.holds
    c.requires.below c.put_slots.ensures.rest c.in_ok-bytes.ensures.content aside in
    (made.0, subst (AreSetAside c.args.first v.tape slots (writes ++ made.0)) (sym pushed) made.1, made.2)
