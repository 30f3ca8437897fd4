use Rattle.std.proofs.Common.{◌≡◌, ◌∙◌, ℕ, List, [], Option, length, map, get_or, set, sym, ap, subst, arith}
use Rattle.std.specs.Prelude.{IfSome}
use Rattle.std.proofs.lemmas.List.{length-map, map-set}
use Rattle.lif_model.specs.Directory.{is_end}
use Rattle.lif_dir.specs.Entries.{entry_bytes, slot_bytes}
use Rattle.lif_dir.specs.Tables.{Table}
use Rattle.lif_pack.specs.declared.marks.Move.{Move}
use Rattle.lif_model.specs.Packing.{with_start}
use Rattle.lif_pack.specs.Packers.{slots_held}
use Rattle.lif_pack.specs.Packs.{IsFileLeft, slots_finished}
use Rattle.lif_pack.proofs.Placing.{redo_lies}
use Rattle.lif_pack.proofs.memory.Packer.finish_task.Goals as goal

pub entry-entry-requires : goal.entry-entry-requires
entry-entry-requires g c =
    let p = c.requires.may in
    let n : ℕ = (g.R.Records.view c.args.records.now).record_count in
    let slots = slots_held c.args.self.now in
    let file = subst (λ (o : Option Move). IfSome o (IsFileLeft p.1 p.2 slots)) c.in-Some.is p.4.1 in
    omega (arith, redo_lies n p.0 p.1 p.2 slots p.3, file.before, length-map c.args.self.now.slots.slots slot_bytes, ap (λ (t : Table). length t.slots) c.in_ok-carry_out.ensures.still)

pub started-requires : goal.started-requires
started-requires g c =
    let p = c.requires.may in
    let n : ℕ = (g.R.Records.view c.args.records.now).record_count in
    let slots = slots_held c.args.self.now in
    let file = subst (λ (o : Option Move). IfSome o (IsFileLeft p.1 p.2 slots)) c.in-Some.is p.4.1 in
    ap is_end (c.entry-entry.ensures ∙ ap (λ (t : Table). get_or (map slot_bytes t.slots) c.in-Some.file.slot []) c.in_ok-carry_out.ensures.still)
    ∙ p.3.volume.kinds c.in-Some.file.slot (omega (arith, redo_lies n p.0 p.1 p.2 slots p.3, file.before))

pub set-requires-clause-within : goal.set-requires-clause-within
set-requires-clause-within g c =
    let p = c.requires.may in
    let n : ℕ = (g.R.Records.view c.args.records.now).record_count in
    let slots = slots_held c.args.self.now in
    let file = subst (λ (o : Option Move). IfSome o (IsFileLeft p.1 p.2 slots)) c.in-Some.is p.4.1 in
    omega (arith, redo_lies n p.0 p.1 p.2 slots p.3, file.before, length-map c.args.self.now.slots.slots slot_bytes, ap (λ (t : Table). length t.slots) c.in_ok-carry_out.ensures.still)

pub returns-in-Some-clause-slots : goal.returns-in-Some-clause-slots
returns-in-Some-clause-slots g c =
    let slots = slots_held c.args.self.now in
    let k : ℕ = c.in-Some.file.slot in
    let stays : map slot_bytes c.carry_out.new.self.slots.slots ≡ slots = ap (λ (t : Table). map slot_bytes t.slots) c.in_ok-carry_out.ensures.still in
    let entry : entry_bytes c.entry-entry.result.now ≡ get_or slots k [] = c.entry-entry.ensures ∙ ap (λ (xs : List (List ℕ)). get_or xs k []) stays in
    ap (λ (t : Table). map slot_bytes t.slots) c.set.ensures ∙ map-set slot_bytes c.carry_out.new.self.slots.slots k c.started.result
    ∙ (λ i. set (stays i) k ((c.started.ensures.bytes ∙ ap (with_start c.in-Some.file.place) entry) i))
    ∙ sym (ap (slots_finished slots) c.in-Some.is)
