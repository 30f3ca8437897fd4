use Rattle.std.proofs.Common.{◌≡◌, map, refl, sym, ◌∙◌, arith, rules}
use Rattle.std.specs.Prelude.{Err}
use Rattle.lif_model.specs.Made.{new_entry, file_length}
use Rattle.lif_model.specs.Fit.{At, NoSlot, NoRoom, fit_beside_in}
use Rattle.lif_dir.specs.Entries.{name_bytes, slot_bytes}
use Rattle.lif_plan.proofs.Planning.{redo_is_there}
use Rattle.lif_plan.proofs.PartPlans.{refuses_part}
use Rattle.lif_plan.proofs.Chosen.{store_refusal, tells, kinds, places}
use Rattle.lif_plan.proofs.directory.Directory.store_beside.Goals as goal

pub returns-in_err-version-clause-plan : goal.returns-in_err-version-clause-plan
returns-in_err-version-clause-plan c =
    let is : c.from_residual.result ≡ Err c.in_err-version.field-0.0 = search rules in
    rw is (rw (sym c.name.ensures) (record {
      refused = λ v with. c.in_err-version.ensures.named.refused v with.same (fit_beside_in c.args.size v c.args.barred.now (file_length c.args.bytes.now));
      known = c.in_err-version.ensures.named.known;
    }))

pub place-requires-clause-redo : goal.place-requires-clause-redo
place-requires-clause-redo c = redo_is_there c.args.size c.in_ok-version.version (map slot_bytes c.args.self.now.table.slots) c.in_ok-version.ensures.named.adopted

pub place-requires-clause-slot : goal.place-requires-clause-slot
place-requires-clause-slot c = (tells c.args.size (omega arith) (name_bytes c.name.result) c.args.kind c.args.implementation c.args.bytes.now c.args.barred.now c.args.header.now (map slot_bytes c.args.self.now.table.slots)
    c.in_ok-version.version c.in_ok-version.ensures.named (At c.in-At.slot c.in-At.start) c.in-At.ensures (omega (arith, c.from-end.ensures, c.end.ensures)) (c.from.ensures ∙ c.length.ensures)
    c.records_for-count.ensures c.in-At.slot c.in-At.start refl).candidate

pub place-requires-clause-kind : goal.place-requires-clause-kind
place-requires-clause-kind c = λ ends. c.requires.no_end (sym (kinds c.args.size (omega arith) (name_bytes c.name.result) c.args.kind c.args.implementation c.args.bytes.now c.args.barred.now c.args.header.now
    (map slot_bytes c.args.self.now.table.slots) c.in_ok-version.version c.in_ok-version.ensures.named (At c.in-At.slot c.in-At.start) c.in-At.ensures (omega (arith, c.from-end.ensures, c.end.ensures))
    (c.from.ensures ∙ c.length.ensures) c.records_for-count.ensures c.in-At.slot c.in-At.start refl c.new-entry.result (search rules)
    (c.new-entry.ensures ∙ (λ i. new_entry (name_bytes ((c.name-in-At.ensures ∙ sym c.name.ensures) i)) c.args.kind c.in-At.start (c.records_for-count.ensures i) c.args.implementation))) ∙ ends)

pub returns-in-At-clause-plan : goal.returns-in-At-clause-plan
returns-in-At-clause-plan c = rw (sym c.name.ensures)
    (places c.args.size (omega arith) (name_bytes c.name.result) c.args.kind c.args.implementation c.args.bytes.now c.args.barred.now c.args.header.now (map slot_bytes c.args.self.now.table.slots)
    c.in_ok-version.version c.in_ok-version.ensures.named (At c.in-At.slot c.in-At.start) c.in-At.ensures (omega (arith, c.from-end.ensures, c.end.ensures)) (c.from.ensures ∙ c.length.ensures)
    c.records_for-count.ensures c.in-At.slot c.in-At.start refl c.new-entry.result (search rules)
    (c.new-entry.ensures ∙ (λ i. new_entry (name_bytes ((c.name-in-At.ensures ∙ sym c.name.ensures) i)) c.args.kind c.in-At.start (c.records_for-count.ensures i) c.args.implementation))
    c.requires.live c.requires.no_end (search rules) c.place.result c.place.ensures.version c.place.ensures.slot c.place.ensures.entry c.place.ensures.fits c.place.ensures.writes c.place.ensures.after)

pub returns-in-NoSlot-clause-plan : goal.returns-in-NoSlot-clause-plan
returns-in-NoSlot-clause-plan c = rw (sym c.name.ensures) (refuses_part refl (store_refusal c.args.size (omega arith) (name_bytes c.name.result) c.args.kind c.args.implementation c.args.bytes.now c.args.barred.now c.args.header.now
    (map slot_bytes c.args.self.now.table.slots) c.in_ok-version.version c.in_ok-version.ensures.named NoSlot c.in-NoSlot.ensures (omega (arith, c.from-end.ensures, c.end.ensures))
    (c.from.ensures ∙ c.length.ensures) c.records_for-count.ensures))

pub returns-in-NoRoom-clause-plan : goal.returns-in-NoRoom-clause-plan
returns-in-NoRoom-clause-plan c = rw (sym c.name.ensures) (refuses_part refl (store_refusal c.args.size (omega arith) (name_bytes c.name.result) c.args.kind c.args.implementation c.args.bytes.now c.args.barred.now c.args.header.now
    (map slot_bytes c.args.self.now.table.slots) c.in_ok-version.version c.in_ok-version.ensures.named NoRoom c.in-NoRoom.ensures (omega (arith, c.from-end.ensures, c.end.ensures))
    (c.from.ensures ∙ c.length.ensures) c.records_for-count.ensures))
