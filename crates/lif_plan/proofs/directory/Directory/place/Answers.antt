use Rattle.std.proofs.Common.{◌≡◌, ◌*◌, ◌+◌, suc, true, false, Bool, map, nat_lt, ap, sym, ◌∙◌, arith, rules}
use Rattle.std.specs.Bool.{then_some}
use Rattle.std.proofs.lemmas.List.{length-map}
use Rattle.lif_model.specs.Legal.{is_live}
use Rattle.lif_dir.specs.Entries.{entry_bytes, slot_bytes}
use Rattle.lif_plan.proofs.Taking.{Takes, within_slots, takes_own, takes_purged}
use Rattle.lif_plan.proofs.directory.Directory.place.Goals as goal
use Rattle.lif_plan.proofs.directory.Directory.place.Goals.{Then-is_live, Else-is_live}

pub entry-own-requires : goal.entry-own-requires
entry-own-requires c =
    let slots = map slot_bytes c.args.self.now.table.slots in
    omega (arith, within_slots (8 * c.args.header.now.length) slots c.args.slot c.requires.slot c.requires.redo, length-map c.args.self.now.table.slots slot_bytes)

own : (c : Then-is_live) → Takes (8 * c.args.header.now.length) (map slot_bytes c.args.self.now.table.slots)
    (record { version = c.args.version; slot = c.args.slot; entry = c.args.entry; next = c.then_some.result; ended = nat_lt (c.args.slot + 2) (8 * c.from-capacity.result) })
own c =
    let room : 8 * c.from-capacity.result ≡ 8 * c.args.header.now.length = omega (arith, c.from-capacity.ensures, c.length.ensures) in
    let behind : c.args.slot + 2 ≡ suc (suc c.args.slot) = omega arith in
    let live : is_live (entry_bytes c.entry-own.result.now) ≡ true = sym c.is_live-2.ensures ∙ c.if-is_live.true in
    rw (c.then_some.ensures ∙ ap (λ (b : Bool). then_some b c.entry-own.result.now) (c.is_live.ensures ∙ live))
    (takes_own (8 * c.args.header.now.length) (map slot_bytes c.args.self.now.table.slots) c.args.slot c.requires.slot c.requires.redo c.requires.shape c.args.version c.args.entry c.requires.kind
    c.entry-own.result.now (nat_lt (c.args.slot + 2) (8 * c.from-capacity.result)) (sym (ap is_live c.entry-own.ensures) ∙ live) (search rules) c.entry-own.ensures (λ i. nat_lt (behind i) (room i)))

purged : (c : Else-is_live) → Takes (8 * c.args.header.now.length) (map slot_bytes c.args.self.now.table.slots)
    (record { version = c.args.version; slot = c.args.slot; entry = c.args.entry; next = c.then_some.result; ended = c.is_live-2.result })
purged c =
    let dead : is_live (entry_bytes c.entry-own.result.now) ≡ false = sym c.is_live-2.ensures ∙ c.if-is_live.false in
    rw (c.then_some.ensures ∙ ap (λ (b : Bool). then_some b c.entry-own.result.now) (c.is_live.ensures ∙ dead)) (rw c.if-is_live.false
    (takes_purged (8 * c.args.header.now.length) (map slot_bytes c.args.self.now.table.slots) c.args.slot c.requires.slot c.requires.redo c.requires.shape c.args.version c.args.entry c.requires.kind
    (sym (ap is_live c.entry-own.ensures) ∙ dead)))

pub returns-then-is_live-clause-fits : goal.returns-then-is_live-clause-fits
returns-then-is_live-clause-fits c = (own c).fits

pub returns-then-is_live-clause-writes : goal.returns-then-is_live-clause-writes
returns-then-is_live-clause-writes c = λ v u. (own c).writes v u c.args.header.now.start

pub returns-then-is_live-clause-after : goal.returns-then-is_live-clause-after
returns-then-is_live-clause-after c = (own c).after

pub returns-else-is_live-clause-fits : goal.returns-else-is_live-clause-fits
returns-else-is_live-clause-fits c = (purged c).fits

pub returns-else-is_live-clause-writes : goal.returns-else-is_live-clause-writes
returns-else-is_live-clause-writes c = λ v u. (purged c).writes v u c.args.header.now.start

pub returns-else-is_live-clause-after : goal.returns-else-is_live-clause-after
returns-else-is_live-clause-after c = (purged c).after
