use Rattle.std.proofs.Common.{◌≡◌, ◌+◌, ◌∙◌, ℕ, [], inl, inr, true, false, get_or, map, take, sym, ap, subst, arith}
use Rattle.std.proofs.lemmas.Bool.{cases_lt}
use Rattle.std.proofs.lemmas.List.{length-map}
use Rattle.lif_dir.specs.Entries.{slot_bytes}
use Rattle.lif_model.specs.Packing.{live_length, live_records, stands_at}
use Rattle.lif_pack.specs.Steps.{ArePlaced}
use Rattle.lif_pack.proofs.Walking.{packed_not}
use Rattle.lif_pack.proofs.Placing.{redo_lies, stays_placed, next_below, placed_below, placed_none}
use Rattle.lif_pack.proofs.placed.placed_front.Goals as goal

pub loop-k-init : goal.loop-k-init
loop-k-init c = placed_none c.args.end (map slot_bytes c.args.slots.now.slots)

pub entry-entry-requires : goal.entry-entry-requires
entry-entry-requires c =
    let p = c.requires.may in
    omega (arith, redo_lies p.0 p.1 c.args.end c.args.redo (map slot_bytes c.args.slots.now.slots) p.3, length-map c.args.slots.now.slots slot_bytes, c.loop-k-test.true)

pub overflow_add-place : goal.overflow_add-place
overflow_add-place c =
    let p = c.requires.may in
    let slots = map slot_bytes c.args.slots.now.slots in
    let k = c.loop-k.k in
    let below = placed_below p.0 p.1 c.args.end c.args.redo slots p.3 k c.loop-k.place c.loop-k.invariant (omega (arith, c.loop-k-test.true)) in
    let long : c.live_length-place.result ≡ live_length (get_or slots k []) = c.live_length-place.ensures ∙ ap live_length c.entry-entry.ensures in
    omega (arith, long, p.2, next_below p.0 p.1 c.args.end c.args.redo slots p.3 k c.loop-k.place c.loop-k.invariant c.loop-k-test.true below)

pub loop-k-preserved : goal.loop-k-preserved
loop-k-preserved c =
    let p = c.requires.may in
    let slots = map slot_bytes c.args.slots.now.slots in
    let k = c.loop-k.k in
    let on : stands_at c.loop-k.place (get_or slots k []) ≡ true = sym (λ i. stands_at (c.from.ensures i) (c.entry-entry.ensures i)) ∙ sym c.if-not-stands_at.ensures in
    let long : c.live_length-place.result ≡ live_length (get_or slots k []) = c.live_length-place.ensures ∙ ap live_length c.entry-entry.ensures in
    subst (λ (m : ℕ). ArePlaced c.args.end (k + 1) (c.loop-k.place + m) slots) (sym long)
    (stays_placed p.0 p.1 c.args.end c.args.redo slots p.3 k c.loop-k.place c.loop-k.invariant c.loop-k-test.true on)

pub returns-then-not-stands_at-clause-longest : goal.returns-then-not-stands_at-clause-longest
returns-then-not-stands_at-clause-longest c = λ count le packed.
    let p = c.requires.may in
    let slots = map slot_bytes c.args.slots.now.slots in
    let k = c.loop-k.k in
    let off : stands_at (c.args.end + live_records (take k slots)) (get_or slots k []) ≡ false =
    sym (λ i. stands_at ((c.from.ensures ∙ c.loop-k.invariant.next) i) (c.entry-entry.ensures i)) ∙ sym c.if-not-stands_at.ensures in
    elim (cases_lt k count) [
      | inr over ↦ over
      | inl under ↦
          let none = packed_not c.args.end slots k count (omega (arith, redo_lies p.0 p.1 c.args.end c.args.redo slots p.3, c.loop-k-test.true)) under off in
          let no : true ≡ false = sym packed ∙ none in cc
    ]

pub returns-clause-placed : goal.returns-clause-placed
returns-clause-placed c =
    let at : c.loop-k.k ≡ c.args.redo = omega (arith, c.loop-k.auto.k-end, c.loop-k-test.false) in
    subst (λ (m : ℕ). ArePlaced c.args.end m c.loop-k.place (map slot_bytes c.args.slots.now.slots)) at c.loop-k.invariant
