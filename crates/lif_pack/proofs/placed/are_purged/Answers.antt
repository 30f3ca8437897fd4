use Rattle.std.proofs.Common.{◌≡◌, [], true, ap, arith, get_or, map, sym, ◌∙◌}
use Rattle.std.proofs.lemmas.List.{length-map}
use Rattle.lif_model.specs.Legal.{is_live}
use Rattle.lif_dir.specs.Entries.{slot_bytes}
use Rattle.lif_pack.proofs.Walking.{purged_all, purged_not}
use Rattle.lif_pack.proofs.placed.are_purged.Goals as goal

pub returns-then-is_live : goal.returns-then-is_live
returns-then-is_live c =
    let slots = map slot_bytes c.args.slots.now.slots in
    let live : is_live (get_or slots c.loop-k.k []) ≡ true = sym (ap is_live c.entry.ensures) ∙ sym c.is_live.ensures ∙ c.if-is_live.true in
    sym (purged_not slots c.args.from c.loop-k.k (omega arith) (omega (arith, length-map c.args.slots.now.slots slot_bytes)) live)

pub returns : goal.returns
returns c =
    let slots = map slot_bytes c.args.slots.now.slots in
    sym (purged_all slots c.args.from (λ j le lt. c.loop-k.invariant j le (omega (arith, lt, length-map c.args.slots.now.slots slot_bytes))))
