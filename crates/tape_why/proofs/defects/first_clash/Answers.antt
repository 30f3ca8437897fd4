use Rattle.std.proofs.Common.{◌∙◌, ◌<◌, List, ℕ, map, length, sym, arith}
use Rattle.std.proofs.lemmas.List.{length-map}
use Rattle.lif_dir.specs.Entries.{slot_bytes}
use Rattle.tape_why.specs.Searches.{do_share}
use Rattle.tape_why.proofs.Places.{clash_here, clash_past}
use Rattle.tape_why.proofs.defects.first_clash.Goals as goal

pub returns-in-Some-clause-places : goal.returns-in-Some-clause-places
returns-in-Some-clause-places c =
    let slots : List (List ℕ) = map slot_bytes c.args.table.now.slots in
    let lt : c.slots.place < length slots = omega (arith, length-map c.args.table.now.slots slot_bytes) in
    sym (clash_here (do_share c.args.what) slots c.slots.place c.in-Some.later lt (sym c.in-Some.ensures.place)) ∙ c.slots.invariant.left

pub slots-preserved : goal.slots-preserved
slots-preserved c =
    let slots : List (List ℕ) = map slot_bytes c.args.table.now.slots in
    let lt : c.slots.place < length slots = omega (arith, length-map c.args.table.now.slots slot_bytes) in
    record { left = clash_past (do_share c.args.what) slots c.slots.place lt (sym c.in_default.ensures.place) ∙ c.slots.invariant.left }
