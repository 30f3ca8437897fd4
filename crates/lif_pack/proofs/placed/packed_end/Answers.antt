use Rattle.std.proofs.Common.{length, ◌<◌, ◌≡◌, ◌+◌, [], true, false, ap, arith, get_or, map, take, sym, ◌∙◌}
use Rattle.std.proofs.lemmas.Bool.{and_from}
use Rattle.std.proofs.lemmas.List.{length-map}
use Rattle.lif_dir.specs.Entries.{slot_bytes}
use Rattle.lif_model.specs.Packing.{live_length, live_records, stands_at, are_packed}
use Rattle.lif_pack.proofs.Walking.{live_more, packed_more, packed_not}
use Rattle.lif_pack.proofs.placed.packed_end.Goals as goal

pub returns-then-not-stands_at-clause-not_packed : goal.returns-then-not-stands_at-clause-not_packed
returns-then-not-stands_at-clause-not_packed c e =
    let slots = map slot_bytes c.args.slots.now.slots in
    let k = c.loop-k.k in
    let place : c.loop-k.place ≡ c.args.first + live_records (take k slots) = c.loop-k.invariant.place in
    let off : stands_at (c.args.first + live_records (take k slots)) (get_or slots k []) ≡ false =
    sym (λ i. stands_at (place i) (c.entry-entry.ensures i)) ∙ sym c.if-not-stands_at.ensures in
    packed_not c.args.first slots k c.args.count (omega (arith, c.requires.within, length-map c.args.slots.now.slots slot_bytes)) (omega arith) off

pub overflow_add-place : goal.overflow_add-place
overflow_add-place c = omega (arith, c.loop-k.invariant.small, c.requires.few, c.from-place.ensures)

pub loop-k-preserved : goal.loop-k-preserved
loop-k-preserved c =
    let slots = map slot_bytes c.args.slots.now.slots in
    let k = c.loop-k.k in
    let lt : k < length slots = omega (arith, c.requires.within, length-map c.args.slots.now.slots slot_bytes) in
    let place : c.loop-k.place ≡ c.args.first + live_records (take k slots) = c.loop-k.invariant.place in
    let on : stands_at (c.args.first + live_records (take k slots)) (get_or slots k []) ≡ true =
    sym (λ i. stands_at (place i) (c.entry-entry.ensures i)) ∙ sym c.if-not-stands_at.ensures in
    let more : c.from-place.result ≡ live_length (get_or slots k []) = c.from-place.ensures ∙ c.live_length.ensures ∙ ap live_length c.entry-entry.ensures in
    record {
      packed = packed_more c.args.first slots k lt ∙ and_from (are_packed c.args.first (take k slots)) _ c.loop-k.invariant.packed on;
      place = omega (arith, place, more, live_more slots k lt);
      small = omega (arith, c.loop-k.invariant.small, c.from-place.ensures);
    }
