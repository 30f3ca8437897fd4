use Rattle.std.proofs.Common.{length, filter, ◌<◌, ◌≤◌, ◌≡◌, ◌+◌, [], Bool, if◌then◌else◌, ap, arith, get_or, map, take, sym, ◌∙◌}
use Rattle.std.proofs.lemmas.List.{length-map}
use Rattle.lif_model.specs.Legal.{is_live}
use Rattle.lif_model.specs.Volume.{is_file}
use Rattle.lif_dir.specs.Entries.{slot_bytes}
use Rattle.lif_model.specs.Packing.{live_length, live_records, stands_at, count_moved}
use Rattle.lif_pack.proofs.Walking.{live_more}
use Rattle.lif_pack.proofs.Counted.{missed, moved_more, files_before}
use Rattle.lif_pack.proofs.counting.files_moved.Goals.{then-not-stands_at, else-not-stands_at}
use Rattle.lif_pack.proofs.counting.files_moved.Goals as goal

pub loop-k-preserved : goal.loop-k-preserved
loop-k-preserved c =
    let slots = map slot_bytes c.args.slots.now.slots in
    let k = c.loop-k.k in
    let lt : k < length slots = omega (arith, c.requires.within, length-map c.args.slots.now.slots slot_bytes) in
    let place : c.loop-k.place ≡ c.args.end + live_records (take k slots) = c.loop-k.invariant.place in
    let told : c.stands_at.result ≡ stands_at (c.args.end + live_records (take k slots)) (get_or slots k []) =
    c.stands_at.ensures ∙ (λ i. stands_at (place i) (c.entry-entry.ensures i)) in
    let more : c.from-place-in-loop-k.result ≡ live_length (get_or slots k []) =
    c.from-place-in-loop-k.ensures ∙ c.live_length.ensures ∙ ap live_length c.entry-entry.ensures in
    let counted = moved_more c.args.end slots k lt in
    let here : missed (c.args.end + live_records (take k slots)) (get_or slots k []) ≡ (if c.stands_at.result then 0 else 1) =
    sym (ap (λ (b : Bool). if b then 0 else 1) told) in
    let both : (c.if-not-stands_at.moved ≡ count_moved c.args.end (filter is_live (take (k + 1) slots))) × (c.if-not-stands_at.moved ≤ k + 1) = elim c.if-not-stands_at.branch [
      | then-not-stands_at w ↦
          let one : missed (c.args.end + live_records (take k slots)) (get_or slots k []) ≡ 1 = here ∙ ap (λ (b : Bool). if b then 0 else 1) w.if-not-stands_at.true in
          (omega (arith, counted, one, w.moved-is, c.loop-k.invariant.moved), omega (arith, w.moved-is, c.loop-k.invariant.few))
      | else-not-stands_at w ↦
          let none : missed (c.args.end + live_records (take k slots)) (get_or slots k []) ≡ 0 = here ∙ ap (λ (b : Bool). if b then 0 else 1) w.if-not-stands_at.false in
          (omega (arith, counted, none, w.moved-is, c.loop-k.invariant.moved), omega (arith, w.moved-is, c.loop-k.invariant.few))
    ] in
    record {
      moved = both.0;
      place = omega (arith, place, more, live_more slots k lt);
      small = omega (arith, c.loop-k.invariant.small, c.from-place-in-loop-k.ensures);
      few = both.1;
    }

pub returns-clause-count : goal.returns-clause-count
returns-clause-count c n first may v same ends =
    let slots = map slot_bytes c.args.slots.now.slots in
    let k : c.loop-k.k ≡ c.args.redo = omega arith in
    c.loop-k.invariant.moved ∙ ap (λ m. count_moved c.args.end (filter is_live (take m slots))) k
    ∙ sym (ap (count_moved c.args.end) (files_before n first c.args.end c.args.redo slots may))
    ∙ sym (λ i. count_moved (ends i) (filter (is_file n) (same i)))
