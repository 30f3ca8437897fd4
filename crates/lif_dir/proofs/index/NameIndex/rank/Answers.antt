use Rattle.std.proofs.Common.{◌≡◌, ◌<◌, ◌+◌, ◌-◌, ◌/◌, ◌∙◌, ℕ, List, true, length, map, get_or, sym, ap, arith}
use Rattle.std.specs.Ordering.{nat_cmp, is_gt}
use Rattle.std.specs.Cmp.Lexicographic.{slice_cmp}
use Rattle.std.proofs.lemmas.Grind.{get_or_default_zero}
use Rattle.lif_dir.specs.Entries.{name_bytes, slot_bytes}
use Rattle.lif_dir.specs.Indexes.{name_at, IsUpTo}
use Rattle.lif_dir.proofs.Searching.{turned, rank_up, rank_down}
use Rattle.lif_dir.proofs.index.NameIndex.rank.Goals as goal

pub loop-low-preserved-then-is_gt : goal.loop-low-preserved-then-is_gt
loop-low-preserved-then-is_gt c =
    let v = c.loop-low.invariant in
    let m : ℕ = c.loop-low.low + (c.loop-low.high - c.loop-low.low) / 2 in
    let under : m < length c.args.self.now.places.items = omega arith in
    let read = c.name_of.ensures ∙ ap (name_at (map slot_bytes c.args.slots.now)) (c.index.ensures ∙ get_or_default_zero c.args.self.now.places.items m _ under) in
    let gt : is_gt (slice_cmp nat_cmp (name_at (map slot_bytes c.args.slots.now) (get_or c.args.self.now.places.items m 0)) (name_bytes c.args.name.now)) ≡ true =
    ap (λ (n : List ℕ). is_gt (slice_cmp nat_cmp n (name_bytes c.args.name.now))) (sym read) ∙ ap is_gt (sym c.order.ensures) ∙ sym c.is_gt.ensures ∙ c.if-is_gt.true in
    record {
      order = omega arith;
      within = omega arith;
      below = v.below;
      above = λ j le lt. rank_down (map slot_bytes c.args.slots.now) c.args.self.now.places.items c.requires.sorted (name_bytes c.args.name.now) m under (turned (name_at (map slot_bytes c.args.slots.now) (get_or c.args.self.now.places.items m 0)) (name_bytes c.args.name.now) gt) j le (omega (arith, lt));
    }

pub loop-low-preserved : goal.loop-low-preserved
loop-low-preserved c =
    let v = c.loop-low.invariant in
    let m : ℕ = c.loop-low.low + (c.loop-low.high - c.loop-low.low) / 2 in
    let under : m < length c.args.self.now.places.items = omega arith in
    let read = c.name_of.ensures ∙ ap (name_at (map slot_bytes c.args.slots.now)) (c.index.ensures ∙ get_or_default_zero c.args.self.now.places.items m _ under) in
    let up : IsUpTo (name_at (map slot_bytes c.args.slots.now) (get_or c.args.self.now.places.items m 0)) (name_bytes c.args.name.now) =
    ap (λ (n : List ℕ). is_gt (slice_cmp nat_cmp n (name_bytes c.args.name.now))) (sym read) ∙ ap is_gt (sym c.order.ensures) ∙ sym c.is_gt.ensures ∙ c.if-is_gt.false in
    record {
      order = omega arith;
      within = v.within;
      below = λ j lt. rank_up (map slot_bytes c.args.slots.now) c.args.self.now.places.items c.requires.sorted (name_bytes c.args.name.now) m under up j lt;
      above = v.above;
    }
