use Rattle.std.proofs.Common.{◌≡◌, ◌<◌, ◌≤◌, ◌+◌, ◌-◌, ◌*◌, ◌/◌, ◌^◌, ◌∙◌, ℕ, List, length, map, get_or, sym, ap, subst, vec_len, arith}
use Rattle.std.specs.Ordering.{nat_cmp}
use Rattle.std.specs.Cmp.Lexicographic.{slice_cmp}
use Rattle.std.specs.declared.cmp.Ordering.TheVariants.{Less, Greater}
use Rattle.std.proofs.lemmas.Grind.{get_or_default_zero}
use Rattle.lif_dir.specs.Entries.{name_bytes, slot_bytes}
use Rattle.lif_dir.specs.Indexes.{name_at}
use Rattle.lif_dir.proofs.Searching.{less_up, greater_down, same_name, halves}
use Rattle.lif_dir.proofs.index.NameIndex.find.Goals as goal

pub loop-low-preserved-in-Less : goal.loop-low-preserved-in-Less
loop-low-preserved-in-Less g c =
    let v = c.loop-low.invariant in
    let m : ℕ = c.loop-low.low + (c.loop-low.high - c.loop-low.low) / 2 in
    let t : ℕ = c.loop-low.steps - c.args.steps.now in
    let under : m < length c.args.self.now.places.items = omega arith in
    let read = c.name_of.ensures ∙ ap (name_at (map slot_bytes c.args.slots.now)) (c.index-place.ensures ∙ get_or_default_zero c.args.self.now.places.items m _ under) in
    let less : slice_cmp nat_cmp (name_at (map slot_bytes c.args.slots.now) (get_or c.args.self.now.places.items m 0)) (name_bytes c.args.name.now) ≡ Less =
    ap (λ (n : List ℕ). slice_cmp nat_cmp n (name_bytes c.args.name.now)) (sym read) ∙ sym c.compare.ensures.order ∙ c.in-Less.is in
    let later : t + 1 ≡ c.compare.new.steps - c.args.steps.now = omega arith in
    let count = halves t (c.loop-low.high - c.loop-low.low) (c.loop-low.high - (m + 1)) (vec_len c.args.self.now.places) v.left (omega arith) (omega arith) in
    record {
      order = omega arith;
      within = v.within;
      below = λ j lt. less_up (map slot_bytes c.args.slots.now) c.args.self.now.places.items c.requires.sorted (name_bytes c.args.name.now) m under less j lt;
      above = v.above;
      grows = omega arith;
      left = subst (λ (k : ℕ). 2 ^ k * (c.loop-low.high - (m + 1)) ≤ vec_len c.args.self.now.places) later count.0;
      few = subst (λ (k : ℕ). 2 ^ k ≤ 2 * vec_len c.args.self.now.places + 1) later count.1;
    }

pub returns-in-Equal-clause-place : goal.returns-in-Equal-clause-place
returns-in-Equal-clause-place g c =
    let m : ℕ = c.loop-low.low + (c.loop-low.high - c.loop-low.low) / 2 in
    let under : m < length c.args.self.now.places.items = omega arith in
    (m, omega arith, sym (c.index-place.ensures ∙ get_or_default_zero c.args.self.now.places.items m _ under), sym c.name_of.ensures ∙ same_name _ _ (sym c.compare.ensures.order ∙ c.in-Equal.is))

pub returns-in-Equal-clause-few : goal.returns-in-Equal-clause-few
returns-in-Equal-clause-few g c =
    let t : ℕ = c.loop-low.steps - c.args.steps.now in
    let later : t + 1 ≡ c.compare.new.steps - c.args.steps.now = omega arith in
    let count = halves t (c.loop-low.high - c.loop-low.low) 0 (vec_len c.args.self.now.places) c.loop-low.invariant.left (omega arith) (omega arith) in
    subst (λ (k : ℕ). 2 ^ k ≤ 2 * vec_len c.args.self.now.places + 1) later count.1

pub loop-low-preserved : goal.loop-low-preserved
loop-low-preserved g c =
    let v = c.loop-low.invariant in
    let m : ℕ = c.loop-low.low + (c.loop-low.high - c.loop-low.low) / 2 in
    let t : ℕ = c.loop-low.steps - c.args.steps.now in
    let under : m < length c.args.self.now.places.items = omega arith in
    let read = c.name_of.ensures ∙ ap (name_at (map slot_bytes c.args.slots.now)) (c.index-place.ensures ∙ get_or_default_zero c.args.self.now.places.items m _ under) in
    let greater : slice_cmp nat_cmp (name_at (map slot_bytes c.args.slots.now) (get_or c.args.self.now.places.items m 0)) (name_bytes c.args.name.now) ≡ Greater =
    ap (λ (n : List ℕ). slice_cmp nat_cmp n (name_bytes c.args.name.now)) (sym read) ∙ sym c.compare.ensures.order ∙ c.in-Greater.is in
    let later : t + 1 ≡ c.compare.new.steps - c.args.steps.now = omega arith in
    let count = halves t (c.loop-low.high - c.loop-low.low) (m - c.loop-low.low) (vec_len c.args.self.now.places) v.left (omega arith) (omega arith) in
    record {
      order = omega arith;
      within = omega arith;
      below = v.below;
      above = λ j le lt. greater_down (map slot_bytes c.args.slots.now) c.args.self.now.places.items c.requires.sorted (name_bytes c.args.name.now) m under greater j le (omega (arith, lt));
      grows = omega arith;
      left = subst (λ (k : ℕ). 2 ^ k * (m - c.loop-low.low) ≤ vec_len c.args.self.now.places) later count.0;
      few = subst (λ (k : ℕ). 2 ^ k ≤ 2 * vec_len c.args.self.now.places + 1) later count.1;
    }
