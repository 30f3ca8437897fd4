use Rattle.std.proofs.Common.{◌≡◌, ◌<◌, ◌∙◌, ◌+◌, [], List, ℕ, true, false, length, map, get_or, set, if◌then◌else◌, is_ok, vec_len, vec_capacity, sym, ap, subst, arith}
use Rattle.std.specs.List.{insert}
use Rattle.std.proofs.lemmas.List.{length-map, get_or-map}
use Rattle.lif_model.specs.Legal.{is_live}
use Rattle.lif_dir.specs.Entries.{slot_bytes}
use Rattle.lif_dir.specs.Indexes.{is_live_at, name_at, IsUpTo, IsIndex}
use Rattle.lif_dir.proofs.Indexing.{set_same, same_back, out_dead, inserted, unchanged, count_live, count_dead, count_within}
use Rattle.lif_dir.proofs.Searching.{sorted_else}
use Rattle.lif_dir.proofs.index.NameIndex.put_in.Goals as goal

pub rank-at-requires-clause-sorted : goal.rank-at-requires-clause-sorted
rank-at-requires-clause-sorted c =
    let bytes : List (List ℕ) = map slot_bytes c.args.slots.now in
    let within : c.args.k < length bytes = omega (arith, c.requires.within, length-map c.args.slots.now slot_bytes) in
    sorted_else (set bytes c.args.k []) bytes c.args.self.now.places.items c.args.k c.requires.index (same_back bytes (set bytes c.args.k []) c.args.k (set_same bytes c.args.k [])) (out_dead bytes c.args.k within)

pub unwrap-requires : goal.unwrap-requires
unwrap-requires c =
    let bytes : List (List ℕ) = map slot_bytes c.args.slots.now in
    let within : c.args.k < length bytes = omega (arith, c.requires.within, length-map c.args.slots.now slot_bytes) in
    let on : is_live_at bytes c.args.k ≡ true = ap is_live (get_or-map slot_bytes c.args.slots.now c.args.k _ [] c.requires.within) ∙ sym c.is_live.ensures ∙ c.if-is_live.true in
    let room : vec_len c.args.self.now.places < vec_capacity c.args.self.now.places =
    omega (arith, c.requires.count, c.requires.room, count_live bytes c.args.k within on, count_within bytes, length-map c.args.slots.now slot_bytes) in
    c.insert.ensures.succeeds room

pub returns-then-is_live-clause-index : goal.returns-then-is_live-clause-index
returns-then-is_live-clause-index c =
    let bytes : List (List ℕ) = map slot_bytes c.args.slots.now in
    let within : c.args.k < length bytes = omega (arith, c.requires.within, length-map c.args.slots.now slot_bytes) in
    let on : is_live_at bytes c.args.k ≡ true = ap is_live (get_or-map slot_bytes c.args.slots.now c.args.k _ [] c.requires.within) ∙ sym c.is_live.ensures ∙ c.if-is_live.true in
    let items : c.insert.new.self.items ≡ insert c.args.self.now.places.items c.rank-at.result c.args.k =
    c.insert.ensures.items ∙ ap (λ r. if is_ok r then insert c.args.self.now.places.items c.rank-at.result c.args.k else c.args.self.now.places.items) c.unwrap.ensures in
    subst (IsIndex bytes) (sym items)
    (inserted (set bytes c.args.k []) bytes c.args.self.now.places.items c.rank-at.result c.args.k c.requires.index (same_back bytes (set bytes c.args.k []) c.args.k (set_same bytes c.args.k []))
    (out_dead bytes c.args.k within) on (omega arith)
    (λ j lt. subst (IsUpTo (name_at bytes (get_or c.args.self.now.places.items j 0))) c.name_of.ensures (c.rank-at.ensures.below j lt))
    (λ j le lt. subst (λ (n : List ℕ). IsUpTo n (name_at bytes (get_or c.args.self.now.places.items j 0))) c.name_of.ensures (c.rank-at.ensures.above j le (omega (arith, lt)))))

pub returns-then-is_live-clause-count : goal.returns-then-is_live-clause-count
returns-then-is_live-clause-count c =
    let bytes : List (List ℕ) = map slot_bytes c.args.slots.now in
    let within : c.args.k < length bytes = omega (arith, c.requires.within, length-map c.args.slots.now slot_bytes) in
    let on : is_live_at bytes c.args.k ≡ true = ap is_live (get_or-map slot_bytes c.args.slots.now c.args.k _ [] c.requires.within) ∙ sym c.is_live.ensures ∙ c.if-is_live.true in
    let more = c.insert.ensures.len ∙ ap (λ r. if is_ok r then vec_len c.args.self.now.places + 1 else vec_len c.args.self.now.places) c.unwrap.ensures in
    omega (arith, more, c.requires.count, count_live bytes c.args.k within on)

pub returns-else-is_live-clause-index : goal.returns-else-is_live-clause-index
returns-else-is_live-clause-index c =
    let bytes : List (List ℕ) = map slot_bytes c.args.slots.now in
    let within : c.args.k < length bytes = omega (arith, c.requires.within, length-map c.args.slots.now slot_bytes) in
    let off : is_live_at bytes c.args.k ≡ false = ap is_live (get_or-map slot_bytes c.args.slots.now c.args.k _ [] c.requires.within) ∙ sym c.is_live.ensures ∙ c.if-is_live.false in
    unchanged (set bytes c.args.k []) bytes c.args.self.now.places.items 0 c.args.k c.requires.index (same_back bytes (set bytes c.args.k []) c.args.k (set_same bytes c.args.k [])) (out_dead bytes c.args.k within) off

pub returns-else-is_live-clause-count : goal.returns-else-is_live-clause-count
returns-else-is_live-clause-count c =
    let bytes : List (List ℕ) = map slot_bytes c.args.slots.now in
    let within : c.args.k < length bytes = omega (arith, c.requires.within, length-map c.args.slots.now slot_bytes) in
    let off : is_live_at bytes c.args.k ≡ false = ap is_live (get_or-map slot_bytes c.args.slots.now c.args.k _ [] c.requires.within) ∙ sym c.is_live.ensures ∙ c.if-is_live.false in
    c.requires.count ∙ count_dead bytes c.args.k within off
