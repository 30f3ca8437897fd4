use Rattle.std.proofs.Common.{◌≡◌, ◌<◌, ◌∙◌, [], List, ℕ, true, false, length, map, set, sym, ap, subst, arith}
use Rattle.std.proofs.lemmas.List.{length-map}
use Rattle.lif_dir.specs.Entries.{slot_bytes}
use Rattle.lif_dir.specs.Indexes.{is_live_at, IsIndex}
use Rattle.lif_dir.proofs.Indexing.{set_same, out_dead, removed, unchanged, absent, count_live, count_dead}
use Rattle.lif_dir.proofs.index.NameIndex.take_out.Goals as goal

pub returns-in-Some-clause-index : goal.returns-in-Some-clause-index
returns-in-Some-clause-index c =
    let bytes : List (List ℕ) = map slot_bytes c.args.slots.now in
    let within : c.args.k < length bytes = omega (arith, c.requires.within, length-map c.args.slots.now slot_bytes) in
    let under : c.in-Some.at < length c.args.self.now.places.items = omega (arith, c.in-Some.ensures.0) in
    subst (IsIndex (set bytes c.args.k [])) (sym c.remove.ensures.items)
    (removed bytes (set bytes c.args.k []) c.args.self.now.places.items c.in-Some.at c.args.k c.requires.index (set_same bytes c.args.k []) under c.in-Some.ensures.1 (out_dead bytes c.args.k within))

pub returns-in-Some-clause-count : goal.returns-in-Some-clause-count
returns-in-Some-clause-count c =
    let bytes : List (List ℕ) = map slot_bytes c.args.slots.now in
    let within : c.args.k < length bytes = omega (arith, c.requires.within, length-map c.args.slots.now slot_bytes) in
    let under : c.in-Some.at < length c.args.self.now.places.items = omega (arith, c.in-Some.ensures.0) in
    let on : is_live_at bytes c.args.k ≡ true = sym (ap (is_live_at bytes) c.in-Some.ensures.1) ∙ c.requires.index.live c.in-Some.at under in
    omega (arith, c.remove.ensures.len, c.requires.count, count_live bytes c.args.k within on)

pub returns-in_default-clause-index : goal.returns-in_default-clause-index
returns-in_default-clause-index c =
    let bytes : List (List ℕ) = map slot_bytes c.args.slots.now in
    let within : c.args.k < length bytes = omega (arith, c.requires.within, length-map c.args.slots.now slot_bytes) in
    let off : is_live_at bytes c.args.k ≡ false = absent bytes c.args.self.now.places.items c.args.k c.requires.index (λ j lt. c.in_default.ensures j (omega (arith, lt))) in
    unchanged bytes (set bytes c.args.k []) c.args.self.now.places.items 0 c.args.k c.requires.index (set_same bytes c.args.k []) off (out_dead bytes c.args.k within)

pub returns-in_default-clause-count : goal.returns-in_default-clause-count
returns-in_default-clause-count c =
    let bytes : List (List ℕ) = map slot_bytes c.args.slots.now in
    let within : c.args.k < length bytes = omega (arith, c.requires.within, length-map c.args.slots.now slot_bytes) in
    let off : is_live_at bytes c.args.k ≡ false = absent bytes c.args.self.now.places.items c.args.k c.requires.index (λ j lt. c.in_default.ensures j (omega (arith, lt))) in
    c.requires.count ∙ sym (count_dead bytes c.args.k within off)
