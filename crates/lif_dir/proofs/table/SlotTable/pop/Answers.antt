use Rattle.std.proofs.Common.{◌≡◌, ◌-◌, ◌+◌, ◌++◌, ◌∷◌, ◌∙◌, [], ℕ, List, length, map, take, set, get_or, filter, true, sym, ap, subst, arith}
use Rattle.std.proofs.lemmas.List.{length-take-le}
use Rattle.std.proofs.lemmas.List.Elements.{All-take}
use Rattle.lif_model.specs.Legal.{is_live}
use Rattle.lif_dir.specs.declared.entries.Slot.{Slot}
use Rattle.lif_dir.specs.declared.entries.Slot.TheVariants.{End}
use Rattle.lif_dir.specs.Entries.{is_entry, slot_bytes}
use Rattle.lif_dir.specs.Indexes.{IsIndex}
use Rattle.lif_dir.specs.Tables.{Table, IsInRoom, IsIndexed}
use Rattle.lif_dir.proofs.TableLemmas.{but_last, popped_index, pushed_count}
use Rattle.lif_dir.proofs.table.SlotTable.pop.Goals as goal

pub invariant_of-self : goal.invariant_of-self
invariant_of-self c =
    let whole : List Slot = c.self.inside.slots.items in
    let k : ℕ = c.len-last.result - 1 in
    let count : k + 1 ≡ length whole = omega (arith, c.requires.some, c.len-last.ensures, ap (λ (t : Table). length t.slots) c.self.view_is) in
    let items : c.truncate.new.self.items ≡ take k whole = c.truncate.ensures.items in
    let less : length (take k whole) ≡ k = length-take-le k whole (omega (arith, count)) in
    let split : whole ≡ take k whole ++ get_or whole k End ∷ [] = but_last whole k count in
    let seen : c.deref.result.now ≡ whole = c.deref.ensures.value in (
      record {
        within = omega (arith, c.truncate.ensures.len, c.self.invariant.0.within);
        reserved = omega (arith, c.truncate.ensures.capacity, c.self.invariant.0.reserved);
        small = c.self.invariant.0.small;
        entries = subst (Rattle.std.specs.Prelude.All (λ slot. is_entry slot ≡ true)) (sym items) (All-take (λ slot. is_entry slot ≡ true) k whole c.self.invariant.0.entries);
      },
      record {
        reserved = omega (arith, c.take_out.ensures.capacity, c.self.invariant.1.reserved);
        index = subst (λ (xs : List Slot). IsIndex (map slot_bytes xs) c.take_out.new.self.places.items) (sym items)
            (popped_index (take k whole) whole (get_or whole k End) k split (sym less) c.take_out.new.self.places.items
            (subst (λ (xs : List Slot). IsIndex (set (map slot_bytes xs) k []) c.take_out.new.self.places.items) seen c.take_out.ensures.index));
        count = c.take_out.ensures.count ∙ ap (λ (xs : List Slot). length (filter is_live (set (map slot_bytes xs) k []))) seen
            ∙ pushed_count (take k whole) whole (get_or whole k End) k split (sym less) ∙ sym (ap (λ (xs : List Slot). length (filter is_live (map slot_bytes xs))) items);
      },
    )
