-- The slots of a directory with a change, by their bytes.
use Rattle.std.proofs.Common.{◌≡◌, ◌++◌, ◌==◌, ℕ, suc, List, [], ◌∷◌, Bool, true, false, if◌then◌else◌, length, map, set, refl, sym, ap, ◌∙◌}
use Rattle.std.specs.Prelude.{Option, Some, None, IfSome}
use Rattle.std.proofs.lemmas.List.{length-map, map-append, map-set}
use Rattle.lif_dir.specs.declared.change.Change.{Change}
use Rattle.lif_dir.specs.declared.entries.FileEntry.{FileEntry}
use Rattle.lif_dir.specs.declared.entries.Slot.{Slot}
use Rattle.lif_dir.specs.declared.entries.Slot.TheVariants.{Live, Purged}
use Rattle.lif_dir.specs.Entries.{entry_bytes, slot_of, slot_from, slot_bytes}
use Rattle.lif_dir.specs.Changes.{put_slot, put_next, put_change, slots_with, bytes_with, IsToldBack}

module _ {X Y : Type 0} (g : X → Y) where
  map_put_slot : (xs : List X) (k : ℕ) (x : X) → map g (put_slot xs k x) ≡ put_slot (map g xs) k (g x)
  map_put_slot xs k x = go (k == length xs) ∙ ap (λ n. if k == n then map g xs ++ g x ∷ [] else set (map g xs) k (g x)) (sym (length-map xs g))
    where
      go : (b : Bool) → map g (if b then xs ++ x ∷ [] else set xs k x) ≡ (if b then map g xs ++ g x ∷ [] else set (map g xs) k (g x))
      go true = map-append g xs (x ∷ [])
      go false = map-set g xs k x

  -- of entries that f and h tell alike
  pub map_put_change : (f : FileEntry → X) (h : FileEntry → Y) (c : Change) (xs : List X) → g (f c.entry) ≡ h c.entry → IfSome c.next (λ e. g (f e) ≡ h e)
      → map g (put_change f c xs) ≡ put_change h c (map g xs)
  map_put_change f h c xs one two = by c.next two
    where
      first : map g (put_slot xs c.slot (f c.entry)) ≡ put_slot (map g xs) c.slot (h c.entry)
      first = map_put_slot xs c.slot (f c.entry) ∙ ap (put_slot (map g xs) c.slot) one

      by : (next : Option FileEntry) → IfSome next (λ e. g (f e) ≡ h e)
          → map g (put_next f (suc c.slot) next (put_slot xs c.slot (f c.entry))) ≡ put_next h (suc c.slot) next (put_slot (map g xs) c.slot (h c.entry))
      by None same = first
      by (Some e) same = map_put_slot (put_slot xs c.slot (f c.entry)) (suc c.slot) (f e) ∙ (λ i. put_slot (first i) (suc c.slot) (same i))

bytes_of : (e : FileEntry) → slot_bytes (slot_of e) ≡ entry_bytes e
bytes_of e = go (e.kind == 0)
  where
    go : (b : Bool) → slot_bytes (if b then Purged e else Live e) ≡ entry_bytes e
    go true = refl
    go false = refl

pub changed_bytes : (c : Change) (xs : List Slot) → map slot_bytes (slots_with c xs) ≡ bytes_with c (map slot_bytes xs)
changed_bytes c xs = map_put_change slot_bytes slot_of entry_bytes c xs (bytes_of c.entry) (by c.next)
  where
    by : (next : Option FileEntry) → IfSome next (λ e. slot_bytes (slot_of e) ≡ entry_bytes e)
    by None = tt
    by (Some e) = bytes_of e

pub told_back : (c : Change) (xs : List Slot) → IsToldBack c → map slot_from (map slot_bytes xs) ≡ xs → map slot_from (bytes_with c (map slot_bytes xs)) ≡ slots_with c xs
told_back c xs told back = map_put_change slot_from entry_bytes slot_of c (map slot_bytes xs) told.entry told.next ∙ ap (slots_with c) back
