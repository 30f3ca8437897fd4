-- What holds of the slots of a directory, whatever they are.
use Rattle.std.proofs.Common.{◌≡◌, ◌<◌, ◌≤◌, ◌+◌, ◌++◌, ℕ, zero, suc, List, [], ◌∷◌, Bool, true, false, length, get_or, refl, sym, subst, arith}
use Rattle.lif_model.specs.Directory.{is_end, entries_of, before_end}
use Rattle.lif_model.proofs.Directory.{entry_size}
use Rattle.lif_dir.specs.Entries.{AreSlots}
use Rattle.lif_dir.proofs.Slots.{before_end-end, before_end-entry}

pub no_slots : (room : ℕ) → AreSlots room []
no_slots room = record { few = omega arith; entries = λ i lt. absurd (omega (arith, lt)); kinds = λ i lt. absurd (omega (arith, lt)) }

pub more_room : (room more : ℕ) (slots : List (List ℕ)) → room ≤ more → AreSlots room slots → AreSlots more slots
more_room room more slots le are = record { few = omega (arith, are.few, le); entries = are.entries; kinds = are.kinds }

first_slot : (room : ℕ) (x : List ℕ) (xs : List (List ℕ)) → length x ≡ 32 → is_end x ≡ false → AreSlots room xs → AreSlots (suc room) (x ∷ xs)
first_slot room x xs size kind are = record { few = omega (arith, are.few); entries = entry; kinds = no_end }
  where
    entry : (i : ℕ) → i < length (x ∷ xs) → length (get_or (x ∷ xs) i []) ≡ 32
    entry zero lt = size
    entry (suc i) lt = are.entries i (omega (arith, lt))

    no_end : (i : ℕ) → i < length (x ∷ xs) → is_end (get_or (x ∷ xs) i []) ≡ false
    no_end zero lt = kind
    no_end (suc i) lt = are.kinds i (omega (arith, lt))

other_slots : (room : ℕ) (x : List ℕ) (xs : List (List ℕ)) → AreSlots room (x ∷ xs) → (length x ≡ 32) × (is_end x ≡ false) × AreSlots room xs
other_slots room x xs are = (
  are.entries 0 (omega arith),
  are.kinds 0 (omega arith),
  record {
    few = omega (arith, are.few);
    entries = λ i lt. are.entries (suc i) (omega (arith, lt));
    kinds = λ i lt. are.kinds (suc i) (omega (arith, lt));
  },
)

-- slots after slots
joined : (a b : ℕ) (xs ys : List (List ℕ)) → AreSlots a xs → AreSlots b ys → AreSlots (length xs + b) (xs ++ ys)
joined a b [] ys first second = more_room b (0 + b) ys (omega arith) second
joined a b (x ∷ xs) ys first second = let of = other_slots a x xs first in
    subst (λ (m : ℕ). AreSlots m (x ∷ (xs ++ ys))) (omega arith) (first_slot (length xs + b) x (xs ++ ys) of.0 of.1 (joined a b xs ys of.2 second))

-- those before an end
before_shape : (xs : List (List ℕ)) → ((i : ℕ) → i < length xs → length (get_or xs i []) ≡ 32) → AreSlots (length xs) (before_end xs)
before_shape [] sizes = no_slots 0
before_shape (x ∷ xs) sizes = go (is_end x) refl (before_shape xs (λ i lt. sizes (suc i) (omega (arith, lt))))
  where
    go : (b : Bool) → is_end x ≡ b → AreSlots (length xs) (before_end xs) → AreSlots (suc (length xs)) (before_end (x ∷ xs))
    go true e rest = subst (AreSlots (suc (length xs))) (sym (before_end-end x xs e)) (no_slots (suc (length xs)))
    go false e rest = subst (AreSlots (suc (length xs))) (sym (before_end-entry x xs e)) (first_slot (length xs) x (before_end xs) (sizes 0 (omega arith)) e rest)

entry_sizes : (bytes : List ℕ) → length bytes ≡ 256 → (i : ℕ) → i < 8 → length (get_or (entries_of bytes) i []) ≡ 32
unfolding entries_of
entry_sizes bytes size zero lt = entry_size bytes 0 size (omega arith)
entry_sizes bytes size (suc zero) lt = entry_size bytes 1 size (omega arith)
entry_sizes bytes size (suc (suc zero)) lt = entry_size bytes 2 size (omega arith)
entry_sizes bytes size (suc (suc (suc zero))) lt = entry_size bytes 3 size (omega arith)
entry_sizes bytes size (suc (suc (suc (suc zero)))) lt = entry_size bytes 4 size (omega arith)
entry_sizes bytes size (suc (suc (suc (suc (suc zero))))) lt = entry_size bytes 5 size (omega arith)
entry_sizes bytes size (suc (suc (suc (suc (suc (suc zero)))))) lt = entry_size bytes 6 size (omega arith)
entry_sizes bytes size (suc (suc (suc (suc (suc (suc (suc zero))))))) lt = entry_size bytes 7 size (omega arith)
entry_sizes bytes size (suc (suc (suc (suc (suc (suc (suc (suc i)))))))) lt = absurd (omega arith)

record_shape : (bytes : List ℕ) → length bytes ≡ 256 → AreSlots 8 (before_end (entries_of bytes))
unfolding entries_of
record_shape bytes size = before_shape (entries_of bytes) (λ i lt. entry_sizes bytes size i lt)

-- those of one record more
pub more_slots : (room more : ℕ) (slots later : List (List ℕ)) (bytes : List ℕ) → AreSlots room slots → length bytes ≡ 256 → later ≡ slots ++ before_end (entries_of bytes)
    → room + 8 ≤ more → AreSlots more later
more_slots room more slots later bytes are size is le = more_room (length slots + 8) more later (omega (arith, are.few, le))
    (subst (AreSlots (length slots + 8)) (sym is) (joined room 8 slots (before_end (entries_of bytes)) are (record_shape bytes size)))
