-- The slots of a tape into whose directory slots were written.
use Rattle.std.proofs.Common.{◌≡◌, ◌≢◌, ◌⊎◌, ◌<◌, ◌≤◌, ◌+◌, ◌*◌, ◌%◌, ◌++◌, ℕ, suc, List, [], ◌∷◌, Bool, true, false, not, if◌then◌else◌, length, get_or, set, insert, take, inl, inr, refl, sym, ◌∙◌, ap, subst, arith, length-set, get_or-take, get_or-set_same, get_or-set_other}
use Rattle.std.specs.Prelude.{◌==◌, nat_lt, Some}
use Rattle.std.specs.List.{prefix_len}
use Rattle.std.proofs.lemmas.Bool.{cases_eq, cases_lt, lt-ltb, le-ltb, eq-eqb, ne_eqb}
use Rattle.std.proofs.lemmas.List.{ext_get_or, length_push, length-take-le}
use Rattle.std.proofs.lemmas.List.Edits.{length-insert, get_or-insert_below, get_or-insert_above}
use Rattle.lif_model.specs.Tape.{Tape, IsTape, record_at}
use Rattle.lif_model.specs.Header.{directory_start, directory_length, directory_end, capacity_of}
use Rattle.lif_model.specs.Directory.{is_end, entries_from, before_end, slots_of}
use Rattle.lif_model.specs.Made.{with_type}
use Rattle.lif_model.specs.Legal.{is_live_named, place_named, has_file, IsLegal}
use Rattle.lif_model.specs.Volume.{Volume, IsVolume, volume_in}
use Rattle.lif_model.specs.Apply.{with_slot}
use Rattle.lif_model.specs.Writing.{slot_record, entry_from, entry_on, SlotWrites, with_slots, ended_behind, last_slot}
use Rattle.lif_model.proofs.Made.{typed_type, typed_size}
use Rattle.lif_model.proofs.Slots.{readable_tells, HasNew, before_insert, insert_new, push_new}
use Rattle.lif_model.proofs.Adopted.{position_tells, with_slot_at}
use Rattle.lif_model.proofs.Directory.{entry_size, entries_count, entry_of_all, before_end_at, slot_at, volume_tells, volume_in_is}
use Rattle.lif_model.proofs.Writing.{AreEntries, untouched, last_written, slots_elsewhere, slot_written}

-- after the slots stands an end, or the directory is full
stops : (xs : List (List ℕ)) → length (before_end xs) < length xs → is_end (get_or xs (length (before_end xs)) []) ≡ true
stops [] lt = absurd (omega (arith, lt))
stops (x ∷ xs) lt = go (is_end x) refl lt (stops xs)
  where
    go : (b : Bool) → is_end x ≡ b → length (take (if not b then 1 + prefix_len (λ e. not (is_end e)) xs else 0) (x ∷ xs)) < length (x ∷ xs)
        → (length (before_end xs) < length xs → is_end (get_or xs (length (before_end xs)) []) ≡ true)
        → is_end (get_or (x ∷ xs) (length (take (if not b then 1 + prefix_len (λ e. not (is_end e)) xs else 0) (x ∷ xs))) []) ≡ true
    go true e lt rest = e
    go false e lt rest =
        let step : 1 + prefix_len (λ e. not (is_end e)) xs ≡ suc (prefix_len (λ e. not (is_end e)) xs) = omega arith in
        let size : length (take (1 + prefix_len (λ e. not (is_end e)) xs) (x ∷ xs)) ≡ suc (length (before_end xs)) = ap (λ (n : ℕ). length (take n (x ∷ xs))) step in
        ap (λ (n : ℕ). is_end (get_or (x ∷ xs) n [])) size ∙ rest (omega (arith, lt, size))

-- ---- a settled tape with its volume

-- what is known of the directory of a tape that has a volume
pub record IsOn (n : ℕ) (u : Tape) (v : Volume) : Type 0 where
  pub tape : IsTape n u
  pub volume : IsVolume n v
  pub header : v.header ≡ record_at u 0
  pub slots : v.slots ≡ slots_of u
  pub starts : 0 < directory_start v.header
  pub ends : directory_end v.header + 4 ≤ n

pub is_on : (n : ℕ) (u : Tape) (v : Volume) → IsTape n u → volume_in u ≡ Some v → IsOn n u v
is_on n u v is e =
    let tells = volume_tells u v e in
    let volume = volume_in_is n u v is e in
    let readable = readable_tells n v.header volume.legal.readable in
    record {
      tape = is;
      volume = volume;
      header = tells.1;
      slots = tells.2;
      starts = readable.0;
      ends = omega (arith, readable.0, readable.1, readable.2);
    }

-- ---- the slot after the last

-- a write of an end after slot k leaves every other slot
pub ended_other : (capacity : ℕ) (u : Tape) (k j : ℕ) (old : List ℕ) → j ≢ k → last_written (ended_behind capacity u k) j old ≡ old
ended_other capacity u k j old ne = go (nat_lt k capacity)
  where
    go : (b : Bool) → last_written (if b then (k, with_type 0xFFFF (entry_on u k)) ∷ [] else []) j old ≡ old
    go false = refl
    go true = ap (λ (b : Bool). if b then with_type 0xFFFF (entry_on u k) else old) (ne_eqb k j (λ e. ne (sym e)))

-- and gives that one the type of an end, and leaves its other bytes
ended_is : (capacity : ℕ) (u : Tape) (k : ℕ) (old : List ℕ) → k < capacity
    → last_written (ended_behind capacity u k) k old ≡ with_type 0xFFFF (entry_on u k)
ended_is capacity u k old lt =
    ap (λ (b : Bool). last_written (if b then (k, with_type 0xFFFF (entry_on u k)) ∷ [] else []) k old) (lt-ltb k capacity lt)
    ∙ ap (λ (b : Bool). if b then with_type 0xFFFF (entry_on u k) else old) (eq-eqb k k refl)

pub ended_entries : (capacity : ℕ) (u : Tape) (k : ℕ) → ((j : ℕ) → j < capacity → length (entry_on u j) ≡ 32)
    → AreEntries capacity (ended_behind capacity u k)
ended_entries capacity u k sizes = elim (cases_lt k capacity) [
  | inl lt ↦ subst (λ (b : Bool). AreEntries capacity (if b then (k, with_type 0xFFFF (entry_on u k)) ∷ [] else [])) (sym (lt-ltb k capacity lt)) (lt, typed_size 0xFFFF (entry_on u k) ∙ sizes k lt, tt)
  | inr ge ↦ subst (λ (b : Bool). AreEntries capacity (if b then (k, with_type 0xFFFF (entry_on u k)) ∷ [] else [])) (sym (le-ltb k capacity ge)) tt
]

pub last_entries : (capacity : ℕ) (u : Tape) (k : ℕ) (entry : List ℕ) → ((j : ℕ) → j < capacity → length (entry_on u j) ≡ 32) → k < capacity
    → length entry ≡ 32 → AreEntries capacity (last_slot capacity u k entry)
last_entries capacity u k entry sizes lt size = (lt, size, ended_entries capacity u (suc k) sizes)

-- a write of the last slot
last_before : (capacity : ℕ) (u : Tape) (k : ℕ) (entry : List ℕ) (j : ℕ) (old : List ℕ) → j < k
    → last_written (last_slot capacity u k entry) j old ≡ old
last_before capacity u k entry j old lt =
    ended_other capacity u (suc k) j (if k == j then entry else old) (λ e. absurd (omega (arith, e, lt)))
    ∙ ap (λ (b : Bool). if b then entry else old) (ne_eqb k j (λ e. absurd (omega (arith, e, lt))))

last_here : (capacity : ℕ) (u : Tape) (k : ℕ) (entry old : List ℕ) → last_written (last_slot capacity u k entry) k old ≡ entry
last_here capacity u k entry old =
    ended_other capacity u (suc k) k (if k == k then entry else old) (λ e. absurd (omega (arith, e)))
    ∙ ap (λ (b : Bool). if b then entry else old) (eq-eqb k k refl)

pub last_end_is : (capacity : ℕ) (u : Tape) (k m : ℕ) (entry old : List ℕ) → m ≡ suc k → m < capacity
    → last_written (last_slot capacity u k entry) m old ≡ with_type 0xFFFF (entry_on u m)
last_end_is capacity u k m entry old e lt =
    let same : (if k == m then entry else old) ≡ old = ap (λ (b : Bool). if b then entry else old) (ne_eqb k m (λ at. absurd (omega (arith, at, e)))) in
    ap (λ (j : ℕ). last_written (ended_behind capacity u j) m (if k == m then entry else old)) (sym e) ∙ ended_is capacity u m (if k == m then entry else old) lt

last_end : (capacity : ℕ) (u : Tape) (k m : ℕ) (entry old : List ℕ) → m ≡ suc k → m < capacity → ((j : ℕ) → j < capacity → length (entry_on u j) ≡ 32)
    → is_end (last_written (last_slot capacity u k entry) m old) ≡ true
last_end capacity u k m entry old e lt sizes = ap is_end (last_end_is capacity u k m entry old e lt) ∙ eq-eqb _ 0xFFFF (typed_type 0xFFFF (entry_on u m) (omega (arith, sizes m lt)))

-- the live slot of a name, and the change of it
pub changed_is_set : (n : ℕ) (header : List ℕ) (slots : List (List ℕ)) (name : List ℕ) (change : List ℕ → List ℕ) → IsLegal n header slots
    → has_file slots name ≡ true
    → (place_named name slots < length slots) × (is_live_named name (get_or slots (place_named name slots) []) ≡ true)
    × (set slots (place_named name slots) (change (get_or slots (place_named name slots) [])) ≡ with_slot name change slots)
changed_is_set n header slots name change legal there =
    let found = position_tells [] (is_live_named name) slots there in
    (found.0, found.1, sym (with_slot_at n header slots name change (place_named name slots) legal found.0 found.1))

-- ---- the slots

module _ (n : ℕ) (t : Tape) (v : Volume) (on : IsOn n t v) where
  abbrev start : ℕ
  start = directory_start v.header

  abbrev room : ℕ
  room = directory_length v.header

  fits : start + room ≤ n
  fits = omega (arith, on.ends)

  pub on_header : (k : ℕ) → entry_from t start k ≡ entry_on t k
  on_header k = ap (λ (h : List ℕ). entry_from t (directory_start h) k) on.header

  -- each slot is where it stands on the tape
  pub slot_here : (k : ℕ) → k < length v.slots → entry_from t start k ≡ get_or v.slots k []
  slot_here k lt = on_header k ∙ sym (slot_at t k (subst (λ (xs : List (List ℕ)). k < length xs) on.slots lt)) ∙ sym (ap (λ (xs : List (List ℕ)). get_or xs k []) on.slots)

  -- all that the directory has room for have 32 bytes
  pub entry_on_size : (k : ℕ) → k < capacity_of v.header → length (entry_on t k) ≡ 32
  entry_on_size k lt =
      let column : k % 8 < 8 = omega arith in
      ap (λ (e : List ℕ). length e) (sym (on_header k)) ∙ entry_size (record_at t (slot_record start k)) (k % 8) (on.tape.bytes (slot_record start k) (omega (arith, lt, on.ends))) column

  -- after the last slot the directory ends, or is full
  pub end_behind : length v.slots < capacity_of v.header → is_end (entry_from t start (length v.slots)) ≡ true
  end_behind lt =
      let all : List (List ℕ) = entries_from t start room in
      let same : v.slots ≡ before_end all = on.slots ∙ sym (ap (λ (h : List ℕ). before_end (entries_from t (directory_start h) (directory_length h))) on.header) in
      let size : length v.slots ≡ length (before_end all) = ap (λ (xs : List (List ℕ)). length xs) same in
      ap is_end (sym (entry_of_all t start room (length v.slots) lt)) ∙ ap (λ (m : ℕ). is_end (get_or all m [])) size ∙ stops all (omega (arith, size, lt, entries_count t start room))

  pub header_stays : (ws : SlotWrites) → AreEntries (capacity_of v.header) ws → record_at (with_slots start ws t) 0 ≡ record_at t 0
  header_stays ws are = slots_elsewhere start ws t 0 (untouched start room ws 0 are (inl on.starts))

  -- The slots of the tape after the writes: those that were written, and the others as before, up
  -- to an end or to the end of the room.
  pub slots_become : (ws : SlotWrites) (later : List (List ℕ)) → AreEntries (capacity_of v.header) ws → length later ≤ capacity_of v.header
      → ((k : ℕ) → k < length later → last_written ws k (entry_from t start k) ≡ get_or later k [])
      → ((k : ℕ) → k < length later → is_end (get_or later k []) ≡ false)
      → (length later < capacity_of v.header → is_end (last_written ws (length later) (entry_from t start (length later))) ≡ true)
      → slots_of (with_slots start ws t) ≡ later
  slots_become ws later are le each kinds last =
      let x : Tape = with_slots start ws t in
      let all : List (List ℕ) = entries_from x start room in
      let count : length all ≡ 8 * room = entries_count x start room in
      let at : (k : ℕ) → k < 8 * room → get_or all k [] ≡ last_written ws k (entry_from t start k) = λ k lt. entry_of_all x start room k lt ∙ slot_written start n room ws t k on.tape fits are lt in
      let size : length (take (length later) all) ≡ length later = length-take-le (length later) all (omega (arith, count, le)) in
      ap (λ (h : List ℕ). before_end (entries_from x (directory_start h) (directory_length h))) (header_stays ws are ∙ sym on.header)
      ∙ before_end_at all (length later) (omega (arith, count, le)) (λ k lt. ap is_end (at k (omega (arith, lt, le)) ∙ each k lt) ∙ kinds k lt) (λ lt. ap is_end (at (length later) (omega (arith, lt, count))) ∙ last (omega (arith, lt, count)))
      ∙ ext_get_or [] (take (length later) all) later size (λ k lt.
      let less : k < length later = omega (arith, lt, size) in
      get_or-take (length later) all k [] less ∙ at k (omega (arith, less, le)) ∙ each k less)

  -- one slot that is there
  pub slot_set : (i : ℕ) (entry : List ℕ) → i < length v.slots → length entry ≡ 32 → is_end entry ≡ false
      → slots_of (with_slots start ((i, entry) ∷ []) t) ≡ set v.slots i entry
  slot_set i entry lt size kind =
      let count : length (set v.slots i entry) ≡ length v.slots = length-set v.slots i entry in
      slots_become ((i, entry) ∷ []) (set v.slots i entry) (omega (arith, lt, on.volume.room), size, tt) (omega (arith, count, on.volume.room))
      (λ k less. each k (omega (arith, less, count)) (cases_eq i k)) (λ k less. live k (omega (arith, less, count)) (cases_eq k i))
      (λ less.
      let off : i == length (set v.slots i entry) ≡ false = ne_eqb i (length (set v.slots i entry)) (λ e. absurd (omega (arith, e, count, lt))) in
      ap (λ (b : Bool). is_end (if b then entry else entry_from t start (length (set v.slots i entry)))) off ∙ ap (λ (m : ℕ). is_end (entry_from t start m)) count ∙ end_behind (omega (arith, less, count)))
    where
      each : (k : ℕ) → k < length v.slots → (i ≡ k) ⊎ (i ≡ k → ⊥)
          → (if i == k then entry else entry_from t start k) ≡ get_or (set v.slots i entry) k []
      each k less (inl e) = ap (λ (b : Bool). if b then entry else entry_from t start k) (eq-eqb i k e) ∙ sym (get_or-set_same v.slots i entry [] lt) ∙ ap (λ (j : ℕ). get_or (set v.slots i entry) j []) e
      each k less (inr ne) = ap (λ (b : Bool). if b then entry else entry_from t start k) (ne_eqb i k ne) ∙ slot_here k less ∙ sym (get_or-set_other v.slots i k entry [] (λ e. ne (sym e)))

      live : (k : ℕ) → k < length v.slots → (k ≡ i) ⊎ (k ≡ i → ⊥) → is_end (get_or (set v.slots i entry) k []) ≡ false
      live k less (inl e) = ap (λ (j : ℕ). is_end (get_or (set v.slots i entry) j [])) e ∙ ap is_end (get_or-set_same v.slots i entry [] lt) ∙ kind
      live k less (inr ne) = ap is_end (get_or-set_other v.slots i k entry [] ne) ∙ on.volume.kinds k less

  module _ (u : Tape) (sizes : (j : ℕ) → j < capacity_of v.header → length (entry_on u j) ≡ 32) (entry : List ℕ) (size : length entry ≡ 32) (kind : is_end entry ≡ false) where
    -- one slot more
    pub slot_push : length v.slots < capacity_of v.header
        → slots_of (with_slots start (last_slot (capacity_of v.header) u (length v.slots) entry) t) ≡ v.slots ++ entry ∷ []
    slot_push lt =
        slots_become (last_slot (capacity_of v.header) u (length v.slots) entry) (v.slots ++ entry ∷ []) (last_entries (capacity_of v.header) u (length v.slots) entry sizes lt size) (omega (arith, count, lt))
        (λ k less. each k less (cases_eq k (length v.slots))) (λ k less. live k less (cases_eq k (length v.slots)))
        (λ less. last_end (capacity_of v.header) u (length v.slots) (length (v.slots ++ entry ∷ [])) entry (entry_from t start (length (v.slots ++ entry ∷ []))) (omega (arith, count)) less sizes)
      where
        count : length (v.slots ++ entry ∷ []) ≡ length v.slots + 1
        count = length_push v.slots entry

        has : HasNew v.slots (v.slots ++ entry ∷ []) (length v.slots) entry (λ k. k)
        has = push_new v.slots entry

        each : (k : ℕ) → k < length (v.slots ++ entry ∷ []) → (k ≡ length v.slots) ⊎ (k ≡ length v.slots → ⊥)
            → last_written (last_slot (capacity_of v.header) u (length v.slots) entry) k (entry_from t start k) ≡ get_or (v.slots ++ entry ∷ []) k []
        each k less (inl e) =
            ap (λ (j : ℕ). last_written (last_slot (capacity_of v.header) u (length v.slots) entry) j (entry_from t start k)) e
            ∙ last_here (capacity_of v.header) u (length v.slots) entry (entry_from t start k) ∙ sym (ap (λ (j : ℕ). get_or (v.slots ++ entry ∷ []) j []) e ∙ has.here)
        each k less (inr ne) =
            let found = has.others k less ne in
            last_before (capacity_of v.header) u (length v.slots) entry k (entry_from t start k) found.0 ∙ slot_here k found.0 ∙ sym found.1

        live : (k : ℕ) → k < length (v.slots ++ entry ∷ []) → (k ≡ length v.slots) ⊎ (k ≡ length v.slots → ⊥)
            → is_end (get_or (v.slots ++ entry ∷ []) k []) ≡ false
        live k less (inl e) = ap is_end (ap (λ (j : ℕ). get_or (v.slots ++ entry ∷ []) j []) e ∙ has.here) ∙ kind
        live k less (inr ne) = let found = has.others k less ne in ap is_end found.1 ∙ on.volume.kinds k found.0

    -- one slot before the last
    pub slot_insert : (r : ℕ) → suc r ≡ length v.slots → length v.slots < capacity_of v.header
        → slots_of (with_slots start ((r, entry) ∷ last_slot (capacity_of v.header) u (suc r) (get_or v.slots r [])) t) ≡ insert v.slots r entry
    slot_insert r last lt =
        slots_become ((r, entry) ∷ last_slot (capacity_of v.header) u (suc r) moved) (insert v.slots r entry)
        (omega (arith, last, lt), size, last_entries (capacity_of v.header) u (suc r) moved sizes (omega (arith, last, lt)) (on.volume.entries r (omega (arith, last)))) (omega (arith, count, lt))
        (λ k less. each k (omega (arith, less, count, last)) (cases_eq k r) (cases_lt k (suc r))) (λ k less. live k less (cases_eq k r))
        (λ less. last_end (capacity_of v.header) u (suc r) (length (insert v.slots r entry)) moved (if r == length (insert v.slots r entry) then entry else entry_from t start (length (insert v.slots r entry)))
        (omega (arith, count, last)) less sizes)
      where
        moved : List ℕ
        moved = get_or v.slots r []

        within : r ≤ length v.slots
        within = omega (arith, last)

        count : length (insert v.slots r entry) ≡ length v.slots + 1
        count = length-insert v.slots r entry within

        has : HasNew v.slots (insert v.slots r entry) r entry (before_insert r)
        has = insert_new v.slots r entry within

        each : (k : ℕ) → k < suc (suc r) → (k ≡ r) ⊎ (k ≡ r → ⊥) → (k < suc r) ⊎ (suc r ≤ k)
            → last_written (last_slot (capacity_of v.header) u (suc r) moved) k (if r == k then entry else entry_from t start k) ≡ get_or (insert v.slots r entry) k []
        each k less (inl e) under =
            last_before (capacity_of v.header) u (suc r) moved k (if r == k then entry else entry_from t start k) (omega (arith, e))
            ∙ ap (λ (b : Bool). if b then entry else entry_from t start k) (eq-eqb r k (sym e)) ∙ sym (ap (λ (j : ℕ). get_or (insert v.slots r entry) j []) e ∙ has.here)
        each k less (inr ne) (inl under) =
            let before : k < r = omega (arith, under, ne) in
            last_before (capacity_of v.header) u (suc r) moved k (if r == k then entry else entry_from t start k) under
            ∙ ap (λ (b : Bool). if b then entry else entry_from t start k) (ne_eqb r k (λ e. ne (sym e))) ∙ slot_here k (omega (arith, before, last))
            ∙ sym (get_or-insert_below v.slots r entry [] k before within)
        each k less (inr ne) (inr over) =
            let at : k ≡ suc r = omega (arith, over, less) in
            ap (λ (j : ℕ). last_written (last_slot (capacity_of v.header) u (suc r) moved) j (if r == k then entry else entry_from t start k)) at
            ∙ last_here (capacity_of v.header) u (suc r) moved (if r == k then entry else entry_from t start k)
            ∙ sym (ap (λ (j : ℕ). get_or (insert v.slots r entry) j []) (omega (arith, at)) ∙ get_or-insert_above v.slots r entry [] r (omega arith) within)

        live : (k : ℕ) → k < length (insert v.slots r entry) → (k ≡ r) ⊎ (k ≡ r → ⊥) → is_end (get_or (insert v.slots r entry) k []) ≡ false
        live k less (inl e) = ap is_end (ap (λ (j : ℕ). get_or (insert v.slots r entry) j []) e ∙ has.here) ∙ kind
        live k less (inr ne) = let found = has.others k less ne in ap is_end found.1 ∙ on.volume.kinds (before_insert r k) found.0
