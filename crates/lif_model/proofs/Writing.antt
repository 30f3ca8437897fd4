-- Slots written into a directory: what they leave of each record and of each slot, and the changes
-- that write them.
use Rattle.std.proofs.Common.{◌≡◌, ◌≢◌, ◌⊎◌, ◌<◌, ◌≤◌, ◌+◌, ◌-◌, ◌*◌, ◌%◌, ◌++◌, ℕ, List, [], ◌∷◌, Bool, true, false, not, if◌then◌else◌, length, get_or, set, take, drop, filter, inl, inr, refl, sym, ◌∙◌, ap, subst, arith, length-append, length-drop, length-set, get_or-take, get_or-drop, get_or-set_same, get_or-set_other}
use Rattle.std.specs.Prelude.{◌==◌, nat_eq, nat_lt}
use Rattle.std.specs.List.{list_all}
use Rattle.std.proofs.lemmas.Bool.{cases_eq, cases_lt, cases_Bool, and_parts, and_from, lt-ltb, le-leb, eq-eqb, ne_eqb, eqb-true, not_from_false, not_from_true}
use Rattle.std.proofs.lemmas.List.{ext_get_or, length-take-le, get_or_append_left, get_or-append_right}
use Rattle.lif_model.specs.Tape.{Tape, IsTape, record_at}
use Rattle.lif_model.specs.Directory.{entry_at}
use Rattle.lif_model.specs.Pairs.{all_pairs}
use Rattle.lif_model.specs.declared.version.Version.{Version}
use Rattle.lif_model.specs.Redo.{redo_start, most_targets, are_targets, Changes, targets_in, changed}
use Rattle.lif_model.specs.Commit.{AreChanges}
use Rattle.lif_model.specs.Writing.{with_entry, slot_record, entry_from, SlotWrites, with_slots, touched, records_on, changes_by}
use Rattle.lif_model.proofs.Directory.{entry_size, set_shape}
use Rattle.lif_model.proofs.History.{record_behind}

-- ---- one entry of one record

pub entry_byte : (bytes : List ℕ) (k i : ℕ) → i < 32 → get_or (entry_at bytes k) i 0 ≡ get_or bytes (32 * k + i) 0
unfolding entry_at
entry_byte bytes k i lt = get_or-take 32 (drop (32 * k) bytes) i 0 lt ∙ get_or-drop (32 * k) bytes i 0

module _ (bytes : List ℕ) (k : ℕ) (entry : List ℕ) (whole : length bytes ≡ 256) (column : k < 8) (size : length entry ≡ 32) where
  front_size : length (take (32 * k) bytes) ≡ 32 * k
  front_size = length-take-le (32 * k) bytes (omega (arith, whole, column))

  -- the record keeps its length
  pub entry_keeps_size : length (with_entry bytes k entry) ≡ 256
  unfolding with_entry
  entry_keeps_size =
      let all : length (take (32 * k) bytes ++ (entry ++ drop (32 * k + 32) bytes)) ≡ length (take (32 * k) bytes) + length (entry ++ drop (32 * k + 32) bytes) = length-append (take (32 * k) bytes) (entry ++ drop (32 * k + 32) bytes) in
      let rest : length (entry ++ drop (32 * k + 32) bytes) ≡ length entry + length (drop (32 * k + 32) bytes) = length-append entry (drop (32 * k + 32) bytes) in
      all ∙ omega (arith, rest, front_size, size, length-drop (32 * k + 32) bytes, whole, column)

  byte_before : (i : ℕ) → i < 32 * k → get_or (with_entry bytes k entry) i 0 ≡ get_or bytes i 0
  unfolding with_entry
  byte_before i lt = get_or_append_left (take (32 * k) bytes) (entry ++ drop (32 * k + 32) bytes) 0 i (omega (arith, lt, front_size)) ∙ get_or-take (32 * k) bytes i 0 lt

  byte_within : (i : ℕ) → i < 32 → get_or (with_entry bytes k entry) (32 * k + i) 0 ≡ get_or entry i 0
  unfolding with_entry
  byte_within i lt =
      get_or-append_right (take (32 * k) bytes) (entry ++ drop (32 * k + 32) bytes) (32 * k) (32 * k + i) 0 front_size (omega arith)
      ∙ ap (λ (j : ℕ). get_or (entry ++ drop (32 * k + 32) bytes) j 0) (omega arith)
      ∙ get_or_append_left entry (drop (32 * k + 32) bytes) 0 i (omega (arith, lt, size))

  byte_behind : (i : ℕ) → 32 * k + 32 ≤ i → get_or (with_entry bytes k entry) i 0 ≡ get_or bytes i 0
  unfolding with_entry
  byte_behind i le =
      get_or-append_right (take (32 * k) bytes) (entry ++ drop (32 * k + 32) bytes) (32 * k) i 0 front_size (omega (arith, le))
      ∙ get_or-append_right entry (drop (32 * k + 32) bytes) 32 (i - 32 * k) 0 size (omega (arith, le))
      ∙ get_or-drop (32 * k + 32) bytes (i - 32 * k - 32) 0 ∙ ap (λ (j : ℕ). get_or bytes j 0) (omega (arith, le))

  -- its entry k is the new one
  pub entry_here : entry_at (with_entry bytes k entry) k ≡ entry
  entry_here = ext_get_or 0 (entry_at (with_entry bytes k entry) k) entry (entry_size (with_entry bytes k entry) k entry_keeps_size column ∙ sym size) (λ i lt.
      let less : i < 32 = omega (arith, lt, entry_size (with_entry bytes k entry) k entry_keeps_size column) in
      entry_byte (with_entry bytes k entry) k i less ∙ byte_within i less)

  -- and every other one is as before
  pub entry_other : (j : ℕ) → j < 8 → j ≢ k → entry_at (with_entry bytes k entry) j ≡ entry_at bytes j
  entry_other j lt_j ne = ext_get_or 0 (entry_at (with_entry bytes k entry) j) (entry_at bytes j) (entry_size (with_entry bytes k entry) j entry_keeps_size lt_j ∙ sym (entry_size bytes j whole lt_j)) (λ i lt.
      let less : i < 32 = omega (arith, lt, entry_size (with_entry bytes k entry) j entry_keeps_size lt_j) in
      entry_byte (with_entry bytes k entry) j i less ∙ same i less (cases_lt j k) ∙ sym (entry_byte bytes j i less))
    where
      same : (i : ℕ) → i < 32 → (j < k) ⊎ (k ≤ j) → get_or (with_entry bytes k entry) (32 * j + i) 0 ≡ get_or bytes (32 * j + i) 0
      same i less (inl under) = byte_before (32 * j + i) (omega (arith, under, less))
      same i less (inr over) =
          let above : k < j = omega (arith, over, ne) in
          byte_behind (32 * j + i) (omega (arith, above))

-- ---- the writes

-- each slot is one of so many, and each new entry has 32 bytes
abbrev pub AreEntries : ℕ → SlotWrites → Type 0
AreEntries room [] = Unit {0}
AreEntries room (w ∷ ws) = (w.0 < room) × (length w.1 ≡ 32) × AreEntries room ws

-- record k is not touched
abbrev pub Untouched : ℕ → SlotWrites → ℕ → Type 0
Untouched start [] k = Unit {0}
Untouched start (w ∷ ws) k = (k ≢ slot_record start w.0) × Untouched start ws k

-- a record before the directory, or after that of so many slots, is not touched
pub untouched : (start room : ℕ) (ws : SlotWrites) (k : ℕ) → AreEntries (8 * room) ws → (k < start) ⊎ (start + room ≤ k) → Untouched start ws k
untouched start room [] k are out = tt
untouched start room (w ∷ ws) k are out = (λ e. apart e out, untouched start room ws k are.2 out)
  where
    apart : k ≡ slot_record start w.0 → (k < start) ⊎ (start + room ≤ k) → ⊥
    apart e (inl before) = absurd (omega (arith, e, before))
    apart e (inr behind) = absurd (omega (arith, e, behind, are.0))

-- the bytes of record k after the writes
abbrev pub rewritten : ℕ → SlotWrites → ℕ → List ℕ → List ℕ
rewritten start [] k bytes = bytes
rewritten start (w ∷ ws) k bytes = rewritten start ws k (if slot_record start w.0 == k then with_entry bytes (w.0 % 8) w.1 else bytes)

-- the bytes of slot k after the writes: the last that were written, or else those before
abbrev pub last_written : SlotWrites → ℕ → List ℕ → List ℕ
last_written [] k old = old
last_written (w ∷ ws) k old = last_written ws k (if w.0 == k then w.1 else old)

module _ (start : ℕ) where
  -- ---- records

  pub length_slots : (ws : SlotWrites) (t : Tape) → length (with_slots start ws t) ≡ length t
  length_slots [] t = refl
  length_slots (w ∷ ws) t = length_slots ws (set t (slot_record start w.0) (with_entry (record_at t (slot_record start w.0)) (w.0 % 8) w.1)) ∙ length-set t (slot_record start w.0) _

  pub slots_record : (ws : SlotWrites) (t : Tape) (k : ℕ) → k < length t → record_at (with_slots start ws t) k ≡ rewritten start ws k (record_at t k)
  slots_record [] t k lt = refl
  slots_record (w ∷ ws) t k lt =
      let r : ℕ = slot_record start w.0 in
      let bytes : List ℕ = with_entry (record_at t r) (w.0 % 8) w.1 in
      slots_record ws (set t r bytes) k (omega (arith, lt, length-set t r bytes)) ∙ ap (rewritten start ws k) (record_behind t r k bytes lt ∙ here (cases_Bool (r == k)))
    where
      here : (slot_record start w.0 == k ≡ true) ⊎ (slot_record start w.0 == k ≡ false)
          → (if slot_record start w.0 == k then with_entry (record_at t (slot_record start w.0)) (w.0 % 8) w.1 else record_at t k)
          ≡ (if slot_record start w.0 == k then with_entry (record_at t k) (w.0 % 8) w.1 else record_at t k)
      here (inl e) = ap (λ (j : ℕ). if slot_record start w.0 == k then with_entry (record_at t j) (w.0 % 8) w.1 else record_at t k) (eqb-true (slot_record start w.0) k e)
      here (inr e) =
          ap (λ (b : Bool). if b then with_entry (record_at t (slot_record start w.0)) (w.0 % 8) w.1 else record_at t k) e
          ∙ sym (ap (λ (b : Bool). if b then with_entry (record_at t k) (w.0 % 8) w.1 else record_at t k) e)

  -- a record that is not touched stays
  pub slots_elsewhere : (ws : SlotWrites) (t : Tape) (k : ℕ) → Untouched start ws k → record_at (with_slots start ws t) k ≡ record_at t k
  slots_elsewhere [] t k out = refl
  slots_elsewhere (w ∷ ws) t k out =
      slots_elsewhere ws (set t (slot_record start w.0) (with_entry (record_at t (slot_record start w.0)) (w.0 % 8) w.1)) k out.1
      ∙ get_or-set_other t (slot_record start w.0) k (with_entry (record_at t (slot_record start w.0)) (w.0 % 8) w.1) [] out.0

  -- a tape stays a tape
  pub slots_shape : (n room : ℕ) (ws : SlotWrites) (t : Tape) → IsTape n t → start + room ≤ n → AreEntries (8 * room) ws
      → IsTape n (with_slots start ws t)
  slots_shape n room [] t is le are = is
  slots_shape n room (w ∷ ws) t is le are =
      let r : ℕ = slot_record start w.0 in
      let column : w.0 % 8 < 8 = omega arith in
      slots_shape n room ws (set t r (with_entry (record_at t r) (w.0 % 8) w.1))
      (set_shape n t r (with_entry (record_at t r) (w.0 % 8) w.1) is (entry_keeps_size (record_at t r) (w.0 % 8) w.1 (is.bytes r (omega (arith, are.0, le))) column are.1)) le are.2

  -- ---- slots

  -- what one write leaves of the record of slot k, and of the slot
  abbrev Leaves : ℕ × List ℕ → ℕ → List ℕ → Type 0
  Leaves w k bytes = (length (if slot_record start w.0 == slot_record start k then with_entry bytes (w.0 % 8) w.1 else bytes) ≡ 256)
      × (entry_at (if slot_record start w.0 == slot_record start k then with_entry bytes (w.0 % 8) w.1 else bytes) (k % 8) ≡ (if w.0 == k then w.1 else entry_at bytes (k % 8)))

  slot_rewritten : (room : ℕ) (ws : SlotWrites) (k : ℕ) (bytes : List ℕ) → AreEntries room ws → length bytes ≡ 256
      → entry_at (rewritten start ws (slot_record start k) bytes) (k % 8) ≡ last_written ws k (entry_at bytes (k % 8))
  slot_rewritten room [] k bytes are whole = refl
  slot_rewritten room (w ∷ ws) k bytes are whole =
      let first = one (cases_eq w.0 k) (cases_eq (slot_record start w.0) (slot_record start k)) in
      slot_rewritten room ws k (if slot_record start w.0 == slot_record start k then with_entry bytes (w.0 % 8) w.1 else bytes) are.2 first.0 ∙ ap (last_written ws k) first.1
    where
      column : w.0 % 8 < 8
      column = omega arith

      by : (b c : Bool) → slot_record start w.0 == slot_record start k ≡ b → w.0 == k ≡ c
          → length (if b then with_entry bytes (w.0 % 8) w.1 else bytes) ≡ 256
          → entry_at (if b then with_entry bytes (w.0 % 8) w.1 else bytes) (k % 8) ≡ (if c then w.1 else entry_at bytes (k % 8)) → Leaves w k bytes
      by b c row same size is = (
        ap (λ (d : Bool). length (if d then with_entry bytes (w.0 % 8) w.1 else bytes)) row ∙ size,
        ap (λ (d : Bool). entry_at (if d then with_entry bytes (w.0 % 8) w.1 else bytes) (k % 8)) row ∙ is ∙ sym (ap (λ (d : Bool). if d then w.1 else entry_at bytes (k % 8)) same),
      )

      one : (w.0 ≡ k) ⊎ (w.0 ≡ k → ⊥) → (slot_record start w.0 ≡ slot_record start k) ⊎ (slot_record start w.0 ≡ slot_record start k → ⊥)
          → Leaves w k bytes
      one (inl e) (inr off) = absurd (off (ap (slot_record start) e))
      one (inl e) (inl row) = by true true (eq-eqb (slot_record start w.0) (slot_record start k) row) (eq-eqb w.0 k e) (entry_keeps_size bytes (w.0 % 8) w.1 whole column are.1)
          (ap (entry_at (with_entry bytes (w.0 % 8) w.1)) (ap (λ (j : ℕ). j % 8) (sym e)) ∙ entry_here bytes (w.0 % 8) w.1 whole column are.1)
      one (inr ne) (inl row) = by true false (eq-eqb (slot_record start w.0) (slot_record start k) row) (ne_eqb w.0 k ne) (entry_keeps_size bytes (w.0 % 8) w.1 whole column are.1)
          (entry_other bytes (w.0 % 8) w.1 whole column are.1 (k % 8) (omega arith) (λ e. ne (omega (arith, e, row))))
      one (inr ne) (inr off) = by false false (ne_eqb (slot_record start w.0) (slot_record start k) off) (ne_eqb w.0 k ne) whole refl

  -- a slot is what was last written of it, or else as before
  pub slot_written : (n room : ℕ) (ws : SlotWrites) (t : Tape) (k : ℕ) → IsTape n t → start + room ≤ n → AreEntries (8 * room) ws → k < 8 * room
      → entry_from (with_slots start ws t) start k ≡ last_written ws k (entry_from t start k)
  slot_written n room ws t k is le are lt =
      let within : slot_record start k < n = omega (arith, lt, le) in
      ap (λ (bytes : List ℕ). entry_at bytes (k % 8)) (slots_record ws t (slot_record start k) (omega (arith, within, is.records)))
      ∙ slot_rewritten (8 * room) ws k (record_at t (slot_record start k)) are (is.bytes (slot_record start k) within)

-- ---- the changes

-- numbers from low on and below high
abbrev pub AreWithin : ℕ → ℕ → List ℕ → Type 0
AreWithin low high [] = Unit {0}
AreWithin low high (k ∷ ks) = (low ≤ k) × (k < high) × AreWithin low high ks

-- numbers other than k
abbrev pub AreOther : List ℕ → ℕ → Type 0
AreOther [] k = Unit {0}
AreOther (j ∷ js) k = (k ≢ j) × AreOther js k

within_filter : (low high : ℕ) (test : ℕ → Bool) (ks : List ℕ) → AreWithin low high ks → AreWithin low high (filter test ks)
within_filter low high test [] within = tt
within_filter low high test (k ∷ ks) within = go (test k) (within_filter low high test ks within.2)
  where
    go : (b : Bool) → AreWithin low high (filter test ks) → AreWithin low high (if b then k ∷ filter test ks else filter test ks)
    go true rest = (within.0, within.1, rest)
    go false rest = rest

within_below : (low high q : ℕ) (ks : List ℕ) → high ≤ q → AreWithin low high ks → list_all (λ k. nat_lt k q) ks ≡ true
within_below low high q [] le within = refl
within_below low high q (k ∷ ks) le within = and_from (nat_lt k q) _ (lt-ltb k q (omega (arith, within.1, le))) (within_below low high q ks le within.2)

other_filter : (r : ℕ) (js : List ℕ) (k : ℕ) → k ≢ r → AreOther (filter (λ j. not (nat_eq j r)) js) k → AreOther js k
other_filter r [] k off others = tt
other_filter r (j ∷ js) k off others = go (nat_eq j r) refl others (λ rest. other_filter r js k off rest)
  where
    go : (b : Bool) → nat_eq j r ≡ b → AreOther (if not b then j ∷ filter (λ j. not (nat_eq j r)) js else filter (λ j. not (nat_eq j r)) js) k
        → (AreOther (filter (λ j. not (nat_eq j r)) js) k → AreOther js k) → (k ≢ j) × AreOther js k
    go true e others rest = (λ at. off (at ∙ eqb-true j r e), rest others)
    go false e others rest = (others.0, rest others.1)

-- ---- each once

abbrev pub are_two : ℕ → ℕ → Bool
are_two j k = not (nat_eq j k)

all_filter : (test pick : ℕ → Bool) (ks : List ℕ) → list_all test ks ≡ true → list_all test (filter pick ks) ≡ true
all_filter test pick [] all = refl
all_filter test pick (k ∷ ks) all = let both = and_parts (test k) _ all in go (pick k) both.0 (all_filter test pick ks both.1)
  where
    go : (b : Bool) → test k ≡ true → list_all test (filter pick ks) ≡ true → list_all test (if b then k ∷ filter pick ks else filter pick ks) ≡ true
    go true here rest = and_from (test k) _ here rest
    go false here rest = rest

pairs_filter : (pick : ℕ → Bool) (ks : List ℕ) → all_pairs are_two ks ≡ true → all_pairs are_two (filter pick ks) ≡ true
pairs_filter pick [] all = refl
pairs_filter pick (k ∷ ks) all = let both = and_parts (list_all (are_two k) ks) _ all in go (pick k) (all_filter (are_two k) pick ks both.0) (pairs_filter pick ks both.1)
  where
    go : (b : Bool) → list_all (are_two k) (filter pick ks) ≡ true → all_pairs are_two (filter pick ks) ≡ true
        → all_pairs are_two (if b then k ∷ filter pick ks else filter pick ks) ≡ true
    go true here rest = and_from (list_all (are_two k) (filter pick ks)) _ here rest
    go false here rest = rest

-- those that are left when r is taken out
left_out : (r : ℕ) (ks : List ℕ) → list_all (are_two r) (filter (λ k. not (nat_eq k r)) ks) ≡ true
left_out r [] = refl
left_out r (k ∷ ks) = go (nat_eq k r) refl (left_out r ks)
  where
    go : (b : Bool) → nat_eq k r ≡ b → list_all (are_two r) (filter (λ k. not (nat_eq k r)) ks) ≡ true
        → list_all (are_two r) (if not b then k ∷ filter (λ k. not (nat_eq k r)) ks else filter (λ k. not (nat_eq k r)) ks) ≡ true
    go true e rest = rest
    go false e rest = and_from (are_two r k) _ (not_from_false _ (ne_eqb r k (λ same. let both : true ≡ false = sym (eq-eqb k r (sym same)) ∙ e in cc))) rest

pub once : (start : ℕ) (ws : SlotWrites) → all_pairs are_two (touched start ws) ≡ true
once start [] = refl
once start (w ∷ ws) = and_from (list_all (are_two (slot_record start w.0)) _) _ (left_out (slot_record start w.0) (touched start ws))
    (pairs_filter (λ k. not (nat_eq k (slot_record start w.0))) (touched start ws) (once start ws))

pub apart_tell : (j k : ℕ) → are_two j k ≡ true → j ≢ k
apart_tell j k two e = let both : true ≡ false = sym two ∙ not_from_true _ (eq-eqb j k e) in cc

-- of two numbers that follow each other there are no more than two
no_more : (low : ℕ) (ks : List ℕ) → AreWithin low (low + 2) ks → all_pairs are_two ks ≡ true → length ks ≤ 2
no_more low [] within two = omega arith
no_more low (a ∷ []) within two = omega arith
no_more low (a ∷ b ∷ []) within two = omega arith
no_more low (a ∷ b ∷ c ∷ ks) within two =
    let first = and_parts (list_all (are_two a) (b ∷ c ∷ ks)) _ two in
    let of_a = and_parts (are_two a b) _ first.0 in
    let of_b = and_parts (list_all (are_two b) (c ∷ ks)) _ first.1 in
    absurd (omega (arith, within.0, within.1, within.2.0, within.2.1, within.2.2.0, within.2.2.1, apart_tell a b of_a.0, apart_tell a c (and_parts (are_two a c) _ of_a.1).0, apart_tell b c (and_parts (are_two b c) _ of_b.0).0))

-- ---- of the writes

-- the records of the writes are from low on and below high
abbrev pub WritesWithin : ℕ → ℕ → ℕ → SlotWrites → Type 0
WritesWithin start low high [] = Unit {0}
WritesWithin start low high (w ∷ ws) = (low ≤ slot_record start w.0) × (slot_record start w.0 < high) × WritesWithin start low high ws

writes_within : (start room : ℕ) (ws : SlotWrites) → AreEntries (8 * room) ws → WritesWithin start start (start + room) ws
writes_within start room [] are = tt
writes_within start room (w ∷ ws) are = (omega arith, omega (arith, are.0), writes_within start room ws are.2)

touched_within : (start low high : ℕ) (ws : SlotWrites) → WritesWithin start low high ws → AreWithin low high (touched start ws)
touched_within start low high [] within = tt
touched_within start low high (w ∷ ws) within = (within.0, within.1, within_filter low high _ (touched start ws) (touched_within start low high ws within.2))

-- slots of two records that follow each other touch no more than these
pub touches_two : (start low : ℕ) (ws : SlotWrites) → WritesWithin start low (low + 2) ws → length (touched start ws) ≤ 2
touches_two start low ws within = no_more low (touched start ws) (touched_within start low (low + 2) ws within) (once start ws)

pub others_untouched : (start : ℕ) (ws : SlotWrites) (k : ℕ) → AreOther (touched start ws) k → Untouched start ws k
others_untouched start [] k others = tt
others_untouched start (w ∷ ws) k others = (others.0, others_untouched start ws k (other_filter (slot_record start w.0) (touched start ws) k others.0 others.1))

-- ---- what the changes make

-- each of these records as on u makes u of a tape that differs from it in no other record
pub changed_to : (ks : List ℕ) (u t : Tape) → length u ≡ length t → ((k : ℕ) → k < length t → AreOther ks k → record_at u k ≡ record_at t k)
    → changed (records_on u ks) t ≡ u
changed_to [] u t size same = sym (ext_get_or [] u t size (λ k lt. same k (omega (arith, lt, size)) tt))
changed_to (j ∷ ks) u t size same = changed_to ks u (set t j (record_at u j)) (size ∙ sym (length-set t j (record_at u j))) (λ k lt others. elim (cases_eq k j) [
  | inl e ↦
      let within : j < length t = omega (arith, lt, e, length-set t j (record_at u j)) in
      ap (record_at u) e ∙ sym (get_or-set_same t j (record_at u j) [] within) ∙ sym (ap (record_at (set t j (record_at u j))) e)
  | inr ne ↦ same k (omega (arith, lt, length-set t j (record_at u j))) (ne, others) ∙ sym (get_or-set_other t j k (record_at u j) [] ne)
])

records_agree : (low high : ℕ) (ks : List ℕ) (x y : Tape) → AreWithin low high ks → ((k : ℕ) → low ≤ k → k < high → record_at x k ≡ record_at y k)
    → records_on x ks ≡ records_on y ks
records_agree low high [] x y within same = refl
records_agree low high (k ∷ ks) x y within same =
    let here : record_at x k ≡ record_at y k = same k within.0 within.1 in
    let rest : records_on x ks ≡ records_on y ks = records_agree low high ks x y within.2 same in
    λ i. (k, here i) ∷ rest i

pub targets_are : (ks : List ℕ) (t : Tape) → targets_in (records_on t ks) ≡ ks
targets_are [] t = refl
targets_are (k ∷ ks) t = ap (λ (js : List ℕ). k ∷ js) (targets_are ks t)

module _ (start room : ℕ) (ws : SlotWrites) (are : AreEntries (8 * room) ws) where
  -- The changes that writes of slots make, also of a tape that differs outside the directory from
  -- the one that they are told of.
  pub changes_write : (n : ℕ) (t u : Tape) → start + room ≤ n → length t ≡ n → length u ≡ n
      → ((k : ℕ) → start ≤ k → k < start + room → record_at u k ≡ record_at t k)
      → changed (changes_by start ws t) u ≡ with_slots start ws u
  changes_write n t u le size_t size_u same =
      ap (λ (cs : Changes). changed cs u) (records_agree start (start + room) (touched start ws) (with_slots start ws t) (with_slots start ws u) (touched_within start start (start + room) ws (writes_within start room ws are))
      (λ k low high. slots_record start ws t k (omega (arith, high, le, size_t)) ∙ sym (ap (rewritten start ws k) (same k low high)) ∙ sym (slots_record start ws u k (omega (arith, high, le, size_u)))))
      ∙ changed_to (touched start ws) (with_slots start ws u) u (length_slots start ws u) (λ k lt others. slots_elsewhere start ws u k (others_untouched start ws k others))

  -- one commit takes them, where there are no more of them than the version takes and the directory
  -- ends before the redo file
  pub changes_are : (version : Version) (n : ℕ) (t : Tape) → 0 < length ws → length (touched start ws) ≤ most_targets version
      → start + room ≤ redo_start version n
      → AreChanges version n (changes_by start ws t)
  changes_are version n t some few below =
      subst (λ (ks : List ℕ). are_targets version n ks ≡ true) (sym (targets_are (touched start ws) (with_slots start ws t)))
      (and_from _ _ (at_least_one ws some) (and_from _ _ (le-leb (length (touched start ws)) (most_targets version) few) (and_from _ _
      (within_below start (start + room) (redo_start version n) (touched start ws) below (touched_within start start (start + room) ws (writes_within start room ws are)))
      (once start ws))))
    where
      at_least_one : (ws : SlotWrites) → 0 < length ws → nat_lt 0 (length (touched start ws)) ≡ true
      at_least_one [] some = absurd (omega (arith, some))
      at_least_one (w ∷ ws) some = lt-ltb 0 (length (touched start (w ∷ ws))) (omega arith)
