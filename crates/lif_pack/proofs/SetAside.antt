-- Records of the directory that are set aside with the slots in memory: what the changes write, and what becomes of the slots.
use Rattle.std.proofs.Common.{◌≡◌, ◌≢◌, ◌⊎◌, ◌<◌, ◌≤◌, ◌+◌, ◌-◌, ◌*◌, ◌/◌, ◌%◌, ◌++◌, ◌==◌, nat_eq, not, ℕ, zero, suc, List, [], ◌∷◌, Bool, true, false, if◌then◌else◌, Option, Some, length, get_or, set, filter, min, inl, inr, refl, sym, ◌∙◌, ap, subst, arith, length-set}
use Rattle.std.proofs.lemmas.Bool.{cases_eq, cases_lt, eq-eqb, ne_eqb, not_from_false}
use Rattle.std.proofs.lemmas.List.{ext_get_or}
use Rattle.std.proofs.Math.Nat.{min-eq_left, min-eq_right}
use Rattle.lif_model.specs.Tape.{Tape, IsTape, record_at}
use Rattle.lif_model.specs.Directory.{entry_at}
use Rattle.lif_model.specs.Redo.{Changes, targets_in}
use Rattle.lif_model.specs.Writing.{SlotWrites, IsSlotWritten, slot_record, entry_from, with_entry, with_slots, touched, records_on}
use Rattle.lif_model.proofs.Directory.{entry_size}
use Rattle.lif_model.proofs.Writing.{AreEntries, AreOther, Untouched, last_written, entry_byte, entry_other, slots_elsewhere, slots_shape, slot_written, others_untouched}
use Rattle.lif_commit.specs.Staged.{IsStagedAs, AreBefore, HoldsSlots}
use Rattle.lif_commit.proofs.Staging.{none_staged, before_leave, before_more, before_append}
use Rattle.lif_model.specs.Packing.{slots_after}
use Rattle.lif_pack.specs.Steps.{StayBut, AreAmong, AreSetAside, HasRecord}
use Rattle.lif_pack.proofs.Carrying.{targets_append}
use Rattle.lif_pack.proofs.ClosedTape.{before_wider, entries_of, last_after}

-- ---- so many slots, from slot k on

abbrev pub slots_from : List (List ℕ) → ℕ → ℕ → SlotWrites
slots_from slots k zero = []
slots_from slots k (suc count) = (k, get_or slots k []) ∷ slots_from slots (suc k) count

among_from : (slots : List (List ℕ)) (k count : ℕ) → AreAmong slots (slots_from slots k count)
among_from slots k zero = tt
among_from slots k (suc count) = (refl, among_from slots (suc k) count)

before_from : (slots : List (List ℕ)) (k count : ℕ) → k + count ≤ length slots → ((j : ℕ) → k ≤ j → j < k + count → length (get_or slots j []) ≡ 32)
    → AreBefore (length slots) (length slots) (slots_from slots k count)
before_from slots k zero le sizes = tt
before_from slots k (suc count) le sizes =
    (omega (arith, le), omega (arith, le), sizes k (omega arith) (omega arith), before_from slots (suc k) count (omega (arith, le)) (λ j low high. sizes j (omega (arith, low)) (omega (arith, high))))

written_from : (slots : List (List ℕ)) (k count j : ℕ) → k ≤ j → j < k + count → IsSlotWritten (slots_from slots k count) j
written_from slots k zero j low high = absurd (omega (arith, low, high))
written_from slots k (suc count) j low high = elim (cases_eq j k) [
  | inl e ↦ inl e
  | inr ne ↦ inr (written_from slots (suc k) count j (omega (arith, low, ne)) (omega (arith, high)))
]

-- ---- writes one after the other

among_append : (slots : List (List ℕ)) (ws more : SlotWrites) → AreAmong slots ws → AreAmong slots more → AreAmong slots (ws ++ more)
among_append slots [] more are others = others
among_append slots (w ∷ ws) more are others = (are.0, among_append slots ws more are.1 others)

pub written_later : (ws more : SlotWrites) (k : ℕ) → IsSlotWritten more k → IsSlotWritten (ws ++ more) k
written_later [] more k is = is
written_later (w ∷ ws) more k is = inr (written_later ws more k is)

pub written_before : (ws more : SlotWrites) (k : ℕ) → IsSlotWritten ws k → IsSlotWritten (ws ++ more) k
written_before [] more k is = absurd is
written_before (w ∷ ws) more k (inl e) = inl e
written_before (w ∷ ws) more k (inr is) = inr (written_before ws more k is)

-- a slot that is written, or that held this before, is this one
last_among : (slots : List (List ℕ)) (ws : SlotWrites) (k : ℕ) (old : List ℕ) → AreAmong slots ws → (old ≡ get_or slots k []) ⊎ IsSlotWritten ws k
    → last_written ws k old ≡ get_or slots k []
last_among slots [] k old are (inl e) = e
last_among slots [] k old are (inr is) = absurd is
last_among slots (w ∷ ws) k old are how =
    last_among slots ws k (if w.0 == k then w.1 else old) are.1 (one (cases_eq w.0 k) how)
  where
    one : (w.0 ≡ k) ⊎ (w.0 ≡ k → ⊥) → (old ≡ get_or slots k []) ⊎ ((k ≡ w.0) ⊎ IsSlotWritten ws k)
        → ((if w.0 == k then w.1 else old) ≡ get_or slots k []) ⊎ IsSlotWritten ws k
    one (inl e) how = inl (ap (λ (b : Bool). if b then w.1 else old) (eq-eqb w.0 k e) ∙ are.0 ∙ ap (λ (j : ℕ). get_or slots j []) e)
    one (inr ne) (inl held) = inl (ap (λ (b : Bool). if b then w.1 else old) (ne_eqb w.0 k ne) ∙ held)
    one (inr ne) (inr (inl e)) = absurd (ne (sym e))
    one (inr ne) (inr (inr is)) = inr is

-- ---- which records they touch

keep_last : (p : ℕ → Bool) (ks : List ℕ) (row : ℕ) → p row ≡ true → filter p (ks ++ row ∷ []) ≡ filter p ks ++ row ∷ []
keep_last p [] row on = ap (λ (b : Bool). if b then row ∷ [] else []) on
keep_last p (k ∷ ks) row on = go (p k) (keep_last p ks row on)
  where
    go : (b : Bool) → filter p (ks ++ row ∷ []) ≡ filter p ks ++ row ∷ []
        → (if b then k ∷ filter p (ks ++ row ∷ []) else filter p (ks ++ row ∷ [])) ≡ (if b then k ∷ filter p ks else filter p ks) ++ row ∷ []
    go true rest = ap (λ (js : List ℕ). k ∷ js) rest
    go false rest = rest

-- one record more
touched_more : (start row : ℕ) (ws more : SlotWrites) → Untouched start ws row → touched start more ≡ row ∷ [] → touched start (ws ++ more) ≡ touched start ws ++ row ∷ []
touched_more start row [] more off one = one
touched_more start row (w ∷ ws) more off one =
    ap (λ (ks : List ℕ). slot_record start w.0 ∷ filter (λ k. not (nat_eq k (slot_record start w.0))) ks) (touched_more start row ws more off.1 one)
    ∙ ap (λ (ks : List ℕ). slot_record start w.0 ∷ ks)
    (keep_last (λ k. not (nat_eq k (slot_record start w.0))) (touched start ws) row (not_from_false _ (ne_eqb row (slot_record start w.0) off.0)))

-- slots of one record
touched_one : (start i k count : ℕ) (slots : List (List ℕ)) → k + suc count ≤ 8 → touched start (slots_from slots (8 * i + k) (suc count)) ≡ (start + i) ∷ []
touched_one start i k zero slots le = let at : (8 * i + k) / 8 ≡ i = omega (arith, le) in ap (λ (m : ℕ). (start + m) ∷ []) at
touched_one start i k (suc count) slots le =
    let at : (8 * i + k) / 8 ≡ i = omega (arith, le) in
    let next : suc (8 * i + k) ≡ 8 * i + suc k = omega arith in
    ap (λ (ks : List ℕ). slot_record start (8 * i + k) ∷ filter (λ j. not (nat_eq j (slot_record start (8 * i + k)))) ks)
    (ap (λ (m : ℕ). touched start (slots_from slots m (suc count))) next ∙ touched_one start i (suc k) count slots (omega (arith, le)))
    ∙ (λ q. (start + at q) ∷ filter (λ j. not (nat_eq j (start + at q))) ((start + i) ∷ []))
    ∙ ap (λ (b : Bool). (start + i) ∷ (if not b then (start + i) ∷ [] else [])) (eq-eqb (start + i) (start + i) refl)

other_targets : (cs : Changes) (row : ℕ) → ((p : ℕ) → p < length cs → (get_or cs p (0, [])).0 < row) → AreOther (targets_in cs) row
other_targets [] row below = tt
other_targets (c ∷ cs) row below =
    let here : c.0 < row = below 0 (omega arith) in
    ((λ e. absurd (omega (arith, e, here))), other_targets cs row (λ p lt. below (suc p) (omega (arith, lt))))

on_others : (ks : List ℕ) (x y : Tape) (row : ℕ) → AreOther ks row → ((k : ℕ) → k ≢ row → record_at x k ≡ record_at y k) → records_on x ks ≡ records_on y ks
on_others [] x y row others same = refl
on_others (k ∷ ks) x y row others same =
    let here : record_at x k ≡ record_at y k = same k (λ e. others.0 (sym e)) in
    let rest : records_on x ks ≡ records_on y ks = on_others ks x y row others.1 same in
    λ i. (k, here i) ∷ rest i

on_more : (ks : List ℕ) (x : Tape) (row : ℕ) → records_on x (ks ++ row ∷ []) ≡ records_on x ks ++ (row, record_at x row) ∷ []
on_more [] x row = refl
on_more (k ∷ ks) x row = ap (λ (cs : Changes). (k, record_at x k) ∷ cs) (on_more ks x row)

slots_all : (first : ℕ) (ws more : SlotWrites) (t : Tape) → with_slots first (ws ++ more) t ≡ with_slots first more (with_slots first ws t)
slots_all first [] more t = refl
slots_all first (w ∷ ws) more t = slots_all first ws more (set t (slot_record first w.0) (with_entry (record_at t (slot_record first w.0)) (w.0 % 8) w.1))

-- one record more is set aside
staged_more : (first row : ℕ) (tape : Option Tape) (ws more : SlotWrites) (old : Changes) (bytes : List ℕ) → IsStagedAs first tape (λ x. ws) old
    → ((p : ℕ) → p < length old → (get_or old p (0, [])).0 < row) → touched first more ≡ row ∷ []
    → ((t : Tape) → tape ≡ Some t → bytes ≡ record_at (with_slots first (ws ++ more) t) row) → IsStagedAs first tape (λ x. ws ++ more) (old ++ (row, bytes) ∷ [])
staged_more first row tape ws more old bytes staged below one is = record {
  targets = λ x. targets_append old ((row, bytes) ∷ []) ∙ ap (λ (ks : List ℕ). ks ++ row ∷ []) (staged.targets x) ∙ sym touches;
  contents = λ t told.
      let u : Tape = with_slots first (ws ++ more) t in
      (λ q. staged.contents t told q ++ (row, is t told q) ∷ [])
      ∙ ap (λ (cs : Changes). cs ++ (row, record_at u row) ∷ []) (on_others (touched first ws) (with_slots first ws t) u row others (λ k ne.
      sym (ap (λ (x : Tape). record_at x k) (slots_all first ws more t) ∙ slots_elsewhere first more (with_slots first ws t) k (apart k ne))))
      ∙ sym (on_more (touched first ws) u row) ∙ ap (records_on u) (sym touches);
}
  where
    others : AreOther (touched first ws) row
    others = subst (λ (ks : List ℕ). AreOther ks row) (staged.targets []) (other_targets old row below)

    touches : touched first (ws ++ more) ≡ touched first ws ++ row ∷ []
    touches = touched_more first row ws more (others_untouched first ws row others) one

    apart : (k : ℕ) → k ≢ row → Untouched first more k
    apart k ne = others_untouched first more k (subst (λ (ks : List ℕ). AreOther ks k) (sym one) (ne, tt))

-- ---- what it holds

-- two records with the same entries are one
same_entries : (a b : List ℕ) → length a ≡ 256 → length b ≡ 256 → ((k : ℕ) → k < 8 → entry_at a k ≡ entry_at b k) → a ≡ b
same_entries a b wide long same = ext_get_or 0 a b (wide ∙ sym long) (λ i lt.
    let k : ℕ = i / 32 in
    let j : ℕ = i % 32 in
    let at : 32 * k + j ≡ i = omega arith in
    ap (λ (m : ℕ). get_or a m 0) (sym at) ∙ sym (entry_byte a k j (omega arith)) ∙ ap (λ (e : List ℕ). get_or e j 0) (same k (omega (arith, lt, wide)))
    ∙ entry_byte b k j (omega arith) ∙ ap (λ (m : ℕ). get_or b m 0) at)

-- the record has the slots in memory, and where it has more than these, they are as on the tape
module _ (n first i count : ℕ) (slots : List (List ℕ)) (ws : SlotWrites) (t : Tape) (bytes : List ℕ) (is : IsTape n t) (below : first + length slots / 8 < n)
    (some : 8 * i < length slots) (all : 8 * i + count ≤ length slots) (end : (length slots ≤ 8 * i + count) ⊎ (count ≡ 8))
    (before : AreBefore (length slots) (length slots) ws) where
  abbrev u : Tape
  u = with_slots first ws t

  quotient : (k : ℕ) → k < 8 → (8 * i + k) / 8 ≡ i
  quotient k lt = omega (arith, lt)

  column : (k : ℕ) → k < 8 → (8 * i + k) % 8 ≡ k
  column k lt = omega (arith, lt)

  at : (x : Tape) (k : ℕ) → k < 8 → entry_from x first (8 * i + k) ≡ entry_at (record_at x (first + i)) k
  at x k lt = λ d. entry_at (record_at x (first + quotient k lt d)) (column k lt d)

  wide : AreBefore (8 * (n - first)) (length slots) ws
  wide = before_wider (length slots) (8 * (n - first)) (length slots) ws (omega (arith, below)) before

  entries : AreEntries (8 * (n - first)) ws
  entries = entries_of (8 * (n - first)) (length slots) ws wide

  inside : first + i < n
  inside = omega (arith, below, some)

  shape : IsTape n u
  shape = slots_shape first n (n - first) ws t is (omega (arith, below)) entries

  record_made : AreAmong slots ws → HasRecord slots i ws → HoldsSlots slots i count bytes
      → ((k : ℕ) → count ≤ k → k < 8 → entry_at bytes k ≡ entry_at (record_at t (first + i)) k) → bytes ≡ record_at u (first + i)
  record_made among has holds rest =
      same_entries bytes (record_at u (first + i)) holds.size (shape.bytes (first + i) inside) (λ k lt. elim (cases_lt k count) [
        | inl less ↦
            holds.entries k less
            ∙ sym (last_among slots ws (8 * i + k) (entry_from t first (8 * i + k)) among (inr (has (8 * i + k) (omega (arith, less, all)) (quotient k lt))))
            ∙ sym (slot_written first n (n - first) ws t (8 * i + k) is (omega (arith, below)) entries (omega (arith, below, all, less))) ∙ at u k lt
        | inr more ↦
            let past : length slots ≤ 8 * i + k = elim end [ inl le ↦ omega (arith, le, more) | inr full ↦ absurd (omega (arith, full, more, lt)) ] in
            rest k more lt ∙ sym (at t k lt)
            ∙ sym (before_leave first n (8 * i + k) ws t is (omega (arith, inside, quotient k lt)) (before_more (8 * (n - first)) (length slots) (8 * i + k) ws past wide)) ∙ at u k lt
      ])

-- a record more is set aside with its slots
module _ (n first i count : ℕ) (tape : Option Tape) (slots : List (List ℕ)) (ws : SlotWrites) (old : Changes) (was bytes : List ℕ)
    (tapes : (t : Tape) → tape ≡ Some t → IsTape n t) (below : first + length slots / 8 < n) (all : 8 * i + count ≤ length slots) (some : 0 < count) (few : count ≤ 8)
    (end : (length slots ≤ 8 * i + count) ⊎ (count ≡ 8)) (holds : HoldsSlots slots i count bytes) where
  abbrev more : SlotWrites
  more = slots_from slots (8 * i) count

  sizes : (j : ℕ) → 8 * i ≤ j → j < 8 * i + count → length (get_or slots j []) ≡ 32
  sizes j low high =
      let at : 8 * i + (j - 8 * i) ≡ j = omega (arith, low) in
      ap (λ (m : ℕ). length (get_or slots m [])) (sym at) ∙ ap (λ (e : List ℕ). length e) (sym (holds.entries (j - 8 * i) (omega (arith, low, high))))
      ∙ entry_size bytes (j - 8 * i) holds.size (omega (arith, low, high, few))

  has : HasRecord slots i more
  has k lt at = written_from slots (8 * i) count k (omega (arith, at)) (elim end [ inl le ↦ omega (arith, lt, le) | inr full ↦ omega (arith, at, full) ])

  one_record : (count : ℕ) → count ≤ 8 → 0 < count → touched first (slots_from slots (8 * i) count) ≡ (first + i) ∷ []
  one_record zero few some = absurd (omega (arith, some))
  one_record (suc c) few some =
      let here : 8 * i ≡ 8 * i + 0 = omega arith in
      ap (λ (m : ℕ). touched first (slots_from slots m (suc c))) here ∙ touched_one first i 0 c slots (omega (arith, few))

  pub set_aside_more : ((p : ℕ) → p < length old → (get_or old p (0, [])).0 < first + i)
      → ((k : ℕ) → count ≤ k → k < 8 → entry_at bytes k ≡ entry_at was k) → (count < 8 → (t : Tape) → tape ≡ Some t → was ≡ record_at t (first + i))
      → AreSetAside first tape slots ws old
      → (more : SlotWrites) × AreSetAside first tape slots (ws ++ more) (old ++ (first + i, bytes) ∷ []) × HasRecord slots i more
  set_aside_more fresh rest read aside =
      let before = before_append (length slots) (length slots) ws more aside.before (before_from slots (8 * i) count all sizes) in
      let among = among_append slots ws more aside.among (among_from slots (8 * i) count) in (
        more,
        record {
          staged = staged_more first (first + i) tape ws more old bytes aside.staged fresh (one_record count few some) (λ t told.
              record_made n first i count slots (ws ++ more) t bytes (tapes t told) below (omega (arith, all, some)) all end before among
              (λ k lt at. written_later ws more k (has k lt at)) holds
              (λ k low lt. rest k low lt ∙ ap (λ (b : List ℕ). entry_at b k) (read (omega (arith, low, lt)) t told)));
          before = before;
          among = among;
        },
        has,
      )

-- on the same tape, with the same slots
pub aside_same : (first : ℕ) (tape later : Option Tape) (slots now : List (List ℕ)) (ws : SlotWrites) (cs : Changes) → later ≡ tape → now ≡ slots
    → AreSetAside first tape slots ws cs → AreSetAside first later now ws cs
aside_same first tape later slots now ws cs same still aside =
    subst (λ (o : Option Tape). AreSetAside first o now ws cs) (sym same) (subst (λ (xs : List (List ℕ)). AreSetAside first tape xs ws cs) (sym still) aside)

pub none_aside : (first : ℕ) (tape : Option Tape) (slots : List (List ℕ)) (cs : Changes) → cs ≡ [] → AreSetAside first tape slots [] cs
none_aside first tape slots cs none = record { staged = none_staged first tape cs none; before = tt; among = tt }

-- how many slots of a record there are, from slot k on
pub few_in_record : (all k count : ℕ) → count ≡ min 8 (all - k) → k < all → (k + count ≤ all) × (0 < count) × (count ≤ 8) × ((all ≤ k + count) ⊎ (count ≡ 8))
few_in_record all k count is lt = elim (cases_lt (all - k) 8) [
  | inl less ↦ let here : count ≡ all - k = is ∙ min-eq_right {n = all - k} {m = 8} (omega (arith, less)) in
      (omega (arith, here, lt), omega (arith, here, lt), omega (arith, here, less), inl (omega (arith, here, lt)))
  | inr le ↦ let here : count ≡ 8 = is ∙ min-eq_left {n = 8} {m = all - k} le in
      (omega (arith, here, le, lt), omega (arith, here), omega (arith, here), inr here)
]

-- ---- one slot more is put into a record

pub slot_put : (k : ℕ) (was bytes entry : List ℕ) → k < 8 → length entry ≡ 32
    → ((j : ℕ) → k ≤ j → j < 8 → entry_at bytes j ≡ entry_at was j) → length bytes ≡ 256
    → (j : ℕ) → k + 1 ≤ j → j < 8 → entry_at (with_entry bytes k entry) j ≡ entry_at was j
slot_put k was bytes entry lt size rest wide j low high = entry_other bytes k entry wide lt size j high (λ e. absurd (omega (arith, e, low))) ∙ rest j (omega (arith, low)) high

-- ---- what becomes of the slots

length_after : (ws : SlotWrites) (slots : List (List ℕ)) → length (slots_after ws slots) ≡ length slots
length_after [] slots = refl
length_after (w ∷ ws) slots = length_after ws (set slots w.0 w.1) ∙ length-set slots w.0 w.1

-- each slot is written, or is the same
become_those : (old new : List (List ℕ)) (ws : SlotWrites) → length new ≡ length old → AreAmong new ws
    → ((k : ℕ) → k < length new → (get_or old k [] ≡ get_or new k []) ⊎ IsSlotWritten ws k) → slots_after ws old ≡ new
become_those old new ws long among each =
    ext_get_or [] (slots_after ws old) new (length_after ws old ∙ sym long) (λ k lt.
    let less : k < length old = omega (arith, lt, length_after ws old) in
    sym (last_after ws old k less) ∙ last_among new ws k (get_or old k []) among (each k (omega (arith, less, long))))

-- where the records of all slots that may have changed are written
closed_each : (front next until i : ℕ) (old new : List (List ℕ)) (ws : SlotWrites) → StayBut front next (8 * i) until old new → until ≤ 8 * i + 8 → next ≤ until
    → next + 8 * i ≤ front + until → HasRecord new (front / 8) ws → HasRecord new ((next - 1) / 8) ws → HasRecord new i ws
    → (k : ℕ) → k < length new → (get_or old k [] ≡ get_or new k []) ⊎ IsSlotWritten ws k
closed_each front next until i old new ws stay few within count low high last k lt = elim (cases_lt k (8 * i)) [
  | inl before ↦ elim (cases_lt k front) [
    | inl under ↦ inl (sym (stay k (inl under) (inl before)))
    | inr over ↦ elim (cases_lt k next) [
      | inl less ↦ elim (cases_eq (k / 8) (front / 8)) [
        | inl e ↦ inr (low k lt e)
        | inr ne ↦ inr (high k lt (omega (arith, ne, over, less, few, count)))
      ]
      | inr more ↦ inl (sym (stay k (inr more) (inl before)))
    ]
  ]
  | inr from ↦ elim (cases_lt k until) [
    | inl less ↦ inr (last k lt (omega (arith, from, less, few)))
    | inr more ↦ inl (sym (stay k (inr (omega (arith, more, within))) (inr more)))
  ]
]

-- so the slots before become those in memory
pub closed_becomes : (first front next until i : ℕ) (tape : Option Tape) (old new : List (List ℕ)) (ws : SlotWrites) (cs : Changes) → StayBut front next (8 * i) until old new
    → until ≤ 8 * i + 8 → next ≤ until → next + 8 * i ≤ front + until → length new ≡ length old → AreSetAside first tape new ws cs
    → HasRecord new (front / 8) ws → HasRecord new ((next - 1) / 8) ws → HasRecord new i ws → AreBefore (length old) (length old) ws × (slots_after ws old ≡ new)
closed_becomes first front next until i tape old new ws cs stay few within count long aside low high last = (
  subst (λ (m : ℕ). AreBefore m m ws) long aside.before,
  become_those old new ws long aside.among (closed_each front next until i old new ws stay few within count low high last),
)
