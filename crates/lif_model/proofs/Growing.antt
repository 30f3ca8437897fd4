-- Slot writes, one after the other: how the changes grow with each, and that the records of files may be written before.
use Rattle.std.proofs.Common.{◌≡◌, ◌≢◌, ◌<◌, ◌%◌, ◌++◌, ◌||◌, ◌⊎◌, ℕ, zero, suc, nat_eq, List, [], ◌∷◌, Bool, true, false, not, if◌then◌else◌, length, get_or, set, filter, inl, inr, refl, sym, ◌∙◌, ap, arith, append-nil, get_or-set_same, get_or-set_other}
use Rattle.std.specs.List.{list_all, list_any}
use Rattle.std.proofs.lemmas.Bool.{cases_eq, and_parts, eqb-true, eq-eqb, ne_eqb, or_parts}
use Rattle.std.proofs.lemmas.List.{length-map}
use Rattle.lif_model.specs.Tape.{Tape, record_at}
use Rattle.lif_model.specs.Pairs.{all_pairs}
use Rattle.lif_model.specs.Redo.{Changes}
use Rattle.lif_model.specs.Writing.{with_entry, slot_record, SlotWrites, with_slots, touched, records_on, changes_by}
use Rattle.lif_model.proofs.Lists.{any_from, none_from}
use Rattle.lif_model.proofs.Writing.{AreOther, are_two, apart_tell, once, others_untouched, slots_elsewhere, length_slots}

-- more writes are written on the tape with the first ones
pub with_more : (start : ℕ) (ws more : SlotWrites) (t : Tape) → with_slots start (ws ++ more) t ≡ with_slots start more (with_slots start ws t)
with_more start [] more t = refl
with_more start (w ∷ ws) more t = with_more start ws more (set t (slot_record start w.0) (with_entry (record_at t (slot_record start w.0)) (w.0 % 8) w.1))

-- ---- one write more

-- a number stands in a list, or each of the list is another
abbrev pub is_among : List ℕ → ℕ → Bool
is_among ks r = list_any (λ k. nat_eq k r) ks

none_other : (ks : List ℕ) (r : ℕ) → is_among ks r ≡ false → AreOther ks r
none_other [] r none = tt
none_other (k ∷ ks) r none =
    let parts = or_parts (nat_eq k r) (is_among ks r) none in
    ((λ e. let both : true ≡ false = sym (eq-eqb k r (sym e)) ∙ parts.0 in cc), none_other ks r parts.1)

among_filter : (q : ℕ) (ks : List ℕ) (r : ℕ) → r ≢ q → is_among (filter (λ k. not (nat_eq k q)) ks) r ≡ is_among ks r
among_filter q [] r off = refl
among_filter q (k ∷ ks) r off = go (nat_eq k q) refl (among_filter q ks r off)
  where
    go : (b : Bool) → nat_eq k q ≡ b → is_among (filter (λ k. not (nat_eq k q)) ks) r ≡ is_among ks r
        → is_among (if not b then k ∷ filter (λ k. not (nat_eq k q)) ks else filter (λ k. not (nat_eq k q)) ks) r ≡ (nat_eq k r || is_among ks r)
    go true e rest = rest ∙ sym (ap (λ (b : Bool). b || is_among ks r) (ne_eqb k r (λ same. off (sym same ∙ eqb-true k q e))))
    go false e rest = ap (λ (b : Bool). nat_eq k r || b) rest

filter_push : (test : ℕ → Bool) (ks : List ℕ) (r : ℕ) → filter test (ks ++ r ∷ []) ≡ filter test ks ++ (if test r then r ∷ [] else [])
filter_push test [] r = refl
filter_push test (k ∷ ks) r = go (test k) (filter_push test ks r)
  where
    go : (b : Bool) → filter test (ks ++ r ∷ []) ≡ filter test ks ++ (if test r then r ∷ [] else [])
        → (if b then k ∷ filter test (ks ++ r ∷ []) else filter test (ks ++ r ∷ [])) ≡ (if b then k ∷ filter test ks else filter test ks) ++ (if test r then r ∷ [] else [])
    go true rest = ap (λ (js : List ℕ). k ∷ js) rest
    go false rest = rest

-- a record that was touched before is not touched again, and any other one after those
pub touched_more : (start : ℕ) (ws : SlotWrites) (w : ℕ × List ℕ)
    → touched start (ws ++ w ∷ []) ≡ touched start ws ++ (if is_among (touched start ws) (slot_record start w.0) then [] else slot_record start w.0 ∷ [])
touched_more start [] w = refl
touched_more start (v ∷ ws) w = ap (λ (ks : List ℕ). q ∷ filter (λ k. not (nat_eq k q)) ks) (touched_more start ws w) ∙ go (cases_eq r q) (is_among (touched start ws) r) refl
  where
    q : ℕ
    q = slot_record start v.0

    r : ℕ
    r = slot_record start w.0

    go : (r ≡ q) ⊎ (r ≡ q → ⊥) → (b : Bool) → is_among (touched start ws) r ≡ b
        → q ∷ filter (λ k. not (nat_eq k q)) (touched start ws ++ (if is_among (touched start ws) r then [] else r ∷ []))
        ≡ (q ∷ filter (λ k. not (nat_eq k q)) (touched start ws)) ++ (if nat_eq q r || is_among (filter (λ k. not (nat_eq k q)) (touched start ws)) r then [] else r ∷ [])
    go same b among =
        ap (λ (c : Bool). q ∷ filter (λ k. not (nat_eq k q)) (ks ++ (if c then [] else r ∷ []))) among ∙ ap (λ (js : List ℕ). q ∷ js) (left b same)
        ∙ sym (ap (λ (js : List ℕ). q ∷ (filter (λ k. not (nat_eq k q)) ks ++ js)) (right b among same))
      where
        ks : List ℕ
        ks = touched start ws

        -- what is after the rest: nothing, where the record was touched, or it is the first one
        behind : Bool → (r ≡ q) ⊎ (r ≡ q → ⊥) → List ℕ
        behind true same = []
        behind false (inl e) = []
        behind false (inr ne) = r ∷ []

        left : (b : Bool) (same : (r ≡ q) ⊎ (r ≡ q → ⊥))
            → filter (λ k. not (nat_eq k q)) (ks ++ (if b then [] else r ∷ [])) ≡ filter (λ k. not (nat_eq k q)) ks ++ behind b same
        left true same = ap (filter (λ k. not (nat_eq k q))) (append-nil ks) ∙ sym (append-nil (filter (λ k. not (nat_eq k q)) ks))
        left false (inl e) = filter_push (λ k. not (nat_eq k q)) ks r ∙ ap (λ (c : Bool). filter (λ k. not (nat_eq k q)) ks ++ (if not c then r ∷ [] else [])) (eq-eqb r q e)
        left false (inr ne) = filter_push (λ k. not (nat_eq k q)) ks r ∙ ap (λ (c : Bool). filter (λ k. not (nat_eq k q)) ks ++ (if not c then r ∷ [] else [])) (ne_eqb r q ne)

        right : (b : Bool) → is_among ks r ≡ b → (same : (r ≡ q) ⊎ (r ≡ q → ⊥))
            → (if nat_eq q r || is_among (filter (λ k. not (nat_eq k q)) ks) r then [] else r ∷ []) ≡ behind b same
        right true among (inl e) = ap (λ (c : Bool). if c || is_among (filter (λ k. not (nat_eq k q)) ks) r then [] else r ∷ []) (eq-eqb q r (sym e))
        right false among (inl e) = ap (λ (c : Bool). if c || is_among (filter (λ k. not (nat_eq k q)) ks) r then [] else r ∷ []) (eq-eqb q r (sym e))
        right true among (inr ne) = ap (λ (c : Bool). if nat_eq q r || c then [] else r ∷ []) (among_filter q ks r ne ∙ among) ∙ ap (λ (c : Bool). if c || true then [] else r ∷ []) (ne_eqb q r (λ e. ne (sym e)))
        right false among (inr ne) = ap (λ (c : Bool). if nat_eq q r || c then [] else r ∷ []) (among_filter q ks r ne ∙ among) ∙ ap (λ (c : Bool). if c || false then [] else r ∷ []) (ne_eqb q r (λ e. ne (sym e)))

-- ---- what the changes are then

-- each record of a list but one is the same on two tapes
records_same : (r : ℕ) (ks : List ℕ) (x y : Tape) → AreOther ks r → ((k : ℕ) → k ≢ r → record_at y k ≡ record_at x k)
    → records_on y ks ≡ records_on x ks
records_same r [] x y others same = refl
records_same r (k ∷ ks) x y others same =
    let here : record_at y k ≡ record_at x k = same k (λ e. others.0 (sym e)) in
    let rest : records_on y ks ≡ records_on x ks = records_same r ks x y others.1 same in
    λ i. (k, here i) ∷ rest i

all_other : (k : ℕ) (ks : List ℕ) → list_all (are_two k) ks ≡ true → AreOther ks k
all_other k [] all = tt
all_other k (j ∷ ks) all = let both = and_parts (are_two k j) (list_all (are_two k) ks) all in (apart_tell k j both.0, all_other k ks both.1)

other_at : (ks : List ℕ) (r p : ℕ) → AreOther ks r → p < length ks → get_or ks p 0 ≢ r
other_at [] r p others lt = absurd (omega (arith, lt))
other_at (k ∷ ks) r zero others lt = λ e. others.0 (sym e)
other_at (k ∷ ks) r (suc p) others lt = other_at ks r p others.1 (omega (arith, lt))

records_set : (r : ℕ) (bytes : List ℕ) (ks : List ℕ) (p : ℕ) (x y : Tape) → all_pairs are_two ks ≡ true → p < length ks → get_or ks p 0 ≡ r
    → record_at y r ≡ bytes → ((k : ℕ) → k ≢ r → record_at y k ≡ record_at x k)
    → records_on y ks ≡ set (records_on x ks) p (r, bytes)
records_set r bytes [] p x y two lt at here same = absurd (omega (arith, lt))
records_set r bytes (k ∷ ks) zero x y two lt at here same =
    let both = and_parts (list_all (are_two k) ks) _ two in
    let first : record_at y k ≡ bytes = ap (record_at y) at ∙ here in
    let rest : records_on y ks ≡ records_on x ks = records_same k ks x y (all_other k ks both.0) (λ j ne. same j (λ e. ne (e ∙ sym at))) in
    λ i. (at i, first i) ∷ rest i
records_set r bytes (k ∷ ks) (suc p) x y two lt at here same =
    let both = and_parts (list_all (are_two k) ks) _ two in
    let off : k ≢ r = λ e. other_at ks k p (all_other k ks both.0) (omega (arith, lt)) (at ∙ sym e) in
    let first : record_at y k ≡ record_at x k = same k off in
    let rest : records_on y ks ≡ set (records_on x ks) p (r, bytes) = records_set r bytes ks p x y both.1 (omega (arith, lt)) at here same in
    λ i. (k, first i) ∷ rest i

records_push : (ks : List ℕ) (r : ℕ) (x : Tape) → records_on x (ks ++ r ∷ []) ≡ records_on x ks ++ (r, record_at x r) ∷ []
records_push [] r x = refl
records_push (k ∷ ks) r x = ap (λ (cs : Changes). (k, record_at x k) ∷ cs) (records_push ks r x)

record_on : (ks : List ℕ) (p : ℕ) (x : Tape) → p < length ks → (get_or (records_on x ks) p (0, [])).1 ≡ record_at x (get_or ks p 0)
record_on [] p x lt = absurd (omega (arith, lt))
record_on (k ∷ ks) zero x lt = refl
record_on (k ∷ ks) (suc p) x lt = record_on ks p x (omega (arith, lt))

number_on : (ks : List ℕ) (p : ℕ) (x : Tape) → p < length ks → (get_or (records_on x ks) p (0, [])).0 ≡ get_or ks p 0
number_on [] p x lt = absurd (omega (arith, lt))
number_on (k ∷ ks) zero x lt = refl
number_on (k ∷ ks) (suc p) x lt = number_on ks p x (omega (arith, lt))

module _ (start : ℕ) (ws : SlotWrites) (w : ℕ × List ℕ) (u : Tape) (within : slot_record start w.0 < length u) where
  abbrev r : ℕ
  r = slot_record start w.0

  abbrev before : Tape
  before = with_slots start ws u

  abbrev after : Tape
  after = with_slots start (ws ++ w ∷ []) u

  after_is : after ≡ set before r (with_entry (record_at before r) (w.0 % 8) w.1)
  after_is = with_more start ws (w ∷ []) u

  there : record_at after r ≡ with_entry (record_at before r) (w.0 % 8) w.1
  there = ap (λ (t : Tape). record_at t r) after_is ∙ get_or-set_same before r (with_entry (record_at before r) (w.0 % 8) w.1) [] (omega (arith, within, length_slots start ws u))

  elsewhere : (k : ℕ) → k ≢ r → record_at after k ≡ record_at before k
  elsewhere k ne = ap (λ (t : Tape). record_at t k) after_is ∙ get_or-set_other before r k (with_entry (record_at before r) (w.0 % 8) w.1) [] ne

  abbrev numbers : List ℕ
  numbers = touched start ws

  count : length (changes_by start ws u) ≡ length numbers
  count = length-map numbers (λ k. (k, record_at before k))

  -- One slot more, in a record that was touched before: the change of that record gets the entry.
  pub changes_again : (p : ℕ) → p < length (changes_by start ws u) → (get_or (changes_by start ws u) p (0, [])).0 ≡ r
      → changes_by start (ws ++ w ∷ []) u ≡ set (changes_by start ws u) p (r, with_entry (get_or (changes_by start ws u) p (0, [])).1 (w.0 % 8) w.1)
  changes_again p lt at =
      let less : p < length numbers = omega (arith, lt, count) in
      let number : get_or numbers p 0 ≡ r = sym (number_on numbers p before less) ∙ at in
      let among : is_among numbers r ≡ true = any_from 0 (λ k. nat_eq k r) numbers p less (eq-eqb (get_or numbers p 0) r number) in
      let same : touched start (ws ++ w ∷ []) ≡ numbers = touched_more start ws w ∙ ap (λ (b : Bool). numbers ++ (if b then [] else r ∷ [])) among ∙ append-nil numbers in
      let bytes : record_at before r ≡ (get_or (changes_by start ws u) p (0, [])).1 = sym (record_on numbers p before less ∙ ap (record_at before) number) in
      ap (records_on after) same ∙ records_set r (with_entry (record_at before r) (w.0 % 8) w.1) numbers p before after (once start ws) less number there elsewhere
      ∙ ap (λ (bs : List ℕ). set (changes_by start ws u) p (r, with_entry bs (w.0 % 8) w.1)) bytes

  -- And in another one: a change more, with the record as it stood.
  pub changes_new : ((p : ℕ) → p < length (changes_by start ws u) → (get_or (changes_by start ws u) p (0, [])).0 ≢ r)
      → changes_by start (ws ++ w ∷ []) u ≡ changes_by start ws u ++ (r, with_entry (record_at u r) (w.0 % 8) w.1) ∷ []
  changes_new off =
      let none : is_among numbers r ≡ false = none_from 0 (λ k. nat_eq k r) numbers (λ p lt. ne_eqb (get_or numbers p 0) r (λ e. off p (omega (arith, lt, count)) (number_on numbers p before lt ∙ e))) in
      let others : AreOther numbers r = none_other numbers r none in
      let same : touched start (ws ++ w ∷ []) ≡ numbers ++ r ∷ [] = touched_more start ws w ∙ ap (λ (b : Bool). numbers ++ (if b then [] else r ∷ [])) none in
      let last : record_at after r ≡ with_entry (record_at u r) (w.0 % 8) w.1 = there ∙ ap (λ (bs : List ℕ). with_entry bs (w.0 % 8) w.1) (slots_elsewhere start ws u r (others_untouched start ws r others)) in
      ap (records_on after) same ∙ records_push numbers r after ∙ (λ i. records_same r numbers before after others elsewhere i ++ (r, last i) ∷ [])
