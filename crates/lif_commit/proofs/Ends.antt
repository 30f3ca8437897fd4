-- The record with the end of a directory: what is known of it, and what a commit makes of it.
use Rattle.std.proofs.Common.{◌≡◌, ◌≢◌, ◌<◌, ◌≤◌, ◌+◌, ◌*◌, ◌/◌, ◌%◌, ◌++◌, ℕ, zero, suc, List, [], ◌∷◌, length, get_or, inl, inr, refl, sym, ap, subst, ◌∙◌, arith}
use Rattle.std.proofs.lemmas.Bool.{cases_lt, cases_eq}
use Rattle.std.proofs.lemmas.List.{ext_get_or}
use Rattle.lif_model.specs.Tape.{Tape, record_at}
use Rattle.lif_model.specs.Directory.{entry_at}
use Rattle.lif_model.specs.declared.version.Version.{Version}
use Rattle.lif_model.specs.Redo.{Changes, changed, redo_start}
use Rattle.lif_model.specs.Commit.{IsCommitted}
use Rattle.lif_model.specs.Writing.{SlotWrites, with_entry, slot_record, with_slots, touched, records_on, changes_by}
use Rattle.lif_model.proofs.Writing.{AreOther, Untouched, entry_byte, entry_keeps_size, entry_here, entry_other, changed_to, length_slots, slots_elsewhere, others_untouched}
use Rattle.lif_dir.specs.declared.change.Change.{Change}
use Rattle.lif_dir.specs.Changes.{AreInTurn, all_writes, count_with_all}
use Rattle.lif_commit.specs.Staged.{Knows, EndsWith, HoldsSlots, KeepsLast}
use Rattle.lif_commit.proofs.Turns.{end_is_put, count_grows}

-- ---- a record by its entries

-- two records with the same entries are one
same_entries : (a b : List ℕ) → length a ≡ 256 → length b ≡ 256 → ((k : ℕ) → k < 8 → entry_at a k ≡ entry_at b k) → a ≡ b
same_entries a b wide long same = ext_get_or 0 a b (wide ∙ sym long) (λ i lt.
    let k : ℕ = i / 32 in
    let j : ℕ = i % 32 in
    let at : 32 * k + j ≡ i = omega arith in
    ap (λ (m : ℕ). get_or a m 0) (sym at) ∙ sym (entry_byte a k j (omega arith)) ∙ ap (λ (e : List ℕ). get_or e j 0) (same k (omega (arith, lt, wide)))
    ∙ entry_byte b k j (omega arith) ∙ ap (λ (m : ℕ). get_or b m 0) at)

-- one slot more is put into it
pub one_slot_more : (slots : List (List ℕ)) (i k : ℕ) (bytes entry : List ℕ) → k < 8 → length entry ≡ 32 → entry ≡ get_or slots (8 * i + k) []
    → HoldsSlots slots i k bytes → HoldsSlots slots i (k + 1) (with_entry bytes k entry)
one_slot_more slots i k bytes entry lt size is holds = record {
  size = entry_keeps_size bytes k entry holds.size lt size;
  entries = λ j less. elim (cases_eq j k) [
    | inl e ↦ ap (entry_at (with_entry bytes k entry)) e ∙ entry_here bytes k entry holds.size lt size ∙ is ∙ ap (λ (m : ℕ). get_or slots (8 * i + m) []) (sym e)
    | inr ne ↦ entry_other bytes k entry holds.size lt size j (omega (arith, less, lt)) ne ∙ holds.entries j (omega (arith, less, ne))
  ];
}

pub known_record : (start size i : ℕ) (slots : List (List ℕ)) (last bytes : List ℕ) (t : Tape) → Knows start size slots last t → 8 * i + 8 ≤ length slots
    → length (record_at t (start + i)) ≡ 256 → HoldsSlots slots i 8 bytes → bytes ≡ record_at t (start + i)
known_record start size i slots last bytes t knows all wide holds =
    same_entries bytes (record_at t (start + i)) holds.size wide (λ k lt.
    holds.entries k lt ∙ knows.each (8 * i + k) (omega (arith, all, lt))
    ∙ (λ d. entry_at (record_at t (start + quotient k lt d)) (rest k lt d)))
  where
    quotient : (k : ℕ) → k < 8 → (8 * i + k) / 8 ≡ i
    quotient k lt = omega (arith, lt)

    rest : (k : ℕ) → k < 8 → (8 * i + k) % 8 ≡ k
    rest k lt = omega (arith, lt)

-- ---- after a commit

content_of : (u : Tape) (ks : List ℕ) (p : ℕ) → p < length (records_on u ks) → (get_or (records_on u ks) p (0, [])).1 ≡ record_at u (get_or (records_on u ks) p (0, [])).0
content_of u [] p lt = absurd (omega (arith, lt))
content_of u (k ∷ ks) zero lt = refl
content_of u (k ∷ ks) (suc p) lt = content_of u ks p (omega (arith, lt))

none_is : (u : Tape) (ks : List ℕ) (n : ℕ) → ((p : ℕ) → p < length (records_on u ks) → (get_or (records_on u ks) p (0, [])).0 ≢ n) → AreOther ks n
none_is u [] n off = tt
none_is u (k ∷ ks) n off = ((λ e. off 0 (omega arith) (sym e)), none_is u ks n (λ p lt. off (suc p) (omega (arith, lt))))

-- a slot that is written touches its record
touches : (start : ℕ) (ws more : SlotWrites) (k n : ℕ) (bytes : List ℕ) → n ≡ slot_record start k → Untouched start (ws ++ (k, bytes) ∷ more) n → ⊥
touches start [] more k n bytes at others = others.0 at
touches start (w ∷ ws) more k n bytes at others = touches start ws more k n bytes at others.1

pub ends_kept : (version : Version) (start size : ℕ) (slots later : List (List ℕ)) (changes : List Change) (cs : Changes) (old new : List ℕ) (t u : Tape)
    → Knows start size slots old t → AreInTurn (8 * size) slots changes later → start + size ≤ redo_start version (length t)
    → cs ≡ changes_by start (all_writes start changes t) t → IsCommitted version cs t u
    → KeepsLast (start + count_with_all (length slots) changes / 8) cs old new → EndsWith start size (count_with_all (length slots) changes) new u
ends_kept version start size slots later changes cs old new t u knows turn below are done keeps short = by keeps
  where
    count : ℕ
    count = count_with_all (length slots) changes

    ws : SlotWrites
    ws = all_writes start changes t

    y : Tape
    y = with_slots start ws t

    n : ℕ
    n = start + count / 8

    -- what the commit left of that record
    stands : record_at y n ≡ record_at u n
    stands = sym (done.below n (omega (arith, short, below)) ∙ ap (λ (ds : Changes). record_at (changed ds t) n) are
        ∙ ap (λ (x : Tape). record_at x n) (changed_to (touched start ws) y t (length_slots start ws t) (λ k lt others. slots_elsewhere start ws t k (others_untouched start ws k others))))

    by : KeepsLast n cs old new → new ≡ record_at u n
    by (inl there) =
        let lt : there.0 < length (records_on y (touched start ws)) = omega (arith, there.1, ap length are) in
        there.3 ∙ ap (λ (ds : Changes). (get_or ds there.0 (0, [])).1) are ∙ content_of y (touched start ws) there.0 lt
        ∙ ap (record_at y) (sym (ap (λ (ds : Changes). (get_or ds there.0 (0, [])).0) are) ∙ there.2) ∙ stands
    by (inr nowhere) =
        let untouched : Untouched start ws n = others_untouched start ws n (none_is y (touched start ws) n (λ p lt e. nowhere.0 p (omega (arith, lt, ap length are)) (ap (λ (ds : Changes). (get_or ds p (0, [])).0) are ∙ e))) in
        elim (cases_lt (length slots) count) [
          | inl grown ↦
              let put = end_is_put (8 * size) start slots later changes t turn grown short in
              absurd (touches start put.0 put.1 count n put.2 refl (subst (λ (vs : SlotWrites). Untouched start vs n) put.3 untouched))
          | inr same ↦
              let as_many : count ≡ length slots = omega (arith, same, count_grows (length slots) changes) in
              nowhere.1 ∙ knows.end (omega (arith, short, as_many)) ∙ ap (λ (k : ℕ). record_at t (start + k / 8)) (sym as_many) ∙ sym (slots_elsewhere start ws t n untouched) ∙ stands
        ]
