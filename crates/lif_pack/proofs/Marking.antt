-- The mark of a volume, by its slots in memory.
use Rattle.std.proofs.Common.{◌≡◌, ◌≢◌, ◌⊎◌, ◌<◌, ◌-◌, ◌&&◌, ◌==◌, ℕ, suc, [], Bool, true, false, not, if◌then◌else◌, Option, Some, None, length, inl, inr, refl, sym, ◌∙◌, ap, subst, arith, zero}
use Rattle.std.specs.Prelude.{unwrap_or}
use Rattle.std.proofs.lemmas.Bool.{cases_Bool, ne_eqb, cases_eq}
use Rattle.lif_model.specs.declared.version.Version.TheVariants.{Two}
use Rattle.lif_model.specs.Volume.{Volume, IsVolume, is_redo_entry}
use Rattle.lif_model.specs.Fit.{redo_place}
use Rattle.lif_model.specs.Apply.{is_upgraded}
use Rattle.lif_model.proofs.Lists.{any_from}
use Rattle.lif_model.specs.Packing.{redo_slot, marked_slot, marked_count, bears_mark, is_move, moving_slot, good_mark, move_of}
use Rattle.lif_pack.specs.declared.marks.Move.{Move}
use Rattle.lif_pack.specs.Marks.{IsMoving, IsMarked}
use Rattle.lif_pack.proofs.Finishing.{redo_here, redo_is_two}

-- no slot is the redo entry, or it is none of version 2
pub not_marked : (n : ℕ) (v : Volume) → IsVolume n v → (redo_place v.slots < length v.slots → is_redo_entry n Two (redo_slot v) ≡ false) → bears_mark n v ≡ false
not_marked n v is off = elim (cases_Bool (is_upgraded n v)) [
  | inl up ↦ let no : true ≡ false = sym (redo_is_two n v is up) ∙ off (redo_here n v is up) in cc
  | inr old ↦ ap (λ (b : Bool). b && not ((marked_slot (redo_slot v) == 0) && (marked_count (redo_slot v) == 0))) old
]

-- one of version 2, with a number or a count
pub marked_some : (n : ℕ) (v : Volume) → redo_place v.slots < length v.slots → is_redo_entry n Two (redo_slot v) ≡ true
    → (marked_slot (redo_slot v) ≢ 0) ⊎ (marked_count (redo_slot v) ≢ 0) → bears_mark n v ≡ true
marked_some n v lt redo some =
    (λ i. any_from [] (is_redo_entry n Two) v.slots (redo_place v.slots) lt redo i && not ((marked_slot (redo_slot v) == 0) && (marked_count (redo_slot v) == 0)))
    ∙ either some
  where
    either : (marked_slot (redo_slot v) ≢ 0) ⊎ (marked_count (redo_slot v) ≢ 0) → not ((marked_slot (redo_slot v) == 0) && (marked_count (redo_slot v) == 0)) ≡ true
    either (inl ne) = ap (λ (b : Bool). not (b && (marked_count (redo_slot v) == 0))) (ne_eqb (marked_slot (redo_slot v)) 0 ne)
    either (inr ne) = ap (λ (b : Bool). not ((marked_slot (redo_slot v) == 0) && b)) (ne_eqb (marked_count (redo_slot v)) 0 ne) ∙ off (marked_slot (redo_slot v) == 0)
      where
        off : (b : Bool) → not (b && false) ≡ true
        off true = refl
        off false = refl

-- the file of a mark with this number and this count
pub marked_from : (v : Volume) (number moved : ℕ) (found : Option Move) → marked_slot (redo_slot v) ≡ number → marked_count (redo_slot v) ≡ moved
    → (number ≡ 0 → found ≡ None) → (number ≢ 0 → IsMoving v (number - 1) moved found) → IsMarked v found
marked_from v number moved found slot count none some = elim (cases_eq number 0) [
  | inl e ↦ subst (IsMarked v) (sym (none e)) (ap (λ (k : ℕ). good_mark v (moving_slot k)) (slot ∙ e))
  | inr ne ↦
      let next : marked_slot (redo_slot v) ≡ suc (number - 1) = omega (arith, slot, ne) in
      let named : move_of v ≡ good_mark v (Some (number - 1)) = ap (λ (k : ℕ). good_mark v (moving_slot k)) next in
      by found (some ne) named
]
  where
    pair : ℕ → Option (ℕ × ℕ)
    pair j = Some (number - 1, j)

    by : (found : Option Move) → IsMoving v (number - 1) moved found → move_of v ≡ good_mark v (Some (number - 1)) → IsMarked v found
    by None off named = named ∙ ap (λ (b : Bool). if b then pair (marked_count (redo_slot v)) else None) (ap (is_move v (number - 1)) count ∙ off)
    by (Some move) on named = (
      number - 1,
      moved,
      named ∙ ap (λ (b : Bool). if b then pair (marked_count (redo_slot v)) else None) (ap (is_move v (number - 1)) count ∙ on.0) ∙ ap pair count,
      on.1,
    )

-- a good mark names the file and the count
pub mark_tells : (v : Volume) (i j : ℕ) → move_of v ≡ Some (i, j) → (marked_slot (redo_slot v) ≡ suc i) × (marked_count (redo_slot v) ≡ j)
mark_tells v i j is = go (marked_slot (redo_slot v)) is
  where
    pair : ℕ → Bool → Option (ℕ × ℕ)
    pair k b = if b then Some (k, marked_count (redo_slot v)) else None

    by : (k : ℕ) (b : Bool) → pair k b ≡ Some (i, j) → (suc k ≡ suc i) × (marked_count (redo_slot v) ≡ j)
    by k false none = cc
    by k true same =
        let both : (k, marked_count (redo_slot v)) ≡ (i, j) = ap (λ (o : Option (ℕ × ℕ)). unwrap_or o (i, j)) same in
        (ap (λ (p : ℕ × ℕ). suc p.0) both, ap (λ (p : ℕ × ℕ). p.1) both)

    go : (number : ℕ) → good_mark v (moving_slot number) ≡ Some (i, j) → (number ≡ suc i) × (marked_count (redo_slot v) ≡ j)
    go zero none = cc
    go (suc k) same = by k (is_move v k (marked_count (redo_slot v))) same
