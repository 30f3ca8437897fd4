-- The files before the redo entry, counted: those that do not stand at their places, and their records.
use Rattle.std.proofs.Common.{filter, ◌≡◌, ◌<◌, ◌≤◌, ◌+◌, ◌++◌, ◌&&◌, ◌==◌, not, ℕ, zero, suc, List, [], ◌∷◌, Bool, true, false, if◌then◌else◌, length, get_or, take, inl, inr, refl, sym, ◌∙◌, ap, arith}
use Rattle.std.proofs.lemmas.Bool.{cases_Bool, false_from_ne_true}
use Rattle.std.proofs.lemmas.List.{take_more}
use Rattle.lif_model.specs.Directory.{start_of, length_of}
use Rattle.lif_model.specs.declared.version.Version.TheVariants.{Two}
use Rattle.lif_model.specs.Redo.{redo_start}
use Rattle.lif_model.specs.Legal.{is_live, has_records}
use Rattle.lif_model.specs.Volume.{Volume, is_redo_file, is_file}
use Rattle.lif_model.specs.Fit.{redo_place}
use Rattle.lif_model.proofs.Adopted.{is_file_tells, redo_entry_tells}
use Rattle.lif_model.specs.Packing.{live_length, live_records, stands_at, count_moved, redo_slot, unmarked, packed_from}
use Rattle.lif_pack.specs.Steps.{volume_with, MayPack, ArePackedAlike}
use Rattle.lif_pack.proofs.Order.{live_before_redo}
use Rattle.lif_pack.proofs.Finishing.{redo_is_two, other_is_file}
use Rattle.lif_pack.proofs.Packs.{files_have_room, packed_records}

-- ---- lists

-- two tests agree up to a place, and nothing passes the first one from there on
pub filter_front : (p q : List ℕ → Bool) (xs : List (List ℕ)) (r : ℕ) → ((k : ℕ) → k < length xs → k < r → p (get_or xs k []) ≡ q (get_or xs k []))
    → ((k : ℕ) → k < length xs → r ≤ k → p (get_or xs k []) ≡ false) → filter p xs ≡ filter q (take r xs)
filter_front p q [] zero same none = refl
filter_front p q [] (suc r) same none = refl
filter_front p q (x ∷ xs) zero same none =
    ap (λ (b : Bool). if b then x ∷ filter p xs else filter p xs) (none 0 (omega arith) (omega arith))
    ∙ filter_front p q xs zero (λ k lt under. absurd (omega (arith, under))) (λ k lt le. none (suc k) (omega (arith, lt)) (omega arith))
filter_front p q (x ∷ xs) (suc r) same none =
    ap (λ (b : Bool). if b then x ∷ filter p xs else filter p xs) (same 0 (omega arith) (omega arith))
    ∙ ap (λ (ys : List (List ℕ)). if q x then x ∷ ys else ys)
    (filter_front p q xs r (λ k lt under. same (suc k) (omega (arith, lt)) (omega (arith, under))) (λ k lt le. none (suc k) (omega (arith, lt)) (omega (arith, le))))

-- ---- their records

pub records_of_live : (xs : List (List ℕ)) → live_records (filter is_live xs) ≡ live_records xs
records_of_live [] = refl
records_of_live (x ∷ xs) = by (is_live x) refl (records_of_live xs)
  where
    by : (b : Bool) → is_live x ≡ b → live_records (filter is_live xs) ≡ live_records xs
        → live_records (if b then x ∷ filter is_live xs else filter is_live xs) ≡ live_length x + live_records xs
    by true e rest = ap (λ (m : ℕ). live_length x + m) rest
    by false e rest = omega (arith, rest, ap (λ (b : Bool). if b then length_of x else 0) e)

-- ---- those that are not at their places

-- one, if the slot's file is not at this place
abbrev pub missed : ℕ → List ℕ → ℕ
missed place slot = if stands_at place slot then 0 else 1

moved_one : (place : ℕ) (x : List ℕ) → count_moved place (filter is_live (x ∷ [])) ≡ missed place x
moved_one place x = by (is_live x)
  where
    some : (c d : Bool) → (if c && not d then 1 else 0) + 0 ≡ (if (if c then d else true) then 0 else 1)
    some true true = refl
    some true false = refl
    some false d = refl

    by : (b : Bool) → count_moved place (if b then x ∷ [] else []) ≡ (if (if b && has_records x then start_of x == place else true) then 0 else 1)
    by true = some (has_records x) (start_of x == place)
    by false = refl

moved_append : (place : ℕ) (xs : List (List ℕ)) (x : List ℕ)
    → count_moved place (filter is_live (xs ++ x ∷ [])) ≡ count_moved place (filter is_live xs) + missed (place + live_records xs) x
moved_append place [] x =
    let here : place ≡ place + 0 = omega arith in
    omega (arith, moved_one place x, ap (λ (m : ℕ). missed m x) here)
moved_append place (y ∷ xs) x = by (is_live y) (λ p. moved_append p xs x)
  where
    by : (b : Bool) → ((p : ℕ) → count_moved p (filter is_live (xs ++ x ∷ [])) ≡ count_moved p (filter is_live xs) + missed (p + live_records xs) x)
        → count_moved place (if b then y ∷ filter is_live (xs ++ x ∷ []) else filter is_live (xs ++ x ∷ []))
        ≡ count_moved place (if b then y ∷ filter is_live xs else filter is_live xs) + missed (place + ((if b then length_of y else 0) + live_records xs)) x
    by true rest =
        let sum : place + length_of y + live_records xs ≡ place + (length_of y + live_records xs) = omega arith in
        omega (arith, rest (place + length_of y), ap (λ (m : ℕ). missed m x) sum)
    by false rest =
        let sum : place + live_records xs ≡ place + (0 + live_records xs) = omega arith in
        omega (arith, rest place, ap (λ (m : ℕ). missed m x) sum)

-- one slot more
pub moved_more : (place : ℕ) (xs : List (List ℕ)) (k : ℕ) → k < length xs
    → count_moved place (filter is_live (take (k + 1) xs)) ≡ count_moved place (filter is_live (take k xs)) + missed (place + live_records (take k xs)) (get_or xs k [])
moved_more place xs k lt =
    ap (λ (ys : List (List ℕ)). count_moved place (filter is_live ys)) (take_more xs k [] lt) ∙ moved_append place (take k xs) (get_or xs k [])

-- ---- the files are the live slots before the redo entry

module _ (n first end redo : ℕ) (slots : List (List ℕ)) (may : MayPack n first end redo slots) where
  abbrev w : Volume
  w = volume_with may.header slots

  pub files_before : filter (is_file n) slots ≡ filter is_live (take redo slots)
  files_before = filter_front (is_file n) is_live slots redo
      (λ k lt under. elim (cases_Bool (is_live (get_or slots k []))) [
        | inl live ↦ other_is_file n w may.volume may.version k lt (λ e. absurd (omega (arith, e, under, may.redo_is))) live ∙ sym live
        | inr dead ↦ false_from_ne_true _ (λ file. let no : true ≡ false = sym (is_file_tells n (get_or slots k []) file).0 ∙ dead in cc) ∙ sym dead
      ])
      (λ k lt le. false_from_ne_true _ (λ file.
      let tells = is_file_tells n (get_or slots k []) file in
      let at : k ≡ redo_place slots = omega (arith, le, may.redo_is, live_before_redo slots may.in_order k lt tells.0) in
      let entry = redo_entry_tells n Two (redo_slot w) (redo_is_two n w may.volume may.version) in
      let no : true ≡ false = sym entry.0 ∙ sym (ap (λ (m : ℕ). is_redo_file n (get_or slots m [])) at) ∙ tells.1 in
      cc))

  -- they have room before the redo file
  pub room_for_files : end + live_records (take redo slots) ≤ redo_start Two n
  room_for_files = omega (
    arith,
    may.ends,
    files_have_room n w may.volume may.version may.in_order,
    ap live_records files_before,
    records_of_live (take redo slots),
  )

-- of slots of which packing makes the same they have as many records
pub files_kept : (n first end redo redo' : ℕ) (old new : List (List ℕ)) → MayPack n first end redo old → MayPack n first end redo' new → ArePackedAlike n end old new
    → live_records (take (redo_place new) new) ≡ live_records (take (redo_place old) old)
files_kept n first end redo redo' old new was now alike =
    let before : Volume = volume_with was.header old in
    let after : Volume = volume_with now.header new in
    let same = ap (λ (p : Volume). live_records p.slots) (alike after now.ends) in
    let header = ap (λ (d : ℕ). live_records (packed_from d (filter (is_file n) old) ++ unmarked (redo_slot before) ∷ [])) (was.ends ∙ sym now.ends) in
    omega (
      arith,
      same,
      header,
      packed_records n before was.volume was.version was.in_order,
      packed_records n after now.volume now.version now.in_order,
      ap live_records (files_before n first end redo old was),
      ap live_records (files_before n first end redo' new now),
      records_of_live (take redo old),
      records_of_live (take redo' new),
      ap (λ (r : ℕ). live_records (take r old)) was.redo_is,
      ap (λ (r : ℕ). live_records (take r new)) now.redo_is,
    )
