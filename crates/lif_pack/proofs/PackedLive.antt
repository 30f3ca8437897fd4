-- Of slots whose files stand at their places packing makes the live ones alone.
use Rattle.std.proofs.Common.{filter, ◌≡◌, ◌<◌, ◌+◌, ◌++◌, ◌&&◌, ◌==◌, ℕ, suc, List, [], ◌∷◌, Bool, true, false, if◌then◌else◌, length, get_or, take, inl, inr, refl, sym, ◌∙◌, ap, subst, arith, get_or-take}
use Rattle.std.proofs.lemmas.Bool.{and_parts, and_from, cases_Bool}
use Rattle.std.proofs.lemmas.List.{take_more, length-take-le}
use Rattle.std.proofs.lemmas.List.Elements.{filter-append}
use Rattle.lif_model.specs.Header.{directory_end}
use Rattle.lif_model.specs.Directory.{start_of, length_of}
use Rattle.lif_model.specs.declared.version.Version.TheVariants.{Two}
use Rattle.lif_model.specs.Legal.{is_live, has_records, occupies}
use Rattle.lif_model.specs.Volume.{Volume, is_file}
use Rattle.lif_model.specs.Fit.{redo_place}
use Rattle.lif_model.proofs.Adopted.{redo_file_is_live, redo_entry_tells}
use Rattle.lif_model.specs.Packing.{live_length, stands_at, are_packed, with_start, redo_slot, marked_slot, marked_count, unmarked, packed_from, packed}
use Rattle.lif_pack.specs.Steps.{volume_with, MayPack, HasPlainStart}
use Rattle.lif_pack.proofs.Order.{standing, live_whole, live_before_redo}
use Rattle.lif_pack.proofs.Filtering.{filter_at}
use Rattle.lif_pack.proofs.Finishing.{redo_here, redo_is_two}
use Rattle.lif_pack.proofs.MovedVolume.{unmarked_same, no_mark_is_zero}
use Rattle.lif_pack.proofs.Counted.{filter_front, files_before}
use Rattle.lif_pack.proofs.Plain.{start_again}

-- purged slots have no part in it
pub packed_live : (place : ℕ) (xs : List (List ℕ)) → are_packed place (filter is_live xs) ≡ are_packed place xs
packed_live place [] = refl
packed_live place (x ∷ xs) = by (is_live x) refl (λ p. packed_live p xs)
  where
    by : (b : Bool) → is_live x ≡ b → ((p : ℕ) → are_packed p (filter is_live xs) ≡ are_packed p xs)
        → are_packed place (if b then x ∷ filter is_live xs else filter is_live xs) ≡ (stands_at place x && are_packed (place + live_length x) xs)
    by true e rest = ap (λ (b : Bool). stands_at place x && b) (rest (place + live_length x))
    by false e rest =
        let none : live_length x ≡ 0 = ap (λ (b : Bool). if b then length_of x else 0) e in
        let here : place ≡ place + live_length x = omega (arith, none) in
        rest place ∙ ap (λ (m : ℕ). are_packed m xs) here
        ∙ sym (ap (λ (b : Bool). (if (b && has_records x) then start_of x == place else true) && are_packed (place + live_length x) xs) e)

-- live slots that stand at their places stay what they are
pub packed_stays : (place : ℕ) (xs : List (List ℕ)) → are_packed place xs ≡ true → ((k : ℕ) → k < length xs → is_live (get_or xs k []) ≡ true)
    → ((k : ℕ) → k < length xs → occupies (get_or xs k []) ≡ true → HasPlainStart (get_or xs k [])) → packed_from place xs ≡ xs
packed_stays place [] are live plain = refl
packed_stays place (x ∷ xs) are live plain =
    let both = and_parts (stands_at place x) _ are in
    let long : live_length x ≡ length_of x = live_whole x (live 0 (omega arith)) in
    let rest = packed_stays (place + length_of x) xs (ap (λ (m : ℕ). are_packed (place + m) xs) (sym long) ∙ both.1) (λ k lt. live (suc k) (omega arith)) (λ k lt. plain (suc k) (omega arith)) in
    λ i. by (has_records x) refl both.0 i ∷ rest i
  where
    by : (b : Bool) → has_records x ≡ b → stands_at place x ≡ true → (if b then with_start place x else x) ≡ x
    by false e stands = refl
    by true e stands =
        let start : start_of x ≡ place = standing place x stands (and_from _ _ (live 0 (omega arith)) e) in
        ap (λ (p : ℕ). with_start p x) (sym start) ∙ start_again x (plain 0 (omega arith) (and_from _ _ (live 0 (omega arith)) e))

module _ (n first end redo : ℕ) (slots : List (List ℕ)) (may : MayPack n first end redo slots) where
  abbrev w : Volume
  w = volume_with may.header slots

  redo_lies : redo < length slots
  redo_lies = omega (arith, redo_here n w may.volume may.version, may.redo_is)

  abbrev last : List ℕ
  last = get_or slots redo []

  last_is : last ≡ redo_slot w
  last_is = ap (λ (k : ℕ). get_or slots k []) (sym may.redo_is)

  last_live : is_live last ≡ true
  last_live = ap is_live last_is ∙ redo_file_is_live n (redo_slot w) (redo_entry_tells n Two (redo_slot w) (redo_is_two n w may.volume may.version)).0

  -- the live slots are those of the files, and the redo entry
  live_are : filter is_live slots ≡ filter is_live (take redo slots) ++ last ∷ []
  live_are =
      filter_front is_live is_live slots (redo + 1) (λ k lt under. refl) (λ k lt le. elim (cases_Bool (is_live (get_or slots k []))) [
        | inl live ↦ absurd (omega (arith, le, may.redo_is, live_before_redo slots may.in_order k lt live))
        | inr dead ↦ dead
      ])
      ∙ ap (filter is_live) (take_more slots redo [] redo_lies) ∙ filter-append is_live (take redo slots) (last ∷ [])
      ∙ ap (λ (b : Bool). filter is_live (take redo slots) ++ (if b then last ∷ [] else [])) last_live

  pub packed_is_live : are_packed end (take redo slots) ≡ true → (v : Volume) → directory_end v.header ≡ end
      → packed n (record v { slots = slots }) ≡ record v { slots = filter is_live slots }
  packed_is_live are v ends =
      let files : List (List ℕ) = filter is_live (take redo slots) in
      let zero = no_mark_is_zero n w may.version may.unmarked in
      let front_size : length (take redo slots) ≡ redo = length-take-le redo slots (omega (arith, redo_lies)) in
      let size : length last ≡ 32 = may.volume.entries redo redo_lies in
      let bare : unmarked last ≡ last = unmarked_same last size (ap (λ (e : List ℕ). marked_slot e) last_is ∙ zero.0) (ap (λ (e : List ℕ). marked_count e) last_is ∙ zero.1) in
      let stays : packed_from end files ≡ files = packed_stays end files (packed_live end (take redo slots) ∙ are)
      (λ k lt. let found = filter_at is_live (take redo slots) k lt in ap is_live found.3 ∙ found.2)
      (λ k lt on.
      let found = filter_at is_live (take redo slots) k lt in
      let there : get_or slots found.0 [] ≡ get_or files k [] = sym (found.3 ∙ get_or-take redo slots found.0 [] (omega (arith, found.1, front_size))) in
      subst HasPlainStart there (may.plain found.0 (omega (arith, found.1, front_size, redo_lies)) (ap occupies there ∙ on))) in
      let same : packed_from (directory_end v.header) (filter (is_file n) slots) ++ unmarked (get_or slots (redo_place slots) []) ∷ [] ≡ filter is_live slots =
      (λ i. packed_from (ends i) (files_before n first end redo slots may i) ++ unmarked (get_or slots (may.redo_is i) []) ∷ [])
      ∙ (λ i. stays i ++ bare i ∷ []) ∙ sym live_are in
      λ i. record v { slots = same i }
