-- A directory whose live slots stand in the same order, among other purged ones: the volume has its files as before.
use Rattle.std.proofs.Common.{◌≡◌, ◌<◌, ◌≤◌, ◌&&◌, ◌||◌, not, ℕ, List, [], ◌∷◌, Bool, true, false, if◌then◌else◌, Some, length, map, get_or, filter, inl, inr, refl, sym, ◌∙◌, ap, arith}
use Rattle.std.specs.List.{list_all, list_any}
use Rattle.std.specs.FinMap.{from_entries}
use Rattle.std.proofs.lemmas.Bool.{and_parts, and_from, cases_Bool, lt-ltb}
use Rattle.lif_model.specs.Tape.{Tape, IsTape, record_at}
use Rattle.lif_model.specs.Header.{directory_end, capacity_of, is_readable}
use Rattle.lif_model.specs.Directory.{name_of, length_of, is_end, slots_of}
use Rattle.lif_model.specs.Pairs.{all_pairs}
use Rattle.lif_model.specs.declared.version.Version.{Version}
use Rattle.lif_model.specs.declared.version.Version.TheVariants.{Two}
use Rattle.lif_model.specs.Legal.{is_live, has_records, occupies, lies_between, are_apart, have_other_names}
use Rattle.lif_model.specs.Volume.{Volume, IsVolume, is_redo_entry, is_redo_file, is_adopted_with, is_file, content_of, files_of, volume_in}
use Rattle.lif_model.specs.Apply.{is_upgraded}
use Rattle.lif_model.proofs.Legal.{legal_tells, legal_from}
use Rattle.lif_model.proofs.Volume.{content_agree}
use Rattle.lif_model.proofs.Adopted.{is_file_tells, holds_tells, redo_entry_tells}
use Rattle.lif_model.proofs.Directory.{volume_tells}
use Rattle.lif_model.proofs.Slotted.{IsOn}
use Rattle.lif_model.proofs.Written.{volume_by_parts}
use Rattle.lif_pack.proofs.Pointwise.{kept_same}

-- ---- lists

pub filter_both : (p q : List ℕ → Bool) (xs : List (List ℕ)) → filter (λ x. p x && q x) xs ≡ filter q (filter p xs)
filter_both p q [] = refl
filter_both p q (x ∷ xs) = by (p x) (filter_both p q xs)
  where
    by : (a : Bool) → filter (λ y. p y && q y) xs ≡ filter q (filter p xs)
        → (if a && q x then x ∷ filter (λ y. p y && q y) xs else filter (λ y. p y && q y) xs) ≡ filter q (if a then x ∷ filter p xs else filter p xs)
    by true rest = ap (λ (ys : List (List ℕ)). if q x then x ∷ ys else ys) rest
    by false rest = rest

pub any_kept : (p keep : List ℕ → Bool) → ((x : List ℕ) → p x ≡ true → keep x ≡ true) → (xs : List (List ℕ)) → list_any p (filter keep xs) ≡ list_any p xs
any_kept p keep kept [] = refl
any_kept p keep kept (x ∷ xs) = by (keep x) refl (any_kept p keep kept xs)
  where
    by : (k : Bool) → keep x ≡ k → list_any p (filter keep xs) ≡ list_any p xs → list_any p (if k then x ∷ filter keep xs else filter keep xs) ≡ (p x || list_any p xs)
    by true e rest = ap (λ (b : Bool). p x || b) rest
    by false e rest =
        let none : p x ≡ false = elim (cases_Bool (p x)) [
          | inl on ↦ let no : true ≡ false = sym (kept x on) ∙ e in cc
          | inr off ↦ off
        ] in
        rest ∙ sym (ap (λ (b : Bool). b || list_any p xs) none)

-- the files are live
pub live_files : (n : ℕ) (xs ys : List (List ℕ)) → filter is_live xs ≡ filter is_live ys → filter (is_file n) xs ≡ filter (is_file n) ys
live_files n xs ys live = filter_both is_live (λ slot. not (is_redo_file n slot)) xs ∙ ap (filter (λ slot. not (is_redo_file n slot))) live
    ∙ sym (filter_both is_live (λ slot. not (is_redo_file n slot)) ys)

-- ---- the volume

-- a file's name and bytes
abbrev each : Tape → List ℕ → List ℕ × List ℕ
each tape slot = (name_of slot, content_of tape slot)

module _ (n : ℕ) (v : Volume) (is : IsVolume n v) (later : List (List ℕ)) (live : filter is_live later ≡ filter is_live v.slots)
    (room : length later ≤ capacity_of v.header) (entries : (i : ℕ) → i < length later → length (get_or later i []) ≡ 32) (kinds : (i : ℕ) → i < length later → is_end (get_or later i []) ≡ false) where
  pub same_occupying : filter occupies later ≡ filter occupies v.slots
  same_occupying = filter_both is_live has_records later ∙ ap (filter has_records) live ∙ sym (filter_both is_live has_records v.slots)

  pub same_file_slots : filter (is_file n) later ≡ filter (is_file n) v.slots
  same_file_slots = live_files n later v.slots live

  pub closed_is_volume : IsVolume n (record v { slots = later })
  closed_is_volume = record {
    header = is.header;
    legal = legal_tells n v.header later
        ((λ i. is_readable n v.header && (list_all (lies_between (directory_end v.header) n) (same_occupying i)
        && (all_pairs are_apart (same_occupying i) && all_pairs have_other_names (live i))))
        ∙ legal_from n v.header v.slots is.legal);
    room = room;
    entries = entries;
    kinds = kinds;
  }

  -- it has the redo file that it had
  pub closed_is_adopted : (version : Version) → is_adopted_with n version later ≡ is_adopted_with n version v.slots
  closed_is_adopted version =
      let lives : (slot : List ℕ) → is_redo_entry n version slot ≡ true → is_live slot ≡ true = λ slot is.
      (and_parts (is_live slot) (has_records slot) (redo_entry_tells n version slot is).1).0 in
      sym (any_kept (is_redo_entry n version) is_live lives later) ∙ ap (list_any (is_redo_entry n version)) live ∙ any_kept (is_redo_entry n version) is_live lives v.slots

  pub closed_is_upgraded : is_upgraded n (record v { slots = later }) ≡ is_upgraded n v
  closed_is_upgraded = closed_is_adopted Two

module _ (n : ℕ) (u : Tape) (v : Volume) (on : IsOn n u v) (some : volume_in u ≡ Some v) (later : List (List ℕ)) (live : filter is_live later ≡ filter is_live v.slots)
    (room : length later ≤ capacity_of v.header) (entries : (i : ℕ) → i < length later → length (get_or later i []) ≡ 32) (kinds : (i : ℕ) → i < length later → is_end (get_or later i []) ≡ false) where
  -- on a tape with these slots, whose other records are as they were
  pub closed_volume : (y : Tape) → IsTape n y → record_at y 0 ≡ v.header → slots_of y ≡ later → ((k : ℕ) → directory_end v.header ≤ k → k < n → record_at y k ≡ record_at u k)
      → volume_in y ≡ Some (record v { slots = later })
  closed_volume y tape header slots after = volume_by_parts n y v.header later v.files (sym tape.records) (closed_is_volume n v on.volume later live room entries kinds).legal header slots files
    where
      pair : (name : List ℕ) {a b : List ℕ} → a ≡ b → ◌≡◌ {A = List ℕ × List ℕ} (name, a) (name, b)
      pair name same = λ i. (name, same i)

      contents : map (each y) (filter (is_file n) v.slots) ≡ map (each u) (filter (is_file n) v.slots)
      contents = kept_same (is_file n) (each y) (each u) v.slots v.slots refl (λ k lt. (
        refl,
        λ file.
            let slot : List ℕ = get_or v.slots k [] in
            pair (name_of slot) (content_agree y u slot (λ j held.
            let ends = holds_tells j slot held in
            let takes : occupies slot ≡ true = and_from (is_live slot) (has_records slot) (is_file_tells n slot file).0 (lt-ltb 0 (length_of slot) (omega (arith, ends.0, ends.1))) in
            let lies = on.volume.legal.within k lt takes in
            after j (omega (arith, ends.0, lies.0)) (omega (arith, ends.1, lies.1)))),
      ))

      files : files_of y later ≡ v.files
      files =
          let tells = volume_tells u v some in
          (λ i. from_entries (map (each y) (filter (is_file (tape.records i)) later)))
          ∙ ap (λ (xs : List (List ℕ)). from_entries (map (each y) xs)) (same_file_slots n v on.volume later live room entries kinds) ∙ ap (λ (xs : List (List ℕ × List ℕ)). from_entries xs) contents
          ∙ sym (λ i. from_entries (map (each u) (filter (is_file (on.tape.records i)) v.slots))) ∙ ap (files_of u) tells.2 ∙ sym tells.3
