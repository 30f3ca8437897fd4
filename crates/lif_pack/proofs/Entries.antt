-- What the entries that packing writes have in common with those before: all but the start, or all but the mark.
use Rattle.std.proofs.Common.{◌≡◌, ◌<◌, ◌≤◌, ◌+◌, ◌-◌, ◌++◌, ℕ, List, Bool, true, false, if◌then◌else◌, length, get_or, take, drop, replicate, refl, sym, ◌∙◌, ap, arith, length-append, length-drop, length-take, get_or-drop, append_assoc, bytes_eq, ◌&&◌, ◌==◌}
use Rattle.std.proofs.lemmas.List.{get_or-append_right, take_at, take-append-drop, take-append-le, take-take}
use Rattle.std.proofs.lemmas.Slice.{drop-append-drop}
use Rattle.lif_model.specs.Numbers.{two_at, four_at}
use Rattle.lif_model.specs.Directory.{name_of, type_of, start_of, length_of}
use Rattle.lif_model.specs.Made.{in_four}
use Rattle.lif_model.specs.declared.version.Version.{Version}
use Rattle.lif_model.specs.Redo.{redo_start, redo_length}
use Rattle.lif_model.specs.Volume.{redo_name, redo_type, is_redo_entry}
use Rattle.lif_model.proofs.Made.{two_front, four_front, two_behind, four_behind, four_first, four_same}
use Rattle.lif_dir.specs.Entries.{is_entry}
use Rattle.lif_dir.specs.declared.entries.FileEntry.{FileEntry}
use Rattle.lif_dir.specs.declared.entries.Slot.TheVariants.{Live, Purged, End}
use Rattle.lif_model.specs.Packing.{with_start, unmarked, marked_slot, marked_count, without_start}

-- ---- another start

module _ (start : ℕ) (slot : List ℕ) (all : length slot ≡ 32) where
  pub front_size : length (take 12 slot) ≡ 12
  front_size = omega (arith, length-take 12 slot, all)

  abbrev rest : List ℕ
  rest = in_four start ++ drop 16 slot

  pub started_size : length (with_start start slot) ≡ 32
  unfolding with_start
  started_size = length-append (take 12 slot) rest ∙ omega (arith, front_size, length-drop 16 slot, all)

  pub started_name : name_of (with_start start slot) ≡ name_of slot
  unfolding with_start name_of
  started_name = take-append-le 10 (take 12 slot) rest (omega (arith, front_size)) ∙ take-take 10 12 slot (omega arith)

  pub started_type : type_of (with_start start slot) ≡ type_of slot
  unfolding with_start
  started_type = two_front (take 12 slot) rest 10 (omega (arith, front_size))
      ∙ sym (two_front (take 12 slot) (drop 12 slot) 10 (omega (arith, front_size))) ∙ ap (λ (bs : List ℕ). two_at bs 10) (take-append-drop 12 slot)

  pub started_start : start_of (with_start start slot) ≡ start
  unfolding with_start
  started_start = four_behind (take 12 slot) rest 12 0 front_size ∙ four_first start (drop 16 slot)

  behind_start : (j : ℕ) → 16 ≤ j → get_or (with_start start slot) j 0 ≡ get_or slot j 0
  unfolding with_start
  behind_start j le =
      get_or-append_right (take 12 slot) rest 12 j 0 front_size (omega (arith, le))
      ∙ get_or-append_right (in_four start) (drop 16 slot) 4 (j - 12) 0 refl (omega (arith, le))
      ∙ get_or-drop 16 slot (j - 12 - 4) 0 ∙ ap (λ (i : ℕ). get_or slot i 0) (omega (arith, le))

  pub started_length : length_of (with_start start slot) ≡ length_of slot
  started_length = four_same (with_start start slot) slot 16 16 behind_start (omega arith)

  pub started_bare : without_start (with_start start slot) ≡ without_start slot
  unfolding with_start without_start
  started_bare =
      let front : take 12 (take 12 slot ++ rest) ≡ take 12 slot = take_at (take 12 slot) rest 12 front_size in
      let back : drop 16 (take 12 slot ++ rest) ≡ drop 16 slot =
      ap (drop 16) (sym (append_assoc (take 12 slot) (in_four start) (drop 16 slot)))
      ∙ drop-append-drop 16 slot (take 12 slot ++ in_four start) 16 (omega arith) (length-append (take 12 slot) (in_four start) ∙ omega (arith, front_size)) in
      λ i. front i ++ back i

  -- the last start is the one that counts
  pub started_again : (later : ℕ) → with_start later (with_start start slot) ≡ with_start later slot
  unfolding with_start
  started_again later =
      let front : take 12 (take 12 slot ++ rest) ≡ take 12 slot = take_at (take 12 slot) rest 12 front_size in
      let back : drop 16 (take 12 slot ++ rest) ≡ drop 16 slot =
      ap (drop 16) (sym (append_assoc (take 12 slot) (in_four start) (drop 16 slot)))
      ∙ drop-append-drop 16 slot (take 12 slot ++ in_four start) 16 (omega arith) (length-append (take 12 slot) (in_four start) ∙ omega (arith, front_size)) in
      λ i. front i ++ (in_four later ++ back i)

-- ---- another field

module _ (entry : List ℕ) (all : length entry ≡ 32) where
  pub kept_size : length (take 28 entry) ≡ 28
  kept_size = omega (arith, length-take 28 entry, all)

  pub unmarked_size : length (unmarked entry) ≡ 32
  unfolding unmarked
  unmarked_size = length-append (take 28 entry) (replicate 4 0) ∙ omega (arith, kept_size)

  pub unmarked_name : name_of (unmarked entry) ≡ name_of entry
  unfolding unmarked name_of
  unmarked_name = take-append-le 10 (take 28 entry) (replicate 4 0) (omega (arith, kept_size)) ∙ take-take 10 28 entry (omega arith)

  pub unmarked_type : type_of (unmarked entry) ≡ type_of entry
  unfolding unmarked
  unmarked_type = two_front (take 28 entry) (replicate 4 0) 10 (omega (arith, kept_size))
      ∙ sym (two_front (take 28 entry) (drop 28 entry) 10 (omega (arith, kept_size))) ∙ ap (λ (bs : List ℕ). two_at bs 10) (take-append-drop 28 entry)

  four_kept : (i : ℕ) → i + 3 < 28 → four_at (unmarked entry) i ≡ four_at entry i
  unfolding unmarked
  four_kept i lt = four_front (take 28 entry) (replicate 4 0) i (omega (arith, lt, kept_size))
      ∙ sym (four_front (take 28 entry) (drop 28 entry) i (omega (arith, lt, kept_size))) ∙ ap (λ (bs : List ℕ). four_at bs i) (take-append-drop 28 entry)

  pub unmarked_start : start_of (unmarked entry) ≡ start_of entry
  unmarked_start = four_kept 12 (omega arith)

  pub unmarked_length : length_of (unmarked entry) ≡ length_of entry
  unmarked_length = four_kept 16 (omega arith)

  pub unmarked_slot : marked_slot (unmarked entry) ≡ 0
  unfolding unmarked two_at
  unmarked_slot = two_behind (take 28 entry) (replicate 4 0) 28 0 kept_size

  pub unmarked_count : marked_count (unmarked entry) ≡ 0
  unfolding unmarked two_at
  unmarked_count = two_behind (take 28 entry) (replicate 4 0) 28 2 kept_size

  pub unmarked_redo : (n : ℕ) (version : Version) → is_redo_entry n version (unmarked entry) ≡ is_redo_entry n version entry
  unmarked_redo n version = λ i. bytes_eq (unmarked_name i) redo_name && (unmarked_type i == redo_type
      && (unmarked_start i == redo_start version n && unmarked_length i == redo_length version))

-- ---- in memory

-- an entry that is no end is a slot
pub is_slot : (b p : Bool) (entry : FileEntry) → b ≡ false → is_entry (if b then End else if p then Purged entry else Live entry) ≡ true
is_slot true p entry off = cc
is_slot false true entry off = refl
is_slot false false entry off = refl
