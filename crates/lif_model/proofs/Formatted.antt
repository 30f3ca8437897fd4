-- The tape that `format` makes of any tape.
use Rattle.std.proofs.Common.{◌≡◌, ◌<◌, ◌≤◌, ◌+◌, ◌-◌, ◌*◌, ◌/◌, ◌%◌, ◌++◌, ◌==◌, ◌&&◌, ℕ, zero, suc, List, [], ◌∷◌, Bool, true, false, Some, None, length, if◌then◌else◌, get_or, set, take, drop, replicate, refl, sym, ◌∙◌, ap, arith, length-append, length-set, append_assoc, get_or-set_same, get_or-set_other}
use Rattle.std.specs.Prelude.{option_map}
use Rattle.std.specs.Str.{bytes_eq}
use Rattle.std.specs.FinMap.{empty}
use Rattle.std.proofs.lemmas.Bool.{and_right, eq-eqb, not_from_true, ltb-false}
use Rattle.std.proofs.lemmas.List.{take_at, drop_at, ext_get_or, length-take-le, get_or-take}
use Rattle.lif_model.specs.Tape.{Tape, IsTape, record_at}
use Rattle.lif_model.specs.Shelf.{piece}
use Rattle.lif_model.specs.Header.{directory_start, directory_length}
use Rattle.lif_model.specs.Directory.{name_of, is_end, entry_at, entries_from, before_end, slots_of}
use Rattle.lif_model.specs.Made.{end_entry, first_directory_record, fresh_header, records_for_slots}
use Rattle.lif_model.specs.declared.version.Version.TheVariants.{One}
use Rattle.lif_model.specs.Redo.{redo_start, changed}
use Rattle.lif_model.specs.Volume.{redo_name, redo_type, redo_entry, is_redo_entry, is_adopted_with, is_file, content_of, files_of, volume_in}
use Rattle.lif_model.specs.Apply.{Format, IsWellFormed, is_too_long, fresh_volume}
use Rattle.lif_model.specs.Writing.{format_changes}
use Rattle.lif_model.proofs.Lists.{any_from}
use Rattle.lif_model.proofs.Made.{new_type, new_size, typed_type, typed_size, fresh_start, fresh_length, fresh_size, piece_short, piece_size}
use Rattle.lif_model.proofs.Files.{same_files, get_file, get_none}
use Rattle.lif_model.proofs.Apply.{format_is_adopted, made_redo_file}
use Rattle.lif_model.proofs.Directory.{entries_count, entry_of_all, before_end_at, set_shape}
use Rattle.lif_model.proofs.Written.{volume_by_parts, made_redo_entry}

-- ---- the directory's first record

redo_size : (n : ℕ) → length (redo_entry One n) ≡ 32
redo_size n = new_size redo_name redo_type (redo_start One n) 4 (replicate 4 0) refl refl

end_size : length end_entry ≡ 32
end_size = typed_size 0xFFFF (replicate 32 0)

-- it begins with that entry and an end
first_is : (entry : List ℕ) → length entry ≡ 32
    → (entry_at (first_directory_record entry) 0 ≡ entry) × (entry_at (first_directory_record entry) 1 ≡ end_entry)
unfolding first_directory_record entry_at
first_is entry size =
    let sum : length (entry ++ end_entry) ≡ 64 = length-append entry end_entry ∙ omega (arith, size, end_size) in
    let rest : List ℕ = replicate (256 - length (entry ++ end_entry)) 0 in
    let is : piece (entry ++ end_entry) ≡ entry ++ (end_entry ++ rest) = piece_short (entry ++ end_entry) (omega (arith, sum)) ∙ append_assoc entry end_entry rest in (
      ap (take 32) is ∙ take_at entry (end_entry ++ rest) 32 size,
      ap (λ (bytes : List ℕ). take 32 (drop 32 bytes)) is ∙ ap (take 32) (drop_at entry (end_entry ++ rest) 32 size) ∙ take_at end_entry rest 32 end_size,
    )

first_size : (entry : List ℕ) → length (first_directory_record entry) ≡ 256
unfolding first_directory_record
first_size entry = piece_size (entry ++ end_entry)

-- ---- the tape

-- a tape with an empty volume that is adopted with version 1
pub record IsFormatted (n : ℕ) (label : List ℕ) (slots : ℕ) (x : Tape) : Type 0 where
  pub tape : IsTape n x
  pub volume : volume_in x ≡ Some (fresh_volume n label slots)
  pub adopted : is_adopted_with n One (fresh_volume n label slots).slots ≡ true

module _ (n : ℕ) (label : List ℕ) (slots : ℕ) (formed : IsWellFormed (Format label slots)) (fits : is_too_long n slots ≡ false) where
  abbrev count : ℕ
  count = records_for_slots slots

  abbrev header : List ℕ
  header = fresh_header n label count

  abbrev redo : List ℕ
  redo = redo_entry One n

  bounds : (0 < count) × (2 + count ≤ n - 4)
  bounds = let short : slots ≤ 8 * (n - 6) = ltb-false (8 * (n - 6)) slots fits in (omega (arith, formed.1), omega (arith, formed.1, short))

  pub format_makes : (u : Tape) → IsTape n u → IsFormatted n label slots (changed (format_changes n label slots) u)
  format_makes u is =
      let made : IsTape n x = set_shape n (set u 0 header) 2 (first_directory_record redo) (set_shape n u 0 header is (fresh_size n label count)) (first_size redo) in
      record {
        tape = made;
        volume = volume_by_parts n x header (redo ∷ []) empty (sym made.records) (format_is_adopted n label slots formed fits).volume.legal header_is slots_are (no_files (sym made.records));
        adopted = any_from [] (is_redo_entry n One) (redo ∷ []) 0 (omega arith) (made_redo_entry n);
      }
    where
      x : Tape
      x = set (set u 0 header) 2 (first_directory_record redo)

      header_is : record_at x 0 ≡ header
      header_is = get_or-set_other (set u 0 header) 2 0 (first_directory_record redo) [] (λ e. absurd (omega (arith, e))) ∙ get_or-set_same u 0 header [] (omega (arith, is.records, bounds.0, bounds.1))

      directory_is : record_at x 2 ≡ first_directory_record redo
      directory_is = get_or-set_same (set u 0 header) 2 (first_directory_record redo) [] (omega (arith, length-set u 0 header, is.records, bounds.0, bounds.1))

      all : List (List ℕ)
      all = entries_from x 2 count

      at : (k : ℕ) → k < 8 → get_or all k [] ≡ entry_at (first_directory_record redo) k
      at k lt =
          let row : 2 + k / 8 ≡ 2 = omega (arith, lt) in
          let column : k % 8 ≡ k = omega (arith, lt) in
          entry_of_all x 2 count k (omega (arith, lt, bounds.0)) ∙ (λ i. entry_at (record_at x (row i)) (column i)) ∙ ap (λ (bytes : List ℕ). entry_at bytes k) directory_is

      first : get_or all 0 [] ≡ redo
      first = at 0 (omega arith) ∙ (first_is redo (redo_size n)).0

      second : get_or all 1 [] ≡ end_entry
      second = at 1 (omega arith) ∙ (first_is redo (redo_size n)).1

      more : 8 ≤ length all
      more = omega (arith, entries_count x 2 count, bounds.0)

      live : (k : ℕ) → k < 1 → is_end (get_or all k []) ≡ false
      live zero lt = ap is_end first ∙ ap (λ (t : ℕ). t == 0xFFFF) (new_type redo_name redo_type (redo_start One n) 4 (replicate 4 0) refl)
      live (suc k) lt = absurd (omega (arith, lt))

      slots_are : slots_of x ≡ redo ∷ []
      slots_are =
          let starts : directory_start (record_at x 0) ≡ 2 = ap directory_start header_is ∙ fresh_start n label count formed.0 in
          let longs : directory_length (record_at x 0) ≡ count = ap directory_length header_is ∙ fresh_length n label count formed.0 in
          (λ i. before_end (entries_from x (starts i) (longs i)))
          ∙ before_end_at all 1 (omega (arith, more)) live (λ lt. ap is_end second ∙ eq-eqb _ 0xFFFF (typed_type 0xFFFF (replicate 32 0) (omega arith)))
          ∙ ext_get_or [] (take 1 all) (redo ∷ []) (length-take-le 1 all (omega (arith, more))) one
        where
          one : (k : ℕ) → k < length (take 1 all) → get_or (take 1 all) k [] ≡ get_or (redo ∷ []) k []
          one zero lt = get_or-take 1 all 0 [] (omega arith) ∙ first
          one (suc k) lt = absurd (omega (arith, lt, length-take-le 1 all (omega (arith, more))))

      -- the redo file is none of the files
      no_files : n ≡ length x → files_of x (redo ∷ []) ≡ empty
      no_files size = same_files (files_of x (redo ∷ [])) empty (λ name.
          let off : is_file n redo ≡ false = and_right _ _ (not_from_true _ (made_redo_file n)) in
          get_file x (redo ∷ []) n name size ∙ ap (λ (b : Bool). option_map (content_of x) (if b && bytes_eq name (name_of redo) then Some redo else None)) off ∙ sym (get_none name))
