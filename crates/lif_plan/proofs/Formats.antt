-- What `format` makes, and when it is refused.
use Rattle.std.proofs.Common.{◌≡◌, ◌<◌, ◌-◌, ◌++◌, ◌==◌, ℕ, List, true, false, length, drop, set, replicate, length-append, refl, sym, ap, ◌∙◌, arith, append_assoc}
use Rattle.std.proofs.lemmas.List.{set-append_right}
use Rattle.lif_model.specs.Header.{is_readable}
use Rattle.lif_model.specs.Directory.{is_end}
use Rattle.lif_model.specs.Made.{with_type, end_entry, first_directory_record, fresh_header, records_for_slots}
use Rattle.lif_model.specs.declared.version.Version.{Version}
use Rattle.lif_model.specs.Redo.{redo_start, redo_length}
use Rattle.lif_model.specs.Volume.{redo_name, redo_type, redo_entry}
use Rattle.lif_model.specs.Apply.{is_too_long}
use Rattle.lif_model.proofs.Made.{new_type, typed_size, piece_short}
use Rattle.lif_model.proofs.Apply.{format_is_adopted}

-- the entry of a redo file ends no directory
pub redo_is_entry : (version : Version) (n : ℕ) → is_end (redo_entry version n) ≡ false
redo_is_entry version n = ap (λ (k : ℕ). k == 0xFFFF) (new_type redo_name redo_type (redo_start version n) (redo_length version) (replicate 4 0) refl)

-- an entry, an end after it, and zeros
pub first_made : (entry : List ℕ) → length entry ≡ 32
    → set (set (entry ++ drop 32 (replicate 256 0)) 42 255) 43 255 ≡ first_directory_record entry
unfolding first_directory_record with_type
first_made entry size =
    let zeros : List ℕ = drop 32 (replicate 256 0) in
    let sum : length (entry ++ end_entry) ≡ 64 = length-append entry end_entry ∙ omega (arith, size, typed_size 0xFFFF (replicate 32 0)) in
    let rest : 256 - length (entry ++ end_entry) ≡ 192 = omega (arith, sum) in
    let made : set (set zeros 10 255) 11 255 ≡ end_entry ++ replicate 192 0 = refl in
    ap (λ (bytes : List ℕ). set bytes 43 255) (set-append_right entry zeros 32 42 255 size (omega arith))
    ∙ set-append_right entry (set zeros 10 255) 32 43 255 size (omega arith)
    ∙ ap (λ (bytes : List ℕ). entry ++ bytes) made
    ∙ sym (append_assoc entry end_entry (replicate 192 0))
    ∙ ap (λ (k : ℕ). (entry ++ end_entry) ++ replicate k 0) (sym rest)
    ∙ sym (piece_short (entry ++ end_entry) (omega (arith, sum)))

-- record 0 can be read
pub fresh_is_readable : (n : ℕ) (label : List ℕ) (slots : ℕ) → length label ≡ 6 → 0 < slots → is_too_long n slots ≡ false
    → is_readable n (fresh_header n label (records_for_slots slots)) ≡ true
fresh_is_readable n label slots six some fits = (format_is_adopted n label slots (six, some) fits).volume.legal.readable
