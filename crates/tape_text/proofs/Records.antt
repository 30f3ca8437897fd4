-- A text record by record, and a legend file by file: what one more adds.
use Rattle.std.proofs.Common.{◌≡◌, ◌+◌, ◌++◌, ◌∙◌, ℕ, zero, suc, false, List, [], ◌∷◌, length, take, Some, ap, sym, arith}
use Rattle.std.specs.Prelude.{slice_get}
use Rattle.std.proofs.lemmas.List.{append_assoc, append-nil}
use Rattle.lif_dir.specs.declared.entries.FileEntry.{FileEntry}
use Rattle.lif_dir.specs.declared.entries.Slot.{Slot}
use Rattle.tape_text.specs.declared.columns.Widths.{Widths}
use Rattle.tape_text.specs.Listing.{shown_slot, shown_files}
use Rattle.tape_text.specs.Map.{for_records, legend_from, legend_line}
use Rattle.tape_text.proofs.Places.{pieces_next}

records_push : (text : ℕ → List ℕ) (k count : ℕ) → for_records text k (suc count) ≡ for_records text k count ++ text (k + count)
records_push text k zero =
    let same : k ≡ k + 0 = omega arith in
    append-nil (text k) ∙ ap text same
records_push text k (suc count) =
    let same : suc k + count ≡ k + suc count = omega arith in
    ap (λ (l : List ℕ). text k ++ l) (records_push text (suc k) count ∙ ap (λ (j : ℕ). for_records text (suc k) count ++ text j) same)
    ∙ sym (append_assoc (text k) (for_records text (suc k) count) (text (k + suc count)))

-- one record more
pub records_next : (text : ℕ → List ℕ) (count : ℕ) → for_records text 0 (count + 1) ≡ for_records text 0 count ++ text count
records_next text count =
    let one : count + 1 ≡ suc count = omega arith in
    let same : 0 + count ≡ count = omega arith in
    ap (for_records text 0) one ∙ records_push text 0 count ∙ ap (λ (j : ℕ). for_records text 0 count ++ text j) same

legend_append : (w : Widths) (i : ℕ) (files more : List FileEntry) → legend_from w i (files ++ more) ≡ legend_from w i files ++ legend_from w (i + length files) more
legend_append w i [] more =
    let same : i ≡ i + 0 = omega arith in
    ap (λ (j : ℕ). legend_from w j more) same
legend_append w i (file ∷ files) more =
    let same : suc i + length files ≡ i + length (file ∷ files) = omega arith in
    ap (λ (l : List ℕ). legend_line w i file ++ l) (legend_append w (suc i) files more ∙ ap (λ (j : ℕ). legend_from w (suc i) files ++ legend_from w j more) same)
    ∙ sym (append_assoc (legend_line w i file) (legend_from w (suc i) files) (legend_from w (i + length (file ∷ files)) more))

-- one slot more
pub legend_next : (w : Widths) (n : ℕ) (slots : List Slot) (i : ℕ) (x : Slot) → slice_get slots i ≡ Some x
    → legend_from w 0 (shown_files false n (take (i + 1) slots))
    ≡ legend_from w 0 (shown_files false n (take i slots)) ++ legend_from w (length (shown_files false n (take i slots))) (shown_slot false n x)
legend_next w n slots i x e =
    let files = shown_files false n (take i slots) in
    let same : 0 + length (shown_files false n (take i slots)) ≡ length (shown_files false n (take i slots)) = omega arith in
    ap (legend_from w 0) (pieces_next (shown_slot false n) slots i x e) ∙ legend_append w 0 files (shown_slot false n x)
    ∙ ap (λ (j : ℕ). legend_from w 0 files ++ legend_from w j (shown_slot false n x)) same
