-- What a record belongs to, slot by slot.
use Rattle.std.proofs.Common.{◌≡◌, ◌<◌, ◌≤◌, ◌+◌, ◌++◌, ◌∙◌, ◌||◌, ◌&&◌, nat_le, nat_lt, ℕ, suc, Bool, true, false, if◌then◌else◌, List, [], ◌∷◌, drop, Some, ap, sym, arith}
use Rattle.std.specs.Prelude.{slice_get}
use Rattle.std.specs.List.{list_any}
use Rattle.std.proofs.lemmas.Bool.{le-leb, lt-leb}
use Rattle.lif_model.specs.Legal.{end_of}
use Rattle.lif_dir.specs.Entries.{entry_bytes}
use Rattle.lif_dir.proofs.Bytes.{HasWidths, start_back}
use Rattle.lif_dir.specs.declared.entries.FileEntry.{FileEntry}
use Rattle.lif_dir.specs.declared.entries.Slot.{Slot}
use Rattle.tape_text.specs.declared.holders.Holder.TheVariants as holder
use Rattle.tape_text.specs.Listing.{shown_slot, shown_files}
use Rattle.tape_text.specs.Map.{has_record, file_holding}
use Rattle.tape_text.proofs.Places.{pieces_left}

-- ---- one of the files has a property

-- the files from slot i on, if slot i has none
pub files_none : (all : Bool) (n : ℕ) (slots : List Slot) (i : ℕ) (x : Slot) → slice_get slots i ≡ Some x → shown_slot all n x ≡ [] → shown_files all n (drop i slots) ≡ shown_files all n (drop (i + 1) slots)
files_none all n slots i x e none = pieces_left (shown_slot all n) slots i x e ∙ ap (λ (files : List FileEntry). files ++ shown_files all n (drop (i + 1) slots)) none

-- and if it has one
pub files_one : (all : Bool) (n : ℕ) (slots : List Slot) (i : ℕ) (x : Slot) (file : FileEntry) → slice_get slots i ≡ Some x → shown_slot all n x ≡ file ∷ []
    → shown_files all n (drop i slots) ≡ file ∷ shown_files all n (drop (i + 1) slots)
files_one all n slots i x file e one = pieces_left (shown_slot all n) slots i x e ∙ ap (λ (files : List FileEntry). files ++ shown_files all n (drop (i + 1) slots)) one

module _ (p : FileEntry → Bool) (all : Bool) (n : ℕ) (slots : List Slot) (i : ℕ) (x : Slot) (e : slice_get slots i ≡ Some x) where
  pub any_skips : shown_slot all n x ≡ [] → list_any p (shown_files all n (drop (i + 1) slots)) ≡ list_any p (shown_files all n (drop i slots))
  any_skips none = sym (ap (list_any p) (files_none all n slots i x e none))

  pub any_passes : (file : FileEntry) → shown_slot all n x ≡ file ∷ [] → p file ≡ false → list_any p (shown_files all n (drop (i + 1) slots)) ≡ list_any p (shown_files all n (drop i slots))
  any_passes file one fails = sym (ap (list_any p) (files_one all n slots i x file e one) ∙ ap (λ b. b || list_any p (shown_files all n (drop (i + 1) slots))) fails)

  pub any_finds : (file : FileEntry) → shown_slot all n x ≡ file ∷ [] → p file ≡ true → list_any p (shown_files all n (drop i slots)) ≡ true
  any_finds file one passes = ap (list_any p) (files_one all n slots i x file e one) ∙ ap (λ b. b || list_any p (shown_files all n (drop (i + 1) slots))) passes

-- ---- the file that holds a record

module _ (k number n : ℕ) (slots : List Slot) (i : ℕ) (x : Slot) (e : slice_get slots i ≡ Some x) where
  pub holding_skips : shown_slot false n x ≡ [] → file_holding k number (shown_files false n (drop (i + 1) slots)) ≡ file_holding k number (shown_files false n (drop i slots))
  holding_skips none = sym (ap (file_holding k number) (files_none false n slots i x e none))

  pub holding_passes : (file : FileEntry) → shown_slot false n x ≡ file ∷ [] → has_record k file ≡ false
      → file_holding k (number + 1) (shown_files false n (drop (i + 1) slots)) ≡ file_holding k number (shown_files false n (drop i slots))
  holding_passes file one fails =
      let rest = shown_files false n (drop (i + 1) slots) in
      let next : suc number ≡ number + 1 = omega arith in
      sym (ap (file_holding k number) (files_one false n slots i x file e one)
      ∙ ap (λ (b : Bool). if b then holder.File number file else file_holding k (suc number) rest) fails
      ∙ ap (λ (j : ℕ). file_holding k j rest) next)

  pub holding_finds : (file : FileEntry) → shown_slot false n x ≡ file ∷ [] → has_record k file ≡ true → file_holding k number (shown_files false n (drop i slots)) ≡ holder.File number file
  holding_finds file one passes =
      let rest = shown_files false n (drop (i + 1) slots) in
      ap (file_holding k number) (files_one false n slots i x file e one)
      ∙ ap (λ (b : Bool). if b then holder.File number file else file_holding k (suc number) rest) passes

-- ---- by the fields of an entry

pub has_by_fields : (k : ℕ) (file : FileEntry) → HasWidths file → has_record k file ≡ (nat_le file.start k && nat_lt k (end_of (entry_bytes file)))
has_by_fields k file widths = ap (λ (start : ℕ). nat_le start k && nat_lt k (end_of (entry_bytes file))) (start_back file widths)

pub has_from : (k : ℕ) (file : FileEntry) → HasWidths file → file.start ≤ k → nat_lt k (end_of (entry_bytes file)) ≡ has_record k file
has_from k file widths from = sym (has_by_fields k file widths ∙ ap (λ (b : Bool). b && nat_lt k (end_of (entry_bytes file))) (le-leb file.start k from))

pub has_not : (k : ℕ) (file : FileEntry) → HasWidths file → k < file.start → false ≡ has_record k file
has_not k file widths before = sym (has_by_fields k file widths ∙ ap (λ (b : Bool). b && nat_lt k (end_of (entry_bytes file))) (lt-leb file.start k before))
