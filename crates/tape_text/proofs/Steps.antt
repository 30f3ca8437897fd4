-- A listing, slot by slot: what one slot more adds.
use Rattle.std.proofs.Common.{◌≡◌, ◌<◌, ◌+◌, ◌++◌, ◌∙◌, if◌then◌else◌, ℕ, Bool, List, [], ◌∷◌, true, false, take, map, get_or, length, Some, ap, sym, suc, refl, arith}
use Rattle.std.specs.Prelude.{fold, slice_get}
use Rattle.std.specs.List.{flat_map}
use Rattle.std.proofs.lemmas.Grind.{flat_map-append}
use Rattle.std.proofs.lemmas.List.{length-append, length-map, take_more, take-map}
use Rattle.std.proofs.lemmas.List.Sums.{fold-append, sum_by_more}
use Rattle.std.proofs.lemmas.Option.{slice_get_within, get_or_from_slice_get}
use Rattle.lif_model.specs.Directory.{is_purged}
use Rattle.lif_model.specs.Fit.{purged_from}
use Rattle.lif_dir.specs.Entries.{slot_bytes}
use Rattle.lif_dir.specs.declared.entries.Slot.{Slot}
use Rattle.tape_text.specs.declared.columns.Widths.{Widths}
use Rattle.tape_text.specs.Listing.{shown_slot, shown_files, widths_of, no_widths, wider, listed_line, slot_records, records_held}
use Rattle.tape_text.proofs.Places.{pieces_next}

pub widths_next : (all : Bool) (n : ℕ) (slots : List Slot) (i : ℕ) (x : Slot) → slice_get slots i ≡ Some x
    → widths_of (shown_files all n (take (i + 1) slots)) ≡ fold wider (widths_of (shown_files all n (take i slots))) (shown_slot all n x)
widths_next all n slots i x e =
    ap (fold wider no_widths) (pieces_next (shown_slot all n) slots i x e) ∙ fold-append wider no_widths (shown_files all n (take i slots)) (shown_slot all n x)

pub lines_next : (w : Widths) (all : Bool) (n : ℕ) (slots : List Slot) (i : ℕ) (x : Slot) → slice_get slots i ≡ Some x
    → flat_map (listed_line w) (shown_files all n (take (i + 1) slots)) ≡ flat_map (listed_line w) (shown_files all n (take i slots)) ++ flat_map (listed_line w) (shown_slot all n x)
lines_next w all n slots i x e =
    ap (flat_map (listed_line w)) (pieces_next (shown_slot all n) slots i x e) ∙ flat_map-append (listed_line w) (shown_files all n (take i slots)) (shown_slot all n x)

pub files_next : (all : Bool) (n : ℕ) (slots : List Slot) (i : ℕ) (x : Slot) → slice_get slots i ≡ Some x
    → length (shown_files all n (take (i + 1) slots)) ≡ length (shown_files all n (take i slots)) + length (shown_slot all n x)
files_next all n slots i x e = ap length (pieces_next (shown_slot all n) slots i x e) ∙ length-append (shown_files all n (take i slots)) (shown_slot all n x)

pub records_next : (slots : List Slot) (i : ℕ) (x : Slot) → slice_get slots i ≡ Some x → records_held (take (i + 1) slots) ≡ records_held (take i slots) + slot_records x
records_next slots i x e = sum_by_more slot_records slots i x (slice_get_within slots i x e) ∙ ap (λ (s : Slot). records_held (take i slots) + slot_records s) (get_or_from_slice_get slots i x x e)

count_if : (b : Bool) (k one : ℕ) (longer shorter : List ℕ) → length longer ≡ length shorter + one
    → length (if b then k ∷ longer else longer) ≡ length (if b then k ∷ shorter else shorter) + one
count_if true k one longer shorter e = omega (arith, e)
count_if false k one longer shorter e = e

purged_push : (k : ℕ) (slots : List (List ℕ)) (slot : List ℕ) → length (purged_from k (slots ++ slot ∷ [])) ≡ length (purged_from k slots) + (if is_purged slot then 1 else 0)
purged_push k [] slot = go (is_purged slot)
  where
    go : (b : Bool) → length (if b then k ∷ [] else []) ≡ 0 + (if b then 1 else 0)
    go true = refl
    go false = refl
purged_push k (x ∷ slots) slot =
    count_if (is_purged x) k (if is_purged slot then 1 else 0) (purged_from (suc k) (slots ++ slot ∷ [])) (purged_from (suc k) slots) (purged_push (suc k) slots slot)

pub purged_next : (slots : List Slot) (i : ℕ) (bytes : List ℕ) → i < length slots → bytes ≡ get_or (map slot_bytes slots) i []
    → length (purged_from 0 (map slot_bytes (take (i + 1) slots))) ≡ length (purged_from 0 (map slot_bytes (take i slots))) + (if is_purged bytes then 1 else 0)
purged_next slots i bytes lt is =
    ap (λ (s : List (List ℕ)). length (purged_from 0 s)) (sym (take-map slot_bytes (i + 1) slots) ∙ take_more (map slot_bytes slots) i [] (omega (arith, length-map slots slot_bytes))
    ∙ (λ j. take-map slot_bytes i slots j ++ sym is j ∷ []))
    ∙ purged_push 0 (map slot_bytes (take i slots)) bytes
