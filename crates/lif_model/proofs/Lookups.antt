-- Look-ups of a name in a directory: the slot that is found, its place, and the file.
use Rattle.std.proofs.Common.{◌≡◌, ◌<◌, ◌&&◌, ℕ, suc, List, [], ◌∷◌, Bool, true, false, not, if◌then◌else◌, Some, None, length, get_or, inl, inr, refl, sym, ◌∙◌, ap, arith}
use Rattle.std.specs.Prelude.{option_map, find}
use Rattle.std.specs.List.{position_or_len}
use Rattle.std.specs.FinMap.{get}
use Rattle.std.specs.Str.{bytes_eq}
use Rattle.std.proofs.lemmas.Bool.{cases_Bool, and_right, false_from_ne_true}
use Rattle.std.proofs.lemmas.List.Folds.{find_at}
use Rattle.std.proofs.lemmas.List.Sums.{position_or_len_is}
use Rattle.std.proofs.lemmas.Option.{slice_get-get_or}
use Rattle.std.proofs.lemmas.Slice.Eq.{bytes_eq-Decides}
use Rattle.lif_model.specs.Tape.{Tape}
use Rattle.lif_model.specs.Directory.{name_of}
use Rattle.lif_model.specs.Legal.{is_live, is_live_named, has_file, slot_named}
use Rattle.lif_model.specs.Volume.{is_redo_file, is_adopted, is_file, file_named, content_of, files_of, Volume, volume_in}
use Rattle.lif_model.specs.Apply.{is_protected}
use Rattle.lif_model.proofs.Lists.{none_at}
use Rattle.lif_model.proofs.Adopted.{redo_file_tells, position_tells}
use Rattle.lif_model.proofs.Apply.{not_redo_name}
use Rattle.lif_model.proofs.Directory.{volume_tells}
use Rattle.lif_model.proofs.Files.{get_file}
use Rattle.lif_model.proofs.Named.{not_found}

-- ---- the slot of a name

-- What the place of a name's slot is, where a live file has that name (for `fetch`, `rename` and
-- `purge`).
pub record IsSlotOf (slots : List (List ℕ)) (name : List ℕ) (k : ℕ) : Type 0 where
  pub within : k < length slots
  pub live : is_live_named name (get_or slots k []) ≡ true
  pub found : slot_named slots name ≡ Some (get_or slots k [])

pub slot_is_at : (slots : List (List ℕ)) (name : List ℕ) → has_file slots name ≡ true → IsSlotOf slots name (position_or_len (is_live_named name) slots)
slot_is_at slots name has =
    let tells = position_tells [] (is_live_named name) slots has in
    record {
      within = tells.0;
      live = tells.1;
      found = find_at (is_live_named name) slots ∙ slice_get-get_or slots (position_or_len (is_live_named name) slots) [] tells.0;
    }

-- where no live file has it, no slot is found, and the search ends after the last slot
pub no_slot_has : (slots : List (List ℕ)) (name : List ℕ) → has_file slots name ≡ false → (slot_named slots name ≡ None) × (position_or_len (is_live_named name) slots ≡ length slots)
no_slot_has slots name none = (
  not_found (is_live_named name) slots (λ k lt. none_at [] (is_live_named name) slots k none lt),
  position_or_len_is (is_live_named name) slots (length slots) [] (omega arith) (λ k lt. none_at [] (is_live_named name) slots k none lt) (λ lt. absurd (omega (arith, lt))),
)

-- ---- the file of a name

find_same : (p q : List ℕ → Bool) (xs : List (List ℕ)) → ((k : ℕ) → k < length xs → p (get_or xs k []) ≡ q (get_or xs k [])) → find p xs ≡ find q xs
find_same p q [] same = refl
find_same p q (x ∷ xs) same =
    let rest : find p xs ≡ find q xs = find_same p q xs (λ k lt. same (suc k) (omega (arith, lt))) in
    let here : p x ≡ q x = same 0 (omega arith) in
    λ i. if here i then Some x else rest i

one_test : (n : ℕ) (name slot : List ℕ) → (name_of slot ≡ name → is_redo_file n slot ≡ false) → (is_file n slot && bytes_eq name (name_of slot)) ≡ is_live_named name slot
one_test n name slot off = elim (cases_Bool (bytes_eq (name_of slot) name)) [
  | inl e ↦
      let same : name_of slot ≡ name = (bytes_eq-Decides (name_of slot) name).0 e in
      let back : bytes_eq name (name_of slot) ≡ true = (bytes_eq-Decides name (name_of slot)).1 (sym same) in
      (λ i. (is_live slot && not (off same i)) && back i) ∙ and_true (is_live slot) ∙ sym (ap (λ (b : Bool). is_live slot && b) e)
  | inr e ↦
      let back : bytes_eq name (name_of slot) ≡ false = false_from_ne_true _ (λ on.
      let no : true ≡ false = sym ((bytes_eq-Decides (name_of slot) name).1 (sym ((bytes_eq-Decides name (name_of slot)).0 on))) ∙ e in cc) in
      and_right (is_file n slot) _ back ∙ sym (and_right (is_live slot) _ e)
]
  where
    and_true : (b : Bool) → ((b && true) && true) ≡ (b && true)
    and_true true = refl
    and_true false = refl

-- The file of a name that is not the redo file's is the live slot of that name (for `fetch`,
-- `rename` and `purge`, after the test for Protected; a volume without a redo file protects no
-- name).
pub file_is_slot : (n : ℕ) (v : Volume) (name : List ℕ) → is_protected n v name ≡ false → file_named n v.slots name ≡ slot_named v.slots name
file_is_slot n v name off = find_same (λ slot. is_file n slot && bytes_eq name (name_of slot)) (is_live_named name) v.slots (λ k lt.
    one_test n name (get_or v.slots k []) (λ named. not_redo k lt named))
  where
    not_redo : (k : ℕ) → k < length v.slots → name_of (get_or v.slots k []) ≡ name → is_redo_file n (get_or v.slots k []) ≡ false
    not_redo k lt named = elim (cases_Bool (is_adopted n v.slots)) [
      | inl adopted ↦ false_from_ne_true _ (λ redo. not_redo_name n v name adopted off (sym named ∙ (redo_file_tells n (get_or v.slots k []) redo).0))
      | inr foreign ↦ none_at [] (is_redo_file n) v.slots k foreign lt
    ]

-- what `fetch` reads: the records of the slot that the look-up finds hold all bytes of the file
pub fetched_bytes : (n : ℕ) (u : Tape) (v : Volume) (name : List ℕ) → length u ≡ n → volume_in u ≡ Some v → is_protected n v name ≡ false → has_file v.slots name ≡ true
    → get v.files name ≡ Some (content_of u (get_or v.slots (position_or_len (is_live_named name) v.slots) []))
fetched_bytes n u v name size told off has =
    let tells = volume_tells u v told in
    let files : v.files ≡ files_of u v.slots = tells.3 ∙ ap (files_of u) (sym tells.2) in
    (λ i. get (files i) name) ∙ get_file u v.slots n name (sym size) ∙ ap (option_map (content_of u)) (file_is_slot n v name off ∙ (slot_is_at v.slots name has).found)
