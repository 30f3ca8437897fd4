-- What the volume of a tape depends on.
use Rattle.std.proofs.Common.{◌≡◌, ◌<◌, ◌≤◌, ◌+◌, ◌++◌, ◌&&◌, ◌==◌, ℕ, zero, suc, List, [], ◌∷◌, Bool, true, false, if◌then◌else◌, Some, length, map, filter, inl, inr, refl, sym, ◌∙◌, ap, arith}
use Rattle.std.specs.FinMap.{from_entries}
use Rattle.std.specs.List.{list_any}
use Rattle.std.proofs.lemmas.Bool.{and_from, or_left, or_right, le-leb, lt-ltb, cases_Bool}
use Rattle.lif_model.specs.Tape.{Tape, record_at, bytes_from}
use Rattle.lif_model.specs.Gate.{gate_of, has_open_gate}
use Rattle.lif_model.specs.Header.{directory_start, directory_length, directory_end}
use Rattle.lif_model.specs.Directory.{name_of, start_of, length_of, entries_of, entries_from, before_end, slots_of}
use Rattle.lif_model.specs.Redo.{targets_place, Invalid, targets_of, held_by, redo_of, IsSettled}
use Rattle.lif_model.specs.Legal.{end_of, holds, is_legal_with, is_legal}
use Rattle.lif_model.specs.Volume.{is_file, content_of, files_of, volume_if, volume_in, volume_of, is_used}
use Rattle.lif_model.proofs.Redo.{named_at, redo_closed, redo_open, settled_none, settled_gate_or_targets, same_gate}

-- ---- slots

entries_agree : (x y : Tape) (k n : ℕ) → ((j : ℕ) → k ≤ j → j < k + n → record_at x j ≡ record_at y j) → entries_from x k n ≡ entries_from y k n
entries_agree x y k zero same = refl
entries_agree x y k (suc n) same =
    let here : record_at x k ≡ record_at y k = same k (omega arith) (omega arith) in
    let rest : entries_from x (suc k) n ≡ entries_from y (suc k) n = entries_agree x y (suc k) n (λ j le lt. same j (omega arith) (omega arith)) in
    λ i. entries_of (here i) ++ rest i

-- the slots of a tape depend on record 0 and on the directory alone
pub slots_agree : (x y : Tape) → record_at x 0 ≡ record_at y 0
    → ((k : ℕ) → directory_start (record_at y 0) ≤ k → k < directory_end (record_at y 0) → record_at x k ≡ record_at y k) → slots_of x ≡ slots_of y
slots_agree x y header same =
    ap (λ (h : List ℕ). before_end (entries_from x (directory_start h) (directory_length h))) header
    ∙ ap before_end (entries_agree x y (directory_start (record_at y 0)) (directory_length (record_at y 0)) same)

-- ---- files

bytes_agree : (x y : Tape) (k n : ℕ) → ((j : ℕ) → k ≤ j → j < k + n → record_at x j ≡ record_at y j) → bytes_from x k n ≡ bytes_from y k n
bytes_agree x y k zero same = refl
bytes_agree x y k (suc n) same =
    let here : record_at x k ≡ record_at y k = same k (omega arith) (omega arith) in
    let rest : bytes_from x (suc k) n ≡ bytes_from y (suc k) n = bytes_agree x y (suc k) n (λ j le lt. same j (omega arith) (omega arith)) in
    λ i. here i ++ rest i

-- the bytes of a slot depend on its extent alone
pub content_agree : (x y : Tape) (slot : List ℕ) → ((k : ℕ) → holds k slot ≡ true → record_at x k ≡ record_at y k) → content_of x slot ≡ content_of y slot
content_agree x y slot same = bytes_agree x y (start_of slot) (length_of slot) (λ j le lt. same j (and_from _ _ (le-leb (start_of slot) j le) (lt-ltb j (end_of slot) lt)))

abbrev pub entries_at : ℕ → Tape → List (List ℕ) → List (List ℕ × List ℕ)
entries_at n tape slots = map (λ slot. (name_of slot, content_of tape slot)) (filter (is_file n) slots)

pub map_agrees : (n : ℕ) (x y : Tape) (slots : List (List ℕ)) → ((k : ℕ) → list_any (λ slot. is_file n slot && holds k slot) slots ≡ true → record_at x k ≡ record_at y k)
    → entries_at n x slots ≡ entries_at n y slots
map_agrees n x y [] same = refl
map_agrees n x y (slot ∷ slots) same =
    go (is_file n slot) refl (map_agrees n x y slots (λ k on. same k (or_right (is_file n slot && holds k slot) _ on)))
  where
    go : (b : Bool) → is_file n slot ≡ b → entries_at n x slots ≡ entries_at n y slots
        → map {B = List ℕ × List ℕ} (λ s. (name_of s, content_of x s)) (if b then slot ∷ filter (is_file n) slots else filter (is_file n) slots)
        ≡ map {B = List ℕ × List ℕ} (λ s. (name_of s, content_of y s)) (if b then slot ∷ filter (is_file n) slots else filter (is_file n) slots)
    go false e rest = rest
    go true e rest =
        let here : content_of x slot ≡ content_of y slot = content_agree x y slot (λ k on. same k (or_left (is_file n slot && holds k slot) _ (and_from _ _ e on))) in
        λ i. (name_of slot, here i) ∷ rest i

-- ---- volumes

volume_by : (b : Bool) (x y : Tape) → record_at x 0 ≡ record_at y 0 → slots_of x ≡ slots_of y → files_of x (slots_of x) ≡ files_of y (slots_of y) → volume_if b x ≡ volume_if b y
volume_by false x y header slots files = refl
volume_by true x y header slots files = λ i. Some (record { header = header i; slots = slots i; files = files i })

-- two tapes that agree on all records that one of them uses have the same volume
pub volume_agrees : (x y : Tape) → length x ≡ length y → ((k : ℕ) → is_used y k ≡ true → record_at x k ≡ record_at y k) → volume_in x ≡ volume_in y
volume_agrees x y size same =
    let n = length y in
    let header : record_at x 0 ≡ record_at y 0 = same 0 refl in
    let slots : slots_of x ≡ slots_of y = slots_agree x y header
    (λ k le lt. same k (or_right (k == 0) _ (or_left _ _ (and_from _ _ (le-leb (directory_start (record_at y 0)) k le) (lt-ltb k (directory_end (record_at y 0)) lt))))) in
    let files : files_of x (slots_of x) ≡ files_of y (slots_of y) =
    (λ i. from_entries (entries_at (size i) x (slots i))) ∙ ap from_entries (map_agrees n x y (slots_of y) (λ k on. same k (or_right (k == 0) _ (or_right _ _ on)))) in
    let legal : is_legal x ≡ is_legal y = λ i. is_legal_with (size i) (header i) (slots i) in
    ap (λ (b : Bool). volume_if b x) legal ∙ volume_by (is_legal y) x y header slots files

-- the same of tapes on which no redo is open
pub volume_kept : (x y : Tape) → redo_of x ≡ [] → redo_of y ≡ [] → length x ≡ length y → ((k : ℕ) → is_used y k ≡ true → record_at x k ≡ record_at y k) → volume_of x ≡ volume_of y
volume_kept x y none_x none_y size same = ap volume_in (settled_none x none_x) ∙ volume_agrees x y size same ∙ sym (ap volume_in (settled_none y none_y))

-- ---- a record that the volume does not use

-- no redo is open where the targets are invalid
pub redo_invalid : (t : Tape) → targets_of (length t) (record_at t (targets_place (length t))) ≡ Invalid → redo_of t ≡ []
redo_invalid t invalid = elim (cases_Bool (has_open_gate t)) [
  | inl gate ↦ redo_open t gate ∙ ap (held_by (length t) t) invalid
  | inr gate ↦ redo_closed t gate
]

-- no redo is open on a tape that agrees with a settled one on the gate and on the targets record
pub quiet_agree : (t u : Tape) → IsSettled t → length u ≡ length t → record_at u (gate_of (length t)) ≡ record_at t (gate_of (length t))
    → record_at u (targets_place (length t)) ≡ record_at t (targets_place (length t)) → redo_of u ≡ []
quiet_agree t u is size gate names = elim (settled_gate_or_targets t is) [
  | inl shut ↦ redo_closed u (same_gate u t size gate ∙ shut)
  | inr invalid ↦ redo_invalid u (named_at (length t) u size ∙ ap (targets_of (length t)) names ∙ invalid)
]
