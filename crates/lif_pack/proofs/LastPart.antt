-- The last commit of a move: the rest of the records, an entry without a mark, and the file's new start.
use Rattle.std.proofs.Common.{◌≡◌, ◌⊎◌, ◌<◌, ◌≤◌, ◌+◌, ◌-◌, ◌%◌, ◌++◌, ◌==◌, ℕ, List, [], ◌∷◌, Bool, true, false, if◌then◌else◌, length, take, replicate, inl, inr, refl, sym, ◌∙◌, ap, subst, arith}
use Rattle.std.proofs.lemmas.Bool.{cases_eq, cases_Bool, eq-eqb, ne_eqb, eqb-true}
use Rattle.lif_model.specs.Tape.{Tape, IsTape, record_at}
use Rattle.lif_model.specs.Directory.{entry_at}
use Rattle.lif_model.specs.declared.version.Version.TheVariants.{Two}
use Rattle.lif_model.specs.Redo.{Changes, changed, are_targets, settled, redo_start}
use Rattle.lif_model.specs.Commit.{IsCommitted, IsOldOrNew}
use Rattle.lif_model.proofs.Redo.{length_settled, length_changed}
use Rattle.lif_model.specs.Writing.{SlotWrites, with_entry, slot_record, entry_from, with_slots, with_records}
use Rattle.lif_model.proofs.Writing.{rewritten, slots_record, slots_elsewhere, length_slots, entry_other}
use Rattle.lif_model.specs.Packing.{records_from, unmarked, with_start}
use Rattle.lif_pack.specs.declared.marks.Move.{Move}
use Rattle.lif_pack.specs.Moving.{IsMidwayOrMore, IsMidwayOrMoved, IsUnderWay, with_mark, with_target, with_start_in, numbers_from, numbered_from, MayMove, IsMovedTo, IsMidway, HasMoved}
use Rattle.lif_pack.specs.Tasks.{IsCleared, IsClearedOrOld}
use Rattle.lif_pack.proofs.Carrying.{changed_append, changed_numbered, one_and_numbers, two_and_numbers, length_numbers}
use Rattle.lif_pack.proofs.MovedParts.{midway_same, entry_twice, written_other, part_moves, at_within, whole_u, redo_record, redo_entry_is, changes_two}

module _ (n first end redo : ℕ) (move : Move) (j : ℕ) (u t : Tape) (tape_u : IsTape n u) (tape_t : IsTape n t) (may : MayMove n first end redo move)
    (was : IsMidway first end redo move j u t) where
  abbrev at : ℕ
  at = slot_record first redo

  abbrev row : ℕ
  row = slot_record first move.slot

  abbrev zero_mark : List ℕ
  zero_mark = replicate 4 0

  -- as they are read midway, and as they stood
  abbrev writes : SlotWrites
  writes = (redo, with_mark zero_mark (entry_from t first redo)) ∷ (move.slot, with_start move.place (entry_from t first move.slot)) ∷ []

  abbrev later : SlotWrites
  later = (redo, unmarked (entry_from u first redo)) ∷ (move.slot, with_start move.place (entry_from u first move.slot)) ∷ []

  within : at < n
  within = at_within n first end redo move j u t tape_u may was

  whole : length (record_at u at) ≡ 256
  whole = whole_u n first end redo move j u t tape_u may was

  same_redo : with_mark zero_mark (entry_from t first redo) ≡ unmarked (entry_from u first redo)
  unfolding with_mark unmarked
  same_redo = ap (λ (e : List ℕ). take 28 e ++ zero_mark) (redo_entry_is n first end redo move j u t tape_u may was) ∙ ap (λ (e : List ℕ). e ++ zero_mark) was.rest

  same_file : entry_from t first move.slot ≡ entry_from u first move.slot
  same_file = elim (cases_eq row at) [
    | inl e ↦
        let column : redo % 8 < 8 = omega arith in
        ap (λ (m : ℕ). entry_at (record_at t m) (move.slot % 8)) e ∙ ap (λ (b : List ℕ). entry_at b (move.slot % 8)) (redo_record n first end redo move j u t tape_u may was)
        ∙ entry_other (record_at u at) (redo % 8) was.entry whole column was.size (move.slot % 8) (omega arith) (λ q. may.other (omega (arith, q, e)))
        ∙ sym (ap (λ (m : ℕ). entry_at (record_at u m) (move.slot % 8)) e)
    | inr off ↦ ap (λ (b : List ℕ). entry_at b (move.slot % 8))
        (was.tape.directory row (omega arith) may.file_slot ∙ written_other n first end redo u tape_u within was.entry row off)
  ]

  same_writes : writes ≡ later
  same_writes = λ i. (redo, same_redo i) ∷ (move.slot, with_start move.place (same_file i)) ∷ []

  -- the mark that stood midway is written over
  pub written_over : (k : ℕ) → first ≤ k → k < end → record_at (with_slots first writes t) k ≡ record_at (with_slots first later u) k
  written_over k le lt =
      let under : k < n = omega (arith, lt, may.above, may.down, may.part, may.below) in
      slots_record first writes t k (omega (arith, under, tape_t.records)) ∙ ap (λ (ws : SlotWrites). rewritten first ws k (record_at t k)) same_writes
      ∙ ap (rewritten first later k) (was.tape.directory k le lt ∙ slots_record first ((redo, was.entry) ∷ []) u k (omega (arith, under, tape_u.records)))
      ∙ ap (rewritten first ((move.slot, with_start move.place (entry_from u first move.slot)) ∷ []) k) (over (cases_Bool (at == k)))
      ∙ sym (slots_record first later u k (omega (arith, under, tape_u.records)))
    where
      new : List ℕ
      new = unmarked (entry_from u first redo)

      column : redo % 8 < 8
      column = omega arith

      by : Bool → List ℕ
      by b = if b then with_entry (if b then with_entry (record_at u k) (redo % 8) was.entry else record_at u k) (redo % 8) new
          else (if b then with_entry (record_at u k) (redo % 8) was.entry else record_at u k)

      over : (at == k ≡ true) ⊎ (at == k ≡ false) → by (at == k) ≡ (if at == k then with_entry (record_at u k) (redo % 8) new else record_at u k)
      over (inl e) =
          let long : length (record_at u k) ≡ 256 = ap (λ (m : ℕ). length (record_at u m)) (sym (eqb-true at k e)) ∙ whole in
          ap by e ∙ entry_twice (record_at u k) (redo % 8) long column was.entry new was.size
          ∙ sym (ap (λ (b : Bool). if b then with_entry (record_at u k) (redo % 8) new else record_at u k) e)
      over (inr e) = ap by e ∙ sym (ap (λ (b : Bool). if b then with_entry (record_at u k) (redo % 8) new else record_at u k) e)

  directory_alone : (k : ℕ) → (k < first) ⊎ (end ≤ k) → record_at (with_slots first writes t) k ≡ record_at t k
  directory_alone k out = slots_elsewhere first writes t k (
    λ e. elim out [ inl under ↦ absurd (omega (arith, e, under)) | inr over ↦ absurd (omega (arith, e, over, may.redo_slot)) ],
    (λ e. elim out [ inl under ↦ absurd (omega (arith, e, under)) | inr over ↦ absurd (omega (arith, e, over, may.file_slot)) ], tt),
  )

  abbrev front : Changes
  front = with_start_in first move.slot move.place t ((at, with_entry (record_at t at) (redo % 8) (with_mark zero_mark (entry_from t first redo))) ∷ [])

  pub part_ends : (x : Tape) → move.moved ≤ j → j ≤ move.length
      → length x ≡ length t → ((k : ℕ) → k < redo_start Two (length t) → record_at x k ≡ record_at (changed (front ++ numbered_from (move.place + j) (records_from t (move.start + j) (move.length - j))) t) k)
      → HasMoved first end redo move u x
  part_ends x begun less size_x below =
      let left : ℕ = move.length - j in
      let all : j + left ≡ move.length = omega (arith, less) in
      let tail : Changes = numbered_from (move.place + j) (records_from t (move.start + j) left) in
      let z : Tape = with_slots first writes t in
      let makes : changed (front ++ tail) t ≡ with_records (move.place + j) (records_from t (move.start + j) left) z =
      changed_append front tail t
      ∙ ap (changed tail) (changes_two n first redo move.slot move.place t zero_mark tape_t within (λ e. may.other (sym e)) refl)
      ∙ changed_numbered (move.place + j) (records_from t (move.start + j) left) z in
      subst (λ (m : ℕ). IsMovedTo first end move m later u x) all
      (part_moves n first end redo move j left u t x z tape_u tape_t may begun (omega (arith, all)) (length_slots first writes t ∙ tape_t.records) directory_alone
      (front ++ tail) size_x below makes ((redo, was.entry) ∷ []) later was.tape written_over)

-- what a stop within it leaves
pub last_stops : (n first end redo : ℕ) (move : Move) (j : ℕ) (u t : Tape) (tape_u : IsTape n u) (tape_t : IsTape n t) (may : MayMove n first end redo move)
    (was : IsMidway first end redo move j u t) → move.moved ≤ j → j ≤ move.length
    → (y : Tape) → IsOldOrNew Two (front n first end redo move j u t tape_u tape_t may was ++ numbered_from (move.place + j) (records_from t (move.start + j) (move.length - j))) t y
    → IsMidwayOrMoved first end redo move j u y
last_stops n first end redo move j u t tape_u tape_t may was begun less y (inl old) =
    inl (midway_same n first end redo move j u t (settled y) tape_u may less was (length_settled y ∙ old.records) old.same)
last_stops n first end redo move j u t tape_u tape_t may was begun less y (inr new) =
    let size = length_changed (front n first end redo move j u t tape_u tape_t may was ++ numbered_from (move.place + j) (records_from t (move.start + j) (move.length - j))) t in
    inr (part_ends n first end redo move j u t tape_u tape_t may was (settled y) begun less (length_settled y ∙ new.records ∙ size) (λ k lt. new.same k (omega (arith, lt, size))))

-- ---- they may be the targets of a commit

pub last_targets : (n first end redo : ℕ) (move : Move) (j count : ℕ) → MayMove n first end redo move → j + count ≤ move.length → count ≤ 30
    → are_targets Two n (with_target (slot_record first move.slot) (slot_record first redo ∷ []) ++ numbers_from (move.place + j) count) ≡ true
last_targets n first end redo move j count may less few = elim (cases_eq (slot_record first redo) (slot_record first move.slot)) [
  | inl e ↦ ap (λ (b : Bool). are_targets Two n (by b ++ numbers_from (move.place + j) count)) (eq-eqb (slot_record first redo) (slot_record first move.slot) e)
      ∙ one_and_numbers n (slot_record first redo) (move.place + j) count (omega (arith, may.redo_slot, may.above)) (omega (arith, less, may.down, may.below)) (omega (arith, few))
  | inr off ↦ ap (λ (b : Bool). are_targets Two n (by b ++ numbers_from (move.place + j) count)) (ne_eqb (slot_record first redo) (slot_record first move.slot) off)
      ∙ two_and_numbers n (slot_record first redo) (slot_record first move.slot) (move.place + j) count off (omega (arith, may.redo_slot, may.above)) (omega (arith, may.file_slot, may.above))
      (omega (arith, less, may.down, may.below)) few
]
  where
    by : Bool → List ℕ
    by b = if b then slot_record first redo ∷ [] else slot_record first redo ∷ slot_record first move.slot ∷ []

-- at most two of them are of the directory
pub few_targets : (row at k count : ℕ) → length (with_target row (at ∷ []) ++ numbers_from k count) ≤ count + 2
few_targets row at k count = go (at == row)
  where
    go : (b : Bool) → length ((if b then at ∷ [] else at ∷ row ∷ []) ++ numbers_from k count) ≤ count + 2
    go true = omega (arith, length_numbers k count)
    go false = omega (arith, length_numbers k count)

-- a commit that takes the mark off alone
pub part_clears : (first redo : ℕ) (t x : Tape)
    → IsCommitted Two ((slot_record first redo, with_entry (record_at t (slot_record first redo)) (redo % 8) (with_mark (replicate 4 0) (entry_from t first redo))) ∷ []) t x
    → IsCleared first redo t x
unfolding with_mark unmarked
part_clears first redo t x done = record { records = done.records; below = done.below }

-- and what a stop within that commit leaves
pub clear_stops : (first redo : ℕ) (t y : Tape)
    → IsOldOrNew Two ((slot_record first redo, with_entry (record_at t (slot_record first redo)) (redo % 8) (with_mark (replicate 4 0) (entry_from t first redo))) ∷ []) t y
    → IsClearedOrOld first redo t y
unfolding with_mark unmarked
clear_stops first redo t y (inl old) = inl old
clear_stops first redo t y (inr new) =
    let size : length (with_slots first ((redo, unmarked (entry_from t first redo)) ∷ []) t) ≡ length t = length_slots first ((redo, unmarked (entry_from t first redo)) ∷ []) t in
    inr (record { records = length_settled y ∙ new.records ∙ size; below = λ k lt. new.same k (omega (arith, lt, size)) })

-- ---- what a stop within any of them leaves

pub more_is_under_way : (first end redo : ℕ) (move : Move) (j count : ℕ) (u y : Tape) → move.moved ≤ j → j + count < move.length
    → IsMidwayOrMore first end redo move j count u y → IsUnderWay first end redo move u y
more_is_under_way first end redo move j count u y begun less (inl was) = inl (j, begun, omega (arith, less), was)
more_is_under_way first end redo move j count u y begun less (inr now) = inl (j + count, omega (arith, begun), less, now)

pub moved_is_under_way : (first end redo : ℕ) (move : Move) (j : ℕ) (u y : Tape) → move.moved ≤ j → j < move.length
    → IsMidwayOrMoved first end redo move j u y → IsUnderWay first end redo move u y
moved_is_under_way first end redo move j u y begun less (inl was) = inl (j, begun, less, was)
moved_is_under_way first end redo move j u y begun less (inr now) = inr now
