-- What one commit of a move leaves, where the tape stood midway.
use Rattle.std.proofs.Common.{◌≡◌, ◌≢◌, ◌⊎◌, ◌<◌, ◌≤◌, ◌+◌, ◌-◌, ◌*◌, ◌%◌, ◌++◌, ℕ, List, [], ◌∷◌, Bool, if◌then◌else◌, length, set, take, drop, inl, inr, refl, sym, ◌∙◌, ap, arith, length-append, length-take, length-set, get_or-set_same, get_or-set_other, append_assoc, set-set}
use Rattle.std.proofs.lemmas.Bool.{cases_eq, cases_lt, eq-eqb, ne_eqb}
use Rattle.std.proofs.lemmas.List.{take_at, take-append-drop, length-take-le, drop-drop}
use Rattle.std.proofs.lemmas.Slice.{drop-append-drop}
use Rattle.lif_model.specs.Tape.{Tape, IsTape, record_at}
use Rattle.lif_model.specs.Numbers.{two_at}
use Rattle.lif_model.specs.Made.{in_two}
use Rattle.lif_model.proofs.Made.{two_behind, two_first}
use Rattle.lif_model.specs.Directory.{entry_at}
use Rattle.lif_model.specs.declared.version.Version.TheVariants.{Two}
use Rattle.lif_model.specs.Redo.{Changes, redo_start, changed, settled}
use Rattle.lif_model.proofs.Redo.{length_settled, length_changed}
use Rattle.lif_model.specs.Commit.{SettlesBelow, IsOldOrNew}
use Rattle.lif_model.specs.Writing.{SlotWrites, with_entry, slot_record, entry_from, with_slots, with_records}
use Rattle.lif_model.proofs.Directory.{entry_size}
use Rattle.lif_model.proofs.Writing.{entry_here, entry_other}
use Rattle.lif_model.proofs.Recorded.{records_before, records_behind, records_replaced}
use Rattle.lif_model.specs.Packing.{records_from, with_start}
use Rattle.lif_pack.specs.declared.marks.Move.{Move}
use Rattle.lif_pack.specs.Moving.{IsMidwayOrMore, with_mark, with_start_in, numbered_from, MayMove, IsMarkedAs, IsMovedTo, IsMidway}
use Rattle.lif_pack.proofs.Pointwise.{length_from, record_from}
use Rattle.lif_pack.proofs.Carrying.{changed_numbered}

-- ---- one entry of a record

module _ (bytes : List ℕ) (k : ℕ) (whole : length bytes ≡ 256) (column : k < 8) where
  -- an entry that is written twice is the last one
  pub entry_twice : (a b : List ℕ) → length a ≡ 32 → with_entry (with_entry bytes k a) k b ≡ with_entry bytes k b
  unfolding with_entry
  entry_twice a b size =
      let front : List ℕ = take (32 * k) bytes in
      let rest : List ℕ = drop (32 * k + 32) bytes in
      let long : length front ≡ 32 * k = length-take-le (32 * k) bytes (omega (arith, whole, column)) in
      let first : take (32 * k) (front ++ (a ++ rest)) ≡ front = take_at front (a ++ rest) (32 * k) long in
      let last : drop (32 * k + 32) (front ++ (a ++ rest)) ≡ rest =
      ap (drop (32 * k + 32)) (sym (append_assoc front a rest))
      ∙ drop-append-drop (32 * k + 32) bytes (front ++ a) (32 * k + 32) (omega arith) (length-append front a ∙ omega (arith, long, size)) in
      λ i. first i ++ (b ++ last i)

  -- and one that is written as it was changes nothing
  pub entry_same : with_entry bytes k (entry_at bytes k) ≡ bytes
  unfolding with_entry entry_at
  entry_same =
      let rest : drop (32 * k + 32) bytes ≡ drop 32 (drop (32 * k) bytes) = sym (drop-drop 32 (32 * k) bytes) in
      ap (λ (r : List ℕ). take (32 * k) bytes ++ (take 32 (drop (32 * k) bytes) ++ r)) rest
      ∙ ap (λ (r : List ℕ). take (32 * k) bytes ++ r) (take-append-drop 32 (drop (32 * k) bytes)) ∙ take-append-drop (32 * k) bytes

-- ---- one slot of a tape

module _ (n first end redo : ℕ) (u : Tape) (tape : IsTape n u) (within : slot_record first redo < n) where
  abbrev row : ℕ
  row = slot_record first redo

  column : redo % 8 < 8
  column = omega arith

  whole : length (record_at u row) ≡ 256
  whole = tape.bytes row within

  pub written_here : (e : List ℕ) → record_at (with_slots first ((redo, e) ∷ []) u) row ≡ with_entry (record_at u row) (redo % 8) e
  written_here e = get_or-set_same u row (with_entry (record_at u row) (redo % 8) e) [] (omega (arith, within, tape.records))

  pub written_other : (e : List ℕ) (k : ℕ) → k ≢ row → record_at (with_slots first ((redo, e) ∷ []) u) k ≡ record_at u k
  written_other e k off = get_or-set_other u row k (with_entry (record_at u row) (redo % 8) e) [] off

  -- the slot as it stands changes nothing
  pub written_same : (k : ℕ) → record_at (with_slots first ((redo, entry_from u first redo) ∷ []) u) k ≡ record_at u k
  written_same k = elim (cases_eq k row) [
    | inl e ↦ ap (record_at (with_slots first ((redo, entry_from u first redo) ∷ []) u)) e ∙ written_here (entry_from u first redo)
        ∙ entry_same (record_at u row) (redo % 8) whole column ∙ ap (record_at u) (sym e)
    | inr off ↦ written_other (entry_from u first redo) k off
  ]

  pub midway_first : (move : Move) → (0 < move.moved → IsMarkedAs move.slot move.moved (entry_from u first redo)) → IsMidway first end redo move move.moved u u
  midway_first move marked = record {
    entry = entry_from u first redo;
    size = entry_size (record_at u row) (redo % 8) whole column;
    rest = refl;
    before = λ none. refl;
    mark = marked;
    tape = record {
      records = refl;
      moved = λ q le lt. absurd (omega (arith, le, lt));
      directory = λ k le lt. sym (written_same k);
      others = λ k lt out apart. refl;
    };
  }

-- ---- a part of the file

-- The tape z is t but for records of the directory; and then records of the file are written at their places.
module _ (n first end redo : ℕ) (move : Move) (j count : ℕ) (u t x z : Tape) (tape_u : IsTape n u) (tape_t : IsTape n t) (may : MayMove n first end redo move)
    (begun : move.moved ≤ j) (less : j + count ≤ move.length) (size_z : length z ≡ n)
    (elsewhere : (k : ℕ) → (k < first) ⊎ (end ≤ k) → record_at z k ≡ record_at t k) where
  abbrev y : Tape
  y = with_records (move.place + j) (records_from t (move.start + j) count) z

  below_n : redo_start Two n ≤ n
  below_n = omega arith

  long : length (records_from t (move.start + j) count) ≡ count
  long = length_from t (move.start + j) count

  y_before : (k : ℕ) → k < move.place + j → record_at y k ≡ record_at z k
  y_before k lt = records_before (move.place + j) (records_from t (move.start + j) count) z k lt

  y_after : (k : ℕ) → move.place + (j + count) ≤ k → record_at y k ≡ record_at z k
  y_after k le = records_behind (move.place + j) (records_from t (move.start + j) count) z k (omega (arith, le, long))

  y_within : (q : ℕ) → q < count → record_at y (move.place + j + q) ≡ record_at t (move.start + j + q)
  y_within q lt = (records_replaced (move.place + j) (records_from t (move.start + j) count) z
      (omega (arith, long, size_z, less, may.down, may.below, below_n))).within q (omega (arith, long, lt))
      ∙ record_from t (move.start + j) count q lt

  -- with the slots ws written before, and these others after it
  pub part_moves : (changes : Changes) → length x ≡ length t → ((k : ℕ) → k < redo_start Two (length t) → record_at x k ≡ record_at (changed changes t) k) → changed changes t ≡ y → (ws later : SlotWrites) → IsMovedTo first end move j ws u t
      → ((k : ℕ) → first ≤ k → k < end → record_at z k ≡ record_at (with_slots first later u) k)
      → IsMovedTo first end move (j + count) later u x
  part_moves changes size_x below makes ws later was directory = record {
    records = size_x ∙ was.records;
    moved = λ q le lt. elim (cases_lt q j) [
      | inl under ↦
          x_is (move.place + q) (omega (arith, under, less, may.down, may.below))
          ∙ y_before (move.place + q) (omega (arith, under)) ∙ elsewhere (move.place + q) (inr (omega (arith, may.above))) ∙ was.moved q le under
      | inr over ↦
          let m : ℕ = q - j in
          let to : move.place + q ≡ move.place + j + m = omega (arith, over) in
          let from : move.start + j + m ≡ move.start + q = omega (arith, over) in
          x_is (move.place + q) (omega (arith, lt, less, may.down, may.below))
          ∙ ap (record_at y) to ∙ y_within m (omega (arith, over, lt)) ∙ ap (record_at t) from
          ∙ was.others (move.start + q) (omega (arith, lt, less, may.below, tape_u.records)) (inr (omega (arith, may.above, may.down))) (inr (omega (arith, over, may.down)))
    ];
    directory = λ k le lt. x_is k (omega (arith, lt, may.above, may.down, may.below)) ∙ y_before k (omega (arith, lt, may.above)) ∙ directory k le lt;
    others = λ k lt out apart.
        let here : k < redo_start Two n = omega (arith, lt, tape_u.records) in
        x_is k here ∙ elim apart [
          | inl under ↦ y_before k (omega (arith, under, begun)) ∙ elsewhere k out ∙ was.others k lt out (inl under)
          | inr over ↦ y_after k (omega (arith, over)) ∙ elsewhere k out ∙ was.others k lt out (inr (omega (arith, over)))
        ];
  }
    where
      x_is : (k : ℕ) → k < redo_start Two n → record_at x k ≡ record_at y k
      x_is k lt = below k (omega (arith, lt, tape_t.records)) ∙ ap (λ (w : Tape). record_at w k) makes

-- midway the redo entry is one of 32 bytes
module _ (n first end redo : ℕ) (move : Move) (j : ℕ) (u t : Tape) (tape_u : IsTape n u) (may : MayMove n first end redo move) (was : IsMidway first end redo move j u t) where
  abbrev at : ℕ
  at = slot_record first redo

  pub at_within : at < n
  at_within = omega (arith, may.redo_slot, may.above, may.down, may.part, may.below)

  pub whole_u : length (record_at u at) ≡ 256
  whole_u = tape_u.bytes at at_within

  pub redo_record : record_at t at ≡ with_entry (record_at u at) (redo % 8) was.entry
  redo_record = was.tape.directory at (omega arith) may.redo_slot ∙ written_here n first end redo u tape_u at_within was.entry

  pub redo_entry_is : entry_from t first redo ≡ was.entry
  redo_entry_is = let column : redo % 8 < 8 = omega arith in ap (λ (b : List ℕ). entry_at b (redo % 8)) redo_record ∙ entry_here (record_at u at) (redo % 8) was.entry whole_u column was.size

-- with another mark
pub part_marks : (n first end redo : ℕ) (move : Move) (j count : ℕ) (u t x : Tape) (mark : List ℕ) → IsTape n u → IsTape n t → MayMove n first end redo move
    → move.moved ≤ j → 0 < count → j + count ≤ move.length → mark ≡ in_two (move.slot + 1) ++ in_two (j + count) → IsMidway first end redo move j u t
    → length x ≡ length t → ((k : ℕ) → k < redo_start Two (length t) → record_at x k ≡ record_at (changed ((slot_record first redo, with_entry (record_at t (slot_record first redo)) (redo % 8) (with_mark mark (entry_from t first redo)))
    ∷ numbered_from (move.place + j) (records_from t (move.start + j) count)) t) k)
    → IsMidway first end redo move (j + count) u x
unfolding with_mark
part_marks n first end redo move j count u t x mark tape_u tape_t may begun some less is_mark was size_x below =
    let at : ℕ = slot_record first redo in
    let column : redo % 8 < 8 = omega arith in
    let within : at < n = at_within n first end redo move j u t tape_u may was in
    let whole : length (record_at u at) ≡ 256 = whole_u n first end redo move j u t tape_u may was in
    let old : record_at t at ≡ with_entry (record_at u at) (redo % 8) was.entry = redo_record n first end redo move j u t tape_u may was in
    let entry : entry_from t first redo ≡ was.entry = redo_entry_is n first end redo move j u t tape_u may was in
    let new : List ℕ = take 28 was.entry ++ mark in
    let four : length mark ≡ 4 = ap (λ (bs : List ℕ). length bs) is_mark in
    let front : length (take 28 was.entry) ≡ 28 = omega (arith, length-take 28 was.entry, was.size) in
    let bytes : List ℕ = with_entry (record_at t at) (redo % 8) (take 28 (entry_from t first redo) ++ mark) in
    let is : bytes ≡ with_entry (record_at u at) (redo % 8) new =
    (λ i. with_entry (old i) (redo % 8) (take 28 (entry i) ++ mark)) ∙ entry_twice (record_at u at) (redo % 8) whole column was.entry new was.size in
    record {
      entry = new;
      size = length-append (take 28 was.entry) mark ∙ omega (arith, front, four);
      rest = take_at (take 28 was.entry) mark 28 front ∙ was.rest;
      before = λ none. absurd (omega (arith, none, begun, some));
      mark = λ marked. (
        two_behind (take 28 was.entry) mark 28 0 front ∙ ap (λ (bs : List ℕ). two_at bs 0) is_mark ∙ two_first (move.slot + 1) (in_two (j + count)) ∙ omega arith,
        two_behind (take 28 was.entry) mark 28 2 front ∙ ap (λ (bs : List ℕ). two_at bs 2) is_mark
            ∙ two_behind (in_two (move.slot + 1)) (in_two (j + count)) 2 0 refl ∙ two_first (j + count) [],
      );
      tape = part_moves n first end redo move j count u t x (set t at bytes) tape_u tape_t may begun less (length-set t at bytes ∙ tape_t.records)
          (λ k out. get_or-set_other t at k bytes [] (λ e. elim out [ inl under ↦ absurd (omega (arith, e, under)) | inr over ↦ absurd (omega (arith, e, over, may.redo_slot)) ]))
          ((at, bytes) ∷ numbered_from (move.place + j) (records_from t (move.start + j) count)) size_x below (changed_numbered (move.place + j) (records_from t (move.start + j) count) (set t at bytes))
          ((redo, was.entry) ∷ []) ((redo, new) ∷ []) was.tape
          (λ k le lt. elim (cases_eq k at) [
            | inl e ↦ ap (record_at (set t at bytes)) e ∙ get_or-set_same t at bytes [] (omega (arith, within, tape_t.records)) ∙ is
                ∙ sym (written_here n first end redo u tape_u within new) ∙ ap (record_at (with_slots first ((redo, new) ∷ []) u)) (sym e)
            | inr off ↦ get_or-set_other t at k bytes [] off
                ∙ was.tape.directory k le lt ∙ written_other n first end redo u tape_u within was.entry k off ∙ sym (written_other n first end redo u tape_u within new k off)
          ]);
    }

-- a tape that is the same below the redo file
pub midway_same : (n first end redo : ℕ) (move : Move) (j : ℕ) (u t x : Tape) → IsTape n u → MayMove n first end redo move → j ≤ move.length → IsMidway first end redo move j u t
    → length x ≡ length t → ((k : ℕ) → k < redo_start Two (length t) → record_at x k ≡ record_at t k) → IsMidway first end redo move j u x
midway_same n first end redo move j u t x tape_u may less was size same =
    let long : length t ≡ n = was.tape.records ∙ tape_u.records in
    record {
      entry = was.entry;
      size = was.size;
      rest = was.rest;
      before = was.before;
      mark = was.mark;
      tape = record {
        records = size ∙ was.tape.records;
        moved = λ q le lt. same (move.place + q) (omega (arith, lt, less, may.down, may.below, long)) ∙ was.tape.moved q le lt;
        directory = λ k le lt. same k (omega (arith, lt, may.above, may.down, may.below, long)) ∙ was.tape.directory k le lt;
        others = λ k lt out apart. same k (omega (arith, lt, was.tape.records)) ∙ was.tape.others k lt out apart;
      };
    }

-- before the first commit the tape settles to what it was
pub midway_none : (n first end redo : ℕ) (move : Move) (j : ℕ) (u y : Tape) → IsTape n u → MayMove n first end redo move → j ≡ move.moved → IsMidway first end redo move j u (settled y)
    → SettlesBelow Two u y
midway_none n first end redo move j u y tape_u may none was = record {
  records = sym (length_settled y) ∙ was.tape.records;
  same = λ k lt. elim (cases_lt k first) [
    | inl under ↦ was.tape.others k lt (inl under) (inl (omega (arith, under, may.redo_slot, may.above)))
    | inr over ↦ elim (cases_lt k end) [
      | inl below ↦
          was.tape.directory k over below
          ∙ ap (λ (e : List ℕ). record_at (with_slots first ((redo, e) ∷ []) u) k) (was.before none)
          ∙ written_same n first end redo u tape_u (omega (arith, may.redo_slot, may.above, may.down, may.part, may.below)) k
      | inr out ↦ was.tape.others k lt (inr out) (elim (cases_lt k (move.place + move.moved)) [
        | inl early ↦ inl early
        | inr late ↦ inr (omega (arith, late, none))
      ])
    ]
  ];
}

-- what a stop within the commit leaves
pub part_stops : (n first end redo : ℕ) (move : Move) (j count : ℕ) (u t : Tape) (mark : List ℕ) → IsTape n u → IsTape n t → MayMove n first end redo move
    → move.moved ≤ j → 0 < count → j + count ≤ move.length → mark ≡ in_two (move.slot + 1) ++ in_two (j + count) → IsMidway first end redo move j u t
    → (y : Tape) → IsOldOrNew Two ((slot_record first redo, with_entry (record_at t (slot_record first redo)) (redo % 8) (with_mark mark (entry_from t first redo)))
    ∷ numbered_from (move.place + j) (records_from t (move.start + j) count)) t y
    → IsMidwayOrMore first end redo move j count u y
part_stops n first end redo move j count u t mark tape_u tape_t may begun some less is_mark was y (inl old) =
    inl (midway_same n first end redo move j u t (settled y) tape_u may (omega (arith, less)) was (length_settled y ∙ old.records) old.same)
part_stops n first end redo move j count u t mark tape_u tape_t may begun some less is_mark was y (inr new) =
    let size = length_changed ((slot_record first redo, with_entry (record_at t (slot_record first redo)) (redo % 8) (with_mark mark (entry_from t first redo)))
    ∷ numbered_from (move.place + j) (records_from t (move.start + j) count)) t in
    inr (part_marks n first end redo move j count u t (settled y) mark tape_u tape_t may begun some less is_mark was (length_settled y ∙ new.records ∙ size)
    (λ k lt. new.same k (omega (arith, lt, size))))

-- ---- the last of them

-- the changes of the directory write its two slots
pub changes_two : (n first redo slot start : ℕ) (t : Tape) (mark : List ℕ) → IsTape n t → slot_record first redo < n → redo ≢ slot → length mark ≡ 4
    → changed (with_start_in first slot start t ((slot_record first redo, with_entry (record_at t (slot_record first redo)) (redo % 8) (with_mark mark (entry_from t first redo))) ∷ [])) t
    ≡ with_slots first ((redo, with_mark mark (entry_from t first redo)) ∷ (slot, with_start start (entry_from t first slot)) ∷ []) t
unfolding with_mark
changes_two n first redo slot start t mark tape within other four = elim (cases_eq at row) [
  | inl e ↦
      let same_entry : entry_at a (slot % 8) ≡ entry_from t first slot =
      entry_other (record_at t at) (redo % 8) entry whole column size (slot % 8) (omega arith) (λ q. other (omega (arith, q, e))) ∙ ap (λ (m : ℕ). entry_at (record_at t m) (slot % 8)) e in
      ap (λ (b : Bool). changed (by b) t) (eq-eqb at row e)
      ∙ ap (λ (q : List ℕ). set t at (with_entry a (slot % 8) (with_start start q))) same_entry
      ∙ sym (set-set t at a (with_entry a (slot % 8) (with_start start (entry_from t first slot))))
      ∙ (λ i. set (set t at a) (e i) (with_entry (back e i) (slot % 8) (with_start start (entry_from t first slot))))
  | inr off ↦
      ap (λ (b : Bool). changed (by b) t) (ne_eqb at row off)
      ∙ ap (λ (q : List ℕ). set (set t at a) row (with_entry q (slot % 8) (with_start start (entry_from t first slot)))) (sym (get_or-set_other t at row a [] (λ q. off (sym q))))
]
  where
    at : ℕ
    at = slot_record first redo

    row : ℕ
    row = slot_record first slot

    column : redo % 8 < 8
    column = omega arith

    whole : length (record_at t at) ≡ 256
    whole = tape.bytes at within

    entry : List ℕ
    entry = with_mark mark (entry_from t first redo)

    size : length entry ≡ 32
    size = length-append (take 28 (entry_from t first redo)) mark ∙ omega (arith, four, length-take 28 (entry_from t first redo), entry_size (record_at t at) (redo % 8) whole column)

    a : List ℕ
    a = with_entry (record_at t at) (redo % 8) entry

    by : Bool → Changes
    by b = if b then (at, with_entry a (slot % 8) (with_start start (entry_at a (slot % 8)))) ∷ []
        else (at, a) ∷ (row, with_entry (record_at t row) (slot % 8) (with_start start (entry_from t first slot))) ∷ []

    back : (e : at ≡ row) → a ≡ record_at (set t at a) row
    back e = sym (get_or-set_same t at a [] (omega (arith, within, tape.records))) ∙ ap (record_at (set t at a)) e
