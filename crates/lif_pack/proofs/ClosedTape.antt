-- One commit of slots that change places: the volume has these slots then, and its files as before.
use Rattle.std.proofs.Common.{◌≡◌, ◌⊎◌, ◌<◌, ◌≤◌, ◌+◌, ◌/◌, ◌-◌, ◌*◌, ◌==◌, not, ℕ, List, [], ◌∷◌, Bool, true, false, if◌then◌else◌, Option, Some, length, get_or, set, filter, inl, inr, refl, sym, ◌∙◌, ap, subst, arith, length-set, get_or-set_same, get_or-set_other}
use Rattle.std.proofs.lemmas.Bool.{cases_eq, cases_Bool, eq-eqb, ne_eqb, eqb-true}
use Rattle.lif_model.specs.Tape.{Tape, IsTape}
use Rattle.lif_model.specs.Header.{directory_start, directory_length, capacity_of}
use Rattle.lif_model.specs.Directory.{type_of, is_end, slots_of}
use Rattle.lif_model.specs.declared.version.Version.{Version}
use Rattle.lif_model.specs.declared.version.Version.TheVariants.{Two}
use Rattle.lif_model.specs.Redo.{changed, Changes, redo_start, are_targets, IsSettled}
use Rattle.lif_model.specs.Commit.{AreChanges, IsCommitted, IsOldOrNew}
use Rattle.lif_model.specs.Writing.{SlotWrites, slot_record, entry_from, with_slots, touched, changes_by}
use Rattle.lif_model.specs.Legal.{is_live, occupies}
use Rattle.lif_model.specs.Volume.{Volume, IsVolume, is_file, volume_in, volume_of, is_adopted_with}
use Rattle.lif_model.proofs.Writing.{AreEntries, last_written, untouched, slots_elsewhere, slots_shape, slot_written, changes_write}
use Rattle.lif_model.proofs.Slotted.{IsOn, is_on, slot_here, header_stays, slots_become, end_behind}
use Rattle.lif_model.proofs.Written.{Makes}
use Rattle.lif_model.proofs.Outcomes.{settles_adopted, commit_leaves, stop_leaves}
use Rattle.lif_model.proofs.Slots.{readable_tells}
use Rattle.lif_commit.specs.Staged.{AreBefore, IsStagedAs}
use Rattle.lif_commit.proofs.Staging.{AreWithin, before_leave, writes_taken, touched_is, settles_here}
use Rattle.lif_model.specs.Packing.{slots_after}
use Rattle.lif_pack.specs.Steps.{MayPack, IsOldOrClosed}
use Rattle.lif_pack.proofs.Placing.{end_below}
use Rattle.lif_pack.proofs.Filtering.{filter_at, filter_has}
use Rattle.lif_pack.proofs.ClosedVolume.{same_occupying, same_file_slots, closed_is_volume, closed_is_adopted, closed_volume}

-- ---- entries that are written

-- in a directory with more room
pub before_wider : (room more k : ℕ) (ws : SlotWrites) → room ≤ more → AreBefore room k ws → AreBefore more k ws
before_wider room more k [] le are = tt
before_wider room more k (w ∷ ws) le are = (omega (arith, are.0, le), are.1, are.2, before_wider room more k ws le are.3)

pub entries_of : (room k : ℕ) (ws : SlotWrites) → AreBefore room k ws → AreEntries room ws
entries_of room k [] are = tt
entries_of room k (w ∷ ws) are = (are.0, are.2, entries_of room k ws are.3)

-- each slot is what was last written of it
pub last_after : (ws : SlotWrites) (slots : List (List ℕ)) (k : ℕ) → k < length slots → last_written ws k (get_or slots k []) ≡ get_or (slots_after ws slots) k []
last_after [] slots k lt = refl
last_after (w ∷ ws) slots k lt =
    ap (last_written ws k) (one (cases_eq w.0 k)) ∙ last_after ws (set slots w.0 w.1) k (omega (arith, lt, length-set slots w.0 w.1))
  where
    one : (w.0 ≡ k) ⊎ (w.0 ≡ k → ⊥) → (if w.0 == k then w.1 else get_or slots k []) ≡ get_or (set slots w.0 w.1) k []
    one (inl e) = ap (λ (b : Bool). if b then w.1 else get_or slots k []) (eq-eqb w.0 k e) ∙ sym (get_or-set_same slots w.0 w.1 [] (omega (arith, e, lt)))
        ∙ ap (λ (j : ℕ). get_or (set slots w.0 w.1) j []) e
    one (inr off) = ap (λ (b : Bool). if b then w.1 else get_or slots k []) (ne_eqb w.0 k off) ∙ sym (get_or-set_other slots w.0 k w.1 [] (λ e. off (sym e)))

last_size : (room m k : ℕ) (ws : SlotWrites) (old : List ℕ) → AreBefore room m ws → length old ≡ 32 → length (last_written ws k old) ≡ 32
last_size room m k [] old are size = size
last_size room m k (w ∷ ws) old are size = last_size room m k ws (if w.0 == k then w.1 else old) are.3 (one (w.0 == k))
  where
    one : (b : Bool) → length (if b then w.1 else old) ≡ 32
    one true = are.2
    one false = size

-- ---- the slots

module _ (n : ℕ) (v : Volume) (is : IsVolume n v) (later : List (List ℕ)) (live : filter is_live later ≡ filter is_live v.slots)
    (count : length later ≡ length v.slots) (ws : SlotWrites) (are : AreBefore (length v.slots) (length v.slots) ws) (becomes : slots_after ws v.slots ≡ later) where
  room : length later ≤ capacity_of v.header
  room = omega (arith, count, is.room)

  written : (k : ℕ) → k < length later → last_written ws k (get_or v.slots k []) ≡ get_or later k []
  written k lt = last_after ws v.slots k (omega (arith, lt, count)) ∙ ap (λ (xs : List (List ℕ)). get_or xs k []) becomes

  sizes : (k : ℕ) → k < length later → length (get_or later k []) ≡ 32
  sizes k lt = ap (λ (e : List ℕ). length e) (sym (written k lt)) ∙ last_size (length v.slots) (length v.slots) k ws (get_or v.slots k []) are (is.entries k (omega (arith, lt, count)))

  kinds : (k : ℕ) → k < length later → is_end (get_or later k []) ≡ false
  kinds k lt = elim (cases_Bool (is_live (get_or later k []))) [
    | inl alive ↦
        let kept = filter_has is_live later k lt alive in
        let found = filter_at is_live v.slots kept.0 (subst (λ (xs : List (List ℕ)). kept.0 < length xs) live kept.1) in
        let same : get_or later k [] ≡ get_or v.slots found.0 [] = sym kept.2 ∙ ap (λ (xs : List (List ℕ)). get_or xs kept.0 []) live ∙ found.3 in
        ap is_end same ∙ is.kinds found.0 found.1
    | inr dead ↦ ap (λ (m : ℕ). m == 0xFFFF) (eqb-true (type_of (get_or later k [])) 0 (by (type_of (get_or later k []) == 0) dead))
  ]
    where
      by : (b : Bool) → not b ≡ false → b ≡ true
      by true off = refl
      by false off = sym off

  -- it is a volume with its redo file
  pub closed_is : IsVolume n (record v { slots = later })
  closed_is = closed_is_volume n v is later live room sizes kinds

  pub closed_with : (version : Version) → is_adopted_with n version later ≡ is_adopted_with n version v.slots
  closed_with version = closed_is_adopted n v is later live room sizes kinds version

  pub closed_occupying : filter occupies later ≡ filter occupies v.slots
  closed_occupying = same_occupying n v is later live room sizes kinds

  pub closed_files : filter (is_file n) later ≡ filter (is_file n) v.slots
  closed_files = same_file_slots n v is later live room sizes kinds

-- ---- the tape

module _ (n : ℕ) (t : Tape) (v : Volume) (tape : IsTape n t) (inside : volume_in t ≡ Some v) (later : List (List ℕ)) (live : filter is_live later ≡ filter is_live v.slots)
    (count : length later ≡ length v.slots) (ws : SlotWrites) (are : AreBefore (length v.slots) (length v.slots) ws) (becomes : slots_after ws v.slots ≡ later) where
  abbrev on : IsOn n t v
  on = is_on n t v tape inside

  abbrev start : ℕ
  start = directory_start v.header

  abbrev y : Tape
  y = with_slots start ws t

  entries : AreEntries (capacity_of v.header) ws
  entries = entries_of (capacity_of v.header) (length v.slots) ws (before_wider (length v.slots) (capacity_of v.header) (length v.slots) ws on.volume.room are)

  fits : length later ≤ capacity_of v.header
  fits = room n v on.volume later live count ws are becomes

  each : (k : ℕ) → k < length later → length (get_or later k []) ≡ 32
  each = sizes n v on.volume later live count ws are becomes

  ends_none : (k : ℕ) → k < length later → is_end (get_or later k []) ≡ false
  ends_none = kinds n v on.volume later live count ws are becomes

  slots_here : slots_of y ≡ later
  slots_here = slots_become n t v on ws later entries fits
      (λ k lt. ap (last_written ws k) (slot_here n t v on k (omega (arith, lt, count))) ∙ written n v on.volume later live count ws are becomes k lt)
      ends_none
      (λ less.
      let m : ℕ = length v.slots in
      let under : slot_record start m < n = omega (arith, less, count, on.ends) in
      let stays : last_written ws m (entry_from t start m) ≡ entry_from t start m =
      sym (slot_written start n (directory_length v.header) ws t m tape (omega (arith, on.ends)) entries (omega (arith, less, count)))
      ∙ before_leave start n m ws t tape under (before_wider m (8 * (n - start)) m ws (omega (arith, on.volume.room, on.ends)) are) in
      ap (λ (k : ℕ). is_end (last_written ws k (entry_from t start k))) count ∙ ap is_end stays ∙ end_behind n t v on (omega (arith, less, count)))

  shape : IsTape n y
  shape = slots_shape start n (directory_length v.header) ws t tape (omega (arith, on.ends)) entries

  pub closed_makes : Makes n v (record v { slots = later }) (changed (changes_by (directory_start v.header) ws t) t)
  closed_makes = subst (Makes n v (record v { slots = later }))
      (sym (changes_write start (directory_length v.header) ws entries n t t (omega (arith, on.ends)) tape.records tape.records (λ k low high. refl))) (record {
        tape = shape;
        volume = closed_volume n t v on inside later live fits each ends_none y shape (header_stays n t v on ws entries ∙ sym on.header) slots_here
            (λ k low lt. slots_elsewhere start ws t k (untouched start (directory_length v.header) ws k entries (inr low)));
        adopted = λ version adopted. closed_with n v on.volume later live count ws are becomes version ∙ adopted;
      })

-- ---- the commit

within_of : (room more k : ℕ) (ws : SlotWrites) → room ≤ more → AreBefore room k ws → AreWithin more ws
within_of room more k [] le are = tt
within_of room more k (w ∷ ws) le are = (omega (arith, are.0, le), within_of room more k ws le are.3)

module _ (n first end redo : ℕ) (old : List (List ℕ)) (may : MayPack n first end redo old) where
  -- the directory ends before the medium does
  pub ends_within : (first + length old / 8 < n) × (end ≤ redo_start Two n)
  ends_within =
      let readable = readable_tells n may.header may.volume.legal.readable in
      (omega (arith, readable.0, readable.1, readable.2, may.volume.room, may.starts, may.ends), end_below n first end redo old may)

  pub closed_changes : (tape : Option Tape) (k : ℕ) (ws : SlotWrites) (cs : Changes) → AreBefore (length old) k ws → IsStagedAs first tape (λ x. ws) cs
      → 0 < length cs → length cs ≤ 32 → AreChanges Two n cs
  closed_changes tape k ws cs are staged some few =
      let is = touched_is first tape (λ x. ws) cs staged in
      ap (are_targets Two n) is.0
      ∙ writes_taken Two n first (directory_length may.header) ws (omega (arith, ends_within.1, may.starts, may.ends))
      (within_of (length old) (8 * directory_length may.header) k ws may.volume.room are) (there ws (omega (arith, some, is.1))) (omega (arith, few, is.1))
    where
      there : (ws : SlotWrites) → 0 < length (touched first ws) → 0 < length ws
      there [] some = absurd (omega (arith, some))
      there (w ∷ ws) some = omega arith

  module _ (later : List (List ℕ)) (live : filter is_live later ≡ filter is_live old) (count : length later ≡ length old) (ws : SlotWrites)
      (are : AreBefore (length old) (length old) ws) (becomes : slots_after ws old ≡ later) (t : Tape) (tape : IsTape n t) (quiet : IsSettled t) (v : Volume) (some : volume_of t ≡ Some v)
      (same : v.slots ≡ old) (starts : directory_start v.header ≡ first) where
    abbrev v0 : Volume
    v0 = record v { slots = old }

    abbrev v1 : Volume
    v1 = record v { slots = later }

    inside : volume_in t ≡ Some v0
    inside = ap volume_in (sym quiet) ∙ some ∙ (λ q. Some (record v { slots = same q }))

    makes : Makes n v0 v1 (changed (changes_by first ws t) t)
    makes = subst (λ (d : ℕ). Makes n v0 v1 (changed (changes_by d ws t) t)) starts (closed_makes n t v0 tape inside later live count ws are becomes)

    back : (x : Tape) → volume_of x ≡ Some v0 → volume_of x ≡ Some v
    back x is = is ∙ (λ q. Some (record v { slots = sym same q }))

    pub closed_stands : (x : Tape) → IsCommitted Two (changes_by first ws t) t x → volume_of x ≡ Some (record v { slots = later })
    closed_stands x done = (commit_leaves Two n (changes_by first ws t) t x v0 v1 may.version makes done).0

    pub closed_stops : (x : Tape) → IsOldOrNew Two (changes_by first ws t) t x → IsOldOrClosed v later x
    closed_stops x stopped =
        let leaves = stop_leaves Two n (changes_by first ws t) t x v0 v1 tape inside may.version makes stopped in
        (elim leaves.0 [ inl was ↦ inl (back x was) | inr now ↦ inr now ], leaves.1)

  -- before the commit
  pub closed_not_yet : (later : List (List ℕ)) (t : Tape) → IsTape n t → IsSettled t → (v : Volume) → volume_of t ≡ Some v → v.slots ≡ old → IsOldOrClosed v later t
  closed_not_yet later t tape quiet v some same =
      let inside : volume_in t ≡ Some v = ap volume_in (sym quiet) ∙ some in
      let adopted : is_adopted_with n Two v.slots ≡ true = ap (is_adopted_with n Two) same ∙ may.version in
      (inl some, (settles_adopted Two n t t v tape inside adopted (settles_here Two t quiet)).1)

-- nothing was written
pub closed_none : (first : ℕ) (tape : Option Tape) (ws : SlotWrites) (cs : Changes) (old : List (List ℕ)) → IsStagedAs first tape (λ x. ws) cs → length cs ≡ 0 → slots_after ws old ≡ old
closed_none first tape [] cs old staged none = refl
closed_none first tape (w ∷ ws) cs old staged none = let is = touched_is first tape (λ x. w ∷ ws) cs staged in absurd (omega (arith, is.1, none))
