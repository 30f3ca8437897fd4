-- The end of the directory after its live slots: the volume is as before, without the purged slots.
use Rattle.std.proofs.Common.{◌≡◌, ◌<◌, ◌≤◌, ℕ, List, [], ◌∷◌, Bool, false, if◌then◌else◌, Some, Option, length, get_or, take, filter, refl, sym, ◌∙◌, ap, subst, arith, get_or-take}
use Rattle.std.proofs.lemmas.Bool.{eq-eqb, ne_eqb}
use Rattle.std.proofs.lemmas.List.{length-take, length-take-le}
use Rattle.lif_model.specs.Tape.{Tape, IsTape}
use Rattle.lif_model.specs.Header.{directory_start, directory_length, capacity_of}
use Rattle.lif_model.specs.Directory.{is_end, slots_of}
use Rattle.lif_model.specs.Made.{with_type}
use Rattle.lif_model.specs.declared.version.Version.TheVariants.{Two}
use Rattle.lif_model.specs.Redo.{Changes, are_targets, IsSettled}
use Rattle.lif_model.specs.Commit.{AreChanges, IsCommitted, IsOldOrNew}
use Rattle.lif_model.specs.Writing.{SlotWrites, entry_from, with_slots, changes_by}
use Rattle.lif_model.specs.Legal.{is_live}
use Rattle.lif_model.specs.Volume.{Volume, volume_in, volume_of}
use Rattle.lif_model.proofs.Made.{typed_type, typed_size}
use Rattle.lif_model.proofs.Writing.{AreEntries}
use Rattle.lif_model.proofs.Slotted.{IsOn, is_on, slot_here, slots_become}
use Rattle.lif_commit.specs.Staged.{IsStagedAs}
use Rattle.lif_commit.proofs.Staging.{writes_taken, touched_is}
use Rattle.lif_pack.specs.Steps.{volume_with, MayPack, IsGap}
use Rattle.lif_pack.specs.Tasks.{KeepsFiles}
use Rattle.lif_pack.proofs.Placing.{end_below}
use Rattle.lif_pack.proofs.ClosedShown.{closed_keeps}
use Rattle.lif_pack.proofs.Filtering.{filter_all}
use Rattle.lif_pack.proofs.Counted.{filter_front}
use Rattle.lif_pack.proofs.Reslotted.{AreRewritten, rewritten_stands, rewritten_stops}

-- the live slots are those before a gap that reaches to the end
pub live_before_gap : (count : ℕ) (slots : List (List ℕ)) → IsGap count (length slots) slots → filter is_live slots ≡ filter is_live (take count slots)
live_before_gap count slots gap = filter_front is_live is_live slots count (λ k lt under. refl) (λ k lt le. gap.purged k le lt)

-- they are these
pub live_is_front : (count : ℕ) (slots : List (List ℕ)) → IsGap count (length slots) slots → take count slots ≡ filter is_live slots
live_is_front count slots gap =
    sym (live_before_gap count slots gap ∙ filter_all is_live (take count slots) (λ k lt.
    let under : k < count = omega (arith, lt, length-take count slots) in
    ap is_live (get_or-take count slots k [] under) ∙ gap.closed k under))

module _ (n : ℕ) (t : Tape) (v : Volume) (tape : IsTape n t) (inside : volume_in t ≡ Some v) (count : ℕ) (gap : IsGap count (length v.slots) v.slots) (less : count < length v.slots) where
  abbrev on : IsOn n t v
  on = is_on n t v tape inside

  abbrev start : ℕ
  start = directory_start v.header

  abbrev later : List (List ℕ)
  later = take count v.slots

  abbrev end : List ℕ
  end = with_type 0xFFFF (entry_from t start count)

  size : length later ≡ count
  size = length-take-le count v.slots (omega (arith, less))

  entry : length (entry_from t start count) ≡ 32
  entry = ap (λ (e : List ℕ). length e) (slot_here n t v on count less) ∙ on.volume.entries count less

  same : (k : ℕ) → k < length later → get_or later k [] ≡ get_or v.slots k []
  same k lt = get_or-take count v.slots k [] (omega (arith, lt, size))

  entries : AreEntries (capacity_of v.header) ((count, end) ∷ [])
  entries = (omega (arith, less, on.volume.room), typed_size 0xFFFF (entry_from t start count) ∙ entry, tt)

  fits : length later ≤ capacity_of v.header
  fits = omega (arith, size, less, on.volume.room)

  kinds : (k : ℕ) → k < length later → is_end (get_or later k []) ≡ false
  kinds k lt = ap is_end (same k lt) ∙ on.volume.kinds k (omega (arith, lt, size, less))

  ended_slots : slots_of (with_slots start ((count, end) ∷ []) t) ≡ later
  ended_slots = slots_become n t v on ((count, end) ∷ []) later entries fits
      (λ k lt. ap (λ (b : Bool). if b then end else entry_from t start k) (ne_eqb count k (λ e. absurd (omega (arith, e, lt, size))))
      ∙ slot_here n t v on k (omega (arith, lt, size, less)) ∙ sym (same k lt))
      kinds
      (λ more. ap (λ (b : Bool). is_end (if b then end else entry_from t start (length later))) (eq-eqb count (length later) (sym size))
      ∙ eq-eqb _ 0xFFFF (typed_type 0xFFFF (entry_from t start count) (omega (arith, entry))))

  pub ended_is : AreRewritten n t v (take count v.slots) ((count, with_type 0xFFFF (entry_from t (directory_start v.header) count)) ∷ [])
  ended_is = record {
    live = sym (live_before_gap count v.slots gap);
    room = fits;
    sizes = λ k lt. ap (λ (e : List ℕ). length e) (same k lt) ∙ on.volume.entries k (omega (arith, lt, size, less));
    kinds = kinds;
    entries = entries;
    slots = ended_slots;
  }

-- ---- the commit

module _ (n first end redo : ℕ) (old : List (List ℕ)) (may : MayPack n first end redo old) (count : ℕ) (gap : IsGap count (length old) old) (less : count < length old) where
  abbrev v0 : Volume
  v0 = volume_with may.header old

  pub ended_changes : (tape : Option Tape) (cs : Changes) → IsStagedAs first tape (λ x. (count, with_type 0xFFFF (entry_from x first count)) ∷ []) cs → AreChanges Two n cs
  ended_changes tape cs staged =
      let is = touched_is first tape (λ x. (count, with_type 0xFFFF (entry_from x first count)) ∷ []) cs staged in
      let ends = end_below n first end redo old may in
      ap (are_targets Two n) is.0
      ∙ writes_taken Two n first (directory_length may.header) ((count, with_type 0xFFFF (entry_from [] first count)) ∷ []) (omega (arith, ends, may.starts, may.ends))
      (omega (arith, less, may.volume.room), tt) (omega arith) (omega arith)

  -- of a tape with these slots
  module _ (t : Tape) (tape : IsTape n t) (quiet : IsSettled t) (v : Volume) (some : volume_of t ≡ Some v) (same : v.slots ≡ old) (starts : directory_start v.header ≡ first) where
    abbrev v1 : Volume
    v1 = record v { slots = old }

    some1 : volume_of t ≡ Some v1
    some1 = some ∙ (λ q. Some (record v { slots = same q }))

    inside1 : volume_in t ≡ Some v1
    inside1 = ap volume_in (sym quiet) ∙ some1

    abbrev ws : SlotWrites
    ws = (count, with_type 0xFFFF (entry_from t (directory_start v.header) count)) ∷ []

    are : AreRewritten n t v1 (take count old) ws
    are = ended_is n t v1 tape inside1 count gap less

    here : (cs : Changes) → cs ≡ changes_by first ((count, with_type 0xFFFF (entry_from t first count)) ∷ []) t → cs ≡ changes_by (directory_start v.header) ws t
    here cs is = is ∙ sym (ap (λ (d : ℕ). changes_by d ((count, with_type 0xFFFF (entry_from t d count)) ∷ []) t) starts)

    pub ended_stands : (cs : Changes) → cs ≡ changes_by first ((count, with_type 0xFFFF (entry_from t first count)) ∷ []) t → (x : Tape) → IsCommitted Two cs t x
        → volume_of x ≡ Some (record v { slots = take count old })
    ended_stands cs is x done = rewritten_stands n t v1 tape inside1 (take count old) ws are may.version x (subst (λ (c : Changes). IsCommitted Two c t x) (here cs is) done)

    pub ended_keeps : (cs : Changes) → cs ≡ changes_by first ((count, with_type 0xFFFF (entry_from t first count)) ∷ []) t → (x : Tape) → IsOldOrNew Two cs t x → KeepsFiles n t x
    ended_keeps cs is x stopped =
        closed_keeps n first end redo old may t v some same old (take count old) refl are.live x
        (rewritten_stops n t v1 tape inside1 (take count old) ws are may.version x (subst (λ (c : Changes). IsOldOrNew Two c t x) (here cs is) stopped))
