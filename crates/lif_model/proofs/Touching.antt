-- How many records of the directory a batch touches: at most one for each part, and one more.
use Rattle.std.proofs.Common.{◌≡◌, ◌⊎◌, ◌<◌, ◌≤◌, ◌+◌, ◌||◌, ℕ, suc, nat_eq, nat_lt, None, List, [], ◌∷◌, ◌++◌, Bool, true, false, if◌then◌else◌, Some, length, get_or, inl, inr, refl, sym, ◌∙◌, ap, subst, arith, append-nil}
use Rattle.std.proofs.lemmas.Bool.{cases_eq, or_left, or_right, eq-eqb, lt-ltb}
use Rattle.std.proofs.lemmas.List.{length_push, append_assoc}
use Rattle.std.proofs.lemmas.List.Folds.{list_any-append}
use Rattle.std.proofs.lemmas.Slice.Eq.{slice_eq-Decides, bytes_eq-Decides}
use Rattle.lif_model.specs.Tape.{Tape, IsTape}
use Rattle.lif_model.specs.Header.{directory_start, directory_length, capacity_of}
use Rattle.lif_model.specs.Made.{with_type}
use Rattle.lif_model.specs.declared.version.Version.TheVariants.{Two}
use Rattle.lif_model.specs.Volume.{Volume, volume_in, IsAdopted}
use Rattle.lif_model.specs.Fit.{redo_place}
use Rattle.lif_model.specs.Parts.{Part}
use Rattle.lif_model.specs.Apply.{Batch, IsWellFormed, refusal_of, Midway, before_parts, part_place, after_part, after_parts}
use Rattle.lif_model.specs.Commit.{AreChanges}
use Rattle.lif_model.specs.Writing.{slot_record, entry_on, SlotWrites, with_slots, touched, changes_by, ended_behind, part_writes, parts_writes, same_slots, files_left, with_files, changes_of}
use Rattle.lif_model.proofs.Adopted.{ends_before_redo}
use Rattle.lif_model.proofs.Writing.{changes_are}
use Rattle.lif_model.proofs.Growing.{is_among, touched_more}
use Rattle.lif_model.proofs.Parts.{SetsSlot, PartDoes, nothing, renames, purges, fills, inserts, header_next, redo_after_set, redo_after_insert, AreUnrefused, first_does, rest_unrefused}
use Rattle.lif_model.proofs.Batches.{batch_is_two, unrefused, batch_entries, left_first, all_at_once}

-- ---- one write more

-- what it adds to the records that are touched
record Adds (start : ℕ) (ws : SlotWrites) (w : ℕ × List ℕ) : Type 0 where
  here : is_among (touched start (ws ++ w ∷ [])) (slot_record start w.0) ≡ true
  stays : (r : ℕ) → is_among (touched start ws) r ≡ true → is_among (touched start (ws ++ w ∷ [])) r ≡ true
  few : length (touched start (ws ++ w ∷ [])) ≤ length (touched start ws) + 1
  again : is_among (touched start ws) (slot_record start w.0) ≡ true → length (touched start (ws ++ w ∷ [])) ≡ length (touched start ws)

adds : (start : ℕ) (ws : SlotWrites) (w : ℕ × List ℕ) → Adds start ws w
adds start ws w = go (is_among (touched start ws) (slot_record start w.0)) refl
  where
    ks : List ℕ
    ks = touched start ws

    r : ℕ
    r = slot_record start w.0

    go : (b : Bool) → is_among ks r ≡ b → Adds start ws w
    go true among =
        let same : touched start (ws ++ w ∷ []) ≡ ks = touched_more start ws w ∙ ap (λ (b : Bool). ks ++ (if b then [] else r ∷ [])) among ∙ append-nil ks in
        record {
          here = ap (λ (js : List ℕ). is_among js r) same ∙ among;
          stays = λ q on. ap (λ (js : List ℕ). is_among js q) same ∙ on;
          few = omega (arith, ap (λ (js : List ℕ). length js) same);
          again = λ on. ap (λ (js : List ℕ). length js) same;
        }
    go false among =
        let same : touched start (ws ++ w ∷ []) ≡ ks ++ r ∷ [] = touched_more start ws w ∙ ap (λ (b : Bool). ks ++ (if b then [] else r ∷ [])) among in
        record {
          here = ap (λ (js : List ℕ). is_among js r) same ∙ list_any-append (λ k. nat_eq k r) ks (r ∷ []) ∙ or_right (is_among ks r) (nat_eq r r || false) (or_left (nat_eq r r) false (eq-eqb r r refl));
          stays = λ q on. ap (λ (js : List ℕ). is_among js q) same ∙ list_any-append (λ k. nat_eq k q) ks (r ∷ []) ∙ or_left (is_among ks q) (nat_eq r q || false) on;
          few = omega (arith, ap (λ (js : List ℕ). length js) same, length_push ks r);
          again = λ on. let no : true ≡ false = sym on ∙ among in cc;
        }

-- ---- the parts

-- the records of the redo entry's slot and of the one after it are touched
record AreTouched (start capacity : ℕ) (ws : SlotWrites) (redo : ℕ) : Type 0 where
  own : is_among (touched start ws) (slot_record start redo) ≡ true
  next : suc redo < capacity → is_among (touched start ws) (slot_record start (suc redo)) ≡ true

-- Up to here at most so many records are touched: also those that one more file at the end needs, or there is one to spare.
abbrev IsWithin : ℕ → ℕ → SlotWrites → ℕ → ℕ → Type 0
IsWithin start capacity ws redo count = (AreTouched start capacity ws redo × (length (touched start ws) ≤ count)) ⊎ (length (touched start ws) + 1 ≤ count)

one_more : (start capacity : ℕ) (ws : SlotWrites) (w : ℕ × List ℕ) (redo count : ℕ) → IsWithin start capacity ws redo count → IsWithin start capacity (ws ++ w ∷ []) redo (count + 1)
one_more start capacity ws w redo count within =
    let more = adds start ws w in
    elim within [
      | inl both ↦ inl (record { own = more.stays (slot_record start redo) both.0.own; next = λ lt. more.stays (slot_record start (suc redo)) (both.0.next lt) }, omega (arith, more.few, both.1))
      | inr less ↦ inr (omega (arith, more.few, less))
    ]

-- the writes of a file at the end: that of its slot, of the redo entry's next one, and of an end after it
module _ (start capacity : ℕ) (ws : SlotWrites) (at : ℕ) (entry redo : List ℕ) (u : Tape) (count : ℕ) (within : IsWithin start capacity ws at count) (room : suc at < capacity) where
  abbrev first : SlotWrites
  first = ws ++ (at, entry) ∷ []

  abbrev second : SlotWrites
  second = first ++ (suc at, redo) ∷ []

  one : Adds start ws (at, entry)
  one = adds start ws (at, entry)

  two : Adds start first (suc at, redo)
  two = adds start first (suc at, redo)

  -- the first two touch no new record, or one of the three is touched twice
  both_few : (length (touched start second) ≤ count) ⊎ ((length (touched start second) ≤ count + 1) × (slot_record start (suc (suc at)) ≡ slot_record start (suc at)))
      ⊎ (length (touched start second) ≤ count)
  both_few = elim within [
    | inl both ↦ inl (omega (arith, both.1, one.again both.0.own, two.again (one.stays (slot_record start (suc at)) (both.0.next room))))
    | inr less ↦ elim (cases_eq (slot_record start (suc at)) (slot_record start at)) [
      | inl e ↦ inr (inr (omega (arith, less, one.few, two.again (subst (λ (r : ℕ). is_among (touched start first) r ≡ true) (sym e) one.here))))
      | inr ne ↦ inr (inl (omega (arith, less, one.few, two.few), omega (arith, ne)))
    ]
  ]

  inserted : (b : Bool) → nat_lt (suc (suc at)) capacity ≡ b
      → IsWithin start capacity (second ++ (if b then (suc (suc at), with_type 0xFFFF (entry_on u (suc (suc at)))) ∷ [] else [])) (suc at) (count + 1)
  inserted true e =
      let w : ℕ × List ℕ = (suc (suc at), with_type 0xFFFF (entry_on u (suc (suc at)))) in
      let three = adds start second w in
      let own : is_among (touched start (second ++ w ∷ [])) (slot_record start (suc at)) ≡ true = three.stays (slot_record start (suc at)) two.here in
      inl (
        record { own = own; next = λ lt. three.here },
        elim both_few [
          | inl few ↦ omega (arith, few, three.few)
          | inr (inl more) ↦ omega (arith, more.0, three.again (subst (λ (r : ℕ). is_among (touched start second) r ≡ true) (sym more.1) two.here))
          | inr (inr few) ↦ omega (arith, few, three.few)
        ],
      )
  inserted false e =
      let same : second ++ [] ≡ second = append-nil second in
      inl (subst (λ (ws : SlotWrites). AreTouched start capacity ws (suc at) × (length (touched start ws) ≤ count + 1)) (sym same) (
        record { own = two.here; next = λ lt. let no : true ≡ false = sym (lt-ltb (suc (suc at)) capacity lt) ∙ e in cc },
        elim both_few [ inl few ↦ omega (arith, few) | inr (inl more) ↦ more.0 | inr (inr few) ↦ omega (arith, few) ],
      ))

part_touches : (n : ℕ) (m : Midway) (p : Part) (u : Tape) (ws : SlotWrites) (count : ℕ) → IsAdopted n m.volume → IsAdopted n (after_part n p m).volume → PartDoes n m p
    → IsWithin (directory_start m.volume.header) (capacity_of m.volume.header) ws (redo_place m.volume.slots) count
    → IsWithin (directory_start m.volume.header) (capacity_of m.volume.header) (ws ++ part_writes p m.volume (part_place n m p) u) (redo_place (after_part n p m).volume.slots) (count + 1)
part_touches n m p u ws count is is_later does within = go does
  where
    start : ℕ
    start = directory_start m.volume.header

    capacity : ℕ
    capacity = capacity_of m.volume.header

    later : Volume
    later = (after_part n p m).volume

    now : SlotWrites
    now = part_writes p m.volume (part_place n m p) u

    weaker : IsWithin start capacity ws (redo_place m.volume.slots) (count + 1)
    weaker = elim within [ inl both ↦ inl (both.0, omega (arith, both.1)) | inr less ↦ inr (omega (arith, less)) ]

    sets_one : (at : ℕ) (entry : List ℕ) → SetsSlot n m p at entry → IsWithin start capacity (ws ++ now) (redo_place later.slots) (count + 1)
    sets_one at entry sets =
        let redo : redo_place later.slots ≡ redo_place m.volume.slots = redo_after_set n m.volume later at entry is is_later sets.other sets.slots in
        subst (λ (r : ℕ). IsWithin start capacity (ws ++ now) r (count + 1)) (sym redo)
        (subst (λ (more : SlotWrites). IsWithin start capacity (ws ++ more) (redo_place m.volume.slots) (count + 1)) (sym (sets.writes u))
        (one_more start capacity ws (at, entry) (redo_place m.volume.slots) count within))

    go : PartDoes n m p → IsWithin start capacity (ws ++ now) (redo_place later.slots) (count + 1)
    go (nothing does) =
        subst (λ (v : Volume). IsWithin start capacity (ws ++ now) (redo_place v.slots) (count + 1)) (sym does.volume)
        (subst (λ (all : SlotWrites). IsWithin start capacity all (redo_place m.volume.slots) (count + 1)) (sym (ap (λ (more : SlotWrites). ws ++ more) (does.writes u) ∙ append-nil ws)) weaker)
    go (renames at entry sets file live bars) = sets_one at entry sets
    go (purges at entry sets file dead bars) = sets_one at entry sets
    go (fills at entry sets file) = sets_one at entry sets
    go (inserts at entry puts file) =
        let redo : redo_place later.slots ≡ suc at = redo_after_insert n m.volume later at entry is is_later puts.own puts.slots ∙ omega arith in
        let slot : List ℕ = get_or m.volume.slots at [] in
        let end : SlotWrites = ended_behind capacity u (suc (suc at)) in
        let joined : ((ws ++ (at, entry) ∷ []) ++ (suc at, slot) ∷ []) ++ end ≡ ws ++ now =
        append_assoc (ws ++ (at, entry) ∷ []) ((suc at, slot) ∷ []) end ∙ append_assoc ws ((at, entry) ∷ []) ((suc at, slot) ∷ end) ∙ sym (ap (λ (more : SlotWrites). ws ++ more) (puts.writes u)) in
        subst (λ (r : ℕ). IsWithin start capacity (ws ++ now) r (count + 1)) (sym redo)
        (subst (λ (all : SlotWrites). IsWithin start capacity all (suc at) (count + 1)) joined
        (inserted start capacity ws at entry slot u count (subst (λ (r : ℕ). IsWithin start capacity ws r count) (sym puts.own) within) (omega (arith, puts.last, puts.room)) (nat_lt (suc (suc at)) capacity) refl))

parts_touch : (n : ℕ) (parts : List Part) (m : Midway) (u : Tape) (ws : SlotWrites) (count : ℕ) → AreUnrefused n parts m
    → IsWithin (directory_start m.volume.header) (capacity_of m.volume.header) ws (redo_place m.volume.slots) count
    → length (touched (directory_start m.volume.header) (ws ++ parts_writes n parts m u)) ≤ count + length parts
parts_touch n [] m u ws count are within =
    let same : ws ++ [] ≡ ws = append-nil ws in
    elim within [
      | inl both ↦ omega (arith, both.1, ap (λ (all : SlotWrites). length (touched (directory_start m.volume.header) all)) same)
      | inr less ↦ omega (arith, less, ap (λ (all : SlotWrites). length (touched (directory_start m.volume.header) all)) same)
    ]
parts_touch n (p ∷ parts) m u ws count are within =
    let does = first_does n p parts m are in
    let rest = rest_unrefused n p parts m are in
    let now : SlotWrites = part_writes p m.volume (part_place n m p) u in
    let more : SlotWrites = parts_writes n parts (after_part n p m) u in
    let header : (after_part n p m).volume.header ≡ m.volume.header = header_next n m p does in
    let next : IsWithin (directory_start (after_part n p m).volume.header) (capacity_of (after_part n p m).volume.header) (ws ++ now) (redo_place (after_part n p m).volume.slots) (count + 1) =
    subst (λ (h : List ℕ). IsWithin (directory_start h) (capacity_of h) (ws ++ now) (redo_place (after_part n p m).volume.slots) (count + 1)) (sym header)
    (part_touches n m p u ws count are.midway.adopted rest.midway.adopted does within) in
    omega (
      arith,
      parts_touch n parts (after_part n p m) u (ws ++ now) (count + 1) rest next,
      ap (λ (h : List ℕ). length (touched (directory_start h) ((ws ++ now) ++ more))) header,
      ap (λ (all : SlotWrites). length (touched (directory_start m.volume.header) all)) (append_assoc ws now more),
    )

-- A batch touches at most one record more than it has parts.
pub batch_touches : (n : ℕ) (parts : List Part) (v : Volume) (u : Tape) → AreUnrefused n parts (before_parts v)
    → length (touched (directory_start v.header) (parts_writes n parts (before_parts v) u)) ≤ length parts + 1
batch_touches n parts v u are = omega (arith, parts_touch n parts (before_parts v) u [] 1 are (inr (omega arith)))

-- ---- its changes

module _ (n : ℕ) (u : Tape) (v : Volume) (tape : IsTape n u) (told : volume_in u ≡ Some v) (parts : List Part) (is : IsAdopted n v) (formed : IsWellFormed (Batch parts))
    (none : refusal_of n (Batch parts) (Some v) ≡ None) where
  abbrev last : Volume
  last = (after_parts n parts (before_parts v)).volume

  abbrev ws : SlotWrites
  ws = parts_writes n parts (before_parts v) u

  are : AreUnrefused n parts (before_parts v)
  are = unrefused n parts v is formed none

  -- where slots change, some are written
  some_written : same_slots v.slots last.slots ≡ false → 0 < length ws
  some_written changes = go ws refl
    where
      go : (writes : SlotWrites) → ws ≡ writes → 0 < length writes
      go (w ∷ more) e = omega arith
      go [] e =
          let after : volume_in (with_files (files_left n parts v) u) ≡ Some last =
          sym (ap (λ (writes : SlotWrites). volume_in (with_slots (directory_start v.header) writes (with_files (files_left n parts v) u))) e) ∙ (all_at_once n u v tape told parts is are).volume in
          let one : Some v ≡ Some last = sym (left_first n u v tape told parts is are).1 ∙ after in
          let same : v ≡ last = cc in
          let no : true ≡ false = sym ((slice_eq-Decides bytes_eq-Decides v.slots last.slots (same_slots v.slots last.slots) refl).1 (ap (λ (w : Volume). w.slots) same)) ∙ changes in
          cc

  -- A batch that leaves all slots has no changes, and the changes of any other are such as one commit of version 2 takes.
  pub batch_changes : (changes_of n (Batch parts) v u ≡ []) ⊎ AreChanges Two n (changes_of n (Batch parts) v u)
  batch_changes = go (same_slots v.slots last.slots) refl
    where
      start : ℕ
      start = directory_start v.header

      go : (b : Bool) → same_slots v.slots last.slots ≡ b → (changes_of n (Batch parts) v u ≡ []) ⊎ AreChanges Two n (changes_of n (Batch parts) v u)
      go true e = inl (ap (λ (b : Bool). changes_by start (if b then [] else ws) u) e)
      go false e = inr (subst (λ (b : Bool). AreChanges Two n (changes_by start (if b then [] else ws) u)) (sym e)
          (changes_are start (directory_length v.header) ws (batch_entries n u v tape told parts is are) Two n u (some_written e)
          (omega (arith, batch_touches n parts v u are, formed.0)) (ends_before_redo Two n v is.volume (batch_is_two n parts v none).1).0))
