-- What is planned for a batch: files that lie apart, and slots in 32 records of the directory at most.
use Rattle.std.proofs.Common.{◌≡◌, ◌⊎◌, ◌<◌, ◌≤◌, ◌+◌, ◌++◌, ℕ, zero, suc, List, [], ◌∷◌, Bool, true, false, not, if◌then◌else◌, length, map, get_or, filter, inl, inr, refl, sym, ap, subst, ◌∙◌, arith}
use Rattle.std.specs.Prelude.{All, Some, nat_le, nat_eq}
use Rattle.std.proofs.lemmas.Bool.{leb-true, le-leb}
use Rattle.std.proofs.lemmas.List.{map-append}
use Rattle.std.proofs.lemmas.List.Elements.{All-head, All-tail, All-filter, filter_passes}
use Rattle.std.proofs.lemmas.List.Filters.{length-filter_both}
use Rattle.lif_model.specs.Tape.{Tape, IsTape}
use Rattle.lif_model.specs.Header.{HeaderParts, directory_start, directory_end}
use Rattle.lif_model.specs.Made.{file_length}
use Rattle.lif_model.specs.declared.version.Version.TheVariants.{Two}
use Rattle.lif_model.specs.declared.refusal.Refusal.{Refusal}
use Rattle.lif_model.specs.declared.refusal.Refusal.TheVariants.{NoRedo, NeedsUpgrade, Protected, NoFile, Exists, NoSlot, NoRoom}
use Rattle.lif_model.specs.Redo.{redo_start, changed}
use Rattle.lif_model.specs.Volume.{Volume, is_adopted_with, IsAdopted, volume_in}
use Rattle.lif_model.specs.Fit.{Place}
use Rattle.lif_model.specs.Parts.{Part}
use Rattle.lif_model.specs.Parts as part
use Rattle.lif_model.specs.Apply.{Batch, Midway, before_parts, part_place, part_checks, after_part, after_parts, parts_checks, checks_of, first_met, refusal_of, volume_after}
use Rattle.lif_model.specs.Writing.{SlotWrites, NewFile, slot_record, part_files, parts_files, parts_writes, files_left, is_left_in, same_slots, touched, changes_by, changes_of, with_files, written_by}
use Rattle.lif_model.proofs.Made.{file_has_records}
use Rattle.lif_model.proofs.Apply.{NoneMet, store_has_place}
use Rattle.lif_model.proofs.Adopted.{ends_before_redo}
use Rattle.lif_model.proofs.Parts.{AreUnrefused, IsKeptIn, rest_unrefused, first_does, first_unmet, file_kept, files_apart, files_within}
use Rattle.lif_model.proofs.Batches.{unrefused, batch_is_two, none_left, batch_makes}
use Rattle.lif_model.proofs.Touching.{batch_touches}
use Rattle.lif_dir.specs.declared.change.Change.{Change}
use Rattle.lif_dir.specs.Changes.{change_writes, end_write, entry_writes, slot_after, all_writes}
use Rattle.lif_commit.specs.Staged.{touched_by_all}
use Rattle.lif_commit.proofs.Turns.{turn_calls}
use Rattle.lif_plan.specs.Refusals.{IsAmong}
use Rattle.lif_plan.specs.Plans.{IsVolumeWith}
use Rattle.lif_plan.specs.Batches.{PlansBatch}
use Rattle.lif_plan.proofs.BatchPlans.{changes_some}
use Rattle.lif_volume.specs.Changing.{records_stored, beside}
use Rattle.lif_volume.specs.Carrying.{records_filed}
use Rattle.lif_volume.proofs.Filing.{filed_more}
use Rattle.lif_volume.proofs.Planned.{Planned, LeavesTape, IsPlanned}

-- ---- files that lie apart

abbrev pub LiesApart : NewFile → NewFile → Type 0
LiesApart f g = (f.start + file_length f.bytes ≤ g.start) ⊎ (g.start + file_length g.bytes ≤ f.start)

abbrev pub LieApart : List NewFile → Type 0
LieApart [] = Unit {0}
LieApart (f ∷ fs) = All (LiesApart f) fs × LieApart fs

apart_filter : (keep : NewFile → Bool) (fs : List NewFile) → LieApart fs → LieApart (filter keep fs)
apart_filter keep [] apart = tt
apart_filter keep (f ∷ fs) apart = go (keep f) (apart_filter keep fs apart.1)
  where
    go : (b : Bool) → LieApart (filter keep fs) → LieApart (if b then f ∷ filter keep fs else filter keep fs)
    go true rest = (All-filter keep (LiesApart f) fs apart.0, rest)
    go false rest = rest

filed_both : (keep : NewFile → Bool) (fs : List NewFile) → records_filed (filter keep fs) + records_filed (filter (λ f. not (keep f)) fs) ≡ records_filed fs
filed_both keep [] = refl
filed_both keep (f ∷ fs) = go (keep f) (filed_both keep fs)
  where
    go : (b : Bool) → records_filed (filter keep fs) + records_filed (filter (λ g. not (keep g)) fs) ≡ records_filed fs
        → records_filed (if b then f ∷ filter keep fs else filter keep fs) + records_filed (if not b then f ∷ filter (λ g. not (keep g)) fs else filter (λ g. not (keep g)) fs) ≡ file_length f.bytes + records_filed fs
    go true rest = omega (arith, rest)
    go false rest = omega (arith, rest)

abbrev LiesIn : ℕ → ℕ → NewFile → Type 0
LiesIn low high f = (low ≤ f.start) × (f.start + file_length f.bytes ≤ high)

-- together they have no more records than there are
filed_between : (most : ℕ) (fs : List NewFile) (low high : ℕ) → length fs ≤ most → low ≤ high → LieApart fs → All (LiesIn low high) fs → low + records_filed fs ≤ high
filed_between most [] low high few le apart within = omega (arith, le)
filed_between zero (f ∷ fs) low high few le apart within = absurd (omega (arith, few))
filed_between (suc most) (f ∷ fs) low high few le apart within =
    let here : LiesIn low high f = All-head (LiesIn low high) f fs within in
    let rest : All (LiesIn low high) fs = All-tail (LiesIn low high) f fs within in
    let keep : NewFile → Bool = λ g. nat_le (g.start + file_length g.bytes) f.start in
    let counts = length-filter_both keep (λ g. not (keep g)) (λ g. refl) fs in
    let first = filed_between most (filter keep fs) low f.start (omega (arith, few, counts)) here.0 (apart_filter keep fs apart.1)
    (λ k d lt. ((All-filter keep (LiesIn low high) fs rest k d lt).0, leb-true _ _ (filter_passes keep fs k d lt))) in
    let next = filed_between most (filter (λ g. not (keep g)) fs) (f.start + file_length f.bytes) high (omega (arith, few, counts)) here.1 (apart_filter (λ g. not (keep g)) fs apart.1)
    (λ k d lt.
    let g : NewFile = get_or (filter (λ g. not (keep g)) fs) k d in
    let behind : f.start + file_length f.bytes ≤ g.start = elim (All-filter (λ g. not (keep g)) (LiesApart f) fs apart.0 k d lt) [
      | inl le ↦ le
      | inr before ↦
          let no : false ≡ true = sym (ap not (le-leb (g.start + file_length g.bytes) f.start before)) ∙ filter_passes (λ g. not (keep g)) fs k d lt in cc
    ] in
    (behind, (All-filter (λ g. not (keep g)) (LiesIn low high) fs rest k d lt).1)) in
    omega (arith, first, next, filed_both keep fs)

filed_few : (keep : NewFile → Bool) (fs : List NewFile) → records_filed (filter keep fs) ≤ records_filed fs
filed_few keep fs = omega (arith, filed_both keep fs)

-- ---- the files of a batch

one_file : (p : Part) (place : Place) → (part_files p place ≡ []) ⊎ ((f : NewFile) × (part_files p place ≡ f ∷ []))
one_file (part.Store name kind implementation bytes) (Place.At i start) = inr (record { slot = i; start = start; bytes = bytes }, refl)
one_file (part.Store name kind implementation bytes) Place.NoSlot = inl refl
one_file (part.Store name kind implementation bytes) Place.NoRoom = inl refl
one_file (part.Rename old new) place = inl refl
one_file (part.Purge name) place = inl refl

-- all files lie apart, also those that are purged again
parts_apart : (n : ℕ) (parts : List Part) (m : Midway) → AreUnrefused n parts m → LieApart (parts_files n parts m)
parts_apart n [] m are = tt
parts_apart n (p ∷ parts) m are = elim (one_file p (part_place n m p)) [
  | inl none ↦ subst (λ (fs : List NewFile). LieApart (fs ++ later)) (sym none) (parts_apart n parts next rest)
  | inr (f, one) ↦
      let kept : All Kept (f ∷ []) = subst (All Kept) one (file_kept n m p are.midway.adopted rest.midway.adopted (first_does n p parts m are)) in
      subst (λ (fs : List NewFile). LieApart (fs ++ later)) (sym one)
      (files_apart n parts next rest f.slot f.start (file_length f.bytes) (All-head Kept f [] kept) (file_has_records f.bytes), parts_apart n parts next rest)
]
  where
    next : Midway
    next = after_part n p m

    rest : AreUnrefused n parts next
    rest = rest_unrefused n p parts m are

    later : List NewFile
    later = parts_files n parts next

    Kept : NewFile → Type 0
    Kept f = IsKeptIn next f.slot f.start (file_length f.bytes)

-- and so do those that are left
pub left_apart : (n : ℕ) (parts : List Part) (v : Volume) → AreUnrefused n parts (before_parts v) → LieApart (files_left n parts v)
left_apart n parts v are = apart_filter (is_left_in (after_parts n parts (before_parts v)).volume.slots) (parts_files n parts (before_parts v)) (parts_apart n parts (before_parts v) are)

-- All of them have the records that the parts store.
parts_stored : (n : ℕ) (parts : List Part) (m : Midway) → AreUnrefused n parts m → records_filed (parts_files n parts m) ≡ records_stored parts
parts_stored n [] m are = refl
parts_stored n (p ∷ parts) m are = by p (first_unmet n p parts m are) (filed_more (part_files p (part_place n m p)) (parts_files n parts next)) (parts_stored n parts next (rest_unrefused n p parts m are))
  where
    next : Midway
    next = after_part n p m

    by : (q : Part) → NoneMet (part_checks n m.volume (part_place n m q) q)
        → records_filed (part_files q (part_place n m q) ++ parts_files n parts next) ≡ records_filed (part_files q (part_place n m q)) + records_filed (parts_files n parts next)
        → records_filed (parts_files n parts next) ≡ records_stored parts
        → records_filed (part_files q (part_place n m q) ++ parts_files n parts next) ≡ records_stored (q ∷ parts)
    by (part.Store name kind implementation bytes) unmet both rest =
        let found = store_has_place n m.volume name (part_place n m (part.Store name kind implementation bytes)) unmet in
        omega (arith, both, rest, ap (λ (place : Place). records_filed (part_files (part.Store name kind implementation bytes) place)) found.2)
    by (part.Rename old new) unmet both rest = omega (arith, both, rest)
    by (part.Purge name) unmet both rest = omega (arith, both, rest)

-- ---- the records that it touches

-- the places tell them
touched_places : (start : ℕ) (ws vs : SlotWrites) → map (λ w. w.0) ws ≡ map (λ w. w.0) vs → touched start ws ≡ touched start vs
touched_places start [] [] same = refl
touched_places start [] (v ∷ vs) same = cc
touched_places start (w ∷ ws) [] same = cc
touched_places start (w ∷ ws) (v ∷ vs) same =
    let first : w.0 ≡ v.0 = cc in
    let rest : map (λ w. w.0) ws ≡ map (λ w. w.0) vs = cc in
    λ i. slot_record start (first i) ∷ filter (λ k. not (nat_eq k (slot_record start (first i)))) (touched_places start ws vs rest i)

-- the bytes of a tape do not
all_places : (start : ℕ) (changes : List Change) (x y : Tape) → map (λ w. w.0) (all_writes start changes x) ≡ map (λ w. w.0) (all_writes start changes y)
all_places start [] x y = refl
all_places start (c ∷ cs) x y =
    map-append (λ w. w.0) (change_writes start c x) (all_writes start cs x)
    ∙ (λ i. (map-append (λ w. w.0) (entry_writes c) (end_write c.ended start (slot_after c) x) ∙ ap (λ (ks : List ℕ). map (λ w. w.0) (entry_writes c) ++ ks) (end c.ended)
    ∙ sym (map-append (λ w. w.0) (entry_writes c) (end_write c.ended start (slot_after c) y))) i ++ all_places start cs x y i)
    ∙ sym (map-append (λ w. w.0) (change_writes start c y) (all_writes start cs y))
  where
    end : (b : Bool) → map (λ w. w.0) (end_write b start (slot_after c) x) ≡ map (λ w. w.0) (end_write b start (slot_after c) y)
    end true = refl
    end false = refl

all_touched : (start : ℕ) (changes : List Change) (u : Tape) → touched start (all_writes start changes u) ≡ touched_by_all start changes
all_touched start changes u = touched_places start (all_writes start changes u) (all_writes start changes []) (all_places start changes u [])

touches_some : (start : ℕ) (changes : List Change) → 0 < length changes → 0 < length (touched_by_all start changes)
touches_some start [] some = absurd (omega (arith, some))
touches_some start (c ∷ cs) some = omega arith

-- ---- the plan

module _ {n : ℕ} {header : HeaderParts} {slots : List (List ℕ)} {parts : List Part} {later : List (List ℕ)} {changes : List Change} {files : List NewFile} {same : Bool}
    (plan : PlansBatch n parts header slots later changes files same) (v : Volume) (is : IsVolumeWith n header slots v) where
  two : is_adopted_with n Two v.slots ≡ true
  two = (batch_is_two n parts v (plan.free v is)).1

  adopted : IsAdopted n v
  adopted = record { volume = is.volume; adopted = (batch_is_two n parts v (plan.free v is)).0 }

  are : AreUnrefused n parts (before_parts v)
  are = unrefused n parts v adopted plan.formed (plan.free v is)

  same_is : same_slots v.slots (after_parts n parts (before_parts v)).volume.slots ≡ same
  same_is = (λ i. same_slots (is.same i) (plan.after v is i)) ∙ sym plan.same

  begins : directory_start v.header ≡ header.start
  begins = ap (λ (h : HeaderParts). h.start) is.told

  pub touches_few : length (touched_by_all header.start changes) ≤ 32
  touches_few =
      let u : Tape = v.header ∷ [] in
      omega (
        arith,
        batch_touches n parts v u are,
        plan.formed.0,
        ap length ((λ i. touched (begins i) (plan.writes v is u begins i)) ∙ all_touched header.start changes u),
      )

  stored_count : records_filed files ≤ records_stored parts
  stored_count = omega (arith, ap records_filed (plan.left v is), filed_few (is_left_in (after_parts n parts (before_parts v)).volume.slots) (parts_files n parts (before_parts v)), parts_stored n parts (before_parts v) are)

  stored_fits : 0 < header.start → records_stored parts ≤ beside n (Some header)
  stored_fits low =
      let within = files_within n parts (before_parts v) Two are two in
      let all : List NewFile = parts_files n parts (before_parts v) in
      omega (
        arith,
        parts_stored n parts (before_parts v) are,
        low,
        begins,
        ap (λ (h : HeaderParts). h.length) is.told,
        filed_between (length all) all (directory_end v.header) (redo_start Two n) (omega arith) (ends_before_redo Two n v is.volume two).0 (parts_apart n parts (before_parts v) are) within,
      )

-- what a batch that changes the directory is to write
abbrev pub all_changes : HeaderParts → List (List ℕ) → List Change → List NewFile → Planned
all_changes header later changes files = record {
  version = Two;
  slots = all_writes header.start changes;
  numbers = touched_by_all header.start changes;
  later = later;
  files = files;
}

pub is_all_changes : {n : ℕ} {header : HeaderParts} {slots : List (List ℕ)} {parts : List Part} {later : List (List ℕ)} {changes : List Change} {files : List NewFile}
    → PlansBatch n parts header slots later changes files false → (v : Volume) → IsVolumeWith n header slots v → 0 < header.start → IsPlanned n (Batch parts) header slots (all_changes header later changes files)
is_all_changes {n} {header} {slots} {parts} {later} {changes} {files} plan v is low = record {
  formed = plan.formed;
  free = plan.free;
  commits = λ w at. two plan w at;
  writes = λ w at u begins. ap (λ (b : Bool). if b then [] else parts_writes n parts (before_parts w) u) (same_is plan w at) ∙ plan.writes w at u begins;
  after = plan.after;
  touches = all_touched header.start changes;
  some = touches_some header.start changes (changes_some plan);
  calls = λ is_open. omega (arith, turn_calls header.start header.length slots later changes plan.in_turn is_open plan.few, touches_few plan v is);
  left = plan.left;
  lie = λ k d lt. let lies = plan.between v is k d lt in (lies.0, omega (arith, lies.1));
  count = stored_count plan v is;
  fits = stored_fits plan v is low;
}

-- and one that does not change it
pub leaves_all : {n : ℕ} {header : HeaderParts} {slots : List (List ℕ)} {parts : List Part} {later : List (List ℕ)} {changes : List Change} {files : List NewFile}
    → PlansBatch n parts header slots later changes files true → (v : Volume) → IsVolumeWith n header slots v → (t : Tape) → IsTape n t → volume_in t ≡ Some v → LeavesTape n (Batch parts) v t
leaves_all {n} {header} {slots} {parts} plan v is t tape told =
    let none : files_left n parts v ≡ [] = none_left n t v tape told parts (adopted plan v is) (are plan v is) (same_is plan v is) in
    let changes : changes_of n (Batch parts) v t ≡ [] = ap (λ (b : Bool). changes_by (directory_start v.header) (if b then [] else parts_writes n parts (before_parts v) t) t) (same_is plan v is) in
    let made : written_by n (Batch parts) v t ≡ t =
    (λ i. changed (changes i) (with_files (none i) t)) in
    let makes : volume_in t ≡ Some (volume_after n (Batch parts) v) = ap volume_in (sym made) ∙ (batch_makes n t v tape told parts (adopted plan v is) (are plan v is)).volume in
    record {
      free = plan.free v is;
      changes = changes;
      same = (let both : Some (volume_after n (Batch parts) v) ≡ Some v = sym makes ∙ told in cc);
      files = none;
    }

-- ---- what refuses it

abbrev pub batch_refusals : List Refusal
batch_refusals = NoRedo ∷ NeedsUpgrade ∷ Protected ∷ NoFile ∷ Exists ∷ NoSlot ∷ NoRoom ∷ []

abbrev AreKnown : List (Bool × Refusal) → Type 0
AreKnown [] = Unit {0}
AreKnown (c ∷ checks) = IsAmong batch_refusals c.1 × AreKnown checks

first_known : (checks : List (Bool × Refusal)) (why : Refusal) → AreKnown checks → first_met checks ≡ Some why → IsAmong batch_refusals why
first_known [] why all met = cc
first_known (c ∷ checks) why all met = go c.0 met (first_known checks why all.1)
  where
    go : (b : Bool) → (if b then Some c.1 else first_met checks) ≡ Some why → (first_met checks ≡ Some why → IsAmong batch_refusals why) → IsAmong batch_refusals why
    go true is rest = let same : c.1 ≡ why = cc in subst (IsAmong batch_refusals) same all.0
    go false is rest = rest is

both_known : (first second : List (Bool × Refusal)) → AreKnown first → AreKnown second → AreKnown (first ++ second)
both_known [] second one two = two
both_known (c ∷ first) second one two = (one.0, both_known first second one.1 two)

part_known : (n : ℕ) (v : Volume) (place : Place) (p : Part) → AreKnown (part_checks n v place p)
part_known n v place (part.Store name kind implementation bytes) =
    (inl refl, (inr (inr (inl refl)), (inr (inr (inr (inr (inl refl)))), (inr (inr (inr (inr (inr (inl refl))))), (inr (inr (inr (inr (inr (inr (inl refl)))))), tt)))))
part_known n v place (part.Rename old new) = (inl refl, (inr (inr (inl refl)), (inr (inr (inr (inl refl))), (inr (inr (inr (inr (inl refl)))), tt))))
part_known n v place (part.Purge name) = (inl refl, (inr (inr (inl refl)), (inr (inr (inr (inl refl))), tt)))

parts_known : (n : ℕ) (parts : List Part) (m : Midway) → AreKnown (parts_checks n parts m)
parts_known n [] m = tt
parts_known n (p ∷ parts) m =
    both_known (part_checks n m.volume (part_place n m p) p) (parts_checks n parts (after_part n p m)) (part_known n m.volume (part_place n m p) p) (parts_known n parts (after_part n p m))

pub refused_among : (n : ℕ) (parts : List Part) (v : Volume) (why : Refusal) → refusal_of n (Batch parts) (Some v) ≡ Some why → IsAmong batch_refusals why
refused_among n parts v why is = first_known (checks_of n (Batch parts) v) why (inl refl, (inr (inl refl), parts_known n parts (before_parts v))) is
