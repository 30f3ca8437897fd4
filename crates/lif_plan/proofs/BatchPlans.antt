-- What is planned for a batch, part by part.
use Rattle.std.proofs.Common.{◌≤◌, ◌≡◌, ◌<◌, ◌+◌, ◌*◌, ◌++◌, ℕ, suc, List, [], ◌∷◌, Bool, true, false, not, if◌then◌else◌, length, get_or, map, take, drop, zero, refl, sym, ap, subst, ◌∙◌, arith, append-nil, append_assoc}
use Rattle.std.specs.Prelude.{filter, All, Some, None}
use Rattle.std.specs.FinMap.{empty}
use Rattle.std.proofs.lemmas.List.{length-append, take_more, map-append}
use Rattle.std.proofs.lemmas.List.Elements.{All-append, All-cons, All-filter, All-nil}
use Rattle.std.proofs.lemmas.Slice.Eq.{slice_eq-Decides, bytes_eq-Decides}
use Rattle.lif_model.specs.Tape.{Tape}
use Rattle.lif_model.specs.Header.{HeaderParts, header_of, directory_start, directory_length, directory_end}
use Rattle.lif_model.specs.Made.{file_length}
use Rattle.lif_model.specs.Redo.{redo_start}
use Rattle.lif_model.specs.Volume.{Volume, IsVolume, is_adopted_with, is_adopted, IsAdopted}
use Rattle.lif_model.specs.Fit.{At}
use Rattle.lif_model.specs.Parts.{Part, most_parts, IsWellFormedPart}
use Rattle.lif_model.specs.Parts as part
use Rattle.lif_model.specs.Apply.{Batch, first_met, Midway, before_parts, part_place, part_checks, after_part, after_parts, parts_checks}
use Rattle.lif_model.specs.declared.refusal.Refusal.{Refusal}
use Rattle.lif_model.specs.declared.refusal.Refusal.TheVariants.{NoRedo, NeedsUpgrade}
use Rattle.lif_model.specs.declared.version.Version.{Version}
use Rattle.lif_model.specs.declared.version.Version.TheVariants.{One, Two}
use Rattle.lif_model.specs.Writing.{SlotWrites, NewFile, part_writes, part_files, parts_files, is_left_in, same_slots}
use Rattle.lif_model.proofs.Legal.{legal_tells, legal_from}
use Rattle.lif_model.proofs.Apply.{NoneMet, met_none, first_of_more, first_of_first, part_is_adopted}
use Rattle.lif_model.proofs.Adopted.{adopted_some}
use Rattle.lif_model.proofs.Parts.{PartDoes, AreUnrefused, part_does, midway_first, header_next, version_next, each_file, files_within, after_more, checks_more, writes_more, files_of_more}
use Rattle.lif_dir.specs.declared.change.Change.{Change}
use Rattle.lif_dir.specs.Changes.{FitsIn, change_writes, bytes_with, AreInTurn, all_writes}
use Rattle.lif_plan.specs.Directories.{IsLegalDirectory}
use Rattle.lif_plan.specs.Plans.{IsVolumeWith, RefusesAs}
use Rattle.lif_plan.specs.Parts.{place_beside, part_refusal, RefusesPart, LeavesAll, purged_at, PlacesPart, MakesPart}
use Rattle.lif_plan.specs.Batches.{PlansBatch, LiesBetween, SoFar, file_at}
use Rattle.lif_plan.proofs.Planning.{refuses, one_version}

-- ---- volumes and directories in memory

-- a volume with the slots of a legal directory
pub a_volume : (header : HeaderParts) (slots : List (List ℕ)) (n : ℕ) → IsLegalDirectory n header slots → (v : Volume) × IsVolumeWith n header slots v
a_volume header slots n legal = (
  record { header = legal.bytes; slots = slots; files = empty },
  record {
    volume = record {
      header = legal.whole;
      legal = legal_tells n legal.bytes slots legal.legal;
      room = omega (arith, legal.shape.few, ap (λ (h : HeaderParts). h.length) legal.told);
      entries = legal.shape.entries;
      kinds = legal.shape.kinds;
    };
    told = sym legal.told;
    same = refl;
  },
)

-- and the slots of a volume are a legal directory
pub of_volume : (header : HeaderParts) (slots : List (List ℕ)) (n : ℕ) (v : Volume) → IsVolumeWith n header slots v → IsLegalDirectory n header slots
of_volume header slots n v is = subst (IsLegalDirectory n header) is.same (record {
  bytes = v.header;
  told = sym is.told;
  legal = legal_from n v.header v.slots is.volume.legal;
  whole = is.volume.header;
  shape = record {
    few = omega (arith, is.volume.room, ap (λ (h : HeaderParts). h.length) is.told);
    entries = is.volume.entries;
    kinds = is.volume.kinds;
  };
})

-- ---- one change more

turn_more : (room : ℕ) (slots mid : List (List ℕ)) (changes : List Change) (c : Change) → AreInTurn room slots changes mid → FitsIn room (length mid) c
    → AreInTurn room slots (changes ++ c ∷ []) (bytes_with c mid)
turn_more room slots mid [] c same fits = (subst (λ (xs : List (List ℕ)). FitsIn room (length xs) c) (sym same) fits, ap (bytes_with c) same)
turn_more room slots mid (d ∷ ds) c turn fits = (turn.0, turn_more room (bytes_with d slots) mid ds c turn.1 fits)

writes_all : (start : ℕ) (changes : List Change) (c : Change) (u : Tape) → all_writes start (changes ++ c ∷ []) u ≡ all_writes start changes u ++ change_writes start c u
writes_all start [] c u = append-nil (change_writes start c u)
writes_all start (d ∷ ds) c u = ap (λ (ws : SlotWrites). change_writes start d u ++ ws) (writes_all start ds c u)
    ∙ sym (append_assoc (change_writes start d u) (all_writes start ds u) (change_writes start c u))

-- ---- one part more

-- nothing is refused so far
pub so_far_none : (n : ℕ) (header : HeaderParts) (slots : List (List ℕ)) → is_adopted_with n Two slots ≡ true → SoFar n header slots [] slots [] [] []
so_far_none n header slots two = record {
  formed = All-nil IsWellFormedPart;
  free = λ v is. refl;
  volume = λ v is. is;
  adopted = λ v is. record { volume = is.volume; adopted = adopted_some n Two v.slots (ap (is_adopted_with n Two) is.same ∙ two) };
  two = λ v is. ap (is_adopted_with n Two) is.same ∙ two;
  bars = λ v is. refl;
  in_turn = refl;
  few = omega arith;
  versions = λ v is. All-nil (λ c. c.version ≡ Two);
  writes = λ v is u begins. refl;
  stored = λ v is. refl;
}

-- a volume that is adopted with version 2 is adopted with no other
is_two : (version : Version) (v : Volume) {n : ℕ} → IsVolume n v → is_adopted_with n Two v.slots ≡ true → is_adopted_with n version v.slots ≡ true → version ≡ Two
is_two One v {n} is two one = let no : true ≡ false = sym two ∙ one_version n v is one in cc
is_two Two v is two with = refl

module _ (n : ℕ) (header : HeaderParts) (slots : List (List ℕ)) (parts : List Part) (later : List (List ℕ)) (changes : List Change) (files : List NewFile) (barred : List ℕ)
    (so_far : SoFar n header slots parts later changes files barred) (p : Part) where
  -- the volume and the barred slots after the parts so far
  abbrev mid : Volume → Midway
  mid v = after_parts n parts (before_parts v)

  mid_is : (v : Volume) → IsVolumeWith n header slots v → mid v ≡ record { volume = (mid v).volume; barred = barred }
  mid_is v is = λ i. record { volume = (mid v).volume; barred = so_far.bars v is i }

  -- the part is refused: so is the batch
  pub batch_refused : (why : Refusal) (rest : List Part) → is_adopted_with n Two slots ≡ true → RefusesPart n p barred header later why → RefusesAs n (Batch (parts ++ p ∷ rest)) header slots why
  batch_refused why rest two refuses = record {
    refused = λ v is.
        let m0 : Midway = before_parts v in
        let here : first_met (part_checks n (mid v).volume (part_place n (mid v) p) p) ≡ Some why =
        ap (λ (m : Midway). first_met (part_checks n m.volume (part_place n m p) p)) (mid_is v is) ∙ refuses.refused (mid v).volume (so_far.volume v is) in
        let all : first_met (parts_checks n (parts ++ p ∷ rest) m0) ≡ Some why =
        ap first_met (checks_more n parts (p ∷ rest) m0)
        ∙ first_of_more (parts_checks n parts m0) (parts_checks n (p ∷ rest) (mid v)) (met_none (parts_checks n parts m0) (so_far.free v is))
        ∙ first_of_first (part_checks n (mid v).volume (part_place n (mid v) p) p) (parts_checks n rest (after_part n p (mid v))) why here in
        let upgraded : is_adopted_with n Two v.slots ≡ true = ap (is_adopted_with n Two) is.same ∙ two in
        (λ i. if not (adopted_some n Two v.slots upgraded i) then Some NoRedo else if not (upgraded i) then Some NeedsUpgrade else first_met (parts_checks n (parts ++ p ∷ rest) m0)) ∙ all;
    known = refuses.known;
  }

  formed_more : IsWellFormedPart p → All IsWellFormedPart (parts ++ p ∷ [])
  formed_more formed = All-append IsWellFormedPart parts (p ∷ []) so_far.formed (All-cons IsWellFormedPart p [] formed (All-nil IsWellFormedPart))

  free_more : (v : Volume) → IsVolumeWith n header slots v → part_refusal n barred p (mid v).volume ≡ None → first_met (parts_checks n (parts ++ p ∷ []) (before_parts v)) ≡ None
  free_more v is free =
      let m0 : Midway = before_parts v in
      let here : first_met (part_checks n (mid v).volume (part_place n (mid v) p) p) ≡ None = ap (λ (m : Midway). first_met (part_checks n m.volume (part_place n m p) p)) (mid_is v is) ∙ free in
      let first : List (Bool × Refusal) = part_checks n (mid v).volume (part_place n (mid v) p) p in
      ap first_met (checks_more n parts (p ∷ []) m0)
      ∙ first_of_more (parts_checks n parts m0) (first ++ []) (met_none (parts_checks n parts m0) (so_far.free v is))
      ∙ first_of_more first [] (met_none first here)

  -- it changes nothing
  pub so_far_same : LeavesAll n p barred header later → SoFar n header slots (parts ++ p ∷ []) later changes files barred
  so_far_same leaves = record {
    formed = formed_more leaves.formed;
    free = λ v is. free_more v is (leaves.free (mid v).volume (so_far.volume v is));
    volume = λ v is. subst (λ (m : Midway). IsVolumeWith n header later m.volume) (sym (after v is)) (so_far.volume v is);
    adopted = λ v is. subst (λ (m : Midway). IsAdopted n m.volume) (sym (after v is)) (so_far.adopted v is);
    two = λ v is. subst (λ (m : Midway). is_adopted_with n Two m.volume.slots ≡ true) (sym (after v is)) (so_far.two v is);
    bars = λ v is. ap (λ (m : Midway). m.barred) (after v is);
    in_turn = so_far.in_turn;
    few = omega (arith, so_far.few, length-append parts (p ∷ []));
    versions = so_far.versions;
    writes = λ v is u begins.
        writes_more n parts (p ∷ []) (before_parts v) u
        ∙ (λ i. so_far.writes v is u begins i ++ (append-nil (part_writes p (mid v).volume (part_place n (mid v) p) u)
        ∙ ap (λ (m : Midway). part_writes p m.volume (part_place n m p) u) (mid_is v is) ∙ leaves.writes (mid v).volume (so_far.volume v is) u) i)
        ∙ append-nil (all_writes header.start changes u);
    stored = λ v is.
        files_of_more n parts (p ∷ []) (before_parts v)
        ∙ (λ i. so_far.stored v is i ++ (append-nil (part_files p (part_place n (mid v) p)) ∙ ap (λ (m : Midway). part_files p (part_place n m p)) (mid_is v is) ∙ leaves.files (mid v).volume (so_far.volume v is)) i)
        ∙ append-nil files;
  }
    where
      after : (v : Volume) → IsVolumeWith n header slots v → after_parts n (parts ++ p ∷ []) (before_parts v) ≡ record { volume = (mid v).volume; barred = barred }
      after v is =
          let here = so_far.volume v is in
          after_more n parts (p ∷ []) (before_parts v) ∙ ap (after_part n p) (mid_is v is)
          ∙ (λ i. record { volume = leaves.same (mid v).volume here i; barred = barred ++ leaves.purges (mid v).volume here i })
          ∙ (λ i. record { volume = (mid v).volume; barred = append-nil barred i })

  -- it changes slots
  pub so_far_more : (change : Change) → MakesPart n p barred header later change
      → SoFar n header slots (parts ++ p ∷ []) (bytes_with change later) (changes ++ change ∷ []) (files ++ file_at p change) (barred ++ purged_at p change.slot)
  so_far_more change makes = record {
    formed = formed_more makes.formed;
    free = λ v is. free_more v is (makes.free (mid v).volume (so_far.volume v is));
    volume = λ v is. (next v is).0;
    adopted = λ v is. (next v is).1;
    two = λ v is. subst (λ (m : Midway). is_adopted_with n Two m.volume.slots ≡ true) (sym (after v is)) (version_next n (here_mid v) p Two (so_far.adopted v is) (here_does v is) (so_far.two v is));
    bars = λ v is. ap (λ (m : Midway). m.barred) (after v is) ∙ ap (λ (bs : List ℕ). barred ++ bs) (makes.purges (mid v).volume (so_far.volume v is));
    in_turn = turn_more (8 * header.length) slots later changes change so_far.in_turn makes.fits;
    few = omega (arith, so_far.few, length-append parts (p ∷ []), length-append changes (change ∷ []));
    versions = λ v is. All-append (λ c. c.version ≡ Two) changes (change ∷ []) (so_far.versions v is)
        (All-cons (λ c. c.version ≡ Two) change [] (is_two change.version (mid v).volume (so_far.adopted v is).volume (so_far.two v is) (makes.commits (mid v).volume (so_far.volume v is))) (All-nil (λ c. c.version ≡ Two)));
    writes = λ v is u begins.
        writes_more n parts (p ∷ []) (before_parts v) u
        ∙ (λ i. so_far.writes v is u begins i ++ (append-nil (part_writes p (mid v).volume (part_place n (mid v) p) u)
        ∙ ap (λ (m : Midway). part_writes p m.volume (part_place n m p) u) (mid_is v is) ∙ makes.writes (mid v).volume (so_far.volume v is) u begins) i)
        ∙ sym (writes_all header.start changes change u);
    stored = λ v is.
        files_of_more n parts (p ∷ []) (before_parts v)
        ∙ (λ i. so_far.stored v is i ++ (append-nil (part_files p (part_place n (mid v) p)) ∙ ap (λ (m : Midway). part_files p (part_place n m p)) (mid_is v is)
        ∙ file_is p makes.file (mid v).volume (so_far.volume v is)) i);
  }
    where
      after : (v : Volume) → IsVolumeWith n header slots v → after_parts n (parts ++ p ∷ []) (before_parts v) ≡ after_part n p (record { volume = (mid v).volume; barred = barred })
      after v is = after_more n parts (p ∷ []) (before_parts v) ∙ ap (after_part n p) (mid_is v is)

      here_mid : Volume → Midway
      here_mid v = record { volume = (mid v).volume; barred = barred }

      here_does : (v : Volume) → IsVolumeWith n header slots v → PartDoes n (here_mid v) p
      here_does v is = part_does n (here_mid v) p (so_far.adopted v is) makes.formed
          (met_none (part_checks n (here_mid v).volume (part_place n (here_mid v) p) p) (makes.free (mid v).volume (so_far.volume v is)))

      next : (v : Volume) → IsVolumeWith n header slots v
          → IsVolumeWith n header (bytes_with change later) (after_parts n (parts ++ p ∷ []) (before_parts v)).volume × IsAdopted n (after_parts n (parts ++ p ∷ []) (before_parts v)).volume
      next v is =
          let m : Midway = record { volume = (mid v).volume; barred = barred } in
          let here = so_far.volume v is in
          let whole = so_far.adopted v is in
          let unmet : NoneMet (part_checks n m.volume (part_place n m p) p) = met_none (part_checks n m.volume (part_place n m p) p) (makes.free (mid v).volume here) in
          let then_adopted = part_is_adopted n m p whole makes.formed unmet in
          subst (λ (w : Midway). IsVolumeWith n header (bytes_with change later) w.volume × IsAdopted n w.volume) (sym (after v is)) (
            record {
              volume = then_adopted.volume;
              told = ap header_of (header_next n m p (part_does n m p whole makes.formed unmet)) ∙ here.told;
              same = makes.after (mid v).volume here;
            },
            then_adopted,
          )

      file_is : (q : Part) → PlacesPart n q barred header later change → (w : Volume) → IsVolumeWith n header later w → part_files q (place_beside n barred q w) ≡ part_files q (At change.slot change.entry.start)
      file_is (part.Store name kind implementation bytes) placed w is = ap (part_files (part.Store name kind implementation bytes)) (placed.chosen w is)
      file_is (part.Rename old new) placed w is = refl
      file_is (part.Purge name) placed w is = refl

-- the same, told by other words
pub so_far_is : {n : ℕ} {header : HeaderParts} {slots : List (List ℕ)} {parts : List Part} {later later_too : List (List ℕ)} {changes changes_too : List Change} {files files_too : List NewFile}
    {barred barred_too : List ℕ} → later ≡ later_too → changes ≡ changes_too → files ≡ files_too → barred ≡ barred_too
    → SoFar n header slots parts later changes files barred → SoFar n header slots parts later_too changes_too files_too barred_too
so_far_is {n} {header} {slots} {parts} {later} {later_too} {changes} {changes_too} {files} {files_too} {barred} {barred_too} a b c d so_far =
    subst (λ (xs : List (List ℕ)). SoFar n header slots parts xs changes_too files_too barred_too) a
    (subst (λ (xs : List Change). SoFar n header slots parts later xs files_too barred_too) b
    (subst (λ (xs : List NewFile). SoFar n header slots parts later changes xs barred_too) c
    (subst (λ (xs : List ℕ). SoFar n header slots parts later changes files xs) d so_far)))

-- ---- parts from place k on

pub parts_split : {X Y : Type 0} (f : X → Y) (xs : List X) (k : ℕ) (d : X) → k < length xs → map f (take k xs) ++ f (get_or xs k d) ∷ map f (drop (suc k) xs) ≡ map f xs
parts_split f [] k d lt = absurd (omega (arith, lt))
parts_split f (x ∷ xs) zero d lt = refl
parts_split f (x ∷ xs) (suc k) d lt = ap (λ ys. f x ∷ ys) (parts_split f xs k d (omega (arith, lt)))

pub parts_next : {X Y : Type 0} (f : X → Y) (xs : List X) (k : ℕ) (d : X) → k < length xs → map f (take k xs) ++ f (get_or xs k d) ∷ [] ≡ map f (take (k + 1) xs)
parts_next f xs k d lt = sym (ap (map f) (take_more xs k d lt) ∙ map-append f (take k xs) (get_or xs k d ∷ []))

-- ---- the whole batch

-- on a volume that is adopted with version 1
pub needs_upgrade : (n : ℕ) (parts : List Part) (header : HeaderParts) (slots : List (List ℕ)) → is_adopted_with n One slots ≡ true → RefusesAs n (Batch parts) header slots NeedsUpgrade
needs_upgrade n parts header slots one = refuses refl (λ v is.
    let adopted : is_adopted n slots ≡ true = adopted_some n One slots one in
    let old : is_adopted_with n Two slots ≡ false = one_version n (record v { slots = slots }) is.volume one in
    λ i. if not (adopted i) then Some NoRedo else if not (old i) then Some NeedsUpgrade else first_met (parts_checks n parts (before_parts (record v { slots = slots }))))

-- on one that is adopted with version 2, where no part is refused
pub batch_plan : (n : ℕ) (parts : List Part) (header : HeaderParts) (slots later : List (List ℕ)) (changes : List Change) (files left : List NewFile) (barred : List ℕ) (unchanged : Bool)
    → is_adopted_with n Two slots ≡ true → length parts ≤ most_parts → SoFar n header slots parts later changes files barred → left ≡ filter (is_left_in later) files → unchanged ≡ same_slots slots later
    → PlansBatch n parts header slots later changes left unchanged
batch_plan n parts header slots later changes files left barred unchanged two few so_far files_are same = record {
  formed = (few, so_far.formed);
  free = λ v is.
      let upgraded : is_adopted_with n Two v.slots ≡ true = ap (is_adopted_with n Two) is.same ∙ two in
      (λ i. if not (adopted_some n Two v.slots upgraded i) then Some NoRedo else if not (upgraded i) then Some NeedsUpgrade else first_met (parts_checks n parts (before_parts v))) ∙ so_far.free v is;
  after = λ v is. (so_far.volume v is).same;
  in_turn = so_far.in_turn;
  few = omega (arith, so_far.few, few);
  writes = so_far.writes;
  versions = so_far.versions;
  between = λ v is.
      let with : is_adopted_with n Two v.slots ≡ true = ap (is_adopted_with n Two) is.same ∙ two in
      let adopted : IsAdopted n v = record { volume = is.volume; adopted = adopted_some n Two v.slots with } in
      let are : AreUnrefused n parts (before_parts v) = record { midway = midway_first n v adopted; formed = so_far.formed; unmet = met_none (parts_checks n parts (before_parts v)) (so_far.free v is) } in
      let start : directory_start v.header ≡ header.start = ap (λ (h : HeaderParts). h.start) is.told in
      let long : directory_length v.header ≡ header.length = ap (λ (h : HeaderParts). h.length) is.told in
      let all : All (LiesBetween n header) (parts_files n parts (before_parts v)) =
      each_file (λ f. (directory_end v.header ≤ f.start) × (f.start + file_length f.bytes ≤ redo_start Two n)) (LiesBetween n header) (parts_files n parts (before_parts v))
      (λ f both. (omega (arith, both.0, start, long), both.1)) (files_within n parts (before_parts v) Two are with) in
      subst (All (LiesBetween n header)) (sym files_are)
      (All-filter (is_left_in later) (LiesBetween n header) files (subst (All (LiesBetween n header)) (so_far.stored v is) all));
  left = λ v is. (λ i. filter (is_left_in ((so_far.volume v is).same i)) (so_far.stored v is i)) ∙ sym files_are;
  same = same;
}

-- where the directory does not stay as it is, there are changes
pub changes_some : {n : ℕ} {parts : List Part} {header : HeaderParts} {slots later : List (List ℕ)} {changes : List Change} {files : List NewFile}
    → PlansBatch n parts header slots later changes files false → 0 < length changes
changes_some {n} {parts} {header} {slots} {later} {changes} {files} plan = go changes plan.in_turn
  where
    go : (cs : List Change) → AreInTurn (8 * header.length) slots cs later → 0 < length cs
    go [] same = let no : false ≡ true = plan.same ∙ (slice_eq-Decides bytes_eq-Decides slots later (same_slots slots later) refl).1 same in cc
    go (c ∷ cs) turn = omega arith
