-- The tape that a batch makes: first the files that are left, and then all slots at once.
use Rattle.std.proofs.Common.{◌≡◌, ◌⊎◌, ◌<◌, ◌≤◌, ◌+◌, ◌&&◌, ◌==◌, ℕ, nat_lt, nat_le, List, [], ◌∷◌, Bool, true, false, if◌then◌else◌, Some, None, length, get_or, filter, inl, inr, refl, sym, ◌∙◌, ap, subst, arith}
use Rattle.std.specs.Prelude.{All}
use Rattle.std.specs.List.{list_any}
use Rattle.std.proofs.lemmas.Bool.{cases_lt, and_parts, or_cases, ltb-true, lt-ltb, eqb-true, and_from, not-false, false_from_ne_true}
use Rattle.std.proofs.lemmas.List.Elements.{All-head, All-tail, All-filter}
use Rattle.std.specs.FinMap.{from_entries}
use Rattle.std.proofs.lemmas.Slice.Eq.{slice_eq-Decides, bytes_eq-Decides}
use Rattle.lif_model.specs.Tape.{Tape, IsTape, record_at}
use Rattle.lif_model.specs.Header.{directory_start, directory_length, directory_end, capacity_of}
use Rattle.lif_model.specs.Directory.{start_of, length_of, slots_of}
use Rattle.lif_model.specs.Made.{file_length}
use Rattle.lif_model.specs.declared.version.Version.{Version}
use Rattle.lif_model.specs.declared.version.Version.TheVariants.{Two}
use Rattle.lif_model.specs.Redo.{redo_start, changed}
use Rattle.lif_model.specs.Legal.{is_live, has_records, occupies, holds}
use Rattle.lif_model.specs.Volume.{is_redo_file, is_adopted_with, is_adopted, is_file, files_of, Volume, volume_in, IsAdopted, is_used}
use Rattle.lif_model.specs.Fit.{redo_place}
use Rattle.lif_model.specs.Parts.{Part}
use Rattle.lif_model.specs.Apply.{Batch, IsWellFormed, checks_of, refusal_of, Midway, before_parts, after_parts}
use Rattle.lif_model.specs.Writing.{SlotWrites, with_slots, changes_by, parts_writes, same_slots, NewFile, parts_files, is_left_in, files_left, with_files, written_by}
use Rattle.lif_model.proofs.Lists.{any_at}
use Rattle.lif_model.proofs.Made.{file_has_records}
use Rattle.lif_model.proofs.Redo.{redo_places}
use Rattle.lif_model.proofs.Volume.{volume_agrees, entries_at, map_agrees}
use Rattle.lif_model.proofs.Apply.{NoneMet, none_met}
use Rattle.lif_model.proofs.Adopted.{redo_place_is, adopted_version, is_file_tells, holds_tells}
use Rattle.lif_model.proofs.Directory.{volume_tells}
use Rattle.lif_model.proofs.Writing.{AreEntries, untouched, rewritten, slots_record, slots_elsewhere, slots_shape, changes_write}
use Rattle.lif_model.proofs.Slotted.{IsOn, is_on, entry_on_size}
use Rattle.lif_model.proofs.Places.{IsAside, aside_here}
use Rattle.lif_model.proofs.Written.{Makes, nothing_makes}
use Rattle.lif_model.proofs.NewFiles.{IsOff, IsSpareFile, files_shape, files_elsewhere, files_dropped, files_are_aside, aside_has_volume}
use Rattle.lif_model.proofs.Parts.{midway_first, IsKeptIn, AreUnrefused, midway_after, header_after, each_file, files_kept, files_apart, files_within}
use Rattle.lif_model.proofs.PartsWritten.{AreSized, parts_entries, Follows, follows}

-- ---- what a tape uses

-- a record that the volume of a tape uses is one before the directory's end, or in a file
used_tells : (n : ℕ) (t : Tape) (v : Volume) (k : ℕ) → IsTape n t → volume_in t ≡ Some v → is_used t k ≡ true
    → (k < directory_end v.header) ⊎ ((j : ℕ) × (j < length v.slots) × (is_file n (get_or v.slots j []) ≡ true) × (holds k (get_or v.slots j []) ≡ true))
used_tells n t v k tape told used = elim (or_cases (k == 0) _ used) [
  | inl first ↦ inl (omega (arith, eqb-true k 0 first, on.starts))
  | inr more ↦ elim (or_cases (nat_le (directory_start (record_at t 0)) k && nat_lt k (directory_end (record_at t 0))) _ more) [
    | inl directory ↦ inl (omega (arith, ltb-true k (directory_end (record_at t 0)) (and_parts _ _ directory).1, ap directory_end on.header))
    | inr file ↦
        let held = any_at [] (λ slot. is_file (length t) slot && holds k slot) (slots_of t) file in
        let both = and_parts (is_file (length t) (get_or (slots_of t) held.0 [])) (holds k (get_or (slots_of t) held.0 [])) held.2 in
        inr (
          held.0,
          omega (arith, held.1, ap (λ (xs : List (List ℕ)). length xs) on.slots),
          (λ i. is_file (sym tape.records i) (get_or (on.slots i) held.0 [])) ∙ both.0,
          ap (λ (xs : List (List ℕ)). holds k (get_or xs held.0 [])) on.slots ∙ both.1,
        )
  ]
]
  where
    on : IsOn n t v
    on = is_on n t v tape told

all_dropped : (keep : NewFile → Bool) (fs : List NewFile) → All (λ f. keep f ≡ false) fs → filter keep fs ≡ []
all_dropped keep [] off = refl
all_dropped keep (f ∷ fs) off = ap (λ (b : Bool). if b then f ∷ filter keep fs else filter keep fs) (All-head (λ f. keep f ≡ false) f fs off) ∙ all_dropped keep fs (All-tail (λ f. keep f ≡ false) f fs off)

-- what is known of a batch that is not refused
pub unrefused : (n : ℕ) (parts : List Part) (v : Volume) → IsAdopted n v → IsWellFormed (Batch parts) → refusal_of n (Batch parts) (Some v) ≡ None → AreUnrefused n parts (before_parts v)
unrefused n parts v is formed none = record { midway = midway_first n v is; formed = formed.1; unmet = (none_met n (Batch parts) v none).1.1 }

-- a batch that is not refused finds a redo file of version 2
pub batch_is_two : (n : ℕ) (parts : List Part) (v : Volume) → refusal_of n (Batch parts) (Some v) ≡ None → (is_adopted n v.slots ≡ true) × (is_adopted_with n Two v.slots ≡ true)
batch_is_two n parts v none =
    let unmet : NoneMet (checks_of n (Batch parts) v) = none_met n (Batch parts) v none in
    (not-false (is_adopted n v.slots) unmet.0, not-false (is_adopted_with n Two v.slots) unmet.1.0)

module _ (n : ℕ) (u : Tape) (v : Volume) (tape : IsTape n u) (told : volume_in u ≡ Some v) (parts : List Part) (is : IsAdopted n v) (are : AreUnrefused n parts (before_parts v)) where
  on : IsOn n u v
  on = is_on n u v tape told

  abbrev last : Midway
  last = after_parts n parts (before_parts v)

  abbrev all_files : List NewFile
  all_files = parts_files n parts (before_parts v)

  abbrev left : List NewFile
  left = files_left n parts v

  abbrev start : ℕ
  start = directory_start v.header

  abbrev ws : SlotWrites
  ws = parts_writes n parts (before_parts v) u

  sizes : AreSized u (capacity_of v.header)
  sizes = entry_on_size n u v on

  pub batch_entries : AreEntries (capacity_of v.header) ws
  batch_entries = parts_entries n parts (before_parts v) u are sizes

  -- a live file of the first volume keeps its slot and its records
  first_kept : (j : ℕ) → j < length v.slots → is_file n (get_or v.slots j []) ≡ true → IsKeptIn (before_parts v) j (start_of (get_or v.slots j [])) (length_of (get_or v.slots j []))
  first_kept j lt file =
      let tells = is_file_tells n (get_or v.slots j []) file in
      record {
        within = lt;
        other = λ e. let no : true ≡ false = sym (redo_place_is n v is).1 ∙ sym (ap (λ (k : ℕ). is_redo_file n (get_or v.slots k [])) e) ∙ tells.1 in cc;
        starts = refl;
        longs = refl;
        there = inl tells.0;
      }

  -- The records of each new file are spare on the first tape.
  pub all_spare : (version : Version) → is_adopted_with n version v.slots ≡ true → All (IsSpareFile version u) all_files
  all_spare version with = λ i d lt k from under.
      let f : NewFile = get_or all_files i d in
      let within = files_within n parts (before_parts v) version are with i d lt in
      let places = redo_places version n in
      let below : k < redo_start version n = omega (arith, under, within.1) in
      record {
        unused = false_from_ne_true (is_used u k) (λ used. elim (used_tells n u v k tape told used) [
          | inl directory ↦ absurd (omega (arith, directory, within.0, from))
          | inr file ↦
              let slot : List ℕ = get_or v.slots file.0 [] in
              let held = holds_tells k slot file.3 in
              elim (files_apart n parts (before_parts v) are file.0 (start_of slot) (length_of slot) (first_kept file.0 file.1 file.2) (omega (arith, held.0, held.1)) i d lt) [
                | inl le ↦ absurd (omega (arith, le, held.1, from))
                | inr le ↦ absurd (omega (arith, le, held.0, under))
              ]
        ]);
        off_gate = λ e. absurd (omega (arith, e, below, tape.records, places.0));
        off_targets = λ e. absurd (omega (arith, e, below, tape.records, places.1));
        below = omega (arith, below, tape.records);
      }

  -- and so are those of each that is left
  pub left_spare : (version : Version) → is_adopted_with n version v.slots ≡ true → All (IsSpareFile version u) left
  left_spare version with = All-filter (is_left_in last.volume.slots) (IsSpareFile version u) all_files (all_spare version with)

  all_short : All (λ f. f.start + file_length f.bytes ≤ length u) all_files
  all_short = λ i d lt.
      let version = adopted_version n v.slots is.adopted in
      omega (arith, (files_within n parts (before_parts v) version.0 are version.1 i d lt).1, tape.records)

  pub left_short : All (λ f. f.start + file_length f.bytes ≤ length u) left
  left_short = All-filter (is_left_in last.volume.slots) (λ f. f.start + file_length f.bytes ≤ length u) all_files all_short

  -- the tape with the files
  pub left_aside : IsAside u (with_files left u)
  left_aside =
      let version = adopted_version n v.slots is.adopted in
      files_are_aside version.0 u left u (left_spare version.0 version.1) left_short (aside_here u)

  pub left_first : IsTape n (with_files left u) × (volume_in (with_files left u) ≡ Some v)
  left_first = (files_shape n left u tape, aside_has_volume u (with_files left u) left_aside ∙ told)

  -- ---- the last tape

  abbrev made : Tape
  made = with_slots start ws (with_files left u)

  -- a record before the directory's end is none of a file
  off_directory : (k : ℕ) → k < directory_end v.header → All (IsOff k) all_files
  off_directory k lt =
      let version = adopted_version n v.slots is.adopted in
      each_file (λ f. (directory_end v.header ≤ f.start) × (f.start + file_length f.bytes ≤ redo_start version.0 n)) (IsOff k) all_files
      (λ f both. inl (omega (arith, lt, both.0))) (files_within n parts (before_parts v) version.0 are version.1)

  -- a record of a live file is none of a file that is not left
  off_file : (j k : ℕ) → j < length last.volume.slots → occupies (get_or last.volume.slots j []) ≡ true → holds k (get_or last.volume.slots j []) ≡ true
      → All (λ f. is_left_in last.volume.slots f ≡ false → IsOff k f) all_files
  off_file j k lt occupied on_it = λ i d less gone.
      let f : NewFile = get_or all_files i d in
      let slots : List (List ℕ) = last.volume.slots in
      let kept = files_kept n parts (before_parts v) are i d less in
      let held = holds_tells k (get_or slots j []) on_it in
      elim kept.there [
        | inl live ↦ let no : true ≡ false = sym live ∙ gone in cc
        | inr barred ↦ elim (((midway_after n parts (before_parts v) are).bars f.slot barred).apart j lt occupied (lt-ltb 0 (length_of (get_or slots f.slot [])) (omega (arith, kept.longs, file_has_records f.bytes)))) [
          | inl le ↦ inr (omega (arith, le, kept.starts, kept.longs, held.0))
          | inr le ↦ inl (omega (arith, le, kept.starts, held.1))
        ]
      ]

  header : last.volume.header ≡ v.header
  header = header_after n parts (before_parts v) are

  all_made : (x : Tape) × Follows n parts (before_parts v) u u x
  all_made = follows n parts (before_parts v) u u are tape told (λ j above below. refl)

  abbrev x : Tape
  x = all_made.0

  made_shape : IsTape n made
  made_shape = slots_shape start n (directory_length v.header) ws (with_files left u) left_first.0 (omega (arith, on.ends)) batch_entries

  -- it agrees with that of one part after the other in all records that matter
  agrees : (k : ℕ) → is_used x k ≡ true → record_at made k ≡ record_at x k
  agrees k used = elim (used_tells n x last.volume k all_made.1.makes.tape all_made.1.makes.volume used) [
    | inl low ↦
        let lt : k < directory_end v.header = omega (arith, low, ap directory_end header) in
        elim (cases_lt k start) [
          | inl before ↦ elsewhere (omega (arith, lt, on.ends)) (inl before) (each_file (IsOff k) (λ f. is_left_in last.volume.slots f ≡ false → IsOff k f) all_files (λ f off gone. off) (off_directory k lt))
          | inr from ↦
              slots_record start ws (with_files left u) k (omega (arith, lt, on.ends, left_first.0.records))
              ∙ ap (rewritten start ws k) (files_elsewhere left u k (All-filter (is_left_in last.volume.slots) (IsOff k) all_files (off_directory k lt)))
              ∙ sym (all_made.1.inside k from lt)
        ]
    | inr file ↦
        let slot : List ℕ = get_or last.volume.slots file.0 [] in
        let held = holds_tells k slot file.3 in
        let occupied : occupies slot ≡ true = and_from (is_live slot) (has_records slot) (is_file_tells n slot file.2).0 (lt-ltb 0 (length_of slot) (omega (arith, held.0, held.1))) in
        let within = (midway_after n parts (before_parts v) are).adopted.volume.legal.within file.0 file.1 occupied in
        elsewhere (omega (arith, held.1, within.1)) (inr (omega (arith, held.0, within.0, ap directory_end header))) (off_file file.0 k file.1 occupied file.3)
  ]
    where
      elsewhere : k < n → (k < start) ⊎ (directory_end v.header ≤ k) → All (λ f. is_left_in last.volume.slots f ≡ false → IsOff k f) all_files → record_at made k ≡ record_at x k
      elsewhere lt out off =
          slots_elsewhere start ws (with_files left u) k (untouched start (directory_length v.header) ws k batch_entries out)
          ∙ files_dropped (is_left_in last.volume.slots) all_files u k (omega (arith, lt, tape.records)) off
          ∙ sym (all_made.1.outside k lt out)

  -- the files that are left, and all slot writes at once, make the volume after all parts
  pub all_at_once : Makes n v last.volume made
  all_at_once = record {
    tape = made_shape;
    volume = volume_agrees made x (made_shape.records ∙ sym all_made.1.makes.tape.records) agrees ∙ all_made.1.makes.volume;
    adopted = all_made.1.makes.adopted;
  }

  -- ---- where no slot changes

  -- nothing changes at all
  same_volume : same_slots v.slots last.volume.slots ≡ true → last.volume ≡ v
  same_volume same =
      let slots : v.slots ≡ last.volume.slots = (slice_eq-Decides bytes_eq-Decides v.slots last.volume.slots (same_slots v.slots last.volume.slots) refl).0 same in
      let first = volume_tells (with_files left u) v left_first.1 in
      let after = volume_tells made last.volume all_at_once.volume in
      let files : files_of made last.volume.slots ≡ files_of (with_files left u) v.slots =
      (λ i. from_entries (entries_at (size i) made (sym slots i)))
      ∙ ap from_entries (map_agrees n made (with_files left u) v.slots (λ k on_it. slots_elsewhere start ws (with_files left u) k (untouched start (directory_length v.header) ws k batch_entries (inr (behind k on_it)))))
      ∙ (λ i. from_entries (entries_at (sym left_first.0.records i) (with_files left u) v.slots)) in
      let both : last.volume.files ≡ v.files = after.3 ∙ sym (ap (files_of made) after.2) ∙ files ∙ ap (files_of (with_files left u)) first.2 ∙ sym first.3 in
      λ i. record { header = header i; slots = sym slots i; files = both i }
    where
      size : length made ≡ n
      size = made_shape.records

      behind : (k : ℕ) → list_any (λ slot. is_file n slot && holds k slot) v.slots ≡ true → directory_end v.header ≤ k
      behind k on_it =
          let found = any_at [] (λ slot. is_file n slot && holds k slot) v.slots on_it in
          let slot : List ℕ = get_or v.slots found.0 [] in
          let both = and_parts (is_file n slot) (holds k slot) found.2 in
          let held = holds_tells k slot both.1 in
          let occupied : occupies slot ≡ true = and_from (is_live slot) (has_records slot) (is_file_tells n slot both.0).0 (lt-ltb 0 (length_of slot) (omega (arith, held.0, held.1))) in
          omega (arith, held.0, (is.volume.legal.within found.0 found.1 occupied).0)

  -- then no file is left
  pub none_left : same_slots v.slots last.volume.slots ≡ true → left ≡ []
  none_left same = all_dropped (is_left_in slots) all_files (λ i d less.
      let f : NewFile = get_or all_files i d in
      let kept = files_kept n parts (before_parts v) are i d less in
      let slot : get_or v.slots f.slot [] ≡ get_or slots f.slot [] = ap (λ (xs : List (List ℕ)). get_or xs f.slot []) equal in
      false_from_ne_true (is_left_in slots f) (λ live.
      elim (files_apart n parts (before_parts v) are f.slot f.start (file_length f.bytes) (record {
        within = omega (arith, kept.within, ap (λ (xs : List (List ℕ)). length xs) equal);
        other = λ e. kept.other (e ∙ ap redo_place equal);
        starts = ap start_of slot ∙ kept.starts;
        longs = ap length_of slot ∙ kept.longs;
        there = inl (ap is_live slot ∙ live);
      }) (file_has_records f.bytes) i d less) [
        | inl le ↦ absurd (omega (arith, le, file_has_records f.bytes))
        | inr le ↦ absurd (omega (arith, le, file_has_records f.bytes))
      ]))
    where
      slots : List (List ℕ)
      slots = last.volume.slots

      equal : v.slots ≡ slots
      equal = (slice_eq-Decides bytes_eq-Decides v.slots slots (same_slots v.slots slots) refl).0 same

  pub batch_makes : Makes n v last.volume (written_by n (Batch parts) v u)
  batch_makes = go (same_slots v.slots last.volume.slots) refl
    where
      go : (b : Bool) → same_slots v.slots last.volume.slots ≡ b → Makes n v last.volume (written_by n (Batch parts) v u)
      go true e =
          let same : last.volume ≡ v = same_volume e in
          subst (λ (b : Bool). Makes n v last.volume (changed (changes_by start (if b then [] else ws) u) (with_files left u))) (sym e)
          (nothing_makes n (with_files left u) v left_first.0 left_first.1 (with_files left u) last.volume refl same)
      go false e =
          subst (λ (b : Bool). Makes n v last.volume (changed (changes_by start (if b then [] else ws) u) (with_files left u))) (sym e)
          (subst (Makes n v last.volume)
          (sym (changes_write start (directory_length v.header) ws batch_entries n u (with_files left u) (omega (arith, on.ends)) tape.records left_first.0.records
          (λ k low high. files_elsewhere left u k (All-filter (is_left_in last.volume.slots) (IsOff k) all_files (off_directory k (omega (arith, high)))))))
          all_at_once)
