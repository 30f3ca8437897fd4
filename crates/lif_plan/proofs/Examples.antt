-- Worked examples of what is planned of a directory, computed by the checker, on tapes of twelve
-- records, whose redo file of version 1 begins at record 8, and of 44 records, whose redo file of
-- version 2 begins at record 10. Files begin at record 4.
use Rattle.std.proofs.Common.{◌≡◌, ◌+◌, ◌*◌, ◌++◌, inl, inr, ℕ, List, [], ◌∷◌, true, false, refl, ap, arith, codes}
use Rattle.std.specs.Prelude.{Some, None, Ok, Err, replicate}
use Rattle.std.specs.FinMap.{empty}
use Rattle.lif_model.specs.Numbers.{two_at, four_at}
use Rattle.lif_model.specs.Tape.{Tape}
use Rattle.lif_model.specs.Shelf.{piece}
use Rattle.lif_model.specs.Header.{HeaderParts, label_of}
use Rattle.lif_model.specs.Directory.{name_of, date_of, implementation_of, entry_at}
use Rattle.lif_model.specs.Made.{with_type, new_entry, fresh_header}
use Rattle.lif_model.specs.declared.version.Version.TheVariants.{One, Two}
use Rattle.lif_model.specs.Volume.{Volume, redo_name}
use Rattle.lif_model.specs.Fit.{At, fit, fit_in}
use Rattle.lif_model.specs.Apply.{VolumeCommand, Dir, Store, Rename, Purge, Adopt, Upgrade, first_met, store_checks, fresh_volume, Format}
use Rattle.lif_model.specs.declared.refusal.Refusal.TheVariants as refusal
use Rattle.lif_model.proofs.Apply.{format_is_adopted}
use Rattle.lif_model.proofs.Examples as base
use Rattle.lif_model.proofs.VolumeExamples.{file, purged, a_name, b_name}
use Rattle.lif_dir.specs.declared.change.Change.{Change}
use Rattle.lif_dir.specs.declared.entries.FileEntry.{FileEntry}
use Rattle.lif_dir.specs.Changes.{change_writes, slots_with, bytes_with}
use Rattle.lif_dir.specs.Entries.{slot_of, entry_from}
use Rattle.lif_plan.specs.Entries.{extent_of, lies_within, ends_first}
use Rattle.lif_plan.specs.Plans.{IsVersionOf, IsVersionOfEntry, CommitsWith, reaches_past, IsNameRefused, IsNewName, MayTake, IsVolumeWith, IsPlan, PlacesFileOf}
use Rattle.lif_model.specs.Changing.{redo_version, version_for}
use Rattle.lif_plan.proofs.Planning.{of_slots, refuses, leaves, makes}

-- the redo file of version 1 on a tape of twelve records, and of version 2 on one of 44
abbrev redo_one : List ℕ
redo_one = base.redo_entry

abbrev redo_two : List ℕ
redo_two = codes "REDOFILE  " ++ 0xE0 ∷ 0xD0 ∷ 0 ∷ 0 ∷ 0 ∷ 10 ∷ 0 ∷ 0 ∷ 0 ∷ 34 ∷ replicate 6 0 ++ 0x80 ∷ 0x01 ∷ replicate 4 0

abbrev a_file : List ℕ
a_file = file a_name 4 1

abbrev with : List (List ℕ) → Volume
with slots = record { header = base.header; slots = slots; files = empty }

-- ---- the version of the redo file

versions : IsVersionOf 12 (a_file ∷ redo_one ∷ []) (Some One) × IsVersionOf 44 (a_file ∷ redo_two ∷ []) (Some Two) × IsVersionOf 12 (a_file ∷ []) None
unfolding four_at two_at name_of
versions = (refl, refl, refl)

-- a redo file in another place is none
not_versions : (IsVersionOf 12 (redo_two ∷ []) (Some Two) → ⊥) × (IsVersionOf 12 (redo_one ∷ []) None → ⊥) × (IsVersionOf 44 (redo_two ∷ []) (Some One) → ⊥)
unfolding four_at two_at name_of
not_versions = ((λ is. cc), (λ is. cc), (λ is. cc))

version_of_entry : IsVersionOfEntry 12 redo_one (Some One) × IsVersionOfEntry 12 a_file None
unfolding four_at two_at name_of
version_of_entry = (refl, refl)

not_version_of_entry : IsVersionOfEntry 12 redo_one (Some Two) → ⊥
unfolding four_at two_at name_of
not_version_of_entry is = cc

-- the version of the redo file in the directory, where there is one; `format` makes one of version 1
versions_for : (redo_version 12 (a_file ∷ redo_one ∷ []) ≡ One) × (redo_version 44 (a_file ∷ redo_two ∷ []) ≡ Two) × (redo_version 12 (redo_two ∷ []) ≡ One)
    × (version_for 44 (Rename a_name b_name) (Some (with (a_file ∷ redo_two ∷ []))) ≡ Two) × (version_for 12 Upgrade (Some (with (redo_one ∷ []))) ≡ One)
    × (version_for 12 Adopt (Some (with (a_file ∷ []))) ≡ One) × (version_for 44 (Format (codes "HPTAPE") 16) (Some (with (redo_two ∷ []))) ≡ One)
unfolding four_at two_at name_of
versions_for = (refl, refl, refl, refl, refl, refl, refl)

-- by the version of the redo file; `adopt` and `upgrade` by version 1
commits_with : CommitsWith 44 Two (Purge a_name) (with (a_file ∷ redo_two ∷ [])) × CommitsWith 12 One (Rename a_name b_name) (with (a_file ∷ redo_one ∷ []))
    × CommitsWith 44 Two (Store b_name 1 (replicate 4 0) []) (with (redo_two ∷ [])) × CommitsWith 12 One Adopt (with (a_file ∷ [])) × CommitsWith 12 One Upgrade (with (redo_one ∷ []))
unfolding four_at two_at name_of
commits_with = (refl, refl, refl, (refl, refl), (refl, refl))

not_commits_with : (CommitsWith 44 One (Purge a_name) (with (a_file ∷ redo_two ∷ [])) → ⊥) × (CommitsWith 12 One Adopt (with (redo_one ∷ [])) → ⊥) × (CommitsWith 12 One Dir (with (redo_one ∷ [])) → ⊥)
unfolding four_at two_at name_of
not_commits_with = ((λ is. cc), (λ is. let adopted : true ≡ false = is.1 in cc), (λ none. none))

-- a file that ends at the record does not reach past it; neither does a purged one, one of no
-- records, or the redo file
reaching : (reaches_past 12 8 (file a_name 7 2) ≡ true) × (reaches_past 12 8 (file a_name 7 1) ≡ false) × (reaches_past 12 8 (purged (file a_name 7 2)) ≡ false)
    × (reaches_past 12 8 (file a_name 9 0) ≡ false) × (reaches_past 12 8 redo_one ≡ false)
unfolding four_at two_at name_of with_type
reaching = (refl, refl, refl, refl, refl)

-- a file of two records from record 5 on
extents : (extent_of (file a_name 5 2) ≡ record { start = 5; end = 7 })
    × (lies_within 5 7 (extent_of (file a_name 5 2)) ≡ true) × (lies_within 6 12 (extent_of (file a_name 5 2)) ≡ false) × (lies_within 4 6 (extent_of (file a_name 5 2)) ≡ false)
unfolding four_at two_at
extents = (refl, refl, refl, refl)

-- files that touch, and files that share a record
neighbours : (ends_first (extent_of (file a_name 4 2)) (extent_of (file b_name 6 1)) ≡ true) × (ends_first (extent_of (file a_name 4 2)) (extent_of (file b_name 5 1)) ≡ false)
unfolding four_at two_at
neighbours = (refl, refl)

-- ---- a new file's name and slot

name_free : IsNewName 12 b_name (a_file ∷ redo_one ∷ []) (Ok One)
unfolding four_at two_at name_of
name_free = record { adopted = refl; other = refl; none_named = refl; ten = refl }

-- a name that is there is not free
not_name_free : IsNewName 12 a_name (a_file ∷ redo_one ∷ []) (Ok One) → ⊥
unfolding four_at two_at name_of
not_name_free free = let there : true ≡ false = free.none_named in cc

name_refused : IsNewName 12 a_name (a_file ∷ redo_one ∷ []) (Err refusal.Exists)
unfolding four_at two_at name_of
name_refused = record { refused = λ v same place. ap (λ (slots : List (List ℕ)). first_met (store_checks 12 (record v { slots = slots }) a_name place)) same; known = refl }

not_name_refused : IsNameRefused 12 b_name (a_file ∷ redo_one ∷ []) refusal.Exists → ⊥
unfolding four_at two_at name_of
not_name_refused is = let no : first_met (store_checks 12 (with (a_file ∷ redo_one ∷ [])) b_name (At 1 5)) ≡ Some refusal.Exists = is.refused (with (a_file ∷ redo_one ∷ [])) refl (At 1 5) in cc

-- a purged slot before the redo entry, or its own, where the directory has room for one more
may_take : MayTake 16 (purged a_file ∷ redo_one ∷ []) 0 × MayTake 16 (a_file ∷ redo_one ∷ []) 1
unfolding four_at two_at name_of with_type
may_take = (inl (omega arith, omega arith, refl), inr (refl, refl))

not_may_take : (MayTake 16 (a_file ∷ redo_one ∷ []) 0 → ⊥) × (MayTake 2 (a_file ∷ redo_one ∷ []) 1 → ⊥)
unfolding four_at two_at name_of
not_may_take = (of_a_file, no_room)
  where
    of_a_file : MayTake 16 (a_file ∷ redo_one ∷ []) 0 → ⊥
    of_a_file (inl purged) = let no : false ≡ true = purged.2 in cc
    of_a_file (inr own) = let no : 0 ≡ 1 = own.0 in absurd (omega (arith, no))

    no_room : MayTake 2 (a_file ∷ redo_one ∷ []) 1 → ⊥
    no_room (inl purged) = let no : false ≡ true = purged.2 in cc
    no_room (inr own) = let no : false ≡ true = own.1 in cc

-- ---- slots that change

abbrev b_entry : FileEntry
b_entry = entry_from (file b_name 4 1)

-- it takes slot 0; slot 1, which is the last but for an end after it; and that of the redo entry
abbrev first : Change
first = record { version = One; slot = 0; entry = b_entry; next = None; ended = false }

abbrev second : Change
second = record { version = One; slot = 1; entry = b_entry; next = None; ended = true }

abbrev third : Change
third = record { version = One; slot = 0; entry = b_entry; next = Some (entry_from redo_one); ended = true }

abbrev old_bytes : List ℕ
old_bytes = replicate 32 7

abbrev new_end : List ℕ
new_end = replicate 10 7 ++ 0xFF ∷ 0xFF ∷ replicate 20 7

abbrev tape : Tape
tape = base.tape_with (a_file ++ base.end_entry ++ old_bytes)

-- the slot after the end keeps its bytes but for the type
writes : (change_writes 2 first tape ≡ (0, file b_name 4 1) ∷ []) × (change_writes 2 second tape ≡ (1, file b_name 4 1) ∷ (2, new_end) ∷ [])
    × (change_writes 2 third tape ≡ (0, file b_name 4 1) ∷ (1, redo_one) ∷ (2, new_end) ∷ [])
unfolding entry_at with_type four_at two_at name_of date_of implementation_of
writes = (refl, refl, refl)

slots : (bytes_with first (a_file ∷ redo_one ∷ []) ≡ file b_name 4 1 ∷ redo_one ∷ []) × (bytes_with second (a_file ∷ []) ≡ a_file ∷ file b_name 4 1 ∷ [])
    × (bytes_with third (redo_one ∷ []) ≡ file b_name 4 1 ∷ redo_one ∷ []) × (slots_with second (slot_of b_entry ∷ []) ≡ slot_of b_entry ∷ slot_of b_entry ∷ [])
unfolding four_at two_at name_of date_of implementation_of
slots = (refl, refl, refl, refl)

-- ---- plans

abbrev header : HeaderParts
header = record { label = codes "HPTAPE"; start = 2; length = 2 }

-- a tape as `format` makes it
abbrev fresh : Volume
fresh = fresh_volume 12 (codes "HPTAPE") 16

of_fresh : IsVolumeWith 12 header (redo_one ∷ []) fresh
unfolding four_at two_at label_of fresh_header new_entry piece
of_fresh = record { volume = (format_is_adopted 12 (codes "HPTAPE") 16 (refl, omega arith) refl).volume; told = refl; same = refl }

not_of_fresh : IsVolumeWith 12 header [] fresh → ⊥
unfolding new_entry
not_of_fresh is = let no : redo_one ∷ [] ≡ [] = is.same in cc

-- without a redo file nothing is purged; a name that is not there is not purged, and not that of the redo file
refused : IsPlan 12 (Purge a_name) header (a_file ∷ []) (Err refusal.NoRedo) × IsPlan 12 (Purge b_name) header (a_file ∷ redo_one ∷ []) (Err refusal.NoFile)
    × IsPlan 12 (Purge redo_name) header (a_file ∷ redo_one ∷ []) (Err refusal.Protected)
unfolding four_at two_at name_of
refused = (refuses refl (λ v is. refl), refuses refl (λ v is. refl), refuses refl (λ v is. refl))

-- where the directory is not kept it is no plan
not_refused : IsPlan 12 (Purge b_name) header (a_file ∷ redo_one ∷ []) (Err refusal.NotLif) → ⊥
not_refused plan = let kept : false ≡ true = plan.known in cc

-- the volume is adopted already
nothing : IsPlan 12 Adopt header (a_file ∷ redo_one ∷ []) (Ok None)
unfolding four_at two_at name_of
nothing = leaves tt (λ v is. refl) (λ v is u. refl) (λ v is. refl)

not_nothing : IsPlan 12 (Purge redo_name) header (redo_one ∷ []) (Ok None) → ⊥
unfolding four_at two_at name_of new_entry
not_nothing plan = let no : Some refusal.Protected ≡ None = plan.free fresh of_fresh in cc

abbrev without_a : Change
without_a = record { version = One; slot = 0; entry = entry_from (purged a_file); next = None; ended = false }

changed : IsPlan 12 (Purge a_name) header (a_file ∷ redo_one ∷ []) (Ok (Some without_a))
unfolding four_at two_at name_of with_type date_of implementation_of
changed = makes without_a refl (record { place = omega arith; one = omega arith; within = omega arith; kind = λ no. absurd (omega (arith, no)); next = tt; end_within = λ no. cc; end_past = λ no. cc; end_there = λ more room. absurd (omega (arith, more)) }) tt
    (λ v is. refl) (λ v is. refl) (λ v is u told. refl) (λ v is. refl)

-- a slot that is not there, and a file that is refused
not_changed : (IsPlan 12 (Purge a_name) header [] (Ok (Some second)) → ⊥) × (IsPlan 12 (Purge redo_name) header (redo_one ∷ []) (Ok (Some first)) → ⊥)
unfolding four_at two_at name_of new_entry
not_changed = ((λ plan. absurd (omega (arith, plan.fits.place))), (λ plan. let no : Some refusal.Protected ≡ None = plan.free fresh of_fresh in cc))

-- ---- the file of a store

abbrev storing : VolumeCommand
storing = Store b_name 1 (replicate 4 0) (codes "B")

placed : PlacesFileOf 12 storing header (redo_one ∷ []) third × PlacesFileOf 12 (Purge b_name) header (redo_one ∷ []) third
unfolding four_at two_at name_of
placed = (
  record {
    chosen = of_slots (λ v. fit_in 12 v 1 ≡ At 0 4) (λ v is. ap (λ (h : HeaderParts). fit 12 (h.start + h.length) (8 * h.length) (redo_one ∷ []) 1) is.told);
    count = refl;
    low = omega arith;
    high = omega arith;
  },
  tt,
)

-- not where the redo file lies
not_placed : PlacesFileOf 12 storing header (redo_one ∷ []) (record third { entry = entry_from (file b_name 8 1) }) → ⊥
unfolding four_at two_at name_of
not_placed is = absurd (omega (arith, is.high))
