-- Worked examples of what commands change, computed by the checker, on a tape of twelve records: the
-- directory is records 2 and 3, files begin at record 4, and the redo file at record 8.
use Rattle.std.proofs.Common.{◌≡◌, ◌<◌, ◌++◌, ◌*◌, ◌∙◌, inl, inr, ℕ, zero, suc, List, [], ◌∷◌, true, false, refl, sym, ap, subst, arith, codes}
use Rattle.std.specs.Prelude.{Option, Some, None, Ok, Err, replicate, get_or}
use Rattle.std.specs.FinMap.{empty}
use Rattle.lif_model.specs.Numbers.{two_at, four_at}
use Rattle.lif_model.specs.Tape.{Tape, record_at}
use Rattle.lif_model.specs.Gate.{is_open}
use Rattle.lif_model.specs.Directory.{name_of, entry_at, entries_of}
use Rattle.lif_model.specs.Made.{new_entry, with_type, first_directory_record, fresh_header}
use Rattle.lif_model.specs.Shelf.{piece}
use Rattle.lif_model.specs.declared.version.Version.TheVariants.{One, Two}
use Rattle.lif_model.specs.Redo.{Changes, changed, open_gate, zeros, targets_record, is_valid}
use Rattle.lif_model.specs.Volume.{Volume}
use Rattle.lif_model.specs.Apply.{Dir, Store, Rename, Purge, Adopt, Format}
use Rattle.lif_model.specs.Writing.{with_entry}
use Rattle.lif_model.specs.Transfers.{Transfer}
use Rattle.lif_model.proofs.Examples as base
use Rattle.lif_model.proofs.VolumeExamples.{file, purged, a_name, b_name, numbered}
use Rattle.lif_model.specs.declared.refusal.Refusal.TheVariants as refusal
use Rattle.lif_volume.specs.declared.fault.VolumeFault.TheVariants.{Refused, Trouble as Troubled}
use Rattle.il_ports.specs.declared.records.Trouble.TheVariants.{Medium}
use Rattle.il_ports.specs.Transfers.{CoversOnly, WritesOnly}
use Rattle.lif_redo.specs.Writing.{writes_among, AreSingle, run_of}
use Rattle.lif_volume.specs.Changing.{IsFilesAndCommit, refused_tape, IsWrittenAs, keeps_behind_command, committing, committing_on, filing, carrying, carrying_on, changing, HasEitherVolume, writes_if_any, commit_when, file_runs, AddsCommit}
use Rattle.lif_model.specs.Changing.{file_when, changes_when, changes_filed, IsChanged}
use Rattle.lif_volume.specs.Carrying.{HasFile, file_count, carry_room}
use Rattle.lif_volume.specs.Did.{IsOneOf, refusals_of}
use Rattle.lif_plan.specs.Refusals.{IsAmong}

-- ---- volumes and tapes

abbrev redo : List ℕ
redo = base.redo_entry

abbrev a_file : List ℕ
a_file = file a_name 4 1

-- the redo file of version 2 on a tape of 44 records
abbrev redo_two : List ℕ
redo_two = codes "REDOFILE  " ++ 0xE0 ∷ 0xD0 ∷ 0 ∷ 0 ∷ 0 ∷ 10 ∷ 0 ∷ 0 ∷ 0 ∷ 34 ∷ replicate 6 0 ++ 0x80 ∷ 0x01 ∷ replicate 4 0

abbrev with : List (List ℕ) → Option Volume
with slots = Some (record { header = base.header; slots = slots; files = empty })

-- with this directory, and a gate and a targets record
abbrev tape : List ℕ → List ℕ → List ℕ → List ℕ → Tape
tape directory gate targets content = base.header ∷ base.blank ∷ base.filled directory ∷ base.blank ∷ numbered 4 ∷ numbered 5 ∷ numbered 6 ∷ numbered 7
    ∷ gate ∷ targets ∷ content ∷ numbered 11 ∷ []

abbrev old : Tape
old = tape (a_file ++ redo ++ base.end_entry) base.blank base.blank base.blank

abbrev without_a : List ℕ
without_a = purged a_file ++ redo ++ base.end_entry

-- ---- what is written

-- one record of the directory; of no volume nothing, but for `format`
changes : (changes_when 12 (Purge a_name) (with (a_file ∷ redo ∷ [])) old ≡ (2, base.filled without_a) ∷ [])
    × (changes_when 12 (Purge a_name) None old ≡ []) × (changes_when 12 Dir (with (a_file ∷ redo ∷ [])) old ≡ [])
    × (changes_when 12 (Format (codes "HPTAPE") 16) None old ≡ (0, fresh_header 12 (codes "HPTAPE") 2) ∷ (2, base.filled (redo ++ base.end_entry)) ∷ [])
unfolding four_at two_at name_of with_type with_entry entry_at new_entry first_directory_record piece
changes = (refl, refl, refl, refl)

-- without changes the tape stays, with all its bytes
same_tape : IsChanged One [] old old
same_tape = refl

not_another : IsChanged One [] old (tape without_a base.blank base.blank base.blank) → ⊥
unfolding with_type
not_another is = let byte : 0 ≡ 1 = ap second_kind is in absurd (omega (arith, byte))
  where
    second_kind : Tape → ℕ
    second_kind tape = get_or (get_or tape 2 []) 11 0

-- the record of the directory is as it is to be, and the gate is zeros
abbrev purged_tape : Tape
purged_tape = tape without_a base.blank (numbered 9) (numbered 10)

changed_tape : IsChanged One ((2, base.filled without_a) ∷ []) old purged_tape
unfolding zeros with_type
changed_tape = record { records = refl; below = below; gate = refl }
  where
    below : (k : ℕ) → k < 8 → record_at purged_tape k ≡ record_at (changed ((2, base.filled without_a) ∷ []) old) k
    below zero lt = refl
    below (suc zero) lt = refl
    below (suc (suc zero)) lt = refl
    below (suc (suc (suc zero))) lt = refl
    below (suc (suc (suc (suc zero)))) lt = refl
    below (suc (suc (suc (suc (suc zero))))) lt = refl
    below (suc (suc (suc (suc (suc (suc zero)))))) lt = refl
    below (suc (suc (suc (suc (suc (suc (suc zero))))))) lt = refl
    below (suc (suc (suc (suc (suc (suc (suc (suc k)))))))) lt = absurd (omega (arith, lt))

-- not where the gate is left open
not_shut : IsChanged One ((2, base.filled without_a) ∷ []) old (tape without_a (base.filled (codes "LIFREDO1 OPEN   ")) (numbered 9) (numbered 10)) → ⊥
unfolding zeros with_type
not_shut ended = let gate : base.filled (codes "LIFREDO1 OPEN   ") ≡ base.blank = ended.gate in cc

-- ---- refusals

-- `format` refuses for want of room before it settles, and every other refusal comes after settling
abbrev open_tape : Tape
open_tape = tape (a_file ++ redo ++ base.end_entry) (base.filled (codes "LIFREDO1 OPEN   ")) (base.filled (codes "LIFREDO1" ++ 0 ∷ 1 ∷ 0 ∷ 2 ∷ [])) (base.filled without_a)

abbrev settled_tape : Tape
settled_tape = tape without_a base.blank (base.filled (codes "LIFREDO1" ++ 0 ∷ 1 ∷ 0 ∷ 2 ∷ [])) (base.filled without_a)

refused : (refused_tape (Format (codes "HPTAPE") 16) refusal.NoRoom open_tape ≡ open_tape) × (refused_tape (Format (codes "HPTAPE") 16) refusal.InUse open_tape ≡ settled_tape)
    × (refused_tape (Purge a_name) refusal.NoFile open_tape ≡ settled_tape)
unfolding two_at is_open is_valid targets_record piece zeros with_type
refused = (refl, refl, refl)

-- a refused command leaves the settled tape, and not the tape with its changes
refused_leaves : IsWrittenAs {T = ℕ} 12 (Purge a_name) old old (Err (Refused refusal.NoFile))
unfolding is_open
refused_leaves = refl

not_changed : IsWrittenAs {T = ℕ} 12 (Purge b_name) old (tape without_a base.blank base.blank base.blank) (Err (Refused refusal.NoFile)) → ⊥
unfolding is_open with_type
not_changed is = let byte : 0 ≡ 1 = ap second_kind is in absurd (omega (arith, byte))
  where
    second_kind : Tape → ℕ
    second_kind tape = get_or (get_or tape 2 []) 11 0

among : IsAmong (refusal.NotLif ∷ refusal.NoFile ∷ []) refusal.NoFile
among = inr (inl refl)

not_among : IsAmong (refusal.NotLif ∷ refusal.NoFile ∷ []) refusal.InUse → ⊥
not_among (inl is) = cc
not_among (inr (inl is)) = cc
not_among (inr (inr none)) = elim none [ ]

-- a trouble is none of the refusals
troubles : IsOneOf [] (Troubled Medium)
troubles = tt

-- ---- what is kept, and how many records are read and written

kept : (keeps_behind_command {T = ℕ} (Format (codes "HPTAPE") 16) true (Err (Refused refusal.NoRoom)) ≡ true) × (keeps_behind_command {T = ℕ} (Format (codes "HPTAPE") 16) false (Err (Refused refusal.NoRoom)) ≡ false)
    × (keeps_behind_command {T = ℕ} (Format (codes "HPTAPE") 16) false (Err (Refused refusal.InUse)) ≡ true) × (keeps_behind_command {T = ℕ} (Purge a_name) false (Err (Refused refusal.NoFile)) ≡ true)
    × (keeps_behind_command {T = ℕ} (Purge a_name) true (Err (Refused refusal.NotLif)) ≡ false) × (keeps_behind_command {T = ℕ} (Purge a_name) true (Err (Troubled Medium)) ≡ false)
kept = (refl, refl, refl, refl, refl, refl)

counts : (committing {T = ℕ} (Ok 0) ≡ 10) × (committing {T = ℕ} (Err (Refused refusal.NoFile)) ≡ 0) × (committing {T = ℕ} (Err (Troubled Medium)) ≡ 10)
counts = (refl, refl, refl)

-- on a tape with two slots and a closed gate: a change of the record with the end, and of that record and the next one
counts_on : (committing_on {T = ℕ} Adopt old [] (Ok 0) ≡ 0) × (committing_on {T = ℕ} Adopt old ((2, []) ∷ []) (Ok 0) ≡ 5)
    × (committing_on {T = ℕ} Adopt old ((2, []) ∷ (3, []) ∷ []) (Err (Troubled Medium)) ≡ 8) × (committing_on {T = ℕ} (Format (codes "HPTAPE") 16) old ((0, []) ∷ (3, []) ∷ []) (Ok 0) ≡ 7)
    × (committing_on {T = ℕ} Adopt old ((2, []) ∷ []) (Err (Refused refusal.NoFile)) ≡ 0)
unfolding is_open four_at two_at entry_at entries_of
counts_on = (refl, refl, refl, refl, refl)

-- ---- the writes

abbrev change : Changes
change = (2, numbered 7) ∷ []

-- the content, the targets, the gate, the record in place, and the gate again; first of all a gate of zeros where it
-- reads open; none without changes
writes : (writes_if_any One 12 false change ≡ (10, numbered 7) ∷ (9, targets_record One (2 ∷ [])) ∷ (8, open_gate) ∷ (2, numbered 7) ∷ (8, zeros) ∷ [])
    × (writes_if_any One 12 true change ≡ (8, zeros) ∷ (10, numbered 7) ∷ (9, targets_record One (2 ∷ [])) ∷ (8, open_gate) ∷ (2, numbered 7) ∷ (8, zeros) ∷ [])
    × (writes_if_any Two 44 false change ≡ (10, numbered 7) ∷ (41, targets_record Two (2 ∷ [])) ∷ (40, open_gate) ∷ (2, numbered 7) ∷ (40, zeros) ∷ [])
    × (writes_if_any One 12 true [] ≡ [])
writes = (refl, refl, refl, refl)

abbrev write : ℕ → List ℕ → Transfer
write n bytes = record { writes = true; first = n; bytes = bytes }

abbrev read : ℕ → List ℕ → Transfer
read n bytes = record { writes = false; first = n; bytes = bytes }

-- a list of reads and writes that is this one
abbrev only : List Transfer → List Transfer → Type 0
only one list = list ≡ one

abbrev volume : Option Volume
volume = with (a_file ∷ redo ∷ [])

-- the run of a store goes to the first record after the file that is there; no other command has one
runs : (file_runs 12 (Store b_name 1 (replicate 4 0) (7 ∷ [])) volume ≡ run_of 5 (7 ∷ []) ∷ []) × (file_runs 12 (Purge a_name) volume ≡ []) × (file_runs 12 (Store b_name 1 (replicate 4 0) []) None ≡ [])
unfolding four_at two_at name_of
runs = (refl, refl, refl)

-- and its file stands there before the directory changes
filed : (record_at (file_when 12 (Store b_name 1 (replicate 4 0) (7 ∷ [])) volume old) 5 ≡ base.filled (7 ∷ [])) × (file_when 12 (Purge a_name) volume old ≡ old)
unfolding four_at two_at name_of piece
filed = (refl, refl)

commits : (commit_when 12 (Rename a_name a_name) volume old ≡ []) × (changes_filed 12 (Purge a_name) volume old ≡ (2, base.filled without_a) ∷ [])
unfolding four_at two_at name_of with_type with_entry entry_at
commits = (refl, refl)

-- A name that is given anew changes nothing: the gate and record 0 are read, and no record is written.
adds : AddsCommit (λ k. ⊥) false 12 (Rename a_name a_name) volume old (only []) (only (read 8 (numbered 0) ∷ []))
unfolding four_at two_at name_of
adds = record { goes_on = goes_on }
  where
    goes_on : (list : List Transfer) → only [] list → (first rest : List Transfer) × only (read 8 (numbered 0) ∷ []) (list ++ (first ++ rest))
        × WritesOnly (λ k. ⊥) first × (false ≡ true → first ≡ []) × IsFilesAndCommit 12 (Rename a_name a_name) volume old rest
    goes_on [] is = ([], read 8 (numbered 0) ∷ [], refl, tt, λ on. refl, record { more = read 8 (numbered 0) ∷ []; are = refl; writes = refl; single = (refl, tt) })
    goes_on (t ∷ ts) is = cc

-- not where a record is written after settling
not_adds : AddsCommit (λ k. k ≡ 8) false 12 (Rename a_name a_name) volume old (only []) (only (write 3 (numbered 7) ∷ [])) → ⊥
unfolding four_at two_at name_of
not_adds is = let all = is.goes_on [] refl in by all.0 all.1 all.2 all.3 (ap writes_among all.5.are ∙ all.5.writes)
  where
    by : (first later : List Transfer) → first ++ later ≡ write 3 (numbered 7) ∷ [] → WritesOnly (λ k. k ≡ 8) first → writes_among later ≡ [] → ⊥
    by [] later is writes none = let written : ◌≡◌ {A = Changes} ((3, numbered 7) ∷ []) [] = sym (ap writes_among is) ∙ none in cc
    by (t ∷ ts) later is writes none =
        let same : t ≡ write 3 (numbered 7) = cc in
        let covers = subst (λ (x : Transfer). (x.writes ≡ true) → CoversOnly (λ k. k ≡ 8) x) same writes.0 refl in
        let size : 256 ≡ 256 * covers.count = covers.whole in
        let eight : 3 ≡ 8 = covers.each 0 (omega (arith, size)) in
        absurd (omega (arith, eight))

-- and where the directory is kept, not where two of its records are read by one run
not_read_again : AddsCommit (λ k. ⊥) true 12 (Rename a_name a_name) volume old (only []) (only (read 2 (numbered 0 ++ numbered 0) ∷ [])) → ⊥
unfolding four_at two_at name_of
not_read_again is = let all = is.goes_on [] refl in by all.5.more (sym (ap (λ (first : List Transfer). first ++ all.1) (all.4 refl) ∙ all.5.are) ∙ all.2) all.5.single
  where
    by : (more : List Transfer) → more ≡ read 2 (numbered 0 ++ numbered 0) ∷ [] → AreSingle more → ⊥
    by more is single = let size : 512 ≡ 256 = (subst AreSingle is single).0 in absurd (omega (arith, size))

-- ---- the files and the counts of each command

files : HasFile (Store b_name 1 (replicate 4 0) (7 ∷ [])) (Some (7 ∷ [])) × HasFile (Purge a_name) None
files = (refl, refl)

not_files : (HasFile (Store b_name 1 (replicate 4 0) (7 ∷ [])) None → ⊥) × (HasFile (Purge a_name) (Some []) → ⊥)
not_files = ((λ has. cc), λ has. cc)

calls : (file_count (Store b_name 1 (replicate 4 0) []) ≡ 1) × (file_count Adopt ≡ 0) × (carry_room 512 (record { label = codes "HPTAPE"; start = 2; length = 4 }) ≡ 513)
    × (filing {T = ℕ} 512 None (7 ∷ []) (Ok 0) ≡ 1) × (carrying {T = ℕ} 512 (Store b_name 1 (replicate 4 0) (7 ∷ [])) None (Ok 0) ≡ 11)
    × (carrying {T = ℕ} 512 (Purge a_name) None (Ok 0) ≡ 10) × (carrying_on {T = ℕ} 512 (Purge a_name) [] [] (Ok 0) ≡ 0) × (changing {T = ℕ} 512 Adopt None None (Ok 0) ≡ 588)
    × (changing {T = ℕ} 512 (Store b_name 1 (replicate 4 0) (7 ∷ [])) None None (Err (Troubled Medium)) ≡ 588)
calls = (refl, refl, refl, refl, refl, refl, refl, refl, refl)

-- ---- refusals of each command

names : (refusals_of Dir ≡ refusal.NotLif ∷ []) × (refusals_of (Format (codes "HPTAPE") 16) ≡ refusal.NoRoom ∷ refusal.InUse ∷ [])
names = (refl, refl)

-- ---- stops

abbrev kind_of_first : Option Volume → ℕ
kind_of_first None = 0xFFFF
kind_of_first (Some v) = get_or (get_or v.slots 0 []) 11 0

-- before it is adopted, and with the gate open after it
abbrev foreign : Tape
foreign = tape (a_file ++ base.end_entry) base.blank base.blank base.blank

abbrev adopting : Tape
adopting = tape (a_file ++ base.end_entry) (base.filled (codes "LIFREDO1 OPEN   ")) (base.filled (codes "LIFREDO1" ++ 0 ∷ 1 ∷ 0 ∷ 2 ∷ [])) (base.filled (a_file ++ redo ++ base.end_entry))

either_old : HasEitherVolume 12 Adopt foreign foreign
unfolding four_at two_at entries_of entry_at name_of is_open is_valid targets_record piece zeros
either_old = record { records = refl; volume = inl refl; own_gate = refl }

either_new : HasEitherVolume 12 Adopt foreign adopting
unfolding four_at two_at entries_of entry_at name_of is_open is_valid targets_record piece zeros new_entry
either_new = record { records = refl; volume = inr (tt, refl); own_gate = refl }

-- A with another type is neither
neither : HasEitherVolume 12 Adopt foreign (tape (a_name ++ 0 ∷ 2 ∷ 0 ∷ 0 ∷ 0 ∷ 4 ∷ 0 ∷ 0 ∷ 0 ∷ 1 ∷ replicate 12 0 ++ redo ++ base.end_entry) base.blank base.blank base.blank) → ⊥
unfolding four_at two_at entries_of entry_at name_of is_open is_valid targets_record piece zeros new_entry
neither has = elim has.volume [
  | inl is ↦ (let kind : 2 ≡ 1 = ap kind_of_first is in absurd (omega (arith, kind)))
  | inr is ↦ (let kind : 2 ≡ 1 = ap kind_of_first is.1 in absurd (omega (arith, kind)))
]
