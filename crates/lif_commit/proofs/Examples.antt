-- Worked examples of changes and of what is set aside for them, computed by the checker, on a tape of twelve records:
-- the directory begins at record 2, and the redo file of version 1 at record 8.
use Rattle.std.proofs.Common.{◌≡◌, ◌≢◌, ◌⊎◌, ◌<◌, ◌+◌, ◌*◌, ◌++◌, inl, inr, ℕ, zero, suc, List, [], ◌∷◌, Bool, true, false, refl, sym, ap, length, subst, ◌∙◌, arith, codes}
use Rattle.std.specs.Prelude.{Option, Some, None, Ok, Err, replicate, length, get_or}
use Rattle.lif_model.specs.Tape.{Tape, record_at}
use Rattle.lif_model.specs.Shelf.{piece}
use Rattle.lif_model.specs.Gate.{is_open, has_open_gate}
use Rattle.lif_model.specs.Directory.{entry_at}
use Rattle.lif_model.specs.Made.{with_type}
use Rattle.lif_model.specs.declared.version.Version.TheVariants.{One}
use Rattle.lif_model.specs.Redo.{Changes, changed, open_gate, zeros, targets_record}
use Rattle.lif_model.specs.Commit.{IsCommitted, SettlesBelow, IsOldOrNew, commit_writes}
use Rattle.lif_model.specs.Transfers.{Transfer}
use Rattle.lif_model.specs.Writing.{SlotWrites, entry_from, with_entry, changes_by}
use Rattle.lif_model.proofs.Examples as base
use Rattle.lif_model.proofs.VolumeExamples.{file, a_name, b_name, numbered}
use Rattle.il_ports.specs.declared.records.Trouble.{Trouble}
use Rattle.il_ports.specs.declared.records.Trouble.TheVariants.{Medium}
use Rattle.il_ports.specs.Stores.{RecordsView, RunLeaves}
use Rattle.il_ports.proofs.Stores.{goes_nowhere, goes_within, quiet_nowhere}
use Rattle.lif_redo.proofs.Writes.{no_write}
use Rattle.lif_redo.specs.Writing.{writes_among, AreSingle, AddsWrites}
use Rattle.lif_dir.specs.Entries.{slot_of}
use Rattle.lif_dir.specs.declared.change.Change.{Change}
use Rattle.lif_dir.specs.declared.entries.FileEntry.{FileEntry}
use Rattle.lif_dir.specs.Changes.{after_next, slot_after, FitsIn, next_write, end_write, entry_writes, change_writes, put_slot, put_next, put_change, slots_with, bytes_with, count_with, count_with_all}
use Rattle.lif_commit.specs.Staged.{BroughtIn, there, read, IsStagedAs, AreBefore, Knows, EndsWith, HoldsSlots, KeepsLast, touched_by, touched_by_all, past_end, calls_among, calls_of, calls_of_all, CommitsSlots, CommitsChange, CommitsAll, StagesAll}
use Rattle.lif_commit.proofs.Staging.{none_staged, goes_told}

-- ---- changes

abbrev a_file : List ℕ
a_file = file a_name 4 1

abbrev b_file : List ℕ
b_file = file b_name 4 1

abbrev b_entry : FileEntry
b_entry = record {
  name = record { bytes = b_name };
  kind = 1;
  start = 4;
  length = 1;
  date = replicate 6 0;
  volume = 0x8001;
  implementation = replicate 4 0;
}

abbrev a_entry : FileEntry
a_entry = record b_entry { name = record { bytes = a_name } }

-- slot 0 alone; slot 1, and an end after it; slots 0 and 1, and an end after them
abbrev alone : Change
alone = record { version = One; slot = 0; entry = b_entry; next = None; ended = false }

abbrev last : Change
last = record { version = One; slot = 1; entry = b_entry; next = None; ended = true }

abbrev both : Change
both = record { version = One; slot = 0; entry = b_entry; next = Some a_entry; ended = true }

places : (slot_after alone ≡ 1) × (slot_after last ≡ 2) × (slot_after both ≡ 2) × (after_next 7 None ≡ 8) × (after_next 7 (Some b_entry) ≡ 9)
places = (refl, refl, refl, refl, refl)

not_places : (slot_after both ≢ 1) × (after_next 7 (Some b_entry) ≢ 8)
not_places = ((λ is. absurd (omega (arith, is))), (λ is. absurd (omega (arith, is))))

-- in the last slot without an end, and after the last slot with one
fits : FitsIn 1 1 alone × FitsIn 3 1 last × FitsIn 3 1 both
fits = (
  record { place = omega arith; one = omega arith; within = omega arith; kind = λ is. absurd (omega (arith, is)); next = tt; end_within = λ on. cc; end_past = λ on. cc; end_there = λ more room. absurd (omega (arith, more)) },
  record { place = omega arith; one = omega arith; within = omega arith; kind = λ is. absurd (omega (arith, is)); next = tt; end_within = λ on. omega arith; end_past = λ on. omega arith; end_there = λ more room. refl },
  record { place = omega arith; one = omega arith; within = omega arith; kind = λ is. absurd (omega (arith, is)); next = (omega arith, (λ is. absurd (omega (arith, is)))); end_within = λ on. omega arith; end_past = λ on. omega arith; end_there = λ more room. refl },
)

-- not past the place after the last slot, not two after it, where the end has no slot, where it is a slot of those before, or with an
-- entry that is an end
not_fits : (FitsIn 16 0 last → ⊥) × (FitsIn 16 0 both → ⊥) × (FitsIn 2 1 last → ⊥) × (FitsIn 16 2 last → ⊥) × (FitsIn 16 1 (record alone { entry = record b_entry { kind = 0xFFFF } }) → ⊥)
not_fits = ((λ fits. absurd (omega (arith, fits.place))), (λ fits. absurd (omega (arith, fits.one))), (λ fits. absurd (omega (arith, fits.end_within refl))), (λ fits. absurd (omega (arith, fits.end_past refl))), (λ fits. fits.kind refl))

-- ---- what is written

abbrev old_bytes : List ℕ
old_bytes = replicate 32 7

abbrev tape : Tape
tape = base.tape_with (a_file ++ base.end_entry ++ old_bytes)

-- the slot after the end keeps its bytes but for the type
abbrev ended_bytes : List ℕ
ended_bytes = replicate 10 7 ++ 0xFF ∷ 0xFF ∷ replicate 20 7

entries : (next_write 1 None ≡ []) × (next_write 1 (Some a_entry) ≡ (1, a_file) ∷ [])
    × (entry_writes last ≡ (1, b_file) ∷ []) × (entry_writes both ≡ (0, b_file) ∷ (1, a_file) ∷ [])
entries = (refl, refl, refl, refl)

writes : (end_write false 2 2 tape ≡ []) × (end_write true 2 2 tape ≡ (2, ended_bytes) ∷ [])
    × (change_writes 2 alone tape ≡ (0, b_file) ∷ []) × (change_writes 2 last tape ≡ (1, b_file) ∷ (2, ended_bytes) ∷ [])
    × (change_writes 2 both tape ≡ (0, b_file) ∷ (1, a_file) ∷ (2, ended_bytes) ∷ [])
unfolding entry_at with_type
writes = (refl, refl, refl, refl, refl)

not_entries : (next_write 1 (Some a_entry) ≢ []) × (entry_writes both ≢ (0, b_file) ∷ [])
not_entries = ((λ is. cc), (λ is. cc))

-- not without the end, and the end does not lose the other bytes
not_writes : (end_write true 2 2 tape ≢ []) × (change_writes 2 last tape ≢ (1, b_file) ∷ []) × (change_writes 2 last tape ≢ (1, b_file) ∷ (2, base.end_entry) ∷ [])
unfolding entry_at with_type
not_writes = ((λ is. cc), (λ is. cc), (λ is. let byte : 7 ≡ 0 = ap second is in absurd (omega (arith, byte))))
  where
    second : SlotWrites → ℕ
    second ws = get_or (get_or ws 1 (0, [])).1 0 0

-- ---- the slots with a change

put : (put_slot {X = ℕ} (5 ∷ 6 ∷ []) 1 7 ≡ 5 ∷ 7 ∷ []) × (put_slot {X = ℕ} (5 ∷ 6 ∷ []) 2 7 ≡ 5 ∷ 6 ∷ 7 ∷ [])
    × (put_next (λ e. e.start) 1 None (5 ∷ []) ≡ 5 ∷ []) × (put_next (λ e. e.start) 1 (Some b_entry) (5 ∷ []) ≡ 5 ∷ 4 ∷ [])
    × (put_change (λ e. e.kind) last (5 ∷ 6 ∷ []) ≡ 5 ∷ 1 ∷ []) × (put_change (λ e. e.kind) both (5 ∷ []) ≡ 1 ∷ 1 ∷ [])
put = (refl, refl, refl, refl, refl, refl)

not_put : (put_slot {X = ℕ} (5 ∷ []) 2 7 ≢ 5 ∷ 7 ∷ []) × (put_next (λ e. e.start) 1 (Some b_entry) (5 ∷ []) ≢ 5 ∷ []) × (put_change (λ e. e.kind) both (5 ∷ []) ≢ 1 ∷ [])
not_put = ((λ is. cc), (λ is. cc), (λ is. cc))

slots : (bytes_with alone (a_file ∷ base.redo_entry ∷ []) ≡ b_file ∷ base.redo_entry ∷ []) × (bytes_with last (a_file ∷ []) ≡ a_file ∷ b_file ∷ [])
    × (bytes_with both (base.redo_entry ∷ []) ≡ b_file ∷ a_file ∷ [])
    × (slots_with last (slot_of a_entry ∷ []) ≡ slot_of a_entry ∷ slot_of b_entry ∷ []) × (slots_with both (slot_of a_entry ∷ []) ≡ slot_of b_entry ∷ slot_of a_entry ∷ [])
slots = (refl, refl, refl, refl, refl)

not_slots : (bytes_with both (base.redo_entry ∷ []) ≢ b_file ∷ []) × (slots_with last (slot_of a_entry ∷ []) ≢ slot_of b_entry ∷ [])
not_slots = ((λ is. cc), (λ is. cc))

-- ---- records that are set aside

-- record 2 is there already, or is read and comes last
brought_in : BroughtIn 2 0 None ((2, numbered 5) ∷ []) ((2, numbered 5) ∷ [])
brought_in = there (omega arith) refl refl

brought_in_last : BroughtIn 3 1 (Some tape) ((2, numbered 5) ∷ []) ((2, numbered 5) ∷ (3, base.blank) ∷ [])
brought_in_last = read other refl base.blank refl holds
  where
    other : (p : ℕ) → p < 1 → (get_or {A = ℕ × List ℕ} ((2, numbered 5) ∷ []) p (0, [])).0 ≢ 3
    other zero lt = λ is. absurd (omega (arith, is))
    other (suc p) lt = absurd (omega (arith, lt))

    holds : (t : Tape) → Some tape ≡ Some t → base.blank ≡ record_at t 3
    holds t is = let same : tape ≡ t = cc in ap (λ (t : Tape). record_at t 3) same

-- another record does not stand for it
not_brought_in : BroughtIn 3 0 None ((2, numbered 5) ∷ []) ((2, numbered 5) ∷ []) → ⊥
not_brought_in (there lt is same) = absurd (omega (arith, is))
not_brought_in (read other place bytes same holds) = absurd (omega (arith, place))

abbrev changes : Changes
changes = (2, base.filled (a_file ++ b_file ++ ended_bytes)) ∷ []

-- the record of the slots with the entry and the end in their places; where the tape is not told, that record alone
staged : IsStagedAs 2 (Some tape) (change_writes 2 last) changes
unfolding entry_at with_type with_entry
staged = record { targets = λ x. refl; contents = contents }
  where
    contents : (t : Tape) → Some tape ≡ Some t → changes ≡ changes_by 2 (change_writes 2 last t) t
    contents t is = let same : tape ≡ t = cc in ap (λ (t : Tape). changes_by 2 (change_writes 2 last t) t) same

staged_untold : IsStagedAs 2 None (change_writes 2 both) ((2, numbered 5) ∷ [])
staged_untold = record { targets = λ x. refl; contents = λ t is. cc }

-- not another record, and not without the entry
not_staged : (IsStagedAs 2 None (change_writes 2 alone) ((3, numbered 5) ∷ []) → ⊥) × (IsStagedAs 2 (Some tape) (change_writes 2 alone) ((2, record_at tape 2) ∷ []) → ⊥)
unfolding with_entry
not_staged = (
  (λ staged. let number : 3 ≡ 2 = ap (λ (ks : List ℕ). get_or ks 0 0) (staged.targets []) in absurd (omega (arith, number))),
  (λ staged. let byte : 65 ≡ 66 = ap first (staged.contents tape refl) in absurd (omega (arith, byte))),
)
  where
    first : Changes → ℕ
    first cs = get_or (get_or cs 0 (0, [])).1 0 0

are_before : AreBefore 16 4 ((1, a_file) ∷ (3, a_file) ∷ []) × AreBefore 16 2 (entry_writes both)
are_before = (
  (omega arith, omega arith, refl, (omega arith, omega arith, refl, tt)),
  (omega arith, omega arith, refl, (omega arith, omega arith, refl, tt)),
)

not_before : (AreBefore 16 1 ((1, a_file) ∷ []) → ⊥) × (AreBefore 1 2 ((1, a_file) ∷ []) → ⊥)
not_before = ((λ are. absurd (omega (arith, are.1))), (λ are. absurd (omega (arith, are.0))))

-- ---- what is known of a directory

-- slot 7 is the last of record 2
abbrev seam : Change
seam = record alone { slot = 7; ended = true }

-- with one slot before it stands in a directory of two records, and not in one
known_before : Knows 2 1 (a_file ∷ []) (record_at tape 2) tape
unfolding entry_at
known_before = record { each = here; end = λ short. refl }
  where
    here : (k : ℕ) → k < 1 → get_or (a_file ∷ []) k [] ≡ entry_from tape 2 k
    here zero lt = refl
    here (suc k) lt = absurd (omega (arith, lt))

-- not with another slot, or another record for the one with the end; where every slot is taken, there is none
not_known : (Knows 2 1 (b_file ∷ []) (record_at tape 2) tape → ⊥) × (Knows 2 1 (a_file ∷ []) (record_at tape 3) tape → ⊥) × EndsWith 2 1 8 [] tape
unfolding entry_at
not_known = (
  (λ knows. let byte : 66 ≡ 65 = ap (λ (e : List ℕ). get_or e 0 0) (knows.each 0 (omega arith)) in absurd (omega (arith, byte))),
  (λ knows. let byte : 0 ≡ 65 = ap (λ (e : List ℕ). get_or e 0 0) (knows.end (omega arith)) in absurd (omega (arith, byte))),
  λ short. absurd (omega (arith, short)),
)

counts : (count_with 1 last ≡ 2) × (count_with 2 alone ≡ 2) × (count_with 1 both ≡ 2) × (touched_by 2 both ≡ 2 ∷ []) × (touched_by 2 seam ≡ 2 ∷ 3 ∷ [])
    × (past_end 2 7 (touched_by 2 seam) ≡ 1) × (calls_of 2 1 false alone ≡ 5) × (calls_of 2 7 true seam ≡ 9) × (calls_among 2 7 false (2 ∷ 3 ∷ []) ≡ 8)
counts = (refl, refl, refl, refl, refl, refl, refl, refl, refl)

not_counts : (count_with 1 both ≢ 1) × (past_end 2 8 (touched_by 2 seam) ≢ 1) × (calls_of 2 1 false alone ≢ 6) × (calls_among 2 8 false (2 ∷ 3 ∷ []) ≢ 8)
not_counts = ((λ is. absurd (omega (arith, is))), (λ is. absurd (omega (arith, is))), (λ is. absurd (omega (arith, is))), (λ is. absurd (omega (arith, is))))

-- of two changes in one record it is touched once
counts_all : (count_with_all 1 (last ∷ both ∷ []) ≡ 2) × (touched_by_all 2 (alone ∷ seam ∷ alone ∷ []) ≡ 2 ∷ 3 ∷ []) × (calls_of_all 2 7 false (alone ∷ seam ∷ []) ≡ 8)
counts_all = (refl, refl, refl)

not_counts_all : (count_with_all 1 (last ∷ both ∷ []) ≢ 3) × (touched_by_all 2 (alone ∷ alone ∷ []) ≢ 2 ∷ 2 ∷ []) × (calls_of_all 2 7 false (alone ∷ seam ∷ []) ≢ 12)
not_counts_all = ((λ is. absurd (omega (arith, is))), (λ is. let count : 1 ≡ 2 = ap length is in absurd (omega (arith, count))), (λ is. absurd (omega (arith, is))))

-- the record that is among the changes, and the one that stands where it is not
keeps : KeepsLast 3 ((2, a_file) ∷ (3, b_file) ∷ []) a_file b_file × KeepsLast 4 ((2, a_file) ∷ []) a_file a_file
keeps = (inl (1, omega arith, refl, refl), inr ((λ p lt. none p lt), refl))
  where
    none : (p : ℕ) → p < 1 → (get_or {A = ℕ × List ℕ} ((2, a_file) ∷ []) p (0, [])).0 ≢ 4
    none zero lt = λ is. absurd (omega (arith, is))
    none (suc p) lt = absurd (omega (arith, lt))

holds : HoldsSlots (a_file ∷ []) 0 1 (record_at tape 2)
unfolding entry_at
holds = record { size = refl; entries = first }
  where
    first : (k : ℕ) → k < 1 → entry_at (record_at tape 2) k ≡ get_or (a_file ∷ []) (8 * 0 + k) []
    first zero lt = refl
    first (suc k) lt = absurd (omega (arith, lt))

not_holds : HoldsSlots (b_file ∷ []) 0 1 (record_at tape 2) → ⊥
unfolding entry_at
not_holds is = let byte : 65 ≡ 66 = ap (λ (e : List ℕ). get_or e 0 0) (is.entries 0 (omega arith)) in absurd (omega (arith, byte))

-- ---- a commit

abbrev content : List ℕ
content = base.filled (b_file ++ base.end_entry ++ old_bytes)

-- with slot 0 changed: the redo file keeps the target and the content after a gate of zeros
abbrev new : Tape
new = base.header ∷ base.blank ∷ content ∷ base.blank ∷ base.blank ∷ base.blank ∷ base.blank ∷ base.blank
    ∷ base.blank ∷ base.filled (codes "LIFREDO1" ++ 0 ∷ 1 ∷ 0 ∷ 2 ∷ []) ∷ content ∷ base.blank ∷ []

-- a store that holds a tape, with how its last call failed, what a stop may have left, and its reads and writes
abbrev store : Tape → Option Trouble → Bool → ℕ → ℕ → (Tape → Type 0) → List Transfer → RecordsView ℕ
store tape failure sound faults left leaves list = record {
  valid = Unit {0};
  tape = Some tape;
  record_count = 12;
  ready = true;
  sound = sound;
  calls_left = left;
  room = 12;
  frame_faults = 0;
  medium_faults = faults;
  moment = 0;
  left_since = λ m c. leaves c;
  present = 0;
  emptied = λ s t. Unit {0};
  stood = λ s. Unit {0};
  transferred = λ transfers. transfers ≡ list;
  failed = λ f. f ≡ failure;
  resumed = λ k. Unit {0};
}

abbrev write : ℕ → List ℕ → Transfer
write n bytes = record { writes = true; first = n; bytes = bytes }

abbrev fetch : ℕ → List ℕ → Transfer
fetch n bytes = record { writes = false; first = n; bytes = bytes }

-- the content, the targets, the gate, the record in place and the gate again are written
abbrev transfers : List Transfer
transfers = write 10 content ∷ write 9 (targets_record One (2 ∷ [])) ∷ write 8 open_gate ∷ write 2 content ∷ write 8 zeros ∷ []

abbrev before : RecordsView ℕ
before = store tape None true 0 12 (λ c. c ≡ tape) []

abbrev done : RecordsView ℕ
done = store new None true 0 7 (λ c. (c ≡ tape) ⊎ (c ≡ new)) transfers

abbrev broken : RecordsView ℕ
broken = store tape (Some Medium) false 1 11 (λ c. c ≡ tape) []

-- a tape whose gate is zeros settles to itself
old_settles : SettlesBelow One tape tape
unfolding is_open
old_settles = record { records = refl; same = λ k lt. refl }

-- the medium failed before anything was written: the old directory stands, whatever was to change
fails : (slots : Tape → SlotWrites) → CommitsSlots {T = ℕ} 5 One 2 slots before broken (Err Medium)
fails slots = record {
  goes_on = record {
    continues = record { valid = tt; told = refl; size = refl; sound = refl; ready = λ is. is; left = omega arith; room = refl; failed = λ is. refl; cause = (refl, record { later = omega arith; risen = omega arith }) };
    stood = λ s was. tt;
    resumed = λ k was. tt;
  };
  done = tt;
  any_moment = λ t told. record { later = omega arith; each = λ c left. inl (settles t c told left); earlier = λ m c le left. inl left };
  after = λ t told. (tape, refl, inl (settles t tape told refl));
  writes = tt;
}
  where
    settles : (t c : Tape) → Some tape ≡ Some t → c ≡ tape → SettlesBelow One t c
    settles t c told is = let same : tape ≡ t = cc in subst (SettlesBelow One t) (sym is) (subst (λ (x : Tape). SettlesBelow One x tape) same old_settles)

fails_change : CommitsChange {T = ℕ} 2 1 false both before broken (Err Medium)
fails_change = fails (change_writes 2 both)

-- not in more calls
not_fails : CommitsChange {T = ℕ} 2 1 false both before (store tape (Some Medium) false 1 6 (λ c. c ≡ tape) []) (Err Medium) → ⊥
not_fails commits = absurd (omega (arith, commits.goes_on.continues.left))

-- all was written
abbrev its_changes : Changes
its_changes = (2, content) ∷ []

by_alone : changes_by 2 (change_writes 2 alone tape) tape ≡ its_changes
unfolding with_entry
by_alone = refl

new_settles : SettlesBelow One (changed its_changes tape) new
unfolding is_open
new_settles = record { records = refl; same = below }
  where
    below : (k : ℕ) → k < 8 → record_at new k ≡ record_at (changed its_changes tape) k
    below zero lt = refl
    below (suc zero) lt = refl
    below (suc (suc zero)) lt = refl
    below (suc (suc (suc zero))) lt = refl
    below (suc (suc (suc (suc zero)))) lt = refl
    below (suc (suc (suc (suc (suc zero))))) lt = refl
    below (suc (suc (suc (suc (suc (suc zero)))))) lt = refl
    below (suc (suc (suc (suc (suc (suc (suc zero))))))) lt = refl
    below (suc (suc (suc (suc (suc (suc (suc (suc k)))))))) lt = absurd (omega (arith, lt))

is_committed : IsCommitted One its_changes tape new
unfolding is_open zeros
is_committed = record { records = refl; below = new_settles.same; gate = refl }

adds : AddsWrites (commit_writes One 12 false its_changes) (λ list. list ≡ []) (λ list. list ≡ transfers)
unfolding open_gate zeros targets_record piece
adds = record { goes_on = goes_on }
  where
    goes_on : (list : List Transfer) → list ≡ [] → (more : List Transfer) × (list ++ more ≡ transfers) × (writes_among more ≡ commit_writes One 12 false its_changes) × AreSingle more
    goes_on [] is = (transfers, refl, refl, (refl, (refl, (refl, (refl, (refl, tt))))))
    goes_on (t ∷ ts) is = cc

not_open : has_open_gate tape ≡ false
unfolding is_open
not_open = refl

succeeds : CommitsChange {T = ℕ} 2 1 false alone before done (Ok 0)
unfolding with_entry
succeeds = record {
  goes_on = record {
    continues = record { valid = tt; told = refl; size = refl; sound = refl; ready = λ is. is; left = omega arith; room = refl; failed = λ is. refl; cause = (refl, refl) };
    stood = λ s was. tt;
    resumed = λ k was. tt;
  };
  done = at_tape (λ t. (u : Tape) × (Some new ≡ Some u) × IsCommitted One (changes_by 2 (change_writes 2 alone t) t) t u) (new, refl, is_committed);
  any_moment = at_tape (λ t. RunLeaves before done (IsOldOrNew One (changes_by 2 (change_writes 2 alone t) t) t))
      (record { later = omega arith; each = λ c. either c; earlier = λ m c le left. inr (either c left) });
  after = at_tape (λ t. (u : Tape) × (Some new ≡ Some u) × IsOldOrNew One (changes_by 2 (change_writes 2 alone t) t) t u) (new, refl, inr new_settles);
  writes = at_tape (λ t. AddsWrites (commit_writes One 12 (has_open_gate t) (changes_by 2 (change_writes 2 alone t) t)) before.transferred done.transferred)
      (subst (λ (was_open : Bool). AddsWrites (commit_writes One 12 was_open its_changes) before.transferred done.transferred) (sym not_open) adds);
}
  where
    at_tape : (P : Tape → Type 0) → P tape → (t : Tape) → Some tape ≡ Some t → P t
    at_tape P here t told = let same : tape ≡ t = cc in subst P same here

    either : (c : Tape) → (c ≡ tape) ⊎ (c ≡ new) → IsOldOrNew One its_changes tape c
    either c (inl is) = inl (subst (SettlesBelow One tape) (sym is) old_settles)
    either c (inr is) = inr (subst (SettlesBelow One (changed its_changes tape)) (sym is) new_settles)

-- an Ok that leaves the old record is none
-- the same, as one of changes in turn
succeeds_all : CommitsAll {T = ℕ} One 2 1 false (alone ∷ []) before done (Ok 0)
succeeds_all = succeeds

not_succeeds : CommitsChange {T = ℕ} 2 1 false alone before (store tape None true 0 7 (λ c. c ≡ tape) transfers) (Ok 0) → ⊥
unfolding with_entry
not_succeeds commits = let left = commits.done tape refl in no left.0 left.1 left.2
  where
    no : (u : Tape) → Some tape ≡ Some u → IsCommitted One its_changes tape u → ⊥
    no u told is =
        let same : tape ≡ u = cc in
        let byte : 65 ≡ 66 = ap (λ (x : Tape). get_or (record_at x 2) 0 0) same ∙ ap (λ (bytes : List ℕ). get_or bytes 0 0) (is.below 2 (omega arith)) in
        absurd (omega (arith, byte))

-- ---- changes that are set aside

none_stages : StagesAll 2 1 [] before before [] (Ok 1)
none_stages = record {
  goes_on = goes_told 3 before before tt 1 (goes_within 0 3 before before (Ok tt) (omega arith) (goes_nowhere 3 before (record { valid = tt; sound = refl; left = omega arith })));
  few = omega arith;
  quiet = quiet_nowhere before;
  reads = no_write before.transferred;
  staged = none_staged 2 (Some tape) [] refl;
  count = refl;
}

-- not with another count of slots, or another record than what is touched
not_stages : (StagesAll 2 1 [] before before [] (Ok 2) → ⊥) × (StagesAll 2 1 [] before before ((2, content) ∷ []) (Ok 1) → ⊥)
not_stages = (
  (λ stages. absurd (omega (arith, stages.count))),
  (λ stages. let count : 1 ≡ 0 = ap length (stages.staged.targets []) in absurd (omega (arith, count))),
)
