-- What a batch makes of a volume whose directory is kept.
use Rattle.std.proofs.Common.{◌≡◌, ◌<◌, ◌≤◌, ◌+◌, ◌-◌, ◌*◌, ◌∙◌, ℕ, List, [], ◌∷◌, true, false, length, map, ap, subst, sym, arith}
use Rattle.std.specs.Prelude.{All, IfSome, Option, None, Some, Result, Ok, Err}
use Rattle.std.proofs.lemmas.List.{length-map}
use Rattle.std.proofs.lemmas.List.Elements.{All-head, All-tail}
use Rattle.lif_model.specs.Tape.{Tape}
use Rattle.lif_model.specs.Gate.{has_open_gate}
use Rattle.lif_model.specs.Header.{HeaderParts}
use Rattle.lif_model.specs.declared.version.Version.TheVariants.{Two}
use Rattle.lif_model.specs.Redo.{redo_start, IsSettled}
use Rattle.lif_model.specs.Parts.{Part}
use Rattle.lif_model.specs.Apply.{Batch}
use Rattle.lif_model.specs.Writing.{NewFile}
use Rattle.il_ports.specs.declared.records.Trouble.{Trouble}
use Rattle.il_ports.specs.Stores.{RecordsView, IsStore, IsReady, GoesOn}
use Rattle.lif_dir.specs.declared.change.Change.{Change}
use Rattle.lif_dir.specs.declared.entries.Slot.{Slot}
use Rattle.lif_dir.specs.Entries.{slot_from, slot_bytes}
use Rattle.lif_dir.specs.Changes.{IsToldBack, AreInTurn, slots_with, all_writes, count_with_all}
use Rattle.lif_dir.proofs.Changing.{changed_bytes, told_back}
use Rattle.lif_commit.specs.Staged.{Knows, EndsWith, CommitsAll, calls_among, calls_of_all, touched_by_all, most_batch_calls}
use Rattle.lif_commit.proofs.Turns.{turn_count}
use Rattle.lif_plan.specs.declared.batches.PlannedFile.{PlannedFile}
use Rattle.lif_plan.specs.Directories.{IsLegalDirectory}
use Rattle.lif_plan.specs.Plans.{IsVolumeWith}
use Rattle.lif_plan.specs.Batches.{file_of}
use Rattle.lif_plan.proofs.BatchPlans.{changes_some}
use Rattle.lif_volume.specs.declared.fault.VolumeFault.TheVariants.{Trouble as Troubled}
use Rattle.lif_volume.specs.Views.{VolumeView, IsOpen, IsDirectoryOf}
use Rattle.lif_volume.specs.Carrying.{batch_room, ChangesByParts, records_filed, EndsWithin, WritesFiles, slots_with_all, Puts, CarriesOut}
use Rattle.lif_volume.proofs.Planned.{IsPlanned}
use Rattle.lif_volume.proofs.Batched.{touches_few, all_changes, is_all_changes}
use Rattle.lif_volume.proofs.Carrying.{readable, some, some_is, before_redo, files_put, puts_fail, commit_ready, settled_there, gate_there, knows_there, puts, carry_fails, carries, carries_open}

-- ---- slots in memory

all_bytes : (changes : List Change) (room : ℕ) (slots : List Slot) (later : List (List ℕ)) → AreInTurn room (map slot_bytes slots) changes later → map slot_bytes (slots_with_all changes slots) ≡ later
all_bytes [] room slots later turn = turn
all_bytes (c ∷ cs) room slots later turn =
    all_bytes cs room (slots_with c slots) later (subst (λ (xs : List (List ℕ)). AreInTurn room xs cs later) (sym (changed_bytes c slots)) turn.1)

all_told : (changes : List Change) (slots : List Slot) → All IsToldBack changes → map slot_from (map slot_bytes slots) ≡ slots → map slot_from (map slot_bytes (slots_with_all changes slots)) ≡ slots_with_all changes slots
all_told [] slots told back = back
all_told (c ∷ cs) slots told back =
    all_told cs (slots_with c slots) (All-tail IsToldBack c cs told) (ap (map slot_from) (changed_bytes c slots) ∙ told_back c slots (All-head IsToldBack c cs told) back)

-- ---- a batch

module _ {R S : Type 0} (view : R → RecordsView S) (x : VolumeView R) (header : HeaderParts) (opened : IsOpen view x) (kept : x.kept ≡ Some header) (store : IsStore (view x.records))
    (parts : List Part) (bytes : List ℕ) (changes : List Change) (files : List PlannedFile) (plan : ChangesByParts parts (view x.records).record_count header x.slots bytes changes files) where
  abbrev n : ℕ
  n = (view x.records).record_count

  abbrev filed : List NewFile
  filed = map (file_of bytes) files

  with : IsVolumeWith (view x.records).record_count header (map slot_bytes x.slots) (some view x header opened kept store)
  with = some_is view x header opened kept store

  planned : IsPlanned (view x.records).record_count (Batch parts) header (map slot_bytes x.slots) (all_changes header plan.0 changes (map (file_of bytes) files))
  planned = is_all_changes plan.1 (some view x header opened kept store) with (readable view x header opened kept store).0

  abbrev calls : ℕ
  calls = calls_of_all header.start (length x.slots) x.is_open changes

  few_calls : calls_of_all header.start (length x.slots) true changes ≤ most_batch_calls
  few_calls = subst (λ (k : ℕ). calls_among header.start k true (touched_by_all header.start changes) ≤ most_batch_calls) (length-map x.slots slot_bytes) (planned.calls true)

  pub all_some : 0 < length changes
  all_some = changes_some plan.1

  pub all_few : length (touched_by_all header.start changes) ≤ 32
  all_few = touches_few plan.1 (some view x header opened kept store) with

  pub all_below : header.start + header.length ≤ redo_start Two (view x.records).record_count
  all_below = before_redo view x header opened kept store (Batch parts) planned

  -- ---- its files

  pub files_ready : IsReady (batch_room (view x.records).record_count header) (view x.records) → IsReady (records_filed (map (file_of bytes) files)) (view x.records)
  files_ready ready = record { valid = ready.valid; sound = ready.sound; left = omega (arith, ready.left, planned.count, planned.fits) }

  pub files_fit : All (EndsWithin (view x.records).record_count) (map (file_of bytes) files)
  files_fit k d lt = omega (arith, (planned.lie k d lt).1)

  pub all_fail : (w : RecordsView S) (e : Trouble) → WritesFiles {T = Unit {0}} (map (file_of bytes) files) (view x.records) w (Err e)
      → Puts {T = Unit {0}} (calls_of_all header.start (length x.slots) x.is_open changes) (Batch parts) Two header.start (all_writes header.start changes) (view x.records) w (Err e)
  all_fail w e written = puts_fail view x header opened kept store (Batch parts) planned calls w e (files_put view x header opened kept store (Batch parts) planned w (Err e) written)

  module _ (w : RecordsView S) (written : WritesFiles {T = Unit {0}} (map (file_of bytes) files) (view x.records) w (Ok tt)) where
    pub all_ready : IsReady (batch_room (view x.records).record_count header) (view x.records) → IsReady (calls_of_all header.start (length x.slots) true changes) w
    all_ready ready = commit_ready view x header opened kept store (Batch parts) planned w (files_put view x header opened kept store (Batch parts) planned w (Ok tt) written)
        (calls_of_all header.start (length x.slots) true changes) (record { valid = ready.valid; sound = ready.sound; left = omega (arith, ready.left, few_calls) })

    pub all_settled : (f : Tape) → w.tape ≡ Some f → IsSettled f
    all_settled = settled_there view x header opened kept store (Batch parts) planned w (files_put view x header opened kept store (Batch parts) planned w (Ok tt) written)

    pub all_gate : (f : Tape) → w.tape ≡ Some f → x.is_open ≡ has_open_gate f
    all_gate = gate_there view x header opened kept store (Batch parts) planned w (files_put view x header opened kept store (Batch parts) planned w (Ok tt) written)

    pub all_known : (f : Tape) → w.tape ≡ Some f → Knows header.start header.length (map slot_bytes x.slots) x.last f
    all_known = knows_there view x header opened kept store (Batch parts) planned w (files_put view x header opened kept store (Batch parts) planned w (Ok tt) written)

    pub all_put : (y : RecordsView S) (r : Result (Unit {0}) Trouble) → CommitsAll Two header.start (length x.slots) x.is_open changes w y r
        → Puts (calls_of_all header.start (length x.slots) x.is_open changes) (Batch parts) Two header.start (all_writes header.start changes) (view x.records) y r
    all_put = puts view x header opened kept store (Batch parts) planned w (files_put view x header opened kept store (Batch parts) planned w (Ok tt) written)

  -- ---- the whole

  module _ (y : VolumeView R) where
    pub all_carry_fails : (e : Trouble) → Puts {T = Unit {0}} (calls_of_all header.start (length x.slots) x.is_open changes) (Batch parts) Two header.start (all_writes header.start changes) (view x.records) (view y.records) (Err e)
        → y.kept ≡ None → CarriesOut {T = Unit {0}} (Batch parts) view x y (Err (Troubled e))
    all_carry_fails = carry_fails view x header opened kept store (Batch parts) planned y

    module _ (put : Puts {T = Unit {0}} (calls_of_all header.start (length x.slots) x.is_open changes) (Batch parts) Two header.start (all_writes header.start changes) (view x.records) (view y.records) (Ok tt)) (still : y.kept ≡ x.kept) where
      pub all_carried : CarriesOut {T = Unit {0}} (Batch parts) view x y (Ok tt)
      all_carried = carries view x header opened kept store (Batch parts) planned y put still

      pub all_open : y.slots ≡ slots_with_all changes x.slots → All IsToldBack changes → y.room ≡ x.room → y.is_open ≡ false
          → ((u : Tape) → (view y.records).tape ≡ Some u → EndsWith header.start header.length (count_with_all (length x.slots) changes) y.last u) → IsOpen view y
      all_open slots_are told room shut ends =
          let turn = plan.1.in_turn in
          let bytes_are : map slot_bytes y.slots ≡ plan.0 = ap (map slot_bytes) slots_are ∙ all_bytes changes (8 * header.length) x.slots plan.0 turn in
          carries_open view x header opened kept store (Batch parts) planned y put still bytes_are
          (λ back. ap (map slot_from) (sym bytes_are ∙ ap (map slot_bytes) slots_are) ∙ all_told changes x.slots told back ∙ sym slots_are)
          (count_with_all (length x.slots) changes)
          (omega (arith, length-map y.slots slot_bytes, ap (λ (xs : List (List ℕ)). length xs) bytes_are, turn_count (8 * header.length) (map slot_bytes x.slots) plan.0 changes turn, ap (λ (k : ℕ). count_with_all k changes) (length-map x.slots slot_bytes)))
          room shut ends

-- where no directory is kept
pub forgets : {R S T : Type 0} (view : R → RecordsView S) (x y : VolumeView R) (calls : ℕ) (r : Result T Trouble) → IsOpen view x → GoesOn calls (view x.records) (view y.records) r → y.room ≡ x.room → y.kept ≡ None → IsOpen view y
forgets view x y calls r opened goes room none =
    let is = goes.continues in
    record {
      valid = is.valid;
      size = omega (arith, opened.size, is.size);
      small = omega (arith, opened.small, is.size);
      room = room ∙ opened.room ∙ ap (λ (k : ℕ). 8 * (k - 5)) (sym is.size);
      legal = subst (λ (o : Option HeaderParts). IfSome o (λ h. IsLegalDirectory (view y.records).record_count h (map slot_bytes y.slots))) (sym none) tt;
      known = λ u now. subst (λ (o : Option HeaderParts). IfSome o (λ h. IsDirectoryOf u h y.slots)) (sym none) tt;
      gate = λ u now. subst (λ (o : Option HeaderParts). IfSome o (λ h. y.is_open ≡ has_open_gate u)) (sym none) tt;
      end = λ u now. subst (λ (o : Option HeaderParts). IfSome o (λ h. EndsWith h.start h.length (length y.slots) y.last u)) (sym none) tt;
    }
