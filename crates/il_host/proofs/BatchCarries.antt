-- The reads and writes that the clause of a volume tells of a batch carry the bytes of each file that it leaves.
use Rattle.std.proofs.Common.{◌≡◌, ◌∙◌, ◌<◌, ◌≤◌, ◌+◌, ◌++◌, ◌||◌, ℕ, Bool, true, false, if◌then◌else◌, List, [], ◌∷◌, length, Option, Some, None, inl, inr, refl, sym, ap, subst, arith, append_assoc}
use Rattle.std.specs.Prelude.{All, Result, Ok, Err, is_some}
use Rattle.std.specs.List.{list_any}
use Rattle.std.proofs.lemmas.List.Elements.{All-nil, All-cons, All-head, All-tail, All-filter}
use Rattle.std.proofs.lemmas.List.Folds.{list_any-append}
use Rattle.il_ports.specs.Stores.{IsStore, RecordsView}
use Rattle.il_ports.specs.Transfers.{WritesOnly}
use Rattle.lif_model.specs.Apply.{Adopt, Dir, Fetch, Format, IsWellFormed, Label, Purge, Rename, Store, Upgrade, Batch, VolumeCommand, after_parts, before_parts, refusal_of}
use Rattle.lif_model.specs.declared.refusal.Refusal.{Refusal}
use Rattle.lif_model.specs.Commit.{IsSettleWrite, commit_writes}
use Rattle.lif_model.specs.Gate.{has_open_gate}
use Rattle.lif_model.specs.Header.{capacity_of, directory_end, directory_start}
use Rattle.lif_model.specs.Made.{file_length, filled}
use Rattle.lif_model.specs.Parts.{Part}
use Rattle.lif_model.specs.declared.version.Version.{Version}
use Rattle.lif_model.specs.declared.version.Version.TheVariants.{Two}
use Rattle.lif_model.specs.Redo.{Changes, redo_of, redo_start, settled}
use Rattle.lif_model.specs.Tape.{IsTape, Tape}
use Rattle.lif_model.specs.Transfers.{Transfer, is_overwritten_by}
use Rattle.lif_model.specs.Volume.{IsAdopted, IsVolume, Volume, is_adopted_with, volume_in, volume_of}
use Rattle.lif_model.specs.Writing.{IsSlotWritten, NewFile, SlotWrites, batch_writes, changes_by, changes_of, files_left, is_left_in, parts_files, parts_writes, same_slots, with_slots}
use Rattle.lif_model.proofs.Batches.{batch_entries, batch_is_two, left_first, unrefused}
use Rattle.lif_model.proofs.Directory.{settled_shape, volume_in_is}
use Rattle.lif_model.proofs.Made.{file_has_records, length_filled}
use Rattle.lif_model.proofs.Outcomes.{target_slot}
use Rattle.lif_model.proofs.Parts.{AreUnrefused, each_file, files_within}
use Rattle.lif_model.proofs.Transfers.{carries-later}
use Rattle.lif_model.proofs.Writing.{AreEntries}
use Rattle.lif_redo.specs.Writing.{run_of, runs_filed}
use Rattle.lif_model.specs.Changing.{version_for, file_when}
use Rattle.lif_plan.proofs.Planning.{version_is_redo}
use Rattle.lif_volume.specs.Commands.{IsTold}
use Rattle.lif_volume.specs.Changing.{commit_when, file_runs}
use Rattle.lif_volume.specs.Did.{Alters}
use Rattle.lif_volume.specs.Views.{VolumeView}
use Rattle.lif_volume.specs.declared.fault.VolumeFault.{VolumeFault}
use Rattle.lif_volume.specs.declared.fault.VolumeFault.TheVariants.{Refused, Trouble as Troubled}
use Rattle.lif_volume.proofs.Batched.{LieApart, LiesApart, left_apart}
use Rattle.il_host.specs.Standings.{volume_reply}
use Rattle.il_script.specs.declared.reply.Reply.TheVariants as reply
use Rattle.host_model.specs.HostStates.{HostState, volume_at}
use Rattle.il_host.proofs.FileCarries.{EachRecord, ShowsVolume, TellsSome, goes_parted, IsOff, apart_off, each_commit, each_if_any, each_target, none_over, store_carried, told_still, volume_seen, written_carried_out}
use Rattle.il_host.proofs.VolumeCarries.{CarriesAs, GoesOut, IsFormedAs, none_carried, one_among, one_later, writes_records}
use Rattle.il_host.proofs.KeptDirectories.{TellsNothing}

-- ---- runs of files that lie apart

abbrev run_for : NewFile → Transfer
run_for f = run_of f.start f.bytes

-- no transfer of these writes over its run
abbrev IsKept : List Transfer → NewFile → Type 0
IsKept list f = list_any (λ y. is_overwritten_by (run_for f) y) list ≡ false

run_kept : (f g : NewFile) → LiesApart f g → is_overwritten_by (run_for f) (run_for g) ≡ false
run_kept f g apart =
    apart_off g.start f.start (file_length g.bytes) (file_length f.bytes) (filled g.bytes) (filled f.bytes) (length_filled g.bytes) (length_filled f.bytes) (elim apart [
      | inl before ↦ inr before
      | inr behind ↦ inl behind
    ])

runs_kept : (f : NewFile) (fs : List NewFile) → All (LiesApart f) fs → IsKept (runs_filed fs) f
runs_kept f [] apart = refl
runs_kept f (g ∷ fs) apart = λ i. run_kept f g (All-head (LiesApart f) g fs apart) i || runs_kept f fs (All-tail (LiesApart f) g fs apart) i

-- Each run carries its file out, where no later transfer writes over it.
runs_carry : (fs : List NewFile) (more : List Transfer) → LieApart fs → All (IsKept more) fs → All (GoesOut (runs_filed fs ++ more)) fs
runs_carry [] more apart kept = All-nil (GoesOut more)
runs_carry (f ∷ fs) more apart kept =
    All-cons (GoesOut (run_for f ∷ (runs_filed fs ++ more))) f fs (
      written_carried_out [] (runs_filed fs ++ more) f.start (filled f.bytes)
          (list_any-append (λ y. is_overwritten_by (run_for f) y) (runs_filed fs) more ∙ (λ i. runs_kept f fs apart.0 i || All-head (IsKept more) f fs kept i)),
      one_among writes_records [] (runs_filed fs ++ more) (run_for f) refl,
    )
    (each_file (GoesOut (runs_filed fs ++ more)) (GoesOut (run_for f ∷ (runs_filed fs ++ more))) fs
    (λ g out. (carries-later (λ (t : Transfer). t) (λ (t : Transfer). t.writes) (run_for f ∷ []) (runs_filed fs ++ more) g.start (filled g.bytes) out.0, one_later writes_records (run_for f ∷ []) (runs_filed fs ++ more) g.start (filled g.bytes) out.1))
    (runs_carry fs more apart.1 (All-tail (IsKept more) f fs kept)))

-- these writes are of records of no file
abbrev AreOff : Changes → NewFile → Type 0
AreOff ws f = EachRecord (IsOff f.start (file_length f.bytes)) ws

-- The list goes on by some transfers, by the runs, and by those whose writes are of other records: it carries each file out.
module _ {among : List Transfer → Changes} {single : List Transfer → Type 0}
    (next : (t : Transfer) (ts : List Transfer) → among (t ∷ ts) ≡ (if t.writes then (t.first, t.bytes) ∷ among ts else among ts))
    (pieces : (t : Transfer) (ts : List Transfer) → single (t ∷ ts) → (length t.bytes ≡ 256) × single ts) where
  runs_carried : (P : ℕ → Type 0) (ws : Changes) (fs : List NewFile) (runs : List Transfer) (old new : List Transfer → Type 0) → LieApart fs → All (AreOff ws) fs → runs ≡ runs_filed fs
      → ((list : List Transfer) → old list → (first more : List Transfer) × new (list ++ (first ++ (runs ++ more))) × WritesOnly P first × (among more ≡ ws) × single more)
      → TellsSome old → (list : List Transfer) × new list × All (GoesOut list) fs
  runs_carried P ws fs runs old new apart off are goes_on begun =
      let is = goes_on begun.0 begun.1 in
      let first : List Transfer = begun.0 ++ is.0 in
      let more : List Transfer = is.1 in
      let kept : All (IsKept more) fs = each_file (AreOff ws) (IsKept more) fs
      (λ f each. none_over next pieces f.start (file_length f.bytes) (filled f.bytes) (length_filled f.bytes) more is.5 (subst (λ (ws : Changes). AreOff ws f) (sym is.4) each)) off in (
        first ++ (runs_filed fs ++ more),
        subst new (sym (append_assoc begun.0 is.0 (runs_filed fs ++ more))) (subst (λ (rs : List Transfer). new (begun.0 ++ (is.0 ++ (rs ++ more)))) are is.2),
        each_file (GoesOut (runs_filed fs ++ more)) (GoesOut (first ++ (runs_filed fs ++ more))) fs
            (λ f out. (carries-later (λ (t : Transfer). t) (λ (t : Transfer). t.writes) first (runs_filed fs ++ more) f.start (filled f.bytes) out.0, one_later writes_records first (runs_filed fs ++ more) f.start (filled f.bytes) out.1))
            (runs_carry fs more apart kept),
      )

-- ---- which records the commit of a batch writes

written_within : (room : ℕ) (ws : SlotWrites) (j : ℕ) → AreEntries room ws → IsSlotWritten ws j → j < room
written_within room [] j are none = absurd none
written_within room (w ∷ ws) j are (inl same) = omega (arith, same, are.0)
written_within room (w ∷ ws) j are (inr more) = written_within room ws j are.2 more

-- none that is one of a file of it, also where the files are written already
batch_is_off : (n : ℕ) (u : Tape) (v : Volume) → IsTape n u → volume_in u ≡ Some v → (parts : List Part) → IsAdopted n v → AreUnrefused n parts (before_parts v)
    → (version : Version) → is_adopted_with n version v.slots ≡ true → (was_open : Bool) → All (AreOff (commit_writes version n was_open (changes_of n (Batch parts) v u))) (files_left n parts v)
batch_is_off n u v tape told parts is are version with was_open =
    each_file Lies (AreOff (commit_writes version n was_open (changes_of n (Batch parts) v u))) (files_left n parts v) (λ f lies.
    let off : ℕ → Type 0 = IsOff f.start (file_length f.bytes) in
    each_commit off version n (omega (arith, lies.1, file_has_records f.bytes)) (λ k le. inr (omega (arith, lies.1, le))) was_open (changes_of n (Batch parts) v u)
    (each_target off (changes_by (directory_start v.header) writes u) (λ k target.
    let found = target_slot (directory_start v.header) writes (with_slots (directory_start v.header) writes u) k target in
    inl (omega (arith, found.2, written_within (capacity_of v.header) writes found.0 entries found.1, lies.0)))))
    (All-filter (is_left_in (after_parts n parts (before_parts v)).volume.slots) Lies (parts_files n parts (before_parts v)) (files_within n parts (before_parts v) version are with))
  where
    Lies : NewFile → Type 0
    Lies f = (directory_end v.header ≤ f.start) × (f.start + file_length f.bytes ≤ redo_start version n)

    writes : SlotWrites
    writes = batch_writes n parts v u

    entries : AreEntries (capacity_of v.header) writes
    entries = by (same_slots v.slots (after_parts n parts (before_parts v)).volume.slots)
      where
        by : (same : Bool) → AreEntries (capacity_of v.header) (if same then [] else parts_writes n parts (before_parts v) u)
        by true = tt
        by false = batch_entries n u v tape told parts is are

-- ---- a batch

module _ {R S : Type 0} (view : R → RecordsView S) (old new : VolumeView R) (s : HostState) (seen : ShowsVolume s (view old.records)) (begun : TellsSome (view old.records).transferred) (store : IsStore (view old.records))
    (parts : List Part) {T : Type 0} (x : T) (formed : IsWellFormed (Batch parts)) (alters : Alters {T = T} (Batch parts) view old new (Ok x)) where
  abbrev n : ℕ
  n = (view old.records).record_count

  abbrev command : VolumeCommand
  command = Batch parts

  module _ (t : Tape) (told : IsTold view old t) (v : Volume) (of_tape : volume_of t ≡ Some v) where
    abbrev left : List NewFile
    left = files_left n parts v

    tape : IsTape n (settled t)
    tape = settled_shape n t (store.is_tape t told)

    volume : IsVolume n v
    volume = volume_in_is n (settled t) v tape of_tape

    -- it is not refused
    free : refusal_of n command (Some v) ≡ None
    free =
        let behind = told_still (view old.records).tape (view new.records).tape t alters.goes_on.continues.told told in
        ap (refusal_of n command) (sym of_tape) ∙ ap (λ (p : Option Refusal × Option Volume). p.0) (alters.answers t behind.0 told behind.1)

    two : is_adopted_with n Two v.slots ≡ true
    two = (batch_is_two n parts v free).1

    adopted : IsAdopted n v
    adopted = record { volume = volume; adopted = (batch_is_two n parts v free).0 }

    are : AreUnrefused n parts (before_parts v)
    are = unrefused n parts v adopted formed free

    off : All (AreOff (commit_when n command (volume_of t) (settled t))) left
    off =
        let filed : Tape = file_when n command (Some v) (settled t) in
        let first = left_first n (settled t) v tape of_tape parts adopted are in
        let each = batch_is_off n filed v first.0 first.1 parts adopted are Two two (has_open_gate filed) in
        subst (λ (o : Option Volume). All (AreOff (commit_when n command o (settled t))) left) (sym of_tape)
        (each_file (AreOff (commit_writes Two n (has_open_gate filed) (changes_of n command v filed))) (AreOff (commit_when n command (Some v) (settled t))) left (λ f one.
        each_if_any (IsOff f.start (file_length f.bytes)) (version_for n command (Some v)) n (has_open_gate filed) (changes_of n command v filed)
        (subst (λ (w : Version). AreOff (commit_writes w n (has_open_gate filed) (changes_of n command v filed)) f) (sym (version_is_redo n Two v volume two)) one)) each)

    stores : (list : List Transfer) × (view new.records).transferred list × All (GoesOut list) left
    stores =
        runs_carried (λ t ts. refl) (λ t ts one. one) (IsSettleWrite n (redo_of t)) (commit_when n command (volume_of t) (settled t)) left (file_runs n command (volume_of t))
        (view old.records).transferred (view new.records).transferred (left_apart n parts v are) off (ap (file_runs n command) of_tape)
        (goes_parted (IsSettleWrite n (redo_of t)) (is_some old.kept) n command (volume_of t) (settled t) (view old.records).transferred (view new.records).transferred (alters.transfers t told)) begun

  -- With ok, the reads and writes of a batch carry the bytes of each file that it leaves out to its place.
  batch_carried : CarriesAs (Batch parts) reply.Ok s.records (volume_at s) (view new.records).transferred
  batch_carried = by (view old.records).tape refl
    where
      on : (t : Tape) → IsTold view old t → (o : Option Volume) → volume_of t ≡ o → CarriesAs (Batch parts) reply.Ok s.records o (view new.records).transferred
      on t told None is = tt
      on t told (Some v) is = subst (λ (k : ℕ). CarriesAs (Batch parts) reply.Ok k (Some v) (view new.records).transferred) (sym seen.records) (stores t told v is)

      by : (tape : Option Tape) → (view old.records).tape ≡ tape → CarriesAs (Batch parts) reply.Ok s.records (volume_at s) (view new.records).transferred
      by None none = subst (λ (v : Option Volume). CarriesAs (Batch parts) reply.Ok s.records v (view new.records).transferred) (sym (volume_seen view old new s seen begun None none)) tt
      by (Some t) told = subst (λ (v : Option Volume). CarriesAs (Batch parts) reply.Ok s.records v (view new.records).transferred) (sym (volume_seen view old new s seen begun (Some t) told)) (on t told (volume_of t) refl)

-- ---- every command

-- of any answer, and of the commands that carry no bytes of a file
pub alters_carried : {R S : Type 0} (view : R → RecordsView S) (old new : VolumeView R) (s : HostState) → ShowsVolume s (view old.records) → TellsSome (view old.records).transferred → IsStore (view old.records)
    → (command : VolumeCommand) → TellsNothing command → {T : Type 0} (answer : Result T VolumeFault) → IsFormedAs command answer → Alters command view old new answer
    → CarriesAs command (volume_reply answer) s.records (volume_at s) (view new.records).transferred
alters_carried view old new s seen begun store Dir nothing answer formed alters = tt
alters_carried view old new s seen begun store Label nothing answer formed alters = tt
alters_carried view old new s seen begun store (Fetch name) nothing answer formed alters = absurd nothing
alters_carried view old new s seen begun store (Store name kind implementation bytes) nothing (Ok x) formed alters = store_carried view old new s seen begun store name kind implementation bytes x alters
alters_carried view old new s seen begun store (Store name kind implementation bytes) nothing (Err (Refused why)) formed alters = tt
alters_carried view old new s seen begun store (Store name kind implementation bytes) nothing (Err (Troubled e)) formed alters = none_carried (Store name kind implementation bytes) e _ _ _
alters_carried view old new s seen begun store (Rename before later) nothing answer formed alters = tt
alters_carried view old new s seen begun store (Purge name) nothing answer formed alters = tt
alters_carried view old new s seen begun store Adopt nothing answer formed alters = tt
alters_carried view old new s seen begun store Upgrade nothing answer formed alters = tt
alters_carried view old new s seen begun store (Batch parts) nothing (Ok x) formed alters = batch_carried view old new s seen begun store parts x formed alters
alters_carried view old new s seen begun store (Batch parts) nothing (Err (Refused why)) formed alters = tt
alters_carried view old new s seen begun store (Batch parts) nothing (Err (Troubled e)) formed alters = none_carried (Batch parts) e _ _ _
alters_carried view old new s seen begun store (Format label slots) nothing answer formed alters = tt
