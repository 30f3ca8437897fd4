-- The commands that change the volume, as a host performs them.
use Rattle.std.proofs.Common.{◌≡◌, ◌≤◌, ◌+◌, ℕ, List, Option, None, Some, refl, subst, arith}
use Rattle.std.specs.Prelude.{Result, Ok, Err}
use Rattle.lif_model.specs.Parts.{Part}
use Rattle.lif_model.specs.Apply.{Adopt, Dir, Format, Batch, Purge, Rename, Store, Upgrade, VolumeCommand}
use Rattle.lif_model.specs.Header.{HeaderParts}
use Rattle.il_ports.specs.Media.{MediumView, IsMedium}
use Rattle.il_ports.specs.Stores.{Begun, RecordsView}
use Rattle.lif_volume.specs.Answers.{store_answer}
use Rattle.lif_volume.specs.Changing.{batching, beside, changing, committing, filing, with_mounting}
use Rattle.lif_volume.specs.Commands.{mounting}
use Rattle.lif_volume.specs.Did.{Alters}
use Rattle.lif_volume.specs.Views.{IsOpen, VolumeView}
use Rattle.lif_volume.specs.declared.fault.VolumeFault.{VolumeFault}
use Rattle.lif_volume.specs.declared.fault.VolumeFault.TheVariants.{Refused, Trouble as Troubled}
use Rattle.lif_volume.specs.declared.volume.Volume.{Volume}
use Rattle.il_ring.specs.declared.ring.Ring.{Ring}
use Rattle.il_ring.specs.Rings.{RingView}
use Rattle.il_record.specs.declared.records.LoopRecords.{LoopRecords}
use Rattle.il_script.specs.Replies.{reply_line}
use Rattle.host_model.specs.Requests.{Asks, OfVolume}
use Rattle.il_host.specs.HostView.{Performed, calls_to_pack}
use Rattle.il_host.specs.Hosts.{Space, IsUsable, host_in, loop_in, store_in, volume_in}
use Rattle.il_host.specs.Standings.{HasDriveStatus, volume_reply}
use Rattle.il_host.proofs.BatchCarries.{alters_carried}
use Rattle.il_host.proofs.VolumeCarries.{IsFormedAs}
use Rattle.il_host.proofs.KeptDirectories.{TellsNothing, minds_altered}
use Rattle.il_host.proofs.HostVolumes.{changed, most_calls, mounts_few}
use Rattle.il_host.proofs.Prepared.{IsPrepared, answers_prepared, few_prepared, goes_prepared, minds_prepared, shows_prepared, some_prepared, store_law, turns_prepared}

-- where the calls beside a directory are few, those with mounting are
few_with_mounting : {R S T : Type 0} (view : R → RecordsView S) (old new : VolumeView R) (answer : Result T VolumeFault) → IsOpen view new → (view new.records).record_count ≡ (view old.records).record_count
    → (calls : Option HeaderParts → ℕ) (most : ℕ) → most ≤ most_calls (view old.records).record_count → calls None ≤ most_calls (view old.records).record_count
    → ((header : HeaderParts) → header.length + 5 ≤ (view old.records).record_count → 71 + header.length + calls (Some header) ≤ most_calls (view old.records).record_count)
    → with_mounting (view old.records).record_count old.kept new.kept calls most answer ≤ most_calls (view old.records).record_count
few_with_mounting {T = T} view old new answer is size calls most all any beside = by old.kept new.kept (λ header kept. mounted header kept) answer
  where
    count : ℕ
    count = (view old.records).record_count

    -- a directory leaves room for the redo file
    mounted : (header : HeaderParts) → new.kept ≡ Some header → header.length + 5 ≤ count
    mounted header kept =
        let few = subst (λ (kept : Option HeaderParts). mounting count None kept ≤ count + 66) kept (mounts_few view (record old { kept = None }) new is size) in
        omega (arith, few)

    by : (was kept : Option HeaderParts) → ((header : HeaderParts) → kept ≡ Some header → header.length + 5 ≤ count) → (answer : Result T VolumeFault) → with_mounting count was kept calls most answer ≤ most_calls count
    by (Some old) kept long answer = any
    by None (Some header) long answer = omega (arith, beside header (long header refl))
    by None None long (Err (Refused why)) = omega arith
    by _ _ long _ = all

-- a file, or those of a batch, lie beside the directory
stores_few : {T : Type 0} (n : ℕ) (kept : Option HeaderParts) (bytes : List ℕ) (answer : Result T VolumeFault) → filing n kept bytes answer + committing answer ≤ beside n kept + 10
stores_few n kept bytes (Ok x) = omega arith
stores_few n kept bytes (Err (Refused why)) = omega arith
stores_few n kept bytes (Err (Troubled e)) = omega arith

batches_few : {T : Type 0} (n : ℕ) (kept : Option HeaderParts) (parts : List Part) (answer : Result T VolumeFault) → batching n kept parts answer ≤ beside n kept + 72
batches_few n kept parts (Ok x) = omega arith
batches_few n kept parts (Err (Refused why)) = omega arith
batches_few n kept parts (Err (Troubled e)) = omega arith

-- of a directory that need not be kept
mounts_any : (n : ℕ) (was : Option HeaderParts) → mounting n was None ≤ n + 66
mounts_any n None = omega arith
mounts_any n (Some header) = omega arith

-- nor does a commit
commits_few : {T : Type 0} (answer : Result T VolumeFault) → committing answer ≤ 10
commits_few (Ok x) = omega arith
commits_few (Err (Refused why)) = omega arith
commits_few (Err (Troubled e)) = omega arith

changing_few : {R S T : Type 0} (view : R → RecordsView S) (old new : VolumeView R) (command : VolumeCommand) (answer : Result T VolumeFault) → TellsNothing command → IsOpen view new → (view new.records).record_count ≡ (view old.records).record_count
    → changing (view old.records).record_count command old.kept new.kept answer ≤ most_calls (view old.records).record_count
changing_few {T = T} view old new command answer nothing is size = by command nothing
  where
    count : ℕ
    count = (view old.records).record_count

    plain : mounting (view old.records).record_count old.kept new.kept + committing answer ≤ most_calls (view old.records).record_count
    plain = omega (arith, mounts_few view old new is size, commits_few answer)

    by : (command : VolumeCommand) → TellsNothing command → changing (view old.records).record_count command old.kept new.kept answer ≤ most_calls (view old.records).record_count
    by Dir nothing = absurd nothing
    by (Store name kind implementation bytes) nothing =
        few_with_mounting view old new answer is size (λ kept. filing count kept bytes answer + committing answer) (count + 76) (omega arith)
        (omega (arith, stores_few count None bytes answer)) (λ header long. omega (arith, stores_few count (Some header) bytes answer, long))
    by (Rename before later) nothing = plain
    by (Purge name) nothing = plain
    by Adopt nothing = plain
    by Upgrade nothing = plain
    by (Batch parts) nothing =
        few_with_mounting view old new answer is size (λ kept. batching count kept parts answer) (count + 138) (omega arith)
        (omega (arith, batches_few count None parts answer)) (λ header long. omega (arith, batches_few count (Some header) parts answer, long))
    by (Format label slots) nothing = omega (arith, mounts_any (view old.records).record_count old.kept, commits_few answer)
    by _ nothing = absurd nothing

module _ {M I : Type 0} {D : I → Type 0} (view : M → MediumView) (seen : Ring M I D → RingView M) (o b f n : Volume (LoopRecords M I D)) (text_space : ℕ) (space : Space)
    (usable : IsUsable view (store_in view seen) (volume_in o) (loop_in seen o.records) text_space space) (began : Begun (store_in view seen o.records) (store_in view seen b.records))
    (law : (x : M) → IsMedium (view x)) (p : IsPrepared view seen o b f) (opened : IsOpen (store_in view seen) (volume_in f))
    (opens : IsOpen (store_in view seen) (volume_in n)) (low : HasDriveStatus (loop_in seen n.records).ring) where
  -- a command that tells nothing, as the volume did it
  pub altered : {T : Type 0} (command : VolumeCommand) (answer : Result T VolumeFault) (before : List ℕ) → TellsNothing command → IsFormedAs command answer
      → Alters command (store_in view seen) (volume_in f) (volume_in n) answer
      → Performed (Asks (OfVolume command)) (volume_reply answer) (host_in view seen o before text_space space) (host_in view seen n (reply_line (volume_reply answer)) text_space space)
  altered command answer before nothing formed alters =
      let calls = changing (store_in view seen f.records).record_count command (volume_in f).kept (volume_in n).kept answer in
      changed view seen o b n text_space space usable began command opens low p.m tt p.makes p.sounds p.same answer
      (calls_to_pack (store_in view seen p.m.records).record_count + calls) before nothing
      (few_prepared view seen o b f text_space space usable began law p n command opens low calls
      (changing_few (store_in view seen) (volume_in f) (volume_in n) command answer nothing opens alters.goes_on.continues.size))
      (goes_prepared view seen o b f text_space space usable began law p n command opens low calls (store_answer answer) alters.goes_on)
      (turns_prepared view seen o b f text_space space usable began law p n command opens low alters.stops alters.foreign)
      (answers_prepared view seen o b f text_space space usable began law p n command opens low answer alters.stops alters.answers)
      (alters_carried (store_in view seen) (volume_in f) (volume_in n) (host_in view seen o before text_space space).state
      (shows_prepared view seen o b f text_space space usable began law p n command opens low before)
      (some_prepared view seen o b f text_space space usable began law p)
      (store_law view seen o b f text_space space usable began law f.records)
      command nothing answer formed alters)
      (minds_prepared view seen o b f text_space space usable began law p n command opens low answer calls (store_answer answer) alters.stops alters.goes_on
      (minds_altered (store_in view seen) (volume_in f) (volume_in n) command answer nothing opened alters))
