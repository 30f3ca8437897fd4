-- Worked examples, computed by the checker, of a directory that is kept in memory: when it is, and what the logs of commands then have.
use Rattle.std.proofs.Common.{◌≡◌, ℕ, List, [], ◌∷◌, Some, None, true, false, refl, sym, subst, arith, replicate, codes, take}
use Rattle.lif_model.specs.Numbers.{two_at, four_at}
use Rattle.lif_model.specs.declared.version.Version.TheVariants.{One}
use Rattle.lif_model.specs.Commit.{commit_writes}
use Rattle.lif_model.specs.Volume.{Volume, volume_of}
use Rattle.lif_model.specs.Apply as volume
use Rattle.lif_model.specs.Transfers.{Transfer}
use Rattle.lif_model.proofs.Examples as base
use Rattle.lif_model.proofs.VolumeExamples.{file, a_name}
use Rattle.lif_redo.specs.Writing.{AreSingle}
use Rattle.il_frames.specs.declared.entry.Entry.{Entry}
use Rattle.loop_model.specs.Exchanges.{Command, Whole}
use Rattle.il_frames.specs.NamedFrames.{unl}
use Rattle.loop_model.specs.Loops.{host_loop}
use Rattle.il_script.specs.declared.reply.Code.TheVariants as code
use Rattle.il_script.specs.declared.reply.Reply.TheVariants as reply
use Rattle.host_model.specs.Requests.{OfVolume, Get, Pack, Devices, Paper, Asks, NoCommand}
use Rattle.host_model.specs.HostStates.{HostState}
use Rattle.host_model.specs.Steps.{Event, KeepsDirectory}
use Rattle.host_model.specs.Directories.{IsKeptAfter, HasTransfers, run_read, IsCommitOf, AreFilesAndCommit}
use Rattle.host_model.proofs.Small.{a_host, a_tape, false_is_not_true}
use Rattle.host_model.proofs.StepExamples.{log_of}
use Rattle.host_model.proofs.TextExamples.{a_bytes}

-- ---- whether it is kept

-- ok, a refusal and an item that sends no frame keep it
kept : IsKeptAfter (Asks (OfVolume volume.Dir)) false reply.Ok true × IsKeptAfter (Asks (OfVolume (volume.Purge a_name))) false (reply.No code.NoFile) true
    × IsKeptAfter (Asks (Get a_name)) false (reply.No code.NotText) true × IsKeptAfter (NoCommand code.BadLine) true (reply.No code.BadLine) true
    × IsKeptAfter (Asks Paper) true (reply.No code.NoPrinter) true × IsKeptAfter (Asks (OfVolume (volume.Batch []))) false reply.Ok true
kept = (refl, refl, refl, refl, refl, refl)

-- a fault forgets it, a tape without a volume has none, and `pack`, a batch that is refused and a command of the loop forget it
forgotten : IsKeptAfter (Asks (OfVolume volume.Dir)) true reply.FaultFrame false × IsKeptAfter (Asks (Get a_name)) true reply.FaultMedium false
    × IsKeptAfter (Asks (OfVolume volume.Label)) true (reply.No code.NotLif) false × IsKeptAfter (Asks (OfVolume (volume.Batch []))) true (reply.No code.NoFile) false
    × IsKeptAfter (Asks Devices) true reply.Ok false × IsKeptAfter (Asks Pack) true (reply.No code.OutOfOrder) false
forgotten = (refl, refl, refl, refl, refl, refl)

-- not both
not_forgotten : IsKeptAfter (Asks (OfVolume volume.Dir)) true reply.Ok false → ⊥
not_forgotten so = false_is_not_true so

-- a format without room keeps one that was kept, and may read one that was not
kept_without_room : IsKeptAfter (Asks (OfVolume (volume.Format (codes "HPTAPE") 4000))) true (reply.No code.NoRoom) true
    × IsKeptAfter (Asks (OfVolume (volume.Format (codes "HPTAPE") 4000))) false (reply.No code.NoRoom) true
kept_without_room = (λ on. refl, λ on. refl)

not_kept_without_room : IsKeptAfter (Asks (OfVolume (volume.Format (codes "HPTAPE") 4000))) true (reply.No code.NoRoom) false → ⊥
not_kept_without_room so = false_is_not_true (so refl)

-- ---- runs and commits

read_at : ℕ → List ℕ → Transfer
read_at first bytes = record { writes = false; first = first; bytes = bytes }

-- a file is read by one run, and one without records by none
runs : (run_read (Some (file a_name 4 1)) (Some (take 256 a_bytes)) ≡ read_at 4 (take 256 a_bytes) ∷ []) × (run_read (Some (file a_name 4 0)) (Some []) ≡ [])
    × (run_read None None ≡ [])
unfolding four_at two_at read_at
runs = (refl, refl, refl)

-- a file without records takes nothing of a log
nothing_read : HasTransfers (host_loop 2 1) [] []
nothing_read = refl

never_read : HasTransfers (host_loop 2 1) (log_of (Whole (Command unl) ∷ [])) [] → ⊥
never_read is = cc

-- no change is no commit, and a change is one
commits : IsCommitOf 12 [] [] × IsCommitOf 12 ((2, base.header) ∷ []) (commit_writes One 12 false ((2, base.header) ∷ []))
commits = (refl, (One, false, refl))

never_for_nothing : IsCommitOf 12 [] ((8, base.header) ∷ []) → ⊥
never_for_nothing is = cc

-- of a run of two records there is none among those of a commit
single_reads : AreFilesAndCommit 12 [] [] (read_at 2 (replicate 256 0) ∷ [])
unfolding read_at
single_reads = record { more = read_at 2 (replicate 256 0) ∷ []; are = refl; single = (refl, tt); commit = refl }

never_by_a_run : AreFilesAndCommit 12 [] [] (read_at 2 (replicate 512 0) ∷ []) → ⊥
unfolding read_at
never_by_a_run is = by is.more (sym is.are) is.single
  where
    by : (more : List Transfer) → more ≡ read_at 2 (replicate 512 0) ∷ [] → AreSingle more → ⊥
    by more is single = let size : 512 ≡ 256 = (subst AreSingle is single).0 in absurd (omega (arith, size))

-- ---- events

-- a host that keeps the directory
abbrev keeping_host : HostState
keeping_host = record a_host { ready = true; sound = true; kept = true }

-- it tells the label without a frame
abbrev told_label : Event
told_label = record { item = Asks (OfVolume volume.Label); reply = reply.Ok; log = []; before = keeping_host; after = keeping_host }

label_told : KeepsDirectory told_label
label_told = record { kept = refl; log = λ on t v told of. refl }

-- so it does where it refuses a purge
purge_refused : KeepsDirectory (record told_label { item = Asks (OfVolume (volume.Purge a_name)); reply = reply.No code.NoFile })
purge_refused = record { kept = refl; log = λ on. refl }

-- and not where it forgets the directory, or sends a frame
label_forgotten : KeepsDirectory (record told_label { after = record keeping_host { kept = false } }) → ⊥
label_forgotten is = false_is_not_true is.kept

abbrev some_log : List Entry
some_log = log_of (Whole (Command unl) ∷ [])

refused_by_frames : KeepsDirectory (record told_label { item = Asks (OfVolume (volume.Purge a_name)); reply = reply.No code.NoFile; log = some_log }) → ⊥
refused_by_frames is = let none : some_log ≡ [] = is.log refl in cc

label_by_frames : (v : Volume) → volume_of a_tape ≡ Some v → KeepsDirectory (record told_label { log = some_log }) → ⊥
label_by_frames v of is = let none : some_log ≡ [] = is.log refl a_tape v refl of in cc

-- from a host that keeps none it may send frames
label_read : KeepsDirectory (record told_label { log = some_log; before = record keeping_host { kept = false } })
label_read = record { kept = refl; log = λ on. absurd (false_is_not_true on) }

-- a status forgets the directory, and a bad line keeps it
status_forgets : KeepsDirectory (record told_label { item = Asks Devices; log = some_log; after = record keeping_host { kept = false } })
status_forgets = record { kept = refl; log = λ on. tt }

bad_line_keeps : KeepsDirectory (record told_label { item = NoCommand code.BadLine; reply = reply.No code.BadLine })
bad_line_keeps = record { kept = refl; log = λ on. tt }
