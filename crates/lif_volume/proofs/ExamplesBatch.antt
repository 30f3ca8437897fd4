-- Worked examples of what a batch takes and writes, computed by the checker.
use Rattle.std.proofs.Common.{◌≡◌, ℕ, List, [], ◌∷◌, true, false, length, refl, ap, arith, codes}
use Rattle.std.specs.Prelude.{None, Some, Ok, Err, replicate}
use Rattle.lif_model.specs.Tape.{Tape}
use Rattle.lif_model.specs.Header.{HeaderParts}
use Rattle.lif_model.specs.declared.version.Version.TheVariants.{Two}
use Rattle.lif_model.specs.Parts.{Part}
use Rattle.lif_model.specs.Parts as part
use Rattle.lif_model.specs.Apply.{Batch}
use Rattle.lif_model.specs.declared.refusal.Refusal.TheVariants.{NoFile}
use Rattle.lif_model.specs.Writing.{NewFile, with_files}
use Rattle.lif_model.proofs.VolumeExamples.{a_name, b_name, numbered}
use Rattle.il_ports.specs.declared.records.Trouble.TheVariants.{Medium}
use Rattle.lif_redo.specs.Writing.{runs_filed}
use Rattle.lif_dir.specs.declared.change.Change.{Change}
use Rattle.lif_dir.specs.declared.entries.FileEntry.{FileEntry}
use Rattle.lif_dir.specs.Entries.{slot_of}
use Rattle.lif_plan.proofs.BatchPlans.{changes_some}
use Rattle.lif_volume.specs.declared.fault.VolumeFault.TheVariants.{Refused, Trouble as Troubled}
use Rattle.lif_volume.specs.Commands.{batch_calls_needed}
use Rattle.lif_volume.specs.Changing.{records_stored, batch_filing, batching, batching_all, changing, keeps_behind_command, unless_refused, with_mounting}
use Rattle.lif_volume.specs.Carrying.{batch_room, ChangesByParts, records_filed, EndsWithin, IsPartlyFiled, some_stand, next_begun, slots_with_all, file_count}

abbrev header : HeaderParts
header = record { label = codes "HPTAPE"; start = 2; length = 4 }

abbrev parts : List Part
parts = part.Store b_name 1 (replicate 4 0) (7 ∷ []) ∷ part.Purge a_name ∷ part.Store a_name 1 (replicate 4 0) (replicate 257 0) ∷ []

-- ---- how many records it reads and writes

counts : (records_stored parts ≡ 3) × (file_count (Batch parts) ≡ 3) × (batch_filing {T = ℕ} 512 (Some header) parts (Ok 0) ≡ 3) × (batching {T = ℕ} 512 None parts (Ok 0) ≡ 75)
    × (batching {T = ℕ} 512 None parts (Err (Refused NoFile)) ≡ 0) × (unless_refused {T = ℕ} 7 (Err (Troubled Medium)) ≡ 7)
counts = (refl, refl, refl, refl, refl, refl)

-- no more files than fit beside the directory
few : batch_filing {T = ℕ} 8 None (part.Store b_name 1 (replicate 4 0) (replicate 1025 0) ∷ []) (Ok 0) ≡ 3
few = refl

-- with mounting, of a directory that is kept, is read, and is not kept then
mounted : (changing {T = ℕ} 512 (Batch parts) (Some header) (Some header) (Ok 0) ≡ 75) × (changing {T = ℕ} 512 (Batch parts) None (Some header) (Ok 0) ≡ 150)
    × (changing {T = ℕ} 512 (Batch parts) None None (Err (Refused NoFile)) ≡ 578) × (batching_all {T = ℕ} 512 None None parts (Err (Troubled Medium)) ≡ 650)
    × (with_mounting {T = ℕ} 512 None None (λ kept. 7) 9 (Ok 0) ≡ 9)
mounted = (refl, refl, refl, refl, refl)

-- more than any other command only on a small medium
needed : (batch_calls_needed 512 ≡ 1064) × (batch_calls_needed 98 ≡ 236) × (batch_calls_needed 44 ≡ 182) × (batch_room 512 header ≡ 575)
needed = (refl, refl, refl, refl)

-- what was kept of the directory is forgotten where it is refused
forgets : (keeps_behind_command {T = ℕ} (Batch parts) true (Err (Refused NoFile)) ≡ false) × (keeps_behind_command {T = ℕ} (Batch parts) true (Ok 0) ≡ true)
forgets = (refl, refl)

-- ---- its files

abbrev first : NewFile
first = record { slot = 0; start = 1; bytes = 7 ∷ [] }

abbrev second : NewFile
second = record { slot = 1; start = 2; bytes = [] }

abbrev old : Tape
old = numbered 0 ∷ numbered 1 ∷ numbered 2 ∷ numbered 3 ∷ []

files : (records_filed (first ∷ second ∷ []) ≡ 2) × (length (runs_filed (first ∷ second ∷ [])) ≡ 2) × EndsWithin 2 first × (EndsWithin 2 second → ⊥)
files = (refl, refl, omega arith, λ is. absurd (omega (arith, is)))

-- the first one stands
partly : IsPartlyFiled (first ∷ second ∷ []) old (with_files (first ∷ []) old)
partly = some_stand (first ∷ []) (second ∷ []) refl refl

-- a tape without its last record is none
not_partly : IsPartlyFiled [] old (numbered 0 ∷ []) → ⊥
not_partly (some_stand [] rest same is) = let size : 1 ≡ 4 = ap (λ (t : Tape). length t) is in absurd (omega (arith, size))
not_partly (some_stand (f ∷ done) rest same is) = cc
not_partly (next_begun [] next rest same partly) = cc
not_partly (next_begun (f ∷ done) next rest same partly) = cc

-- ---- its slots

abbrev entry : FileEntry
entry = record { name = record { bytes = b_name }; kind = 1; start = 5; length = 1; date = replicate 6 0; volume = 0x8001; implementation = replicate 4 0 }

abbrev appends : ℕ → Change
appends slot = record { version = Two; slot = slot; entry = entry; next = None; ended = true }

slots : (slots_with_all [] [] ≡ []) × (slots_with_all (appends 0 ∷ appends 1 ∷ []) [] ≡ slot_of entry ∷ slot_of entry ∷ [])
slots = (refl, refl)

-- without changes a batch does not change the directory
not_changes : ChangesByParts [] 44 header [] [] [] [] → ⊥
not_changes plan = absurd (omega (arith, changes_some plan.1))
