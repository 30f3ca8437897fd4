-- What contracts see of a volume, and what holds of it between its calls.
use Rattle.std.specs.Prelude.{◌≡◌, ◌<◌, ◌*◌, ◌-◌, ◌^◌, ℕ, Bool, List, true, length, map, Option, Some, IfSome}
use Rattle.lif_model.specs.Tape.{Tape, record_at}
use Rattle.lif_model.specs.Gate.{has_open_gate}
use Rattle.lif_model.specs.Header.{HeaderParts, header_of}
use Rattle.lif_model.specs.Directory.{slots_of}
use Rattle.lif_model.specs.Redo.{IsSettled}
use Rattle.lif_model.specs.Legal.{is_legal}
use Rattle.il_ports.specs.Stores.{RecordsView}
use Rattle.lif_dir.specs.Entries.{slot_from, slot_bytes}
use Rattle.lif_commit.specs.Staged.{EndsWith}
use Rattle.lif_plan.specs.Directories.{IsLegalDirectory}
use Rattle.lif_dir.specs.declared.entries.Slot.{Slot}

-- a volume over a store R
pub record VolumeView (R : Type 0) : Type 0 where
  pub records : R
  -- what record 0 says, where it and the slots are kept
  pub kept : Option HeaderParts
  -- whether the gate reads open, where the directory is kept
  pub is_open : Bool
  -- the record with the end of the directory, where it is kept
  pub last : List ℕ
  -- the slots in memory: those of the directory, where they are kept
  pub slots : List Slot
  -- how many slots there is memory for
  pub room : ℕ

-- what record 0 of this tape says, and its slots; the tape is legal
pub record IsDirectoryOn (t : Tape) (kept : HeaderParts) (found : List Slot) : Type 0 where
  pub legal : is_legal t ≡ true
  pub header : kept ≡ header_of (record_at t 0)
  pub slots : found ≡ map slot_from (slots_of t)
  pub bytes : map slot_bytes found ≡ slots_of t

-- the same, and the tape is settled
pub record IsDirectoryOf (t : Tape) (kept : HeaderParts) (found : List Slot) : Type 0 where
  pub settled : IsSettled t
  pub directory : IsDirectoryOn t kept found

-- Between the calls of a volume: its store is valid and has records for a redo file of either
-- version, there is memory for every directory, and what is kept is that of the tape.
pub record IsOpen {R S : Type 0} (view : R → RecordsView S) (volume : VolumeView R) : Type 0 where
  pub valid : (view volume.records).valid
  pub size : 37 < (view volume.records).record_count
  pub small : (view volume.records).record_count < 2 ^ 16
  pub room : volume.room ≡ 8 * ((view volume.records).record_count - 5)
  pub legal : IfSome volume.kept (λ header.
      IsLegalDirectory (view volume.records).record_count header (map slot_bytes volume.slots))
  pub known : (t : Tape) → (view volume.records).tape ≡ Some t
      → IfSome volume.kept (λ header. IsDirectoryOf t header volume.slots)
  pub gate : (t : Tape) → (view volume.records).tape ≡ Some t → IfSome volume.kept (λ header. volume.is_open ≡ has_open_gate t)
  pub end : (t : Tape) → (view volume.records).tape ≡ Some t
      → IfSome volume.kept (λ header. EndsWith header.start header.length (length volume.slots) volume.last t)
