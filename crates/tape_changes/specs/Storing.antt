-- Files that are stored, each by one step.
use Rattle.std.specs.Prelude.{◌≡◌, ◌≢◌, ◌≤◌, ◌++◌, ℕ, Bool, true, false, List, [], ◌∷◌, codes, length, map, Option, Some, None, option_map, if◌then◌else◌}
use Rattle.std.specs.Str.{bytes_eq}
use Rattle.lif_model.specs.Apply as volume
use Rattle.lif_model.specs.Apply.{VolumeCommand}
use Rattle.lif_model.specs.Parts as part
use Rattle.lif_model.specs.Printed.{printed}
use Rattle.lif_dir.specs.Batches.{BatchView, parts_of}
use Rattle.lif_dir.specs.Entries.{name_bytes}
use Rattle.lif_dir.specs.Names.{made_name}
use Rattle.il_script.specs.declared.limits.TheConstants.{LONGEST_PAYLOAD}
use Rattle.tape_volumes.specs.Changes.{IsFormedChange, change_command}
use Rattle.tape_changes.specs.declared.storing.Incoming.{Incoming}
use Rattle.tape_changes.specs.declared.storing.Ready.{Ready}
use Rattle.tape_changes.specs.Changing.{Attempt, SaidStep}
use Rattle.tape_changes.specs.declared.replacing.NewFile.{NewFile}
use Rattle.tape_changes.specs.Replacing.{replacing_parts, store_change}

-- ---- a file

-- the ten bytes of the name that a file gets
abbrev pub incoming_name : Incoming → List ℕ
incoming_name f = name_bytes (made_name f.name)

-- its type is that of a file, and its bytes are no more than those of a disc
pub record IsStorable (f : Incoming) : Type 0 where
  pub not_free : f.kind ≢ 0
  pub not_end : f.kind ≢ 0xFFFF
  pub fits : length f.bytes.items ≤ LONGEST_PAYLOAD

-- a store of it
abbrev pub incoming_store : Incoming → VolumeCommand
incoming_store f = volume.Store (incoming_name f) f.kind f.field f.bytes.items

-- a purge of the file of its name, and a store of it, as one change
abbrev pub incoming_batch : Incoming → VolumeCommand
incoming_batch f =
    volume.Batch (part.Purge (incoming_name f) ∷ part.Store (incoming_name f) f.kind f.field f.bytes.items ∷ [])

-- It is stored, if there is none of its name. If `over` is set, it takes the place of one of its name.
abbrev pub store_attempt : (over : Bool) → Incoming → Attempt
store_attempt over f = record { command = incoming_store f; instead = if over then Some (incoming_batch f) else None }

-- ---- what is said of it

-- its name, after the one that it had if that is another one
abbrev pub named_line : (from now : List ℕ) → List ℕ
named_line from now =
    if bytes_eq from now then printed now ++ codes "\n" else printed from ++ codes ": stored as " ++ printed now ++ codes "\n"

-- what is printed once it is stored, unless the job is to be quiet
abbrev pub incoming_line : (quiet : Bool) → Incoming → List ℕ
incoming_line true f = []
incoming_line false f = named_line (name_bytes f.from) (incoming_name f)

-- the step that stores it
abbrev pub incoming_step : (over quiet : Bool) → Incoming → SaidStep
incoming_step over quiet f =
    record { attempt = store_attempt over f; subject = printed (incoming_name f); line = incoming_line quiet f }

-- one step for each file
abbrev pub incoming_steps : (over quiet : Bool) → List Incoming → List SaidStep
incoming_steps over quiet files = map (incoming_step over quiet) files

-- ---- what its step needs

-- the step of a file, by the file, its batch and its texts
abbrev pub ready_step : Ready → SaidStep
ready_step ready = record {
  attempt = record { command = change_command (store_change ready.file); instead = option_map (λ batch. volume.Batch (parts_of batch)) ready.batch };
  subject = ready.name.text;
  line = ready.line.text;
}

-- the batch of a file, if it may take the place of another one
abbrev pub IsBatchFor : (over : Bool) → NewFile → Option BatchView → Type 0
IsBatchFor true file batch = option_map parts_of batch ≡ Some (replacing_parts file)
IsBatchFor false file batch = batch ≡ None

-- its change can be asked for
abbrev pub IsReadyFile : Ready → Type 0
IsReadyFile ready = IsFormedChange (store_change ready.file)
