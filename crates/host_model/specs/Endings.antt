-- How runs end, and which counts of faults an ending raises.
use Rattle.std.specs.Prelude.{◌≡◌, ◌≤◌, ℕ}
use Rattle.lif_model.specs.Causes.{Rose}

pub data RunEnd : Type 0 where
  -- the script was read to its end, and every reply is ok, or some reply is not
  AllOk : RunEnd
  SomeNotOk : RunEnd
  -- the words are not those of the program
  BadWords : RunEnd
  NoImage : RunEnd
  ImageTooLarge : RunEnd
  SourceFailed : RunEnd
  SinkFailed : RunEnd
  -- there was no memory for the host, and no frame was sent
  OutOfMemory : RunEnd
  ScriptTooLong : RunEnd
  -- the image could not be put into the drive
  InsertFailed : RunEnd

abbrev pub exit_status : RunEnd → ℕ
exit_status AllOk = 0
exit_status SomeNotOk = 1
exit_status BadWords = 2
exit_status NoImage = 3
exit_status ImageTooLarge = 4
exit_status SourceFailed = 5
exit_status SinkFailed = 6
exit_status OutOfMemory = 7
exit_status ScriptTooLong = 8
exit_status InsertFailed = 9

-- no item was answered
abbrev pub IsEarly : RunEnd → Type 0
IsEarly BadWords = Unit {0}
IsEarly NoImage = Unit {0}
IsEarly ImageTooLarge = Unit {0}
IsEarly OutOfMemory = Unit {0}
IsEarly InsertFailed = Unit {0}
IsEarly _ = ⊥

-- no tape is in the drive
abbrev pub HasNoTape : RunEnd → Type 0
HasNoTape BadWords = Unit {0}
HasNoTape NoImage = Unit {0}
HasNoTape ImageTooLarge = Unit {0}
HasNoTape InsertFailed = Unit {0}
HasNoTape _ = ⊥

-- ---- counts of faults

-- the source's count rose exactly where the script could not be read
abbrev pub SourceCause : RunEnd → ℕ → ℕ → Type 0
SourceCause SourceFailed before now = Rose before now
SourceCause _ before now = now ≡ before

-- the sink's count rose exactly where the output could not be written
abbrev pub SinkCause : RunEnd → ℕ → ℕ → Type 0
SinkCause SinkFailed before now = Rose before now
SinkCause _ before now = now ≡ before

-- the medium's count rose where no tape could be inserted, and may rise in commands
abbrev pub MediumCause : RunEnd → ℕ → ℕ → Type 0
MediumCause InsertFailed before now = Rose before now
MediumCause BadWords before now = now ≡ before
MediumCause NoImage before now = now ≡ before
MediumCause ImageTooLarge before now = now ≡ before
MediumCause OutOfMemory before now = now ≡ before
MediumCause _ before now = before ≤ now

pub record HasEndingCause (end : RunEnd) (source_before source_now sink_before sink_now medium_before medium_now : ℕ) : Type 0 where
  pub source : SourceCause end source_before source_now
  pub sink : SinkCause end sink_before sink_now
  pub medium : MediumCause end medium_before medium_now
