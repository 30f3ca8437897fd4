-- The memory of a script, before its first line.
use Rattle.std.specs.Prelude.{◌≡◌, [], false}
use Rattle.il_host.specs.declared.generating.TheConstants.{GENERATED_ROOM}
use Rattle.il_host.specs.declared.scripts.Buffers.{Buffers}

pub record IsBlank (buffers : Buffers) : Type 0 where
  pub lines : buffers.lines ≡ record { text = []; begun = []; held = []; taken = 0; ended = false }
  pub page : buffers.page ≡ record { text = []; room = GENERATED_ROOM }
  pub batch : buffers.batch ≡ record { parts = []; bytes = [] }
