-- The lines of a script, a batch gathered among them.
use Rattle.std.specs.Prelude.{◌≡◌, ℕ, List, All, length, Option, Some, None, Result, Ok, Err, option_map}
use Rattle.lif_dir.specs.Batches.{BatchView, IsPartOf, parts_of}
use Rattle.il_script.specs.Commands.{Asked}
use Rattle.il_script.specs.declared.command.Command.{Command}
use Rattle.il_script.specs.declared.reply.Code.{Code}
use Rattle.host_model.specs.Requests as model
use Rattle.host_model.specs.Requests.{all_brought, gathering_by, item_by}
use Rattle.il_host.specs.Run.{item_asked}
use Rattle.il_host.specs.declared.running.Asked.{Asked as Wanted}
use Rattle.il_host.specs.declared.gathering.Gathering.{Gathering}
use Rattle.il_host.specs.declared.gathering.Gathering.TheVariants as gathering

-- what stands open, with the parts of a batch
abbrev pub stands_open : Gathering → BatchView → model.Gathering
stands_open gathering.Outside batch = model.Outside
stands_open gathering.Within batch = model.Within (parts_of batch)
stands_open (gathering.Spoilt code) batch = model.Spoilt code

-- a batch whose bytes are those of the files that it stores, one after the other
pub record IsGathered (batch : BatchView) : Type 0 where
  pub each : All (IsPartOf (length batch.bytes)) batch.parts
  pub sum : all_brought (parts_of batch) ≡ length batch.bytes

-- a reading with the bytes that its line carries
abbrev pub read_with : Result (Option Command) Code → List ℕ → Result (Option Asked) Code
read_with (Ok None) bytes = Ok None
read_with (Ok (Some command)) bytes = Ok (Some (record { command = command; bytes = bytes }))
read_with (Err code) bytes = Err code

-- A line that reads so goes on from what stands open, and asks for this.
pub record Gathers (read : Result (Option Asked) Code) (before : model.Gathering) (after : Gathering) (batch : BatchView) (asked : Option Wanted) (bytes : List ℕ) : Type 0 where
  pub stands : stands_open after batch ≡ gathering_by before read
  pub asks : option_map (λ wanted. item_asked wanted bytes (parts_of batch)) asked ≡ item_by before read
