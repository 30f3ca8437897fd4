-- What the loop over a script leaves, by how it ends.
use Rattle.std.specs.Prelude.{◌≡◌, ℕ, true, List, Option, Result, is_some}
use Rattle.lif_model.specs.Stops.{LeavesOnly}
use Rattle.il_frames.specs.declared.entry.Entry.{Entry}
use Rattle.il_script.specs.declared.reply.Reply.{Reply}
use Rattle.lif_model.specs.Parts.{Part}
use Rattle.lif_model.specs.Apply.{Batch}
use Rattle.host_model.specs.Requests.{Item, Asks, OfVolume, NoCommand, item_for}
use Rattle.host_model.specs.Steps.{Event, IsStep, event}
use Rattle.host_model.specs.Stops.{StopsLeave, LeftWithin}
use Rattle.host_model.specs.Runs.{IsTextOf, OutputMode, event_text}
use Rattle.host_model.specs.Endings.{RunEnd}
use Rattle.host_model.specs.Endings as end
use Rattle.host_model.specs.Leaves.{RunSoFar}
use Rattle.il_host.specs.HostView.{HostView, KeepsImages}
use Rattle.il_ports.specs.Writing.{WritesAll}
use Rattle.il_host.specs.declared.ending.Ending.{Ending}
use Rattle.il_host.specs.declared.ending.Ending.TheVariants as ending
use Rattle.il_host.specs.declared.running.Asked.{Asked}
use Rattle.il_host.specs.declared.running.Asked.TheVariants as asked

-- ---- endings

abbrev pub end_of : Ending → RunEnd
end_of ending.AllOk = end.AllOk
end_of ending.SomeNotOk = end.SomeNotOk
end_of ending.BadWords = end.BadWords
end_of ending.NoImage = end.NoImage
end_of ending.ImageTooLarge = end.ImageTooLarge
end_of ending.SourceFailed = end.SourceFailed
end_of ending.SinkFailed = end.SinkFailed
end_of ending.OutOfMemory = end.OutOfMemory
end_of ending.ScriptTooLong = end.ScriptTooLong
end_of ending.InsertFailed = end.InsertFailed

-- ---- one line

-- the item of what a line asks for, with the bytes that the line carries, or the parts of the batch that it ends
abbrev pub item_asked : Asked → List ℕ → List Part → Item
item_asked (asked.Command command) bytes parts = item_for command bytes
item_asked asked.Batch bytes parts = Asks (OfVolume (Batch parts))
item_asked (asked.NoCommand code) bytes parts = NoCommand code

-- an item that was answered, with this log
abbrev pub event_of : Item → Reply → List Entry → HostView → HostView → Event
event_of item reply log v w = event item reply log v.state w.state

-- The item was answered so, and its log and a text that is that of its reply were written as far as the result says: that is a step of a run, a power stop
-- during it leaves what it may leave, and no other image changes.
pub record Answers {E : Type 0} (item : Item) (reply : Reply) (mode : OutputMode) (v w : HostView) (before now : Option (List ℕ)) (written : Result (Unit {0}) E) : Type 0 where
  pub log : List Entry
  pub valid : w.valid
  pub plan : w.plan ≡ v.plan
  pub step : IsStep v.plan (event_of item reply log v w)
  pub stops : StopsLeave (event_of item reply log v w) v.moment w.moment v.left_since w.left_since
  pub text : List ℕ
  pub text_is : IsTextOf (event_of item reply log v w) text
  pub bytes : WritesAll before now (event_text mode (event_of item reply log v w) text) written
  pub images : KeepsImages v.inside w.inside v.images w.images

-- ---- the script

-- The run over the script so far; each tape that a stop since the loop began may have left is one of its events'; and no other image
-- changed.
pub record AnswersScript (generated : Option (ℕ × ℕ)) (ending : Ending) (mode : OutputMode) (v w : HostView) (left_before left_now written_before written_now : Option (List ℕ)) : Type 0 where
  pub ran : RunSoFar v.plan generated mode (end_of ending) v.state w.state left_before left_now written_before written_now
  pub stops : is_some v.state.tape ≡ true → LeavesOnly v.moment w.moment v.left_since w.left_since (LeftWithin ran.events w.state)
  pub images : KeepsImages v.inside w.inside v.images w.images
