-- What contracts see of a host, and what a command does to it.
use Rattle.std.specs.Prelude.{◌≡◌, ◌≤◌, ◌+◌, ◌-◌, ◌*◌, if◌then◌else◌, ℕ, Bool, true, false, List, [], length, Option, Some, None}
use Rattle.lif_model.specs.Apply.{Store, Fetch, Batch}
use Rattle.lif_model.specs.Made.{file_length}
use Rattle.lif_model.specs.Shelf.{Shelf}
use Rattle.lif_model.specs.Tape.{Tape, IsTape}
use Rattle.lif_model.specs.Directory.{slots_of}
use Rattle.lif_model.specs.Volume.{Volume, volume_of}
use Rattle.lif_model.specs.Packing.{bears_mark, finished}
use Rattle.il_ports.specs.Inserting.{OthersAreKept}
use Rattle.lif_volume.specs.Changing.{records_stored}
use Rattle.lif_volume.specs.Commands.{directory_records, records_named}
use Rattle.il_frames.specs.declared.entry.Entry.{Entry}
use Rattle.loop_model.specs.Roles.{is_at_most_one, talkers}
use Rattle.il_ring.specs.declared.plan.Planned.{Planned}
use Rattle.il_record.specs.LoopStores.{calls_in}
use Rattle.il_script.specs.declared.reply.Reply.{Reply}
use Rattle.host_model.specs.Requests.{OfVolume, Get, Pack, Item, Asks, is_of_volume}
use Rattle.host_model.specs.LoopStates.{all_roles}
use Rattle.host_model.specs.HostStates.{HostState, log_room}
use Rattle.host_model.specs.Replies.{reply_text}
use Rattle.host_model.specs.Steps.{Event, IsStep, TellsReply, event}
use Rattle.host_model.specs.Stops.{StopsLeave}

pub record HostView : Type 1 where
  -- what holds of the host between its commands
  pub valid : Type 0
  -- what stands between them
  pub state : HostState
  -- the faults that are planned
  pub plan : List Planned
  -- the log of the last command, and the text of its reply
  pub log : List Entry
  pub text : List ℕ
  -- the images of the medium, where they are told, and the name of the one in the drive
  pub images : Option Shelf
  pub inside : Option (List ℕ)
  -- the medium's time, which never falls
  pub moment : ℕ
  -- a power stop at some moment since that one may have left this tape
  pub left_since : ℕ → Tape → Type 0

-- the same image is in the drive, and every other one is as before
pub record KeepsImages (inside inside_now : Option (List ℕ)) (old now : Option Shelf) : Type 0 where
  pub same : inside_now ≡ inside
  pub others : OthersAreKept inside old now

-- what holds of every host between its commands
pub record IsHost (v : HostView) : Type 0 where
  -- at most one device talks
  pub one : is_at_most_one (talkers (all_roles v.state.loop)) ≡ true
  -- where the directory is kept, the store is sound
  pub kept : v.state.kept ≡ true → v.state.sound ≡ true
  -- a tape that is told has its number of records
  pub is_tape : (t : Tape) → v.state.tape ≡ Some t → IsTape v.state.records t
  -- a stop now leaves the tape as it reads, and since now there is no other
  pub leaves_now : (m : ℕ) (t : Tape) → m ≤ v.moment → v.state.tape ≡ Some t → v.left_since m t
  pub leaves_only : (t c : Tape) → v.state.tape ≡ Some t → v.left_since v.moment c → c ≡ t

-- a command, as an event of a run
abbrev pub event_between : Item → Reply → HostView → HostView → Event
event_between item reply v w = event item reply w.log v.state w.state

-- how many records the room after this log is enough for, at 300 entries each, on a loop with a medium of n records
abbrev pub calls_behind : ℕ → List Entry → ℕ
calls_behind n log = calls_in (log_room n - length log)

-- it packs the volume
abbrev pub is_packing : Item → Bool
is_packing (Asks Pack) = true
is_packing item = false

-- the records of the files that an item stores or reads of a finished tape
abbrev pub records_asked : Item → Tape → ℕ
records_asked (Asks (OfVolume (Store name kind implementation bytes))) t = file_length bytes
records_asked (Asks (OfVolume (Batch parts))) t = records_stored parts
records_asked (Asks (OfVolume (Fetch name))) t = records_named (slots_of t) name
records_asked (Asks (Get name)) t = records_named (slots_of t) name
records_asked item t = 0

-- those that an item reads and writes beside these where the directory is kept
abbrev pub most_beside : Item → ℕ
most_beside (Asks (OfVolume (Batch parts))) = 80
most_beside item = 12

-- the log takes at most the room of so many records
abbrev pub TakesAtMost : ℕ → ℕ → List Entry → Type 0
TakesAtMost n most log = calls_behind n [] ≤ calls_behind n log + most

-- how many records a packing reads and writes at most on a medium of n records, and so many one that was stopped before it is finished
abbrev pub calls_to_pack : ℕ → ℕ
calls_to_pack n = 15 * n + 120

-- where a tape has a volume without a mark, no packing is to be finished
abbrev pub calls_to_prepare : ℕ → Option Volume → ℕ
calls_to_prepare n None = calls_to_pack n
calls_to_prepare n (Some v) = if bears_mark n v then calls_to_pack n else 0

-- The log of a command of a volume on a medium of n records takes at most the room of 17 n + 160 records, at 300 entries each: so many
-- calls of the store, as it counts them by its log. To make it sound counts as one. On a tape that is told it takes that of its
-- directory's records, of the records of the files that it stores or reads, and of 200 more, beside a packing that is finished before;
-- and where the directory is kept, that of the files alone and of a commit. The two are not said of `pack`.
pub record MakesFewCalls (item : Item) (s : HostState) (log : List Entry) : Type 0 where
  pub all : TakesAtMost s.records (2 * s.records + 40 + calls_to_pack s.records) log
  pub on_tape : is_packing item ≡ false → (t : Tape) → s.tape ≡ Some t
      → TakesAtMost s.records (directory_records (finished t) + records_asked item (finished t) + 200 + calls_to_prepare s.records (volume_of t)) log
  pub from_kept : is_packing item ≡ false → (t : Tape) → s.tape ≡ Some t → s.kept ≡ true
      → TakesAtMost s.records (records_asked item (finished t) + most_beside item) log

-- The host performed a command and replied so: that is a step of a run. The text is that of the reply, where what it depends on is
-- told. A power stop during the command leaves what it may leave, and no other image changes.
pub record Performed (item : Item) (reply : Reply) (v w : HostView) : Type 0 where
  pub valid : w.valid
  pub plan : w.plan ≡ v.plan
  pub step : IsStep v.plan (event_between item reply v w)
  pub text : TellsReply item v.state → w.text ≡ reply_text item v.state w.log reply
  pub stops : StopsLeave (event_between item reply v w) v.moment w.moment v.left_since w.left_since
  pub images : KeepsImages v.inside w.inside v.images w.images
  pub calls : is_of_volume item ≡ true → MakesFewCalls item v.state w.log
