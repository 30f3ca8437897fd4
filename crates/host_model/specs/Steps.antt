-- One step of a run: an item, what was replied, the log, and what stands before and after.
use Rattle.std.specs.Prelude.{◌≡◌, ◌≢◌, ◌⊎◌, ◌≤◌, ◌++◌, ◌==◌, ◌&&◌, ◌||◌, ℕ, Bool, All, true, false, not, List, [], ◌∷◌, length, Option, Some, None, is_some, IfSome}
use Rattle.std.specs.List.{list_any}
use Rattle.std.specs.Str.{bytes_eq}
use Rattle.std.specs.FinMap.{get}
use Rattle.lif_model.specs.Causes.{Rose}
use Rattle.lif_model.specs.Tape.{Tape}
use Rattle.lif_model.specs.Directory.{start_of, length_of}
use Rattle.lif_model.specs.Legal.{slot_named}
use Rattle.lif_model.specs.Made.{file_length, filled}
use Rattle.lif_model.specs.Fit.{Place, At, fit_in}
use Rattle.lif_model.specs.Redo.{settled}
use Rattle.lif_model.specs.Commit.{SettlesAs}
use Rattle.lif_model.specs.Volume.{Volume, is_foreign_gated, volume_of}
use Rattle.lif_model.specs.Apply.{Store, Fetch, Batch}
use Rattle.lif_model.specs.Writing.{NewFile, files_left}
use Rattle.lif_model.specs.Transfers.{carries}
use Rattle.lif_model.specs.declared.refusal.Refusal.{Refusal}
use Rattle.lif_model.specs.Packing.{Shown, files_shown, repacked}
use Rattle.il_frames.specs.declared.entry.Entry.{Entry}
use Rattle.il_device.specs.State.{DeviceState, risen_by}
use Rattle.loop_model.specs.Effect.{UnitsEffect, is_out, is_in, transfer_of, ends_as, all_good}
use Rattle.loop_model.specs.Exchanges.{Reading}
use Rattle.loop_model.specs.Reach.{links, passes, met}
use Rattle.il_device.specs.declared.roles.Roles.{Roles}
use Rattle.loop_model.specs.Hearing.{heard_by}
use Rattle.loop_model.specs.Listening.{HearsAll}
use Rattle.loop_model.specs.Leading.{OneTalkerLed, are_commands_led, controller_after, is_taking_back, roles_led}
use Rattle.loop_model.specs.Units.{RecordUnit, units_of, ends_within}
use Rattle.il_script.specs.declared.reply.Reply.{Reply}
use Rattle.il_script.specs.declared.reply.Reply.TheVariants as reply
use Rattle.il_ring.specs.declared.plan.Planned.{Planned}
use Rattle.il_ring.specs.Plans.{hops_of}
use Rattle.il_ring.specs.Fates.{IsByPlan}
use Rattle.il_ring.specs.Lends.{Lend as Lending, came_back, is_lend, is_whole_lend, lend_address, lend_entries, reports_own, was_taken}
use Rattle.il_ring.specs.Statuses.{ReportsStatus, answers_always, reported_by}
use Rattle.host_model.specs.Requests.{OfVolume, Get, Pack, Lend, Item, Asks, is_lending, is_of_volume, uses_frames}
use Rattle.host_model.specs.LoopStates.{LoopState, addresses_asked, all_roles, device_count, drive_at, ring_of}
use Rattle.host_model.specs.HostStates.{HostState, volume_at, HasOwnGate, log_room}
use Rattle.host_model.specs.Replies.{reply_of, volume_behind}
use Rattle.host_model.specs.Courses.{addressed_first, begins_with, cleared_first, course_of, keeps_course, keeps_to}
use Rattle.host_model.specs.Next.{Next, BoxedBecome}
use Rattle.host_model.specs.Directories.{IsKeptAfter, LogOfKept}
use Rattle.host_model.specs.Tapes.{CommitsFor, IsKeptTape, IsWritten, OnlySettling, finishes_first, only_reads, only_settles}
use Rattle.lif_model.specs.Finished.{IsPackedOn, IsPlain}

pub record Event : Type 0 where
  pub item : Item
  pub reply : Reply
  pub log : List Entry
  pub before : HostState
  pub after : HostState

-- the one way in which events are made
abbrev pub event : Item → Reply → List Entry → (before after : HostState) → Event
event item reply log before after = record { item = item; reply = reply; log = log; before = before; after = after }

-- ---- reply and volume

-- only a command that sends frames has the reply `fault frame`, and only one of the volume `fault medium`
abbrev pub MayReply : Item → Reply → Type 0
MayReply item reply.FaultFrame = uses_frames item ≡ true
MayReply item reply.FaultMedium = is_of_volume item ≡ true
MayReply item r = Unit {0}

-- the files of a volume, each with all of its slot but the start, and what packing makes of it
abbrev pub packs_as : ℕ → Option Volume → Option Shown × (Option Refusal × Option Volume)
packs_as n volume = (files_shown n volume, repacked n volume)

-- the same files as before a packing, which packs to the same; or the volume before an item, or the one that it makes
abbrev pub EitherVolume : Item → HostState → HostState → Type 0
EitherVolume (Asks Pack) s t = packs_as s.records (volume_at t) ≡ packs_as s.records (volume_at s)
EitherVolume item s t = (volume_at t ≡ volume_at s) ⊎ (volume_at t ≡ volume_behind item s)

-- Without a fault, reply and volume are those of the item. After one, all of the command was done or nothing of it; of a tape whose
-- open redo would overwrite a file that is not ours `foreign` says what is left.
abbrev pub CountsWhole : Item → Reply → HostState → HostState → Type 0
CountsWhole item reply.FaultFrame s t = HasOwnGate s → EitherVolume item s t
CountsWhole item reply.FaultMedium s t = HasOwnGate s → EitherVolume item s t
CountsWhole item r s t = (r ≡ reply_of item s) × (volume_at t ≡ volume_behind item s)

-- where the open redo of the tape before would overwrite a file that is not ours, this one settles to the same, in all records but the
-- gate
abbrev pub SettlesAlike : Option Tape → Tape → Type 0
SettlesAlike before x = (t : Tape) → before ≡ Some t → is_foreign_gated t ≡ true → SettlesAs (settled t) x

-- what the reply depends on is told
abbrev pub TellsReply : Item → HostState → Type 0
TellsReply item s = is_of_volume item ≡ true → is_some s.tape ≡ true

pub record Replied (e : Event) : Type 0 where
  pub may : MayReply e.item e.reply
  pub whole : TellsReply e.item e.before → CountsWhole e.item e.reply e.before e.after
  -- no other item changes the tape, and none the size of the medium
  pub stays : is_of_volume e.item ≡ false → e.after.tape ≡ e.before.tape
  pub told : is_some e.after.tape ≡ is_some e.before.tape
  pub size : e.after.records ≡ e.before.records
  pub gate : HasOwnGate e.before → HasOwnGate e.after
  pub foreign : IfSome e.after.tape (SettlesAlike e.before.tape)

-- ---- what the frames of the log did on the ring

-- the device at that party took as many frames more as the log brought there; the count stays at its greatest value
abbrev pub TookFrames : ℕ → List Entry → ℕ → DeviceState → DeviceState → Type 0
TookFrames k log party d e = e.frames ≡ risen_by (passes k party log) d.frames

-- At most one device talked at every moment, by the entries of a log that begins under the host's control, and each command was the
-- controller's or an IFC of the host. The entries count for the crossings, for the frames that came to each device, and for the roles. A
-- second controller asks the same addresses as before.
pub record Travels (e : Event) : Type 0 where
  pub one_talker : OneTalkerLed 0 (all_roles e.before.loop) e.log
  pub commands : are_commands_led 0 e.log ≡ true
  pub roles : all_roles e.after.loop ≡ roles_led 0 (all_roles e.before.loop) e.log
  pub crossings : e.after.crossings ≡ risen_by (links (device_count e.before.loop) e.log) e.before.crossings
  pub frames : BoxedBecome (TookFrames (device_count e.before.loop) e.log) e.before.loop e.after.loop
  pub guest : e.after.loop.guest ≡ e.before.loop.guest
  pub short : length e.log ≤ log_room e.before.records

-- ---- what the devices heard of the log

-- By these entries the device at that party, while it listened, heard some data bytes, those of whole entries alone, and it did hear
-- them; where the log broke off, at most one byte more, of any value.
pub record HearsLog (k : ℕ) (roles : List Roles) (log : List Entry) (whole : Bool) (party : ℕ) (d e : DeviceState) : Type 0 where
  pub more : List ℕ
  pub few : length more ≤ 1
  pub none : whole ≡ true → more ≡ []
  pub heard : HearsAll (heard_by k party roles log ++ more) d e

-- ---- the exchanges of the log

abbrev pub is_frame_fault : Reply → Bool
is_frame_fault reply.FaultFrame = true
is_frame_fault _ = false

-- of the loop or of the medium
abbrev pub is_fault : Reply → Bool
is_fault reply.FaultFrame = true
is_fault reply.FaultMedium = true
is_fault _ = false

-- `fault frame` comes where a planned hop was met, and nowhere else. Without one, `fault medium` comes where the medium failed
-- and the drive's status told it, and nowhere else: each status byte after a transfer of records is 0, or one is not.
abbrev pub HasReplyCause : Reply → List ℕ → ℕ → ℕ → List RecordUnit → Type 0
HasReplyCause reply.FaultFrame hops before now units = (hops ≢ []) × (before ≤ now)
HasReplyCause reply.FaultMedium hops before now units = (hops ≡ []) × Rose before now × (all_good units ≡ false)
HasReplyCause r hops before now units = (hops ≡ []) × (now ≡ before) × (all_good units ≡ true)

-- where the tape is told before, it is told after, and the two stand so
abbrev pub OnTapes : Option Tape → Option Tape → (Tape → Tape → Type 0) → Type 0
OnTapes None now P = Unit {0}
OnTapes (Some t) None P = ⊥
OnTapes (Some t) (Some u) P = P t u

-- one of the units that pass the test begins at record n and has by itself all these bytes
abbrev pub in_one : (RecordUnit → Bool) → List RecordUnit → ℕ → List ℕ → Bool
in_one test units n bytes = list_any (λ w. test w && ((w.first == n) && bytes_eq w.bytes bytes)) units

-- these bytes went out to the records from n on, by one unit, and no later one wrote over them
abbrev pub WentOut : List RecordUnit → ℕ → List ℕ → Type 0
WentOut units n bytes = (carries transfer_of is_out units n bytes ≡ true) × (in_one is_out units n bytes ≡ true)

-- the bytes of a store went out to its place, filled up to whole records
abbrev pub IsStoredAt : Place → List ℕ → List RecordUnit → Type 0
IsStoredAt (At slot start) bytes units = WentOut units start (filled bytes)
IsStoredAt _ bytes units = ⊥

-- the bytes of a file came in from its records, by one unit, where it has any
abbrev pub IsFetchedFrom : Option (List ℕ) → Option (List ℕ) → List RecordUnit → Type 0
IsFetchedFrom (Some slot) (Some bytes) units =
    (carries transfer_of is_in units (start_of slot) bytes ≡ true) × (((length_of slot == 0) || in_one is_in units (start_of slot) bytes) ≡ true)
IsFetchedFrom _ _ units = ⊥

-- the bytes of each of these files went out to its place
abbrev pub AreStored : List NewFile → List RecordUnit → Type 0
AreStored files units = All (λ f. WentOut units f.start (filled f.bytes)) files

-- with ok, the transfers of a store, a fetch or a get carry exactly the bytes of the file, and those of a batch the bytes of each file
-- that it leaves
abbrev pub IsCarried : Item → Reply → ℕ → Option Volume → List RecordUnit → Type 0
IsCarried (Asks (OfVolume (Store name kind implementation bytes))) reply.Ok n (Some v) units =
    IsStoredAt (fit_in n v (file_length bytes)) bytes units
IsCarried (Asks (OfVolume (Batch parts))) reply.Ok n (Some v) units = AreStored (files_left n parts v) units
IsCarried (Asks (OfVolume (Fetch name))) reply.Ok n (Some v) units =
    IsFetchedFrom (slot_named v.slots name) (get v.files name) units
IsCarried (Asks (Get name)) reply.Ok n (Some v) units =
    IsFetchedFrom (slot_named v.slots name) (get v.files name) units
IsCarried _ _ n volume units = Unit {0}

-- By one reading the log is a list of exchanges, all whole, or the last one broken off exactly where the reply is `fault
-- frame`: those that the command is to make, in their order. A command of the volume first clears the drive, where the store is
-- not sound. The transfers of records, none left open, made the tape before into the one after.
pub record Exchanged (plan : List Planned) (e : Event) : Type 0 where
  pub reading : Reading (ring_of e.before.loop) e.log
  pub ends : ends_as (not (is_frame_fault e.reply)) reading.pieces ≡ true
  pub course : keeps_course e.before.loop e.before.ready (course_of e.item e.before.loop) reading.pieces ≡ true
  pub begins : is_of_volume e.item ≡ true → begins_with (cleared_first e.before.loop e.before.ready e.before.sound) reading.pieces ≡ true
  pub outside : ends_within (ring_of e.before.loop) reading.pieces ≡ false
  pub cause : HasReplyCause e.reply (met (hops_of plan) e.before.crossings e.after.crossings) e.before.faults e.after.faults
      (units_of (ring_of e.before.loop) reading.pieces)
  pub effect : OnTapes e.before.tape e.after.tape (UnitsEffect (units_of (ring_of e.before.loop) reading.pieces))
  pub carried : IsCarried e.item e.reply e.before.records (volume_at e.before) (units_of (ring_of e.before.loop) reading.pieces)

-- ---- a lend

-- the entries of a lend, where it began
abbrev pub entries_lent : LoopState → Option Lending → List Entry
entries_lent z None = []
entries_lent z (Some lend) = lend_entries (device_count z) (addresses_asked z) lend

-- The host lends control of a loop like z by the last address, for so many frames. A second controller takes it, where one stands there.
-- The lend is whole, unless it is a fault. The drive answers each SST that asks it.
pub record IsLendOf (z : LoopState) (frames : ℕ) (reply : Reply) (lend : Lending) : Type 0 where
  pub is : is_lend (device_count z) (addresses_asked z) frames lend ≡ true
  pub own : reports_own (addresses_asked z) lend ≡ true
  pub address : lend_address lend ≡ device_count z
  pub whole : is_whole_lend lend ≡ not (is_frame_fault reply)
  pub taken : was_taken lend ≡ true → is_some z.guest ≡ true
  pub refused : came_back lend ≡ true → is_some z.guest ≡ false
  pub answered : answers_always (device_count z) (drive_at z) None (entries_lent z (Some lend)) ≡ true

-- The exchanges of the host before a lend are the addressing of a loop that was not ready, and break off at most where the lend did not
-- begin; where it began they met no planned hop. It is `fault frame` only where one was met; and where nobody takes control it is so
-- exactly there. The medium does not fail. In a lend that is whole the drive told its status first, which is 0 then, and 0 each further
-- time; all that came of it is these bytes.
pub record Lent (plan : List Planned) (frames : ℕ) (e : Event) : Type 0 where
  pub front : List Entry
  pub reading : Reading (ring_of e.before.loop) front
  pub addressed : keeps_to (addressed_first e.before.loop e.before.ready []) reading.pieces ≡ true
  pub lent : Option Lending
  pub ends : ends_as (is_some lent) reading.pieces ≡ true
  pub log : e.log ≡ front ++ entries_lent e.before.loop lent
  pub lends : IfSome lent (IsLendOf e.before.loop frames e.reply)
  pub begun : is_frame_fault e.reply ≡ false → is_some lent ≡ true
  pub cause : is_frame_fault e.reply ≡ true → met (hops_of plan) e.before.crossings e.after.crossings ≢ []
  pub untaken : e.before.loop.guest ≡ None → is_frame_fault e.reply ≡ false → met (hops_of plan) e.before.crossings e.after.crossings ≡ []
  pub unmet : is_some lent ≡ true → met (hops_of plan) e.before.crossings (risen_by (links (device_count e.before.loop) front) e.before.crossings) ≡ []
  pub faults : e.after.faults ≡ e.before.faults
  pub told : is_frame_fault e.reply ≡ false → ReportsStatus e.before.loop.status (reported_by (device_count e.before.loop) (drive_at e.before.loop) e.log) e.after.loop.status

-- ---- a step

-- the first frame is an IFC of the host, by which it takes control of the loop
abbrev pub takes_back_first : List Entry → Bool
takes_back_first [] = false
takes_back_first (e ∷ log) = is_taking_back e

-- A command that sends frames leaves a sound store sound, unless an exchange broke off; and a lend leaves none so.
abbrev pub leaves_sound : Item → Reply → Bool
leaves_sound (Asks (Lend frames)) r = false
leaves_sound item r = not (is_frame_fault r)

-- what an item did to the tape, the loop and its devices, and what its log tells of that, faults being planned at these crossings
pub record Acts (plan : List Planned) (e : Event) : Type 0 where
  pub replied : Replied e
  pub next : Next e.item e.reply e.before.loop e.after.loop
  pub travels : Travels e
  -- the log of a lend is a lend, in which nobody hears, and that of every other item is exchanges of the host
  pub heard : is_lending e.item ≡ false
      → BoxedBecome (HearsLog (device_count e.before.loop) (all_roles e.before.loop) e.log (not (is_frame_fault e.reply))) e.before.loop e.after.loop
  pub exchanged : is_lending e.item ≡ false → Exchanged plan e
  pub lent : (frames : ℕ) → e.item ≡ Asks (Lend frames) → Lent plan frames e
  -- each frame that was lost, and each byte that was altered, was so by a fault planned at a crossing of this log
  pub by_plan : All (IsByPlan plan e.before.crossings e.after.crossings) e.log
  -- after a command that sends frames the loop is ready, unless an exchange broke off
  pub ready : uses_frames e.item ≡ true → e.after.ready ≡ not (is_frame_fault e.reply)
  -- the host controls a loop that is ready, and takes control of another first
  pub controls : e.after.ready ≡ true → controller_after 0 e.log ≡ 0
  pub clears : uses_frames e.item ≡ true → e.before.ready ≡ false → takes_back_first e.log ≡ true
  -- After a command of the volume the store is sound, unless it replied a fault. Another command that sends frames leaves it as it
  -- was, unless an exchange broke off, or control was lent.
  pub sound : is_of_volume e.item ≡ true → e.after.sound ≡ not (is_fault e.reply)
  pub unsound : is_of_volume e.item ≡ false → uses_frames e.item ≡ true → e.after.sound ≡ (e.before.sound && leaves_sound e.item e.reply)
  -- an item that sends no frame has no log and leaves everything
  pub still : uses_frames e.item ≡ false → (e.log ≡ []) × (e.after ≡ e.before)

-- what became of the directory in memory, and what the log has where it was kept before
pub record KeepsDirectory (e : Event) : Type 0 where
  pub kept : IsKeptAfter e.item e.before.kept e.reply e.after.kept
  pub log : e.before.kept ≡ true → LogOfKept e.item e.reply e.before e.log

-- What a command of the volume leaves of a tape that contracts can see, and which records it writes.
pub record LeavesOnTape (e : Event) : Type 0 where
  -- after ok nothing is left to settle or to finish
  pub plain : is_of_volume e.item ≡ true → e.reply ≡ reply.Ok → (t u : Tape) → e.before.tape ≡ Some t → e.after.tape ≡ Some u
      → IsPlain e.before.records u
  -- A command that only reads, or is refused, settles the tape, and changes nothing else.
  pub same : only_settles e.reply e.item ≡ true → (t u : Tape) → e.before.tape ≡ Some t → e.after.tape ≡ Some u → IsKeptTape e.item t u
  -- Unless it first finishes a stopped packing, such a command writes nothing else, either.
  pub writes : only_settles e.reply e.item ≡ true → (t : Tape) → e.before.tape ≡ Some t → finishes_first e.item e.before.records (volume_of t) ≡ false
      → OnlySettling e.before.records (ring_of e.before.loop) e.log t
  -- Unless it first finishes a stopped packing, one that changes the volume writes what settling writes, then its files, and then one commit.
  pub commits : e.reply ≡ reply.Ok → only_reads e.item ≡ false → (t : Tape) → e.before.tape ≡ Some t → finishes_first e.item e.before.records (volume_of t) ≡ false
      → CommitsFor e.item e.before.records (ring_of e.before.loop) e.log t
  -- One that only reads changes nothing else if it faults, either: the tape still settles to the same, in all records except the gate.
  pub reads : only_reads e.item ≡ true → (t u : Tape) → e.before.tape ≡ Some t → e.after.tape ≡ Some u → finishes_first e.item e.before.records (volume_of t) ≡ false
      → SettlesAs (settled t) u
  -- One that changes the volume makes this of the tape, and leaves all else below the redo file.
  pub written : (t u : Tape) → e.before.tape ≡ Some t → e.after.tape ≡ Some u → IsWritten e.reply e.item e.before.records t u
  -- `pack` of a packed volume settles the tape, and writes nothing else.
  pub again : e.item ≡ Asks Pack → e.reply ≡ reply.Ok → (t u : Tape) → e.before.tape ≡ Some t → e.after.tape ≡ Some u → IsPackedOn e.before.records t
      → (u ≡ settled t) × OnlySettling e.before.records (ring_of e.before.loop) e.log t

-- what holds of each event
pub record IsStep (plan : List Planned) (e : Event) : Type 0 where
  pub acts : Acts plan e
  pub directory : KeepsDirectory e
  pub tape : LeavesOnTape e
