-- What a run leaves, by how it ends.
use Rattle.std.specs.Prelude.{◌≡◌, ◌⊎◌, ◌≤◌, ◌<◌, ℕ, true, false, List, [], ◌∷◌, ◌++◌, length, take, map, Option, Some, None, is_some}
use Rattle.std.specs.Io.KnownBytes.{Appends, IsAtEnd}
use Rattle.lif_model.specs.Shelf.{Shelf, OthersStay, bytes_of, image_of, largest_image}
use Rattle.lif_model.specs.Tape.{Tape}
use Rattle.lif_model.specs.Finished.{IsPlain}
use Rattle.il_ports.specs.Writing.{WritesFront}
use Rattle.il_script.specs.declared.limits.TheConstants.{LONGEST_SCRIPT}
use Rattle.il_script.specs.LineCut.{line_cut, line_told}
use Rattle.il_ring.specs.declared.plan.Planned.{Planned}
use Rattle.host_model.specs.Requests.{Item, items_in, items_of}
use Rattle.host_model.specs.Generated.{items_generated}
use Rattle.host_model.specs.HostStates.{HostState}
use Rattle.host_model.specs.Steps.{Event}
use Rattle.host_model.specs.Stops.{LeavesWithin}
use Rattle.host_model.specs.Runs.{AreTextsOf, Chained, items_asked, all_ok, OutputMode, Summary, event_text, summary, output, ended_ok}
use Rattle.host_model.specs.Histories.{RunTells}
use Rattle.host_model.specs.Endings.{RunEnd, AllOk, SomeNotOk, BadWords, NoImage, ImageTooLarge, SourceFailed, SinkFailed, OutOfMemory, ScriptTooLong, InsertFailed}
use Rattle.host_model.specs.Orders.{Order, Outside, Opens, Inserts, HandsBack, mode_of}

-- ---- which items were answered

-- the items of the complete lines of what was taken of the script
pub record AsksTaken (script : List ℕ) (left : Option (List ℕ)) (items : List Item) : Type 0 where
  pub taken : List ℕ
  pub rest : List ℕ
  pub known : left ≡ Some rest
  pub whole : script ≡ taken ++ rest
  pub are : items ≡ items_in (map line_told (line_cut taken).whole)

-- the first items of the script
pub record AsksFirst (script : List ℕ) (items : List Item) : Type 0 where
  pub more : List Item
  pub are : items_of script ≡ items ++ more

-- By the ending: all items, at the end of the script; those of the complete lines before a read that failed, or before the
-- first byte that is too much; or the first ones, where nothing more could be written.
abbrev pub AsksScript : RunEnd → List ℕ → Option (List ℕ) → List Item → Type 0
AsksScript AllOk script left items = (items ≡ items_of script) × IsAtEnd left × (length script ≤ LONGEST_SCRIPT)
AsksScript SomeNotOk script left items = (items ≡ items_of script) × IsAtEnd left × (length script ≤ LONGEST_SCRIPT)
AsksScript SourceFailed script left items = AsksTaken script left items
AsksScript SinkFailed script left items = AsksFirst script items
AsksScript ScriptTooLong script left items =
    (LONGEST_SCRIPT < length script) × (items ≡ items_in (map line_told (line_cut (take LONGEST_SCRIPT script)).whole))
AsksScript _ script left items = ⊥

-- a generated script is answered whole, and the source is not read
abbrev pub AsksGenerated : RunEnd → ℕ × ℕ → List Item → Type 0
AsksGenerated AllOk script items = items ≡ items_generated script.0 script.1
AsksGenerated SomeNotOk script items = items ≡ items_generated script.0 script.1
AsksGenerated SinkFailed script items = items ≡ items_generated script.0 script.1
AsksGenerated _ script items = ⊥

abbrev pub AsksAs : Option (ℕ × ℕ) → RunEnd → Option (List ℕ) → Option (List ℕ) → List Item → Type 0
AsksAs None end before left items = (script : List ℕ) → before ≡ Some script → AsksScript end script left items
AsksAs (Some script) end before left items = AsksGenerated end script items × (left ≡ before)

-- ---- what was written

-- the text of all events but the last, and of the last a front
pub record WritesToLast (mode : OutputMode) (events : List Event) (texts : List (List ℕ)) (before now : Option (List ℕ)) : Type 0 where
  pub done : List Event
  pub last : Event
  pub are : events ≡ done ++ last ∷ []
  pub said : List (List ℕ)
  pub text : List ℕ
  pub texts_are : texts ≡ said ++ text ∷ []
  pub size : ℕ
  pub front : size ≤ length (event_text mode last text)
  pub written : Appends before now (output mode done said ++ take size (event_text mode last text))

-- where the sink failed
abbrev pub WritesPart : OutputMode → List Event → List (List ℕ) → Option (List ℕ) → Option (List ℕ) → Type 0
WritesPart Summary events texts before now = WritesFront before now (summary events)
WritesPart mode events texts before now = WritesToLast mode events texts before now

abbrev pub WritesAs : RunEnd → OutputMode → List Event → List (List ℕ) → Option (List ℕ) → Option (List ℕ) → Type 0
WritesAs SinkFailed mode events texts before now = WritesPart mode events texts before now
WritesAs _ mode events texts before now = Appends before now (output mode events texts)

-- ---- the shelf

-- On the shelf the image has the tape's bytes, and every other one is as before.
pub record HasImage (name : List ℕ) (tape : Option Tape) (before : Shelf) (now : Option Shelf) : Type 0 where
  pub shelf : Shelf
  pub shelf_is : now ≡ Some shelf
  pub image : (t : Tape) → tape ≡ Some t → image_of name shelf ≡ Some (bytes_of t)
  pub others : OthersStay name before shelf

-- where the shelf is told
abbrev pub KeepsShelf : Order → Outside → Outside → Type 0
KeepsShelf order old now = (shelf : Shelf) → old.shelf ≡ Some shelf → HasImage order.image now.tape shelf now.shelf

-- ---- a run over a script

-- whether all replies are ok decides between two endings
abbrev pub IsOkAs : RunEnd → List Event → Type 0
IsOkAs AllOk events = all_ok events ≡ true
IsOkAs SomeNotOk events = all_ok events ≡ false
IsOkAs _ events = Unit {0}

-- The run so far. One list of events from `start` to `finish` meets all that is said of it: each is a step under the plan, and begins
-- where the one before it ends; the items are those of the script, or of the one that is generated; whether all are ok is as the
-- ending says; and their logs and texts were written.
pub record RunSoFar (plan : List Planned) (generated : Option (ℕ × ℕ)) (mode : OutputMode) (end : RunEnd) (start finish : HostState)
    (left left_now written written_now : Option (List ℕ)) : Type 0 where
  pub events : List Event
  pub chain : Chained plan start events finish
  pub asks : AsksAs generated end left left_now (items_asked events)
  pub ok : IsOkAs end events
  pub texts : List (List ℕ)
  pub texts_are : AreTextsOf events texts
  pub writes : WritesAs end mode events texts written written_now

-- The events of one run go on from the opened host; together they tell what a run tells; the tape and the devices handed back are those
-- after the last one; each tape that a stop since the run began may have left, `stopped`, is one of theirs; and of the shelf no
-- other image changed.
pub record RunsOver (end : RunEnd) (order : Order) (old now : Outside) (stopped : Tape → Type 0) : Type 0 where
  pub start : HostState
  pub finish : HostState
  pub opens : Opens order old start
  pub ran : RunSoFar order.plan order.generated (mode_of order) end start finish old.left now.left old.written now.written
  pub tells : RunTells order.plan start ran.events finish
  pub back : HandsBack order finish old now
  -- if the last command of the volume replied ok, nothing is left to settle or to finish
  pub plain : ended_ok false ran.events ≡ true → (t : Tape) → finish.tape ≡ Some t → IsPlain finish.records t
  pub stops : LeavesWithin start ran.events finish stopped
  pub shelf : KeepsShelf order old now

-- ---- endings before the first item

-- the shelf has no such image, and none is to be made
pub record HasNoImage (order : Order) (old : Outside) : Type 0 where
  pub missing : (shelf : Shelf) → old.shelf ≡ Some shelf → image_of order.image shelf ≡ None
  pub kept : order.made ≡ None

-- the image has more bytes than a medium
pub record HasLargeImage (order : Order) (old : Outside) : Type 0 where
  pub found : (shelf : Shelf) → old.shelf ≡ Some shelf → (image : List ℕ) × (image_of order.image shelf ≡ Some image) × (largest_image < length image)

-- the script is as it was, nothing was written, and the devices are as they were
pub record IsUntouched (old now : Outside) : Type 0 where
  pub left : now.left ≡ old.left
  pub written : now.written ≡ old.written
  pub before : now.before ≡ old.before
  pub after : now.after ≡ old.after
  pub guest : now.guest ≡ old.guest

-- and no tape is in, and the shelf is as it was
pub record IsEmpty (old now : Outside) : Type 0 where
  pub untouched : IsUntouched old now
  pub tape : now.tape ≡ None
  pub shelf : now.shelf ≡ old.shelf

-- the image went into the drive, and a stop leaves it as it is there
pub record LeavesImage (order : Order) (old now : Outside) (stopped : Tape → Type 0) : Type 0 where
  pub untouched : IsUntouched old now
  pub inserts : Inserts order old now.tape
  pub shelf : KeepsShelf order old now
  pub stops : is_some now.tape ≡ true → (x : Tape) → stopped x → now.tape ≡ Some x

-- the words ask for something, and that is so
abbrev pub IsOrder : Option Order → (Order → Type 0) → Type 0
IsOrder None P = ⊥
IsOrder (Some order) P = P order

-- There was no memory: for the words, and then no tape is in; or for the host, after the insert.
abbrev pub LeavesUnopened : Option Order → Outside → Outside → (Tape → Type 0) → Type 0
LeavesUnopened asked old now stopped = (IsEmpty old now × (now.faults ≡ old.faults)) ⊎ IsOrder asked (λ order. LeavesImage order old now stopped)

-- ---- every ending

-- by what the words ask for
abbrev pub LeavesBy : RunEnd → Option Order → Outside → Outside → (Tape → Type 0) → Type 0
LeavesBy BadWords None old now stopped = IsEmpty old now × (now.faults ≡ old.faults)
LeavesBy OutOfMemory asked old now stopped = LeavesUnopened asked old now stopped
LeavesBy _ None old now stopped = ⊥
LeavesBy BadWords (Some order) old now stopped = ⊥
LeavesBy NoImage (Some order) old now stopped = IsEmpty old now × HasNoImage order old
LeavesBy ImageTooLarge (Some order) old now stopped = IsEmpty old now × HasLargeImage order old
LeavesBy InsertFailed (Some order) old now stopped = IsEmpty old now
LeavesBy end (Some order) old now stopped = RunsOver end order old now stopped
