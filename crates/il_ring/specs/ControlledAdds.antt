-- What a pass on a lent ring adds, in the words of the entries: links, frames that came to each device, roles, and who sent the commands.
use Rattle.std.specs.Prelude.{◌≡◌, ◌+◌, ◌++◌, ℕ, true, ◌-◌, ◌<◌, List, [], ◌∷◌, length, take, false, Some, sum_by, count_by}
use Rattle.il_frames.specs.declared.entry.Entry.{Entry}
use Rattle.il_device.specs.declared.roles.Roles.{Roles}
use Rattle.il_device.specs.State.{DeviceState, risen_by}
use Rattle.loop_model.specs.Leading.{are_commands_led, controller_after, roles_led}
use Rattle.loop_model.specs.Reach.{brings_to, links_of}
use Rattle.il_ring.specs.Books.{BooksView}
use Rattle.il_ring.specs.Lending.{entry_of_kept}
use Rattle.il_ring.specs.declared.flight.Flight.{Flight}
use Rattle.il_ring.specs.Rings.{RingView, devices_of, roles_of}
use Rattle.il_ring.specs.Rounded.{IsAwaited, IsReady}
use Rattle.il_ring.specs.Turned.{turned_flight}
use Rattle.il_frames.specs.declared.frame.Frame.{Frame}
use Rattle.il_frames.specs.Messages.{message_of}
use Rattle.il_ring.specs.Guests.{last_asked}
use Rattle.il_ring.specs.Lists.{Each, First}
use Rattle.il_ring.specs.Outcomes.{AllKeep, IsDeaf}
use Rattle.il_ring.specs.Polls.{KeepsPlace, is_listen_address, is_poll}

-- the frames that are on their way on a lent ring, as they would end if the host took control back: the one that party k keeps, and
-- the one that is at the host
abbrev pub standing : ℕ → BooksView → List Entry
standing k b = entry_of_kept k b.kept ++ entry_of_kept 0 b.lent

-- the devices before the last
abbrev pub others_of : {M : Type 0} → RingView M → List DeviceState
others_of r = take (length (devices_of r) - 1) (devices_of r)

-- This frame is at the host of a lent ring, as its second controller sees it. It is that one's own or is awaited by its source, and so
-- is what is kept.
pub record IsUnderWay {M : Type 0} (r : RingView M) (f : Flight) : Type 0 where
  pub stands : r.books.lent ≡ Some (turned_flight (length (devices_of r)) f)
  pub within : f.source < length (devices_of r)
  pub ready : IsReady f (others_of r)
  pub kept : (h : Flight) → r.books.kept ≡ Some h → IsAwaited 0 h (others_of r)

-- The device at party q took this many frames more: those of the entries after, with which those before were counted already.
abbrev pub TookSince : ℕ → List Entry → List Entry → ℕ → DeviceState → DeviceState → Type 0
TookSince k before after q d e = (c : ℕ) × (e.frames ≡ risen_by c d.frames) × (c + count_by (brings_to k q) before ≡ count_by (brings_to k q) after)

-- the same of each, the first of which is party j + 1
abbrev pub AllTookSince : ℕ → List Entry → List Entry → ℕ → List DeviceState → List DeviceState → Type 0
AllTookSince k before after j [] [] = Unit {0}
AllTookSince k before after j (d ∷ ds) (e ∷ es) = TookSince k before after (j + 1) d e × AllTookSince k before after (j + 1) ds es
AllTookSince k before after j [] (e ∷ es) = ⊥
AllTookSince k before after j (d ∷ ds) [] = ⊥

-- The log grew by these entries. With what is on the ring then they count for the links that were crossed, and for the frames that
-- came to each device; what stood before was counted then.
pub record ControlledCounts {M : Type 0} (r s : RingView M) : Type 0 where
  pub entries : List Entry
  pub log : s.books.log ≡ r.books.log ++ entries
  pub size : length (devices_of s) ≡ length (devices_of r)
  pub links : ℕ
  pub crossings : s.books.crossings ≡ risen_by links r.books.crossings
  pub linked :
      links + sum_by (links_of (length (devices_of r))) (standing (length (devices_of r)) r.books)
      ≡ sum_by (links_of (length (devices_of r))) (entries ++ standing (length (devices_of r)) s.books)
  pub frames :
      AllTookSince (length (devices_of r)) (standing (length (devices_of r)) r.books)
      (entries ++ standing (length (devices_of r)) s.books) 0 (devices_of r) (devices_of s)

-- So it is with the roles too, of whichever these were before what stood. Each command, ready and identify frame of the entries is the
-- second controller's.
pub record ControlledAdds {M : Type 0} (r s : RingView M) : Type 0 where
  pub counts : ControlledCounts r s
  pub commands : are_commands_led (length (devices_of r)) counts.entries ≡ true
  pub roles :
      (before : List Roles) → roles_of (devices_of r) ≡ roles_led (length (devices_of r)) before (standing (length (devices_of r)) r.books)
      → roles_of (devices_of s) ≡ roles_led (length (devices_of r)) before (counts.entries ++ standing (length (devices_of r)) s.books)

-- What a round keeps on a ring with a second controller, in which this frame goes round: the plan and the room of the log, which device is
-- which, and the addresses that are asked. Nobody hears anything that does not listen, and a frame that is no listen address has nobody
-- listen; one that is no poll message leaves the places in the poll.
pub record ControlledKeeps {M : Type 0} (f : Frame) (r s : RingView M) : Type 0 where
  pub plan : s.books.plan ≡ r.books.plan
  pub begun : s.books.begun ≡ r.books.begun
  pub room : s.books.room ≡ r.books.room
  pub before : length s.before ≡ length r.before
  pub last : last_asked s.guest ≡ last_asked r.guest
  pub kept : AllKeep (devices_of r) (devices_of s)
  pub deaf : is_listen_address (message_of f) ≡ false → Each IsDeaf 1 (devices_of r) → Each IsDeaf 1 (devices_of s)
  pub places : is_poll (message_of f) ≡ false → First KeepsPlace (length (devices_of r)) (devices_of r) (devices_of s)

-- What was added since the ring was q, under the controller c and then d, when it is r: these entries, which with what is on the ring
-- count for the links that were crossed, for the frames that came to each device, and for the roles; what stood at first was counted then.
pub record ControlledSince {M : Type 0} (c d : ℕ) (q r : RingView M) (entries : List Entry) : Type 0 where
  pub log : r.books.log ≡ q.books.log ++ entries
  pub size : length (devices_of r) ≡ length (devices_of q)
  pub controls : controller_after c entries ≡ d
  pub links : ℕ
  pub crossings : r.books.crossings ≡ risen_by links q.books.crossings
  pub linked :
      links + sum_by (links_of (length (devices_of q))) (standing (length (devices_of q)) q.books)
      ≡ sum_by (links_of (length (devices_of q))) (entries ++ standing (length (devices_of q)) r.books)
  pub frames :
      AllTookSince (length (devices_of q)) (standing (length (devices_of q)) q.books)
      (entries ++ standing (length (devices_of q)) r.books) 0 (devices_of q) (devices_of r)
  pub roles :
      (before : List Roles) → roles_of (devices_of q) ≡ roles_led c before (standing (length (devices_of q)) q.books)
      → roles_of (devices_of r) ≡ roles_led c before (entries ++ standing (length (devices_of q)) r.books)
