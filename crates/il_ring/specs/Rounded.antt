-- What a round did to the counts, in the words of the entries that it appended.
use Rattle.std.specs.Prelude.{◌≡◌, ◌⊎◌, ◌<◌, ◌+◌, ◌++◌, ◌==◌, ℕ, zero, suc, true, if◌then◌else◌, List, [], ◌∷◌, length, Option, Some, None, option_map}
use Rattle.il_frames.specs.declared.entry.Entry.{Entry}
use Rattle.il_frames.specs.Frames.{is_data}
use Rattle.il_device.specs.declared.interface.OwnFrame.{OwnFrame}
use Rattle.il_device.specs.State.{DeviceState, risen_by}
use Rattle.loop_model.specs.Reach.{held_links, held_passes, links_so_far, passes_so_far}
use Rattle.il_ring.specs.declared.flight.Flight.{Flight}
use Rattle.il_ring.specs.declared.plan.Arrival.{Arrival}
use Rattle.il_ring.specs.declared.plan.Arrival.TheVariants as arrival
use Rattle.il_ring.specs.Rings.{RingView, devices_of}

-- the party that sent it
abbrev pub party_of : Flight → ℕ
party_of f = f.source

-- the device whose frame goes round, if it is one's
abbrev pub device_sending : Flight → Option ℕ
device_sending f = if f.source == 0 then None else Some f.source

-- the device whose frame is held
abbrev pub holding : Option Flight → Option ℕ
holding held = option_map party_of held

-- the device at party q took this many frames more: with those that a frame of this device had brought before, those that the
-- entries brought, and with them those of a frame that is held
abbrev pub Took : ℕ → Option ℕ → List Entry → Option ℕ → ℕ → DeviceState → DeviceState → Type 0
Took k sending entries held q d e = (c : ℕ) × (e.frames ≡ risen_by c d.frames) × (c + held_passes q sending ≡ passes_so_far k q entries held)

-- the same of each, the first of which is party j + 1
abbrev pub AllTook : ℕ → Option ℕ → List Entry → Option ℕ → ℕ → List DeviceState → List DeviceState → Type 0
AllTook k sending entries held j [] [] = Unit {0}
AllTook k sending entries held j (d ∷ ds) (e ∷ es) = Took k sending entries held (j + 1) d e × AllTook k sending entries held (j + 1) ds es
AllTook k sending entries held j [] (e ∷ es) = ⊥
AllTook k sending entries held j (d ∷ ds) [] = ⊥

-- ---- which frames may go round

-- the own frame of the device at this place
abbrev pub own_at : ℕ → List DeviceState → Option OwnFrame
own_at i [] = None
own_at zero (d ∷ ds) = d.own
own_at (suc i) (d ∷ ds) = own_at i ds

-- the frame is a data frame of one of the devices after party j, which has an own frame on the loop
pub record IsAwaited (j : ℕ) (f : Flight) (ds : List DeviceState) : Type 0 where
  pub place : ℕ
  pub there : f.source ≡ j + 1 + place
  pub within : place < length ds
  pub data_frame : is_data f.now ≡ true
  pub own : OwnFrame
  pub waits : own_at place ds ≡ Some own

-- the frame that goes round is the host's, or it is awaited by its source
abbrev pub IsReady : Flight → List DeviceState → Type 0
IsReady f devices = (f.source ≡ 0) ⊎ IsAwaited 0 f devices

-- ---- the counts

-- The ring r became s as the frame f went round, with `held` at the host meanwhile: the entries; how many links were
-- crossed; which frame is held for it then; and how many frames came to each device.
pub record Rounded {M : Type 0} (r : RingView M) (held : Option Flight) (f : Flight) (answer : Arrival) (s : RingView M) : Type 0 where
  pub entries : List Entry
  pub log : s.books.log ≡ r.books.log ++ entries
  pub links : ℕ
  pub crossings : s.books.crossings ≡ risen_by links r.books.crossings
  pub new : Option Flight
  pub new_is : (g : Flight) → new ≡ Some g → (answer ≡ arrival.Frame g.now) × (is_data g.now ≡ true)
  pub held_is : (s.books.held ≡ new) ⊎ ((new ≡ None) × (s.books.held ≡ held))
  pub linked : links + held_links (length (devices_of r)) (device_sending f) ≡ links_so_far (length (devices_of r)) entries (holding new)
  pub frames : AllTook (length (devices_of r)) (device_sending f) entries (holding new) 0 (devices_of r) (devices_of s)
