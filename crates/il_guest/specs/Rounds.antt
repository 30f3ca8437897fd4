-- The rounds of a second controller that polls, as lists of the frames that it sends and of those that
-- then come to it. Which rounds it makes is this project's own; the frames of each part and their order
-- follow the HP-IL Interface Specification, HP 82166-90017.
use Rattle.std.specs.Prelude.{ℕ, zero, suc, Bool, true, if◌then◌else◌, List, [], ◌∷◌, ◌++◌, set, Option, Some, None}
use Rattle.il_frames.specs.declared.frame.Frame.{Frame}
use Rattle.il_frames.specs.Frames.{byte_of, is_data}
use Rattle.il_device.specs.Roles.{is_own}
use Rattle.il_device.specs.Takes.{eto}
use Rattle.il_guest.specs.declared.guest.GuestOut.{GuestOut}
use Rattle.il_guest.specs.declared.guest.GuestOut.TheVariants.{Source, Relay}
use Rattle.il_frames.specs.NamedFrames.{unl, tad, unt, rfc, nrd}
use Rattle.il_guest.specs.Frames.{nop, sst}

-- a frame that goes out, and the one that then comes
pub record Move : Type 0 where
  pub sends : GuestOut
  pub comes : Frame

-- a frame of the controller that comes back as it was
abbrev pub own_returned : Frame → Move
own_returned f = record { sends = Source f; comes = f }

-- a command, and the handshake after it
abbrev pub command_moves : Frame → List Move
command_moves f = own_returned f ∷ own_returned rfc ∷ []

-- SST, which comes back; or a data frame comes, which is held until NRD has stopped its talker, and ETO
-- comes after it has gone on
abbrev pub asked : Option Frame → List Move
asked None = own_returned sst ∷ []
asked (Some d) =
    record { sends = Source sst; comes = d }
    ∷ own_returned nrd
    ∷ record { sends = Relay d; comes = eto }
    ∷ []

-- an address is asked for its status
abbrev pub poll_moves : ℕ → Option Frame → List Move
poll_moves a answer = command_moves unl ++ (command_moves (tad a) ++ (asked answer ++ command_moves unt))

-- so many addresses from this one on, but the own one
abbrev pub addresses_from : Option ℕ → ℕ → ℕ → List ℕ
addresses_from own a zero = []
addresses_from own a (suc more) =
    if is_own own a then addresses_from own (suc a) more else a ∷ addresses_from own (suc a) more

-- the addresses up to the last one, but the own one
abbrev pub addresses : Option ℕ → ℕ → List ℕ
addresses own last = addresses_from own 1 last

-- the first answer; where none is given there is none
abbrev pub first_of : List (Option Frame) → Option Frame
first_of [] = None
first_of (answer ∷ answers) = answer

-- the answers after the first
abbrev pub after_first : List (Option Frame) → List (Option Frame)
after_first [] = []
after_first (answer ∷ answers) = answers

-- the addresses are asked in turn; their answers stand in the same order
abbrev pub all_polled : List ℕ → List (Option Frame) → List Move
all_polled [] answers = []
all_polled (a ∷ more) answers = poll_moves a (first_of answers) ++ all_polled more (after_first answers)

-- a round, in which the addresses answer so
abbrev pub round : Option ℕ → ℕ → List (Option Frame) → List Move
round own last answers = command_moves nop ++ all_polled (addresses own last) answers

-- the rounds, one after the other
abbrev pub rounds : Option ℕ → ℕ → List (List (Option Frame)) → List Move
rounds own last [] = []
rounds own last (answers ∷ more) = round own last answers ++ rounds own last more

-- an answer is a data or end frame
abbrev pub is_status_answer : Option Frame → Bool
is_status_answer None = true
is_status_answer (Some d) = is_data d

-- the status byte of an answer
abbrev pub status_told : Option Frame → Option ℕ
status_told None = None
status_told (Some d) = Some (byte_of d)

-- the statuses by address after these were asked in turn
abbrev pub all_told : List ℕ → List (Option Frame) → List (Option ℕ) → List (Option ℕ)
all_told [] answers found = found
all_told (a ∷ more) answers found = all_told more (after_first answers) (set found a (status_told (first_of answers)))

-- the same after rounds
abbrev pub rounds_told : Option ℕ → ℕ → List (List (Option Frame)) → List (Option ℕ) → List (Option ℕ)
rounds_told own last [] found = found
rounds_told own last (answers ∷ more) found = rounds_told own last more (all_told (addresses own last) answers found)
