-- What a second controller does in its rounds with a frame that comes to it.
use Rattle.std.specs.Prelude.{ℕ, suc, ◌≡◌, ◌≤◌, Bool, true, false, nat_le, if◌then◌else◌, List, set, Option, Some, None}
use Rattle.il_frames.specs.declared.frame.Frame.{Frame}
use Rattle.il_frames.specs.Frames.{byte_of, is_data}
use Rattle.il_device.specs.Roles.{is_own}
use Rattle.il_device.specs.Takes.{eto}
use Rattle.il_guest.specs.declared.control.Command.{Command}
use Rattle.il_guest.specs.declared.control.Command.TheVariants as command
use Rattle.il_guest.specs.declared.control.Place.{Place}
use Rattle.il_guest.specs.declared.control.Place.TheVariants as place
use Rattle.il_guest.specs.declared.control.Control.{Control}
use Rattle.il_guest.specs.declared.control.Control.TheVariants as control
use Rattle.il_guest.specs.declared.guest.GuestOut.{GuestOut}
use Rattle.il_guest.specs.declared.guest.GuestOut.TheVariants.{Source, Relay, Stop}
use Rattle.il_frames.specs.NamedFrames.{unl, tad, unt, rfc, nrd, is_frame}
use Rattle.il_guest.specs.Frames.{nop, sst}

-- ---- what it sent

-- the frame of a command
abbrev pub command_frame : Command → Frame
command_frame command.Nop = nop
command_frame (command.Unl a) = unl
command_frame (command.Tad a) = tad a
command_frame (command.Unt a) = unt

-- the frame of its own that it sent last
abbrev pub sent_at : Place → Frame
sent_at (place.Command c) = command_frame c
sent_at (place.Ready c) = rfc
sent_at (place.Start a) = sst
sent_at (place.Held a d) = nrd
sent_at (place.Relayed a d) = nrd

-- what goes out as it comes to a place
abbrev pub out_at : Place → GuestOut
out_at (place.Relayed a d) = Relay d
out_at p = Source (sent_at p)

-- what goes out; while the host controls this is not asked
abbrev pub out_of : Control → GuestOut
out_of (control.Rounds p) = out_at p
out_of c = Stop

-- ---- where it stands then

-- the first address from this one on that is not the own one
abbrev pub passed_over : Option ℕ → ℕ → ℕ
passed_over own a = if is_own own a then suc a else a

-- an address is asked by UNL first; after the last one a new round begins
abbrev pub asking : ℕ → ℕ → Command
asking last a = if nat_le a last then command.Unl a else command.Nop

-- where it goes on after a command and its RFC
abbrev pub command_then : Option ℕ → ℕ → Command → Place
command_then own last command.Nop = place.Command (asking last (passed_over own 1))
command_then own last (command.Unl a) = place.Command (command.Tad a)
command_then own last (command.Tad a) = place.Start a
command_then own last (command.Unt a) = place.Command (asking last (passed_over own (suc a)))

-- the frame is the one that it waits for, or else it falls silent
abbrev pub expecting : Bool → Place → Control
expecting true p = control.Rounds p
expecting false p = control.Silent

-- an answer to SST is held
abbrev pub start_then : ℕ → Frame → Bool → Control
start_then a f true = control.Rounds (place.Held a f)
start_then a f false = expecting (is_frame f sst) (place.Command (command.Unt a))

-- where it stands after the frame came
abbrev pub control_after : Option ℕ → ℕ → Place → Frame → Control
control_after own last (place.Command c) f = expecting (is_frame f (command_frame c)) (place.Ready c)
control_after own last (place.Ready c) f = expecting (is_frame f rfc) (command_then own last c)
control_after own last (place.Start a) f = start_then a f (is_data f)
control_after own last (place.Held a d) f = expecting (is_frame f nrd) (place.Relayed a d)
control_after own last (place.Relayed a d) f = expecting (is_frame f eto) (place.Command (command.Unt a))

-- ---- what it was told

-- what the frame tells of an address: no status where SST came back, and the byte held at ETO
abbrev pub told_at : Place → Frame → Option (ℕ × Option ℕ)
told_at (place.Start a) f = if is_frame f sst then Some (a, None) else None
told_at (place.Relayed a d) f = if is_frame f eto then Some (a, Some (byte_of d)) else None
told_at p f = None

-- the statuses by address after this was told
abbrev pub noted : Option (ℕ × Option ℕ) → List (Option ℕ) → List (Option ℕ)
noted None found = found
noted (Some told) found = set found told.0 told.1

-- the address that was told of
abbrev pub IsNoted : Option (ℕ × Option ℕ) → Type 0
IsNoted None = Unit {0}
IsNoted (Some told) = told.0 ≤ 30

-- ---- ranges

-- an address is a number from 1 to 30
abbrev pub IsNumber : ℕ → Type 0
IsNumber a = (1 ≤ a) × (a ≤ 30)

-- the address of a command
abbrev pub IsAsked : Command → Type 0
IsAsked command.Nop = Unit {0}
IsAsked (command.Unl a) = IsNumber a
IsAsked (command.Tad a) = IsNumber a
IsAsked (command.Unt a) = IsNumber a

-- the address of a place; what is held is a data or end frame
abbrev pub IsRoundPlace : Place → Type 0
IsRoundPlace (place.Command c) = IsAsked c
IsRoundPlace (place.Ready c) = IsAsked c
IsRoundPlace (place.Start a) = IsNumber a
IsRoundPlace (place.Held a d) = IsNumber a × (is_data d ≡ true)
IsRoundPlace (place.Relayed a d) = IsNumber a × (is_data d ≡ true)

-- what holds of the control at every moment
abbrev pub IsControl : Control → Type 0
IsControl control.Host = Unit {0}
IsControl (control.Rounds p) = IsRoundPlace p
IsControl control.Silent = Unit {0}
