-- A second controller over many frames, none of which is an IFC.
use Rattle.std.specs.Prelude.{◌≡◌, ℕ, Bool, not, List, [], ◌∷◌, Option, None}
use Rattle.il_frames.specs.declared.frame.Frame.{Frame}
use Rattle.il_frames.specs.Messages.{message_of}
use Rattle.il_guest.specs.declared.control.Command.TheVariants as command
use Rattle.il_guest.specs.declared.control.Place.TheVariants as place
use Rattle.il_guest.specs.declared.control.Control.{Control}
use Rattle.il_guest.specs.declared.control.Control.TheVariants as control
use Rattle.il_guest.specs.declared.guest.GuestOut.{GuestOut}
use Rattle.il_guest.specs.Rounds.{Move}
use Rattle.il_guest.specs.Steps.{out_of, control_after, told_at, noted}
use Rattle.il_guest.specs.State.{GuestState}
use Rattle.il_frames.specs.NamedFrames.{is_ifc}
use Rattle.il_guest.specs.Takes.{GuestTakes}

-- where it begins: it has sent its first frame
abbrev pub first_control : Control
first_control = control.Rounds (place.Command command.Nop)

-- where it stands after a frame
abbrev pub control_next : Option ℕ → ℕ → Control → Frame → Control
control_next own last (control.Rounds p) f = control_after own last p f
control_next own last c f = c

-- where it stands after frames
abbrev pub control_after_all : Option ℕ → ℕ → Control → List Frame → Control
control_after_all own last c [] = c
control_after_all own last c (f ∷ fs) = control_after_all own last (control_next own last c f) fs

-- what a frame tells of an address
abbrev pub told_by_control : Control → Frame → Option (ℕ × Option ℕ)
told_by_control (control.Rounds p) f = told_at p f
told_by_control c f = None

-- the statuses by address after frames
abbrev pub found_after_all : Option ℕ → ℕ → Control → List Frame → List (Option ℕ) → List (Option ℕ)
found_after_all own last c [] found = found
found_after_all own last c (f ∷ fs) found =
    found_after_all own last (control_next own last c f) fs (noted (told_by_control c f) found)

-- its moves as these frames come: what it had sent before each
abbrev pub moves : Option ℕ → ℕ → Control → List Frame → List Move
moves own last c [] = []
moves own last c (f ∷ fs) = record { sends = out_of c; comes = f } ∷ moves own last (control_next own last c f) fs

-- from the state s it takes these frames one after the other, answers so, and is then in the state t
abbrev pub Runs : GuestState → List Frame → List GuestOut → GuestState → Type 0
Runs s [] [] t = t ≡ s
Runs s (f ∷ fs) (out ∷ outs) t = (u : GuestState) × GuestTakes s f out u × Runs u fs outs t
Runs s fs outs t = ⊥

-- the frame is no IFC
abbrev pub is_no_ifc : Frame → Bool
is_no_ifc f = not (is_ifc (message_of f))
