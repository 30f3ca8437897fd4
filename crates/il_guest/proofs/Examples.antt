-- Worked examples of the rounds: those of a second controller with address 3 that asks the addresses up to 2.
use Rattle.std.proofs.Common.{◌≡◌, ◌++◌, true, List, [], ◌∷◌, map, Option, Some, None, refl}
use Rattle.std.specs.List.{list_all}
use Rattle.il_frames.specs.declared.frame.Class.TheVariants as class
use Rattle.il_frames.specs.declared.frame.Frame.{Frame}
use Rattle.il_frames.specs.Frames.{framed}
use Rattle.il_device.specs.Takes.{eto, ete}
use Rattle.il_guest.specs.declared.control.Place.TheVariants as place
use Rattle.il_guest.specs.declared.control.Control.TheVariants as control
use Rattle.il_guest.specs.declared.guest.GuestOut.TheVariants.{Source, Relay}
use Rattle.il_frames.specs.NamedFrames.{unl, tad, unt, rfc, nrd}
use Rattle.il_guest.specs.Frames.{nop, sst}
use Rattle.il_guest.specs.Rounds.{addresses, round, all_told, is_status_answer}
use Rattle.il_guest.specs.State.{none_found}
use Rattle.il_guest.specs.Courses.{first_control, control_after_all, found_after_all}

-- address 1 tells the status 0, and address 2 none
abbrev told : List (Option Frame)
told = Some (framed class.Dab 0) ∷ []

all_answers : list_all is_status_answer told ≡ true
all_answers = refl

-- a round, frame by frame
sends : map (λ m. m.sends) (round (Some 3) 2 told)
    ≡ Source nop ∷ Source rfc
    ∷ Source unl ∷ Source rfc ∷ Source (tad 1) ∷ Source rfc ∷ Source sst ∷ Source nrd ∷ Relay (framed class.Dab 0) ∷ Source unt ∷ Source rfc
    ∷ Source unl ∷ Source rfc ∷ Source (tad 2) ∷ Source rfc ∷ Source sst ∷ Source unt ∷ Source rfc ∷ []
sends = refl

comes : map (λ m. m.comes) (round (Some 3) 2 told)
    ≡ nop ∷ rfc ∷ unl ∷ rfc ∷ tad 1 ∷ rfc ∷ framed class.Dab 0 ∷ nrd ∷ eto ∷ unt ∷ rfc ∷ unl ∷ rfc ∷ tad 2 ∷ rfc ∷ sst ∷ unt ∷ rfc ∷ []
comes = refl

-- its own address is not asked
own_left_out : addresses (Some 2) 4 ≡ 1 ∷ 3 ∷ 4 ∷ []
own_left_out = refl

own_alone : round (Some 1) 1 [] ≡ round (Some 1) 1 told
own_alone = refl

-- what the addresses told
found : all_told (addresses (Some 3) 2) told none_found
    ≡ None ∷ Some 0 ∷ None ∷ None ∷ None ∷ None ∷ None ∷ None ∷ None ∷ None ∷ None ∷ None ∷ None ∷ None ∷ None ∷ None
    ∷ None ∷ None ∷ None ∷ None ∷ None ∷ None ∷ None ∷ None ∷ None ∷ None ∷ None ∷ None ∷ None ∷ None ∷ None ∷ []
found = refl

-- up to the data frame of address 1
abbrev asked : List Frame
asked = nop ∷ rfc ∷ unl ∷ rfc ∷ tad 1 ∷ rfc ∷ framed class.Dab 7 ∷ nrd ∷ []

held : control_after_all (Some 3) 2 first_control asked ≡ control.Rounds (place.Relayed 1 (framed class.Dab 7))
held = refl

-- ETE silences it, and nothing is kept
silent : control_after_all (Some 3) 2 first_control (asked ++ ete ∷ []) ≡ control.Silent
silent = refl

nothing_kept : found_after_all (Some 3) 2 first_control (asked ++ ete ∷ []) none_found ≡ none_found
nothing_kept = refl

-- so does a second data frame in the place of ETO
one_byte_alone : control_after_all (Some 3) 2 first_control (asked ++ framed class.Dab 8 ∷ []) ≡ control.Silent
one_byte_alone = refl
