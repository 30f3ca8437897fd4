-- Which exchanges the commands of the loop make, in which order. The frames of each follow the HP-IL Interface
-- Specification, HP 82166-90017; that a command asks exactly so is this project's own.
use Rattle.std.specs.Prelude.{ℕ, zero, suc, ◌+◌, ◌==◌, Bool, true, false, not, nat_eq, ◌&&◌, ◌||◌, List, [], ◌∷◌, ◌++◌, map, min, Option, Some, None}
use Rattle.std.specs.List.{starts_with}
use Rattle.std.specs.Str.{bytes_eq}
use Rattle.il_frames.specs.declared.frame.Frame.{Frame}
use Rattle.il_frames.specs.Frames.{byte_of}
use Rattle.il_drive.specs.Resting.{sdc}
use Rattle.il_frames.specs.NamedFrames.{ifc, aau, unl, lad, is_frame}
use Rattle.loop_model.specs.Exchanges.{Exchange, Command, Address, Send, Receive, Identify, Answer, NotTaken, Stopped, Sst, Sai, Piece, Whole, Cut}
use Rattle.loop_model.specs.Polls.{poll_enable, poll_unconfigure}
use Rattle.host_model.specs.Requests.{Devices, Status, Poll, Say, Item, Asks}
use Rattle.host_model.specs.LoopStates.{LoopState, device_count, drive_at, all_ids, status_byte, poll_frame, printer_at}

-- ---- what an exchange is to be

-- An exchange is due that passes this test, as a whole one; or as one that broke off, of which what was asked for is told, and of bytes
-- that the host sends a front.
abbrev pub Due : Type 0
Due = Bool → Exchange → Bool

-- this command
abbrev pub is_commanding : Frame → Due
is_commanding f whole (Command g) = is_frame f g
is_commanding f whole _ = false

-- the numbering of so many devices
abbrev pub is_numbering : ℕ → Due
is_numbering k whole (Address devices) = devices == k
is_numbering k whole _ = false

-- the one byte of an answer that the host stops after it
abbrev pub is_one_byte : ℕ → ℕ → Answer → Bool
is_one_byte party byte (Stopped p [] echo) = (p == party) && (byte_of echo.sent == byte)
is_one_byte party byte _ = false

-- that party tells its status by this byte
abbrev pub is_status_told : ℕ → ℕ → Due
is_status_told party byte whole (Receive a None Sst answer) = (a == party) && (not whole || is_one_byte party byte answer)
is_status_told party byte whole _ = false

-- that party tells its accessory ID, or has none
abbrev pub is_id_answer : ℕ → Option ℕ → Answer → Bool
is_id_answer party (Some id) answer = is_one_byte party id answer
is_id_answer party None NotTaken = true
is_id_answer party None _ = false

abbrev pub is_id_told : ℕ → Option ℕ → Due
is_id_told party id whole (Receive a None Sai answer) = (a == party) && (not whole || is_id_answer party id answer)
is_id_told party id whole _ = false

-- this frame comes back
abbrev pub is_identified : Frame → Due
is_identified f whole (Identify g) = not whole || is_frame f g
is_identified f whole _ = false

-- these bytes go to that party
abbrev pub is_said : ℕ → List ℕ → Due
is_said party bytes true (Send a None echoes) = (a == party) && bytes_eq bytes (map (λ d. byte_of d.sent) echoes)
is_said party bytes false (Send a None echoes) = (a == party) && starts_with nat_eq bytes (map (λ d. byte_of d.sent) echoes)
is_said party bytes whole _ = false

-- ---- courses

-- interface clear, all addresses off, and the addresses anew
abbrev pub addresses_due : LoopState → List Due
addresses_due z = is_commanding ifc ∷ is_commanding aau ∷ is_numbering (device_count z) ∷ []

-- the drive alone listens, and selected devices are cleared
abbrev pub clears_due : LoopState → List Due
clears_due z = is_commanding unl ∷ is_commanding (lad (drive_at z)) ∷ is_commanding sdc ∷ []

-- the parties from this one on tell their IDs
abbrev pub ids_due : ℕ → List (Option ℕ) → List Due
ids_due party [] = []
ids_due party (id ∷ ids) = is_id_told party id ∷ ids_due (party + 1) ids

-- so many parties from this one on get their places in the poll
abbrev pub places_due : ℕ → ℕ → List Due
places_due party zero = []
places_due party (suc count) = is_commanding unl ∷ is_commanding (lad party) ∷ is_commanding (poll_enable (7 + party)) ∷ places_due (party + 1) count

abbrev pub bytes_due : Option ℕ → List ℕ → List Due
bytes_due None bytes = []
bytes_due (Some party) bytes = is_said party bytes ∷ []

-- what a command of the loop makes after the addressing
abbrev pub course_of : Item → LoopState → Option (List Due)
course_of (Asks Devices) z = Some (ids_due 1 (all_ids z))
course_of (Asks Status) z = Some (is_status_told (drive_at z) (status_byte z) ∷ [])
course_of (Asks Poll) z = Some (places_due 1 (min 8 (device_count z)) ++ is_commanding unl ∷ is_identified (poll_frame z) ∷ is_commanding poll_unconfigure ∷ [])
course_of (Asks (Say bytes)) z = Some (ids_due 1 (all_ids z) ++ bytes_due (printer_at z) bytes)
course_of _ z = None

-- ---- logs that keep to one

-- the exchanges are those that are due, each in its turn; a broken one ends them
abbrev pub keeps_to : List Due → List Piece → Bool
keeps_to [] [] = true
keeps_to (test ∷ more) (Whole x ∷ pieces) = test true x && keeps_to more pieces
keeps_to (test ∷ more) (Cut x n b ∷ []) = test false x
keeps_to _ _ = false

-- the loop is addressed first where it is not ready
abbrev pub addressed_first : LoopState → Bool → List Due → List Due
addressed_first z true course = course
addressed_first z false course = addresses_due z ++ course

-- the log of a command of the loop is its course, or a broken beginning of it
abbrev pub keeps_course : LoopState → Bool → Option (List Due) → List Piece → Bool
keeps_course z ready None pieces = true
keeps_course z ready (Some course) pieces = keeps_to (addressed_first z ready course) pieces

-- ---- logs that begin with one

-- The exchanges begin with those that are due, each in its turn; a broken one ends them.
abbrev pub begins_with : List Due → List Piece → Bool
begins_with [] pieces = true
begins_with (test ∷ more) (Whole x ∷ pieces) = test true x && begins_with more pieces
begins_with (test ∷ more) (Cut x n b ∷ []) = test false x
begins_with _ _ = false

-- the drive is cleared first where the store is not sound
abbrev pub cleared_first : LoopState → (ready sound : Bool) → List Due
cleared_first z ready true = []
cleared_first z ready false = addressed_first z ready (clears_due z)
