-- The exchanges of a controller as values, and the entries that each stands for. Which exchanges there
-- are, and how one can break off, is this project's own; the frames of each and their order follow the
-- HP-IL Interface Specification, HP 82166-90017.
use Rattle.std.specs.Prelude.{◌≡◌, ℕ, zero, suc, ◌==◌, nat_lt, nat_le, Bool, true, false, not, ◌&&◌, ◌||◌, List, [], ◌∷◌, ◌++◌, map, flat_map, Option, Some, None}
use Rattle.std.specs.List.{list_all}
use Rattle.il_frames.specs.declared.frame.Class.TheVariants as class
use Rattle.il_frames.specs.declared.frame.Frame.{Frame}
use Rattle.il_frames.specs.declared.message.Message.{Message}
use Rattle.il_frames.specs.declared.message.Message.TheVariants as msg
use Rattle.il_frames.specs.declared.entry.Entry.{Entry}
use Rattle.il_frames.specs.declared.entry.Outcome.{Outcome}
use Rattle.il_frames.specs.declared.entry.Outcome.TheVariants as outcome
use Rattle.il_frames.specs.Frames.{framed, class_of, byte_of, same_class, is_data, same_but_service}
use Rattle.il_frames.specs.Messages.{message_of}
use Rattle.il_device.specs.Takes.{eto, ete}
use Rattle.loop_model.specs.Loops.{Loop}
use Rattle.il_frames.specs.NamedFrames.{entry, ready, unl, unt, lad, tad, ddl, ddt, rfc, nrd, aad}

-- ---- values

-- a data or end frame as its source sent it and as it came back
pub record Echo : Type 0 where
  pub sent : Frame
  pub back : Frame

-- start messages: send data, send status, send device ID, send accessory ID
pub data Start : Type 0 where
  Sda : Start
  Sst : Start
  Sdi : Start
  Sai : Start

-- what came of a start message: it came back; or a device took it and sent frames to its end; or the
-- controller stopped that device, and one more frame, the last, ended after that
pub data Answer : Type 0 where
  NotTaken : Answer
  ToItsEnd : ℕ → List Echo → Answer
  Stopped : ℕ → List Echo → Echo → Answer

-- An exchange. Send: a listen address, a DDL number if one is given, data. Receive: a talk address, a
-- DDT number if one is given, a start message and what came of it. Address: the number of devices.
-- Identify: the frame that came back.
pub data Exchange : Type 0 where
  Command : Frame → Exchange
  Address : ℕ → Exchange
  Send : ℕ → Option ℕ → List Echo → Exchange
  Receive : ℕ → Option ℕ → Start → Answer → Exchange
  Identify : Frame → Exchange

-- the device that takes a start message is the one that was asked for, and is on the ring of k devices
abbrev pub is_asked_for : ℕ → ℕ → ℕ → Bool
is_asked_for k a p = (p == a) && (nat_le 1 a && nat_le a k)

-- where the exchange is a receive that a device answered, it was that one
abbrev pub answers_as_asked : ℕ → Exchange → Bool
answers_as_asked k (Receive a number s (ToItsEnd p data_frames)) = is_asked_for k a p
answers_as_asked k (Receive a number s (Stopped p data_frames last)) = is_asked_for k a p
answers_as_asked k x = true

-- ---- entries

-- the frame of a start message
abbrev pub start_frame : Start → Frame
start_frame Sda = ready 0x60
start_frame Sst = ready 0x61
start_frame Sdi = ready 0x62
start_frame Sai = ready 0x63

-- a frame of controller c that came back as it was
abbrev pub returned : ℕ → Frame → Entry
returned c f = entry c f (outcome.Back f)

-- a command of controller c, and the handshake after it
abbrev pub commanded : ℕ → Frame → List Entry
commanded c f = returned c f ∷ returned c rfc ∷ []

-- a data or end frame of a party
abbrev pub echoed : ℕ → Echo → Entry
echoed party d = entry party d.sent (outcome.Back d.back)

-- the bytes of data frames
abbrev pub bytes_of : List Echo → List ℕ
bytes_of data_frames = map (λ d. byte_of d.sent) data_frames

-- the command of a number, if one is given
abbrev pub numbered : ℕ → (ℕ → Frame) → Option ℕ → List Entry
numbered c frame None = []
numbered c frame (Some n) = commanded c (frame n)

-- the entries of a receive up to its start message
abbrev pub receive_front : ℕ → ℕ → Option ℕ → List Entry
receive_front c a number = commanded c unl ++ commanded c (tad a) ++ numbered c ddt number

-- the start message and what came of it
abbrev pub answer_entries : ℕ → Frame → Answer → List Entry
answer_entries c start NotTaken = returned c start ∷ []
answer_entries c start (ToItsEnd p data_frames) =
    entry c start (outcome.Taken p) ∷ map (echoed p) data_frames ++ entry p eto (outcome.Taken c) ∷ []
answer_entries c start (Stopped p data_frames last) =
    entry c start (outcome.Taken p) ∷ map (echoed p) data_frames
    ++ returned c nrd ∷ echoed p last ∷ entry p eto (outcome.Taken c) ∷ []

-- the entries of an exchange of controller c
abbrev pub entries_of : ℕ → Exchange → List Entry
entries_of c (Command f) = commanded c f
entries_of c (Address devices) = entry c (aad 1) (outcome.Back (aad (suc devices))) ∷ []
entries_of c (Send a number data_frames) =
    commanded c unl ++ commanded c (lad a) ++ numbered c ddl number ++ map (echoed c) data_frames
entries_of c (Receive a number start answer) =
    commanded c unl ++ commanded c (tad a) ++ numbered c ddt number
    ++ answer_entries c (start_frame start) answer ++ commanded c unt
entries_of c (Identify f) = entry c (framed class.Idy 0x00) (outcome.Back f) ∷ []

-- ---- which values are exchanges

-- the message gives a talk address
abbrev pub is_talk_address : Message → Bool
is_talk_address (msg.Tad a) = true
is_talk_address m = false

-- a data or end frame that came back the same apart from the service bit
abbrev pub is_echo : Echo → Bool
is_echo d = is_data d.sent && same_but_service d.sent d.back

-- the same of a frame DAB, which is what a controller sends
abbrev pub is_host_echo : Echo → Bool
is_host_echo d = same_class (class_of d.sent) class.Dab && is_echo d

-- a listen or talk address
abbrev pub is_address : ℕ → Bool
is_address a = nat_le a 30

-- the number of a DDL or DDT, if one is given
abbrev pub is_number : Option ℕ → Bool
is_number None = true
is_number (Some n) = nat_lt n 32

-- at least one
abbrev pub is_some_data : List Echo → Bool
is_some_data [] = false
is_some_data (d ∷ ds) = true

-- another party than controller c took the start message and sent data or end frames, at least one
abbrev pub is_answer : ℕ → Answer → Bool
is_answer c NotTaken = true
is_answer c (ToItsEnd p data_frames) =
    not (p == c) && (is_some_data data_frames && list_all is_echo data_frames)
is_answer c (Stopped p data_frames last) = not (p == c) && (list_all is_echo data_frames && is_echo last)

-- the value is an exchange on this ring: among others, no command gives a talk address outside a
-- receive, and AAD comes back after as many numbers as the ring has devices
abbrev pub is_exchange : Loop → Exchange → Bool
is_exchange l (Command f) = same_class (class_of f) class.Cmd && not (is_talk_address (message_of f))
is_exchange l (Address devices) = devices == l.devices
is_exchange l (Send a number data_frames) =
    is_address a && (is_number number && list_all is_host_echo data_frames)
is_exchange l (Receive a number start answer) =
    is_address a && (is_number number && is_answer l.controller answer)
is_exchange l (Identify f) = same_class (class_of f) class.Idy || same_class (class_of f) class.Isr

-- ---- broken exchanges

-- how an exchange broke off: the frame that was due did not reach a party; the controller's data frame
-- came back as another; a device's did, and that device's ETE ended so
pub data Break : Type 0 where
  FrameLost : ℕ → Break
  HostAltered : Frame → Break
  TalkerAltered : Frame → Outcome → Break

-- the entries of a break in the place of this one
abbrev pub break_entries : Entry → Break → List Entry
break_entries due (FrameLost q) = entry due.source due.frame (outcome.Lost q) ∷ []
break_entries due (HostAltered f) = entry due.source due.frame (outcome.Back f) ∷ []
break_entries due (TalkerAltered f end) =
    entry due.source due.frame (outcome.Back f) ∷ entry due.source ete end ∷ []

-- ETE came to controller c, or was lost
abbrev pub is_end : ℕ → Outcome → Bool
is_end c (outcome.Back f) = false
is_end c (outcome.Taken q) = q == c
is_end c (outcome.Lost q) = true

-- a data or end frame that comes back so is another than the one sent
abbrev pub is_altered : Frame → Frame → Bool
is_altered f g = is_data f && not (same_but_service f g)

-- the break of an exchange of controller c can stand in the place of this entry
abbrev pub is_break : ℕ → Entry → Break → Bool
is_break c due (FrameLost q) = true
is_break c due (HostAltered f) = (due.source == c) && is_altered due.frame f
is_break c due (TalkerAltered f end) = not (due.source == c) && (is_altered due.frame f && is_end c end)

-- the first n entries, and then a break in the place of the next
abbrev pub cut_at : List Entry → ℕ → Break → List Entry
cut_at [] n b = []
cut_at (e ∷ es) zero b = break_entries e b
cut_at (e ∷ es) (suc n) b = e ∷ cut_at es n b

-- there is a next entry, and the break can stand in its place
abbrev pub can_cut : ℕ → List Entry → ℕ → Break → Bool
can_cut c [] n b = false
can_cut c (e ∷ es) zero b = is_break c e b
can_cut c (e ∷ es) (suc n) b = can_cut c es n b

-- ---- logs

-- a whole exchange; or one of which n entries stand, with a break in the place of the next
pub data Piece : Type 0 where
  Whole : Exchange → Piece
  Cut : Exchange → ℕ → Break → Piece

-- the entries of a whole or broken exchange of controller c
abbrev pub piece_entries : ℕ → Piece → List Entry
piece_entries c (Whole x) = entries_of c x
piece_entries c (Cut x n b) = cut_at (entries_of c x) n b

-- the value is a whole or broken exchange on this ring
abbrev pub is_piece : Loop → Piece → Bool
is_piece l (Whole x) = is_exchange l x
is_piece l (Cut x n b) = is_exchange l x && can_cut l.controller (entries_of l.controller x) n b

-- none is broken
abbrev pub are_whole : List Piece → Bool
are_whole [] = true
are_whole (Whole x ∷ ps) = are_whole ps
are_whole (Cut x n b ∷ ps) = false

-- the last is broken, and no other
abbrev pub breaks_off : List Piece → Bool
breaks_off [] = false
breaks_off (Whole x ∷ ps) = breaks_off ps
breaks_off (Cut x n b ∷ []) = true
breaks_off (Cut x n b ∷ p ∷ ps) = false

-- the log is a list of whole and broken exchanges of the controller
pub record Reading (l : Loop) (log : List Entry) : Type 0 where
  pub pieces : List Piece
  pub legal : list_all (is_piece l) pieces ≡ true
  pub entries : log ≡ flat_map (piece_entries l.controller) pieces

-- the log is a list of whole exchanges
pub record IsWhole (l : Loop) (log : List Entry) : Type 0 where
  pub reading : Reading l log
  pub whole : are_whole reading.pieces ≡ true

-- the log is a list of whole exchanges followed by one broken exchange
pub record IsBroken (l : Loop) (log : List Entry) : Type 0 where
  pub reading : Reading l log
  pub broken : breaks_off reading.pieces ≡ true
