-- The places within exchanges of the host, and what may come next at each. That a log stands at a place
-- exactly where it can go on to a list of exchanges is what `Exchanges` promises.
use Rattle.std.specs.Prelude.{ℕ, suc, ◌==◌, ◌&&◌, ◌||◌, nat_le, Bool, true, false, if◌then◌else◌, List, [], ◌∷◌, Option, Some, None}
use Rattle.il_frames.specs.declared.frame.Class.{Class}
use Rattle.il_frames.specs.declared.frame.Class.TheVariants as class
use Rattle.il_frames.specs.declared.frame.Frame.{Frame}
use Rattle.il_frames.specs.declared.entry.Entry.{Entry}
use Rattle.il_frames.specs.declared.entry.Outcome.{Outcome}
use Rattle.il_frames.specs.declared.entry.Outcome.TheVariants as outcome
use Rattle.il_frames.specs.Frames.{class_of, byte_of, same_class, is_data, same_but_service}
use Rattle.il_frames.specs.NamedFrames.{unt, rfc, nrd, aad, is_frame}
use Rattle.il_device.specs.Takes.{eto, ete}
use Rattle.trace_readers.specs.declared.exchanges.Fate.{Fate}
use Rattle.trace_readers.specs.declared.exchanges.Fate.TheVariants as fate
use Rattle.trace_readers.specs.declared.exchanges.Tail.{Tail}
use Rattle.trace_readers.specs.declared.exchanges.Tail.TheVariants as tail
use Rattle.trace_readers.specs.declared.exchanges.Place.{Place}
use Rattle.trace_readers.specs.declared.exchanges.Place.TheVariants as place

-- how a frame ended: it came back the same apart from the service bit, or as another, or was taken or lost
abbrev pub fate_of : Frame → Outcome → Fate
fate_of f (outcome.Back g) = if same_but_service f g then fate.Returned else fate.Altered
fate_of f (outcome.Taken q) = fate.Taken q
fate_of f (outcome.Lost q) = fate.Lost

-- each exchange is whole or broken, and nothing longer begins at the end
abbrev pub plain : Place
plain = place.Between tail.Plain

-- after a frame that is to come back
abbrev pub after_returned : Place → Fate → Option Place
after_returned next fate.Returned = Some next
after_returned next fate.Altered = None
after_returned next (fate.Taken q) = None
after_returned next fate.Lost = Some plain

-- after a data frame, which can also come back as another
abbrev pub after_data : Place → Place → Fate → Option Place
after_data next altered fate.Returned = Some next
after_data next altered fate.Altered = Some altered
after_data next altered (fate.Taken q) = None
after_data next altered fate.Lost = Some plain

-- after a frame that the host is to take
abbrev pub after_end : Place → Fate → Option Place
after_end next fate.Returned = None
after_end next fate.Altered = None
after_end next (fate.Taken q) = if q == 0 then Some next else None
after_end next fate.Lost = Some plain

-- after a start message
abbrev pub after_start : Fate → Option Place
after_start fate.Returned = Some place.Answered
after_start fate.Altered = None
after_start (fate.Taken p) = if p == 0 then None else Some (place.Talking p false)
after_start fate.Lost = Some plain

-- after AAD 01 on a ring of k devices
abbrev pub after_address : ℕ → Outcome → Option Place
after_address k (outcome.Back g) = if is_frame g (aad (suc k)) then Some plain else None
after_address k (outcome.Taken q) = None
after_address k (outcome.Lost q) = Some plain

-- after IDY 00
abbrev pub after_identify : Outcome → Option Place
after_identify (outcome.Back g) =
    if same_class (class_of g) class.Idy || same_class (class_of g) class.Isr then Some plain else None
after_identify (outcome.Taken q) = None
after_identify (outcome.Lost q) = Some plain

-- data of the host may follow
abbrev pub hears : Tail → Bool
hears tail.Plain = false
hears tail.Unlisten = false
hears tail.Listen = true
hears tail.Data = true

-- UNL was the last command
abbrev pub is_unlistened : Tail → Bool
is_unlistened tail.Plain = false
is_unlistened tail.Unlisten = true
is_unlistened tail.Listen = false
is_unlistened tail.Data = false

-- the byte is one of these, as those of the talk addresses are 40 to 5E hex
abbrev pub is_within : ℕ → ℕ → ℕ → Bool
is_within first last byte = nat_le first byte && nat_le byte last

-- what the log ends by after one more command, which gives no talk address
abbrev pub after_other : Tail → ℕ → Tail
after_other tail.Plain byte = tail.Plain
after_other tail.Unlisten byte = if is_within 0x20 0x3E byte then tail.Listen else tail.Plain
after_other tail.Listen byte = if is_within 0xA0 0xBF byte then tail.Data else tail.Plain
after_other tail.Data byte = tail.Plain

abbrev pub after_command : Tail → ℕ → Tail
after_command t byte = if byte == 0x3F then tail.Unlisten else after_other t byte

-- after a command of the host between two exchanges: a talk address only after UNL
abbrev pub commanded_at : Tail → ℕ → Fate → Option Place
commanded_at t byte ended =
    if is_within 0x40 0x5E byte then (if is_unlistened t then after_returned place.Addressed ended else None)
    else after_returned (place.Commanded (after_command t byte)) ended

-- after a frame of the host between two exchanges, by its class and byte
abbrev pub begun_by : ℕ → Tail → Class → ℕ → Outcome → Fate → Option Place
begun_by k t class.Dab byte o ended = if hears t then after_data (place.Between tail.Data) plain ended else None
begun_by k t class.Dsr byte o ended = None
begun_by k t class.End byte o ended = None
begun_by k t class.Esr byte o ended = None
begun_by k t class.Cmd byte o ended = commanded_at t byte ended
begun_by k t class.Rdy byte o ended = if byte == 0x81 then after_address k o else None
begun_by k t class.Idy byte o ended = if byte == 0 then after_identify o else None
begun_by k t class.Isr byte o ended = None

abbrev pub begun : ℕ → Tail → Frame → Outcome → Option Place
begun k t f o = begun_by k t (class_of f) (byte_of f) o (fate_of f o)

-- after an entry that is to be this frame of the host
abbrev pub after_frame : Frame → Place → Entry → Option Place
after_frame f next e =
    if (e.source == 0) && is_frame e.frame f then after_returned next (fate_of e.frame e.outcome) else None

-- a start message, and a DDT
abbrev pub is_start_frame : Frame → Bool
is_start_frame f = same_class (class_of f) class.Rdy && is_within 0x60 0x63 (byte_of f)

abbrev pub is_ddt_frame : Frame → Bool
is_ddt_frame f = same_class (class_of f) class.Cmd && is_within 0xC0 0xDF (byte_of f)

-- after an entry that is to be a start message of the host
abbrev pub after_due_start : Entry → Option Place
after_due_start e = if (e.source == 0) && is_start_frame e.frame then after_start (fate_of e.frame e.outcome) else None

-- after an entry that is to be a DDT or a start message of the host
abbrev pub after_told : Entry → Option Place
after_told e =
    if (e.source == 0) && is_ddt_frame e.frame then after_returned place.Numbered (fate_of e.frame e.outcome)
    else after_due_start e

-- after an entry that is to be a data or end frame of this party
abbrev pub after_spoken : ℕ → Place → Entry → Option Place
after_spoken p next e =
    if (e.source == p) && is_data e.frame then after_data next (place.Failed p) (fate_of e.frame e.outcome) else None

-- after an entry that is to be this frame of this party
abbrev pub after_end_frame : ℕ → Frame → Place → Entry → Option Place
after_end_frame p f next e =
    if (e.source == p) && is_frame e.frame f then after_end next (fate_of e.frame e.outcome) else None

-- after an entry while this party talks: NRD of the host, or a data or end frame, or ETO where it has spoken
abbrev pub after_talk : ℕ → Bool → Entry → Option Place
after_talk p spoke e =
    if e.source == 0 then after_frame nrd (place.Stopping p) e
    else if is_data e.frame then after_spoken p (place.Talking p true) e
    else if spoke then after_end_frame p eto place.Answered e
    else None

-- the place after an entry, if there is one
abbrev pub step : ℕ → Place → Entry → Option Place
step k (place.Between t) e = if e.source == 0 then begun k t e.frame e.outcome else None
step k (place.Commanded t) e = after_frame rfc (place.Between t) e
step k place.Addressed e = after_frame rfc place.Told e
step k place.Told e = after_told e
step k place.Numbered e = after_frame rfc place.Starting e
step k place.Starting e = after_due_start e
step k (place.Talking p spoke) e = after_talk p spoke e
step k (place.Stopping p) e = after_spoken p (place.Stopped p) e
step k (place.Stopped p) e = after_end_frame p eto place.Answered e
step k (place.Failed p) e = after_end_frame p ete plain e
step k place.Answered e = after_frame unt (place.Commanded tail.Plain) e

-- the same where there may be no place
abbrev pub step_from : ℕ → Option Place → Entry → Option Place
step_from k None e = None
step_from k (Some at) e = step k at e

-- the place after a log, if there is one
abbrev pub place_after : ℕ → Option Place → List Entry → Option Place
place_after k at [] = at
place_after k at (e ∷ log) = place_after k (step_from k at e) log

-- there is a place; and it is between two exchanges
abbrev pub is_open : Option Place → Bool
is_open None = false
is_open (Some at) = true

abbrev pub is_finished : Option Place → Bool
is_finished None = false
is_finished (Some (place.Between t)) = true
is_finished (Some at) = false
