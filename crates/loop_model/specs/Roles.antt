-- The roles of all devices by a log. Source: HP-IL Interface Specification, HP 82166-90017, the
-- talker, listener and auto-address functions. That AAU ends talking and listening is this project's own.
use Rattle.std.specs.Prelude.{◌≡◌, ℕ, suc, ◌==◌, Bool, true, false, not, ◌&&◌, ◌||◌, if◌then◌else◌, List, [], ◌∷◌, ◌++◌, replicate}
use Rattle.il_frames.specs.declared.message.Message.{Message}
use Rattle.il_frames.specs.declared.message.Message.TheVariants as msg
use Rattle.il_frames.specs.declared.entry.Entry.{Entry}
use Rattle.il_frames.specs.declared.entry.Outcome.{Outcome}
use Rattle.il_frames.specs.Messages.{message_of}
use Rattle.il_device.specs.declared.roles.Roles.{Roles}
use Rattle.il_device.specs.Roles.{no_roles}
use Rattle.il_device.specs.Roles as device
use Rattle.loop_model.specs.Reach.{is_reached}

-- k such devices
abbrev pub all_without_roles : ℕ → List Roles
all_without_roles k = replicate k no_roles

-- the roles of a device after a message has passed it: what every device does with its roles
abbrev pub roles_by : Message → Roles → Roles
roles_by m r = device.roles_after r m

-- the AAD after AAD a; after AAD 30 it is IAA
abbrev pub next_address : ℕ → Message
next_address a = if a == 30 then msg.Iaa else msg.Aad (suc a)

-- the message as the device passes it on: an AAD that it takes goes up by one
abbrev pub passed_on : Message → Roles → Message
passed_on (msg.Aad a) r = if device.takes_address r.address a then next_address a else msg.Aad a
passed_on m r = m

-- the roles of the devices from this party on after a controller's message of this source that ended so
abbrev pub roles_along : ℕ → Outcome → ℕ → Message → List Roles → List Roles
roles_along source o party m [] = []
roles_along source o party m (r ∷ rs) =
    (if is_reached source o party then roles_by m r else r)
    ∷ roles_along source o (suc party) (if is_reached source o party then passed_on m r else m) rs

-- the roles of all devices after an entry: only the host's change them
abbrev pub roles_after_entry : List Roles → Entry → List Roles
roles_after_entry rs e =
    if e.source == 0 then roles_along 0 e.outcome 1 (message_of e.frame) rs else rs

-- the roles of all devices, in the order of the ring, after a log
abbrev pub roles_after : List Roles → List Entry → List Roles
roles_after rs [] = rs
roles_after rs (e ∷ log) = roles_after (roles_after_entry rs e) log

-- the message ends addresses
abbrev pub is_aau : Message → Bool
is_aau msg.Aau = true
is_aau m = false

-- the devices from this party on have their numbers as addresses
abbrev pub are_numbered : ℕ → List Roles → Bool
are_numbered party [] = true
are_numbered party (r ∷ rs) = device.is_own r.address party && are_numbered (suc party) rs

-- the parties from this one on that talk
abbrev pub talkers_from : ℕ → List Roles → List ℕ
talkers_from party [] = []
talkers_from party (r ∷ rs) = (if r.talks then party ∷ [] else []) ++ talkers_from (suc party) rs

-- the parties that talk
abbrev pub talkers : List Roles → List ℕ
talkers rs = talkers_from 1 rs

-- ---- one talker

-- at most one party
abbrev pub is_at_most_one : List ℕ → Bool
is_at_most_one [] = true
is_at_most_one (p ∷ []) = true
is_at_most_one (p ∷ q ∷ ps) = false

-- ETO and ETE, which only a talking device sends
abbrev pub is_end_of_talk : Message → Bool
is_end_of_talk msg.Eto = true
is_end_of_talk msg.Ete = true
is_end_of_talk m = false

-- data and end frames, ETO and ETE
abbrev pub is_spoken : Message → Bool
is_spoken (msg.Dab n) = true
is_spoken (msg.Dsr n) = true
is_spoken (msg.End n) = true
is_spoken (msg.Esr n) = true
is_spoken m = is_end_of_talk m

-- these talkers leave it to this party to speak so: to the first, and where none talks to the host
abbrev pub may_speak : List ℕ → ℕ → Message → Bool
may_speak [] party m = (party == 0) && not (is_end_of_talk m)
may_speak (p ∷ ps) party m = party == p

-- a spoken entry is one of the party whose turn it is
abbrev pub is_in_turn : List ℕ → Entry → Bool
is_in_turn ps e = not (is_spoken (message_of e.frame)) || may_speak ps e.source (message_of e.frame)

-- at most one device talks at every moment of the log, and only the talker speaks
abbrev pub has_one_talker : List Roles → List Entry → Bool
has_one_talker rs [] = is_at_most_one (talkers rs)
has_one_talker rs (e ∷ log) =
    is_at_most_one (talkers rs) && (is_in_turn (talkers rs) e && has_one_talker (roles_after_entry rs e) log)

-- the same as a fact
abbrev pub OneTalker : List Roles → List Entry → Type 0
OneTalker rs log = has_one_talker rs log ≡ true
