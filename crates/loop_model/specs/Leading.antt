-- Who controls the loop, where the host may hand control to a device by TCT and takes it back by IFC,
-- and what a log then says of roles. Source: HP-IL Interface Specification, HP 82166-90017, the
-- controller function. That the host takes control back by IFC alone is this project's own.
use Rattle.std.specs.Prelude.{◌≡◌, ℕ, ◌==◌, Bool, true, false, not, ◌&&◌, ◌||◌, if◌then◌else◌, List, [], ◌∷◌}
use Rattle.std.specs.List.{list_all}
use Rattle.il_frames.specs.declared.message.Message.{Message}
use Rattle.il_frames.specs.declared.message.Message.TheVariants as msg
use Rattle.il_frames.specs.declared.entry.Entry.{Entry}
use Rattle.il_frames.specs.declared.entry.Outcome.{Outcome}
use Rattle.il_frames.specs.declared.entry.Outcome.TheVariants as outcome
use Rattle.il_frames.specs.Messages.{message_of}
use Rattle.il_frames.specs.NamedFrames.{is_ifc}
use Rattle.il_device.specs.declared.roles.Roles.{Roles}
use Rattle.loop_model.specs.Roles.{roles_along, talkers, is_at_most_one, is_spoken, may_speak}

-- ---- the controller

-- the controller after a message of the host that ended so: a TCT that was taken hands control over
abbrev pub handed_to : ℕ → Outcome → Message → ℕ
handed_to c (outcome.Taken k) msg.Tct = k
handed_to c o m = c

-- the same, where IFC takes control back
abbrev pub handed_or_back : ℕ → Outcome → Message → ℕ
handed_or_back c o m = if is_ifc m then 0 else handed_to c o m

-- the controller after an entry: only the host's hand control over or take it back
abbrev pub controller_after_entry : ℕ → Entry → ℕ
controller_after_entry c e = if e.source == 0 then handed_or_back c e.outcome (message_of e.frame) else c

-- the controller after a log; the host is party 0
abbrev pub controller_after : ℕ → List Entry → ℕ
controller_after c [] = c
controller_after c (e ∷ log) = controller_after (controller_after_entry c e) log

-- the entry is an IFC of the host, whether or not it was lost
abbrev pub is_taking_back : Entry → Bool
is_taking_back e = (e.source == 0) && is_ifc (message_of e.frame)

-- the entry is the controller's, or an IFC of the host
abbrev pub is_of_controller : ℕ → Entry → Bool
is_of_controller c e = (e.source == c) || is_taking_back e

-- ---- roles

-- the roles of all devices after an entry of a loop that party c controls
abbrev pub roles_led_entry : ℕ → List Roles → Entry → List Roles
roles_led_entry c rs e =
    if is_of_controller c e then roles_along e.source e.outcome 1 (message_of e.frame) rs else rs

-- the roles of all devices, in the order of the ring, after a log that begins under controller c
abbrev pub roles_led : ℕ → List Roles → List Entry → List Roles
roles_led c rs [] = rs
roles_led c rs (e ∷ log) = roles_led (controller_after_entry c e) (roles_led_entry c rs e) log

-- ---- one talker

-- these talkers leave it to this party to speak so: to the first, and where none talks to the host
-- while it controls
abbrev pub may_speak_led : ℕ → List ℕ → ℕ → Message → Bool
may_speak_led c [] party m = (party == c) && may_speak [] party m
may_speak_led c (p ∷ ps) party m = party == p

-- a spoken entry is one of the party whose turn it is
abbrev pub is_in_turn_led : ℕ → List ℕ → Entry → Bool
is_in_turn_led c ps e =
    not (is_spoken (message_of e.frame)) || may_speak_led c ps e.source (message_of e.frame)

-- at most one device talks at every moment of a log that begins under controller c, and only the talker
-- speaks
abbrev pub has_one_talker_led : ℕ → List Roles → List Entry → Bool
has_one_talker_led c rs [] = is_at_most_one (talkers rs)
has_one_talker_led c rs (e ∷ log) =
    is_at_most_one (talkers rs)
    && (is_in_turn_led c (talkers rs) e
    && has_one_talker_led (controller_after_entry c e) (roles_led_entry c rs e) log)

-- the same as a fact
abbrev pub OneTalkerLed : ℕ → List Roles → List Entry → Type 0
OneTalkerLed c rs log = has_one_talker_led c rs log ≡ true

-- ---- who sends commands

-- each command, ready or identify frame but ETO and ETE is the controller's, or an IFC of the host
abbrev pub are_commands_led : ℕ → List Entry → Bool
are_commands_led c [] = true
are_commands_led c (e ∷ log) =
    (is_spoken (message_of e.frame) || is_of_controller c e) && are_commands_led (controller_after_entry c e) log

-- ---- logs in which control stays with the host

-- a message that ended so hands control over
abbrev pub is_handing_over : Outcome → Message → Bool
is_handing_over (outcome.Taken k) msg.Tct = true
is_handing_over o m = false

-- the entry is no TCT of the host that a device took
abbrev pub is_no_lend : Entry → Bool
is_no_lend e = not (is_handing_over e.outcome (message_of e.frame) && (e.source == 0))

-- the host hands control to nobody
abbrev pub has_no_lend : List Entry → Bool
has_no_lend log = list_all is_no_lend log
