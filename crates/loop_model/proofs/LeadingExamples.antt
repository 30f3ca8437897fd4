-- Worked examples of who controls the loop: a drive (party 1), a printer (party 2) and a second
-- controller (party 3), which asks the drive for its status until the host takes control back.
use Rattle.std.proofs.Common.{◌≡◌, ◌++◌, List, [], ◌∷◌, true, false, refl}
use Rattle.il_frames.specs.declared.frame.Frame.{Frame}
use Rattle.il_frames.specs.declared.entry.Entry.{Entry}
use Rattle.il_frames.specs.declared.entry.Outcome.TheVariants as outcome
use Rattle.il_device.specs.Takes.{eto}
use Rattle.il_device.specs.declared.roles.Roles.{Roles}
use Rattle.il_frames.specs.NamedFrames.{entry, command, ready, ifc, aau, unl, unt, tad, nrd, aad}
use Rattle.loop_model.specs.Roles.{all_without_roles, roles_after, talkers, has_one_talker}
use Rattle.loop_model.specs.Exchanges.{Sst, start_frame, returned, commanded}
use Rattle.loop_model.specs.Leading.{controller_after, roles_led, has_one_talker_led, OneTalkerLed, are_commands_led, has_no_lend}
use Rattle.loop_model.proofs.Examples.{status_log, dab, addressed}

-- no operation, and take control
abbrev pub nop : Frame
nop = command 0x10

abbrev pub tct : Frame
tct = ready 0x64

-- up to `0 RFC = RFC` after `0 TAD 03 = TAD 03`
abbrev pub before : List Entry
before = commanded 0 ifc ++ commanded 0 aau ++ entry 0 (aad 1) (outcome.Back (aad 4)) ∷ commanded 0 unl ++ commanded 0 (tad 3)

-- `0 TCT > 3`
abbrev pub lend : List Entry
lend = entry 0 tct (outcome.Taken 3) ∷ []

-- the second controller asks the drive, up to `3 SST > 1`
abbrev pub asks : List Entry
asks = commanded 3 nop ++ commanded 3 unl ++ commanded 3 (tad 1) ++ entry 3 (start_frame Sst) (outcome.Taken 1) ∷ []

-- the drive's status is 0
abbrev pub told : List Entry
told = returned 3 nrd ∷ entry 1 (dab 0) (outcome.Back (dab 0)) ∷ entry 1 eto (outcome.Taken 3) ∷ []

-- the host takes control back, as UNT of the second controller comes to it
abbrev pub taken_back : List Entry
taken_back = entry 3 unt (outcome.Taken 0) ∷ commanded 0 ifc

abbrev pub lend_log : List Entry
lend_log = before ++ lend ++ asks ++ told ++ taken_back

-- up to the drive's answer
abbrev pub lent : List Entry
lent = before ++ lend ++ asks

abbrev pub none : List Roles
none = all_without_roles 3

-- ---- the controller

host_before : controller_after 0 before ≡ 0
host_before = refl

device_after_tct : controller_after 0 lent ≡ 3
device_after_tct = refl

host_after_ifc : controller_after 0 lend_log ≡ 0
host_after_ifc = refl

-- an IFC that is lost takes control back too, and one of a device does not
host_after_lost_ifc : controller_after 0 (lent ++ entry 0 ifc (outcome.Lost 1) ∷ []) ≡ 0
host_after_lost_ifc = refl

device_keeps : controller_after 0 (lent ++ returned 3 ifc ∷ []) ≡ 3
device_keeps = refl

-- a TCT that came back hands nothing over
not_taken : controller_after 0 (before ++ returned 0 tct ∷ []) ≡ 0
not_taken = refl

-- ---- roles

-- the second controller talks as it takes control, and the drive as it is asked
device_talks : talkers (roles_led 0 none (before ++ lend)) ≡ 3 ∷ []
device_talks = refl

drive_talks : talkers (roles_led 0 none lent) ≡ 1 ∷ []
drive_talks = refl

-- by the host's entries alone the second controller would talk still
not_by_host : talkers (roles_after none lent) ≡ 3 ∷ []
not_by_host = refl

-- UNT of the second controller was taken by the host: the drive talks until IFC
drive_talks_on : talkers (roles_led 0 none (lent ++ told ++ entry 3 unt (outcome.Taken 0) ∷ [])) ≡ 1 ∷ []
drive_talks_on = refl

-- a talk address that is lost before all devices reaches its source alone
lost_at_once : talkers (roles_led 0 none (before ++ lend ++ entry 3 (tad 1) (outcome.Lost 0) ∷ [])) ≡ []
lost_at_once = refl

-- after the log the devices have their addresses, and none talks
lend_roles : roles_led 0 none lend_log ≡ addressed 1 ∷ addressed 2 ∷ addressed 3 ∷ []
lend_roles = refl

-- a command of the host changes nothing while a device controls
no_host_command : roles_led 0 none (before ++ lend ++ returned 0 unt ∷ []) ≡ roles_led 0 none (before ++ lend)
no_host_command = refl

-- ---- one talker

lend_one_talker : OneTalkerLed 0 none lend_log
lend_one_talker = refl

-- by the host's entries alone the drive speaks in the place of another
one_talker_not_by_host : has_one_talker none lend_log ≡ false
one_talker_not_by_host = refl

-- the printer speaks while the drive talks
wrong_talker : has_one_talker_led 0 none (lent ++ entry 2 (dab 0) (outcome.Back (dab 0)) ∷ []) ≡ false
wrong_talker = refl

-- nobody talks: the host's data while another controls, and data of that one, are out of turn
abbrev pub nobody_talks : List Entry
nobody_talks = before ++ lend ++ returned 3 unt ∷ []

host_out_of_turn : has_one_talker_led 0 none (nobody_talks ++ returned 0 (dab 0) ∷ []) ≡ false
host_out_of_turn = refl

device_out_of_turn : has_one_talker_led 0 none (nobody_talks ++ returned 3 (dab 0) ∷ []) ≡ false
device_out_of_turn = refl

-- ---- commands

lend_commands : are_commands_led 0 lend_log ≡ true
lend_commands = refl

-- a command of the host while a device controls, and one of a device while the host does
host_commands : are_commands_led 0 (lent ++ returned 0 unl ∷ []) ≡ false
host_commands = refl

device_commands : are_commands_led 0 (lend_log ++ returned 3 unl ∷ []) ≡ false
device_commands = refl

-- ---- logs without a lend

lends : has_no_lend lend_log ≡ false
lends = refl

status_lends_nothing : has_no_lend status_log ≡ true
status_lends_nothing = refl
