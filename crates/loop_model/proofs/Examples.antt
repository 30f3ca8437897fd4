-- Worked examples of the definitions. The logs are those of a drive (party 1, address 1) and a printer
-- (party 2), where nothing else is said: asking the drive for its status after power on.
use Rattle.std.proofs.Common.{◌≡◌, ◌++◌, ◌+◌, flat_map, ℕ, List, [], ◌∷◌, Some, None, true, false, refl, length}
use Rattle.il_frames.specs.declared.frame.Class.TheVariants as class
use Rattle.il_frames.specs.declared.frame.Frame.{Frame}
use Rattle.il_frames.specs.declared.message.Message.TheVariants as msg
use Rattle.il_frames.specs.declared.entry.Entry.{Entry}
use Rattle.il_frames.specs.declared.entry.Outcome.TheVariants as outcome
use Rattle.il_frames.specs.Frames.{framed}
use Rattle.il_frames.specs.Messages.{message_of}
use Rattle.il_device.specs.Takes.{eto, ete}
use Rattle.loop_model.specs.Loops.{Loop, host_loop}
use Rattle.il_frames.specs.NamedFrames.{entry, ifc, aau, unl, unt, lad, tad, ddl, ddt, rfc, nrd, aad, is_lost_nrd}
use Rattle.loop_model.specs.Reach.{is_reached, distance, links_of, brings_to, held_at_end, links_so_far, passes_so_far, links, passes, met}
use Rattle.il_device.specs.declared.roles.Roles.{Roles}
use Rattle.il_device.specs.Roles.{no_roles}
use Rattle.loop_model.specs.Roles.{all_without_roles, roles_by, passed_on, roles_after, talkers, has_one_talker, OneTalker}
use Rattle.loop_model.specs.Exchanges.{Echo, Sda, Sst, Sai, NotTaken, ToItsEnd, Stopped, Exchange, Command, Address, Send, Receive, Identify, FrameLost, HostAltered, TalkerAltered, Piece, Whole, Cut, cut_at, is_exchange, is_piece, entries_of, start_frame, returned, are_whole, breaks_off, piece_entries, Reading, IsWhole, IsBroken}
use Rattle.loop_model.specs.Hearing.{heard_by}
use Rattle.loop_model.proofs.ExchangeLaws.{not_both}
use Rattle.loop_model.proofs.RoleLaws.{talkers-whole}

-- the host, a drive and a printer
abbrev pub ring : Loop
ring = host_loop 2 1

-- ---- the frames by name

lad_1 : message_of (lad 1) ≡ msg.Lad 1
lad_1 = refl

tad_1 : message_of (tad 1) ≡ msg.Tad 1
tad_1 = refl

ddl_4 : message_of (ddl 4) ≡ msg.Ddl 4
ddl_4 = refl

ddt_2 : message_of (ddt 2) ≡ msg.Ddt 2
ddt_2 = refl

-- after AAD 30 comes IAA
after_30 : message_of (aad 31) ≡ msg.Iaa
after_30 = refl

nrd_is_lost : is_lost_nrd (entry 0 nrd (outcome.Lost 1)) ≡ true
nrd_is_lost = refl

-- ---- the drive's status, asked for after power on

abbrev pub dab : ℕ → Frame
dab byte = framed class.Dab byte

-- the frames as the host prints them, up to the start message: `0 SST > 1`
abbrev pub asked : List Entry
asked =
    returned 0 ifc ∷ returned 0 rfc ∷ returned 0 aau ∷ returned 0 rfc ∷ entry 0 (aad 1) (outcome.Back (aad 3))
    ∷ returned 0 unl ∷ returned 0 rfc ∷ returned 0 (tad 1) ∷ returned 0 rfc ∷ entry 0 (start_frame Sst) (outcome.Taken 1) ∷ []

-- `0 NRD = NRD`, `1 DAB 00 = DAB 00`, `1 ETO > 0`, and the end of the exchange
abbrev pub answered : List Entry
answered = returned 0 nrd ∷ entry 1 (dab 0) (outcome.Back (dab 0)) ∷ entry 1 eto (outcome.Taken 0) ∷ []

abbrev pub status_log : List Entry
status_log = asked ++ answered ++ returned 0 unt ∷ returned 0 rfc ∷ []

fifteen : length status_log ≡ 15
fifteen = refl

-- address the loop
abbrev pub addressing : List Piece
addressing = Whole (Command ifc) ∷ Whole (Command aau) ∷ Whole (Address 2) ∷ []

-- ask for the status
abbrev pub asking : Exchange
asking = Receive 1 None Sst (Stopped 1 [] (record { sent = dab 0; back = dab 0 }))

status_is_whole : IsWhole ring status_log
status_is_whole = record { reading = record { pieces = addressing ++ Whole asking ∷ []; legal = refl; entries = refl }; whole = refl }

-- after it the devices have their addresses, and none talks
abbrev pub addressed : ℕ → Roles
addressed a = record { address = Some a; talks = false; listens = false }

status_roles : roles_after (all_without_roles 2) status_log ≡ addressed 1 ∷ addressed 2 ∷ []
status_roles = refl

-- while the byte is on its way the drive talks
drive_talks : talkers (roles_after (all_without_roles 2) (asked ++ answered)) ≡ 1 ∷ []
drive_talks = refl

status_one_talker : OneTalker (all_without_roles 2) status_log
status_one_talker = refl

-- SST crosses link 28; the byte 29 and 30 up to the host, NRD 31 to 33, and 34 is the byte's last link
asked_links : links 2 asked ≡ 28
asked_links = refl

held_links_34 : links 2 (asked ++ returned 0 nrd ∷ entry 1 (dab 0) (outcome.Back (dab 0)) ∷ []) ≡ 34
held_links_34 = refl

status_links : links 2 status_log ≡ 42
status_links = refl

-- the printer took the frame of every line but the one of SST; the drive that of every line but its own ETO
printer_passes : passes 2 2 status_log ≡ 14
printer_passes = refl

drive_passes : passes 2 1 status_log ≡ 14
drive_passes = refl

-- a loss of NRD leaves no entry for the byte that the host holds: 28 links, 2 of the byte, and NRD's first
abbrev pub stop_lost : List Entry
stop_lost = asked ++ entry 0 nrd (outcome.Lost 1) ∷ []

stop_lost_holds : held_at_end None stop_lost ≡ Some 1
stop_lost_holds = refl

stop_lost_links : links 2 stop_lost ≡ 31
stop_lost_links = refl

stop_lost_passes : passes 2 2 stop_lost ≡ 10
stop_lost_passes = refl

-- the drive took SST, but neither the lost NRD nor its own byte
stop_lost_drive : passes 2 1 stop_lost ≡ 10
stop_lost_drive = refl

stop_lost_is_broken : IsBroken ring stop_lost
stop_lost_is_broken = record { reading = record { pieces = addressing ++ Cut asking 5 (FrameLost 1) ∷ []; legal = refl; entries = refl }; broken = refl }

-- while the host holds the byte, 2 links of it count, and the printer has passed it on
held_so_far : (links_so_far 2 asked (Some 1) ≡ 30) × (passes_so_far 2 2 asked (Some 1) ≡ passes 2 2 asked + 1) × (passes_so_far 2 1 asked (Some 1) ≡ passes 2 1 asked)
held_so_far = (refl, refl, refl)

-- ---- planned faults

-- of the hops 6, 30 and 34 the crossings from 7 to 30 meet one
met_30 : met (6 ∷ 30 ∷ 34 ∷ []) 6 30 ≡ 30 ∷ []
met_30 = refl

-- a loss at crossing 6 takes RFC on its link to the host
abbrev pub sixth_lost : List Entry
sixth_lost = returned 0 ifc ∷ entry 0 rfc (outcome.Lost 0) ∷ []

sixth_lost_links : links 2 sixth_lost ≡ 6
sixth_lost_links = refl

sixth_lost_is_broken : IsBroken ring sixth_lost
sixth_lost_is_broken = record { reading = record { pieces = Cut (Command ifc) 1 (FrameLost 0) ∷ []; legal = refl; entries = refl }; broken = refl }

-- an alteration at crossing 30 lets the byte come back as 01, and the drive says ETE
abbrev pub byte_altered : List Entry
byte_altered =
    asked ++ returned 0 nrd ∷ entry 1 (dab 0) (outcome.Back (dab 1)) ∷ entry 1 ete (outcome.Taken 0) ∷ []

byte_altered_is_broken : IsBroken ring byte_altered
byte_altered_is_broken = record { reading = record { pieces = addressing ++ Cut asking 6 (TalkerAltered (dab 1) (outcome.Taken 0)) ∷ []; legal = refl; entries = refl }; broken = refl }

-- a second one at crossing 34 loses the byte before it comes back to the drive
abbrev pub byte_lost : List Entry
byte_lost = asked ++ returned 0 nrd ∷ entry 1 (dab 0) (outcome.Lost 1) ∷ []

byte_lost_links : links 2 byte_lost ≡ 34
byte_lost_links = refl

byte_lost_is_broken : IsBroken ring byte_lost
byte_lost_is_broken = record { reading = record { pieces = addressing ++ Cut asking 6 (FrameLost 1) ∷ []; legal = refl; entries = refl }; broken = refl }

-- a broken log is not whole
byte_lost_is_not_whole : IsWhole ring byte_lost → ⊥
byte_lost_is_not_whole whole = not_both ring byte_lost whole byte_lost_is_broken

sixth_lost_is_not_whole : IsWhole ring sixth_lost → ⊥
sixth_lost_is_not_whole whole = not_both ring sixth_lost whole sixth_lost_is_broken

byte_altered_is_not_whole : IsWhole ring byte_altered → ⊥
byte_altered_is_not_whole whole = not_both ring byte_altered whole byte_altered_is_broken

-- without UNT the drive would go on talking: such a log is not whole
no_untalk_is_not_whole : IsWhole ring (asked ++ answered) → ⊥
no_untalk_is_not_whole whole = let silent = talkers-whole 2 1 (all_without_roles 2) (asked ++ answered) refl whole in cc

-- ---- reach

-- a loss before device 2 reached device 1 alone; one on the last link reached all
lost_before_2 : (is_reached 0 (outcome.Lost 2) 1 ≡ true) × (is_reached 0 (outcome.Lost 2) 2 ≡ false) × (is_reached 0 (outcome.Lost 0) 2 ≡ true)
lost_before_2 = (refl, refl, refl)

-- what device 1 took has not reached device 2
taken_by_1 : (is_reached 0 (outcome.Taken 1) 1 ≡ true) × (is_reached 0 (outcome.Taken 1) 2 ≡ false)
taken_by_1 = (refl, refl)

-- of two devices, the first is one link after the host, two before it, and three links from itself
distances : (distance 2 0 1 ≡ 1) × (distance 2 1 0 ≡ 2) × (distance 2 1 1 ≡ 3)
distances = (refl, refl, refl)

-- ETO of device 1 passes device 2 and comes to the host; it does not come to device 1
eto_way : (brings_to 2 2 (entry 1 eto (outcome.Taken 0)) ≡ true) × (brings_to 2 0 (entry 1 eto (outcome.Taken 0)) ≡ true) × (brings_to 2 1 (entry 1 eto (outcome.Taken 0)) ≡ false)
eto_way = (refl, refl, refl)

-- a frame lost before device 2 came to device 1, after one link and on the second
lost_way : (brings_to 2 1 (entry 0 ifc (outcome.Lost 2)) ≡ true) × (brings_to 2 2 (entry 0 ifc (outcome.Lost 2)) ≡ false) × (links_of 2 (entry 0 ifc (outcome.Lost 2)) ≡ 2)
lost_way = (refl, refl, refl)

-- ---- roles

-- AAD 01 goes up by one at each device that takes it: the second of these has an address already
own_address : roles_after (no_roles ∷ addressed 9 ∷ no_roles ∷ []) (entry 0 (aad 1) (outcome.Back (aad 3)) ∷ []) ≡ addressed 1 ∷ addressed 9 ∷ addressed 2 ∷ []
own_address = refl

-- lost before the third device, it leaves that one without address
address_lost : roles_after (all_without_roles 3) (entry 0 (aad 1) (outcome.Lost 3) ∷ []) ≡ addressed 1 ∷ addressed 2 ∷ no_roles ∷ []
address_lost = refl

last_address : passed_on (msg.Aad 30) no_roles ≡ msg.Iaa
last_address = refl

-- another device's talk address ends talking; its listen address changes nothing
abbrev pub talker_1 : Roles
talker_1 = record { address = Some 1; talks = true; listens = false }

talker_changes : (roles_by (msg.Tad 2) talker_1 ≡ addressed 1) × (roles_by (msg.Lad 2) talker_1 ≡ talker_1) × (roles_by msg.Aau talker_1 ≡ no_roles) × (roles_by msg.Ifc talker_1 ≡ addressed 1)
talker_changes = (refl, refl, refl, refl)

-- IFC and the own talk address end listening, another talk address does not; UNL does, UNT does not
abbrev pub listener_1 : Roles
listener_1 = record { address = Some 1; talks = false; listens = true }

listener_changes : (roles_by msg.Ifc listener_1 ≡ addressed 1) × (roles_by (msg.Tad 1) listener_1 ≡ talker_1) × (roles_by (msg.Tad 2) listener_1 ≡ listener_1) × (roles_by msg.Unl listener_1 ≡ addressed 1) × (roles_by msg.Unt listener_1 ≡ listener_1)
listener_changes = (refl, refl, refl, refl, refl)

-- the own listen address ends talking; an address that is there is not changed
talker_listens : (roles_by (msg.Lad 1) talker_1 ≡ listener_1) × (roles_by (msg.Aad 5) talker_1 ≡ talker_1) × (roles_by (msg.Aad 0) no_roles ≡ no_roles)
talker_listens = (refl, refl, refl)

-- a frame of a device changes no role
no_command : roles_after (talker_1 ∷ []) (entry 1 unt (outcome.Back unt) ∷ []) ≡ talker_1 ∷ []
no_command = refl

-- while device 1 talks, device 2 and the host may send no data byte, and ETO is device 1's
other_party : has_one_talker (talker_1 ∷ addressed 2 ∷ []) (entry 2 (dab 5) (outcome.Back (dab 5)) ∷ []) ≡ false
other_party = refl

host_speaks : has_one_talker (talker_1 ∷ addressed 2 ∷ []) (entry 0 (dab 5) (outcome.Back (dab 5)) ∷ []) ≡ false
host_speaks = refl

other_eto : has_one_talker (talker_1 ∷ addressed 2 ∷ []) (entry 2 eto (outcome.Taken 0) ∷ []) ≡ false
other_eto = refl

-- nor an END frame, nor ETE
other_end : has_one_talker (talker_1 ∷ addressed 2 ∷ []) (entry 2 (framed class.End 5) (outcome.Back (framed class.End 5)) ∷ []) ≡ false
other_end = refl

other_ete : has_one_talker (talker_1 ∷ addressed 2 ∷ []) (entry 2 ete (outcome.Taken 0) ∷ []) ≡ false
other_ete = refl

talker_speaks : OneTalker (talker_1 ∷ addressed 2 ∷ []) (entry 1 (dab 5) (outcome.Back (dab 5)) ∷ entry 1 eto (outcome.Taken 0) ∷ [])
talker_speaks = refl

-- where none talks the host may send data, but no ETO
host_data : OneTalker (all_without_roles 2) (entry 0 (dab 5) (outcome.Back (dab 5)) ∷ [])
host_data = refl

host_eto : has_one_talker (all_without_roles 2) (entry 0 eto (outcome.Taken 0) ∷ []) ≡ false
host_eto = refl

host_ete : has_one_talker (all_without_roles 2) (entry 0 ete (outcome.Taken 0) ∷ []) ≡ false
host_ete = refl

two_talkers : has_one_talker (talker_1 ∷ talker_1 ∷ []) [] ≡ false
two_talkers = refl

-- ---- exchanges

abbrev pub echo : ℕ → Echo
echo byte = record { sent = dab byte; back = dab byte }

-- two bytes for the printer
to_printer : entries_of 0 (Send 2 None (echo 0x48 ∷ echo 0x49 ∷ [])) ≡
    returned 0 unl ∷ returned 0 rfc ∷ returned 0 (lad 2) ∷ returned 0 rfc
    ∷ entry 0 (dab 0x48) (outcome.Back (dab 0x48)) ∷ entry 0 (dab 0x49) (outcome.Back (dab 0x49)) ∷ []
to_printer = refl

-- nobody takes SDA
nobody : entries_of 0 (Receive 7 (Some 2) Sda NotTaken) ≡
    returned 0 unl ∷ returned 0 rfc ∷ returned 0 (tad 7) ∷ returned 0 rfc ∷ returned 0 (ddt 2) ∷ returned 0 rfc
    ∷ returned 0 (start_frame Sda) ∷ returned 0 unt ∷ returned 0 rfc ∷ []
nobody = refl

-- a transmission of one byte to its end has no NRD
one_byte : entries_of 0 (Receive 2 None Sst (ToItsEnd 2 (echo 0 ∷ []))) ≡
    returned 0 unl ∷ returned 0 rfc ∷ returned 0 (tad 2) ∷ returned 0 rfc
    ∷ entry 0 (start_frame Sst) (outcome.Taken 2) ∷ entry 2 (dab 0) (outcome.Back (dab 0)) ∷ entry 2 eto (outcome.Taken 0)
    ∷ returned 0 unt ∷ returned 0 rfc ∷ []
one_byte = refl

-- a poll in which nobody answers
poll : entries_of 0 (Identify (framed class.Idy 0)) ≡ returned 0 (framed class.Idy 0) ∷ []
poll = refl

-- and one in which a device asks for service
poll_asks : is_exchange ring (Identify (framed class.Isr 1)) ≡ true
poll_asks = refl

-- AAD comes back after as many numbers as there are devices: on two devices AAD 01 does not come back
-- as AAD 04, nor as AAD 02
counts_devices : (is_exchange ring (Address 2) ≡ true) × (is_exchange ring (Address 3) ≡ false) × (is_exchange ring (Address 1) ≡ false)
counts_devices = (refl, refl, refl)

address_of_three : entries_of 0 (Address 3) ≡ entry 0 (aad 1) (outcome.Back (aad 4)) ∷ []
address_of_three = refl

-- a controller that is device 2 has its own number in place of the host's
abbrev pub guest_ring : Loop
guest_ring = record ring { controller = 2 }

by_guest : entries_of 2 asking ≡
    returned 2 unl ∷ returned 2 rfc ∷ returned 2 (tad 1) ∷ returned 2 rfc ∷ entry 2 (start_frame Sst) (outcome.Taken 1)
    ∷ returned 2 nrd ∷ entry 1 (dab 0) (outcome.Back (dab 0)) ∷ entry 1 eto (outcome.Taken 2) ∷ returned 2 unt ∷ returned 2 rfc ∷ []
by_guest = refl

-- of its frames some reach no other device, where the host took them or did not get them
guest_reach : (is_reached 2 (outcome.Taken 0) 2 ≡ true) × (is_reached 2 (outcome.Taken 0) 1 ≡ false) × (is_reached 2 (outcome.Lost 0) 1 ≡ false) × (is_reached 2 (outcome.Lost 1) 1 ≡ false) × (is_reached 2 (outcome.Taken 1) 1 ≡ true) × (is_reached 2 (outcome.Back unt) 1 ≡ true)
guest_reach = (refl, refl, refl, refl, refl, refl)

-- a data frame may come back with the service bit, and with no other change
service : is_exchange ring (Send 1 None (record { sent = dab 5; back = framed class.Dsr 5 } ∷ [])) ≡ true
service = refl

another_byte : is_exchange ring (Send 1 None (record { sent = dab 5; back = dab 6 } ∷ [])) ≡ false
another_byte = refl

-- a talk address belongs to a receive; a number has its range; a host sends DAB; a transmission has data
not_exchanges : (is_exchange ring (Command (tad 1)) ≡ false) × (is_exchange ring (Send 31 None []) ≡ false) × (is_exchange ring (Receive 1 (Some 32) Sst NotTaken) ≡ false) × (is_exchange ring (Send 1 None (record { sent = framed class.End 5; back = framed class.End 5 } ∷ [])) ≡ false) × (is_exchange ring (Receive 1 None Sst (ToItsEnd 1 [])) ≡ false) × (is_exchange ring (Identify (dab 0)) ≡ false)
not_exchanges = (refl, refl, refl, refl, refl, refl)

-- the very first frame may be lost
first_lost : IsBroken ring (entry 0 ifc (outcome.Lost 1) ∷ [])
first_lost = record { reading = record { pieces = Cut (Command ifc) 0 (FrameLost 1) ∷ []; legal = refl; entries = refl }; broken = refl }

-- a byte of the host came back as another
host_altered : IsBroken ring (returned 0 unl ∷ returned 0 rfc ∷ returned 0 (lad 2) ∷ returned 0 rfc ∷ entry 0 (dab 5) (outcome.Back (dab 4)) ∷ [])
host_altered = record { reading = record { pieces = Cut (Send 2 None (echo 5 ∷ [])) 4 (HostAltered (dab 4)) ∷ []; legal = refl; entries = refl }; broken = refl }

-- the ETE after an altered byte may be lost too
ete_lost : is_piece ring (Cut asking 6 (TalkerAltered (dab 1) (outcome.Lost 2))) ≡ true
ete_lost = refl

-- no break comes after the last entry; a command that came back altered, a byte that came back the
-- same, ETE that comes back or that a device takes, and ETE after a byte of the host are none
no_breaks : (is_piece ring (Cut (Command ifc) 2 (FrameLost 1)) ≡ false) × (is_piece ring (Cut (Command ifc) 0 (HostAltered aau)) ≡ false) × (is_piece ring (Cut asking 6 (TalkerAltered (framed class.Dsr 0) (outcome.Taken 0))) ≡ false) × (is_piece ring (Cut asking 6 (TalkerAltered (dab 1) (outcome.Back ete))) ≡ false) × (is_piece ring (Cut asking 6 (TalkerAltered (dab 1) (outcome.Taken 2))) ≡ false) × (is_piece ring (Cut (Send 2 None (echo 5 ∷ [])) 4 (TalkerAltered (dab 4) (outcome.Taken 0))) ≡ false)
no_breaks = (refl, refl, refl, refl, refl, refl)

-- nothing follows a broken exchange in its log
goes_on : breaks_off (Cut (Command ifc) 0 (FrameLost 1) ∷ Whole (Command ifc) ∷ []) ≡ false
goes_on = refl

-- ---- longer logs

abbrev pub log_of : List Piece → List Entry
log_of pieces = flat_map (piece_entries 0) pieces

-- asks a device for its accessory ID
abbrev pub accessory : ℕ → ℕ → Exchange
accessory a id = Receive a None Sai (Stopped a [] (echo id))

-- the accessory IDs of the drive, 10 hex, and of the printer, 20 hex; a poll of both by PPE 8 and PPE 9;
-- two bytes for the printer
abbrev pub session : List Piece
session =
    addressing
    ++ Whole (accessory 1 0x10) ∷ Whole (accessory 2 0x20)
    ∷ Whole (Command unl) ∷ Whole (Command (lad 1)) ∷ Whole (Command (framed class.Cmd 0x88))
    ∷ Whole (Command unl) ∷ Whole (Command (lad 2)) ∷ Whole (Command (framed class.Cmd 0x89))
    ∷ Whole (Command unl) ∷ Whole (Identify (framed class.Idy 0)) ∷ Whole (Command (framed class.Cmd 0x15))
    ∷ Whole (Send 2 None (echo 0x48 ∷ echo 0x49 ∷ [])) ∷ []

session_is_whole : IsWhole ring (log_of session)
session_is_whole = record { reading = record { pieces = session; legal = refl; entries = refl }; whole = refl }

-- the drive talks, and then the printer, and at last the host
session_one_talker : OneTalker (all_without_roles 2) (log_of session)
session_one_talker = refl

-- the printer listens at the end
session_roles : roles_after (all_without_roles 2) (log_of session) ≡ addressed 1 ∷ record { address = Some 2; talks = false; listens = true } ∷ []
session_roles = refl

-- after a fault the next command clears the loop: both logs, joined, are a list of whole and broken
-- exchanges with one talker, and neither whole nor broken off at the end
abbrev pub two_commands : List Entry
two_commands = byte_altered ++ status_log

two_commands_reading : Reading ring two_commands
two_commands_reading = record { pieces = addressing ++ Cut asking 6 (TalkerAltered (dab 1) (outcome.Taken 0)) ∷ addressing ++ Whole asking ∷ []; legal = refl; entries = refl }

two_commands_one_talker : OneTalker (all_without_roles 2) two_commands
two_commands_one_talker = refl

two_commands_end : (are_whole two_commands_reading.pieces ≡ false) × (breaks_off two_commands_reading.pieces ≡ false)
unfolding two_commands_reading
two_commands_end = (refl, refl)

-- their crossings add up
two_commands_links : links 2 two_commands ≡ links 2 byte_altered + links 2 status_log
two_commands_links = refl

-- ETO of the wrong party in the log of the status
wrong_eto : has_one_talker (all_without_roles 2) (asked ++ returned 0 nrd ∷ entry 1 (dab 0) (outcome.Back (dab 0)) ∷ entry 2 eto (outcome.Taken 0) ∷ returned 0 unt ∷ returned 0 rfc ∷ []) ≡ false
wrong_eto = refl

-- ---- what the printer hears

abbrev pub ready_roles : List Roles
ready_roles = addressed 1 ∷ addressed 2 ∷ []

-- two bytes by a send to it
heard_whole : heard_by 2 2 ready_roles (entries_of 0 (Send 2 None (echo 0x48 ∷ echo 0x49 ∷ []))) ≡ 0x48 ∷ 0x49 ∷ []
heard_whole = refl

-- the drive hears nothing of it, and the printer nothing of a send to the drive
unheard : (heard_by 2 1 ready_roles (entries_of 0 (Send 2 None (echo 0x48 ∷ []))) ≡ []) × (heard_by 2 2 ready_roles (entries_of 0 (Send 1 None (echo 0x48 ∷ []))) ≡ [])
unheard = (refl, refl)

-- a byte that was lost after it, or altered before it, is none of a whole entry
heard_lost : heard_by 2 2 ready_roles (cut_at (entries_of 0 (Send 2 None (echo 0x48 ∷ echo 0x49 ∷ []))) 5 (FrameLost 0)) ≡ 0x48 ∷ []
heard_lost = refl

heard_altered : heard_by 2 2 ready_roles (cut_at (entries_of 0 (Send 2 None (echo 0x48 ∷ echo 0x49 ∷ []))) 5 (HostAltered (dab 0x4B))) ≡ 0x48 ∷ []
heard_altered = refl

-- while it listens it hears what the drive sends too, but a device does not hear its own bytes
abbrev pub both_ready : List Roles
both_ready = record { address = Some 1; talks = true; listens = false } ∷ record { address = Some 2; talks = false; listens = true } ∷ []

heard_drive : heard_by 2 2 both_ready (entry 1 (dab 7) (outcome.Back (dab 7)) ∷ []) ≡ 7 ∷ []
heard_drive = refl

own_unheard : heard_by 2 2 both_ready (entry 2 (dab 7) (outcome.Back (dab 7)) ∷ []) ≡ []
own_unheard = refl
