-- Worked examples of the definitions.
use Rattle.std.proofs.Common.{◌≡◌, ◌++◌, List, true, false, refl, [], ◌∷◌, Some, None}
use Rattle.il_frames.specs.declared.frame.Class.TheVariants as class
use Rattle.il_frames.specs.declared.entry.Entry.{Entry}
use Rattle.il_frames.specs.declared.entry.Outcome.TheVariants as outcome
use Rattle.il_device.specs.declared.roles.Roles.{Roles}
use Rattle.il_device.specs.Roles.{no_roles}
use Rattle.il_frames.specs.Frames.{framed}
use Rattle.il_device.specs.Takes.{eto, ete}
use Rattle.loop_model.specs.Loops.{host_loop}
use Rattle.il_frames.specs.NamedFrames.{entry, ready, aad, tad, ddl, ddt, unl, unt, rfc, nrd}
use Rattle.loop_model.specs.Exchanges.{returned, commanded}
use Rattle.trace_readers.specs.declared.exchanges.Fate.TheVariants as fate
use Rattle.trace_readers.specs.declared.exchanges.Tail.TheVariants as tail
use Rattle.trace_readers.specs.declared.exchanges.Place.TheVariants as place
use Rattle.trace_readers.specs.Talkers.{Talk, IsTalkAfter, is_talker}
use Rattle.trace_readers.specs.Places.{fate_of, plain, after_returned, after_data, after_end, after_start, after_address, after_identify, hears, is_unlistened, is_within, after_other, after_command, commanded_at, begun_by, begun, after_frame, is_start_frame, is_ddt_frame, after_due_start, after_told, after_spoken, after_end_frame, after_talk, step, step_from, place_after, is_open, is_finished}
use Rattle.trace_readers.specs.Exchanges.{IsPrefix, IsReadAfter}
use Rattle.trace_readers.proofs.PrefixLemmas.{open_prefix}

-- a device with address 1 that talks
talker : Roles
talker = record { address = Some 1; talks = true; listens = false }

talks : is_talker talker ≡ true
unfolding talker
talks = refl

talks_not : is_talker no_roles ≡ false
talks_not = refl

-- one device that took address 1 and was told to talk
one_talks : Talk
one_talks = record { roles = talker ∷ []; had_one = true }

told_to_talk : IsTalkAfter 1 (entry 0 (aad 1) (outcome.Back (aad 2)) ∷ entry 0 (tad 1) (outcome.Back
    (tad 1)) ∷ []) one_talks
unfolding one_talks talker
told_to_talk = record { roles = refl; had_one = refl }

-- it does not talk before
not_yet : IsTalkAfter 1 (entry 0 (aad 1) (outcome.Back (aad 2)) ∷ []) one_talks → ⊥
unfolding one_talks talker
not_yet known = let same = known.roles in cc

-- ---- places

-- a byte that came back with the service bit set came back the same; another byte did not
service_bit_returned : fate_of (framed class.Dab 7) (outcome.Back (framed class.Dsr 7)) ≡ fate.Returned
service_bit_returned = refl

other_byte_altered : fate_of (framed class.Dab 7) (outcome.Back (framed class.Dab 6)) ≡ fate.Altered
other_byte_altered = refl

lost_is_broken : after_returned place.Told fate.Lost ≡ Some plain
lost_is_broken = refl

command_not_altered : after_returned place.Told fate.Altered ≡ None
command_not_altered = refl

data_altered : after_data place.Told (place.Failed 1) fate.Altered ≡ Some (place.Failed 1)
data_altered = refl

data_not_taken : after_data place.Told (place.Failed 1) (fate.Taken 0) ≡ None
data_not_taken = refl

host_takes_end : after_end place.Answered (fate.Taken 0) ≡ Some place.Answered
host_takes_end = refl

device_takes_no_end : after_end place.Answered (fate.Taken 2) ≡ None
device_takes_no_end = refl

-- a device takes a start message, and the host does not
device_starts : after_start (fate.Taken 2) ≡ Some (place.Talking 2 false)
device_starts = refl

host_starts_not : after_start (fate.Taken 0) ≡ None
host_starts_not = refl

two_devices : after_address 2 (outcome.Back (aad 3)) ≡ Some plain
two_devices = refl

three_on_two : after_address 2 (outcome.Back (aad 4)) ≡ None
three_on_two = refl

poll_answer : after_identify (outcome.Back (framed class.Isr 0x01)) ≡ Some plain
poll_answer = refl

no_poll_answer : after_identify (outcome.Back (framed class.Dab 0x01)) ≡ None
no_poll_answer = refl

listener_hears : hears tail.Listen ≡ true
listener_hears = refl

unl_hears_not : hears tail.Unlisten ≡ false
unl_hears_not = refl

unlistened : is_unlistened tail.Unlisten ≡ true
unlistened = refl

listening : is_unlistened tail.Listen ≡ false
listening = refl

last_talk_address : is_within 0x40 0x5E 0x5E ≡ true
last_talk_address = refl

untalk_is_no_address : is_within 0x40 0x5E 0x5F ≡ false
untalk_is_no_address = refl

-- a listen address begins a send after UNL alone
listen_after_unl : after_other tail.Unlisten 0x21 ≡ tail.Listen
listen_after_unl = refl

listen_after_send : after_other tail.Data 0x21 ≡ tail.Plain
listen_after_send = refl

unl_after_send : after_command tail.Data 0x3F ≡ tail.Unlisten
unl_after_send = refl

talk_after_unl : commanded_at tail.Unlisten 0x41 fate.Returned ≡ Some place.Addressed
talk_after_unl = refl

talk_alone : commanded_at tail.Plain 0x41 fate.Returned ≡ None
talk_alone = refl

host_sends_end_frames_not : begun_by 2 tail.Data class.End 7 (outcome.Lost 1) fate.Lost ≡ None
host_sends_end_frames_not = refl

data_begins_lost : begun 2 tail.Listen (framed class.Dab 7) (outcome.Lost 1) ≡ Some plain
data_begins_lost = refl

ready_for_command : after_frame rfc place.Told (returned 0 rfc) ≡ Some place.Told
ready_for_command = refl

of_a_device : after_frame rfc place.Told (returned 1 rfc) ≡ None
of_a_device = refl

sai_starts : is_start_frame (ready 0x63) ≡ true
sai_starts = refl

tct_starts_not : is_start_frame (ready 0x64) ≡ false
tct_starts_not = refl

last_ddt : is_ddt_frame (ddt 31) ≡ true
last_ddt = refl

ddl_is_no_ddt : is_ddt_frame (ddl 31) ≡ false
ddl_is_no_ddt = refl

status_asked : after_due_start (entry 0 (ready 0x61) (outcome.Taken 1)) ≡ Some (place.Talking 1 false)
status_asked = refl

second_ddt : after_due_start (returned 0 (ddt 2)) ≡ None
second_ddt = refl

first_ddt : after_told (returned 0 (ddt 2)) ≡ Some place.Numbered
first_ddt = refl

untold : after_told (returned 0 unt) ≡ None
untold = refl

spoken : after_spoken 1 (place.Talking 1 true) (returned 1 (framed class.End 7)) ≡ Some (place.Talking 1 true)
spoken = refl

spoken_by_another : after_spoken 1 (place.Talking 1 true) (returned 2 (framed class.End 7)) ≡ None
spoken_by_another = refl

ended_so : after_end_frame 1 eto place.Answered (entry 1 eto (outcome.Taken 0)) ≡ Some place.Answered
ended_so = refl

ended_in_error : after_end_frame 1 eto place.Answered (entry 1 ete (outcome.Taken 0)) ≡ None
ended_in_error = refl

-- ETO comes after data
end_after_data : after_talk 1 true (entry 1 eto (outcome.Taken 0)) ≡ Some place.Answered
end_after_data = refl

end_without_data : after_talk 1 false (entry 1 eto (outcome.Taken 0)) ≡ None
end_without_data = refl

stopped_talker : step 2 (place.Talking 1 false) (returned 0 nrd) ≡ Some (place.Stopping 1)
stopped_talker = refl

stopped_twice : step 2 (place.Stopping 1) (returned 0 nrd) ≡ None
stopped_twice = refl

stays_out : step_from 2 None (returned 0 unl) ≡ None
stays_out = refl

-- a status poll of the first device, up to its byte
polled : List Entry
polled =
    commanded 0 unl ++ commanded 0 (tad 1) ++ entry 0 (ready 0x61) (outcome.Taken 1) ∷ returned 1
    (framed class.Dab 0) ∷ []

poll_place : place_after 2 (Some plain) polled ≡ Some (place.Talking 1 true)
unfolding polled
poll_place = refl

poll_is_open : is_open (place_after 2 (Some plain) polled) ≡ true
unfolding polled
poll_is_open = refl

-- it can go on to an exchange, and is none yet
poll_is_unfinished : is_finished (place_after 2 (Some plain) polled) ≡ false
unfolding polled
poll_is_unfinished = refl

nothing_is_finished : is_finished (place_after 2 (Some plain) []) ≡ true
nothing_is_finished = refl

poll_goes_on : IsPrefix (host_loop 2 1) polled
poll_goes_on = (open_prefix 2 1 polled (Some (place.Talking 1 true)) poll_place).0 refl

-- no log that begins by ETO is the beginning of exchanges
end_first : IsPrefix (host_loop 2 1) (entry 1 eto (outcome.Taken 0) ∷ []) → ⊥
end_first goes_on = let open_there = (open_prefix 2 1 (entry 1 eto (outcome.Taken 0) ∷ []) None refl).1 goes_on in cc

poll_read : IsReadAfter 2 polled (record { devices = 2; place = Some (place.Talking 1 true) })
unfolding polled
poll_read = record { devices = refl; place = refl }

poll_read_otherwise : IsReadAfter 2 polled (record { devices = 2; place = Some plain }) → ⊥
unfolding polled
poll_read_otherwise read = let same = read.place in cc
