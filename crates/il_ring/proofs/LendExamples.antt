-- Worked examples of lends, computed by the checker: a drive (party 1), a printer (party 2) and a second controller (party 3), which asks
-- the addresses up to 2.
use Rattle.std.proofs.Common.{◌≡◌, ◌++◌, ℕ, List, [], ◌∷◌, None, true, false, refl, codes, flat_map}
use Rattle.std.specs.Fmt.{digits}
use Rattle.il_frames.specs.declared.frame.Class.TheVariants as class
use Rattle.il_frames.specs.declared.entry.Entry.{Entry}
use Rattle.il_frames.specs.declared.entry.Outcome.TheVariants as outcome
use Rattle.il_frames.specs.Frames.{framed}
use Rattle.il_frames.specs.Entries.{entry_text}
use Rattle.il_frames.specs.NamedFrames.{aad, aau, entry, ifc}
use Rattle.loop_model.specs.Exchanges.{Answer, Echo, NotTaken, Stopped, ToItsEnd, FrameLost, HostAltered, TalkerAltered, commanded}
use Rattle.loop_model.specs.Leading.{are_commands_led, controller_after, has_one_talker_led}
use Rattle.loop_model.specs.Roles.{all_without_roles}
use Rattle.il_ring.specs.Statuses.{answers_always}
use Rattle.il_ring.specs.Lends.{Lend, NoTaker, NoTakerCut, Lent, LentCut, LentLost, AtHost, BreaksOff, ByteLost, is_lend, is_whole_lend, keeps_control, lend_entries, reports_own, took_back, was_taken}

abbrev asked : List ℕ
asked = 1 ∷ 2 ∷ []

-- address 1 reports the status 0, and address 2 none
abbrev zero_status : Echo
zero_status = record { sent = framed class.Dab 0; back = framed class.Dab 0 }

abbrev answers : List (List Answer)
answers = (Stopped 1 [] zero_status ∷ []) ∷ (Stopped 1 [] zero_status ∷ []) ∷ []

abbrev trace : Lend → List ℕ
trace lend = flat_map (λ e. entry_text e ++ 10 ∷ []) (lend_entries 3 asked lend)

abbrev lines : List (List ℕ) → List ℕ
lines texts = flat_map (λ text. text ++ 10 ∷ []) texts

-- ---- ten frames

abbrev ten : Lend
ten = Lent 3 answers 10

ten_is_lend : is_lend 3 asked 10 ten ≡ true
ten_is_lend = refl

-- the tenth frame is the UNT, and is at the host
ten_trace : trace ten ≡ lines (codes "~ 0 UNL = UNL" ∷ codes "~ 0 RFC = RFC" ∷ codes "~ 0 TAD 03 = TAD 03" ∷ codes "~ 0 RFC = RFC" ∷ codes "~ 0 TCT > 3"
    ∷ codes "~ 3 NOP = NOP" ∷ codes "~ 3 RFC = RFC" ∷ codes "~ 3 UNL = UNL" ∷ codes "~ 3 RFC = RFC" ∷ codes "~ 3 TAD 01 = TAD 01" ∷ codes "~ 3 RFC = RFC"
    ∷ codes "~ 3 SST > 1" ∷ codes "~ 3 NRD = NRD" ∷ codes "~ 1 DAB 00 = DAB 00" ∷ codes "~ 1 ETO > 3" ∷ codes "~ 3 UNT > 0"
    ∷ codes "~ 0 IFC = IFC" ∷ codes "~ 0 RFC = RFC" ∷ [])
unfolding digits
ten_trace = refl

-- ETO goes by no link to the host, so no other entry is the tenth
one_too_many : (is_lend 3 asked 11 ten ≡ false) × (is_lend 3 asked 9 ten ≡ false) × (is_lend 3 asked 10 (Lent 3 answers 11) ≡ false)
    × (is_lend 3 asked 9 (Lent 3 answers 9) ≡ false)
one_too_many = (refl, refl, refl, refl)

-- the drive, party 1, answers wherever it is asked: it is no lend in which its SST came back, although nobody else reports that
silent_drive : (is_lend 3 asked 60 (LentCut 3 ((NotTaken ∷ []) ∷ []) 8 (BreaksOff (FrameLost 0))) ≡ true)
    × (reports_own asked (LentCut 3 ((NotTaken ∷ []) ∷ []) 8 (BreaksOff (FrameLost 0))) ≡ true)
    × (answers_always 3 1 None (lend_entries 3 asked (LentCut 3 ((NotTaken ∷ []) ∷ []) 8 (BreaksOff (FrameLost 0)))) ≡ false)
    × (answers_always 3 2 None (lend_entries 3 asked (LentCut 3 ((NotTaken ∷ []) ∷ []) 8 (BreaksOff (FrameLost 0)))) ≡ true)
    × (answers_always 3 1 None (lend_entries 3 asked ten) ≡ true)
silent_drive = (refl, refl, refl, refl, refl)

-- ---- one frame, and the eighth, before which a byte is held

first_trace : (is_lend 3 asked 1 (Lent 3 answers 0) ≡ true) × (trace (Lent 3 answers 0) ≡ lines (codes "~ 0 UNL = UNL" ∷ codes "~ 0 RFC = RFC" ∷ codes "~ 0 TAD 03 = TAD 03"
    ∷ codes "~ 0 RFC = RFC" ∷ codes "~ 0 TCT > 3" ∷ codes "~ 3 NOP > 0" ∷ codes "~ 0 IFC = IFC" ∷ codes "~ 0 RFC = RFC" ∷ []))
unfolding digits
first_trace = (refl, refl)

-- NRD is the eighth: the byte that is held ends at the second controller
held_trace : (is_lend 3 asked 8 (Lent 3 answers 7) ≡ true) × (trace (Lent 3 answers 7) ≡ lines (codes "~ 0 UNL = UNL" ∷ codes "~ 0 RFC = RFC" ∷ codes "~ 0 TAD 03 = TAD 03"
    ∷ codes "~ 0 RFC = RFC" ∷ codes "~ 0 TCT > 3" ∷ codes "~ 3 NOP = NOP" ∷ codes "~ 3 RFC = RFC" ∷ codes "~ 3 UNL = UNL" ∷ codes "~ 3 RFC = RFC"
    ∷ codes "~ 3 TAD 01 = TAD 01" ∷ codes "~ 3 RFC = RFC" ∷ codes "~ 3 SST > 1" ∷ codes "~ 1 DAB 00 > 3" ∷ codes "~ 3 NRD > 0"
    ∷ codes "~ 0 IFC = IFC" ∷ codes "~ 0 RFC = RFC" ∷ []))
unfolding digits
held_trace = (refl, refl)

-- ---- nobody takes control

none_trace : (is_lend 2 asked 1 (NoTaker 2) ≡ true) × (trace (NoTaker 2) ≡ lines (codes "~ 0 UNL = UNL" ∷ codes "~ 0 RFC = RFC" ∷ codes "~ 0 TAD 02 = TAD 02"
    ∷ codes "~ 0 RFC = RFC" ∷ codes "~ 0 TCT = TCT" ∷ codes "~ 0 UNT = UNT" ∷ codes "~ 0 RFC = RFC" ∷ []))
unfolding digits
none_trace = (refl, refl)

tct_lost : (is_lend 2 asked 1 (NoTakerCut 2 4 1) ≡ true) × (trace (NoTakerCut 2 4 1) ≡ lines (codes "~ 0 UNL = UNL" ∷ codes "~ 0 RFC = RFC"
    ∷ codes "~ 0 TAD 02 = TAD 02" ∷ codes "~ 0 RFC = RFC" ∷ codes "~ 0 TCT ! 1" ∷ []))
unfolding digits
tct_lost = (refl, refl)

-- ---- breaks

-- NRD is lost while the byte is held, or the byte was lost before; the byte came back as another, and the drive ended by ETE; IFC is lost
breaks : (is_lend 3 asked 60 (LentCut 3 answers 7 (BreaksOff (FrameLost 2))) ≡ true) × (is_lend 3 asked 60 (LentCut 3 answers 7 (ByteLost 3)) ≡ true)
    × (is_lend 3 asked 60 (LentCut 3 answers 8 (BreaksOff (TalkerAltered (framed class.Dab 1) (outcome.Taken 3)))) ≡ true)
    × (is_lend 3 asked 10 (LentLost 3 answers 10 0 1) ≡ true)
breaks = (refl, refl, refl, refl)

nrd_lost : trace (LentCut 3 answers 7 (BreaksOff (FrameLost 2))) ≡ lines (codes "~ 0 UNL = UNL" ∷ codes "~ 0 RFC = RFC" ∷ codes "~ 0 TAD 03 = TAD 03"
    ∷ codes "~ 0 RFC = RFC" ∷ codes "~ 0 TCT > 3" ∷ codes "~ 3 NOP = NOP" ∷ codes "~ 3 RFC = RFC" ∷ codes "~ 3 UNL = UNL" ∷ codes "~ 3 RFC = RFC"
    ∷ codes "~ 3 TAD 01 = TAD 01" ∷ codes "~ 3 RFC = RFC" ∷ codes "~ 3 SST > 1" ∷ codes "~ 1 DAB 00 > 3" ∷ codes "~ 3 NRD ! 2" ∷ [])
unfolding digits
nrd_lost = refl

ends_by_ete : trace (LentCut 3 answers 8 (BreaksOff (TalkerAltered (framed class.Dab 1) (outcome.Taken 3)))) ≡ lines (codes "~ 0 UNL = UNL" ∷ codes "~ 0 RFC = RFC"
    ∷ codes "~ 0 TAD 03 = TAD 03" ∷ codes "~ 0 RFC = RFC" ∷ codes "~ 0 TCT > 3" ∷ codes "~ 3 NOP = NOP" ∷ codes "~ 3 RFC = RFC" ∷ codes "~ 3 UNL = UNL"
    ∷ codes "~ 3 RFC = RFC" ∷ codes "~ 3 TAD 01 = TAD 01" ∷ codes "~ 3 RFC = RFC" ∷ codes "~ 3 SST > 1" ∷ codes "~ 3 NRD = NRD" ∷ codes "~ 1 DAB 00 = DAB 01"
    ∷ codes "~ 1 ETE > 3" ∷ [])
unfolding digits
ends_by_ete = refl

-- a frame of the second controller is never altered, no end is both a break and at the host, and no status has a second byte
no_breaks : (is_lend 3 asked 60 (LentCut 3 answers 5 (BreaksOff (HostAltered (framed class.Cmd 0)))) ≡ false) × (is_lend 3 asked 60 (LentCut 3 answers 5 AtHost) ≡ false)
    × (is_lend 3 asked 60 (LentCut 3 answers 6 (ByteLost 3)) ≡ false) × (is_lend 3 asked 60 (Lent 3 ((ToItsEnd 1 (zero_status ∷ []) ∷ []) ∷ []) 0) ≡ false)
no_breaks = (refl, refl, refl, refl)

-- no rounds break off after the last frame that the host waits for: the tenth frame, UNT, is lost before it comes past the host, or after it
broken_in_time : (is_lend 3 asked 10 (LentCut 3 answers 10 (BreaksOff (FrameLost 0))) ≡ true)
    × (is_lend 3 asked 10 (LentCut 3 answers 10 (BreaksOff (FrameLost 1))) ≡ false)
    × (is_lend 3 asked 11 (LentCut 3 answers 10 (BreaksOff (FrameLost 1))) ≡ true)
broken_in_time = (refl, refl, refl)

-- what is lost is lost on its way: no party comes after the third; the byte of party 1 goes first to party 2 and 3, and then to the host and
-- to party 1; ETO and ETE go to party 2 and 3 alone
on_the_way : (is_lend 3 asked 60 (LentCut 3 answers 5 (BreaksOff (FrameLost 3))) ≡ true)
    × (is_lend 3 asked 60 (LentCut 3 answers 5 (BreaksOff (FrameLost 4))) ≡ false)
    × (is_lend 3 asked 60 (LentCut 3 answers 7 (ByteLost 2)) ≡ true) × (is_lend 3 asked 60 (LentCut 3 answers 7 (ByteLost 1)) ≡ false)
    × (is_lend 3 asked 60 (LentCut 3 answers 7 (ByteLost 4)) ≡ false)
    × (is_lend 3 asked 60 (LentCut 3 answers 8 (BreaksOff (FrameLost 1))) ≡ true)
    × (is_lend 3 asked 60 (LentCut 3 answers 8 (BreaksOff (FrameLost 2))) ≡ false)
    × (is_lend 3 asked 60 (LentCut 3 answers 9 (BreaksOff (FrameLost 2))) ≡ true)
    × (is_lend 3 asked 60 (LentCut 3 answers 9 (BreaksOff (FrameLost 0))) ≡ false)
    × (is_lend 3 asked 60 (LentCut 3 answers 8 (BreaksOff (TalkerAltered (framed class.Dab 1) (outcome.Lost 2)))) ≡ true)
    × (is_lend 3 asked 60 (LentCut 3 answers 8 (BreaksOff (TalkerAltered (framed class.Dab 1) (outcome.Lost 1)))) ≡ false)
on_the_way = (refl, refl, refl, refl, refl, refl, refl, refl, refl, refl, refl)

hosts_on_the_way : (is_lend 3 asked 10 (LentLost 3 answers 10 0 3) ≡ true) × (is_lend 3 asked 10 (LentLost 3 answers 10 0 4) ≡ false)
    × (is_lend 2 asked 1 (NoTakerCut 2 4 0) ≡ true) × (is_lend 2 asked 1 (NoTakerCut 2 4 3) ≡ false)
hosts_on_the_way = (refl, refl, refl, refl)

whole : (is_whole_lend ten ≡ true) × (is_whole_lend (NoTaker 2) ≡ true) × (is_whole_lend (LentLost 3 answers 10 0 1) ≡ false)
whole = (refl, refl, refl)

-- IFC came back if RFC alone is lost
back : (took_back (LentLost 3 answers 10 1 2) ≡ true) × (took_back (LentLost 3 answers 10 0 2) ≡ false)
back = (refl, refl)

-- ---- who controls, and who talks

abbrev from_power_on : Lend → List Entry
from_power_on lend = commanded 0 ifc ++ commanded 0 aau ++ entry 0 (aad 1) (outcome.Back (aad 4)) ∷ lend_entries 3 asked lend

taken_back : controller_after 0 (from_power_on ten) ≡ 0
taken_back = refl

still_controlled : controller_after 0 (from_power_on (LentCut 3 answers 7 (ByteLost 3))) ≡ 3
still_controlled = refl

keeps : (keeps_control (LentCut 3 answers 7 (ByteLost 3)) ≡ true) × (keeps_control (LentLost 3 answers 10 0 1) ≡ false)
    × (keeps_control (NoTakerCut 2 4 0) ≡ false)
keeps = (refl, refl, refl)

of_the_controller : (are_commands_led 0 (from_power_on ten) ≡ true) × (are_commands_led 0 (from_power_on (Lent 3 answers 7)) ≡ true)
of_the_controller = (refl, refl)

one_talker : (has_one_talker_led 0 (all_without_roles 3) (from_power_on ten) ≡ true) × (has_one_talker_led 0 (all_without_roles 3) (from_power_on (Lent 3 answers 7)) ≡ true)
    × (has_one_talker_led 0 (all_without_roles 3) (from_power_on (LentCut 3 answers 7 (BreaksOff (FrameLost 2)))) ≡ true)
one_talker = (refl, refl, refl)

-- if a status is reported as by a party after the second controller, nobody talks as it is spoken
abbrev beyond : Lend
beyond = LentCut 3 ((Stopped 5 [] zero_status ∷ []) ∷ []) 10 (BreaksOff (FrameLost 0))

from_beyond : (is_lend 3 (5 ∷ []) 60 beyond ≡ false) × (reports_own (5 ∷ []) beyond ≡ true)
    × (has_one_talker_led 0 (all_without_roles 3) (commanded 0 ifc ++ commanded 0 aau ++ entry 0 (aad 1) (outcome.Back (aad 4)) ∷ lend_entries 3 (5 ∷ []) beyond) ≡ false)
from_beyond = (refl, refl, refl)

-- if another device than the second controller was told to talk, it may talk on beside the one that is asked
two_talk : (was_taken (LentCut 2 answers 4 (BreaksOff (FrameLost 2))) ≡ true) × (is_lend 3 asked 60 (LentCut 2 answers 4 (BreaksOff (FrameLost 2))) ≡ true)
    × (has_one_talker_led 0 (all_without_roles 3) (from_power_on (LentCut 2 answers 4 (BreaksOff (FrameLost 2)))) ≡ false)
two_talk = (refl, refl, refl)
