-- Worked examples of the definitions, on numbers and names of the HP-IL Interface Specification.
use Rattle.std.proofs.Common.{◌≡◌, true, false, codes, refl, Some, None, [], lit<}
use Rattle.std.specs.Fmt.{digits}
use Rattle.hex.specs.Hex.{decode_pairs}
use Rattle.il_frames.specs.declared.frame.Class.TheVariants as class
use Rattle.il_frames.specs.declared.message.Message.TheVariants as msg
use Rattle.il_frames.specs.declared.entry.Entry.{Entry}
use Rattle.il_frames.specs.declared.entry.Outcome.TheVariants as outcome
use Rattle.il_frames.specs.Frames.{class_of, byte_of, framed, IsFrame, number_of_class, bits_of, is_data, has_service, with_service, same_but_service}
use Rattle.il_frames.specs.Messages.{commands, ready_messages, message_in, message_of, is_in_range, frame_of, by_name}
use Rattle.il_frames.specs.Texts.{name_of, number_of, hex_pair, number_text, message_text, text_of}
use Rattle.il_frames.specs.Names.{candidate_of, is_space}
use Rattle.il_frames.specs.Entries.{outcome_text, entry_text, IsEntry}

-- LAD 01 is 1057: control bits 100, byte 21 hex
lad_bits : bits_of (framed class.Cmd 0x21) ≡ 1057
lad_bits = refl

lad_class : class_of (framed class.Cmd 0x21) ≡ class.Cmd
lad_class = refl

lad_byte : byte_of (framed class.Cmd 0x21) ≡ 33
lad_byte = refl

lad_is_frame : IsFrame (framed class.Cmd 0x21)
lad_is_frame = lit< tt

last_bits : bits_of (framed class.Isr 0xFF) ≡ 2047
last_bits = refl

ready_is_101 : number_of_class class.Rdy ≡ 5
ready_is_101 = refl

-- an END frame is a data or end frame, a command is none
end_is_data : is_data (framed class.End 0) ≡ true
end_is_data = refl

command_is_no_data : is_data (framed class.Cmd 0) ≡ false
command_is_no_data = refl

-- ESR is END with the service bit; a ready frame has no service bit though its control bits are 101
esr_has_service : has_service (framed class.Esr 7) ≡ true
esr_has_service = refl

ready_has_no_service : has_service (framed class.Rdy 7) ≡ false
ready_has_no_service = refl

end_with_service : with_service (framed class.End 7) ≡ framed class.Esr 7
end_with_service = refl

ready_with_service : with_service (framed class.Rdy 7) ≡ framed class.Rdy 7
ready_with_service = refl

-- DAB 07 and DSR 07 differ in the service bit alone; DAB 07 and END 07 do not, nor do CMD and RDY
dab_and_dsr : same_but_service (framed class.Dab 7) (framed class.Dsr 7) ≡ true
dab_and_dsr = refl

dab_and_end : same_but_service (framed class.Dab 7) (framed class.End 7) ≡ false
dab_and_end = refl

command_and_ready : same_but_service (framed class.Cmd 7) (framed class.Rdy 7) ≡ false
command_and_ready = refl

other_byte : same_but_service (framed class.Dab 7) (framed class.Dsr 8) ≡ false
other_byte = refl

-- the last listen address is 30; the byte after it is UNL
last_listen : message_in commands 0x3E msg.OtherCmd ≡ msg.Lad 30
last_listen = refl

after_last_listen : message_in commands 0x3F msg.OtherCmd ≡ msg.Unl
after_last_listen = refl

-- byte 02 of the commands has no name
no_name : message_in commands 0x02 msg.OtherCmd ≡ msg.OtherCmd 2
no_name = refl

ready_a0 : message_in ready_messages 0xA0 msg.OtherRdy ≡ msg.OtherRdy 160
ready_a0 = refl

ddl_2 : message_of (framed class.Cmd 0xA2) ≡ msg.Ddl 2
ddl_2 = refl

-- PPE has 16 numbers, and an address is at most 30
ppe_range : is_in_range (msg.Ppe 15) ≡ true
ppe_range = refl

ppe_no_range : is_in_range (msg.Ppe 16) ≡ false
ppe_no_range = refl

address_no_range : is_in_range (msg.Tad 31) ≡ false
address_no_range = refl

-- TAD 05 is said by the command 45 hex
talk_frame : frame_of (msg.Tad 5) ≡ framed class.Cmd 0x45
talk_frame = refl

unnamed_frame : frame_of (msg.OtherRdy 0xFF) ≡ framed class.Rdy 0xFF
unnamed_frame = refl

-- byte 02 of the commands has no name and says itself; byte 00 says NUL
unnamed_by_name : by_name (msg.OtherCmd 2) ≡ msg.OtherCmd 2
unnamed_by_name = refl

named_by_name : by_name (msg.OtherCmd 0) ≡ msg.Nul
named_by_name = refl

talk_by_name : by_name (msg.Tad 5) ≡ msg.Tad 5
talk_by_name = refl

talk_name : name_of (msg.Tad 5) ≡ codes "TAD"
talk_name = refl

talk_number : number_of (msg.Tad 5) ≡ Some 5
talk_number = refl

rfc_number : number_of msg.Rfc ≡ None
rfc_number = refl

ten_in_hex : hex_pair 10 ≡ codes "0A"
ten_in_hex = refl

-- one space, two digits; nothing without a number
number_10 : number_text (Some 10) ≡ codes " 0A"
number_10 = refl

no_number : number_text None ≡ []
no_number = refl

poll_enable_15 : message_text (msg.Ppe 15) ≡ codes "PPE 0F"
poll_enable_15 = refl

lad_text : text_of (framed class.Cmd 0x21) ≡ codes "LAD 01"
lad_text = refl

rfc_text : text_of (framed class.Rdy 0x00) ≡ codes "RFC"
rfc_text = refl

unnamed_text : text_of (framed class.Rdy 0xFF) ≡ codes "RDY FF"
unnamed_text = refl

-- the text of a byte without a name leads back to it; so does a named byte's false spelling, which
-- is then refused, since the frame's own text is another
read_unnamed : candidate_of (codes "CMD 02") ≡ Some (framed class.Cmd 2)
unfolding decode_pairs
read_unnamed = refl

read_false : candidate_of (codes "CMD 00") ≡ Some (framed class.Cmd 0)
unfolding decode_pairs
read_false = refl

space : is_space 0x20 ≡ true
space = refl

digit_is_no_space : is_space 0x30 ≡ false
digit_is_no_space = refl

came_back : outcome_text (outcome.Back (framed class.Rdy 0x83)) ≡ codes " = AAD 03"
came_back = refl

-- the second device took SST of the host; RFC of party 12 did not reach the host
sst_taken : Entry
sst_taken = record { source = 0; frame = framed class.Rdy 0x61; outcome = outcome.Taken 2 }

rfc_lost : Entry
rfc_lost = record { source = 12; frame = framed class.Rdy 0x00; outcome = outcome.Lost 0 }

taken : entry_text sst_taken ≡ codes "~ 0 SST > 2"
unfolding sst_taken digits
taken = refl

lost : entry_text rfc_lost ≡ codes "~ 12 RFC ! 0"
unfolding rfc_lost digits
lost = refl

lost_is_entry : IsEntry rfc_lost
unfolding rfc_lost
lost_is_entry = (lit< tt, lit< tt, lit< tt)
