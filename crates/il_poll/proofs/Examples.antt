-- Worked examples of the definitions.
use Rattle.std.proofs.Common.{◌≡◌, true, false, Some, None, refl, lit<}
use Rattle.std.specs.Int.{bit_at}
use Rattle.il_poll.specs.Service.{IsService, wants_service, status_byte_of, assigned, agree, polled}

-- status 3 wants service: the answer to SST is 43 hex
three_wants : wants_service 3 ≡ true
three_wants = refl

three_byte : status_byte_of 3 ≡ 0x43
three_byte = refl

zero_byte : status_byte_of 0 ≡ 0x00
zero_byte = refl

greatest_is_one : IsService (record { status = 63; assignment = Some (assigned 15) })
greatest_is_one = record { status = lit< tt; place = lit< tt }

-- PPE 9 is bit 1 with sense 1, PPE 7 is bit 7 with sense 0
ppe_nine : assigned 9 ≡ record { bit = 1; sense = true }
ppe_nine = refl

ppe_seven : assigned 7 ≡ record { bit = 7; sense = false }
ppe_seven = refl

both_false_agree : agree false false ≡ true
both_false_agree = refl

-- with sense 1 the bit asks for service, with sense 0 it asks for none
asks : polled (Some (assigned 9)) true 0x80 ≡ 0x82
asks = refl

asks_not : polled (Some (assigned 9)) false 0x80 ≡ 0x80
asks_not = refl

asks_none : polled (Some (assigned 1)) false 0x80 ≡ 0x82
asks_none = refl

-- a bit that is set already stays set
stays_set : polled (Some (assigned 9)) false 0x02 ≡ 0x02
stays_set = refl

no_place : polled None true 0x00 ≡ 0x00
no_place = refl

-- 82 hex is 1000 0010 in bits
bit_one : bit_at 0x82 1 ≡ 1
bit_one = refl

bit_two : bit_at 0x82 2 ≡ 0
bit_two = refl
