-- The identify byte bit by bit.
use Rattle.std.proofs.Common.{◌≡◌, ◌≢◌, ℕ, ◌^◌, Bool, true, false, Option, Some, None, refl, sym, arith, bit_or, subst}
use Rattle.std.specs.Prelude.{if◌then◌else◌}
use Rattle.std.specs.Int.{bit_at}
use Rattle.std.proofs.lemmas.Nat.Bits.{bit_at_or, bit_at-pow_same, bit_at-pow_other, bit_at-lt}
use Rattle.il_poll.specs.declared.service.Assignment.{Assignment}
use Rattle.il_poll.specs.Service.{polled, agree, SetsBit, BitByBit}

set_same : (byte k : ℕ) → bit_at (bit_or byte (2 ^ k)) k ≡ 1
set_same byte k = rw (bit_at_or, bit_at-pow_same) (omega (arith, bit_at-lt byte k))

set_other : (byte k i : ℕ) → i ≢ k → bit_at (bit_or byte (2 ^ k)) i ≡ bit_at byte i
set_other byte k i other = rw (bit_at_or, bit_at-pow_other k i other) (omega arith)

placed : (a : Assignment) (answers : Bool) (byte : ℕ) →
    BitByBit a answers byte (if answers then bit_or byte (2 ^ a.bit) else byte)
placed a true byte = record { own = set_same byte a.bit; others = set_other byte a.bit }
placed a false byte = record { own = refl; others = λ k other. refl }

-- the identify byte has the assigned bit where the device responds, and no other bit changes
pub SetsBit-polled : (place : Option Assignment) (wants : Bool) (byte after : ℕ) →
    after ≡ polled place wants byte → SetsBit place wants byte after
SetsBit-polled None wants byte after h = h
SetsBit-polled (Some a) wants byte after h = subst (λ (n : ℕ). BitByBit a (agree a.sense wants) byte n) (sym h) (placed a (agree a.sense wants) byte)
