-- Worked examples of the redo file, computed by the checker, on tapes of twelve records: the gate is record 8, the
-- targets record 9, and the new contents stand in records 10 and 11.
use Rattle.std.proofs.Common.{◌≡◌, ◌++◌, ℕ, List, [], ◌∷◌, true, false, refl, replicate, codes, ◌≢◌, zero, suc, arith}
use Rattle.lif_model.specs.Numbers.{two_at}
use Rattle.lif_model.specs.Stops.{Torn}
use Rattle.lif_model.specs.Tape.{Tape, record_at}
use Rattle.lif_model.specs.Shelf.{piece}
use Rattle.lif_model.specs.Gate.{is_open}
use Rattle.lif_model.specs.declared.version.Version.TheVariants.{One, Two}
use Rattle.lif_model.specs.Redo.{redo_start, data_record, are_targets, open_gate, zeros, targets_record, is_valid, Invalid, Valid, targets_of, changed, redo_of, settled, is_settled}
use Rattle.lif_model.specs.Commit.{settle_writes, commit_writes}
use Rattle.lif_model.proofs.Examples.{filled, blank}

-- ---- the records as they are written

gate_bytes : open_gate ≡ 0x4C ∷ 0x49 ∷ 0x46 ∷ 0x52 ∷ 0x45 ∷ 0x44 ∷ 0x4F ∷ 0x31 ∷ 0x20 ∷ 0x4F ∷ 0x50 ∷ 0x45 ∷ 0x4E ∷ 0x20 ∷ 0x20 ∷ 0x20 ∷ replicate 240 0
unfolding open_gate piece
gate_bytes = refl

-- record 2 alone
one_target : targets_record One (2 ∷ []) ≡ 0x4C ∷ 0x49 ∷ 0x46 ∷ 0x52 ∷ 0x45 ∷ 0x44 ∷ 0x4F ∷ 0x31 ∷ 0 ∷ 1 ∷ 0 ∷ 2 ∷ replicate 244 0
unfolding targets_record piece
one_target = refl

-- records 0 and 2, as `format` names them
two_targets : targets_record One (0 ∷ 2 ∷ []) ≡ 0x4C ∷ 0x49 ∷ 0x46 ∷ 0x52 ∷ 0x45 ∷ 0x44 ∷ 0x4F ∷ 0x31 ∷ 0 ∷ 2 ∷ 0 ∷ 0 ∷ 0 ∷ 2 ∷ replicate 242 0
unfolding targets_record piece
two_targets = refl

-- ---- targets records read

-- the text, and then these bytes and zeros
abbrev pub named : List ℕ → List ℕ
named bytes = filled (codes "LIFREDO1" ++ bytes)

reads_one : targets_of 12 (named (0 ∷ 1 ∷ 0 ∷ 2 ∷ [])) ≡ Valid One (2 ∷ [])
unfolding is_valid targets_record piece two_at
reads_one = refl

reads_two : targets_of 12 (named (0 ∷ 2 ∷ 0 ∷ 7 ∷ 0 ∷ 2 ∷ [])) ≡ Valid One (7 ∷ 2 ∷ [])
unfolding is_valid targets_record piece two_at
reads_two = refl

-- the second byte of a number counts: record 258 is on no tape of twelve records, and is below the gate of 512
reads_high_byte : (targets_of 12 (named (0 ∷ 1 ∷ 1 ∷ 2 ∷ [])) ≡ Invalid) × (targets_of 512 (named (0 ∷ 1 ∷ 1 ∷ 2 ∷ [])) ≡ Valid One (258 ∷ []))
unfolding is_valid targets_record piece two_at
reads_high_byte = (refl, refl)

no_targets : targets_of 12 (named (0 ∷ 0 ∷ [])) ≡ Invalid
unfolding is_valid targets_record piece two_at
no_targets = refl

three_targets : targets_of 12 (named (0 ∷ 3 ∷ 0 ∷ 2 ∷ 0 ∷ 3 ∷ 0 ∷ 4 ∷ [])) ≡ Invalid
unfolding is_valid targets_record piece two_at
three_targets = refl

-- one target, and a byte more that is not zero
more_bytes : targets_of 12 (named (0 ∷ 1 ∷ 0 ∷ 2 ∷ 0 ∷ 3 ∷ [])) ≡ Invalid
unfolding is_valid targets_record piece two_at
more_bytes = refl

-- the last byte of the record
last_byte : targets_of 12 (codes "LIFREDO1" ++ 0 ∷ 1 ∷ 0 ∷ 2 ∷ replicate 243 0 ++ 1 ∷ []) ≡ Invalid
unfolding is_valid targets_record piece two_at
last_byte = refl

gate_as_target : targets_of 12 (named (0 ∷ 1 ∷ 0 ∷ 8 ∷ [])) ≡ Invalid
unfolding is_valid targets_record piece two_at
gate_as_target = refl

equal_targets : targets_of 12 (named (0 ∷ 2 ∷ 0 ∷ 2 ∷ 0 ∷ 2 ∷ [])) ≡ Invalid
unfolding is_valid targets_record piece two_at
equal_targets = refl

other_text : targets_of 12 (filled (codes "LIFREDO3" ++ 0 ∷ 1 ∷ 0 ∷ 2 ∷ [])) ≡ Invalid
unfolding is_valid targets_record piece two_at
other_text = refl

-- ---- settling

abbrev pub ones : List ℕ
ones = replicate 256 1

abbrev pub twos : List ℕ
twos = replicate 256 2

-- eight blank records, a gate, targets, and contents of ones and of twos
abbrev pub with_redo : List ℕ → List ℕ → Tape
with_redo gate targets = blank ∷ blank ∷ blank ∷ blank ∷ blank ∷ blank ∷ blank ∷ blank ∷ gate ∷ targets ∷ ones ∷ twos ∷ []

abbrev pub opened : List ℕ
opened = filled (codes "LIFREDO1 OPEN   ")

-- both targets are replaced, in their order, and the gate record becomes zeros
settles_two : settled (with_redo opened (named (0 ∷ 2 ∷ 0 ∷ 7 ∷ 0 ∷ 2 ∷ [])))
    ≡ blank ∷ blank ∷ twos ∷ blank ∷ blank ∷ blank ∷ blank ∷ ones ∷ blank ∷ named (0 ∷ 2 ∷ 0 ∷ 7 ∷ 0 ∷ 2 ∷ []) ∷ ones ∷ twos ∷ []
unfolding is_open is_valid targets_record piece two_at zeros
settles_two = refl

-- the rest of an open gate record may be anything
settles_one : settled (with_redo (codes "LIFREDO1 OPEN   " ++ replicate 240 9) (named (0 ∷ 1 ∷ 0 ∷ 0 ∷ [])))
    ≡ ones ∷ blank ∷ blank ∷ blank ∷ blank ∷ blank ∷ blank ∷ blank ∷ blank ∷ named (0 ∷ 1 ∷ 0 ∷ 0 ∷ []) ∷ ones ∷ twos ∷ []
unfolding is_open is_valid targets_record piece two_at zeros
settles_one = refl

-- a closed gate, and an open one with three targets: the tape is settled as it is
shut_is_settled : (is_settled (with_redo blank (named (0 ∷ 1 ∷ 0 ∷ 2 ∷ []))) ≡ true) × (settled (with_redo blank (named (0 ∷ 1 ∷ 0 ∷ 2 ∷ []))) ≡ with_redo blank (named (0 ∷ 1 ∷ 0 ∷ 2 ∷ [])))
unfolding is_open is_valid targets_record piece two_at zeros
shut_is_settled = (refl, refl)

invalid_is_settled : (is_settled (with_redo opened (named (0 ∷ 3 ∷ 0 ∷ 2 ∷ 0 ∷ 3 ∷ 0 ∷ 4 ∷ []))) ≡ true)
    × (settled (with_redo opened (named (0 ∷ 3 ∷ 0 ∷ 2 ∷ 0 ∷ 3 ∷ 0 ∷ 4 ∷ []))) ≡ with_redo opened (named (0 ∷ 3 ∷ 0 ∷ 2 ∷ 0 ∷ 3 ∷ 0 ∷ 4 ∷ [])))
unfolding is_open is_valid targets_record piece two_at zeros
invalid_is_settled = (refl, refl)

open_is_not_settled : is_settled (with_redo opened (named (0 ∷ 1 ∷ 0 ∷ 2 ∷ []))) ≡ false
unfolding is_open is_valid targets_record piece two_at zeros
open_is_not_settled = refl

-- the later of two changes at one record stays
later_change : changed ((1, ones) ∷ (1, twos) ∷ []) (blank ∷ blank ∷ []) ≡ blank ∷ twos ∷ []
later_change = refl

-- ---- a stop

-- while record 1 is written, any bytes may be left there
torn : Torn 1 (ones ∷ ones ∷ ones ∷ []) (ones ∷ twos ∷ ones ∷ [])
torn = record { records = refl; bytes = refl; elsewhere = elsewhere }
  where
    elsewhere : (k : ℕ) → k ≢ 1 → record_at (ones ∷ twos ∷ ones ∷ []) k ≡ record_at (ones ∷ ones ∷ ones ∷ []) k
    elsewhere zero off = refl
    elsewhere (suc zero) off = absurd (off refl)
    elsewhere (suc (suc k)) off = refl

-- and in no other record
not_torn : Torn 1 (ones ∷ ones ∷ []) (twos ∷ ones ∷ []) → ⊥
not_torn torn = let first : twos ≡ ones = torn.elsewhere 0 (λ e. absurd (omega (arith, e))) in cc

-- a commit of version 1 takes one or two records below the gate
commits : (are_targets One 12 (2 ∷ []) ≡ true) × (are_targets One 12 (0 ∷ 2 ∷ []) ≡ true) × (are_targets One 12 [] ≡ false) × (are_targets One 12 (0 ∷ 1 ∷ 2 ∷ []) ≡ false)
    × (are_targets One 12 (8 ∷ []) ≡ false) × (are_targets One 12 (2 ∷ 2 ∷ []) ≡ false)
commits = (refl, refl, refl, refl, refl, refl)

-- ---- the order of writes

-- one change, where the gate reads open
writes_one : commit_writes One 12 true ((2, ones) ∷ [])
    ≡ (8, zeros) ∷ (10, ones) ∷ (9, targets_record One (2 ∷ [])) ∷ (8, open_gate) ∷ (2, ones) ∷ (8, zeros) ∷ []
writes_one = refl

-- two changes, where it reads closed
writes_two : commit_writes One 12 false ((7, ones) ∷ (2, twos) ∷ [])
    ≡ (10, ones) ∷ (11, twos) ∷ (9, targets_record One (7 ∷ 2 ∷ [])) ∷ (8, open_gate) ∷ (7, ones) ∷ (2, twos) ∷ (8, zeros) ∷ []
writes_two = refl

-- the same changes with version 2, on a tape of 512 records
writes_with_two : commit_writes Two 512 false ((7, ones) ∷ (2, twos) ∷ [])
    ≡ (478, ones) ∷ (479, twos) ∷ (509, targets_record Two (7 ∷ 2 ∷ [])) ∷ (508, open_gate) ∷ (7, ones) ∷ (2, twos) ∷ (508, zeros) ∷ []
writes_with_two = refl

-- settling writes the targets in the order in which they are named, and nothing where no redo is open
settling_writes : (settle_writes 12 ((7, ones) ∷ (2, twos) ∷ []) ≡ (7, ones) ∷ (2, twos) ∷ (8, zeros) ∷ []) × (settle_writes 12 [] ≡ [])
settling_writes = (refl, refl)

-- ---- version 2

-- on a tape of 512 records it has records 478 to 511; the first thirty contents stand before the gate, and two at the end
places_of_two : (redo_start Two 512 ≡ 478) × (data_record Two 512 0 ≡ 478) × (data_record Two 512 29 ≡ 507) × (data_record Two 512 30 ≡ 510) × (data_record Two 512 31 ≡ 511)
places_of_two = (refl, refl, refl, refl, refl)

-- the text of version 2, and these bytes and zeros
abbrev named_two : List ℕ → List ℕ
named_two bytes = filled (codes "LIFREDO2" ++ bytes)

two_of_two : targets_record Two (7 ∷ 2 ∷ []) ≡ named_two (0 ∷ 2 ∷ 0 ∷ 7 ∷ 0 ∷ 2 ∷ [])
unfolding targets_record piece
two_of_two = refl

-- three targets are valid of version 2, below its redo file
reads_three : (targets_of 40 (named_two (0 ∷ 3 ∷ 0 ∷ 2 ∷ 0 ∷ 5 ∷ 0 ∷ 3 ∷ [])) ≡ Valid Two (2 ∷ 5 ∷ 3 ∷ [])) × (targets_of 40 (named_two (0 ∷ 1 ∷ 0 ∷ 6 ∷ [])) ≡ Invalid)
unfolding is_valid targets_record piece two_at
reads_three = (refl, refl)

-- k record numbers from n on
abbrev numbers_from : ℕ → ℕ → List ℕ
numbers_from n zero = []
numbers_from n (suc k) = n ∷ numbers_from (suc n) k

-- it takes 32 targets and no more, and version 1 two
most : (are_targets Two 512 (numbers_from 100 32) ≡ true) × (are_targets Two 512 (numbers_from 100 33) ≡ false) × (are_targets One 512 (numbers_from 100 3) ≡ false)
most = (refl, refl, refl)

-- records 478 to 507 are targets of version 1 alone
only_of_one : (are_targets One 512 (507 ∷ []) ≡ true) × (are_targets Two 512 (477 ∷ []) ≡ true) × (are_targets Two 512 (478 ∷ []) ≡ false)
only_of_one = (refl, refl, refl)

-- A tape of 36 records, of which the first two may be targets of version 2: the contents stand in records 2 and 3, and
-- for version 1 in records 34 and 35. Record 32 is the gate, and 33 has the targets.
abbrev long_tape : List ℕ → List ℕ → List ℕ → List ℕ → Tape
long_tape first second gate targets = first ∷ second ∷ ones ∷ twos ∷ replicate 28 [] ++ gate ∷ targets ∷ (3 ∷ []) ∷ (4 ∷ []) ∷ []

settles_with_two : settled (long_tape [] [] opened (named_two (0 ∷ 2 ∷ 0 ∷ 1 ∷ 0 ∷ 0 ∷ []))) ≡ long_tape twos ones blank (named_two (0 ∷ 2 ∷ 0 ∷ 1 ∷ 0 ∷ 0 ∷ []))
unfolding is_open is_valid targets_record piece two_at zeros
settles_with_two = refl

-- the targets record tells the version: with the text of version 1 the same places change to other contents
settles_with_one : settled (long_tape [] [] opened (named (0 ∷ 2 ∷ 0 ∷ 1 ∷ 0 ∷ 0 ∷ []))) ≡ long_tape (4 ∷ []) (3 ∷ []) blank (named (0 ∷ 2 ∷ 0 ∷ 1 ∷ 0 ∷ 0 ∷ []))
unfolding is_open is_valid targets_record piece two_at zeros
settles_with_one = refl

-- a record of its own redo file is no target of version 2
not_with_two : redo_of (long_tape [] [] opened (named_two (0 ∷ 1 ∷ 0 ∷ 2 ∷ []))) ≡ []
unfolding is_open is_valid targets_record piece two_at zeros
not_with_two = refl
