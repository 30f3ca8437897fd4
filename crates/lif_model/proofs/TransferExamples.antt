-- Worked examples of transfers, computed by the checker.
use Rattle.std.proofs.Common.{◌≡◌, ◌++◌, ℕ, List, [], ◌∷◌, true, false, refl, replicate}
use Rattle.lif_model.specs.Transfers.{Transfer, records_of, all_pieces, full_pieces, are_carried_out, are_carried_in}

-- a record of a byte
abbrev full : ℕ → List ℕ
full byte = replicate 256 byte

-- two records and three bytes: three pieces, of which two are whole
pieces : all_pieces (full 1 ++ full 2 ++ 3 ∷ 3 ∷ 3 ∷ []) ≡ full 1 ∷ full 2 ∷ (3 ∷ 3 ∷ 3 ∷ []) ∷ []
pieces = refl

whole_pieces : full_pieces (full 1 ++ full 2 ++ 3 ∷ 3 ∷ 3 ∷ []) ≡ full 1 ∷ full 2 ∷ []
whole_pieces = refl

no_records : records_of [] ≡ 0
no_records = refl

abbrev write : ℕ → List ℕ → Transfer
write n bytes = record { writes = true; first = n; bytes = bytes }

abbrev read : ℕ → List ℕ → Transfer
read n bytes = record { writes = false; first = n; bytes = bytes }

-- a file of two records, in one run or in two
one_run : are_carried_out (read 2 (full 0) ∷ write 4 (full 1 ++ full 2) ∷ write 2 (full 9) ∷ []) 4 (full 1 ++ full 2) ≡ true
one_run = refl

two_runs : are_carried_out (write 4 (full 1) ∷ read 2 (full 0) ∷ write 5 (full 2) ∷ []) 4 (full 1 ++ full 2) ≡ true
two_runs = refl

-- not where a later write covers one of its records, nor in another order, nor by reads
overwritten : are_carried_out (write 4 (full 1 ++ full 2) ∷ write 5 (full 9) ∷ []) 4 (full 1 ++ full 2) ≡ false
overwritten = refl

turned : are_carried_out (write 5 (full 2) ∷ write 4 (full 1) ∷ []) 4 (full 1 ++ full 2) ≡ false
turned = refl

reads_alone : are_carried_out (read 4 (full 1) ∷ []) 4 (full 1) ≡ false
reads_alone = refl

read_in : are_carried_in (write 4 (full 1) ∷ read 4 (full 1) ∷ []) 4 (full 1) ≡ true
read_in = refl

-- a read that a later write covers carries nothing in
read_over : are_carried_in (read 4 (full 1) ∷ write 4 (full 1) ∷ []) 4 (full 1) ≡ false
read_over = refl
