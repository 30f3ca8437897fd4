-- Worked examples of what is known of a tape.
use Rattle.std.proofs.Common.{◌≡◌, ◌<◌, ◌++◌, ℕ, zero, suc, List, [], ◌∷◌, Option, Some, None, Ok, true, false, length, get_or, replicate, refl, sym, ap, arith}
use Rattle.lif_model.specs.Tape.{Tape, IsTape, record_at}
use Rattle.loop_model.specs.Units.{RecordUnit}
use Rattle.trace_readers.specs.declared.expected.UnitFault.TheVariants as fault
use Rattle.trace_readers.specs.Expected.{Known, IsAllowedAs, Allows, AreWhole, IsExpectedAfter, IsToldBy, lie_on, write_fault, known_after, unit_fault, after_unit, write_unit}
use Rattle.trace_readers.proofs.ExpectedLemmas.{expected_first, expected_more, told_tapes}

-- a record of a byte
abbrev full : ℕ → List ℕ
full byte = replicate 256 byte

-- the first of two records is known
abbrev half : List (Option (List ℕ))
half = Some (full 1) ∷ None ∷ []

a_known : Known
a_known = record { records = half; room = 2 }

-- ---- tapes that are allowed

any_stands : IsAllowedAs None (full 7)
any_stands = tt

known_stands : IsAllowedAs (Some (full 1)) (full 1)
known_stands = refl

full_differs : full 3 ≡ full 1 → ⊥
full_differs same = let three : 3 ≡ 1 = ap (λ (bytes : List ℕ). get_or bytes 0 0) same in absurd (omega (arith, three))

other_stands_not : IsAllowedAs (Some (full 1)) (full 3) → ⊥
other_stands_not = full_differs

two_full : (a b : ℕ) → IsTape 2 (full a ∷ full b ∷ [])
two_full a b = record { records = refl; bytes = sizes }
  where
    sizes : (k : ℕ) → k < 2 → length (get_or (full a ∷ full b ∷ []) k []) ≡ 256
    sizes zero lt = refl
    sizes (suc zero) lt = refl
    sizes (suc (suc k)) lt = absurd (omega (arith, lt))

-- any second record
allowed : Allows half (full 1 ∷ full 7 ∷ [])
allowed = record { shape = two_full 1 7; each = each }
  where
    each : (k : ℕ) → k < 2 → IsAllowedAs (get_or half k None) (record_at (full 1 ∷ full 7 ∷ []) k)
    each zero lt = refl
    each (suc zero) lt = tt
    each (suc (suc k)) lt = absurd (omega (arith, lt))

-- not another first record, and no shorter tape
not_allowed : Allows half (full 3 ∷ full 7 ∷ []) → ⊥
not_allowed has = full_differs (has.each 0 (omega arith))

too_short : Allows half (full 1 ∷ []) → ⊥
too_short has = let one : 1 ≡ 2 = has.shape.records in absurd (omega (arith, one))

half_is_whole : AreWhole half
half_is_whole = λ k bytes is. go k bytes is
  where
    go : (k : ℕ) (bytes : List ℕ) → get_or half k None ≡ Some bytes → length bytes ≡ 256
    go zero bytes is = sym (ap size is)
      where
        size : Option (List ℕ) → ℕ
        size None = 256
        size (Some b) = length b
    go (suc zero) bytes is = cc
    go (suc (suc k)) bytes is = cc

short_is_not_whole : AreWhole (Some (1 ∷ []) ∷ []) → ⊥
short_is_not_whole whole = let one : 1 ≡ 256 = whole 0 (1 ∷ []) refl in absurd (omega (arith, one))

-- ---- units

-- the last two of three records, and no more
lies : lie_on 3 1 (full 1 ++ full 2) ≡ true
lies = refl

lies_past : lie_on 3 2 (full 1 ++ full 2) ≡ false
lies_past = refl

lies_in_part : lie_on 3 0 (5 ∷ []) ≡ false
lies_in_part = refl

-- no bytes lie anywhere
nothing_lies : lie_on 3 9 [] ≡ true
nothing_lies = refl

bad_unit : write_fault 3 2 (full 1 ++ full 2) true ≡ Some fault.BadUnit
bad_unit = refl

unclear : write_fault 3 0 (full 1 ++ full 2) false ≡ Some fault.Unclear
unclear = refl

clear : write_fault 3 0 (full 1 ++ 2 ∷ []) false ≡ None
clear = refl

put : known_after 1 (full 2) true half ≡ Some (full 1) ∷ Some (full 2) ∷ []
put = refl

maybe_put : known_after 0 (full 2 ++ 3 ∷ []) false half ≡ None ∷ None ∷ []
maybe_put = refl

-- past the tape, or with no record sent whole, nothing was put
past_put : known_after 2 (full 2) false half ≡ half
past_put = refl

not_put : known_after 0 (3 ∷ []) false half ≡ half
not_put = refl

-- a read is no fault, and leaves what is known
read_unit : RecordUnit
read_unit = record { writes = false; first = 0; bytes = full 3; status = None }

read_fault : unit_fault 2 read_unit ≡ None
unfolding read_unit
read_fault = refl

after_read : after_unit read_unit half ≡ half
unfolding read_unit
after_read = refl

-- ---- one record, and a write of it that failed

one_full : IsTape 1 (full 1 ∷ [])
one_full = record { records = refl; bytes = sizes }
  where
    sizes : (k : ℕ) → k < 1 → length (get_or (full 1 ∷ []) k []) ≡ 256
    sizes zero lt = refl
    sizes (suc k) lt = absurd (omega (arith, lt))

failed : IsExpectedAfter (full 1 ∷ []) (write_unit 0 (full 2) (Some 1) ∷ []) (None ∷ [])
failed =
    expected_more (full 1 ∷ []) [] (write_unit 0 (full 2) (Some 1)) (Some (full 1) ∷ []) refl
    (expected_first 1 (full 1 ∷ []) one_full)

-- any record may stand
one_any : Allows (None ∷ []) (full 3 ∷ [])
one_any = record { shape = record { records = refl; bytes = sizes }; each = each }
  where
    sizes : (k : ℕ) → k < 1 → length (get_or (full 3 ∷ []) k []) ≡ 256
    sizes zero lt = refl
    sizes (suc k) lt = absurd (omega (arith, lt))

    each : (k : ℕ) → k < 1 → IsAllowedAs (get_or (None ∷ []) k None) (record_at (full 3 ∷ []) k)
    each zero lt = tt
    each (suc k) lt = absurd (omega (arith, lt))

-- before it no other record may stand
not_yet : IsExpectedAfter (full 1 ∷ []) [] (None ∷ []) → ⊥
not_yet is =
    let same : full 3 ∷ [] ≡ full 1 ∷ [] = (is.tapes (full 3 ∷ [])).1 one_any in
    full_differs (ap (λ (tape : Tape). record_at tape 0) same)

told : IsToldBy 0 (full 2) false (Some (full 1) ∷ []) (None ∷ [])
told = told_tapes 0 (full 2) false (Some (full 1) ∷ []) (None ∷ []) (Ok tt) refl refl

-- the tape cannot stay known
not_told : IsToldBy 0 (full 2) false (Some (full 1) ∷ []) (Some (full 1) ∷ []) → ⊥
not_told is =
    let after = is (full 1 ∷ []) [] (Some 1) refl (expected_first 1 (full 1 ∷ []) one_full) in
    let same = (after.tapes (full 3 ∷ [])).0 ((failed.tapes (full 3 ∷ [])).1 one_any) in
    full_differs (same.each 0 (omega arith))
