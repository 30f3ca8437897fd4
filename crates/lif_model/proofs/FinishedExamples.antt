-- Worked examples, computed by the checker: tapes of twelve records on which nothing is left to settle or to finish.
use Rattle.std.proofs.Common.{◌≡◌, ◌⊎◌, ◌<◌, ◌≤◌, ℕ, List, [], ◌∷◌, inl, inr, refl, ap, arith, get_or, get_or-set_other, replicate, set}
use Rattle.std.proofs.lemmas.Bool.{eqb-false}
use Rattle.lif_model.specs.Numbers.{two_at, four_at}
use Rattle.lif_model.specs.Tape.{Tape, record_at}
use Rattle.lif_model.specs.Shelf.{piece}
use Rattle.lif_model.specs.Gate.{is_open}
use Rattle.lif_model.specs.Redo.{is_valid, targets_record, zeros}
use Rattle.lif_model.specs.Directory.{name_of, entry_at, entries_of}
use Rattle.lif_model.specs.Finished.{IsFinished, IsPlain, StaysOutside}
use Rattle.lif_model.proofs.Examples as base
use Rattle.lif_model.proofs.RedoExamples.{opened, named}

-- byte 0 of a record
abbrev first_byte : Tape → ℕ → ℕ
first_byte t k = get_or (record_at t k) 0 0

-- the open redo of a tape, which puts zeros into record 4
abbrev open_tape : Tape
open_tape = set (set base.formatted 8 opened) 9 (named (0 ∷ 1 ∷ 0 ∷ 4 ∷ []))

plain : IsPlain 12 base.formatted
unfolding two_at four_at name_of is_open entry_at entries_of is_valid targets_record piece zeros
plain = record { is_settled = refl; clear = refl }

-- not with an open redo
not_plain : IsPlain 12 open_tape → ⊥
unfolding two_at four_at name_of is_open entry_at entries_of is_valid targets_record piece zeros
not_plain so = eqb-false 0 0x4C refl (ap (λ t. first_byte t 8) so.is_settled)

-- a settled tape without a mark is finished as it is
finished_as_it_is : IsFinished base.formatted base.formatted
unfolding two_at four_at name_of is_open entry_at entries_of is_valid targets_record piece zeros
finished_as_it_is = record { is_settled = refl; records = refl; plain = λ off. refl; below = λ k lt. refl; volume = refl; clear = refl }

-- and not to a tape with another record 5
not_finished : IsFinished base.formatted (set base.formatted 5 (replicate 256 7)) → ⊥
unfolding two_at four_at name_of is_open entry_at entries_of is_valid targets_record piece zeros
not_finished so = eqb-false 7 0 refl (ap (λ t. first_byte t 5) (so.plain refl))

-- ---- records outside

abbrev long : Tape
long = replicate 40 base.blank

abbrev ones : List ℕ
ones = replicate 256 1

-- a record of those that may change
inside : StaysOutside 2 5 long (set long 4 ones)
inside = record { records = refl; same = λ k below outside. other k outside }
  where
    other : (k : ℕ) → (k < 2) ⊎ (5 ≤ k) → record_at (set long 4 ones) k ≡ record_at long k
    other k (inl low) = get_or-set_other long 4 k ones [] (λ is. omega arith)
    other k (inr high) = get_or-set_other long 4 k ones [] (λ is. omega arith)

-- the first one after them may not
not_inside : StaysOutside 2 5 long (set long 5 ones) → ⊥
not_inside so = eqb-false 1 0 refl (ap (λ (r : List ℕ). get_or r 0 0) (so.same 5 (omega arith) (inr (omega arith))))
