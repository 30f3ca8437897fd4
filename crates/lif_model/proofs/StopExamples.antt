-- Worked examples of power stops: what a write leaves, how time goes on, and what a commit may leave in each of its
-- steps, on tapes of twelve records whose gate is record 8.
use Rattle.std.proofs.Common.{◌≡◌, ◌≢◌, ◌<◌, ◌≤◌, ◌⊎◌, inl, inr, ℕ, zero, suc, List, [], ◌∷◌, Some, refl, ap, subst, replicate, arith, set, get_or}
use Rattle.std.specs.Prelude.{Ok, Err}
use Rattle.lif_model.specs.Numbers.{two_at}
use Rattle.lif_model.specs.Tape.{Tape, record_at}
use Rattle.lif_model.specs.Shelf.{piece}
use Rattle.lif_model.specs.Gate.{is_open}
use Rattle.lif_model.specs.Stops.{Torn, Wrote, Elapses, StandsStill, LeavesOnly}
use Rattle.lif_model.specs.declared.version.Version.TheVariants.{One}
use Rattle.lif_model.specs.Redo.{Changes, targets_record, is_valid, zeros, changed, settled}
use Rattle.lif_model.specs.Commit.{SettlesAs, IsOldOrNew, Quiet, IsStaged, IsArmed, IsCommitted, IsRedoWrite}
use Rattle.lif_model.proofs.Examples.{blank}
use Rattle.lif_model.proofs.RedoExamples.{ones, twos, opened, named, with_redo}

-- ---- one write

abbrev before : Tape
before = ones ∷ ones ∷ []

abbrev after : Tape
after = ones ∷ twos ∷ []

-- record 1 is another, and no other record
abbrev torn : Torn 1 before after
torn = record { records = refl; bytes = refl; elsewhere = elsewhere }
  where
    elsewhere : (k : ℕ) → k ≢ 1 → record_at after k ≡ record_at before k
    elsewhere zero off = refl
    elsewhere (suc zero) off = absurd (off refl)
    elsewhere (suc (suc k)) off = refl

-- a write with Ok leaves the bytes
written : Wrote {T = ℕ} {E = ℕ} 1 twos (Some before) (Some after) (Ok 0)
written t is = cc

-- and not the tape as it was
not_written : Wrote {T = ℕ} {E = ℕ} 1 twos (Some before) (Some before) (Ok 0) → ⊥
not_written wrote = let same : Some before ≡ Some after = wrote before refl in cc

-- a write that failed may leave any bytes there
failed : Wrote {T = ℕ} {E = ℕ} 1 (replicate 256 3) (Some before) (Some after) (Err 0)
failed t is = (after, refl, subst (λ (t : Tape). Torn 1 t after) same torn)
  where
    same : before ≡ t
    same = cc

-- ---- time

-- before the write a stop leaves the tape as it is
abbrev past : ℕ → Tape → Type 0
past m c = c ≡ before

-- after it, a stop since moment 0 may have left a torn tape, and one since moment 1 leaves the tape written
abbrev since : ℕ → Tape → Type 0
since zero c = (c ≡ before) ⊎ Torn 1 before c
since (suc m) c = c ≡ after

time_of_write : Elapses 0 1 past since (Some before) (Torn 1)
time_of_write = record { later = omega arith; nothing_else = nothing_else; keeps = keeps }
  where
    nothing_else : (t : Tape) → Some before ≡ Some t → (m : ℕ) (c : Tape) → m ≤ 0 → since m c → past m c ⊎ Torn 1 t c
    nothing_else t is zero c le (inl was) = inl was
    nothing_else t is zero c le (inr left) = inr (subst (λ (t : Tape). Torn 1 t c) (same t is) left)
      where
        same : (t : Tape) → Some before ≡ Some t → before ≡ t
        same t is = cc
    nothing_else t is (suc m) c le left = absurd (omega (arith, le))

    keeps : (m : ℕ) (c : Tape) → m ≤ 0 → past m c → since m c
    keeps zero c le was = inl was
    keeps (suc m) c le was = absurd (omega (arith, le))

-- a read writes nothing
time_of_read : StandsStill since since
time_of_read = record { nothing_else = λ m c left. left; keeps = λ m c was. was }

-- at no moment of the write is record 0 another
leaves_the_rest : LeavesOnly 0 1 past since (λ c. record_at c 0 ≡ ones)
leaves_the_rest = record { later = omega arith; each = each; earlier = earlier }
  where
    each : (c : Tape) → since 0 c → record_at c 0 ≡ ones
    each c (inl was) = ap (λ (t : Tape). record_at t 0) was
    each c (inr left) = left.elsewhere 0 (λ e. absurd (omega (arith, e)))

    earlier : (m : ℕ) (c : Tape) → m ≤ 0 → since m c → past m c ⊎ (record_at c 0 ≡ ones)
    earlier zero c le left = inr (each c left)
    earlier (suc m) c le left = absurd (omega (arith, le))

-- ---- a commit: record 2 is to become ones

abbrev change : Changes
change = (2, ones) ∷ []

abbrev targets : List ℕ
targets = named (0 ∷ 1 ∷ 0 ∷ 2 ∷ [])

-- the tape as it was, and that with the changes in place
abbrev old : Tape
old = with_redo blank blank

abbrev done : Tape
done = blank ∷ blank ∷ ones ∷ blank ∷ blank ∷ blank ∷ blank ∷ blank ∷ blank ∷ targets ∷ ones ∷ twos ∷ []

-- two tapes that differ in the gate and the targets alone are one below the redo file
below_redo : (gate targets gate' targets' : List ℕ) (k : ℕ) → k < 8 → record_at (with_redo gate targets) k ≡ record_at (with_redo gate' targets') k
below_redo gate targets gate' targets' zero lt = refl
below_redo gate targets gate' targets' (suc zero) lt = refl
below_redo gate targets gate' targets' (suc (suc zero)) lt = refl
below_redo gate targets gate' targets' (suc (suc (suc zero))) lt = refl
below_redo gate targets gate' targets' (suc (suc (suc (suc zero)))) lt = refl
below_redo gate targets gate' targets' (suc (suc (suc (suc (suc zero))))) lt = refl
below_redo gate targets gate' targets' (suc (suc (suc (suc (suc (suc zero)))))) lt = refl
below_redo gate targets gate' targets' (suc (suc (suc (suc (suc (suc (suc zero))))))) lt = refl
below_redo gate targets gate' targets' (suc (suc (suc (suc (suc (suc (suc (suc k)))))))) lt = absurd (omega (arith, lt))

-- the redo file is written after a closed gate
staged : IsStaged One change old (with_redo blank targets)
unfolding is_open is_valid targets_record piece two_at
staged = record { shut = record { records = refl; below = below_redo blank targets blank blank; gate = refl }; loaded = record { named = refl; holds = refl } }

-- then the gate is opened
armed : IsArmed One change (with_redo opened targets)
unfolding is_open is_valid targets_record piece two_at
armed = record { gate = refl; loaded = record { named = refl; holds = refl } }

-- a redo file of other changes is none of these
not_armed : IsArmed One ((2, twos) ∷ []) (with_redo opened targets) → ⊥
unfolding is_open is_valid targets_record piece two_at
not_armed others = let byte : 1 ≡ 2 = ap first_byte others.loaded.holds in absurd (omega (arith, byte))
  where
    first_byte : Changes → ℕ
    first_byte [] = 0
    first_byte (c ∷ cs) = get_or c.1 0 0

-- and then the changes are made and the gate is closed
committed : IsCommitted One change old done
unfolding zeros
committed = record { records = refl; below = below; gate = refl }
  where
    below : (k : ℕ) → k < 8 → record_at done k ≡ record_at (changed change old) k
    below zero lt = refl
    below (suc zero) lt = refl
    below (suc (suc zero)) lt = refl
    below (suc (suc (suc zero))) lt = refl
    below (suc (suc (suc (suc zero)))) lt = refl
    below (suc (suc (suc (suc (suc zero))))) lt = refl
    below (suc (suc (suc (suc (suc (suc zero)))))) lt = refl
    below (suc (suc (suc (suc (suc (suc (suc zero))))))) lt = refl
    below (suc (suc (suc (suc (suc (suc (suc (suc k)))))))) lt = absurd (omega (arith, lt))

-- a gate that is left open is no end
not_committed : IsCommitted One change old (with_redo opened targets) → ⊥
unfolding zeros
not_committed ended = let gate : opened ≡ blank = ended.gate in cc

-- between two commits no redo is open
quiet : Quiet One old (with_redo blank targets)
unfolding is_open is_valid targets_record piece two_at
quiet = record { records = refl; below = below_redo blank targets blank blank; none = refl }

-- an open gate over targets that are invalid is no open redo either
quiet_too : Quiet One old (with_redo opened blank)
unfolding is_open is_valid targets_record piece two_at
quiet_too = record { records = refl; below = below_redo opened blank blank blank; none = refl }

-- the armed tape settles to the changes
settles : SettlesAs (set done 8 opened) (with_redo opened targets)
unfolding is_open is_valid targets_record piece two_at zeros
settles = record { records = refl; same = same }
  where
    same : (k : ℕ) → k ≢ 8 → record_at (settled (with_redo opened targets)) k ≡ record_at (set done 8 opened) k
    same zero off = refl
    same (suc zero) off = refl
    same (suc (suc zero)) off = refl
    same (suc (suc (suc zero))) off = refl
    same (suc (suc (suc (suc zero)))) off = refl
    same (suc (suc (suc (suc (suc zero))))) off = refl
    same (suc (suc (suc (suc (suc (suc zero)))))) off = refl
    same (suc (suc (suc (suc (suc (suc (suc zero))))))) off = refl
    same (suc (suc (suc (suc (suc (suc (suc (suc zero)))))))) off = absurd (off refl)
    same (suc (suc (suc (suc (suc (suc (suc (suc (suc k))))))))) off = refl

-- so it counts as the new tape, and the staged one as the old
new : IsOldOrNew One change old (with_redo opened targets)
unfolding is_open is_valid targets_record piece two_at zeros
new = inr (record { records = refl; same = below })
  where
    below : (k : ℕ) → k < 8 → record_at (settled (with_redo opened targets)) k ≡ record_at (changed change old) k
    below zero lt = refl
    below (suc zero) lt = refl
    below (suc (suc zero)) lt = refl
    below (suc (suc (suc zero))) lt = refl
    below (suc (suc (suc (suc zero)))) lt = refl
    below (suc (suc (suc (suc (suc zero))))) lt = refl
    below (suc (suc (suc (suc (suc (suc zero)))))) lt = refl
    below (suc (suc (suc (suc (suc (suc (suc zero))))))) lt = refl
    below (suc (suc (suc (suc (suc (suc (suc (suc k)))))))) lt = absurd (omega (arith, lt))

still_old : IsOldOrNew One change old (with_redo blank targets)
unfolding is_open is_valid targets_record piece two_at zeros
still_old = inl (record { records = refl; same = below_redo blank targets blank blank })

-- a tape with other bytes in record 2, and no redo open, is neither
neither : IsOldOrNew One change old (set old 2 twos) → ⊥
unfolding is_open is_valid targets_record piece two_at zeros
neither (inl settles) = let same : twos ≡ blank = settles.same 2 (omega arith) in cc
neither (inr settles) = let same : twos ≡ ones = settles.same 2 (omega arith) in cc

-- a commit writes its targets and the redo file
targets_written : IsRedoWrite One 12 change 2 × IsRedoWrite One 12 change 9
targets_written = (inr (inl refl), inl (omega arith))

not_elsewhere : IsRedoWrite One 12 change 3 → ⊥
not_elsewhere (inl le) = absurd (omega (arith, le))
not_elsewhere (inr (inl is)) = absurd (omega (arith, is))
not_elsewhere (inr (inr none)) = elim none [ ]
