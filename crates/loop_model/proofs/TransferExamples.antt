-- Worked examples of transfers and their effect, on a tape of three records in a drive that is party 1.
use Rattle.std.proofs.Common.{◌≤◌, ◌∙◌, take, nat_lt, MatchBool, ◌≡◌, ◌<◌, ◌++◌, ◌+◌, ℕ, suc, zero, List, [], ◌∷◌, Some, None, true, false, refl, ap, length, replicate, map, flat_map, get_or, arith, lit≤}
use Rattle.il_frames.specs.declared.frame.Class.TheVariants as class
use Rattle.il_frames.specs.declared.entry.Entry.{Entry}
use Rattle.il_frames.specs.Frames.{framed}
use Rattle.lif_model.specs.Tape.{Tape, record_at}
use Rattle.loop_model.specs.Loops.{Loop, host_loop}
use Rattle.il_frames.specs.NamedFrames.{ifc}
use Rattle.loop_model.specs.Exchanges.{Echo, Sda, Sst, NotTaken, Stopped, Exchange, Command, Send, Receive, FrameLost, HostAltered, Piece, Whole, Cut, piece_entries}
use Rattle.loop_model.specs.Units.{RecordUnit, number_of, units_of, ends_within}
use Rattle.lif_model.specs.Stops.{Torn}
use Rattle.lif_model.specs.Transfers.{Replaced, PartlyReplaced, records_of, all_pieces, full_pieces, carries}
use Rattle.loop_model.specs.Effect.{UnitEffect, Effect, IsLogOf, transfer_of, is_out, is_in, CarriesOut, CarriesIn}

-- the host, a drive and a printer
abbrev pub ring : Loop
ring = host_loop 2 1

-- ---- units

-- data bytes that came back as they were sent
abbrev pub echoes : List ℕ → List Echo
echoes bytes = map (λ b. record { sent = framed class.Dab b; back = framed class.Dab b }) bytes

abbrev pub echo : ℕ → Echo
echo b = record { sent = framed class.Dab b; back = framed class.Dab b }

-- the seek of record k, below 256
abbrev pub seek : ℕ → Exchange
seek k = Send 1 (Some 4) (echoes (0 ∷ k ∷ []))

abbrev pub put : List ℕ → Exchange
put bytes = Send 1 (Some 2) (echoes bytes)

-- a transmission that fills the host's room
abbrev pub get : List ℕ → ℕ → Exchange
get bytes last = Receive 1 (Some 2) Sda (Stopped 1 (echoes bytes) (echo last))

abbrev pub status : ℕ → Exchange
status s = Receive 1 None Sst (Stopped 1 [] (echo s))

-- a write unit and a read unit
abbrev pub writing : ℕ → List ℕ → ℕ → List Piece
writing k bytes s = Whole (seek k) ∷ Whole (put bytes) ∷ Whole (status s) ∷ []

abbrev pub reading : ℕ → List ℕ → ℕ → ℕ → List Piece
reading k bytes last s = Whole (seek k) ∷ Whole (get bytes last) ∷ Whole (status s) ∷ []

abbrev pub write_unit : ℕ → List ℕ → ℕ → RecordUnit
write_unit k bytes s = record { writes = true; first = k; bytes = bytes; status = Some s }

abbrev pub read_unit : ℕ → List ℕ → ℕ → RecordUnit
read_unit k bytes s = record { writes = false; first = k; bytes = bytes; status = Some s }

-- high byte first
record_258 : number_of (1 ∷ 2 ∷ []) ≡ Some 258
record_258 = refl

one_write : units_of ring (writing 2 (7 ∷ 8 ∷ []) 0) ≡ write_unit 2 (7 ∷ 8 ∷ []) 0 ∷ []
one_write = refl

one_read : units_of ring (reading 2 (7 ∷ []) 8 3) ≡ read_unit 2 (7 ∷ 8 ∷ []) 3 ∷ []
one_read = refl

-- a receive that was not taken brought no byte
empty_read : units_of ring (Whole (seek 2) ∷ Whole (Receive 1 (Some 2) Sda NotTaken) ∷ Whole (status 1) ∷ []) ≡ read_unit 2 [] 1 ∷ []
empty_read = refl

-- in order, and other exchanges between
two_units : units_of ring (writing 2 (7 ∷ []) 0 ++ Whole (Command ifc) ∷ reading 2 [] 7 0) ≡ write_unit 2 (7 ∷ []) 0 ∷ read_unit 2 (7 ∷ []) 0 ∷ []
two_units = refl

-- the drive is another party; a command stands between; the status was not asked for, or not told
no_units : (units_of (host_loop 2 2) (writing 2 (7 ∷ []) 0) ≡ []) × (units_of ring (Whole (seek 2) ∷ Whole (Command ifc) ∷ Whole (put (7 ∷ [])) ∷ Whole (status 0) ∷ []) ≡ []) × (units_of ring (Whole (seek 2) ∷ Whole (put (7 ∷ [])) ∷ []) ≡ []) × (units_of ring (Whole (seek 2) ∷ Whole (put (7 ∷ [])) ∷ Whole (Receive 1 None Sst NotTaken) ∷ []) ≡ [])
no_units = (refl, refl, refl, refl)

-- nor is it one where another device is asked for its status
other_status : units_of ring (Whole (seek 2) ∷ Whole (put (7 ∷ [])) ∷ Whole (Receive 2 None Sst (Stopped 2 [] (echo 0))) ∷ []) ≡ []
other_status = refl

-- the second byte came back as another: it counts as sent, and the unit is unfinished
abbrev pub unfinished : ℕ → List ℕ → RecordUnit
unfinished k bytes = record { writes = true; first = k; bytes = bytes; status = None }

cut_short : units_of ring (Whole (seek 2) ∷ Cut (put (7 ∷ 8 ∷ 9 ∷ [])) 7 (HostAltered (framed class.Dab 0)) ∷ []) ≡ unfinished 2 (7 ∷ 8 ∷ []) ∷ []
cut_short = refl

-- it broke off before the first byte
no_byte_sent : units_of ring (Whole (seek 2) ∷ Cut (put (7 ∷ [])) 4 (FrameLost 2) ∷ []) ≡ []
no_byte_sent = refl

-- all bytes were sent, and then the status was not told
status_lost : units_of ring (Whole (seek 2) ∷ Whole (put (7 ∷ [])) ∷ Cut (status 0) 0 (FrameLost 1) ∷ []) ≡ unfinished 2 (7 ∷ []) ∷ []
status_lost = refl

-- whether what follows could go on with a unit
within : (ends_within ring (Whole (seek 2) ∷ []) ≡ true) × (ends_within ring (Whole (seek 2) ∷ Whole (put (7 ∷ [])) ∷ []) ≡ true) × (ends_within ring (writing 2 (7 ∷ []) 0) ≡ false)
within = (refl, refl, refl)

-- ---- effect

abbrev pub sevens : List ℕ
sevens = replicate 256 7

abbrev pub blank : List ℕ
blank = replicate 256 0

-- a tape whose record 1 holds these bytes
abbrev pub tape_with : List ℕ → Tape
tape_with bytes = blank ∷ bytes ∷ blank ∷ []

-- 257 bytes take two records, and fill one
pieces_of_257 : (records_of (replicate 257 7) ≡ 2) × (all_pieces (replicate 257 7) ≡ sevens ∷ (7 ∷ []) ∷ []) × (full_pieces (replicate 257 7) ≡ sevens ∷ [])
pieces_of_257 = (refl, refl, refl)

-- two tapes of this kind agree in all records but the second
others_stay : (old new : List ℕ) (k : ℕ) → (k ≡ 1 → ⊥) → record_at (tape_with new) k ≡ record_at (tape_with old) k
others_stay old new zero other = refl
others_stay old new (suc zero) other = absurd (other refl)
others_stay old new (suc (suc k)) other = refl

-- record 1 is replaced
replaced_1 : (old new : List ℕ) → Replaced 1 (new ∷ []) (tape_with old) (tape_with new)
replaced_1 old new = record {
  records = refl;
  within = first_alone;
  before = λ k below. others_stay old new k (λ e. omega arith);
  behind = λ k above. others_stay old new k (λ e. omega arith);
}
  where
    first_alone : (i : ℕ) → i < 1 → record_at (tape_with new) (1 + i) ≡ get_or (new ∷ []) i []
    first_alone zero below = refl
    first_alone (suc i) below = absurd (omega arith)

-- the log of a write of record 1
abbrev pub log_of : List Piece → List Entry
log_of pieces = flat_map (piece_entries 0) pieces

write_log_length : length (log_of (writing 1 sevens 0)) ≡ 280
write_log_length = refl

-- with status 0 it has its effect
written : Effect ring (tape_with blank) (log_of (writing 1 sevens 0)) (tape_with sevens)
written = record {
  reading = record { pieces = writing 1 sevens 0; legal = refl; entries = refl };
  effect = (tape_with sevens, replaced_1 blank sevens, refl);
}

-- it is the whole log of a command
logged : IsLogOf ring true (tape_with blank) (log_of (writing 1 sevens 0)) (tape_with sevens)
logged = record {
  reading = record { pieces = writing 1 sevens 0; legal = refl; entries = refl };
  ends = refl;
  outside = refl;
  effect = (tape_with sevens, replaced_1 blank sevens, refl);
}

-- and no other: the record does not stay blank
not_written : Replaced 1 (all_pieces sevens) (tape_with blank) (tape_with blank) → ⊥
not_written r =
    let first : 0 ≡ 7 = ap (λ (bytes : List ℕ). get_or bytes 0 0) (r.within 0 (lit≤ tt)) in
    omega (arith, first)

-- with status 2 the record may hold any bytes
torn : (any : List ℕ) → length any ≡ 256 → Effect ring (tape_with blank) (log_of (writing 1 sevens 2)) (tape_with any)
torn any full = record {
  reading = record { pieces = writing 1 sevens 2; legal = refl; entries = refl };
  effect = (tape_with any, partly, refl);
}
  where
    nothing : Replaced 1 [] (tape_with blank) (tape_with blank)
    nothing = record { records = refl; within = λ i below. absurd (omega arith); before = λ k below. refl; behind = λ k above. refl }

    partly : PartlyReplaced 1 (full_pieces sevens) (tape_with blank) (tape_with any)
    partly = record {
      count = 0;
      in_range = omega arith;
      written = tape_with blank;
      replaced = nothing;
      torn = record { records = refl; bytes = full; elsewhere = λ k other. others_stay blank any k other };
    }

-- but the record after it is as before
behind_stays : (old new : Tape) → PartlyReplaced 1 (sevens ∷ []) old new → record_at new 2 ≡ record_at old 2
behind_stays old new p = by_count p.count p.in_range p.replaced p.torn
  where
    by_count : (n : ℕ) → n ≤ 1 → Replaced 1 (take n (sevens ∷ [])) old p.written → MatchBool (nat_lt n 1) (Torn (1 + n) p.written new) (new ≡ p.written) → record_at new 2 ≡ record_at old 2
    by_count zero few r t = t.elsewhere 2 (λ e. omega arith) ∙ r.behind 2 (omega arith)
    by_count (suc zero) few r t = ap (λ (x : Tape). record_at x 2) t ∙ r.behind 2 (omega arith)
    by_count (suc (suc n)) few r t = absurd (omega arith)

-- one that broke off before the last byte of the record had been sent left the tape
short_of_one : full_pieces (replicate 255 7) ≡ []
short_of_one = refl

-- a read left the tape
read_left : UnitEffect (read_unit 1 sevens 1) (tape_with blank) (tape_with blank)
read_left = refl

-- ---- transfers

abbrev pub ones : List ℕ
ones = replicate 256 1

-- two units of a record each carry out both records' bytes
by_two : carries transfer_of is_out (write_unit 4 sevens 0 ∷ write_unit 5 ones 0 ∷ []) 4 (sevens ++ ones) ≡ true
by_two = refl

-- and so does one unit of two records, after an earlier write of one of them
by_one : carries transfer_of is_out (write_unit 5 blank 0 ∷ write_unit 4 (sevens ++ ones) 0 ∷ []) 4 (sevens ++ ones) ≡ true
by_one = refl

-- a later write of one of them, a failed one too, spoils it; so does the other order, or one byte less
spoilt : (carries transfer_of is_out (write_unit 4 sevens 0 ∷ write_unit 4 blank 2 ∷ []) 4 sevens ≡ false) × (carries transfer_of is_out (write_unit 5 ones 0 ∷ write_unit 4 sevens 0 ∷ []) 4 (sevens ++ ones) ≡ false) × (carries transfer_of is_out (write_unit 4 sevens 0 ∷ []) 4 (replicate 255 7) ≡ false) × (carries transfer_of is_out (write_unit 4 sevens 1 ∷ []) 4 sevens ≡ false)
spoilt = (refl, refl, refl, refl)

-- a later write beside the record, before it or after it, and a later read of it do not
unspoilt : (carries transfer_of is_out (write_unit 4 sevens 0 ∷ write_unit 3 blank 0 ∷ write_unit 5 blank 0 ∷ []) 4 sevens ≡ true) × (carries transfer_of is_out (write_unit 4 sevens 0 ∷ read_unit 4 ones 0 ∷ []) 4 sevens ≡ true)
unspoilt = (refl, refl)

-- a read with another status than 0 carries nothing
failed_read : carries transfer_of is_in (read_unit 4 sevens 1 ∷ []) 4 sevens ≡ false
failed_read = refl

-- a read carries in; no bytes need no unit
by_read : carries transfer_of is_in (read_unit 4 sevens 0 ∷ []) 4 sevens ≡ true
by_read = refl

no_bytes : carries transfer_of is_in [] 4 [] ≡ true
no_bytes = refl

carried_out : CarriesOut ring (log_of (writing 1 sevens 0)) 1 sevens
carried_out = record { reading = record { pieces = writing 1 sevens 0; legal = refl; entries = refl }; carried = refl }

carried_in : CarriesIn ring (log_of (reading 1 (replicate 255 7) 7 0)) 1 sevens
carried_in = record { reading = record { pieces = reading 1 (replicate 255 7) 7 0; legal = refl; entries = refl }; carried = refl }

read_log_length : length (log_of (reading 1 (replicate 255 7) 7 0)) ≡ 285
read_log_length = refl

-- a run of two records is written, and read, as one unit each
abbrev pub two_records : List ℕ
two_records = sevens ++ ones

run_written : units_of ring (writing 4 two_records 0) ≡ write_unit 4 two_records 0 ∷ []
run_written = refl

run_read : units_of ring (reading 4 (sevens ++ replicate 255 1) 1 0) ≡ read_unit 4 two_records 0 ∷ []
run_read = refl

run_carried : CarriesOut ring (log_of (writing 4 two_records 0)) 4 two_records
run_carried = record { reading = record { pieces = writing 4 two_records 0; legal = refl; entries = refl }; carried = refl }

run_carried_in : CarriesIn ring (log_of (reading 4 (sevens ++ replicate 255 1) 1 0)) 4 two_records
run_carried_in = record { reading = record { pieces = reading 4 (sevens ++ replicate 255 1) 1 0; legal = refl; entries = refl }; carried = refl }
