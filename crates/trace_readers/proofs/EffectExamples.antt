-- Worked examples of the units that write, and of where they end.
use Rattle.std.proofs.Common.{◌≡◌, ◌≤◌, ◌++◌, ℕ, false, true, List, [], ◌∷◌, flat_map, Some, None, refl, arith}
use Rattle.il_frames.specs.declared.frame.Class.TheVariants as class
use Rattle.il_frames.specs.declared.entry.Entry.{Entry}
use Rattle.il_frames.specs.declared.entry.Outcome.TheVariants as outcome
use Rattle.il_frames.specs.Frames.{framed}
use Rattle.loop_model.specs.Loops.{Loop, host_loop}
use Rattle.il_frames.specs.NamedFrames.{entry, unl, lad, tad, ddl, rfc, unt, ready}
use Rattle.loop_model.specs.Exchanges.{Echo, Sda, Sst, NotTaken, ToItsEnd, Send, Receive, Command, returned, FrameLost, HostAltered, TalkerAltered, Piece, Whole, Cut, piece_entries}
use Rattle.loop_model.specs.Units.{RecordUnit, units_of}
use Rattle.trace_readers.specs.declared.expected.UnitFault.TheVariants as fault
use Rattle.trace_readers.specs.declared.effects.Cue.TheVariants as cue
use Rattle.trace_readers.specs.declared.effects.Stage.TheVariants as stage
use Rattle.trace_readers.specs.Expected.{write_unit, unit_fault}
use Rattle.trace_readers.specs.Effects.{cue_of, no_course, units_told, EndsUnit, unit_room, kept_bytes_after, IsEffectAfter}
use Rattle.trace_readers.proofs.EffectLemmas.{one_fault}

-- ---- two devices, the first of which is the drive

abbrev ring : Loop
ring = host_loop 2 1

abbrev echo : ℕ → Echo
echo byte = record { sent = framed class.Dab byte; back = framed class.Dab byte }

-- a seek of record 3, a write of two bytes, and a status
abbrev seek : Piece
seek = Whole (Send 1 (Some 4) (echo 0 ∷ echo 3 ∷ []))

abbrev write : Piece
write = Whole (Send 1 (Some 2) (echo 7 ∷ echo 8 ∷ []))

abbrev poll : ℕ → Piece
poll status = Whole (Receive 1 None Sst (ToItsEnd 1 (echo status ∷ [])))

abbrev log : List Piece → List Entry
log ps = flat_map (piece_entries 0) ps

abbrev told : List Piece → List RecordUnit
told ps = units_told 1 no_course (log ps)

-- ---- frames

cue_unl : cue_of 1 unl ≡ cue.Unlisten
cue_unl = refl

cue_lad : cue_of 1 (lad 1) ≡ cue.Listen
cue_lad = refl

cue_other_lad : cue_of 1 (lad 2) ≡ cue.Other
cue_other_lad = refl

cue_tad : cue_of 1 (tad 1) ≡ cue.Talk
cue_tad = refl

cue_ddl : cue_of 1 (ddl 2) ≡ cue.Write
cue_ddl = refl

cue_end : cue_of 1 (framed class.End 5) ≡ cue.Data 5
cue_end = refl

-- ---- whole units

good : told (seek ∷ write ∷ poll 0 ∷ []) ≡ write_unit 3 (7 ∷ 8 ∷ []) (Some 0) ∷ []
good = refl

good_unit : units_of ring (seek ∷ write ∷ poll 0 ∷ []) ≡ write_unit 3 (7 ∷ 8 ∷ []) (Some 0) ∷ []
good_unit = refl

failed : told (seek ∷ write ∷ poll 1 ∷ []) ≡ write_unit 3 (7 ∷ 8 ∷ []) (Some 1) ∷ []
failed = refl

-- the bytes of a unit are its own
twice : told (seek ∷ write ∷ poll 0 ∷ seek ∷ write ∷ poll 0 ∷ [])
    ≡ write_unit 3 (7 ∷ 8 ∷ []) (Some 0) ∷ write_unit 3 (7 ∷ 8 ∷ []) (Some 0) ∷ []
twice = refl

-- no status was asked for; or one of two bytes came, or none
unpolled : told (seek ∷ write ∷ []) ≡ []
unpolled = refl

two_bytes : told (seek ∷ write ∷ Whole (Receive 1 None Sst (ToItsEnd 1 (echo 0 ∷ echo 0 ∷ []))) ∷ []) ≡ []
two_bytes = refl

no_status : told (seek ∷ write ∷ Whole (Receive 1 None Sst NotTaken) ∷ []) ≡ []
no_status = refl

-- something stands between, or another device is asked
parted : told (seek ∷ write ∷ Whole (Command unt) ∷ poll 0 ∷ []) ≡ []
parted = refl

other_device : told (seek ∷ write ∷ Whole (Receive 2 None Sst (ToItsEnd 2 (echo 0 ∷ []))) ∷ []) ≡ []
other_device = refl

-- a read writes nothing
read : told (seek ∷ Whole (Receive 1 (Some 2) Sda (ToItsEnd 1 (echo 7 ∷ []))) ∷ poll 0 ∷ []) ≡ []
read = refl

-- ---- broken ones

altered : told (seek ∷ Cut (Send 1 (Some 2) (echo 7 ∷ echo 8 ∷ [])) 7 (HostAltered (framed class.Dab 9)) ∷ [])
    ≡ write_unit 3 (7 ∷ 8 ∷ []) None ∷ []
altered = refl

lost : told (seek ∷ Cut (Send 1 (Some 2) (echo 7 ∷ echo 8 ∷ [])) 6 (FrameLost 0) ∷ []) ≡ write_unit 3 (7 ∷ []) None ∷ []
lost = refl

-- UNL was lost: by one reading a status that broke off, by another a command that did
unl_lost : told (seek ∷ write ∷ Cut (Command unl) 0 (FrameLost 1) ∷ []) ≡ write_unit 3 (7 ∷ 8 ∷ []) None ∷ []
unl_lost = refl

unl_lost_unit : units_of ring (seek ∷ write ∷ Cut (Receive 1 None Sst NotTaken) 0 (FrameLost 1) ∷ [])
    ≡ write_unit 3 (7 ∷ 8 ∷ []) None ∷ []
unl_lost_unit = refl

unl_lost_no_unit : units_of ring (seek ∷ write ∷ Cut (Command unl) 0 (FrameLost 1) ∷ []) ≡ []
unl_lost_no_unit = refl

tad_lost : told (seek ∷ write ∷ Cut (Receive 1 (Some 2) Sda NotTaken) 2 (FrameLost 1) ∷ [])
    ≡ write_unit 3 (7 ∷ 8 ∷ []) None ∷ []
tad_lost = refl

-- DDT tells that it is no status
ddt_lost : told (seek ∷ write ∷ Cut (Receive 1 (Some 2) Sda NotTaken) 4 (FrameLost 1) ∷ []) ≡ []
ddt_lost = refl

status_altered : told (seek ∷ write
    ∷ Cut (Receive 1 None Sst (ToItsEnd 1 (echo 0 ∷ []))) 5 (TalkerAltered (framed class.Dab 1) (outcome.Taken 0)) ∷ [])
    ≡ write_unit 3 (7 ∷ 8 ∷ []) None ∷ []
status_altered = refl

-- ---- where a unit ends

good_ends : EndsUnit ring
    (log (seek ∷ write ∷ []) ++ returned 0 unl ∷ returned 0 rfc ∷ returned 0 (tad 1) ∷ returned 0 rfc
    ∷ entry 0 (ready 0x61) (outcome.Taken 1) ∷ entry 1 (framed class.Dab 0) (outcome.Back (framed class.Dab 0))
    ∷ entry 1 (ready 0x40) (outcome.Taken 0) ∷ returned 0 unt ∷ [])
    (returned 0 rfc) (write_unit 3 (7 ∷ 8 ∷ []) (Some 0))
good_ends = record { before = seek ∷ write ∷ []; last = poll 0; legal = refl; entries = refl; unit = refl }

unl_ends : EndsUnit ring (log (seek ∷ write ∷ [])) (entry 0 unl (outcome.Lost 1)) (write_unit 3 (7 ∷ 8 ∷ []) None)
unl_ends = record {
  before = seek ∷ write ∷ [];
  last = Cut (Receive 1 None Sst NotTaken) 0 (FrameLost 1);
  legal = refl;
  entries = refl;
  unit = refl;
}

-- no entry ends a unit of both faults
not_both : (k d n : ℕ) (before : List Entry) (e : Entry) (w v : RecordUnit) → d ≤ 30 →
    EndsUnit (host_loop k d) before e w → EndsUnit (host_loop k d) before e v → unit_fault n w ≡ Some fault.BadUnit →
    unit_fault n v ≡ Some fault.Unclear → ⊥
not_both k d n before e w v reach first second bad unclear =
    let same = one_fault k d n before e w v fault.BadUnit fault.Unclear reach first second bad unclear in
    let no : false ≡ true = cc in
    cc

-- ---- what is kept

room : unit_room 1 ≡ 768
room = refl

-- the last byte for which there is room, and one more
kept : kept_bytes_after (stage.Sent 3) 2 (cue.Data 8) (7 ∷ []) ≡ 7 ∷ 8 ∷ []
kept = refl

kept_not : kept_bytes_after (stage.Sent 3) 2 (cue.Data 9) (7 ∷ 8 ∷ []) ≡ 7 ∷ 8 ∷ []
kept_not = refl

kept_first : kept_bytes_after (stage.Writing 3) 2 (cue.Data 9) (7 ∷ 8 ∷ []) ≡ 9 ∷ []
kept_first = refl

new_reader : IsEffectAfter 1 [] [] (record {
  drive = 1;
  stage = stage.Clear;
  bytes = [];
  expected = record { records = []; room = 3 };
})
new_reader = record {
  reach = omega arith;
  drive = refl;
  stage = refl;
  bytes = refl;
  tape = record { records = refl; bytes = λ j lt. absurd (omega (arith, lt)) };
  room = omega arith;
  records = refl;
  clear = tt;
}
