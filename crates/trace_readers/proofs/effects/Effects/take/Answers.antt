-- The entry's unit, if it ends one, is what the kept bytes tell.
use Rattle.std.proofs.Common.{◌≡◌, ◌∙◌, length, ap, refl, sym}
use Rattle.std.specs.Prelude.{MatchResult}
use Rattle.std.specs.Result.{result_err}
use Rattle.trace_readers.specs.Places.{fate_of}
use Rattle.trace_readers.specs.Expected.{Known}
use Rattle.trace_readers.specs.Effects.{EffectReader, cue_of, stage_after, ended, unit_room, kept_bytes_after, end_fault, known_end}
use Rattle.trace_readers.proofs.EffectLemmas.{take_known, take_fault}
use Rattle.trace_readers.proofs.effects.Effects.take.Goals as goal

cue_is : (c : goal.After-finish) → c.of-cue.result ≡ cue_of c.args.self.now.drive c.args.entry.frame
cue_is c = c.of-cue.ensures ∙ ap (λ (r : EffectReader). cue_of r.drive c.args.entry.frame) c.self.view_is

drive_is : (c : goal.After-finish) → c.finish.new.self.drive ≡ c.args.self.now.drive
drive_is c = c.finish.ensures.drive ∙ ap (λ (r : EffectReader). r.drive) c.self-2.view_is ∙ c.keep.ensures.drive

stage_is : (c : goal.After-finish) → c.finish.new.self.stage
    ≡ stage_after c.args.self.now.stage (cue_of c.args.self.now.drive c.args.entry.frame)
    (fate_of c.args.entry.frame c.args.entry.outcome)
stage_is c =
    c.finish.ensures.stage ∙ c.after-self-inside.ensures
    ∙ rw (ap (λ (r : EffectReader). r.stage) c.self-2.view_is ∙ c.keep.ensures.stage, cue_is c, c.of-fate.ensures) refl

bytes_is : (c : goal.After-finish) → c.finish.new.self.bytes
    ≡ kept_bytes_after c.args.self.now.stage (unit_room c.args.self.now.expected.room)
    (cue_of c.args.self.now.drive c.args.entry.frame) c.args.self.now.bytes
bytes_is c =
    c.finish.ensures.bytes ∙ ap (λ (r : EffectReader). r.bytes) c.self-2.view_is ∙ c.keep.ensures.bytes
    ∙ rw (cue_is c) refl

expected_is : (c : goal.After-finish) → c.self-2.inside.expected ≡ c.args.self.now.expected
expected_is c = ap (λ (r : EffectReader). r.expected) c.self-2.view_is ∙ c.keep.ensures.expected

room_is : (c : goal.After-finish) → c.finish.new.self.expected.room ≡ c.args.self.now.expected.room
room_is c = c.finish.ensures.room ∙ ap (λ (e : Known). e.room) (expected_is c)

ended_is : (c : goal.After-finish) → c.ended-ended.result
    ≡ ended c.args.self.now.stage (cue_of c.args.self.now.drive c.args.entry.frame)
    (fate_of c.args.entry.frame c.args.entry.outcome)
ended_is c =
    c.ended-ended.ensures
    ∙ rw (ap (λ (r : EffectReader). r.stage) c.self.view_is, cue_is c, c.of-fate.ensures) refl

fault_is : (c : goal.After-finish) → result_err c.finish.result
    ≡ end_fault (length c.args.self.now.expected.records) c.finish.new.self.bytes
    (ended c.args.self.now.stage (cue_of c.args.self.now.drive c.args.entry.frame)
    (fate_of c.args.entry.frame c.args.entry.outcome))
fault_is c =
    c.finish.ensures.fault ∙ rw (expected_is c, ended_is c, sym c.finish.ensures.bytes) refl

records_are : (c : goal.After-finish) → MatchResult c.finish.result
    (λ _. c.finish.new.self.expected.records
    ≡ known_end c.finish.new.self.bytes
    (ended c.args.self.now.stage (cue_of c.args.self.now.drive c.args.entry.frame)
    (fate_of c.args.entry.frame c.args.entry.outcome)) c.args.self.now.expected.records)
    (λ _. c.finish.new.self.expected.records ≡ c.args.self.now.expected.records)
records_are c =
    rw (sym (expected_is c), sym (ended_is c), c.finish.ensures.bytes) c.finish.ensures.records

pub returns-clause-known : goal.returns-clause-known
returns-clause-known c = λ d old log is.
    take_known d old log c.args.entry c.args.self.now c.finish.new.self is (drive_is c) (stage_is c) (bytes_is c)
    (room_is c) c.finish.result (fault_is c) (records_are c)

pub returns-clause-fault : goal.returns-clause-fault
returns-clause-fault c = λ k d old log is goes f.
    take_fault d old log c.args.entry c.args.self.now c.finish.new.self is (drive_is c) (stage_is c) (bytes_is c)
    (room_is c) c.finish.result (fault_is c) (records_are c) k goes f
