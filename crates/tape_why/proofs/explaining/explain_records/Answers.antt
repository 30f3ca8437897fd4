use Rattle.std.proofs.Common.{◌≡◌, ◌++◌, ◌∙◌, length, ap, arith}
use Rattle.lif_model.specs.Tape.{Tape}
use Rattle.lif_model.specs.Redo.{settled}
use Rattle.lif_model.specs.Volume.{volume_in, volume_of}
use Rattle.lif_model.proofs.Redo.{length_settled}
use Rattle.il_script.specs.Sheet.{Sheet}
use Rattle.tape_why.specs.Why.{stopped_line, volume_cause, is_changeable_with}
use Rattle.tape_why.proofs.explaining.explain_records.Goals as goal

pub read_directory-requires-clause-size : goal.read_directory-requires-clause-size
read_directory-requires-clause-size c =
    let long = ap (λ (t : Tape). length t) c.in_ok-is_stopped.ensures.records ∙ length_settled c.args.records.now.records.items in
    omega (arith, long, c.requires.count, c.requires.size)

pub read_directory-requires-clause-left : goal.read_directory-requires-clause-left
read_directory-requires-clause-left c =
    let long = ap (λ (t : Tape). length t) c.in_ok-is_stopped.ensures.records ∙ length_settled c.args.records.now.records.items in
    omega (arith, long, c.requires.count, c.requires.left, c.settle_records.ensures.left)

pub read_directory-requires-clause-room : goal.read_directory-requires-clause-room
read_directory-requires-clause-room c =
    let long = ap (λ (t : Tape). length t) c.in_ok-is_stopped.ensures.records ∙ length_settled c.args.records.now.records.items in
    omega (arith, long, c.requires.count, c.requires.memory)

pub put_reading-requires-clause-read : goal.put_reading-requires-clause-read
put_reading-requires-clause-read c =
    let long = ap (λ (t : Tape). length t) c.in_ok-is_stopped.ensures.records ∙ length_settled c.args.records.now.records.items in
    (c.settle_records.new.records.records.items, long ∙ c.requires.count, c.in_ok-reading.ensures)

pub returns-clause-text : goal.returns-clause-text
returns-clause-text c =
    let tape = c.args.records.now.records.items in
    let now = c.settle_records.new.records.records.items in
    let is : now ≡ settled tape = c.in_ok-is_stopped.ensures.records in
    let long = ap (λ (t : Tape). length t) is ∙ length_settled tape in
    let stopped = c.put_stopped.ensures.text tape c.in_ok-is_stopped.ensures.stopped in
    ap (λ (s : Sheet). s.text) (c.put_reading.ensures.text now (long ∙ c.requires.count) c.in_ok-reading.ensures)
    ∙ (λ i. (stopped i).text ++ volume_cause (is i) (volume_in (is i)))
    ∙ (λ i. (c.requires.empty i ++ stopped_line tape) ++ volume_cause (settled tape) (volume_of tape))

pub returns-clause-changeable : goal.returns-clause-changeable
returns-clause-changeable c =
    let tape = c.args.records.now.records.items in
    let now = c.settle_records.new.records.records.items in
    let is : now ≡ settled tape = c.in_ok-is_stopped.ensures.records in
    let long = ap (λ (t : Tape). length t) is ∙ length_settled tape in
    c.put_reading.ensures.changeable now (long ∙ c.requires.count) c.in_ok-reading.ensures ∙ ap (λ (t : Tape). is_changeable_with c.args.size (volume_in t)) is
