use Rattle.std.proofs.Common.{◌≡◌, ◌*◌, ◌+◌, ◌/◌, ◌≤◌, length, arith}
use Rattle.il_record.proofs.StoreRuns.{begins, fetched}
use Rattle.il_record.proofs.records.LoopRecordsRecords.read_run.Goals as goal

pub read_run-answer-requires-clause-room : goal.read_run-answer-requires-clause-room
read_run-answer-requires-clause-room g c =
    let left = c.requires.ready.left in
    omega (arith, c.requires.records.some, c.requires.records.whole, left)

pub read_run-answer-requires-clause-idle : goal.read_run-answer-requires-clause-idle
read_run-answer-requires-clause-idle g c = (begins g.M.Medium.view _ _ _ _ c.requires.ready).idle

pub read_run-answer-requires-clause-free : goal.read_run-answer-requires-clause-free
read_run-answer-requires-clause-free g c = (begins g.M.Medium.view _ _ _ _ c.requires.ready).free

pub returns : goal.returns
returns g c =
    let few : 35 + length c.args.into.now ≤ 300 * (length c.args.into.now / 256) = omega (arith, c.requires.records.some, c.requires.records.whole) in
    let long : length c.read_run-answer.new.into ≡ 256 * (length c.args.into.now / 256) = omega (arith, c.requires.records.whole) in
    fetched g.M.Medium.view _ _ _ _ _ _ _ (begins g.M.Medium.view _ _ _ _ c.requires.ready) c.read_run-answer.ensures.places c.read_run-answer.ensures.used few _ _ _ _ _ long c.moved.ensures c.read_run-answer.ensures.read c.read_run-answer.ensures.broken
