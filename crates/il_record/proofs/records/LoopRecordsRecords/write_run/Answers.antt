use Rattle.std.proofs.Common.{◌*◌, ◌+◌, ◌≤◌, sym, arith}
use Rattle.lif_model.proofs.Made.{length_cut}
use Rattle.il_record.proofs.StoreRuns.{begins, stored}
use Rattle.il_record.proofs.records.LoopRecordsRecords.write_run.Goals as goal

pub write_run-answer-requires-clause-room : goal.write_run-answer-requires-clause-room
write_run-answer-requires-clause-room g c =
    let left = c.requires.ready.left in
    omega (arith, c.requires.some, left)

pub write_run-answer-requires-clause-idle : goal.write_run-answer-requires-clause-idle
write_run-answer-requires-clause-idle g c = (begins g.M.Medium.view _ _ _ _ c.requires.ready).idle

pub write_run-answer-requires-clause-free : goal.write_run-answer-requires-clause-free
write_run-answer-requires-clause-free g c = (begins g.M.Medium.view _ _ _ _ c.requires.ready).free

pub returns : goal.returns
returns g c =
    let few : 30 + 256 * c.args.count ≤ 300 * c.args.count = omega (arith, c.requires.some) in
    stored g.M.Medium.view _ _ _ _ _ _ _ (begins g.M.Medium.view _ _ _ _ c.requires.ready) c.write_run-answer.ensures.places c.write_run-answer.ensures.used few _ _ _ _ _ (sym (length_cut c.args.count c.args.from.now)) c.moved.ensures c.write_run-answer.ensures.wrote c.write_run-answer.ensures.broken
