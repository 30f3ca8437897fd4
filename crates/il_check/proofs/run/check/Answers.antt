use Rattle.std.proofs.Common.{[], None, Option, get_or, map, subst, sym}
use Rattle.std.specs.Prelude.{string_bytes}
use Rattle.il_check.specs.Orders.{CheckOrder, check_order}
use Rattle.il_check.specs.Whole.{CheckedBy, CheckFailedBy}
use Rattle.il_check.proofs.CheckLemmas.{leaves_told, leaves_out, fails_out, fails_not}
use Rattle.il_check.proofs.run.check.Goals as goal

pub returns-in-Ok-clause-leaves : goal.returns-in-Ok-clause-leaves
returns-in-Ok-clause-leaves g c =
    let first = sym c.word.ensures in
    let second = sym c.word-2.ensures in
    let order = check_order (get_or (map string_bytes c.args.words.now) 3 []) (get_or (map string_bytes c.args.words.now) 4 []) (c.in-Some.party.0, c.in-Some.party.1) in
    subst (λ (o : Option CheckOrder). CheckedBy c.check_media.result o (g.M.Medium.view c.args.before.now) (g.M.Medium.view c.check_media.new.before) (g.M.Medium.view c.args.after.now)
    (g.M.Medium.view c.check_media.new.after) (g.S.Source.left c.args.trace.now) (g.S.Source.left c.check_media.new.trace) (g.K.Sink.written c.args.out.now) (g.K.Sink.written c.check_media.new.out)) c.in-Some.ensures.party
    (leaves_told order _ _ _ _ _ _ _ _ _ _ c.check_media.result (rw first c.in-Ok.ensures.inserts.0) (rw second c.in-Ok.ensures.inserts.1) c.check_media.ensures.before c.check_media.ensures.after
    c.check_media.ensures.tells)

pub returns-in-Err-clause-leaves : goal.returns-in-Err-clause-leaves
returns-in-Err-clause-leaves g c =
    let first = sym c.word.ensures in
    let second = sym c.word-2.ensures in
    let order = check_order (get_or (map string_bytes c.args.words.now) 3 []) (get_or (map string_bytes c.args.words.now) 4 []) (c.in-Some.party.0, c.in-Some.party.1) in
    subst (λ (o : Option CheckOrder). CheckedBy c.in-Err.end o (g.M.Medium.view c.args.before.now) (g.M.Medium.view c.insert_both.new.before) (g.M.Medium.view c.args.after.now)
    (g.M.Medium.view c.insert_both.new.after) (g.S.Source.left c.args.trace.now) (g.S.Source.left c.args.trace.now) (g.K.Sink.written c.args.out.now) (g.K.Sink.written c.args.out.now)) c.in-Some.ensures.party
    (leaves_out order _ _ _ _ _ _ c.in-Err.end (rw (first, second) c.in-Err.ensures.inserts))

pub returns-in-Ok-clause-failed : goal.returns-in-Ok-clause-failed
returns-in-Ok-clause-failed g c = fails_not _ _ _ _ _ _ _ _ _ _ c.check_media.result _ _ _ c.check_media.ensures.tells

pub returns-in-Err-clause-failed : goal.returns-in-Err-clause-failed
returns-in-Err-clause-failed g c =
    let first = sym c.word.ensures in
    let second = sym c.word-2.ensures in
    let order = check_order (get_or (map string_bytes c.args.words.now) 3 []) (get_or (map string_bytes c.args.words.now) 4 []) (c.in-Some.party.0, c.in-Some.party.1) in
    subst (λ (o : Option CheckOrder). CheckFailedBy c.in-Err.end o (λ name. g.M.Medium.refuses c.args.before.now c.insert_both.new.before name None) (λ name. g.M.Medium.refuses c.args.after.now c.insert_both.new.after name None)) c.in-Some.ensures.party
    (fails_out order (λ name. g.M.Medium.refuses c.args.before.now c.insert_both.new.before name None) (λ name. g.M.Medium.refuses c.args.after.now c.insert_both.new.after name None) c.in-Err.end (rw (first, second) c.in-Err.ensures.failed))
