use Rattle.std.proofs.Common.{ap, refl, subst, sym}
use Rattle.std.specs.Prelude.{Err, option_map}
use Rattle.il_ports.specs.Media.{DidInsert}
use Rattle.host_model.specs.Endings.{IsEarly}
use Rattle.il_words.specs.Asked.{asked_by}
use Rattle.il_host.specs.Run.{end_of}
use Rattle.il_host.specs.Words.{order_of}
use Rattle.il_host.proofs.EarlyEndings.{is_inserted, uninserted_cause, uninserted_empty, uninserted_failed, uninserted_leaves, unread_cause, unread_failed, unread_leaves}
use Rattle.il_host.proofs.Wholes.{leaves_image, leaves_inserted, not_failed, runs_over}
use Rattle.il_host.proofs.run.run.Goals as goal

pub returns-in-Err-clause-leaves : goal.returns-in-Err-clause-leaves
returns-in-Err-clause-leaves g c =
    unread_leaves c.ending_by.result c.in-Err.fault c.ending_by.ensures _ (λ same. ap (option_map order_of) (c.in-Err.ensures.refused (ap Err same))) (g.M.Medium.view c.args.rig.medium) c.requires.empty _ _ _ _ _ _

pub returns-in-Err-clause-cause : goal.returns-in-Err-clause-cause
returns-in-Err-clause-cause g c = unread_cause c.ending_by.result c.in-Err.fault c.ending_by.ensures _ _ _

pub returns-in-Err-clause-failed : goal.returns-in-Err-clause-failed
returns-in-Err-clause-failed g c = unread_failed c.ending_by.result c.in-Err.fault c.ending_by.ensures _ _

pub returns-in-None-clause-leaves : goal.returns-in-None-clause-leaves
returns-in-None-clause-leaves g c =
    let order = order_of (asked_by c.in-Ok.words) in
    let v = g.M.Medium.view c.args.rig.medium in
    let m = g.M.Medium.view c.insert-answer.new.self in
    let law = g.met.M.Medium.is_medium c.args.rig.medium in
    let law_now = g.met.M.Medium.is_medium c.insert-answer.new.self in
    let did = subst (λ a. DidInsert order.image c.in-Ok.words.made v m a) (is_inserted c.insert-answer.result c.in-None.ensures) c.insert-answer.ensures.did in
    let ran = c.run_script.ensures in
    leaves_inserted order c.in-Ok.words.made v m refl c.requires.empty law law_now did _ (sym (ap (option_map order_of) c.in-Ok.ensures.read)) c.run_script.result.0 _ _ _ ran.inside
    (λ is.
    let same = ran.kept is in
    let still = ran.untouched (subst (λ e. IsEarly (end_of e)) (sym is) tt) in
    leaves_image order c.in-Ok.words.made v m refl c.requires.empty law law_now did _ (ap g.M.Medium.view same.0) _ _ _ _ _ _ _ _ _ _ (ap g.S.Source.left still.0) (ap g.K.Sink.written still.1) same.1 same.2 same.3)
    (λ late. runs_over order c.in-Ok.words.made v m refl c.requires.empty law law_now did _ _ _ _ _ _ _ _ _ _ _ _ (g.met.M.Medium.is_medium _) (ran.over late))

pub returns-in-None-clause-failed : goal.returns-in-None-clause-failed
returns-in-None-clause-failed g c = not_failed c.run_script.result.0 _ _ c.run_script.ensures.inside

pub returns-in-Some-clause-leaves : goal.returns-in-Some-clause-leaves
returns-in-Some-clause-leaves g c =
    let order = order_of (asked_by c.in-Ok.words) in
    uninserted_leaves c.in-Some.ending c.insert-answer.result c.in-Some.ensures order c.in-Ok.words.made _ _ refl c.insert-answer.ensures.did _ _ _ _ _ _ (sym (ap (option_map order_of) c.in-Ok.ensures.read)) _

pub returns-in-Some-clause-cause : goal.returns-in-Some-clause-cause
returns-in-Some-clause-cause g c =
    let order = order_of (asked_by c.in-Ok.words) in
    uninserted_cause c.in-Some.ending c.insert-answer.result c.in-Some.ensures order c.in-Ok.words.made _ _ refl c.insert-answer.ensures.did _ _

pub returns-in-Some-clause-failed : goal.returns-in-Some-clause-failed
returns-in-Some-clause-failed g c =
    let order = order_of (asked_by c.in-Ok.words) in
    uninserted_failed c.in-Some.ending c.insert-answer.result c.in-Some.ensures order c.in-Ok.words.made (g.M.Medium.view c.args.rig.medium) (g.M.Medium.view c.insert-answer.new.self) refl c.insert-answer.ensures.did _ (sym (ap (option_map order_of) c.in-Ok.ensures.read)) (g.M.Medium.refuses c.args.rig.medium c.insert-answer.new.self) c.insert-answer.ensures.cause

pub returns-in-Some-clause-empty : goal.returns-in-Some-clause-empty
returns-in-Some-clause-empty g c = λ _.
    let order = order_of (asked_by c.in-Ok.words) in
    uninserted_empty c.in-Some.ending c.insert-answer.result c.in-Some.ensures order c.in-Ok.words.made (g.M.Medium.view c.args.rig.medium) (g.M.Medium.view c.insert-answer.new.self) refl c.insert-answer.ensures.did
