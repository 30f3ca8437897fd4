use Rattle.il_words.specs.Asked.{asked_by}
use Rattle.il_host.specs.IsHosts.{is_host_at}
use Rattle.il_host.specs.Words.{order_of}
use Rattle.il_host.proofs.Wholes.{answers_over_rig}
use Rattle.il_host.proofs.run.run_script.Goals as goal

pub returns-in-Ok-open-clause-over : goal.returns-in-Ok-open-clause-over
returns-in-Ok-open-clause-over g c = λ late.
    answers_over_rig g.M.Medium.view g.S.Source.left g.K.Sink.written _ (order_of (asked_by c.args.words.now)) _ _ _ _ c.args.rig c.close.result c.put_back.result _ _ _ _ _ _ c.keep_aside-aside.ensures.left c.keep_aside-aside.ensures.aside c.put_back.ensures
    c.as_slice.ensures.value c.in-Ok-open.ensures.opened (is_host_at g.M.Medium.view _ c.in-Ok-open.host.volume _ _ _ g.met.M.Medium.is_medium c.in-Ok-open.ensures.opened.valid)
    c.requires.size c.answer_script-ending.ensures.answers c.close.ensures.closed c.close.ensures.size
