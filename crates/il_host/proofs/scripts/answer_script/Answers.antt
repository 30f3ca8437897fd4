use Rattle.il_host.proofs.scripts.answer_script.Goals as goal

pub returns-in-Some-clause-cause : goal.returns-in-Some-clause-cause
returns-in-Some-clause-cause g c = c.answer_generated.ensures.cause (g.S.Source.faults c.args.script.now)
