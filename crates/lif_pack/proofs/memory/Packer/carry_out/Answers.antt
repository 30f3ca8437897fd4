use Rattle.std.proofs.Common.{subst}
use Rattle.std.specs.Prelude.{Option, IfSome}
use Rattle.lif_model.proofs.Moments.{weaker}
use Rattle.lif_pack.specs.declared.marks.Move.{Move}
use Rattle.lif_pack.specs.Moving.{MayMove}
use Rattle.lif_pack.proofs.Stopped.{clear_shown, move_shown}
use Rattle.lif_pack.proofs.FinishedTape.{task_clears, task_marks, task_moves, on_ok_two}
use Rattle.lif_pack.proofs.memory.Packer.carry_out.Goals as goal

pub returns-in-None-clause-finishes : goal.returns-in-None-clause-finishes
returns-in-None-clause-finishes g c = on_ok_two c.clear_mark.result (λ settles clears t v is some of.
    let n = (g.R.Records.view c.args.records.now).record_count in
    let x = clears t is in
    (x.0, x.1, task_clears n t v c.args.task.now x.0 ((g.met.R.Records.is_store _).is_tape t is) some (c.requires.settled t is) of c.in-None.is x.2 (settles x.0 x.1)))
    c.clear_mark.ensures.settled c.clear_mark.ensures.clears

pub returns-in-Some-clause-finishes : goal.returns-in-Some-clause-finishes
returns-in-Some-clause-finishes g c = on_ok_two c.move_rest.result (λ settles moves t v is some of.
    let n = (g.R.Records.view c.args.records.now).record_count in
    let x = moves t is (λ some_moved. task_marks n t v c.args.task.now c.in-Some.file ((g.met.R.Records.is_store _).is_tape t is) some (c.requires.settled t is) of c.in-Some.is) in
    (x.0, x.1, task_moves n t v c.args.task.now x.0 c.in-Some.file ((g.met.R.Records.is_store _).is_tape t is) some (c.requires.settled t is) of c.in-Some.is x.2 (settles x.0 x.1)))
    c.move_rest.ensures.settled c.move_rest.ensures.moves

pub returns-in-None-clause-stops : goal.returns-in-None-clause-stops
returns-in-None-clause-stops g c t v is some of =
    let n = (g.R.Records.view c.args.records.now).record_count in
    weaker _ _ _ _ _ _ (c.clear_mark.ensures.stops t is)
    (λ y left. clear_shown n t v c.args.task.now ((g.met.R.Records.is_store _).is_tape t is) some (c.requires.settled t is) of c.in-None.is y left)

pub returns-in-Some-clause-stops : goal.returns-in-Some-clause-stops
returns-in-Some-clause-stops g c t v is some of =
    let n = (g.R.Records.view c.args.records.now).record_count in
    let tape = (g.met.R.Records.is_store _).is_tape t is in
    let settles = c.requires.settled t is in
    let task = c.args.task.now in
    let may : MayMove n task.first c.in-Some.file.place task.redo c.in-Some.file =
    subst (λ (o : Option Move). IfSome o (λ move. MayMove n task.first move.place task.redo move)) c.in-Some.is c.requires.may.moving in
    weaker _ _ _ _ _ _ (c.move_rest.ensures.stops t is (λ some_moved. task_marks n t v task c.in-Some.file tape some settles of c.in-Some.is))
    (λ y left. move_shown n t v task tape some settles of c.in-Some.file c.in-Some.is may y left)
