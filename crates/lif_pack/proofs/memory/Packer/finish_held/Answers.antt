use Rattle.std.proofs.Common.{◌+◌, ℕ, List, Option, subst, sym}
use Rattle.std.specs.Prelude.{IfSome}
use Rattle.std.proofs.lemmas.Result.{on_ok_weaker}
use Rattle.lif_model.proofs.Moments.{weaker}
use Rattle.il_ports.proofs.Stores.{quiet_run, quiet_nowhere}
use Rattle.lif_pack.specs.declared.tasks.Task.{Task}
use Rattle.lif_pack.specs.Packers.{slots_held}
use Rattle.lif_pack.specs.Steps.{MayPack, ArePlaced}
use Rattle.lif_pack.specs.Packs.{IsTaskWith, AreThoseOf, IsFinishedTo}
use Rattle.lif_pack.proofs.FinishedTape.{on_ok_two}
use Rattle.lif_pack.proofs.Keeping.{shown_keeps, keeps_itself}
use Rattle.lif_pack.proofs.Held.{none_left, task_may, task_finished}
use Rattle.lif_pack.proofs.memory.Packer.finish_held.Goals as goal

pub returns-in-None-clause-may : goal.returns-in-None-clause-may
returns-in-None-clause-may g c first end redo may with_it = (may, subst (λ (o : Option Task). IfSome o (λ task. IfSome task.moving (λ move. ArePlaced end (move.slot + 1) (move.place + move.length) (slots_held c.args.self.now)))) (sym c.in-None.is) tt)

pub returns-in-None-clause-finishes : goal.returns-in-None-clause-finishes
returns-in-None-clause-finishes g c first end redo t v is some with_it those =
    let n : ℕ = (g.R.Records.view c.args.records.now).record_count in (
      t,
      is,
      none_left n first end redo (slots_held c.args.self.now) t v ((g.met.R.Records.is_store _).is_tape t is) some
          (subst (λ (o : Option Task). AreThoseOf n first end redo o (slots_held c.args.self.now) v) c.in-None.is those),
    )

pub returns-in-None-clause-stops : goal.returns-in-None-clause-stops
returns-in-None-clause-stops g c first end redo t v is some those =
    let n : ℕ = (g.R.Records.view c.args.records.now).record_count in
    quiet_run _ _ _ t (g.met.R.Records.is_store _) (quiet_nowhere _) is
    (keeps_itself n t v ((g.met.R.Records.is_store _).is_tape t is) some (c.requires.settled t is) those.version)

pub returns-in-Some-clause-may : goal.returns-in-Some-clause-may
returns-in-Some-clause-may g c = on_ok_weaker c.finish_task.result (λ slots first end redo may with_it.
    let n : ℕ = (g.R.Records.view c.args.records.now).record_count in
    let old = slots_held c.args.self.now in
    let both = task_may n first end redo old may c.in-Some.task (subst (IsTaskWith n end redo old) c.in-Some.is with_it) in (
      subst (MayPack n first end redo) (sym slots) both.0,
      subst (λ (o : Option Task). IfSome o (λ task. IfSome task.moving (λ move. ArePlaced end (move.slot + 1) (move.place + move.length) (slots_held c.finish_task.new.self)))) (sym c.in-Some.is)
          (subst (λ (xs : List (List ℕ)). IfSome c.in-Some.task.moving (λ move. ArePlaced end (move.slot + 1) (move.place + move.length) xs)) (sym slots) both.1),
    )) c.finish_task.ensures.slots

pub returns-in-Some-clause-finishes : goal.returns-in-Some-clause-finishes
returns-in-Some-clause-finishes g c = on_ok_two c.finish_task.result (λ slots finishes first end redo t v is some with_it those.
    let n : ℕ = (g.R.Records.view c.args.records.now).record_count in
    let old = slots_held c.args.self.now in
    let p = c.requires.may in
    let of = subst (λ (o : Option Task). AreThoseOf n first end redo o old v) c.in-Some.is those in
    let x = finishes t v is some of.task_is in (
      x.0,
      x.1,
      subst (λ (xs : List (List ℕ)). IsFinishedTo first end xs t x.0) (sym slots)
          (task_finished n first end redo old t v ((g.met.R.Records.is_store _).is_tape t is) some (c.requires.settled t is) c.in-Some.task (subst (IsTaskWith n end redo old) c.in-Some.is with_it)
          p.0 p.1 p.2 p.3 (subst (IsTaskWith n p.1 p.2 old) c.in-Some.is p.4) of x.0 x.2),
    ))
    c.finish_task.ensures.slots c.finish_task.ensures.finishes

pub returns-in-Some-clause-stops : goal.returns-in-Some-clause-stops
returns-in-Some-clause-stops g c first end redo t v is some those =
    let n : ℕ = (g.R.Records.view c.args.records.now).record_count in
    let of = subst (λ (o : Option Task). AreThoseOf n first end redo o (slots_held c.args.self.now) v) c.in-Some.is those in
    weaker _ _ _ _ _ _ (c.finish_task.ensures.stops t v is some of.task_is) (λ y left. shown_keeps n t y left)
