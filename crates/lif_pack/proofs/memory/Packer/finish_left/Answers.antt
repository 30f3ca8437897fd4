use Rattle.std.proofs.Common.{◌≡◌, ◌+◌, ◌*◌, ◌∙◌, ℕ, Option, ap, subst, sym, arith, rules}
use Rattle.std.specs.Prelude.{Some, Err, IfSome, is_some}
use Rattle.std.proofs.lemmas.Result.{on_ok_weaker}
use Rattle.lif_model.specs.Tape.{Tape, IsTape}
use Rattle.lif_model.specs.Redo.{settled, IsSettled}
use Rattle.il_ports.specs.Stores.{GoesOn, RunLeaves}
use Rattle.il_ports.proofs.Stores.{goes_further, goes_within}
use Rattle.lif_pack.specs.declared.tasks.Task.{Task}
use Rattle.lif_pack.specs.Tasks.{MayFinish, IsLeftToDo, IsTaskOf, IsShownAs, calls_to_finish}
use Rattle.lif_model.specs.Packing.{bears_mark, has_mark}
use Rattle.lif_model.specs.Volume.{volume_in, volume_of}
use Rattle.lif_model.proofs.Redo.{settled_twice}
use Rattle.lif_pack.proofs.Consulting.{task_is_marked}
use Rattle.lif_pack.proofs.FinishedTape.{finished_after}
use Rattle.lif_pack.proofs.Stopped.{shown_further, task_not_held, few_to_finish}
use Rattle.lif_pack.proofs.memory.Packer.finish_left.Goals as goal

pub returns-in-None-clause-finished : goal.returns-in-None-clause-finished
returns-in-None-clause-finished g c t is =
    let left = c.in_ok-left_of.ensures.left t is in
    (settled t, left.0, subst (IsLeftToDo c.args.size t) c.in-None.is left.1)

pub returns-in-Some-clause-finished : goal.returns-in-Some-clause-finished
returns-in-Some-clause-finished g c = on_ok_weaker c.carry_out.result (λ finishes t is.
    let left = c.in_ok-left_of.ensures.left t is in
    let of = subst (IsLeftToDo c.args.size t) c.in-Some.is left.1 in
    let size : c.args.size ≡ (g.R.Records.view c.records_mut.result.now).record_count =
    c.requires.size ∙ sym c.in_ok-left_of.ensures.goes_on.continues.size ∙ sym (ap (λ r. (g.R.Records.view r).record_count) c.records_mut.ensures.value) in
    let tape : (g.R.Records.view c.records_mut.result.now).tape ≡ Some (settled t) =
    ap (λ r. (g.R.Records.view r).tape) c.records_mut.ensures.value ∙ left.0 in
    let x = finishes (settled t) of.0 tape of.1 (subst (λ (n : ℕ). IsTaskOf n of.0 c.in-Some.task) size of.2) in
    (x.0, x.1, finished_after t x.0 x.2)) c.carry_out.ensures.finishes

pub carry_out-requires-clause-settled : goal.carry_out-requires-clause-settled
carry_out-requires-clause-settled g c t is =
    subst (λ (o : Option Task). IfSome o (λ _. (t : Tape) → (g.R.Records.view c.left_of.new.volume.records).tape ≡ Some t → IsSettled t)) c.in-Some.is c.in_ok-left_of.ensures.settled t
    (ap (λ r. (g.R.Records.view r).tape) (sym c.records_mut.ensures.value) ∙ is)

pub returns-in-None-clause-foreign : goal.returns-in-None-clause-foreign
returns-in-None-clause-foreign g c t is on = c.left_of.ensures.settling t is

pub returns-in-Some-clause-goes_on : goal.returns-in-Some-clause-goes_on
returns-in-Some-clause-goes_on g c =
    let may : MayFinish c.args.size c.in-Some.task = subst (λ (o : Option Task). IfSome o (MayFinish c.args.size)) c.in-Some.is c.in_ok-left_of.ensures.may in
    let few = few_to_finish c.args.size c.in-Some.task.first c.in-Some.task.redo c.in-Some.task.moving may.moving in
    goes_within (c.args.size + 66 + calls_to_finish c.in-Some.task.moving) (15 * c.args.size + 120) _ _ _ (omega (arith, few))
    (goes_further (c.args.size + 66) (calls_to_finish c.in-Some.task.moving) _ _ _ _ _ c.in_ok-left_of.ensures.goes_on
    (subst (λ r. GoesOn (calls_to_finish c.in-Some.task.moving) (g.R.Records.view r) (g.R.Records.view c.carry_out.new.records) c.carry_out.result) c.records_mut.ensures.value c.carry_out.ensures.goes_on))

pub returns-in-Some-clause-shown : goal.returns-in-Some-clause-shown
returns-in-Some-clause-shown g c t is own =
    let left = c.in_ok-left_of.ensures.left t is in
    let of = subst (IsLeftToDo c.args.size t) c.in-Some.is left.1 in
    let size : c.args.size ≡ (g.R.Records.view c.records_mut.result.now).record_count =
    c.requires.size ∙ sym c.in_ok-left_of.ensures.goes_on.continues.size ∙ sym (ap (λ r. (g.R.Records.view r).record_count) c.records_mut.ensures.value) in
    let tape : (g.R.Records.view c.records_mut.result.now).tape ≡ Some (settled t) =
    ap (λ r. (g.R.Records.view r).tape) c.records_mut.ensures.value ∙ left.0 in
    let next = c.carry_out.ensures.stops (settled t) of.0 tape of.1 (subst (λ (n : ℕ). IsTaskOf n of.0 c.in-Some.task) size of.2) in
    shown_further _ _ _ t (g.met.R.Records.is_store _) (c.carry_out.ensures.goes_on.continues.told ∙ ap is_some tape) (c.in_ok-left_of.ensures.shown t is own)
    (subst (λ r. RunLeaves (g.R.Records.view r) (g.R.Records.view c.carry_out.new.records) (IsShownAs (settled t))) c.records_mut.ensures.value next)

pub returns-in-Some-clause-foreign : goal.returns-in-Some-clause-foreign
returns-in-Some-clause-foreign g c t is on =
    let tape : IsTape c.args.size t = subst (λ m. IsTape m t) (sym c.requires.size) ((g.met.R.Records.is_store _).is_tape t is) in
    absurd (task_not_held c.args.size t c.in-Some.task tape (subst (IsLeftToDo c.args.size t) c.in-Some.is (c.in_ok-left_of.ensures.left t is).1) on)

pub returns-in_err-left_of-clause-mounts : goal.returns-in_err-left_of-clause-mounts
returns-in_err-left_of-clause-mounts g c t v is some off =
    let passed : c.from_residual.result ≡ Err c.in_err-left_of.field-0.0 = search rules in
    record { few = (c.in_err-left_of.ensures.mounts t v is some).few; keeps = rw passed tt }

pub returns-in-None-clause-mounts : goal.returns-in-None-clause-mounts
returns-in-None-clause-mounts g c t v is some off = let alone = c.in_ok-left_of.ensures.mounts t v is some in record { few = alone.few; keeps = alone.keeps }

pub returns-in-Some-clause-mounts : goal.returns-in-Some-clause-mounts
returns-in-Some-clause-mounts g c t v is some off =
    absurd (task_is_marked c.args.size t v c.in-Some.task (subst (IsLeftToDo c.args.size t) c.in-Some.is (c.in_ok-left_of.ensures.left t is).1) some
    (ap (λ (m : ℕ). bears_mark m v) c.requires.size ∙ off))

pub returns-in_err-left_of-clause-writes : goal.returns-in_err-left_of-clause-writes
returns-in_err-left_of-clause-writes g c t is off =
    let passed : c.from_residual.result ≡ Err c.in_err-left_of.field-0.0 = search rules in
    (c.left_of.ensures.settling t is, rw passed tt)

pub returns-in-None-clause-writes : goal.returns-in-None-clause-writes
returns-in-None-clause-writes g c t is off = (c.left_of.ensures.settling t is, c.in_ok-left_of.ensures.writes t is)

pub returns-in-Some-clause-writes : goal.returns-in-Some-clause-writes
returns-in-Some-clause-writes g c t is off =
    let left = subst (IsLeftToDo c.args.size t) c.in-Some.is (c.in_ok-left_of.ensures.left t is).1 in
    let here : volume_of t ≡ Some left.0 = sym (ap volume_in (settled_twice t)) ∙ left.1 in
    absurd (task_is_marked c.args.size t left.0 c.in-Some.task left here
    (ap (λ (m : ℕ). bears_mark m left.0) c.requires.size ∙ sym (ap (has_mark (g.R.Records.view c.args.volume.now.records).record_count) here) ∙ off))
