use Rattle.std.proofs.Common.{◌∙◌, ℕ, map, subst, sym, arith, refl}
use Rattle.lif_model.specs.Volume.{Volume, IsVolume}
use Rattle.lif_dir.specs.Entries.{slot_bytes}
use Rattle.lif_pack.specs.Marks.{IsMarked}
use Rattle.lif_pack.specs.Tasks.{MayFinish}
use Rattle.lif_pack.proofs.Marking.{marked_from}
use Rattle.lif_pack.proofs.Tasking.{marked_is_upgraded, directory_is_volume, may_finish, within_limit}
use Rattle.lif_pack.specs.Steps.{volume_with}
use Rattle.lif_pack.proofs.tasks.task_of.Goals as goal

pub returns-then-from-mark-clause-task : goal.returns-then-from-mark-clause-task
returns-then-from-mark-clause-task c v is same start end =
    let mark = c.in_ok-mark.ensures.mark v is same in
    let found : IsMarked v c.named-moving.result = marked_from v c.in_ok-mark.mark.number c.in_ok-mark.mark.moved c.named-moving.result (sym mark.2) (sym mark.3)
    c.named-moving.ensures.none (λ ne. c.named-moving.ensures.found ne v same (end ∙ omega (arith, c.from.ensures, c.from-2.ensures))) in
    let below = within_limit c.args.size v c.named-moving.result is (marked_is_upgraded c.args.size v mark.0) found in
    absurd (omega (arith, below, c.if-from-mark.true, c.limit.ensures, c.from-3.ensures, start, mark.1))

pub returns-clause-may : goal.returns-clause-may
returns-clause-may c =
    let slots = map slot_bytes c.args.slots.now.slots in
    let v : Volume = volume_with c.requires.legal.1.bytes slots in
    let is : IsVolume c.args.size v = directory_is_volume c.args.size c.requires.legal.0 slots c.requires.legal.1 in
    let mark = c.in_ok-mark.ensures.mark v is refl in
    subst (λ (r : ℕ). MayFinish c.args.size (record { first = c.args.listing.now.start; redo = r; moving = c.named-moving.result })) (sym mark.1)
    (may_finish c.args.size c.args.listing.now.start v c.named-moving.result is (marked_is_upgraded c.args.size v mark.0) c.named-moving.ensures.may
    (omega (arith, c.if-from-mark.false, c.limit.ensures, c.from-3.ensures, mark.1)))

pub returns-clause-task : goal.returns-clause-task
returns-clause-task c v is same start end =
    let mark = c.in_ok-mark.ensures.mark v is same in
    record {
      marked = mark.0;
      first = sym start;
      redo = mark.1;
      moving = marked_from v c.in_ok-mark.mark.number c.in_ok-mark.mark.moved c.named-moving.result (sym mark.2) (sym mark.3)
          c.named-moving.ensures.none (λ ne. c.named-moving.ensures.found ne v same (end ∙ omega (arith, c.from.ensures, c.from-2.ensures)));
    }
