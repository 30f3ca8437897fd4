use Rattle.std.proofs.Common.{ap}
use Rattle.tape.proofs.Inserts.{no_work_on_tape, works_on_tape}
use Rattle.tape.proofs.images.work_on_tape.Goals as goal

pub returns-in-Ok : goal.returns-in-Ok
returns-in-Ok g c = works_on_tape g.J.VolumeJob.does g.J.VolumeJob.leaves c.args.job _ _ _ (g.M.Medium.view c.args.medium) (g.M.Medium.view c.in-Ok.rig.medium) _ _ c.in-Ok.ensures.worked

pub returns-in-Err : goal.returns-in-Err
returns-in-Err g c =
    let refused = c.in-Err.ensures.refused in
    no_work_on_tape g.J.VolumeJob.does g.J.VolumeJob.leaves c.args.job _ (g.M.Medium.view c.args.medium) (g.M.Medium.view c.in-Err.refused.rig.medium) (g.met.M.Medium.is_medium c.args.medium) (ap g.M.Medium.view refused.0)
    (ap (λ hosted. hosted.job) refused.2)
