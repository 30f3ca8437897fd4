use Rattle.std.proofs.Common.{ap, arith}
use Rattle.il_drive.proofs.drive.Drive.due_of_record.Goals as goal

pub overflow_add-self : goal.overflow_add-self
overflow_add-self g c =
    let within = c.load.ensures.within c.if-not-load.false in
    omega (arith, within, c.load.ensures.small, ap (λ v. v.state.position) c.self-then-self-eq0.view_is)
