use Rattle.std.proofs.Common.{ap, ◌∙◌}
use Rattle.il_poll.specs.Service.{polled}
use Rattle.il_poll.proofs.PollLemmas.{SetsBit-polled}
use Rattle.il_poll.proofs.service.ServiceState.on_idy.Goals as goal

pub returns-clause-bits : goal.returns-clause-bits
returns-clause-bits c =
    let place = ap (λ s. polled s.assignment c.wants.result c.args.byte) c.self.view_is in
    let wants = ap (λ w. polled c.args.self.now.assignment w c.args.byte) c.wants.ensures in
    SetsBit-polled _ _ _ _ (c.answered.ensures ∙ place ∙ wants)
