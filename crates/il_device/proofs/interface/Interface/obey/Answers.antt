use Rattle.il_device.proofs.StandingLemmas.{IsStanding-after}
use Rattle.il_device.proofs.interface.Interface.obey.Goals as goal

pub invariant_of-self : goal.invariant_of-self
invariant_of-self c =
    rw (c.after-self-inside.ensures, c.own_behind-self-inside.ensures, c.poll.ensures)
    (record {
      standing = IsStanding-after _ _ _ c.said-message.result c.self.invariant.standing;
      heard_count = c.self.invariant.heard_count;
      frames = c.self.invariant.frames;
    })
