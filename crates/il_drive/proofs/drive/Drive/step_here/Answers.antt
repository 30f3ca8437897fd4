use Rattle.std.proofs.Common.{subst}
use Rattle.il_frames.specs.Messages.{message_of}
use Rattle.il_device.specs.Interfaces.{IsInterface}
use Rattle.il_drive.proofs.OwnFrames.{IsSending-after}
use Rattle.il_drive.proofs.StepLemmas.{passed_did}
use Rattle.il_drive.proofs.drive.Drive.step_here.Goals as goal

pub invariant_of-self : goal.invariant_of-self
invariant_of-self g c =
    let before = c.self.invariant in
    rw (c.effect.ensures.state)
    (record {
      standing = subst IsInterface c.effect.ensures.state c.effect.ensures.standing;
      accessory = before.accessory;
      status = before.status;
      buffer_0 = before.buffer_0;
      buffer_1 = before.buffer_1;
      pointer = before.pointer;
      position = before.position;
      mode = before.mode;
      sending = IsSending-after _ c.self.inside.interface.roles _ (message_of c.args.frame) before.sending;
    })

pub returns-in-Pass-clause-did : goal.returns-in-Pass-clause-did
returns-in-Pass-clause-did g c =
    rw (← c.self.view_is)
    (passed_did g.M.Medium.view _ _ c.obey_frame.new.self.state c.effect.new.self c.args.frame c.effect.result c.roles-before.result c.pass.result _ c.obey_frame.new.self.medium
    c.effect.ensures.turn c.effect.ensures.state c.in-Pass.is c.roles-before.ensures.value c.obey_frame.ensures c.pass.ensures)
