use Rattle.std.proofs.Common.{subst, sym}
use Rattle.host_model.specs.Requests.{Asks, OfVolume}
use Rattle.tape_volumes.specs.Changes.{change_command}
use Rattle.il_host.specs.HostView.{Performed}
use Rattle.tape.proofs.Mounts.{did_mounted, kept_ok}
use Rattle.tape.proofs.mounted.MountedVolumes.change.Goals as goal

pub returns-in-Batch : goal.returns-in-Batch
returns-in-Batch g c =
    let v = g.P.Performer.view c.args.self.now.host in
    let w = g.P.Performer.view c.perform_batch.new.self in
    let command = change_command c.args.change.now in
    let did = subst (λ made. Performed (Asks (OfVolume (change_command made))) c.perform_batch.result v w) (sym c.in-Batch.is) c.perform_batch.ensures in
    did_mounted command c.perform_batch.result v w did c.requires.valid.1 (kept_ok command v.state.kept c.perform_batch.result _ did.step.directory.kept)

pub returns : goal.returns
returns g c =
    let v = g.P.Performer.view c.args.self.now.host in
    let w = g.P.Performer.view c.perform.new.self in
    let command = change_command c.args.change.now in
    let did = subst (λ item. Performed item c.perform.result v w) c.command_for-command.ensures.item c.perform.ensures in
    did_mounted command c.perform.result v w did c.requires.valid.1 (kept_ok command v.state.kept c.perform.result _ did.step.directory.kept)
