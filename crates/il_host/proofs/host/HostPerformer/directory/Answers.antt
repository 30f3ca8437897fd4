use Rattle.std.proofs.Common.{◌∙◌, sym}
use Rattle.il_host.proofs.KeptShown.{kept_shown}
use Rattle.il_host.proofs.host.HostPerformer.directory.Goals as goal

pub returns-clause-told : goal.returns-clause-told
returns-clause-told g c =
    kept_shown g.M.Medium.view _ g.met.M.Medium.is_medium c.args.self.now.volume c.args.self.now.page.text _ _ c.requires c.in_ok-header.header c.slots.result.now.slots
    (sym c.header.ensures ∙ c.in_ok-header.was) c.slots.ensures
