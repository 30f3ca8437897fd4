use Rattle.std.proofs.Common.{ap}
use Rattle.host_model.specs.Requests.{item_for}
use Rattle.il_host.proofs.Cleared.{on_cleared}
use Rattle.il_host.proofs.host.HostPerformer.perform.Goals as goal

pub returns-in-Put : goal.returns-in-Put
returns-in-Put g c = on_cleared _ _ c.args.self.now.volume _ _ _ (ap (λ command. item_for command c.args.bytes.now) c.in-Put.is) c.args.self.now.page c.clear.new.self c.clear.ensures c.put.ensures
