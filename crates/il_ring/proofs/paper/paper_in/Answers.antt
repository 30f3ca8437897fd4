use Rattle.std.proofs.Common.{rules, option_map}
use Rattle.il_ring.proofs.Papers.{paper_of-found}
use Rattle.il_ring.proofs.paper.paper_in.Goals as goal

pub returns-in_err-printer : goal.returns-in_err-printer
returns-in_err-printer g c =
    let same = paper_of-found g.D.Device.state c.args.devices.now (option_map (λ d. d.now) c.printer_in.result) c.printer_in.ensures in
    search (rules, same)

pub returns : goal.returns
returns g c =
    let same = paper_of-found g.D.Device.state c.args.devices.now (option_map (λ d. d.now) c.printer_in.result) c.printer_in.ensures in
    search (rules, same)
