use Rattle.std.proofs.Common.{map}
use Rattle.lif_dir.specs.Entries.{name_bytes, slot_bytes}
use Rattle.lif_dir.specs.Names.{made_name}
use Rattle.lif_plan.proofs.Chosen.{store_plan}
use Rattle.lif_plan.proofs.directory.Directory.store.Goals as goal

pub returns-clause-plan : goal.returns-clause-plan
returns-clause-plan c = store_plan c.args.size (name_bytes (made_name c.args.name.now)) c.args.kind c.args.implementation c.args.bytes.now c.args.header.now (map slot_bytes c.args.self.now.table.slots)
    c.store_beside.result c.store_beside.ensures.plan
