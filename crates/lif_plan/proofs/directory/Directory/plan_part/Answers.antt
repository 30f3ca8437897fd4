use Rattle.std.proofs.Common.{map}
use Rattle.lif_dir.specs.Entries.{name_bytes, slot_bytes}
use Rattle.lif_dir.specs.Names.{made_name}
use Rattle.lif_plan.proofs.PartPlans.{rename_part, purge_part}
use Rattle.lif_plan.proofs.directory.Directory.plan_part.Goals as goal

pub returns-in-Rename : goal.returns-in-Rename
returns-in-Rename c = record {
  plan = rw c.in-Rename.is (rename_part c.args.size c.args.barred.now c.args.header.now (map slot_bytes c.args.self.now.table.slots) (name_bytes c.in-Rename.old) (name_bytes (made_name c.in-Rename.new))
      c.rename.result c.rename.ensures.plan);
}

pub returns-in-Purge : goal.returns-in-Purge
returns-in-Purge c = record {
  plan = rw c.in-Purge.is (purge_part c.args.size c.args.barred.now c.args.header.now (map slot_bytes c.args.self.now.table.slots) (name_bytes c.in-Purge.name) c.purge.result c.purge.ensures.plan);
}
