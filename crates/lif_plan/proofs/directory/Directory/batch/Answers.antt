use Rattle.std.proofs.Common.{◌≡◌, true, [], map, rules}
use Rattle.lif_model.specs.Volume.{is_adopted_with}
use Rattle.lif_model.specs.declared.version.Version.TheVariants.{One}
use Rattle.lif_dir.specs.Entries.{slot_bytes}
use Rattle.lif_dir.specs.Batches.{parts_of}
use Rattle.lif_plan.proofs.BatchPlans.{needs_upgrade}
use Rattle.lif_plan.proofs.directory.Directory.batch.Goals as goal

pub returns-in-Some-One-clause-plan : goal.returns-in-Some-One-clause-plan
returns-in-Some-One-clause-plan c =
    let slots = map slot_bytes c.args.self.now.table.slots in
    let one : is_adopted_with c.args.size One slots ≡ true = search rules in
    ([], needs_upgrade c.args.size (parts_of c.args.batch.now) c.args.header.now slots one)

pub returns-clause-plan : goal.returns-clause-plan
returns-clause-plan c = (map slot_bytes c.plan_parts-planned.new.self.table.slots, c.plan_parts-planned.ensures.plan)
