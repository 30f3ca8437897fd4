use Rattle.std.proofs.Common.{◌≡◌, ◌∙◌, false, refl, ap, subst}
use Rattle.std.specs.Prelude.{All, None}
use Rattle.lif_dir.specs.Changes.{IsToldBack}
use Rattle.lif_dir.specs.Tables.{Table}
use Rattle.lif_plan.specs.declared.batches.BatchPlan.{BatchPlan}
use Rattle.lif_volume.specs.Views.{VolumeView}
use Rattle.lif_volume.specs.Seen.{seen}
use Rattle.lif_volume.specs.Carrying.{slots_with_all}
use Rattle.lif_volume.proofs.CarryingAll.{all_carry_fails, all_carried, all_open, forgets}
use Rattle.lif_volume.proofs.volume.Volume.carry_out_batch.Goals as goal

pub returns-in-Ok-clause-open : goal.returns-in-Ok-clause-open
returns-in-Ok-clause-open g c =
    let still = c.put_all.ensures.still in
    let changes : c.deref.result.now ≡ c.args.self.now.plan.changes.items = c.deref.ensures.value ∙ ap (λ (p : BatchPlan). p.changes.items) c.put_all.ensures.plan in
    let y : VolumeView g.row.R.Denot = record { records = c.put_all.new.self.records; kept = c.put_all.new.self.kept; is_open = false; last = c.put_all.new.self.staged.last; slots = c.change_slots.new.table.slots; room = c.change_slots.new.table.room } in
    all_open g.R.Records.view (seen c.args.self.now) c.args.header.now c.requires.open c.requires.kept (g.met.R.Records.is_store c.args.self.now.records) c.requires.plan.0 c.args.bytes.now c.args.self.now.plan.changes.items c.args.self.now.plan.files.items c.requires.plan.1 y (c.in-Ok.ensures.put c.requires.plan.0 c.requires.plan.1) (ap (λ (v : VolumeView g.row.R.Denot). v.kept) still)
    (ap (λ (t : Table). t.slots) c.change_slots.ensures.changed ∙ (λ i. slots_with_all (changes i) (still i).slots))
    (subst (All IsToldBack) changes c.change_slots.ensures.told)
    (ap (λ (t : Table). t.room) c.change_slots.ensures.changed ∙ ap (λ (v : VolumeView g.row.R.Denot). v.room) still) refl c.in-Ok.ensures.end

pub returns-in-Ok-clause-carried : goal.returns-in-Ok-clause-carried
returns-in-Ok-clause-carried g c = λ parts plan.
    let y : VolumeView g.row.R.Denot = record { records = c.put_all.new.self.records; kept = c.put_all.new.self.kept; is_open = false; last = c.put_all.new.self.staged.last; slots = c.change_slots.new.table.slots; room = c.change_slots.new.table.room } in
    all_carried g.R.Records.view (seen c.args.self.now) c.args.header.now c.requires.open c.requires.kept (g.met.R.Records.is_store c.args.self.now.records) parts c.args.bytes.now c.args.self.now.plan.changes.items c.args.self.now.plan.files.items plan y (c.in-Ok.ensures.put parts plan) (ap (λ (v : VolumeView g.row.R.Denot). v.kept) c.put_all.ensures.still)

pub returns-in-Err-clause-open : goal.returns-in-Err-clause-open
returns-in-Err-clause-open g c =
    let y : VolumeView g.row.R.Denot = record { records = c.put_all.new.self.records; kept = None; is_open = c.put_all.new.self.is_open; last = c.put_all.new.self.staged.last; slots = c.put_all.new.self.directory.table.slots; room = c.put_all.new.self.directory.table.room } in
    forgets g.R.Records.view (seen c.args.self.now) y _ _ c.requires.open (c.in-Err.ensures.put c.requires.plan.0 c.requires.plan.1).goes_on (ap (λ (v : VolumeView g.row.R.Denot). v.room) c.put_all.ensures.still) refl

pub returns-in-Err-clause-carried : goal.returns-in-Err-clause-carried
returns-in-Err-clause-carried g c = λ parts plan.
    let y : VolumeView g.row.R.Denot = record { records = c.put_all.new.self.records; kept = None; is_open = c.put_all.new.self.is_open; last = c.put_all.new.self.staged.last; slots = c.put_all.new.self.directory.table.slots; room = c.put_all.new.self.directory.table.room } in
    all_carry_fails g.R.Records.view (seen c.args.self.now) c.args.header.now c.requires.open c.requires.kept (g.met.R.Records.is_store c.args.self.now.records) parts c.args.bytes.now c.args.self.now.plan.changes.items c.args.self.now.plan.files.items plan y c.in-Err.trouble (c.in-Err.ensures.put parts plan) refl
