use Rattle.std.proofs.Common.{◌≡◌, ◌∙◌, ◌*◌, ℕ, false, length, map, refl, sym, ap, subst, arith, rules}
use Rattle.std.proofs.lemmas.List.{length-map}
use Rattle.std.specs.Prelude.{None, Ok, Err}
use Rattle.lif_dir.specs.Entries.{slot_bytes}
use Rattle.lif_dir.specs.Changes.{FitsIn, slots_with}
use Rattle.lif_dir.specs.Tables.{Table}
use Rattle.lif_plan.specs.Plans.{IsPlan, ChangesNothing, MakesChange}
use Rattle.lif_volume.specs.Views.{VolumeView}
use Rattle.lif_volume.specs.Seen.{seen}
use Rattle.lif_volume.specs.Answers.{refused}
use Rattle.lif_volume.proofs.Carrying.{readable, refuses, changes_nothing, plan_leaves, of_change, carry_fails, carries, change_opens}
use Rattle.lif_volume.proofs.volume.Volume.carry_out.Goals as goal

pub change-requires : goal.change-requires
change-requires g c =
    let p = c.requires.plan in
    let plan : MakesChange (g.R.Records.view c.args.self.now.records).record_count p.0 c.args.header.now (map slot_bytes c.args.self.now.directory.table.slots) c.in-Some.change =
    subst (IsPlan (g.R.Records.view c.args.self.now.records).record_count p.0 c.args.header.now (map slot_bytes c.args.self.now.directory.table.slots)) (c.in_ok-change.was ∙ ap Ok c.in-Some.is) p.2 in
    let low = readable g.R.Records.view (seen c.args.self.now) c.args.header.now c.requires.open c.requires.kept (g.met.R.Records.is_store c.args.self.now.records) in (
      8 * c.args.header.now.length,
      omega (arith, low, c.requires.open.room, ap (λ (v : VolumeView g.row.R.Denot). v.room) c.put.ensures.still),
      subst (λ (k : ℕ). FitsIn (8 * c.args.header.now.length) k c.in-Some.change)
          (length-map c.args.self.now.directory.table.slots slot_bytes ∙ ap (λ (v : VolumeView g.row.R.Denot). length v.slots) (sym c.put.ensures.still)) plan.fits,
    )

pub returns-in_err-change-clause-carried : goal.returns-in_err-change-clause-carried
returns-in_err-change-clause-carried g c = λ command has plan.
    let is : c.from_residual.result ≡ Err (refused c.in_err-change.field-0.0) = search rules in
    rw is (refuses g.R.Records.view (seen c.args.self.now) c.args.header.now c.requires.open c.requires.kept (g.met.R.Records.is_store c.args.self.now.records) command _ c.in_err-change.field-0.0 c.requires.ready
    (subst (IsPlan (g.R.Records.view c.args.self.now.records).record_count command c.args.header.now (map slot_bytes c.args.self.now.directory.table.slots)) c.in_err-change.was plan))

pub returns-in_default-clause-carried : goal.returns-in_default-clause-carried
returns-in_default-clause-carried g c = λ command has plan.
    let none : c.in_ok-change.field-0 ≡ None = search rules in
    let nothing : ChangesNothing (g.R.Records.view c.args.self.now.records).record_count command c.args.header.now (map slot_bytes c.args.self.now.directory.table.slots) =
    subst (IsPlan (g.R.Records.view c.args.self.now.records).record_count command c.args.header.now (map slot_bytes c.args.self.now.directory.table.slots)) (c.in_ok-change.was ∙ ap Ok none) plan in
    changes_nothing g.R.Records.view (seen c.args.self.now) c.args.header.now c.requires.open c.requires.kept (g.met.R.Records.is_store c.args.self.now.records) command (plan_leaves g.R.Records.view (seen c.args.self.now) c.args.header.now c.requires.open c.requires.kept (g.met.R.Records.is_store c.args.self.now.records) command _ has nothing) _ c.requires.ready

pub returns-in-Ok-clause-open : goal.returns-in-Ok-clause-open
returns-in-Ok-clause-open g c =
    let p = c.requires.plan in
    let plan : MakesChange (g.R.Records.view c.args.self.now.records).record_count p.0 c.args.header.now (map slot_bytes c.args.self.now.directory.table.slots) c.in-Some.change =
    subst (IsPlan (g.R.Records.view c.args.self.now.records).record_count p.0 c.args.header.now (map slot_bytes c.args.self.now.directory.table.slots)) (c.in_ok-change.was ∙ ap Ok c.in-Some.is) p.2 in
    let still = c.put.ensures.still in
    let y : VolumeView g.row.R.Denot = record { records = c.put.new.self.records; kept = c.put.new.self.kept; is_open = false; last = c.put.new.self.staged.last; slots = c.change.new.self.table.slots; room = c.change.new.self.table.room } in
    change_opens g.R.Records.view (seen c.args.self.now) c.args.header.now c.requires.open c.requires.kept (g.met.R.Records.is_store c.args.self.now.records) p.0 c.in-Some.change plan y
    (c.in-Ok.ensures.put p.0 p.1 plan) (ap (λ (v : VolumeView g.row.R.Denot). v.kept) still)
    (ap (λ (t : Table). t.slots) c.change.ensures.changed ∙ ap (λ (v : VolumeView g.row.R.Denot). slots_with c.in-Some.change v.slots) still) c.change.ensures.told
    (ap (λ (t : Table). t.room) c.change.ensures.changed ∙ ap (λ (v : VolumeView g.row.R.Denot). v.room) still) refl c.in-Ok.ensures.end

pub returns-in-Ok-clause-carried : goal.returns-in-Ok-clause-carried
returns-in-Ok-clause-carried g c = λ command has planned.
    let plan : MakesChange (g.R.Records.view c.args.self.now.records).record_count command c.args.header.now (map slot_bytes c.args.self.now.directory.table.slots) c.in-Some.change =
    subst (IsPlan (g.R.Records.view c.args.self.now.records).record_count command c.args.header.now (map slot_bytes c.args.self.now.directory.table.slots)) (c.in_ok-change.was ∙ ap Ok c.in-Some.is) planned in
    let y : VolumeView g.row.R.Denot = record { records = c.put.new.self.records; kept = c.put.new.self.kept; is_open = false; last = c.put.new.self.staged.last; slots = c.change.new.self.table.slots; room = c.change.new.self.table.room } in
    carries g.R.Records.view (seen c.args.self.now) c.args.header.now c.requires.open c.requires.kept (g.met.R.Records.is_store c.args.self.now.records) command (of_change g.R.Records.view (seen c.args.self.now) c.args.header.now c.requires.open c.requires.kept (g.met.R.Records.is_store c.args.self.now.records) command c.in-Some.change plan) y
    (c.in-Ok.ensures.put command has plan) (ap (λ (v : VolumeView g.row.R.Denot). v.kept) c.put.ensures.still)

pub returns-in-Err-clause-carried : goal.returns-in-Err-clause-carried
returns-in-Err-clause-carried g c = λ command has planned.
    let plan : MakesChange (g.R.Records.view c.args.self.now.records).record_count command c.args.header.now (map slot_bytes c.args.self.now.directory.table.slots) c.in-Some.change =
    subst (IsPlan (g.R.Records.view c.args.self.now.records).record_count command c.args.header.now (map slot_bytes c.args.self.now.directory.table.slots)) (c.in_ok-change.was ∙ ap Ok c.in-Some.is) planned in
    let y : VolumeView g.row.R.Denot = record { records = c.put.new.self.records; kept = None; is_open = c.put.new.self.is_open; last = c.put.new.self.staged.last; slots = c.put.new.self.directory.table.slots; room = c.put.new.self.directory.table.room } in
    carry_fails g.R.Records.view (seen c.args.self.now) c.args.header.now c.requires.open c.requires.kept (g.met.R.Records.is_store c.args.self.now.records) command (of_change g.R.Records.view (seen c.args.self.now) c.args.header.now c.requires.open c.requires.kept (g.met.R.Records.is_store c.args.self.now.records) command c.in-Some.change plan) y c.in-Err.trouble
    (c.in-Err.ensures.put command has plan) refl
