use Rattle.std.proofs.Common.{◌≡◌, ℕ, List, true, false, length, map, refl, sym, subst, arith, rules}
use Rattle.std.specs.Prelude.{All, None, Result, Ok, Err, OnOk}
use Rattle.lif_model.specs.Apply.{Batch, IsWellFormed}
use Rattle.lif_dir.specs.Entries.{slot_bytes}
use Rattle.lif_dir.specs.Batches.{parts_of}
use Rattle.lif_dir.specs.Tables.{Table}
use Rattle.lif_plan.specs.Plans.{RefusesAs}
use Rattle.lif_plan.specs.Batches.{PlansBatch, IsFileWithin, file_of}
use Rattle.lif_volume.specs.Views.{VolumeView}
use Rattle.lif_volume.specs.Seen.{seen}
use Rattle.lif_volume.specs.Carrying.{ChangesByParts, CarriesOut}
use Rattle.lif_volume.specs.Did.{Alters}
use Rattle.lif_volume.proofs.Mounting.{volume_on}
use Rattle.lif_volume.proofs.Carrying.{some, some_is, tape, within, with_is, refuses, changes_nothing}
use Rattle.lif_volume.proofs.Batched.{leaves_all, refused_among}
use Rattle.lif_volume.proofs.Joining.{batch_not_altered, batch_altered, batch_refused, long_there, batch_ready_there}
use Rattle.lif_volume.proofs.volume.Volume.batch.Goals as goal

pub returns-in_err-header-clause-did : goal.returns-in_err-header-clause-did
returns-in_err-header-clause-did g c =
    let is : c.from_residual.result ≡ Err c.in_err-header.field-0.0 = search rules in
    let e = c.in_err-header.ensures in
    rw is (batch_not_altered g.R.Records.view (seen c.args.self.now) (seen c.mount.new.self) (parts_of c.args.batch.now) c.in_err-header.field-0.0 e.consults e.only e.exactly e.settling e.stays e.transfers)

pub batch-requires-clause-room : goal.batch-requires-clause-room
batch-requires-clause-room g c =
    let e = c.in_ok-header.ensures in
    omega (arith, e.open.room, e.consults.goes_on.continues.size, long_there g.R.Records.view (seen c.args.self.now) (seen c.mount.new.self) c.in_ok-header.header e.kept e.consults e.open)

pub carry_out_batch-requires-clause-ready : goal.carry_out_batch-requires-clause-ready
carry_out_batch-requires-clause-ready g c =
    let e = c.in_ok-header.ensures in
    batch_ready_there g.R.Records.view (seen c.args.self.now) (seen c.mount.new.self) c.in_ok-header.header e.kept e.consults e.open c.requires.ready.left

pub carry_out_batch-requires-clause-within : goal.carry_out_batch-requires-clause-within
carry_out_batch-requires-clause-within g c =
    subst (λ (bytes : List ℕ). All (IsFileWithin (length bytes)) c.batch.new.plan.files.items) (sym c.bytes.ensures.bytes) c.in-Ok-false.ensures.within

pub returns-in-Ok-true-clause-did : goal.returns-in-Ok-true-clause-did
returns-in-Ok-true-clause-did g c =
    let e = c.in_ok-header.ensures in
    let p = c.in-Ok-true.ensures.plan in
    let plan : PlansBatch (g.R.Records.view c.mount.new.self.records).record_count (parts_of c.args.batch.now) c.in_ok-header.header (map slot_bytes c.mount.new.self.directory.table.slots) p.0 c.batch.new.plan.changes.items (map (file_of c.args.batch.now.bytes) c.batch.new.plan.files.items) true =
    subst (λ (n : ℕ). PlansBatch n (parts_of c.args.batch.now) c.in_ok-header.header (map slot_bytes c.mount.new.self.directory.table.slots) p.0 c.batch.new.plan.changes.items (map (file_of c.args.batch.now.bytes) c.batch.new.plan.files.items) true) c.size-size.ensures
    (subst (PlansBatch c.size-size.result (parts_of c.args.batch.now) c.in_ok-header.header (map slot_bytes c.mount.new.self.directory.table.slots) p.0 c.batch.new.plan.changes.items (map (file_of c.args.batch.now.bytes) c.batch.new.plan.files.items)) c.in-Ok-true.field-0-test p.1) in
    let carried : CarriesOut {T = Unit {0}} (Batch (parts_of c.args.batch.now)) g.R.Records.view (seen c.mount.new.self) (seen c.mount.new.self) (Ok tt) =
    changes_nothing g.R.Records.view (seen c.mount.new.self) c.in_ok-header.header e.open e.kept (g.met.R.Records.is_store c.mount.new.self.records) (Batch (parts_of c.args.batch.now))
    (λ t told. leaves_all plan (volume_on t) (with_is g.R.Records.view (seen c.mount.new.self) c.in_ok-header.header e.open e.kept (g.met.R.Records.is_store c.mount.new.self.records) t told) t (tape g.R.Records.view (seen c.mount.new.self) c.in_ok-header.header e.open e.kept (g.met.R.Records.is_store c.mount.new.self.records) t told) (within g.R.Records.view (seen c.mount.new.self) c.in_ok-header.header e.open e.kept (g.met.R.Records.is_store c.mount.new.self.records) t told))
    _ (batch_ready_there g.R.Records.view (seen c.args.self.now) (seen c.mount.new.self) c.in_ok-header.header e.kept e.consults e.open c.requires.ready.left) in
    subst (λ (t : Table). Alters {T = Unit {0}} (Batch (parts_of c.args.batch.now)) g.R.Records.view (seen c.args.self.now) (record { records = c.mount.new.self.records; kept = c.mount.new.self.kept; is_open = c.mount.new.self.is_open; last = c.mount.new.self.staged.last; slots = t.slots; room = t.room }) (Ok tt))
    (sym c.batch.ensures.table)
    (batch_altered g.R.Records.view (seen c.args.self.now) (seen c.mount.new.self) (parts_of c.args.batch.now) (seen c.mount.new.self) c.in_ok-header.header e.consults e.kept (long_there g.R.Records.view (seen c.args.self.now) (seen c.mount.new.self) c.in_ok-header.header e.kept e.consults e.open) e.settling e.stays e.transfers (Ok tt) carried tt)

pub returns-in-Ok-false-clause-did : goal.returns-in-Ok-false-clause-did
returns-in-Ok-false-clause-did g c =
    let e = c.in_ok-header.ensures in
    let p = c.in-Ok-false.ensures.plan in
    let changes = c.batch.new.plan.changes.items in
    let files = c.batch.new.plan.files.items in
    let changed : PlansBatch c.size-size.result (parts_of c.args.batch.now) c.in_ok-header.header (map slot_bytes c.mount.new.self.directory.table.slots) p.0 changes (map (file_of c.args.batch.now.bytes) c.batch.new.plan.files.items) false = subst (PlansBatch c.size-size.result (parts_of c.args.batch.now) c.in_ok-header.header (map slot_bytes c.mount.new.self.directory.table.slots) p.0 changes (map (file_of c.args.batch.now.bytes) c.batch.new.plan.files.items)) c.in-Ok-false.field-0-test p.1 in
    let told : PlansBatch (g.R.Records.view c.mount.new.self.records).record_count (parts_of c.args.batch.now) c.in_ok-header.header (map slot_bytes c.mount.new.self.directory.table.slots) p.0 changes (map (file_of c.bytes.result.now) files) false =
    subst (λ (bytes : List ℕ). PlansBatch (g.R.Records.view c.mount.new.self.records).record_count (parts_of c.args.batch.now) c.in_ok-header.header (map slot_bytes c.mount.new.self.directory.table.slots) p.0 changes (map (file_of bytes) files) false) (sym c.bytes.ensures.bytes)
    (subst (λ (n : ℕ). PlansBatch n (parts_of c.args.batch.now) c.in_ok-header.header (map slot_bytes c.mount.new.self.directory.table.slots) p.0 changes (map (file_of c.args.batch.now.bytes) c.batch.new.plan.files.items) false) c.size-size.ensures changed) in
    let plan : ChangesByParts (parts_of c.args.batch.now) (g.R.Records.view c.mount.new.self.records).record_count c.in_ok-header.header c.batch.new.self.table.slots c.bytes.result.now changes files =
    (p.0, subst (λ (t : Table). PlansBatch (g.R.Records.view c.mount.new.self.records).record_count (parts_of c.args.batch.now) c.in_ok-header.header (map slot_bytes t.slots) p.0 changes (map (file_of c.bytes.result.now) files) false) (sym c.batch.ensures.table) told) in
    let carried : CarriesOut (Batch (parts_of c.args.batch.now)) g.R.Records.view (seen c.mount.new.self) (seen c.carry_out_batch.new.self) c.carry_out_batch.result =
    subst (λ (t : Table). CarriesOut (Batch (parts_of c.args.batch.now)) g.R.Records.view (record { records = c.mount.new.self.records; kept = c.mount.new.self.kept; is_open = c.mount.new.self.is_open; last = c.mount.new.self.staged.last; slots = t.slots; room = t.room })
    (seen c.carry_out_batch.new.self) c.carry_out_batch.result) c.batch.ensures.table (c.carry_out_batch.ensures.carried (parts_of c.args.batch.now) plan) in
    batch_altered g.R.Records.view (seen c.args.self.now) (seen c.mount.new.self) (parts_of c.args.batch.now) (seen c.carry_out_batch.new.self) c.in_ok-header.header e.consults e.kept (long_there g.R.Records.view (seen c.args.self.now) (seen c.mount.new.self) c.in_ok-header.header e.kept e.consults e.open) e.settling e.stays e.transfers c.carry_out_batch.result carried c.carry_out_batch.ensures.only

pub returns-in-Err-clause-did : goal.returns-in-Err-clause-did
returns-in-Err-clause-did g c =
    let e = c.in_ok-header.ensures in
    let why = c.in-Err.refusal in
    let plan : RefusesAs (g.R.Records.view c.mount.new.self.records).record_count (Batch (parts_of c.args.batch.now)) c.in_ok-header.header (map slot_bytes c.mount.new.self.directory.table.slots) why = subst (λ (n : ℕ). RefusesAs n (Batch (parts_of c.args.batch.now)) c.in_ok-header.header (map slot_bytes c.mount.new.self.directory.table.slots) why) c.size-size.ensures c.in-Err.ensures.plan.1 in
    let carried = refuses g.R.Records.view (seen c.mount.new.self) c.in_ok-header.header e.open e.kept (g.met.R.Records.is_store c.mount.new.self.records) (Batch (parts_of c.args.batch.now)) _ why (batch_ready_there g.R.Records.view (seen c.args.self.now) (seen c.mount.new.self) c.in_ok-header.header e.kept e.consults e.open c.requires.ready.left) plan in
    let z : VolumeView g.row.R.Denot = record { records = c.mount.new.self.records; kept = None; is_open = c.mount.new.self.is_open; last = c.mount.new.self.staged.last; slots = c.batch.new.self.table.slots; room = c.batch.new.self.table.room } in
    batch_refused g.R.Records.view (seen c.args.self.now) (seen c.mount.new.self) (parts_of c.args.batch.now) z c.in_ok-header.header e.consults e.kept (long_there g.R.Records.view (seen c.args.self.now) (seen c.mount.new.self) c.in_ok-header.header e.kept e.consults e.open) e.settling e.stays e.transfers why carried.goes_on refl carried.on_tape refl
    (refused_among (g.R.Records.view c.mount.new.self.records).record_count (parts_of c.args.batch.now) (some g.R.Records.view (seen c.mount.new.self) c.in_ok-header.header e.open e.kept (g.met.R.Records.is_store c.mount.new.self.records)) why (plan.refused (some g.R.Records.view (seen c.mount.new.self) c.in_ok-header.header e.open e.kept (g.met.R.Records.is_store c.mount.new.self.records)) (some_is g.R.Records.view (seen c.mount.new.self) c.in_ok-header.header e.open e.kept (g.met.R.Records.is_store c.mount.new.self.records))))

pub returns-in-Ok-true-clause-formed : goal.returns-in-Ok-true-clause-formed
returns-in-Ok-true-clause-formed g c = c.in-Ok-true.ensures.plan.1.formed

-- where there is a plan
formed_as : (X : Type 0) {T E : Type 0} (answer : Result T E) → X → OnOk answer X
formed_as X (Ok x) formed = formed
formed_as X (Err e) formed = tt

pub returns-in-Ok-false-clause-formed : goal.returns-in-Ok-false-clause-formed
returns-in-Ok-false-clause-formed g c = formed_as (IsWellFormed (Batch (parts_of c.args.batch.now))) c.carry_out_batch.result c.in-Ok-false.ensures.plan.1.formed
