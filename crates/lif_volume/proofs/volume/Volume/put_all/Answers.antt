use Rattle.std.proofs.Common.{◌≡◌, ◌<◌, ◌≤◌, ◌+◌, ℕ, List, true, length, sym, subst, map, rules}
use Rattle.std.specs.Prelude.{All, Err, Ok}
use Rattle.lif_dir.specs.declared.change.Change.{Change}
use Rattle.lif_model.specs.declared.version.Version.TheVariants.{Two}
use Rattle.lif_model.specs.Redo.{redo_start}
use Rattle.il_ports.specs.Stores.{IsReady}
use Rattle.lif_commit.specs.Staged.{CommitsAll, calls_of_all, touched_by_all}
use Rattle.lif_plan.specs.declared.batches.PlannedFile.{PlannedFile}
use Rattle.lif_plan.specs.Batches.{file_of}
use Rattle.lif_volume.specs.Seen.{seen}
use Rattle.lif_volume.specs.Carrying.{records_filed, EndsWithin, WritesFiles}
use Rattle.lif_volume.proofs.CarryingAll.{files_ready, files_fit, all_some, all_few, all_below, all_fail, all_ready, all_settled, all_gate, all_known, all_put}
use Rattle.lif_volume.proofs.volume.Volume.put_all.Goals as goal

pub write_files-requires-clause-ready : goal.write_files-requires-clause-ready
write_files-requires-clause-ready g c =
    subst (λ (fs : List PlannedFile). IsReady (records_filed (map (file_of c.args.bytes.now) fs)) (g.R.Records.view c.args.self.now.records)) (sym c.deref.ensures.value) (files_ready g.R.Records.view (seen c.args.self.now) c.args.header.now c.requires.open c.requires.kept (g.met.R.Records.is_store c.args.self.now.records) c.requires.plan.0 c.args.bytes.now c.args.self.now.plan.changes.items c.args.self.now.plan.files.items c.requires.plan.1 c.requires.ready)

pub write_files-requires-clause-fits : goal.write_files-requires-clause-fits
write_files-requires-clause-fits g c =
    subst (λ (fs : List PlannedFile). All (EndsWithin (g.R.Records.view c.args.self.now.records).record_count) (map (file_of c.args.bytes.now) fs)) (sym c.deref.ensures.value) (files_fit g.R.Records.view (seen c.args.self.now) c.args.header.now c.requires.open c.requires.kept (g.met.R.Records.is_store c.args.self.now.records) c.requires.plan.0 c.args.bytes.now c.args.self.now.plan.changes.items c.args.self.now.plan.files.items c.requires.plan.1)

pub returns-in_err-write_files-clause-put : goal.returns-in_err-write_files-clause-put
returns-in_err-write_files-clause-put g c = λ parts plan.
    let is : c.from_residual.result ≡ Err c.in_err-write_files.field-0.0 = search rules in
    rw is (all_fail g.R.Records.view (seen c.args.self.now) c.args.header.now c.requires.open c.requires.kept (g.met.R.Records.is_store c.args.self.now.records) parts c.args.bytes.now c.args.self.now.plan.changes.items c.args.self.now.plan.files.items plan (g.R.Records.view c.write_files.new.records) c.in_err-write_files.field-0.0
    (subst (λ (fs : List PlannedFile). WritesFiles {T = Unit {0}} (map (file_of c.args.bytes.now) fs) (g.R.Records.view c.args.self.now.records) (g.R.Records.view c.write_files.new.records) (Err c.in_err-write_files.field-0.0)) c.deref.ensures.value c.in_err-write_files.ensures))

pub commit_all-requires-clause-ready : goal.commit_all-requires-clause-ready
commit_all-requires-clause-ready g c =
    subst (λ (cs : List Change). IsReady (calls_of_all c.args.header.now.start (length c.args.self.now.directory.table.slots) true cs) (g.R.Records.view c.write_files.new.records)) (sym c.deref-2.ensures.value)
    (all_ready g.R.Records.view (seen c.args.self.now) c.args.header.now c.requires.open c.requires.kept (g.met.R.Records.is_store c.args.self.now.records) c.requires.plan.0 c.args.bytes.now c.args.self.now.plan.changes.items c.args.self.now.plan.files.items c.requires.plan.1 (g.R.Records.view c.write_files.new.records) (subst (λ (fs : List PlannedFile). WritesFiles {T = Unit {0}} (map (file_of c.args.bytes.now) fs) (g.R.Records.view c.args.self.now.records) (g.R.Records.view c.write_files.new.records) (Ok tt)) c.deref.ensures.value c.in_ok-write_files.ensures) c.requires.ready)

pub commit_all-requires-clause-settled : goal.commit_all-requires-clause-settled
commit_all-requires-clause-settled g c = all_settled g.R.Records.view (seen c.args.self.now) c.args.header.now c.requires.open c.requires.kept (g.met.R.Records.is_store c.args.self.now.records) c.requires.plan.0 c.args.bytes.now c.args.self.now.plan.changes.items c.args.self.now.plan.files.items c.requires.plan.1 (g.R.Records.view c.write_files.new.records) (subst (λ (fs : List PlannedFile). WritesFiles {T = Unit {0}} (map (file_of c.args.bytes.now) fs) (g.R.Records.view c.args.self.now.records) (g.R.Records.view c.write_files.new.records) (Ok tt)) c.deref.ensures.value c.in_ok-write_files.ensures)

pub commit_all-requires-clause-gate : goal.commit_all-requires-clause-gate
commit_all-requires-clause-gate g c = all_gate g.R.Records.view (seen c.args.self.now) c.args.header.now c.requires.open c.requires.kept (g.met.R.Records.is_store c.args.self.now.records) c.requires.plan.0 c.args.bytes.now c.args.self.now.plan.changes.items c.args.self.now.plan.files.items c.requires.plan.1 (g.R.Records.view c.write_files.new.records) (subst (λ (fs : List PlannedFile). WritesFiles {T = Unit {0}} (map (file_of c.args.bytes.now) fs) (g.R.Records.view c.args.self.now.records) (g.R.Records.view c.write_files.new.records) (Ok tt)) c.deref.ensures.value c.in_ok-write_files.ensures)

pub commit_all-requires-clause-known : goal.commit_all-requires-clause-known
commit_all-requires-clause-known g c = all_known g.R.Records.view (seen c.args.self.now) c.args.header.now c.requires.open c.requires.kept (g.met.R.Records.is_store c.args.self.now.records) c.requires.plan.0 c.args.bytes.now c.args.self.now.plan.changes.items c.args.self.now.plan.files.items c.requires.plan.1 (g.R.Records.view c.write_files.new.records) (subst (λ (fs : List PlannedFile). WritesFiles {T = Unit {0}} (map (file_of c.args.bytes.now) fs) (g.R.Records.view c.args.self.now.records) (g.R.Records.view c.write_files.new.records) (Ok tt)) c.deref.ensures.value c.in_ok-write_files.ensures)

pub commit_all-requires-clause-some : goal.commit_all-requires-clause-some
commit_all-requires-clause-some g c = subst (λ (cs : List Change). 0 < length cs) (sym c.deref-2.ensures.value) (all_some g.R.Records.view (seen c.args.self.now) c.args.header.now c.requires.open c.requires.kept (g.met.R.Records.is_store c.args.self.now.records) c.requires.plan.0 c.args.bytes.now c.args.self.now.plan.changes.items c.args.self.now.plan.files.items c.requires.plan.1)

pub commit_all-requires-clause-few : goal.commit_all-requires-clause-few
commit_all-requires-clause-few g c = subst (λ (cs : List Change). length (touched_by_all c.args.header.now.start cs) ≤ 32) (sym c.deref-2.ensures.value) (all_few g.R.Records.view (seen c.args.self.now) c.args.header.now c.requires.open c.requires.kept (g.met.R.Records.is_store c.args.self.now.records) c.requires.plan.0 c.args.bytes.now c.args.self.now.plan.changes.items c.args.self.now.plan.files.items c.requires.plan.1)

pub commit_all-requires-clause-below : goal.commit_all-requires-clause-below
commit_all-requires-clause-below g c =
    subst (λ (n : ℕ). c.args.header.now.start + c.args.header.now.length ≤ redo_start Two n) (sym c.in_ok-write_files.ensures.goes_on.continues.size) (all_below g.R.Records.view (seen c.args.self.now) c.args.header.now c.requires.open c.requires.kept (g.met.R.Records.is_store c.args.self.now.records) c.requires.plan.0 c.args.bytes.now c.args.self.now.plan.changes.items c.args.self.now.plan.files.items c.requires.plan.1)

pub returns-clause-put : goal.returns-clause-put
returns-clause-put g c = λ parts plan.
    all_put g.R.Records.view (seen c.args.self.now) c.args.header.now c.requires.open c.requires.kept (g.met.R.Records.is_store c.args.self.now.records) parts c.args.bytes.now c.args.self.now.plan.changes.items c.args.self.now.plan.files.items plan (g.R.Records.view c.write_files.new.records) (subst (λ (fs : List PlannedFile). WritesFiles {T = Unit {0}} (map (file_of c.args.bytes.now) fs) (g.R.Records.view c.args.self.now.records) (g.R.Records.view c.write_files.new.records) (Ok tt)) c.deref.ensures.value c.in_ok-write_files.ensures) (g.R.Records.view c.commit_all.new.records) c.commit_all.result
    (subst (λ (cs : List Change). CommitsAll Two c.args.header.now.start (length c.args.self.now.directory.table.slots) c.args.self.now.is_open cs (g.R.Records.view c.write_files.new.records) (g.R.Records.view c.commit_all.new.records) c.commit_all.result)
    c.deref-2.ensures.value c.commit_all.ensures.commits)
