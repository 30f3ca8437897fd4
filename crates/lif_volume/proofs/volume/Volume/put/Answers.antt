use Rattle.std.proofs.Common.{◌≡◌, ◌≤◌, ◌+◌, ◌*◌, ℕ, length, map, ap, ◌∙◌, sym, subst, arith, rules}
use Rattle.std.specs.Prelude.{Err}
use Rattle.std.proofs.lemmas.List.{length-map}
use Rattle.lif_model.specs.Redo.{redo_start}
use Rattle.lif_dir.specs.Entries.{slot_bytes}
use Rattle.lif_dir.specs.Changes.{FitsIn}
use Rattle.lif_commit.specs.Staged.{Knows, CommitsChange, calls_of, most_commit_calls}
use Rattle.lif_volume.specs.Views.{VolumeView}
use Rattle.lif_volume.specs.Seen.{seen}
use Rattle.lif_volume.proofs.Carrying.{legal, of_change, before_redo, puts_fail, puts, commit_ready, settled_there, gate_there, knows_there}
use Rattle.lif_volume.proofs.volume.Volume.put.Goals as goal

pub returns-in_err-put_file-clause-put : goal.returns-in_err-put_file-clause-put
returns-in_err-put_file-clause-put g c = λ command has plan.
    let is : c.from_residual.result ≡ Err c.in_err-put_file.field-0.0 = search rules in
    rw is (puts_fail g.R.Records.view (seen c.args.self.now) c.args.header.now c.requires.open c.requires.kept (g.met.R.Records.is_store c.args.self.now.records) command (of_change g.R.Records.view (seen c.args.self.now) c.args.header.now c.requires.open c.requires.kept (g.met.R.Records.is_store c.args.self.now.records) command c.args.change.now plan)
    (calls_of c.args.header.now.start (length c.args.self.now.directory.table.slots) c.args.self.now.is_open c.args.change.now) (g.R.Records.view c.put_file.new.self.records) c.in_err-put_file.field-0.0
    (c.in_err-put_file.ensures.files command c.args.header.now has c.requires.kept plan))

pub commit-requires-clause-ready : goal.commit-requires-clause-ready
commit-requires-clause-ready g c =
    let p = c.requires.plan in
    commit_ready g.R.Records.view (seen c.args.self.now) c.args.header.now c.requires.open c.requires.kept (g.met.R.Records.is_store c.args.self.now.records) p.0 (of_change g.R.Records.view (seen c.args.self.now) c.args.header.now c.requires.open c.requires.kept (g.met.R.Records.is_store c.args.self.now.records) p.0 c.args.change.now p.2) (g.R.Records.view c.put_file.new.self.records)
    (c.in_ok-put_file.ensures.files p.0 c.args.header.now p.1 c.requires.kept p.2) most_commit_calls c.requires.ready

pub commit-requires-clause-settled : goal.commit-requires-clause-settled
commit-requires-clause-settled g c =
    let p = c.requires.plan in
    settled_there g.R.Records.view (seen c.args.self.now) c.args.header.now c.requires.open c.requires.kept (g.met.R.Records.is_store c.args.self.now.records) p.0 (of_change g.R.Records.view (seen c.args.self.now) c.args.header.now c.requires.open c.requires.kept (g.met.R.Records.is_store c.args.self.now.records) p.0 c.args.change.now p.2) (g.R.Records.view c.put_file.new.self.records)
    (c.in_ok-put_file.ensures.files p.0 c.args.header.now p.1 c.requires.kept p.2)

pub commit-requires-clause-gate : goal.commit-requires-clause-gate
commit-requires-clause-gate g c t told =
    let p = c.requires.plan in
    ap (λ (v : VolumeView g.row.R.Denot). v.is_open) c.put_file.ensures.still ∙ gate_there g.R.Records.view (seen c.args.self.now) c.args.header.now c.requires.open c.requires.kept (g.met.R.Records.is_store c.args.self.now.records) p.0 (of_change g.R.Records.view (seen c.args.self.now) c.args.header.now c.requires.open c.requires.kept (g.met.R.Records.is_store c.args.self.now.records) p.0 c.args.change.now p.2) (g.R.Records.view c.put_file.new.self.records)
    (c.in_ok-put_file.ensures.files p.0 c.args.header.now p.1 c.requires.kept p.2) t told

pub commit-requires-clause-known : goal.commit-requires-clause-known
commit-requires-clause-known g c t told =
    let p = c.requires.plan in
    subst (λ (v : VolumeView g.row.R.Denot). Knows c.args.header.now.start c.args.header.now.length (map slot_bytes v.slots) v.last t) (sym c.put_file.ensures.still)
    (knows_there g.R.Records.view (seen c.args.self.now) c.args.header.now c.requires.open c.requires.kept (g.met.R.Records.is_store c.args.self.now.records) p.0 (of_change g.R.Records.view (seen c.args.self.now) c.args.header.now c.requires.open c.requires.kept (g.met.R.Records.is_store c.args.self.now.records) p.0 c.args.change.now p.2) (g.R.Records.view c.put_file.new.self.records)
    (c.in_ok-put_file.ensures.files p.0 c.args.header.now p.1 c.requires.kept p.2) t told)

pub commit-requires-clause-shape : goal.commit-requires-clause-shape
commit-requires-clause-shape g c =
    let few = (legal g.R.Records.view (seen c.args.self.now) c.args.header.now c.requires.open c.requires.kept (g.met.R.Records.is_store c.args.self.now.records)).shape.few in
    omega (arith, few, length-map c.args.self.now.directory.table.slots slot_bytes, ap (λ (v : VolumeView g.row.R.Denot). length v.slots) c.put_file.ensures.still)

pub commit-requires-clause-fits : goal.commit-requires-clause-fits
commit-requires-clause-fits g c =
    subst (λ (k : ℕ). FitsIn (8 * c.args.header.now.length) k c.args.change.now)
    (length-map c.args.self.now.directory.table.slots slot_bytes ∙ ap (λ (v : VolumeView g.row.R.Denot). length v.slots) (sym c.put_file.ensures.still)) c.requires.plan.2.fits

pub commit-requires-clause-below : goal.commit-requires-clause-below
commit-requires-clause-below g c =
    let p = c.requires.plan in
    let size = (c.in_ok-put_file.ensures.files p.0 c.args.header.now p.1 c.requires.kept p.2).goes_on.continues.size in
    subst (λ (k : ℕ). c.args.header.now.start + c.args.header.now.length ≤ redo_start c.args.change.now.version k) (sym size)
    (before_redo g.R.Records.view (seen c.args.self.now) c.args.header.now c.requires.open c.requires.kept (g.met.R.Records.is_store c.args.self.now.records) p.0 (of_change g.R.Records.view (seen c.args.self.now) c.args.header.now c.requires.open c.requires.kept (g.met.R.Records.is_store c.args.self.now.records) p.0 c.args.change.now p.2))

pub returns-clause-put : goal.returns-clause-put
returns-clause-put g c = λ command has plan.
    puts g.R.Records.view (seen c.args.self.now) c.args.header.now c.requires.open c.requires.kept (g.met.R.Records.is_store c.args.self.now.records) command (of_change g.R.Records.view (seen c.args.self.now) c.args.header.now c.requires.open c.requires.kept (g.met.R.Records.is_store c.args.self.now.records) command c.args.change.now plan) (g.R.Records.view c.put_file.new.self.records)
    (c.in_ok-put_file.ensures.files command c.args.header.now has c.requires.kept plan) (g.R.Records.view c.commit.new.records) c.commit.result
    (subst (λ (v : VolumeView g.row.R.Denot). CommitsChange c.args.header.now.start (length v.slots) v.is_open c.args.change.now (g.R.Records.view c.put_file.new.self.records) (g.R.Records.view c.commit.new.records) c.commit.result) c.put_file.ensures.still c.commit.ensures.commits)
