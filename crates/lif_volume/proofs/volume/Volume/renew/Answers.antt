use Rattle.std.proofs.Common.{◌≡◌, ℕ, [], ◌∷◌, false, refl, ap, ◌∙◌}
use Rattle.std.specs.Prelude.{Some, None, get_or}
use Rattle.lif_model.specs.Header.{header_of}
use Rattle.lif_model.specs.Made.{fresh_header, records_for_slots}
use Rattle.lif_model.specs.Redo.{Changes}
use Rattle.lif_model.specs.declared.version.Version.TheVariants.{One}
use Rattle.lif_model.specs.Volume.{redo_entry}
use Rattle.lif_model.specs.Writing.{format_changes}
use Rattle.lif_dir.specs.Names.{label_bytes}
use Rattle.lif_dir.specs.Entries.{slot_from}
use Rattle.lif_volume.specs.Views.{VolumeView}
use Rattle.lif_volume.specs.Seen.{seen}
use Rattle.lif_volume.proofs.Renewing.{renewing_fails, renewed, renewed_open}
use Rattle.lif_volume.proofs.volume.Volume.renew.Goals as goal

pub returns-clause-renews : goal.returns-clause-renews
returns-clause-renews g c =
    let view = g.R.Records.view in
    let x = seen c.args.self.now in
    let n : ℕ = (view x.records).record_count in
    let label = label_bytes c.args.label.now in
    let is : c.new-fresh.result.changes ≡ format_changes n label c.args.slots = c.new-fresh.ensures.changes ∙ ap (λ (k : ℕ). format_changes k label c.args.slots) c.size.ensures in
    let y : VolumeView g.row.R.Denot = record { records = c.commit_known.new.records; kept = Some c.new-fresh.result.header; is_open = false; last = c.ends_with.new.self.last; slots = c.renew.new.self.table.slots; room = c.renew.new.self.table.room } in
    let e = c.commit_known.ensures in
    let d = c.in_default.ensures in
    renewed view x label c.args.slots c.requires.open (g.met.R.Records.is_store c.args.self.now.records) c.new-fresh.ensures.label c.requires.slots c.requires.fits c.requires.settled c.requires.free
    y c.new-fresh.result.changes is e.any_moment e.after c.requires.gate d.goes_on d.done c.new-fresh.result.header refl d.writes

pub returns-in-Err-clause-renews : goal.returns-in-Err-clause-renews
returns-in-Err-clause-renews g c =
    let view = g.R.Records.view in
    let x = seen c.args.self.now in
    let n : ℕ = (view x.records).record_count in
    let label = label_bytes c.args.label.now in
    let is : c.new-fresh.result.changes ≡ format_changes n label c.args.slots = c.new-fresh.ensures.changes ∙ ap (λ (k : ℕ). format_changes k label c.args.slots) c.size.ensures in
    let y : VolumeView g.row.R.Denot = record { records = c.commit_known.new.records; kept = None; is_open = c.args.self.now.is_open; last = c.args.self.now.staged.last; slots = c.args.self.now.directory.table.slots; room = c.args.self.now.directory.table.room } in
    let e = c.commit_known.ensures in
    renewing_fails view x label c.args.slots c.requires.open (g.met.R.Records.is_store c.args.self.now.records) c.new-fresh.ensures.label c.requires.slots c.requires.fits c.requires.settled c.requires.free
    y c.new-fresh.result.changes is e.any_moment e.after c.requires.gate c.in-Err.trouble c.in-Err.ensures.goes_on refl

pub returns-clause-open : goal.returns-clause-open
returns-clause-open g c =
    let view = g.R.Records.view in
    let x = seen c.args.self.now in
    let n : ℕ = (view x.records).record_count in
    let label = label_bytes c.args.label.now in
    let is : c.new-fresh.result.changes ≡ format_changes n label c.args.slots = c.new-fresh.ensures.changes ∙ ap (λ (k : ℕ). format_changes k label c.args.slots) c.size.ensures in
    let y : VolumeView g.row.R.Denot = record { records = c.commit_known.new.records; kept = Some c.new-fresh.result.header; is_open = false; last = c.ends_with.new.self.last; slots = c.renew.new.self.table.slots; room = c.renew.new.self.table.room } in
    let e = c.commit_known.ensures in
    let d = c.in_default.ensures in
    let same : c.size-2.result ≡ n = c.size-2.ensures ∙ d.goes_on.continues.size in
    renewed_open view x label c.args.slots c.requires.open (g.met.R.Records.is_store c.args.self.now.records) c.new-fresh.ensures.label c.requires.slots c.requires.fits c.requires.settled c.requires.free
    y c.new-fresh.result.changes is e.any_moment e.after c.requires.gate d.goes_on d.done c.new-fresh.result.header refl
    (c.new-fresh.ensures.header ∙ ap (λ (k : ℕ). header_of (fresh_header k label (records_for_slots c.args.slots))) c.size.ensures)
    (c.renew.ensures.slots ∙ ap (λ (k : ℕ). slot_from (redo_entry One k) ∷ []) same)
    (c.renew.ensures.bytes ∙ ap (λ (k : ℕ). redo_entry One k ∷ []) same)
    c.renew.ensures.room refl (c.ends_with.ensures ∙ ap (λ (cs : Changes). (get_or cs 1 (0, [])).1) is)
