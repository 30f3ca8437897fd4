use Rattle.std.proofs.Common.{◌≡◌, ◌∙◌, ℕ, true, false, Ok, map, ap, subst, arith}
use Rattle.std.specs.Prelude.{IfSome}
use Rattle.lif_model.specs.Volume.{Volume as VolumeModel}
use Rattle.lif_dir.specs.Entries.{slot_bytes}
use Rattle.lif_model.specs.Packing.{bears_mark}
use Rattle.il_ports.proofs.Transfers.{nothing_yet}
use Rattle.lif_pack.proofs.Stopped.{never, shown_here, settles_here}
use Rattle.lif_pack.proofs.memory.Packer.finish.Goals as goal

pub returns-then-is_finished-clause-shown : goal.returns-then-is_finished-clause-shown
returns-then-is_finished-clause-shown g c t is own = shown_here _ t (g.met.R.Records.is_store _) is own

pub returns-then-is_finished-clause-foreign : goal.returns-then-is_finished-clause-foreign
returns-then-is_finished-clause-foreign g c t is on = settles_here _ t (g.met.R.Records.is_store _) is

pub returns-clause-still : goal.returns-clause-still
returns-clause-still g c =
    let found = c.args.volume.now.directory.table.slots in
    let n : ℕ = (g.R.Records.view c.args.volume.now.records).record_count in
    let size : c.size-size.result ≡ n = c.size-size.ensures ∙ ap (λ r. (g.R.Records.view r).record_count) c.records.ensures in
    never c.args.volume.now.kept (λ (v : VolumeModel). v.slots ≡ map slot_bytes found) (λ (v : VolumeModel). bears_mark n v ≡ false) c.is_finished.result
    ((c.finish_left.new.volume ≡ c.args.volume.now) × (c.finish_left.result ≡ Ok tt)) c.if-is_finished.false
    (subst (λ (m : ℕ). IfSome c.args.volume.now.kept (λ _. (v : VolumeModel) → v.slots ≡ map slot_bytes found → bears_mark m v ≡ false → c.is_finished.result ≡ true)) size c.is_finished.ensures.unmarked)

pub returns-then-is_finished-clause-mounts : goal.returns-then-is_finished-clause-mounts
returns-then-is_finished-clause-mounts g c t v is some off = record { few = omega arith; keeps = c.is_finished.ensures.kept c.if-is_finished.true }

pub returns-then-is_finished-clause-writes : goal.returns-then-is_finished-clause-writes
returns-then-is_finished-clause-writes g c t is off = (settles_here _ t (g.met.R.Records.is_store _) is, nothing_yet _ _)
