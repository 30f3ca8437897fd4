use Rattle.std.proofs.Common.{◌≡◌, ◌∙◌, ap, map, sym, subst, true, false, rules}
use Rattle.std.specs.Prelude.{IfSome, is_none}
use Rattle.lif_model.specs.Tape.{IsTape}
use Rattle.lif_model.specs.Volume.{Volume as VolumeModel}
use Rattle.lif_dir.specs.Entries.{slot_bytes}
use Rattle.lif_plan.specs.Directories.{IsLegalDirectory}
use Rattle.lif_model.specs.Packing.{bears_mark}
use Rattle.lif_pack.proofs.Consulting.{none_where_unmarked, finished_where_none}
use Rattle.lif_pack.proofs.finish.is_finished.Goals as goal

pub returns-then-is_kept-clause-unmarked : goal.returns-then-is_kept-clause-unmarked
returns-then-is_kept-clause-unmarked g c =
    let found = c.args.volume.now.directory.table.slots in
    let here : is_none c.mark_of.result ≡ c.is_none.result = search rules in
    subst (λ b. IfSome c.args.volume.now.kept (λ _. (v : VolumeModel) → v.slots ≡ map slot_bytes found → bears_mark c.args.size v ≡ false → b ≡ true)) here
    (none_where_unmarked c.args.size c.args.volume.now.kept found c.mark_of.result
    (subst (λ n. IfSome c.args.volume.now.kept (λ header. IsLegalDirectory n header (map slot_bytes found))) (sym c.requires.size) c.requires.open.legal)
    (λ w is same. c.mark_of.ensures.mark w is (same ∙ sym (ap (map slot_bytes) c.slots.ensures))))

pub returns-then-is_kept-clause-finished : goal.returns-then-is_kept-clause-finished
returns-then-is_kept-clause-finished g c none t is =
    let found = c.args.volume.now.directory.table.slots in
    let here : is_none c.mark_of.result ≡ c.is_none.result = search rules in
    let tape : IsTape c.args.size t = subst (λ m. IsTape m t) (sym c.requires.size) ((g.met.R.Records.is_store _).is_tape t is) in
    finished_where_none c.args.size t c.args.volume.now.kept found c.mark_of.result tape (sym c.if-is_kept.ensures) (c.requires.open.known t is)
    (λ w is same. c.mark_of.ensures.mark w is (same ∙ sym (ap (map slot_bytes) c.slots.ensures))) (here ∙ none)

pub returns-then-is_kept-clause-kept : goal.returns-then-is_kept-clause-kept
returns-then-is_kept-clause-kept g c none = sym c.if-is_kept.ensures
