use Rattle.std.proofs.Common.{true, ◌≡◌, ◌≤◌, ◌*◌, ◌∷◌, [], ℕ, length, map, append-nil, sym, ap, subst, refl, arith}
use Rattle.std.proofs.lemmas.List.{length-map}
use Rattle.lif_model.specs.declared.version.Version.{Version}
use Rattle.lif_model.specs.declared.version.Version.TheVariants.{One, Two}
use Rattle.lif_model.specs.Tape.{Tape}
use Rattle.lif_model.specs.Redo.{most_targets}
use Rattle.lif_model.specs.Writing.{SlotWrites, touched}
use Rattle.lif_dir.specs.declared.change.Change.{Change}
use Rattle.lif_dir.specs.Entries.{slot_bytes}
use Rattle.lif_dir.specs.Changes.{FitsIn, change_writes, bytes_with, all_writes}
use Rattle.lif_commit.specs.Staged.{CommitsSlots, touched_by, touched_by_all, calls_among}
use Rattle.lif_commit.proofs.Staging.{touched_few, calls_most}
use Rattle.lif_commit.proofs.staged.Staged.commit.Goals as goal

two_most : (version : Version) → 2 ≤ most_targets version
two_most One = omega arith
two_most Two = omega arith

-- one change alone
alone : (start : ℕ) (change : Change) → all_writes start (change ∷ []) ≡ change_writes start change
alone start change = λ i x. append-nil (change_writes start change x) i

touched_alone : (start : ℕ) (change : Change) → touched_by_all start (change ∷ []) ≡ touched_by start change
touched_alone start change = λ i. touched start (alone start change i [])

pub commit_by-requires-clause-ready : goal.commit_by-requires-clause-ready
commit_by-requires-clause-ready g c =
    let start : ℕ = c.args.header.now.start in
    let many : ℕ = length c.args.table.now.slots in
    record {
      valid = c.requires.ready.valid;
      sound = c.requires.ready.sound;
      left = omega (arith, c.requires.ready.left, calls_most start many true c.args.change.now, ap (calls_among start many true) (touched_alone start c.args.change.now));
    }

pub commit_by-requires-clause-turn : goal.commit_by-requires-clause-turn
commit_by-requires-clause-turn g c = (
  bytes_with c.args.change.now (map slot_bytes c.args.table.now.slots),
  (subst (λ (k : ℕ). FitsIn (8 * c.args.header.now.length) k c.args.change.now) (sym (length-map c.args.table.now.slots slot_bytes)) c.requires.fits, refl),
)

pub commit_by-requires-clause-few : goal.commit_by-requires-clause-few
commit_by-requires-clause-few g c =
    omega (arith, (touched_few c.args.header.now.start c.args.change.now).1, two_most c.args.change.now.version, ap length (touched_alone c.args.header.now.start c.args.change.now))

pub returns-clause-commits : goal.returns-clause-commits
returns-clause-commits g c =
    let start : ℕ = c.args.header.now.start in
    let many : ℕ = length c.args.table.now.slots in
    subst (λ (writes : Tape → SlotWrites). CommitsSlots (calls_among start many c.args.is_open (touched start (writes []))) c.args.change.now.version start writes (g.R.Records.view c.args.records.now) (g.R.Records.view c.commit_by.new.records) c.commit_by.result)
    (alone start c.args.change.now) c.commit_by.ensures.commits
