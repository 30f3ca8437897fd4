use Rattle.std.proofs.Common.{◌∙◌, inl, inr, sym}
use Rattle.tape_drives.proofs.Lent.{lends_same, uses_fewer, uses_then}
use Rattle.tape.specs.Images.{medium_sight}
use Rattle.tape.proofs.Compared.{same_files}
use Rattle.tape.proofs.Lends.{collected_on, other_on}
use Rattle.tape.proofs.diff.compare_images.Goals as goal

pub returns-then-is_done-clause-compared : goal.returns-then-is_done-clause-compared
returns-then-is_done-clause-compared g c =
    let did = c.collect_image-ending in
    let start = g.D.Drives.lent c.args.readers.now in
    let was = g.D.Drives.lent did.new.readers in
    let now = g.D.Drives.lent c.compare_other.new.readers in
    let media = medium_sight g.M.Medium.view g.M.Medium.refuses in (
      did.result.0,
      c.deref.result.now,
      same_files _ _ _ _ _ _ c.deref.ensures.value (collected_on media start was start now c.compare_other.ensures.drives.goes_on _ _ _ _ did.ensures.collected),
      inr (sym c.is_done.ensures ∙ c.if-is_done.true, other_on media was now start now (lends_same now) _ _ _ _ _ _ _ c.compare_other.ensures.compared),
    )

pub returns-then-is_done-clause-drives : goal.returns-then-is_done-clause-drives
returns-then-is_done-clause-drives g c = uses_then 1 1 _ _ _ c.collect_image-ending.ensures.drives c.compare_other.ensures.drives
