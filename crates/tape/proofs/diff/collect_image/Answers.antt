use Rattle.std.proofs.Common.{⊎_elim, inl, inr, subst, sym}
use Rattle.tape.specs.Images.{sight}
use Rattle.tape.specs.WholeImages.{FailsToRead}
use Rattle.tape.proofs.Wholes.{no_memory_for_copy}
use Rattle.tape.proofs.diff.collect_image.Goals as goal

pub returns-in-Ok-clause-collected : goal.returns-in-Ok-clause-collected
returns-in-Ok-clause-collected g c =
    let drives = sight g.M.Medium.view g.M.Medium.refuses (g.D.Drives.lent c.args.readers.now) (g.D.Drives.lent c.read_image.new.drives) in
    ⊎_elim (λ short. inl (subst (λ e. FailsToRead drives c.args.image.now e) (sym short) (no_memory_for_copy drives c.args.image.now c.in-Ok.bytes.items c.in-Ok.ensures.read)))
    (λ copied. inr (c.in-Ok.bytes.items, c.in-Ok.ensures.read, copied)) c.collect_copy.ensures
