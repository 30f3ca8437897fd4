use Rattle.std.proofs.Common.{take, map}
use Rattle.tape_drives.specs.Lending.{Uses}
use Rattle.tape_volumes.specs.Outputs.{written}
use Rattle.tape.specs.Images.{sight}
use Rattle.tape.proofs.Chains.{ListedSoFar}
use Rattle.tape.proofs.several.dir_each.Given as goal

abbrev pub invariant-images : goal.invariant-images
invariant-images g l = record {
  listed : ListedSoFar (sight g.M.Medium.view g.M.Medium.refuses (g.D.Drives.lent l.fn.drives) (g.D.Drives.lent l.drives)) l.csv l.all (map (λ name. name.now) l.names) (take l.name-index (map (λ name. name.now) l.names))
      (written (g.K.Sink.written l.fn.out) (g.K.Sink.faults l.fn.out) (g.E.Sink.written l.fn.error) (g.E.Sink.faults l.fn.error))
      (written (g.K.Sink.written l.out) (g.K.Sink.faults l.out) (g.E.Sink.written l.error) (g.E.Sink.faults l.error)) l.is_done;
  lent : Uses l.name-index (g.D.Drives.lent l.fn.drives) (g.D.Drives.lent l.drives);
}
