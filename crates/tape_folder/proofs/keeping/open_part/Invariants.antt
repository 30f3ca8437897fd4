use Rattle.std.proofs.Common.{◌≡◌, None}
use Rattle.tape_folder.specs.Folders.{Nothing}
use Rattle.tape_folder.specs.Keeping.{Steps, AreTaken}
use Rattle.tape_folder.proofs.keeping.open_part.Given as goal

abbrev pub invariant-loop-number : goal.invariant-loop-number
invariant-loop-number g l = record {
  closed : (g.F.Folder.view l.folder).part ≡ None;
  steps : Steps Nothing (g.F.Folder.view l.fn.folder) (g.F.Folder.view l.folder);
  taken : AreTaken l.number (g.F.Folder.view l.fn.folder);
}
