use Rattle.std.proofs.Common.{◌≡◌, drop}
use Rattle.tape_folder.specs.MemoryFolders.{is_one_of}
use Rattle.tape_folder.proofs.shelf.is_one_of.Given as goal

abbrev pub invariant-loop-one : goal.invariant-loop-one
invariant-loop-one l = is_one_of l.names l.name ≡ is_one_of (drop l.one-index l.names) l.name
