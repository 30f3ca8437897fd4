use Rattle.std.proofs.Common.{length}
use Rattle.tape_folder.proofs.system_folder.has_bytes.Given as goal

abbrev pub decreases-pieces : goal.decreases-pieces
decreases-pieces l = length l.rest
