use Rattle.std.proofs.Common.{map, arith}
use Rattle.std.proofs.lemmas.List.{length-map}
use Rattle.lif_dir.specs.Entries.{slot_bytes}
use Rattle.lif_commit.proofs.Ends.{known_record}
use Rattle.lif_commit.proofs.staged.Staged.known.Goals as goal

pub returns-then-i-whole-clause-known : goal.returns-then-i-whole-clause-known
returns-then-i-whole-clause-known c start size t lt wide knows =
    known_record start size c.args.i (map slot_bytes c.args.table.now.slots) _ c.record_of.result t knows (omega (arith, length-map c.args.table.now.slots slot_bytes, c.if-i-whole.true, c.len-whole.ensures.count)) wide c.record_of.ensures
