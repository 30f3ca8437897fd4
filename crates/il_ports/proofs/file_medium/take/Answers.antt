use Rattle.std.proofs.Common.{rules}
use Rattle.il_ports.proofs.FoundFiles.{taken_settled}
use Rattle.il_ports.proofs.file_medium.take.Goals as goal

pub returns-else-not-is_settled : goal.returns-else-not-is_settled
returns-else-not-is_settled g c =
    let v = g.F.TapeFile.view in
    taken_settled (v c.args.file.now) (v c.claim.new.self) (v c.apart.new.self) (v c.len.new.self) c.args.access c.in_ok-length.length c.in_ok-apart.field-0 (search rules) c.in_ok-apart.ensures c.in_ok-length.ensures
    (c.requires.sound.settled (search rules))
