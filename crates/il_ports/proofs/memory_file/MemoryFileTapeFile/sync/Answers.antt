use Rattle.std.proofs.Common.{rules}
use Rattle.il_ports.proofs.MemoryFiles.{brought}
use Rattle.il_ports.proofs.memory_file.MemoryFileTapeFile.sync.Goals as goal

pub returns-in-Ok : goal.returns-in-Ok
returns-in-Ok c =
    let f = c.args.self.now in
    let v = c.in-Ok.ensures.past in
    rw c.in_default.ensures.same
    (brought f.name.items f.seen.items f.kept.items c.bring.new.kept.items f.held f.past.items c.bring.new.past.items v.0 (search rules) (search rules) (search rules) _ f.is_broken f.is_broken f.failures _ c.requires.sound (search rules))
