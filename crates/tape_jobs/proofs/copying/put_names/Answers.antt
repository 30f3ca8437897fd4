use Rattle.std.proofs.Common.{ap, rules}
use Rattle.tape_volumes.specs.Volumes.{volume_shown}
use Rattle.tape_jobs.proofs.Rooms.{unseen}
use Rattle.tape_jobs.proofs.copying.put_names.Goals as goal

pub returns-then-not-are_few-clause-lacks : goal.returns-then-not-are_few-clause-lacks
returns-then-not-are_few-clause-lacks g c off =
    let v = g.V.Volumes.seen c.args.volumes.now in
    ap volume_shown (unseen v c.in-Some.field-0-0 c.in-Some.slots.now.slots (g.met.V.Volumes.is_mounted c.args.volumes.now c.requires.valid) c.in-Some.ensures.known c.size-size.result _ c.size-size.ensures (search rules) (c.are_few.ensures.many (search rules)))
