use Rattle.std.proofs.Common.{◌∙◌, rules}
use Rattle.tape_jobs.proofs.Listed.{writes_listing}
use Rattle.tape_jobs.proofs.Rooms.{unseen}
use Rattle.tape_jobs.proofs.listing.write_listing.Goals as goal

pub returns-then-not-are_few : goal.returns-then-not-are_few
returns-then-not-are_few g c =
    let v = g.V.Volumes.seen c.args.volumes.now in
    (unseen v c.in-Some.header c.in-Some.slots.now.slots (g.met.V.Volumes.is_mounted c.args.volumes.now c.requires.valid) c.in-Some.ensures.known c.size-size.result _ c.size-size.ensures (search rules) (c.are_few.ensures.many (search rules)), (search rules))

pub returns : goal.returns
returns g c =
    let mounted = (g.V.Volumes.seen c.args.volumes.now).mounted in
    writes_listing c.args.style c.args.all mounted.records mounted.tape c.in-Some.header c.in-Some.slots.now.slots c.in-Some.ensures.known
    c.size-size.result _ _ c.size-size.ensures (search rules) (search rules) c.text.result.now (c.text.ensures ∙ c.text_for-page.ensures) c.written.result _ _ _ _ c.written.ensures.memory c.written.ensures.text
