use Rattle.std.specs.List.{flat_map}
use Rattle.tape_jobs.specs.CopyMessages.{copy_message, end_message}
use Rattle.tape_volumes.proofs.Fronts.{all_next}
use Rattle.tape_jobs.proofs.copy_messages.write_all_of.Goals as goal

pub returns-clause-parts : goal.returns-clause-parts
returns-clause-parts g c =
    all_next _ _ _ (copy_message c.args.image.now c.args.path.now c.args.ending) (flat_map (end_message c.args.image.now) c.args.ends.now) c.write_ends.result
    c.in_ok-write_copy_ending.ensures.parts c.write_ends.ensures.parts
