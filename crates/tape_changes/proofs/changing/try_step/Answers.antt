use Rattle.std.proofs.Common.{◌∙◌, ap, sym}
use Rattle.std.specs.Prelude.{option_map}
use Rattle.tape_volumes.specs.Changes.{change_command}
use Rattle.tape_changes.specs.Changing.{attempt_of}
use Rattle.tape_changes.proofs.Joined.{beside_first, beside_then}
use Rattle.tape_changes.proofs.changing.try_step.Goals as goal

pub returns-in-Some-clause-beside : goal.returns-in-Some-clause-beside
returns-in-Some-clause-beside g c =
    let v = g.V.Volumes.seen in
    beside_then (attempt_of c.args.step.now) c.change-first.result (v c.args.volumes.now) (v c.change-first.new.self) c.change-first.ensures.did c.change-first.ensures.beside
    (sym c.says_exists.ensures ∙ c.if-says_exists.true) _ (ap (option_map change_command) c.in-Some.is) (v c.change.new.self) c.change.ensures.beside

pub returns-in_default-clause-beside : goal.returns-in_default-clause-beside
returns-in_default-clause-beside g c =
    let v = g.V.Volumes.seen in
    beside_first (attempt_of c.args.step.now) c.change-first.result (v c.args.volumes.now) (v c.change-first.new.self) c.change-first.ensures.did c.change-first.ensures.beside

pub returns-in_default-2-clause-beside : goal.returns-in_default-2-clause-beside
returns-in_default-2-clause-beside g c =
    let v = g.V.Volumes.seen in
    beside_first (attempt_of c.args.step.now) c.change-first.result (v c.args.volumes.now) (v c.change-first.new.self) c.change-first.ensures.did c.change-first.ensures.beside
