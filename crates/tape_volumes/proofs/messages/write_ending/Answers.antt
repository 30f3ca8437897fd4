use Rattle.std.proofs.Common.{◌∙◌, refl, sym}
use Rattle.tape_volumes.proofs.Said.{says_ending}
use Rattle.tape_volumes.proofs.messages.write_ending.Goals as goal

pub returns : goal.returns
returns g c =
    says_ending c.args.name.now c.args.ending _ _ _ _ c.write_ending_of.result _ refl c.write_ending_of.ensures.parts c.write_ending_of.ensures.cause (sym c.is_done.ensures ∙ c.if-is_done.false)
