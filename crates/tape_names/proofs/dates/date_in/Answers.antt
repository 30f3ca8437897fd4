use Rattle.std.proofs.Common.{◌∙◌, subst, sym}
use Rattle.tape_names.specs.Dates.{IsInRange}
use Rattle.tape_names.proofs.Ranges.{parts_in_range}
use Rattle.tape_names.proofs.dates.date_in.Goals as goal

pub returns-then-is_date-clause-ranges : goal.returns-then-is_date-clause-ranges
returns-then-is_date-clause-ranges c =
    subst IsInRange (sym c.moment_of.ensures) (parts_in_range c.args.date.now (sym c.is_date.ensures ∙ c.if-is_date.true))
