-- A number below ten is one digit.
use Rattle.std.proofs.Common.{ap, sym, ◌∙◌, ◌++◌, List, ℕ}
use Rattle.std.proofs.lemmas.Fmt.{decimal_digit}
use Rattle.il_frames.proofs.entry.append_party.Goals as goal

pub returns-then-party-lt10-clause-items : goal.returns-then-party-lt10-clause-items
returns-then-party-lt10-clause-items c =
    c.append.ensures.items ∙ ap (λ (l : List ℕ). c.args.out.now.items ++ l) (sym (decimal_digit c.args.party c.if-party-lt10.true))
