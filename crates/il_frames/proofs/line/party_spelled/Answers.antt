-- Computed over all parties.
use Rattle.std.proofs.Common.{rules, ◌≡◌, ◌∙◌, sym, ap}
use Rattle.il_frames.proofs.LineLemmas.{spelled, spelled-decimal}
use Rattle.il_frames.proofs.line.party_spelled.Goals as goal

pub returns : goal.returns
returns c = λ party h e.
    let value : c.fold.result ≡ spelled c.args.digits.now = search rules in
    value ∙ ap spelled (sym e) ∙ spelled-decimal party h
