-- Each part of a line is found where the one before it ends.
use Rattle.std.proofs.Common.{◌≡◌, ◌∙◌, sym, Some, None}
use Rattle.il_frames.proofs.LineLemmas.{spelled_parts, outcome_part, not_none, same_some, same_parts}
use Rattle.il_frames.proofs.line.entry_spelled.Goals as goal

pub returns-in_err-frame-clause-every : goal.returns-in_err-frame-clause-every
returns-in_err-frame-clause-every c = λ e h is.
    let parts = spelled_parts e c.args.line.now c.after-line.result.now c.first_word-digits.result.now
    c.after-line-2.result.now h is c.after-line.ensures c.first_word-digits.ensures c.after-line-2.ensures in
    let none : c.candidate.result ≡ None = c.in_err-frame.was in
    absurd (not_none _ _ (c.candidate.ensures ∙ parts.frame) none)

pub returns-in_err-outcome-clause-every : goal.returns-in_err-outcome-clause-every
returns-in_err-outcome-clause-every c = λ e h is.
    let parts = spelled_parts e c.args.line.now c.after-line.result.now c.first_word-digits.result.now
    c.after-line-2.result.now h is c.after-line.ensures c.first_word-digits.ensures c.after-line-2.ensures in
    let some : c.candidate.result ≡ Some c.in_ok-frame.frame = c.in_ok-frame.was in
    let frame = same_some _ _ _ some (c.candidate.ensures ∙ parts.frame) in
    let rest = outcome_part e _ _ c.after_frame.result.now _ parts frame c.after_frame.ensures in
    let none : c.outcome_spelled.result ≡ None = c.in_err-outcome.was in
    absurd (not_none _ _ (c.outcome_spelled.ensures.every e.outcome h.2 rest) none)

pub returns-clause-every : goal.returns-clause-every
returns-clause-every c = λ e h is.
    let parts = spelled_parts e c.args.line.now c.after-line.result.now c.first_word-digits.result.now
    c.after-line-2.result.now h is c.after-line.ensures c.first_word-digits.ensures c.after-line-2.ensures in
    let some : c.candidate.result ≡ Some c.in_ok-frame.frame = c.in_ok-frame.was in
    let frame = same_some _ _ _ some (c.candidate.ensures ∙ parts.frame) in
    let rest = outcome_part e _ _ c.after_frame.result.now _ parts frame c.after_frame.ensures in
    let ended : c.outcome_spelled.result ≡ Some c.in_ok-outcome.outcome = c.in_ok-outcome.was in
    let outcome = same_some _ _ _ ended (c.outcome_spelled.ensures.every e.outcome h.2 rest) in
    let source = c.party_spelled.ensures e.source h.0 (sym parts.source) in
    same_parts e _ _ _ source frame outcome
