-- The second byte tells how the frame ended; what follows the third is a frame's text or a party's number.
use Rattle.std.proofs.Common.{◌≡◌, ◌∙◌, sym, Some, None, slice_index}
use Rattle.il_frames.proofs.LineLemmas.{reads_back_at, back_none, back_some}
use Rattle.il_frames.proofs.line.outcome_spelled.Goals as goal

pub returns-in_err-candidate-in-61-clause-every : goal.returns-in_err-candidate-in-61-clause-every
returns-in_err-candidate-in-61-clause-every c = λ o h is.
    let mark : slice_index c.args.text.now 1 ≡ 61 = sym c.byte_at.ensures ∙ c.in-61.is in
    let read = reads_back_at o c.args.text.now c.after-rest.result.now h is mark c.after-rest.ensures in
    let none : c.candidate.result ≡ None = c.in_err-candidate-in-61.was in
    absurd (back_none o c.after-rest.result.now read (sym c.candidate.ensures ∙ none))

pub returns-in_ok-candidate-in-61-clause-every : goal.returns-in_ok-candidate-in-61-clause-every
returns-in_ok-candidate-in-61-clause-every c = λ o h is.
    let mark : slice_index c.args.text.now 1 ≡ 61 = sym c.byte_at.ensures ∙ c.in-61.is in
    let read = reads_back_at o c.args.text.now c.after-rest.result.now h is mark c.after-rest.ensures in
    let some : c.candidate.result ≡ Some c.in_ok-candidate-in-61.field-0 = c.in_ok-candidate-in-61.was in
    back_some o c.after-rest.result.now _ read (sym c.candidate.ensures ∙ some)
