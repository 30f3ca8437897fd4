-- By the place of the first talker.
use Rattle.std.proofs.Common.{◌∙◌, ap, Option, ℕ}
use Rattle.trace_readers.proofs.TalkerLemmas.{may_speak_at, may_speak_first, none_at_host, none_elsewhere}
use Rattle.trace_readers.proofs.talkers.may_speak.Goals as goal

pub returns-in-Some : goal.returns-in-Some
returns-in-Some c =
    ap (λ (o : Option ℕ). may_speak_at o c.args.party c.args.message) c.in-Some.ensures
    ∙ may_speak_first c.args.devices.now c.args.party c.args.message

pub returns-then-party-eq0 : goal.returns-then-party-eq0
returns-then-party-eq0 c =
    none_at_host c.args.party c.args.message _ c.if-party-eq0.true c.is_end_of_talk.ensures
    ∙ ap (λ (o : Option ℕ). may_speak_at o c.args.party c.args.message) c.in-None.ensures
    ∙ may_speak_first c.args.devices.now c.args.party c.args.message

pub returns-else-party-eq0 : goal.returns-else-party-eq0
returns-else-party-eq0 c =
    none_elsewhere c.args.party c.args.message c.if-party-eq0.false
    ∙ ap (λ (o : Option ℕ). may_speak_at o c.args.party c.args.message) c.in-None.ensures
    ∙ may_speak_first c.args.devices.now c.args.party c.args.message
