-- The devices in use are the head of the array, before the entry and after it.
use Rattle.std.proofs.Common.{◌≡◌, ◌∙◌, ◌&&◌, List, length, take, sym, ap, subst, arith}
use Rattle.std.proofs.lemmas.List.{length-take}
use Rattle.il_device.specs.declared.roles.Roles.{Roles}
use Rattle.loop_model.specs.Roles.{talkers, is_in_turn, is_at_most_one}
use Rattle.trace_readers.specs.Talkers.{Talk, IsTalkAfter}
use Rattle.trace_readers.proofs.TalkerLemmas.{known_more, taken_all}
use Rattle.trace_readers.proofs.talkers.Talkers.take.Goals as goal

pub returns-clause-known : goal.returns-clause-known
returns-clause-known c = λ k log known.
    let t = c.self.inside in
    let size : length c.read.new.devices ≡ t.devices = omega (arith, length-take t.devices t.roles) in
    let used = taken_all t.devices c.read.new.devices _ size in
    known_more k log c.args.entry _ _ (subst (λ (talk : Talk). IsTalkAfter k log talk) (sym c.self.view_is) known)
    (used ∙ c.read.ensures.roles)
    (ap (λ b. t.had_one && b) c.read.ensures.answer
    ∙ ap (λ (rs : List Roles). t.had_one && (is_in_turn (talkers
    (take t.devices t.roles)) c.args.entry && is_at_most_one (talkers rs))) (sym used))
