use Rattle.std.proofs.Common.{◌≡◌, ◌≤◌, refl, ap, ◌∙◌, sym, subst, true, Option, None, Some, ℕ, List, length, inl, inr}
use Rattle.std.specs.Prelude.{◌⊎◌, if◌then◌else◌}
use Rattle.il_frames.specs.declared.frame.Frame.{Frame}
use Rattle.il_frames.specs.Frames.{byte_of}
use Rattle.il_poll.specs.Service.{wants_service}
use Rattle.il_device.specs.Passing.{passed}
use Rattle.il_device.specs.Plain.{plain_answer}
use Rattle.il_device.specs.Takes.{Takes, Answers, heard_after, just_sent, eto, ete}
use Rattle.il_device.specs.Interfaces.{InterfaceState, IsInterface, turn_on, device_on, passed_on}
use Rattle.il_device.specs.declared.device.Out.{Out}
use Rattle.il_device.specs.declared.device.Out.TheVariants.{Pass, Source}
use Rattle.il_device.specs.declared.interface.Turn.{Turn}
use Rattle.il_device.specs.declared.interface.Turn.TheVariants as turn
use Rattle.il_device.proofs.TurnLemmas.{Takes-on, Behind, Behind-effect, Behind-own, Answers-at, Answers-pass, Answers-identity, Answers-ended, MayPass-or}
use Rattle.il_device.proofs.plain.Plain.answer.Goals as goal

-- the same of the turn and the byte as the code has them
Takes-told :
    (i k : InterfaceState) (heard now : List ℕ) (room : ℕ) (f : Frame) (out : Out) (told : Turn) (byte : ℕ) →
    IsInterface i → IsInterface k → (length heard ≤ room) × (room ≤ 8192) → Behind i f k →
    now ≡ heard_after told room heard byte → told ≡ turn_on i f → byte ≡ byte_of f →
    Answers told (device_on i heard room) f out (device_on k now room) →
    Takes (device_on i heard room) f out (device_on k now room)
Takes-told i k heard now room f out told byte before after small behind bytes is at answers =
    Takes-on i k heard now room f out before after small.0 small.1 behind
    (bytes ∙ ap (λ u. heard_after u room heard byte) is ∙ ap (λ n. heard_after (turn_on i f) room heard n) at)
    (Answers-at (turn_on i f) told (device_on i heard room) f out (device_on k now room) (sym is) answers)

plain_answer-pass : (id : Option ℕ) (status : ℕ) (asked : Turn) (f on : Frame) →
    (asked ≡ turn.Pass) ⊎ (asked ≡ turn.Hear) → Pass on ≡ plain_answer id status asked f on
plain_answer-pass None status asked f on e = refl
plain_answer-pass (Some id) status asked f on e = elim e [ inl p ↦ rw p refl | inr q ↦ rw q refl ]

pub returns-in-Pass-clause-takes : goal.returns-in-Pass-clause-takes
returns-in-Pass-clause-takes g c =
    let f = c.args.frame in
    let k = c.effect-turn.new.self in
    rw (← c.self.view_is)
    (Takes-told _ k _ _ g.K.Kind.room f _ c.effect-turn.result _ c.roles-before.ensures.standing
    c.effect-turn.ensures.standing
    (g.met.K.Kind.small c.self.inside.kind) (Behind-effect _ k f c.effect-turn.ensures.state)
    c.hear_at.ensures c.effect-turn.ensures.turn c.byte.ensures
    (Answers-pass c.effect-turn.result _ f _ _ (MayPass-or c.effect-turn.result c.in-Pass.is)
    (record {
      answer = ap (λ (x : Frame). Pass x) (c.passed.ensures ∙ ap (λ r. passed_on k r f) c.roles-before.ensures.value);
      still_own = ap (λ x. x.own) c.effect-turn.ensures.state;
    })))

pub returns-in-Pass-clause-plain : goal.returns-in-Pass-clause-plain
returns-in-Pass-clause-plain g c =
    let f = c.args.frame in
    let i = c.self.inside.interface in
    let k = c.effect-turn.new.self in
    let wants : wants_service k.service.status ≡ wants_service g.K.Kind.status =
    ap (λ x. wants_service x.service.status) c.effect-turn.ensures.state ∙ ap wants_service c.self.invariant.0 in
    let on : c.passed.result ≡ passed i.roles k.service.assignment (wants_service g.K.Kind.status) f =
    c.passed.ensures ∙ ap (λ r. passed_on k r f) c.roles-before.ensures.value
    ∙ ap (λ w. passed i.roles k.service.assignment w f) wants in
    let asked : (turn_on i f ≡ turn.Pass) ⊎ (turn_on i f ≡ turn.Hear) =
    subst (λ (u : Turn). (u ≡ turn.Pass) ⊎ (u ≡ turn.Hear)) c.effect-turn.ensures.turn c.in-Pass.is in
    rw (← c.self.view_is)
    (record {
      answer =
          ap (λ (x : Frame). Pass x) on
          ∙ plain_answer-pass g.K.Kind.accessory g.K.Kind.status (turn_on i f) f _ asked;
      wants = wants;
      room = refl;
      accessory = ap (λ x. x.accessory) c.effect-turn.ensures.state ∙ c.self.invariant.1;
    })

pub returns-in-Identify-clause-takes : goal.returns-in-Identify-clause-takes
returns-in-Identify-clause-takes g c =
    let f = c.args.frame in
    let k = c.source-in-Identify.new.self in
    rw (← c.self.view_is)
    (Takes-told _ k _ _ g.K.Kind.room f _ c.effect-turn.result _ c.roles-before.ensures.standing
    c.source-in-Identify.ensures.standing
    (g.met.K.Kind.small c.self.inside.kind)
    (Behind-own _ c.effect-turn.new.self k f (Some (just_sent c.one_byte-in-Identify.result true))
    c.effect-turn.ensures.state c.source-in-Identify.ensures.state)
    c.hear_at.ensures c.effect-turn.ensures.turn c.byte.ensures
    (Answers-identity c.effect-turn.result c.in-Identify.id _ f _ _ c.in-Identify.is
    (rw (← c.one_byte-in-Identify.ensures) c.source-in-Identify.ensures.answer)
    (rw (← c.one_byte-in-Identify.ensures) (ap (λ x. x.own) c.source-in-Identify.ensures.state))))

pub returns-in-Compare-clause-takes : goal.returns-in-Compare-clause-takes
returns-in-Compare-clause-takes g c =
    let f = c.args.frame in
    let k = c.finish.new.self in
    rw (← c.self.view_is)
    (Takes-told _ k _ _ g.K.Kind.room f _ c.effect-turn.result _ c.roles-before.ensures.standing
    c.finish.ensures.standing
    (g.met.K.Kind.small c.self.inside.kind)
    (Behind-own _ c.effect-turn.new.self k f None c.effect-turn.ensures.state c.finish.ensures.state)
    c.hear_at.ensures c.effect-turn.ensures.turn c.byte.ensures
    (Answers-ended c.effect-turn.result c.in-Compare.own _ f _ _ c.in-Compare.is
    (c.finish.ensures.answer ∙ ap (λ right. Source (if right then eto else ete)) c.is_echo.ensures)
    (ap (λ x. x.own) c.finish.ensures.state)))
