-- A log that begins with an IFC of the host reads alike, whoever controlled the loop before it.
use Rattle.std.proofs.Common.{◌≡◌, ◌∙◌, ℕ, ◌==◌, ◌&&◌, ◌||◌, Bool, true, false, not, if◌then◌else◌, List, ◌∷◌, refl, sym, ap}
use Rattle.std.proofs.lemmas.Bool.{and_parts, or_right}
use Rattle.il_frames.specs.declared.message.Message.{Message}
use Rattle.il_frames.specs.declared.message.Message.TheVariants as msg
use Rattle.il_frames.specs.declared.entry.Entry.{Entry}
use Rattle.il_frames.specs.Messages.{message_of}
use Rattle.il_frames.specs.NamedFrames.{is_ifc}
use Rattle.il_device.specs.declared.roles.Roles.{Roles}
use Rattle.loop_model.specs.Leading.{are_commands_led, controller_after, controller_after_entry, handed_to, has_one_talker_led, is_in_turn_led, is_of_controller, is_taking_back, may_speak_led, roles_led, roles_led_entry}
use Rattle.loop_model.specs.Roles.{is_at_most_one, is_spoken, roles_along, talkers}

ifc_unspoken : (m : Message) → is_ifc m ≡ true → is_spoken m ≡ false
ifc_unspoken msg.Ifc is = refl
ifc_unspoken m is = cc

module _ (c : ℕ) (e : Entry) (back : is_taking_back e ≡ true) where
  -- the host controls then
  pub host_then : controller_after_entry c e ≡ 0
  host_then = by (e.source == 0) (is_ifc (message_of e.frame)) (and_parts (e.source == 0) (is_ifc (message_of e.frame)) back)
    where
      by : (here ifc : Bool) → (here ≡ true) × (ifc ≡ true) → (if here then (if ifc then 0 else handed_to c e.outcome (message_of e.frame)) else c) ≡ 0
      by true true is = refl
      by true false is = let clash = is.1 in cc
      by false ifc is = let clash = is.0 in cc

  theirs : is_of_controller c e ≡ true
  theirs = or_right (e.source == c) (is_taking_back e) back

  roles_then : (rs : List Roles) → roles_led_entry c rs e ≡ roles_along e.source e.outcome 1 (message_of e.frame) rs
  roles_then rs = ap (λ own. if own then roles_along e.source e.outcome 1 (message_of e.frame) rs else rs) theirs

  turn_then : (ps : List ℕ) → is_in_turn_led c ps e ≡ true
  turn_then ps = ap (λ said. not said || may_speak_led c ps e.source (message_of e.frame)) (ifc_unspoken (message_of e.frame) (and_parts (e.source == 0) (is_ifc (message_of e.frame)) back).1)

-- the controller, the roles, the talkers and the commands
module _ (c : ℕ) (e : Entry) (log : List Entry) (back : is_taking_back e ≡ true) where
  pub controller_after-back : controller_after c (e ∷ log) ≡ controller_after 0 (e ∷ log)
  controller_after-back = ap (λ d. controller_after d log) (host_then c e back ∙ sym (host_then 0 e back))

  pub roles_led-back : (rs : List Roles) → roles_led c rs (e ∷ log) ≡ roles_led 0 rs (e ∷ log)
  roles_led-back rs =
      ap (λ d. roles_led d (roles_led_entry c rs e) log) (host_then c e back ∙ sym (host_then 0 e back))
      ∙ ap (λ ss. roles_led (controller_after_entry 0 e) ss log) (roles_then c e back rs ∙ sym (roles_then 0 e back rs))

  pub has_one_talker_led-back : (rs : List Roles) → has_one_talker_led c rs (e ∷ log) ≡ has_one_talker_led 0 rs (e ∷ log)
  has_one_talker_led-back rs =
      let few = is_at_most_one (talkers rs) in
      ap (λ turn. few && (turn && has_one_talker_led (controller_after_entry c e) (roles_led_entry c rs e) log)) (turn_then c e back (talkers rs) ∙ sym (turn_then 0 e back (talkers rs)))
      ∙ ap (λ d. few && (is_in_turn_led 0 (talkers rs) e && has_one_talker_led d (roles_led_entry c rs e) log)) (host_then c e back ∙ sym (host_then 0 e back))
      ∙ ap (λ ss. few && (is_in_turn_led 0 (talkers rs) e && has_one_talker_led (controller_after_entry 0 e) ss log)) (roles_then c e back rs ∙ sym (roles_then 0 e back rs))

  pub are_commands_led-back : are_commands_led c (e ∷ log) ≡ are_commands_led 0 (e ∷ log)
  are_commands_led-back =
      ap (λ own. (is_spoken (message_of e.frame) || own) && are_commands_led (controller_after_entry c e) log) (theirs c e back ∙ sym (theirs 0 e back))
      ∙ ap (λ d. (is_spoken (message_of e.frame) || is_of_controller 0 e) && are_commands_led d log) (host_then c e back ∙ sym (host_then 0 e back))
