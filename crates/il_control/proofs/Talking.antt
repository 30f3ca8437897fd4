-- Who talks after a talk address.
use Rattle.std.proofs.Common.{◌≡◌, ◌∙◌, ◌≤◌, ◌+◌, ◌-◌, ◌++◌, ◌&&◌, ◌==◌, ⊎_elim, ℕ, suc, Bool, true, false, not, List, [], ◌∷◌, Option, Some, None, length, refl, sym, ap, arith}
use Rattle.std.specs.Prelude.{if◌then◌else◌, nat_le}
use Rattle.std.specs.List.{list_all}
use Rattle.std.proofs.Math.Nat.{eq-zero-or-pos}
use Rattle.std.proofs.lemmas.Bool.{and_parts, and_from, agree_below_at, eq-eqb, le-leb, ltb-true}
use Rattle.std.proofs.lemmas.List.{length-map}
use Rattle.il_frames.specs.declared.entry.Outcome.{Outcome}
use Rattle.il_frames.specs.declared.entry.Outcome.TheVariants as outcome
use Rattle.il_frames.specs.declared.message.Message.TheVariants as msg
use Rattle.il_device.specs.declared.interface.OwnFrame.{OwnFrame}
use Rattle.il_device.specs.declared.roles.Roles.{Roles}
use Rattle.il_device.specs.Roles.{is_own}
use Rattle.il_device.specs.State.{DeviceState}
use Rattle.il_frames.specs.NamedFrames.{unl, tad, ddt, rfc}
use Rattle.loop_model.specs.Exchanges.{Start, Answer, NotTaken, ToItsEnd, Stopped, Receive, returned, commanded, numbered, is_address, is_number, answers_as_asked, is_asked_for, receive_front}
use Rattle.loop_model.specs.Roles.{talkers, talkers_from, roles_after, roles_after_entry, roles_along, is_at_most_one, are_numbered}
use Rattle.loop_model.proofs.RoleLaws.{roles_after-append, is_quiet, no_talkers, all_quiet, quiet_log}
use Rattle.loop_model.proofs.RoleSteps.{keeps_roles, roles_after-kept, no_head, quiet_other, tad_passes, one_talker-addressed}
use Rattle.loop_model.proofs.RoundLaws.{message_of-tad}
use Rattle.loop_model.proofs.TalkLaws.{are_numbered-log, length-roles_after, talkers-tad}
use Rattle.il_ring.specs.Lists.{AllSilent}
use Rattle.il_ring.specs.Outcomes.{IsTalking}
use Rattle.il_ring.specs.Rings.{RingView, devices_of, roles_of}
use Rattle.il_ports.specs.Media.{MediumView}
use Rattle.il_control.specs.Calls.{IsIdle}
use Rattle.il_control.specs.Receives.{Asked, WasTalking}

-- ---- one talker in a list of devices

silent_quiet : (k : ℕ) (ds : List DeviceState) → AllSilent ds → talkers_from k (roles_of ds) ≡ []
silent_quiet k [] silent = refl
silent_quiet k (d ∷ ds) silent = no_head k d.roles.talks _ [] (ap not silent.0) (silent_quiet (suc k) ds silent.1)

here_alone : (k : ℕ) (talks : Bool) (ps : List ℕ) → talks ≡ true → ps ≡ [] → ((if talks then k ∷ [] else []) ++ ps) ≡ k ∷ []
here_alone k true ps is none = ap (λ ps. k ∷ ps) none
here_alone k false ps is none = cc

alone_in : (k : ℕ) (bs cs : List DeviceState) (d : DeviceState) → AllSilent bs → d.roles.talks ≡ true → AllSilent cs → talkers_from k (roles_of (bs ++ d ∷ cs)) ≡ (k + length bs) ∷ []
alone_in k [] cs d before talks after = let same : k + 0 ≡ k = omega arith in here_alone k d.roles.talks _ talks (silent_quiet (suc k) cs after) ∙ ap (λ k. k ∷ []) (sym same)
alone_in k (b ∷ bs) cs d before talks after =
    let same : suc k + length bs ≡ k + length (b ∷ bs) = omega arith in
    no_head k b.roles.talks _ _ (ap not before.0) (alone_in (suc k) bs cs d before.1 talks after ∙ ap (λ k. k ∷ []) same)

pub talking_alone : (p : ℕ) (own : Option OwnFrame) (ds : List DeviceState) → IsTalking p own ds → talkers (roles_of ds) ≡ p ∷ []
talking_alone p own ds talking =
    let at : 1 + length talking.before ≡ p = omega (arith, talking.party) in
    ap (λ ds. talkers (roles_of ds)) talking.devices_are ∙ alone_in 1 talking.before talking.after talking.talker talking.silent talking.talks talking.silent_after ∙ ap (λ p. p ∷ []) at

-- ---- a talk address that no device has

none_addressed : (o : Outcome) (party a : ℕ) (rs : List Roles) → are_numbered party rs ≡ true → list_all is_quiet rs ≡ true → party + length rs ≤ a → talkers_from party (roles_along 0 o party (msg.Tad a) rs) ≡ []
none_addressed o party a [] numbers quiet high = refl
none_addressed o party a (r ∷ rs) numbers quiet high =
    let own = and_parts (is_own r.address party) (are_numbered (suc party) rs) numbers in
    let silent = and_parts (is_quiet r) (list_all is_quiet rs) quiet in
    no_head party _ _ [] (quiet_other o party a r (λ e. omega (arith, e, high)) own.0 silent.0)
    (tad_passes o party (suc party) a rs ∙ none_addressed o (suc party) a rs own.1 silent.1 (omega (arith, high)))

-- ---- after the front of a receive

abbrev first_of : List ℕ → ℕ
first_of [] = 0
first_of (p ∷ ps) = p

ddt_keeps : (number : Option ℕ) → is_number number ≡ true → list_all keeps_roles (returned 0 rfc ∷ numbered 0 ddt number) ≡ true
ddt_keeps None fit = refl
ddt_keeps (Some n) fit = and_from (keeps_roles (returned 0 (ddt n))) true (agree_below_at (λ n. keeps_roles (returned 0 (ddt n))) (λ n. true) 32 n refl (ltb-true n 32 fit)) refl

module _ (rs : List Roles) (a : ℕ) (number : Option ℕ) (numbers : are_numbered 1 rs ≡ true) (silent : talkers rs ≡ []) (low : is_address a ≡ true) (fit : is_number number ≡ true) where
  abbrev between : List Roles
  between = roles_after rs (commanded 0 unl)

  still : talkers between ≡ []
  still = no_talkers 1 between (quiet_log rs (commanded 0 unl) refl (all_quiet 1 rs silent))

  numbered_still : are_numbered 1 between ≡ true
  numbered_still = are_numbered-log rs (commanded 0 unl) refl numbers

  many : length between ≡ length rs
  many = length-roles_after rs (commanded 0 unl)

  pub front_roles : roles_after rs (receive_front 0 a number) ≡ roles_after_entry between (returned 0 (tad a))
  front_roles =
      roles_after-append rs (commanded 0 unl) (commanded 0 (tad a) ++ numbered 0 ddt number)
      ∙ roles_after-kept (roles_after_entry between (returned 0 (tad a))) (returned 0 rfc ∷ numbered 0 ddt number) (ddt_keeps number fit)

  pub one_asked : is_at_most_one (talkers (roles_after rs (receive_front 0 a number))) ≡ true
  one_asked = ap (λ rs. is_at_most_one (talkers rs)) front_roles ∙ one_talker-addressed between a (returned 0 (tad a)) numbered_still still (message_of-tad a low)

  -- the device of that address talks, if there is one, and no other
  pub asked_alone : 1 ≤ a → a ≤ length rs → talkers (roles_after rs (receive_front 0 a number)) ≡ a ∷ []
  asked_alone some within = ap talkers front_roles ∙ talkers-tad between a (returned 0 (tad a)) numbered_still still refl (message_of-tad a low) some (omega (arith, many, within)) refl

  pub asked_talks : (p : ℕ) → 1 ≤ a → talkers (roles_after rs (receive_front 0 a number)) ≡ p ∷ [] → is_asked_for (length rs) a p ≡ true
  asked_talks p some talks =
      ⊎_elim
      (λ (none : a - length rs ≡ 0).
      let within : a ≤ length rs = omega (arith, none) in
      let same = ap first_of (sym talks ∙ asked_alone some within) in
      and_from (p == a) (nat_le 1 a && nat_le a (length rs)) (eq-eqb p a same) (and_from (nat_le 1 a) (nat_le a (length rs)) (le-leb 1 a some) (le-leb a (length rs) within)))
      (λ far.
      let nobody = ap talkers front_roles ∙ ap (λ m. talkers (roles_along 0 (outcome.Back (tad a)) 1 m between)) (message_of-tad a low) ∙ none_addressed (outcome.Back (tad a)) 1 a between numbered_still (all_quiet 1 between still) (omega (arith, many, far)) in
      let clash = sym nobody ∙ talks in cc)
      (eq-zero-or-pos (a - length rs))

-- the talker that took a start message then is the device that was asked
pub asked_one : {M : Type 0} (view : M → MediumView) (r m : RingView M) (a : ℕ) (number : Option ℕ) (start : Start) (answer : Answer) → IsIdle r → 1 ≤ a → a ≤ 30 → is_number number ≡ true → Asked view a number r m → WasTalking answer m → answers_as_asked (length (devices_of r)) (Receive a number start answer) ≡ true
asked_one view r m a number start NotTaken idle some low fit asked talked = refl
asked_one view r m a number start (ToItsEnd p ds) idle some low fit asked talked =
    let rs = roles_of (devices_of r) in
    ap (λ k. is_asked_for k a p) (sym (length-map (devices_of r) (λ (d : DeviceState). d.roles))) ∙ asked_talks rs a number idle.numbered idle.silent (le-leb a 30 low) fit p some (ap talkers (sym asked.whole.adds.roles) ∙ talking_alone p None (devices_of m) talked)
asked_one view r m a number start (Stopped p ds last) idle some low fit asked talked =
    let rs = roles_of (devices_of r) in
    ap (λ k. is_asked_for k a p) (sym (length-map (devices_of r) (λ (d : DeviceState). d.roles))) ∙ asked_talks rs a number idle.numbered idle.silent (le-leb a 30 low) fit p some (ap talkers (sym asked.whole.adds.roles) ∙ talking_alone p None (devices_of m) talked)

pub one_asked_talks : {M : Type 0} (view : M → MediumView) (r m : RingView M) (a : ℕ) (number : Option ℕ) → IsIdle r → a ≤ 30 → is_number number ≡ true → Asked view a number r m → is_at_most_one (talkers (roles_of (devices_of m))) ≡ true
one_asked_talks view r m a number idle low fit asked =
    ap (λ rs. is_at_most_one (talkers rs)) asked.whole.adds.roles ∙ one_asked (roles_of (devices_of r)) a number idle.numbered idle.silent (le-leb a 30 low) fit
