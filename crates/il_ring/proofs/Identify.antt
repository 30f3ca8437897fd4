-- IDY and ISR: every device passes them on, with its bits set.
use Rattle.std.proofs.Common.{◌≡◌, ◌≤◌, ◌+◌, ◌-◌, ◌++◌, ℕ, suc, Bool, true, false, List, [], ◌∷◌, Option, length, drop, refl, sym, ap, subst, ◌∙◌, arith, append_assoc, length-append}
use Rattle.il_frames.specs.declared.frame.Class.{Class}
use Rattle.il_frames.specs.declared.frame.Class.TheVariants as class
use Rattle.il_frames.specs.declared.frame.Frame.{Frame}
use Rattle.il_frames.specs.Frames.{byte_of, class_of, framed, is_data_class}
use Rattle.il_frames.specs.Messages.{message_of}
use Rattle.il_poll.specs.declared.service.Assignment.{Assignment}
use Rattle.il_device.specs.declared.device.Out.TheVariants.{Pass}
use Rattle.il_device.specs.declared.interface.OwnFrame.{OwnFrame}
use Rattle.il_device.specs.declared.interface.Turn.TheVariants as turn
use Rattle.il_device.specs.declared.roles.Roles.{Roles}
use Rattle.il_device.specs.Passing.{identified, passed}
use Rattle.il_device.specs.Roles.{own_after, assignment_after}
use Rattle.il_device.specs.State.{DeviceState}
use Rattle.il_device.specs.Takes.{turn_of, may_change_service}
use Rattle.il_ring.specs.Polls.{identified_along}
use Rattle.il_ring.specs.Journeys.{is_identify, is_identify_class}
use Rattle.il_ring.proofs.Passing.{identify_class}
use Rattle.il_ring.proofs.Passes.{PassesOn}
use Rattle.il_ring.specs.Lists.{Each}
use Rattle.il_ring.proofs.PassKinds.{OnlyPassed, obeys, goes_as}

-- what an identify frame asks
identify_turn : (d : DeviceState) (k : Class) (byte : ℕ) → is_identify_class k ≡ true → turn_of d (framed k byte) ≡ turn.Pass
identify_turn d class.Idy byte e = refl
identify_turn d class.Isr byte e = refl
identify_turn d _ byte e = cc

identify_passed : (r : Roles) (place : Option Assignment) (wants : Bool) (k : Class) (byte : ℕ) → is_identify_class k ≡ true → passed r place wants (framed k byte) ≡ identified place wants (framed k byte)
identify_passed r place wants class.Idy byte e = refl
identify_passed r place wants class.Isr byte e = refl
identify_passed r place wants _ byte e = cc

identify_keeps : (own : Option OwnFrame) (r : Roles) (place : Option Assignment) (k : Class) (byte : ℕ) → is_identify_class k ≡ true
    → (own_after r own (message_of (framed k byte)) ≡ own) × (assignment_after r place (message_of (framed k byte)) ≡ place) × (may_change_service (message_of (framed k byte)) ≡ false)
identify_keeps own r place class.Idy byte e = (refl, refl, refl)
identify_keeps own r place class.Isr byte e = (refl, refl, refl)
identify_keeps own r place _ byte e = cc

identify_no_data : (k : Class) → is_identify_class k ≡ true → is_data_class k ≡ false
identify_no_data class.Idy e = refl
identify_no_data class.Isr e = refl
identify_no_data _ e = cc

-- it is an identify frame, and after the devices from party k on it is this one
pub record LeadsTo (all : List DeviceState) (end : Frame) (k : ℕ) (g : Frame) : Type 0 where
  pub identify : is_identify g ≡ true
  pub after : identified_along (drop (k - 1) all) g ≡ end

-- party k of all
abbrev pub IsParty : List DeviceState → ℕ → DeviceState → Type 0
IsParty all k d = (1 ≤ k) × (drop (k - 1) all ≡ d ∷ drop k all)

pub identify_passes : (all : List DeviceState) (end : Frame) → PassesOn (LeadsTo all end) (IsParty all) OnlyPassed
identify_passes all end = record {
  no_data = λ k g leads. identify_no_data (class_of g) leads.identify;
  step = λ k d e g out party leads takes.
      let is = leads.identify in
      let asked : turn_of d g ≡ turn.Pass = identify_turn d (class_of g) (byte_of g) is in
      let kept = identify_keeps d.own d.roles d.assignment (class_of g) (byte_of g) is in
      let obeyed = obeys d e g out asked takes in
      let place : e.assignment ≡ d.assignment = obeyed.assignment ∙ kept.1 in
      let wants : e.wants ≡ d.wants = obeyed.wants kept.2 in
      let h = identified d.assignment d.wants g in
      let goes : out ≡ Pass h =
      goes_as d e g out asked takes ∙ ap (λ f. Pass f) (identify_passed d.roles e.assignment e.wants (class_of g) (byte_of g) is)
      ∙ ap (λ place. Pass (identified place e.wants g)) place ∙ ap (λ wants. Pass (identified d.assignment wants g)) wants in
      let next : k + 1 - 1 ≡ k = omega arith in (
        h,
        goes,
        record {
          identify = ap is_identify (sym (identify_passed d.roles d.assignment d.wants (class_of g) (byte_of g) is)) ∙ identify_class d.roles d.assignment d.wants (class_of g) (byte_of g) is;
          after = ap (λ j. identified_along (drop j all) h) next ∙ ap (λ rest. identified_along rest g) (sym party.1) ∙ leads.after;
        },
        (obeyed.nothing, obeyed.own ∙ kept.0, place, wants),
      );
}

-- each device is the party that it is
pub parties : (front ds : List DeviceState) → Each (IsParty (front ++ ds)) (length front + 1) ds
parties front [] = tt
parties front (d ∷ ds) =
    let here : length front + 1 - 1 ≡ length front = omega arith in
    let more = parties (front ++ d ∷ []) ds in
    let size : length (front ++ d ∷ []) + 1 ≡ length front + 1 + 1 = omega (arith, length-append front (d ∷ [])) in (
      (omega arith, ap (λ j. drop j (front ++ d ∷ ds)) here ∙ dropped front d ds),
      subst (λ k. Each (IsParty (front ++ d ∷ ds)) k ds) size (subst (λ all. Each (IsParty all) (length (front ++ d ∷ []) + 1) ds) (append_assoc front (d ∷ []) ds) more),
    )
  where
    dropped : (front : List DeviceState) (d : DeviceState) (ds : List DeviceState) → drop (length front) (front ++ d ∷ ds) ≡ d ∷ drop (length front + 1) (front ++ d ∷ ds)
    dropped [] d ds = refl
    dropped (x ∷ front) d ds = let up : length (x ∷ front) + 1 ≡ suc (length front + 1) = omega arith in dropped front d ds ∙ ap (λ j. d ∷ drop j (x ∷ front ++ d ∷ ds)) (sym up)
