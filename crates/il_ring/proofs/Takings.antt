-- What a device does with a frame that comes to it, as far as a journey goes on by it.
use Rattle.std.proofs.Common.{◌≡◌, inl, inr, ◌||◌, Bool, true, false, ℕ, Option, Some, None, refl, sym, ap, subst, ◌∙◌}
use Rattle.il_frames.specs.declared.frame.Class.{Class}
use Rattle.il_frames.specs.declared.frame.Class.TheVariants as class
use Rattle.il_frames.specs.declared.frame.Frame.{Frame}
use Rattle.il_frames.specs.Frames.{byte_of, class_of, framed, is_data, is_data_class, same_but_service}
use Rattle.il_device.specs.declared.device.Out.{Out}
use Rattle.il_device.specs.declared.device.Out.TheVariants.{Pass, Source}
use Rattle.il_device.specs.declared.interface.OwnFrame.{OwnFrame}
use Rattle.il_device.specs.declared.interface.Turn.TheVariants as turn
use Rattle.il_device.specs.Passing.{served}
use Rattle.il_device.specs.State.{DeviceState}
use Rattle.il_device.specs.Takes.{Takes, Answers, AnswersEcho, GoesOn, turn_of, turn_at_data}
use Rattle.il_device.proofs.Laws.{turn_of-data, passed-data}

-- ---- data frames

-- a device with an own frame on the loop sends one in the place of a data frame
sends_on : (own : OwnFrame) (out : Out) (e : DeviceState) (over : Bool) (h : Frame) → GoesOn over out e → out ≡ Pass h → ⊥
sends_on own out e true h ends is = let clash = sym is ∙ ends.answer in cc
sends_on own out e false h (inl ends) is = let clash = sym is ∙ ends.answer in cc
sends_on own out e false h (inr sends) is = let clash = sym is ∙ sends.1.answer in cc

pub echo_sends : (own : OwnFrame) (out : Out) (e : DeviceState) (right : Bool) (h : Frame) → AnswersEcho right own out e → out ≡ Pass h → ⊥
echo_sends own out e false h ends is = let clash = sym is ∙ ends.answer in cc
echo_sends own out e true h on is = sends_on own out e (own.stopped || own.last) h on is

pub own_sends : (d e : DeviceState) (f h : Frame) (out : Out) (own : OwnFrame) → is_data f ≡ true → d.own ≡ Some own → Takes d f out e → out ≡ Pass h → ⊥
own_sends d e f h out own data_frame has takes is =
    let asked : turn_of d f ≡ turn.Compare own = turn_of-data d f data_frame ∙ ap (λ own. turn_at_data own d.roles.listens) has in
    echo_sends own out e (same_but_service own.frame f) h (subst (λ u. Answers u d f out e) asked takes.answer) is

served_class : (wants : Bool) (k : Class) (byte : ℕ) → is_data_class (class_of (served wants (framed k byte))) ≡ is_data_class k
served_class false k byte = refl
served_class true class.Dab byte = refl
served_class true class.Dsr byte = refl
served_class true class.End byte = refl
served_class true class.Esr byte = refl
served_class true class.Cmd byte = refl
served_class true class.Rdy byte = refl
served_class true class.Idy byte = refl
served_class true class.Isr byte = refl

-- with the service bit set a data or end frame is still one
pub served_data : (wants : Bool) (f : Frame) → is_data (served wants f) ≡ is_data f
served_data wants f = served_class wants (class_of f) (byte_of f)

passes_by : (listens : Bool) (d e : DeviceState) (f : Frame) (out : Out) → is_data f ≡ true → turn_of d f ≡ turn_at_data None listens → Takes d f out e → out ≡ Pass (served e.wants f)
passes_by true d e f out data_frame asked takes =
    let passes : Answers turn.Hear d f out e = subst (λ u. Answers u d f out e) asked takes.answer in
    passes.answer ∙ ap (λ g. Pass g) (passed-data d.roles e.assignment e.wants f data_frame)
passes_by false d e f out data_frame asked takes =
    let passes : Answers turn.Pass d f out e = subst (λ u. Answers u d f out e) asked takes.answer in
    passes.answer ∙ ap (λ g. Pass g) (passed-data d.roles e.assignment e.wants f data_frame)

-- a device without an own frame passes a data frame on, its service bit set if it wants service
pub data_passes : (d e : DeviceState) (f : Frame) (out : Out) → is_data f ≡ true → d.own ≡ None → Takes d f out e → out ≡ Pass (served e.wants f)
data_passes d e f out data_frame none takes =
    passes_by d.roles.listens d e f out data_frame (turn_of-data d f data_frame ∙ ap (λ own. turn_at_data own d.roles.listens) none) takes

pub passed_frame : (g h : Frame) → Pass g ≡ Pass h → g ≡ h
passed_frame g h e = ap (λ out. elim out [ Pass f ↦ f | Source f ↦ f ]) e

-- what goes on after a device that passes a data frame is one
pub stays_data : (own : Option OwnFrame) (d e : DeviceState) (f h : Frame) (out : Out) → d.own ≡ own → is_data f ≡ true → Takes d f out e → out ≡ Pass h → is_data h ≡ true
stays_data (Some own) d e f h out has data_frame takes is = absurd (own_sends d e f h out own data_frame has takes is)
stays_data None d e f h out has data_frame takes is =
    let same : Pass h ≡ Pass (served e.wants f) = sym is ∙ data_passes d e f out data_frame has takes in
    ap is_data (passed_frame h (served e.wants f) same) ∙ served_data e.wants f ∙ data_frame
