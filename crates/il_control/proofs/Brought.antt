-- Which frames the drive took: laws of the definitions.
use Rattle.std.proofs.Common.{◌≡◌, ◌∙◌, ◌++◌, ◌+◌, inl, inr, ℕ, zero, suc, Bool, true, false, List, [], ◌∷◌, length, refl, sym, ap, subst}
use Rattle.std.specs.List.{list_all}
use Rattle.std.proofs.lemmas.Bool.{and_parts}
use Rattle.std.proofs.lemmas.List.Folds.{list_all-append}
use Rattle.il_frames.specs.declared.frame.Class.{Class}
use Rattle.il_frames.specs.declared.frame.Class.TheVariants as class
use Rattle.il_frames.specs.declared.frame.Frame.{Frame}
use Rattle.il_frames.specs.declared.entry.Entry.{Entry}
use Rattle.il_frames.specs.declared.entry.Outcome.{Outcome}
use Rattle.il_frames.specs.declared.entry.Outcome.TheVariants as outcome
use Rattle.il_frames.specs.Frames.{byte_of, class_of, framed, is_data, with_service}
use Rattle.il_frames.specs.Messages.{message_of, message_at}
use Rattle.il_device.specs.Passing.{is_plain}
use Rattle.il_frames.specs.NamedFrames.{entry, aad}
use Rattle.loop_model.specs.Exchanges.{Break, can_cut}
use Rattle.loop_model.specs.Reach.{brings_to}
use Rattle.il_ring.specs.Outcomes.{met_between}
use Rattle.il_ring.specs.Rings.{RingView, devices_of, drive_party}
use Rattle.il_ring.proofs.PassKinds.{plain_no_data}
use Rattle.il_ring.specs.Journeys.{is_identify, is_identify_class}
use Rattle.il_ring.proofs.RoundAdds.{DriveCame}
use Rattle.il_control.specs.Calls.{idy}
use Rattle.il_control.specs.Brought.{ComesAs, MayComeAs, BroughtIf, Brought, CutBrought, is_from_here}

-- ---- one list after the other

if_then : (b : Bool) (here : Frame → Type 0) (P R : List Frame → Type 0) (hs : List Frame) → ((gs : List Frame) → P gs → R (gs ++ hs)) → (gs : List Frame) → BroughtIf b here P gs → BroughtIf b here R (gs ++ hs)
if_then false here P R hs on gs came = on gs came
if_then true here P R hs on [] came = absurd came
if_then true here P R hs on (g ∷ gs) came = (came.0, on gs came.1)

if_on : (b : Bool) (here : Frame → Type 0) (P R : List Frame → Type 0) → ((gs : List Frame) → P gs → R gs) → (gs : List Frame) → BroughtIf b here P gs → BroughtIf b here R gs
if_on false here P R on gs came = on gs came
if_on true here P R on [] came = absurd came
if_on true here P R on (g ∷ gs) came = (came.0, on gs came.1)

pub brought_then : (k q : ℕ) (xs ys : List Entry) (gs hs : List Frame) → Brought k q xs gs → Brought k q ys hs → Brought k q (xs ++ ys) (gs ++ hs)
brought_then k q [] ys gs hs first more = subst (λ gs. Brought k q ys (gs ++ hs)) (sym first) more
brought_then k q (x ∷ xs) ys gs hs first more = if_then (brings_to k q x) (ComesAs q x.frame) (Brought k q xs) (Brought k q (xs ++ ys)) hs (λ gs first. brought_then k q xs ys gs hs first more) gs first

-- a cut after whole entries
pub cut_brought_first : (k q n : ℕ) (x : Entry) (xs ys : List Entry) (hs : List Frame) → ((gs : List Frame) → Brought k q xs gs → CutBrought k q (xs ++ ys) n (gs ++ hs)) → (gs : List Frame) → Brought k q (x ∷ xs) gs → CutBrought k q (x ∷ xs ++ ys) (suc n) (gs ++ hs)
cut_brought_first k q n x xs ys hs on gs first = if_then (brings_to k q x) (ComesAs q x.frame) (Brought k q xs) (CutBrought k q (xs ++ ys) n) hs on gs first

-- and one before more
pub cut_brought_front : (k q : ℕ) (xs ys : List Entry) (n : ℕ) (b : Break) (gs : List Frame) → can_cut 0 xs n b ≡ true → CutBrought k q xs n gs → CutBrought k q (xs ++ ys) n gs
cut_brought_front k q [] ys n b gs legal came = cc
cut_brought_front k q (x ∷ xs) ys zero b gs legal came = came
cut_brought_front k q (x ∷ xs) ys (suc n) b gs legal came = if_on (brings_to k q x) (ComesAs q x.frame) (CutBrought k q xs n) (CutBrought k q (xs ++ ys) n) (λ gs came. cut_brought_front k q xs ys n b gs legal came) gs came

pub from_here_parts : (q : ℕ) (xs ys : List Entry) → list_all (is_from_here q) (xs ++ ys) ≡ true → (list_all (is_from_here q) xs ≡ true) × (list_all (is_from_here q) ys ≡ true)
from_here_parts q xs ys all = and_parts (list_all (is_from_here q) xs) (list_all (is_from_here q) ys) (sym (list_all-append (is_from_here q) xs ys) ∙ all)

-- said of two rings of as many devices with the drive at the same place
pub same_place : {M : Type 0} (r m : RingView M) (C : ℕ → ℕ → Type 0) → length m.before ≡ length r.before → length (devices_of m) ≡ length (devices_of r) → C (length (devices_of m)) (drive_party m) → C (length (devices_of r)) (drive_party r)
same_place r m C before size holds = subst (λ k. C k (drive_party r)) size (subst (λ n. C (length (devices_of m)) (n + 1)) before holds)

-- ---- one frame of the host

pub may_come : (q : ℕ) (f g : Frame) → ComesAs q f g → MayComeAs q f g
may_come q f g comes = record { data_frame = λ is. (comes.data_frame is).0; address = comes.address; poll = comes.poll; other = comes.other }

-- that came back, if no planned hop was reached
pub brought_one : {M : Type 0} (P : Frame → Type 0) (r s : RingView M) (k q : ℕ) (f back : Frame) (gs : List Frame) → ((g : Frame) → P g → ComesAs q f g) → met_between r s ≡ [] → DriveCame P r s gs → Brought k q (entry 0 f (outcome.Back back) ∷ []) gs
brought_one P r s k q f back gs comes none (inl gone) = absurd (gone.1 none)
brought_one P r s k q f back gs comes none (inr came) = subst (λ gs. Brought k q (entry 0 f (outcome.Back back) ∷ []) gs) (sym came.2) (comes came.0 came.1, refl)

-- in whose place a break stands
pub cut_brought_one : {M : Type 0} (P : Frame → Type 0) (r s : RingView M) (k q : ℕ) (f : Frame) (o : Outcome) (gs : List Frame) → ((g : Frame) → P g → MayComeAs q f g) → DriveCame P r s gs → CutBrought k q (entry 0 f o ∷ []) 0 gs
cut_brought_one P r s k q f o gs comes (inl gone) = inl gone.0
cut_brought_one P r s k q f o gs comes (inr came) = inr (came.0, comes came.0 came.1, came.2)

-- ---- the kinds of frames

plain_poll : (k : Class) (byte : ℕ) → is_identify_class k ≡ true → is_plain (message_at k byte) ≡ false
plain_poll class.Idy byte is = refl
plain_poll class.Isr byte is = refl
plain_poll _ byte is = cc

-- a frame that every device passes on as it is
pub plain_comes : (q : ℕ) (f g : Frame) → is_plain (message_of f) ≡ true → g ≡ f → ComesAs q f g
plain_comes q f g plain same = record {
  data_frame = λ is. let clash = sym is ∙ plain_no_data f plain in cc;
  address = λ is. let clash = sym plain ∙ ap (λ f. is_plain (message_of f)) is in cc;
  poll = λ is. let clash = sym plain ∙ plain_poll (class_of f) (byte_of f) is in cc;
  other = λ exact plain. same;
}

-- AAD 1
pub address_comes : (q : ℕ) (g : Frame) → g ≡ aad q → ComesAs q (aad 1) g
address_comes q g is = record {
  data_frame = λ is. cc;
  address = λ same. is;
  poll = λ is. cc;
  other = λ exact plain. cc;
}

-- the identify frame
pub poll_comes : (q : ℕ) (g : Frame) → is_identify g ≡ true → ComesAs q idy g
poll_comes q g is = record {
  data_frame = λ is. cc;
  address = λ same. let clash = ap is_identify same in cc;
  poll = λ same. is;
  other = λ exact plain. cc;
}

-- the data frame of a byte
pub data_comes : (q byte : ℕ) (g : Frame) → (is_data g ≡ true) × (with_service g ≡ with_service (framed class.Dab byte)) → ComesAs q (framed class.Dab byte) g
data_comes q byte g is = record {
  data_frame = λ data_frame. is;
  address = λ same. let clash = ap is_data same in cc;
  poll = λ same. cc;
  other = λ exact plain. cc;
}

-- and that of a byte which may have been altered
pub data_may_come : (q byte : ℕ) (g : Frame) → is_data g ≡ true → MayComeAs q (framed class.Dab byte) g
data_may_come q byte g is = record {
  data_frame = λ data_frame. is;
  address = λ same. let clash = ap is_data same in cc;
  poll = λ same. cc;
  other = λ exact plain. cc;
}
