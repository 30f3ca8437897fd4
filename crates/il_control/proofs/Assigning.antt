-- The places in the parallel poll after UNL, a listen address and PPE: the device of that address has the place that was given, and every
-- other one the place that it had.
use Rattle.std.proofs.Common.{◌≡◌, ◌∙◌, ◌≤◌, ◌<◌, ◌+◌, ◌==◌, ◌⊎◌, inl, inr, ℕ, zero, suc, Bool, true, false, List, [], ◌∷◌, Option, Some, None, length, refl, sym, ap, subst, arith}
use Rattle.std.specs.Prelude.{if◌then◌else◌}
use Rattle.std.proofs.lemmas.Bool.{agree_below_at, and_parts, eqb-true, le-leb}
use Rattle.il_frames.specs.declared.frame.Frame.{Frame}
use Rattle.il_frames.specs.declared.message.Message.{Message}
use Rattle.il_frames.specs.declared.message.Message.TheVariants as msg
use Rattle.il_frames.specs.Messages.{message_of}
use Rattle.il_poll.specs.Service.{assigned}
use Rattle.il_device.specs.declared.roles.Roles.{Roles}
use Rattle.il_device.specs.Roles.{is_own}
use Rattle.il_device.specs.State.{DeviceState}
use Rattle.il_frames.specs.NamedFrames.{lad, unl}
use Rattle.loop_model.specs.Roles.{are_numbered}
use Rattle.loop_model.specs.Devices.{EachBecomes}
use Rattle.loop_model.specs.Polls.{poll_enable}
use Rattle.loop_model.proofs.SendLaws.{message_of-lad}
use Rattle.il_ring.specs.Lists.{First}
use Rattle.il_ring.specs.Outcomes.{HearsNothing, Obeys}
use Rattle.il_ring.specs.Rings.{RingView, devices_of, roles_of}
use Rattle.il_control.specs.Calls.{IsIdle, Obeyed, ObeyedInPart}
use Rattle.il_control.proofs.Calls.{hears_then}
use Rattle.il_control.specs.Places.{GivenPlace}

abbrev is_ppe : ℕ → Message → Bool
is_ppe n (msg.Ppe m) = m == n
is_ppe n m = false

is_ppe-true : (n : ℕ) (m : Message) → is_ppe n m ≡ true → m ≡ msg.Ppe n
is_ppe-true n (msg.Ppe m) e = ap msg.Ppe (eqb-true m n e)
is_ppe-true n m e = cc

pub message_of-ppe : (n : ℕ) → n < 16 → message_of (poll_enable n) ≡ msg.Ppe n
message_of-ppe n small = is_ppe-true n (message_of (poll_enable n)) (agree_below_at (λ n. is_ppe n (message_of (poll_enable n))) (λ n. true) 16 n refl small)

-- each device has the place that it had, or is party a and has this one
pub record MayHavePlace (a n k : ℕ) (d e : DeviceState) : Type 0 where
  pub place : (e.assignment ≡ d.assignment) ⊎ ((k ≡ a) × (e.assignment ≡ Some (assigned n)))
  pub nothing : HearsNothing d e
  pub wants : e.wants ≡ d.wants

-- ---- one device

-- a device that listens if and only if it is party a
record IsChosen (a k : ℕ) (d e : DeviceState) : Type 0 where
  listens : e.roles.listens ≡ (k == a)
  place : e.assignment ≡ d.assignment
  nothing : HearsNothing d e
  wants : e.wants ≡ d.wants

own_is : (address : Option ℕ) (k a : ℕ) → is_own address k ≡ true → is_own address a ≡ (k == a)
own_is None k a own = cc
own_is (Some b) k a own = ap (λ b. b == a) (eqb-true b k own)

listens_as : (own : Bool) (r : Roles) → r.listens ≡ false → (if own then record r { talks = false; listens = true } else r).listens ≡ own
listens_as true r deaf = refl
listens_as false r deaf = deaf

chosen : (a k : ℕ) (c d e : DeviceState) → is_own c.roles.address k ≡ true → Obeys msg.Unl c d → Obeys (msg.Lad a) d e → IsChosen a k c e
chosen a k c d e own first more = record {
  listens =
      ap (λ (r : Roles). r.listens) more.roles
      ∙ listens_as (is_own d.roles.address a) d.roles (ap (λ (r : Roles). r.listens) first.roles)
      ∙ ap (λ (r : Roles). is_own r.address a) first.roles
      ∙ own_is c.roles.address k a own;
  place = more.assignment ∙ first.assignment;
  nothing = hears_then c d e first.nothing more.nothing;
  wants = more.wants refl ∙ first.wants refl;
}

-- to which PPE n comes
given : (a n k : ℕ) (c d e : DeviceState) → IsChosen a k c d → Obeys (msg.Ppe n) d e → GivenPlace a n k c e
given a n k c d e chosen obeys = record {
  place = obeys.assignment ∙ ap (λ listens. if listens then Some (assigned n) else d.assignment) chosen.listens ∙ ap (λ place. if k == a then Some (assigned n) else place) chosen.place;
  nothing = hears_then c d e chosen.nothing obeys.nothing;
  wants = obeys.wants refl ∙ chosen.wants;
}

may_have : (a n k : ℕ) (d e : DeviceState) → GivenPlace a n k d e → MayHavePlace a n k d e
may_have a n k d e given = record { place = by (k == a) refl given.place; nothing = given.nothing; wants = given.wants }
  where
    by : (here : Bool) → (k == a) ≡ here → e.assignment ≡ (if here then Some (assigned n) else d.assignment) → (e.assignment ≡ d.assignment) ⊎ ((k ≡ a) × (e.assignment ≡ Some (assigned n)))
    by true here place = inr (eqb-true k a here, place)
    by false here place = inl place

kept : (a n k : ℕ) (c d e : DeviceState) → IsChosen a k c d → e ≡ d → MayHavePlace a n k c e
kept a n k c d e chosen same = subst (MayHavePlace a n k c) (sym same) (record { place = inl chosen.place; nothing = chosen.nothing; wants = chosen.wants })

-- ---- all devices

all_chosen : (a k : ℕ) (cs ds es : List DeviceState) → are_numbered k (roles_of cs) ≡ true → First (Obeys msg.Unl) (length cs) cs ds → First (Obeys (msg.Lad a)) (length ds) ds es → EachBecomes (IsChosen a) k cs es
all_chosen a k [] [] [] numbers first more = tt
all_chosen a k (c ∷ cs) (d ∷ ds) (e ∷ es) numbers first more =
    let parts = and_parts (is_own c.roles.address k) (are_numbered (suc k) (roles_of cs)) numbers in
    let up : suc k ≡ k + 1 = omega arith in
    (chosen a k c d e parts.0 first.0 more.0, all_chosen a (k + 1) cs ds es (subst (λ k. are_numbered k (roles_of cs) ≡ true) up parts.1) first.1 more.1)
all_chosen a k [] [] (e ∷ es) numbers first more = absurd more
all_chosen a k [] (d ∷ ds) es numbers first more = absurd first
all_chosen a k (c ∷ cs) [] es numbers first more = absurd first
all_chosen a k (c ∷ cs) (d ∷ ds) [] numbers first more = absurd more

all_given : (a n k : ℕ) (cs ds es : List DeviceState) → EachBecomes (IsChosen a) k cs ds → First (Obeys (msg.Ppe n)) (length ds) ds es → EachBecomes (GivenPlace a n) k cs es
all_given a n k [] [] [] first more = tt
all_given a n k (c ∷ cs) (d ∷ ds) (e ∷ es) first more = (given a n k c d e first.0 more.0, all_given a n (k + 1) cs ds es first.1 more.1)
all_given a n k [] [] (e ∷ es) first more = absurd more
all_given a n k [] (d ∷ ds) es first more = absurd first
all_given a n k (c ∷ cs) [] es first more = absurd first
all_given a n k (c ∷ cs) (d ∷ ds) [] first more = absurd more

some_given : (a n k j : ℕ) (cs ds es : List DeviceState) → EachBecomes (IsChosen a) k cs ds → First (Obeys (msg.Ppe n)) j ds es → EachBecomes (MayHavePlace a n) k cs es
some_given a n k j [] [] [] first more = tt
some_given a n k zero (c ∷ cs) (d ∷ ds) (e ∷ es) first more = (kept a n k c d e first.0 more.0, some_given a n (k + 1) zero cs ds es first.1 more.1)
some_given a n k (suc j) (c ∷ cs) (d ∷ ds) (e ∷ es) first more = (may_have a n k c e (given a n k c d e first.0 more.0), some_given a n (k + 1) j cs ds es first.1 more.1)
some_given a n k j [] [] (e ∷ es) first more = absurd more
some_given a n k j [] (d ∷ ds) es first more = absurd first
some_given a n k j (c ∷ cs) [] es first more = absurd first
some_given a n k j (c ∷ cs) (d ∷ ds) [] first more = absurd more

-- ---- three commands

chosen_after : {M : Type 0} (r m u : RingView M) (a : ℕ) (f g : Frame) → IsIdle r → a ≤ 30 → f ≡ unl → g ≡ lad a → Obeyed (message_of f) r m → Obeyed (message_of g) m u → EachBecomes (IsChosen a) 1 (devices_of r) (devices_of u)
chosen_after r m u a f g idle low is_unl is_lad first more =
    all_chosen a 1 (devices_of r) (devices_of m) (devices_of u) idle.numbered (subst (λ f. First (Obeys (message_of f)) (length (devices_of r)) (devices_of r) (devices_of m)) is_unl first)
    (subst (λ message. First (Obeys message) (length (devices_of m)) (devices_of m) (devices_of u)) (ap message_of is_lad ∙ message_of-lad a (le-leb a 30 low)) more)

-- all whole
pub place_given : {M : Type 0} (r m u s : RingView M) (a n : ℕ) (f g h : Frame) → IsIdle r → a ≤ 30 → n < 16 → f ≡ unl → g ≡ lad a → h ≡ poll_enable n → Obeyed (message_of f) r m → Obeyed (message_of g) m u → Obeyed (message_of h) u s
    → EachBecomes (GivenPlace a n) 1 (devices_of r) (devices_of s)
place_given r m u s a n f g h idle low small is_unl is_lad is_ppe first more last =
    all_given a n 1 (devices_of r) (devices_of u) (devices_of s) (chosen_after r m u a f g idle low is_unl is_lad first more)
    (subst (λ message. First (Obeys message) (length (devices_of u)) (devices_of u) (devices_of s)) (ap message_of is_ppe ∙ message_of-ppe n small) last)

-- PPE was broken off
pub place_in_part : {M : Type 0} (r m u s : RingView M) (a n : ℕ) (f g h : Frame) → IsIdle r → a ≤ 30 → n < 16 → f ≡ unl → g ≡ lad a → h ≡ poll_enable n → Obeyed (message_of f) r m → Obeyed (message_of g) m u → ObeyedInPart (message_of h) u s
    → EachBecomes (MayHavePlace a n) 1 (devices_of r) (devices_of s)
place_in_part r m u s a n f g h idle low small is_unl is_lad is_ppe first more last =
    some_given a n 1 last.0 (devices_of r) (devices_of u) (devices_of s) (chosen_after r m u a f g idle low is_unl is_lad first more)
    (subst (λ message. First (Obeys message) last.0 (devices_of u) (devices_of s)) (ap message_of is_ppe ∙ message_of-ppe n small) last.1)
