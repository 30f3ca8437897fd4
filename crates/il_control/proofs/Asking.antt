-- What devices obeyed, and how they are when one of them was told to talk.
use Rattle.std.proofs.Common.{◌≡◌, ◌∙◌, ◌≤◌, ◌<◌, ◌+◌, ◌++◌, ⊎_elim, ℕ, zero, suc, Bool, true, false, List, [], ◌∷◌, Option, Some, length, refl, sym, ap, subst}
use Rattle.std.specs.Prelude.{if◌then◌else◌, MatchBool, IfSome}
use Rattle.std.proofs.lemmas.Bool.{agree_below_at, le-leb}
use Rattle.il_frames.specs.declared.frame.Frame.{Frame}
use Rattle.il_frames.specs.declared.message.Message.{Message}
use Rattle.il_frames.specs.declared.message.Message.TheVariants as msg
use Rattle.il_frames.specs.declared.entry.Entry.{Entry}
use Rattle.il_frames.specs.Messages.{message_of}
use Rattle.il_device.specs.declared.roles.Roles.{Roles}
use Rattle.il_device.specs.declared.interface.OwnFrame.{OwnFrame}
use Rattle.il_device.specs.Roles.{roles_after, own_after, is_own}
use Rattle.il_device.specs.State.{DeviceState}
use Rattle.il_device.specs.Passing.{is_plain}
use Rattle.il_ports.specs.Media.{MediumView}
use Rattle.il_frames.specs.NamedFrames.{unl, tad, ddt, rfc}
use Rattle.loop_model.specs.Exchanges.{returned, commanded, numbered, receive_front}
use Rattle.loop_model.proofs.RoundLaws.{message_of-tad}
use Rattle.il_ring.specs.declared.plan.Arrival.{Arrival}
use Rattle.il_ring.specs.declared.flight.Flight.{Flight}
use Rattle.il_ring.specs.Flights.{sourced}
use Rattle.il_ring.specs.Lists.{Each, First}
use Rattle.il_ring.specs.Outcomes.{Obeys}
use Rattle.il_ring.specs.Rings.{RingView, IsRing, Round, devices_of}
use Rattle.il_ring.proofs.EndsHome.{any_each}
use Rattle.il_ring.proofs.PassKinds.{Is, Any, plain_passes}
use Rattle.il_ring.proofs.PassRounds.{passed_round}
use Rattle.il_control.specs.Calls.{IsFree, Obeyed, ObeyedInPart, Whole, Broke, arrives}
use Rattle.il_control.specs.Receives.{Asked, IsCalm, IsDeaf}
use Rattle.il_control.proofs.Calls.{Done, hears_then, told_then, broke_before}

-- a frame that came back was obeyed by every device
pub plain_obeyed : {M : Type 0} (view : M → MediumView) (r s : RingView M) (held : Option Flight) (f : Frame) (answer : Arrival) → Round view r held (sourced 0 f) answer s → IsFree r → is_plain (message_of f) ≡ true → arrives answer ≡ true → Obeyed (message_of f) r s
plain_obeyed view r s held f answer round free plain came =
    let passed = passed_round view (Is f) Any (Obeys (message_of f)) (plain_passes f plain) r s held f answer free.ring.crossings (any_each 1 (devices_of r)) refl round in
    ⊎_elim
    (λ back. subst (λ n. First (Obeys (message_of f)) n (devices_of r) (devices_of s)) back.2 passed.took)
    (λ lost. let clash = sym came ∙ ap arrives lost.answer_is in cc)
    passed.end

-- and one that was lost by the first
pub plain_part : {M : Type 0} (view : M → MediumView) (r s : RingView M) (held : Option Flight) (f : Frame) (answer : Arrival) → Round view r held (sourced 0 f) answer s → IsFree r → is_plain (message_of f) ≡ true → ObeyedInPart (message_of f) r s
plain_part view r s held f answer round free plain =
    let passed = passed_round view (Is f) Any (Obeys (message_of f)) (plain_passes f plain) r s held f answer free.ring.crossings (any_each 1 (devices_of r)) refl round in
    (passed.reached, passed.took)

-- ---- one message after another

rfc_then : (m : Message) (c d e : DeviceState) → Obeys m c d → Obeys msg.Rfc d e → Obeys m c e
rfc_then m c d e first more = record {
  nothing = hears_then c d e first.nothing more.nothing;
  roles = more.roles ∙ first.roles;
  own = more.own ∙ first.own;
  assignment = more.assignment ∙ first.assignment;
  wants = λ stays. more.wants refl ∙ first.wants stays;
}

all_then : (m : Message) (cs ds es : List DeviceState) → First (Obeys m) (length cs) cs ds → First (Obeys msg.Rfc) (length ds) ds es → First (Obeys m) (length cs) cs es
all_then m [] [] [] first more = tt
all_then m (c ∷ cs) (d ∷ ds) (e ∷ es) first more = (rfc_then m c d e first.0 more.0, all_then m cs ds es first.1 more.1)
all_then m [] [] (e ∷ es) first more = absurd more
all_then m [] (d ∷ ds) es first more = absurd first
all_then m (c ∷ cs) [] es first more = absurd first
all_then m (c ∷ cs) (d ∷ ds) [] first more = absurd more

part_then : (m : Message) (j : ℕ) (cs ds es : List DeviceState) → First (Obeys m) (length cs) cs ds → First (Obeys msg.Rfc) j ds es → First (Obeys m) (length cs) cs es
part_then m j [] [] [] first more = tt
part_then m zero (c ∷ cs) (d ∷ ds) (e ∷ es) first more = (subst (Obeys m c) (sym more.0) first.0, part_then m zero cs ds es first.1 more.1)
part_then m (suc j) (c ∷ cs) (d ∷ ds) (e ∷ es) first more = (rfc_then m c d e first.0 more.0, part_then m j cs ds es first.1 more.1)
part_then m j [] [] (e ∷ es) first more = absurd more
part_then m j [] (d ∷ ds) es first more = absurd first
part_then m j (c ∷ cs) [] es first more = absurd first
part_then m j (c ∷ cs) (d ∷ ds) [] first more = absurd more

pub part_then_rfc : {M : Type 0} (view : M → MediumView) (message : Message) (r m s : RingView M) (f : Frame) (xs : List Entry) (whole : Bool) → Whole view r xs m → Done view m (returned 0 f ∷ []) whole s → f ≡ rfc → Obeyed message r m → ObeyedInPart (message_of f) m s → ObeyedInPart message r s
part_then_rfc view message r m s f xs whole before after is first more =
    (length (devices_of r), part_then message more.0 (devices_of r) (devices_of m) (devices_of s) first (subst (λ f. First (Obeys (message_of f)) more.0 (devices_of m) (devices_of s)) is more.1))

pub obeyed_then_rfc : {M : Type 0} (view : M → MediumView) (message : Message) (r m s : RingView M) (f : Frame) (xs : List Entry) (whole : Bool) → Whole view r xs m → Done view m (returned 0 f ∷ []) whole s → f ≡ rfc → Obeyed message r m → Obeyed (message_of f) m s → Obeyed message r s
obeyed_then_rfc view message r m s f xs whole before after is first more = all_then message (devices_of r) (devices_of m) (devices_of s) first (subst (λ f. First (Obeys (message_of f)) (length (devices_of m)) (devices_of m) (devices_of s)) is more)

-- ---- each device

pub each_obeys : (R : DeviceState → DeviceState → Type 0) (P Q : ℕ → DeviceState → Type 0) → ((k : ℕ) (d e : DeviceState) → R d e → P k d → Q k e) → (k : ℕ) (ds es : List DeviceState) → First R (length ds) ds es → Each P k ds → Each Q k es
each_obeys R P Q rule k [] [] took each = tt
each_obeys R P Q rule k (d ∷ ds) (e ∷ es) took each = (rule k d e took.0 each.0, each_obeys R P Q rule (k + 1) ds es took.1 each.1)
each_obeys R P Q rule k [] (e ∷ es) took each = absurd took
each_obeys R P Q rule k (d ∷ ds) [] took each = absurd took

-- after UNL no device listens
pub deaf_after : {M : Type 0} (r s : RingView M) (f : Frame) → f ≡ unl → Obeyed (message_of f) r s → Each IsDeaf 1 (devices_of s)
deaf_after r s f is obeyed =
    each_obeys (Obeys msg.Unl) Any IsDeaf (λ k d e obeys any. ap (λ (roles : Roles). roles.listens) obeys.roles) 1 (devices_of r) (devices_of s)
    (subst (λ f. First (Obeys (message_of f)) (length (devices_of r)) (devices_of r) (devices_of s)) is obeyed) (any_each 1 (devices_of r))

listens_chosen : (b : Bool) (roles : Roles) → roles.listens ≡ false → (if b then record roles { talks = true; listens = false } else record roles { talks = false }).listens ≡ false
listens_chosen true roles deaf = refl
listens_chosen false roles deaf = deaf

-- after a talk address none has a frame of its own on the loop
pub calm_after : {M : Type 0} (r s : RingView M) (f : Frame) (a : ℕ) → f ≡ tad a → a ≤ 30 → Obeyed (message_of f) r s → Each IsDeaf 1 (devices_of r) → Each IsCalm 1 (devices_of s)
calm_after r s f a is low obeyed deaf =
    each_obeys (Obeys (msg.Tad a)) IsDeaf IsCalm (λ k d e obeys deaf. (ap (λ (roles : Roles). roles.listens) obeys.roles ∙ listens_chosen (is_own d.roles.address a) d.roles deaf, obeys.own)) 1 (devices_of r) (devices_of s)
    (subst (λ m. First (Obeys m) (length (devices_of r)) (devices_of r) (devices_of s)) (ap message_of is ∙ message_of-tad a (le-leb a 30 low)) obeyed) deaf

-- the messages that ask nothing of roles and own frames
abbrev is_talker_command : Message → Bool
is_talker_command (msg.Ddt n) = true
is_talker_command _ = false

calm_by : (m : Message) (roles : Roles) (own : Option OwnFrame) → is_talker_command m ≡ true → (roles_after roles m ≡ roles) × (own_after roles own m ≡ own)
calm_by (msg.Ddt n) roles own is = (refl, refl)
calm_by _ roles own is = cc

pub calm_still : {M : Type 0} (r s : RingView M) (f : Frame) (n : ℕ) → f ≡ ddt n → n < 32 → Obeyed (message_of f) r s → Each IsCalm 1 (devices_of r) → Each IsCalm 1 (devices_of s)
calm_still r s f n is small obeyed calm =
    let m : Message = message_of (ddt n) in
    let told : is_talker_command m ≡ true = agree_below_at (λ n. is_talker_command (message_of (ddt n))) (λ n. true) 32 n refl small in
    each_obeys (Obeys m) IsCalm IsCalm
    (λ k d e obeys calm. let kept = calm_by m d.roles d.own told in (ap (λ (roles : Roles). roles.listens) (obeys.roles ∙ kept.0) ∙ calm.0, obeys.own ∙ kept.1 ∙ calm.1)) 1 (devices_of r) (devices_of s)
    (subst (λ f. First (Obeys (message_of f)) (length (devices_of r)) (devices_of r) (devices_of s)) is obeyed) calm

-- ---- as calls

-- the talk address whole, and what was done after it
pub asked_done : {M : Type 0} (view : M → MediumView) (r m s : RingView M) (f : Frame) (a : ℕ) (number : Option ℕ) (whole : Bool) → IsRing r → f ≡ unl → Whole view r (commanded 0 f) m → Obeyed (message_of f) r m → Done view m (commanded 0 (tad a) ++ numbered 0 ddt number) whole s
    → (whole ≡ true → Each IsDeaf 1 (devices_of m) → Each IsCalm 1 (devices_of s)) → MatchBool whole (Asked view a number r s) (Broke view r (receive_front 0 a number) s)
asked_done view r m s f a number true ring is first obeyed more calm = record { whole = told_then view r m s f unl (commanded 0 (tad a) ++ numbered 0 ddt number) true ring is first more; calm = calm refl (deaf_after r m f is obeyed) }
asked_done view r m s f a number false ring is first obeyed more calm = told_then view r m s f unl (commanded 0 (tad a) ++ numbered 0 ddt number) false ring is first more

pub not_asked : {M : Type 0} (view : M → MediumView) (r s : RingView M) (f : Frame) (a : ℕ) (number : Option ℕ) (whole : Bool) → f ≡ unl → whole ≡ false → Broke view r (commanded 0 f) s → MatchBool whole (Asked view a number r s) (Broke view r (receive_front 0 a number) s)
not_asked view r s f a number whole is not broke =
    subst (λ whole. MatchBool whole (Asked view a number r s) (Broke view r (receive_front 0 a number) s)) (sym not)
    (broke_before view r s (commanded 0 unl) (commanded 0 (tad a) ++ numbered 0 ddt number) (subst (λ f. Broke view r (commanded 0 f) s) is broke))

pub talk_calm : {M : Type 0} (view : M → MediumView) (r m s : RingView M) (f : Frame) (a : ℕ) (number : Option ℕ) (whole : Bool) → Whole view r (commanded 0 f) m → Done view m (numbered 0 ddt number) whole s → f ≡ tad a → a ≤ 30 → Obeyed (message_of f) r m
    → (whole ≡ true → Each IsCalm 1 (devices_of m) → Each IsCalm 1 (devices_of s)) → whole ≡ true → Each IsDeaf 1 (devices_of r) → Each IsCalm 1 (devices_of s)
talk_calm view r m s f a number whole first more is low obeyed calm done deaf = calm done (calm_after r m f a is low obeyed deaf)

pub number_calm : {M : Type 0} (view : M → MediumView) (r s : RingView M) (f : Frame) (n : ℕ) (number : Option ℕ) (whole : Bool) → Done view r (commanded 0 f) whole s → f ≡ ddt n → number ≡ Some n → IfSome number (λ n. n < 32) → (whole ≡ true → Obeyed (message_of f) r s)
    → whole ≡ true → Each IsCalm 1 (devices_of r) → Each IsCalm 1 (devices_of s)
number_calm view r s f n number whole done is some small obeyed whole_is calm = calm_still r s f n is (subst (λ number. IfSome number (λ n. n < 32)) some small) (obeyed whole_is) calm
