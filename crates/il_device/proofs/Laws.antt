-- Laws of the definitions, for those who see a device by its state alone.
use Rattle.std.proofs.Common.{◌≡◌, ℕ, zero, suc, ◌+◌, ◌<◌, ◌≤◌, ◌==◌, Bool, true, false, Option, Some, None, List, [], ◌∷◌, ◌++◌, length, take, refl, arith, sym, ◌∙◌, ap, subst, eqb-true, append_assoc, append-nil, length-append}
use Rattle.std.specs.Prelude.{if◌then◌else◌, nat_lt, min}
use Rattle.std.proofs.lemmas.List.{take_all, take-append-le}
use Rattle.std.proofs.lemmas.Bool.Decides.{nat_tests}
use Rattle.il_frames.specs.declared.frame.Class.{Class}
use Rattle.il_frames.specs.declared.frame.Class.TheVariants as class
use Rattle.il_frames.specs.declared.frame.Frame.{Frame}
use Rattle.il_frames.specs.declared.message.Message.{Message}
use Rattle.il_frames.specs.declared.message.Message.TheVariants as msg
use Rattle.il_frames.specs.Frames.{class_of, byte_of, framed, is_data, is_data_class}
use Rattle.il_frames.specs.Messages.{message_at, message_of}
use Rattle.il_frames.proofs.ReadBack.{all_below, all_below-at}
use Rattle.il_poll.specs.declared.service.Assignment.{Assignment}
use Rattle.il_device.specs.declared.device.Out.{Out}
use Rattle.il_device.specs.declared.device.Out.TheVariants.{Pass}
use Rattle.il_device.specs.declared.interface.OwnFrame.{OwnFrame}
use Rattle.il_device.specs.declared.interface.Turn.{Turn}
use Rattle.il_device.specs.declared.interface.Turn.TheVariants as turn
use Rattle.il_device.specs.declared.roles.Roles.{Roles}
use Rattle.il_device.specs.Roles.{roles_after, own_after, assignment_after, is_start}
use Rattle.il_device.specs.State.{DeviceState, IsDevice, IsSent, risen, risen_by}
use Rattle.il_device.specs.Passing.{served, counted_on, passed_as, passed, is_plain}
use Rattle.il_device.specs.Takes.{Takes, Answers, Passes, turn_at, turn_at_data, turn_of, kept, heard_after, count_after, kept_all}

-- Data and end frames, and start messages, leave the roles, the own frame and the place in a poll.

data_roles : (r : Roles) (k : Class) (b : ℕ) → is_data_class k ≡ true →
    roles_after r (message_at k b) ≡ r
data_roles r class.Dab b h = refl
data_roles r class.Dsr b h = refl
data_roles r class.End b h = refl
data_roles r class.Esr b h = refl
data_roles r _ b h = cc

pub roles_after-data : (r : Roles) (f : Frame) → is_data f ≡ true → roles_after r (message_of f) ≡ r
roles_after-data r f h = data_roles r (class_of f) (byte_of f) h

data_own : (r : Roles) (own : Option OwnFrame) (k : Class) (b : ℕ) → is_data_class k ≡ true →
    own_after r own (message_at k b) ≡ own
data_own r own class.Dab b h = refl
data_own r own class.Dsr b h = refl
data_own r own class.End b h = refl
data_own r own class.Esr b h = refl
data_own r own _ b h = cc

pub own_after-data : (r : Roles) (own : Option OwnFrame) (f : Frame) → is_data f ≡ true →
    own_after r own (message_of f) ≡ own
own_after-data r own f h = data_own r own (class_of f) (byte_of f) h

data_place : (r : Roles) (place : Option Assignment) (k : Class) (b : ℕ) →
    is_data_class k ≡ true → assignment_after r place (message_at k b) ≡ place
data_place r place class.Dab b h = refl
data_place r place class.Dsr b h = refl
data_place r place class.End b h = refl
data_place r place class.Esr b h = refl
data_place r place _ b h = cc

pub assignment_after-data : (r : Roles) (place : Option Assignment) (f : Frame) →
    is_data f ≡ true → assignment_after r place (message_of f) ≡ place
assignment_after-data r place f h = data_place r place (class_of f) (byte_of f) h

pub roles_after-start : (r : Roles) (m : Message) → is_start m ≡ true → roles_after r m ≡ r
roles_after-start r msg.Sda h = refl
roles_after-start r msg.Sst h = refl
roles_after-start r msg.Sdi h = refl
roles_after-start r msg.Sai h = refl
roles_after-start r _ h = cc

-- The messages that change a role or an address.

abbrev pub changes_roles : Message → Bool
changes_roles m = elim m [
  | msg.Ifc ↦ true
  | msg.Aau ↦ true
  | msg.Aad a ↦ true
  | msg.Tad a ↦ true
  | msg.Unt ↦ true
  | msg.Lad a ↦ true
  | msg.Unl ↦ true
  | _ ↦ false
]

pub roles_after-other : (r : Roles) (m : Message) → changes_roles m ≡ false → roles_after r m ≡ r
roles_after-other r msg.Ifc h = cc
roles_after-other r msg.Aau h = cc
roles_after-other r (msg.Aad a) h = cc
roles_after-other r (msg.Tad a) h = cc
roles_after-other r msg.Unt h = cc
roles_after-other r (msg.Lad a) h = cc
roles_after-other r msg.Unl h = cc
roles_after-other r _ h = refl

-- The number of AAD rises by one at each device that takes it.

abbrev is_aad : ℕ → Message → Bool
is_aad n m = elim m [ msg.Aad a ↦ a == n | _ ↦ false ]

is_aad-true : (n : ℕ) (m : Message) → is_aad n m ≡ true → m ≡ msg.Aad n
is_aad-true n (msg.Aad a) h = ap msg.Aad (eqb-true a n h)
is_aad-true n _ h = cc

all_aad : all_below (λ n. is_aad n (message_at class.Rdy (0x80 + n))) 31 ≡ true
unfolding all_below
all_aad = refl

pub message_of-aad : (n : ℕ) → n ≤ 30 → message_of (framed class.Rdy (0x80 + n)) ≡ msg.Aad n
message_of-aad n h =
    is_aad-true n (message_at class.Rdy (0x80 + n)) (all_below-at (λ k. is_aad k (message_at class.Rdy (0x80 + k))) 31 n all_aad (omega arith))

-- after a device that takes the address a below 30 goes AAD a + 1
pub message_of-counted_on : (a : ℕ) (f : Frame) → a < 30 →
    message_of (counted_on true a f) ≡ msg.Aad (a + 1)
message_of-counted_on a f h = message_of-aad (a + 1) (omega arith)

pub turn_at-plain : (r : Roles) (own : Option OwnFrame) (accessory : Option ℕ) (m : Message) →
    is_plain m ≡ true → turn_at r own accessory m ≡ turn.Pass
turn_at-plain r own accessory (msg.Dab b) h = cc
turn_at-plain r own accessory (msg.Dsr b) h = cc
turn_at-plain r own accessory (msg.End b) h = cc
turn_at-plain r own accessory (msg.Esr b) h = cc
turn_at-plain r own accessory msg.Sda h = cc
turn_at-plain r own accessory msg.Sst h = cc
turn_at-plain r own accessory msg.Sdi h = cc
turn_at-plain r own accessory msg.Sai h = cc
turn_at-plain r own accessory _ h = refl

pub passed_as-plain : (r : Roles) (place : Option Assignment) (wants : Bool) (f : Frame) (m : Message) →
    is_plain m ≡ true → passed_as r place wants f m ≡ f
passed_as-plain r place wants f (msg.Dab b) h = cc
passed_as-plain r place wants f (msg.Dsr b) h = cc
passed_as-plain r place wants f (msg.End b) h = cc
passed_as-plain r place wants f (msg.Esr b) h = cc
passed_as-plain r place wants f (msg.Idy b) h = cc
passed_as-plain r place wants f (msg.Isr b) h = cc
passed_as-plain r place wants f (msg.Aad a) h = cc
passed_as-plain r place wants f _ h = refl

-- the device passes this frame on, hears nothing, and has the own frame that the message left
pub record Passed (s : DeviceState) (f on : Frame) (out : Out) (t : DeviceState) : Type 0 where
  pub answer : out ≡ Pass on
  pub own : t.own ≡ own_after s.roles s.own (message_of f)
  pub heard : t.heard ≡ s.heard
  pub heard_count : t.heard_count ≡ s.heard_count

Answers-known : (asked known : Turn) (s : DeviceState) (f : Frame) (out : Out) (t : DeviceState) →
    asked ≡ known → Answers asked s f out t → Answers known s f out t
Answers-known asked known s f out t e h = subst (λ (u : Turn). Answers u s f out t) e h

Passed-asked : (s : DeviceState) (f : Frame) (out : Out) (t : DeviceState) →
    turn_of s f ≡ turn.Pass → Takes s f out t →
    Passed s f (passed s.roles t.assignment t.wants f) out t
Passed-asked s f out t e h =
    let passes : Passes s f out t = Answers-known (turn_of s f) turn.Pass s f out t e h.answer in
    record {
      answer = passes.answer;
      own = passes.still_own;
      heard = h.heard ∙ ap (λ (u : Turn). heard_after u s.room s.heard (byte_of f)) e;
      heard_count = h.heard_count ∙ ap (λ (u : Turn). count_after u s.heard_count) e;
    }

-- a plain frame passes every device unchanged
pub Takes-plain : (s : DeviceState) (f : Frame) (out : Out) (t : DeviceState) →
    is_plain (message_of f) ≡ true → Takes s f out t → Passed s f f out t
Takes-plain s f out t plain h =
    let known = Passed-asked s f out t (turn_at-plain s.roles s.own s.accessory (message_of f) plain) h in
    record {
      answer = known.answer ∙ ap (λ (x : Frame). Pass x) (passed_as-plain s.roles t.assignment t.wants f (message_of f) plain);
      own = known.own;
      heard = known.heard;
      heard_count = known.heard_count;
    }

-- Devices that do not talk.

unsent : (own : Option OwnFrame) (talks : Bool) → IsSent own talks → talks ≡ false → own ≡ None
unsent None talks h e = refl
unsent (Some own) talks h e = let clash : true ≡ false = sym h.0 ∙ e in cc

-- only the talker has a frame of its own on the loop
pub own-silent : (s : DeviceState) → IsDevice s → s.roles.talks ≡ false → s.own ≡ None
own-silent s h e = unsent s.own s.roles.talks h.standing.sender e

data_turn : (r : Roles) (own : Option OwnFrame) (accessory : Option ℕ) (k : Class) (b : ℕ) →
    is_data_class k ≡ true →
    turn_at r own accessory (message_at k b) ≡ turn_at_data own r.listens
data_turn r own accessory class.Dab b h = refl
data_turn r own accessory class.Dsr b h = refl
data_turn r own accessory class.End b h = refl
data_turn r own accessory class.Esr b h = refl
data_turn r own accessory _ b h = cc

pub turn_of-data : (s : DeviceState) (f : Frame) → is_data f ≡ true →
    turn_of s f ≡ turn_at_data s.own s.roles.listens
turn_of-data s f h = data_turn s.roles s.own s.accessory (class_of f) (byte_of f) h

data_passed : (r : Roles) (place : Option Assignment) (wants : Bool) (f : Frame) (k : Class) (b : ℕ) →
    is_data_class k ≡ true → passed_as r place wants f (message_at k b) ≡ served wants f
data_passed r place wants f class.Dab b h = refl
data_passed r place wants f class.Dsr b h = refl
data_passed r place wants f class.End b h = refl
data_passed r place wants f class.Esr b h = refl
data_passed r place wants f _ b h = cc

pub passed-data : (r : Roles) (place : Option Assignment) (wants : Bool) (f : Frame) →
    is_data f ≡ true → passed r place wants f ≡ served wants f
passed-data r place wants f h = data_passed r place wants f (class_of f) (byte_of f) h

-- a device hears a data or end frame, or lets it pass
pub record Hears (listens : Bool) (s : DeviceState) (f : Frame) (out : Out) (t : DeviceState) : Type 0 where
  pub answer : out ≡ Pass (served t.wants f)
  pub roles : t.roles ≡ s.roles
  pub own : t.own ≡ None
  pub heard : t.heard ≡ (if listens then kept s.room s.heard (byte_of f) else s.heard)
  pub heard_count : t.heard_count ≡ (if listens then risen s.heard_count else s.heard_count)

hears_by : (listens : Bool) (s : DeviceState) (f : Frame) (out : Out) (t : DeviceState) →
    is_data f ≡ true → s.own ≡ None → turn_of s f ≡ turn_at_data None listens → Takes s f out t →
    Hears listens s f out t
hears_by true s f out t d o e h =
    let passes : Passes s f out t = Answers-known (turn_of s f) turn.Hear s f out t e h.answer in
    record {
      answer = passes.answer ∙ ap (λ (x : Frame). Pass x) (passed-data s.roles t.assignment t.wants f d);
      roles = h.roles ∙ roles_after-data s.roles f d;
      own = passes.still_own ∙ own_after-data s.roles s.own f d ∙ o;
      heard = h.heard ∙ ap (λ (u : Turn). heard_after u s.room s.heard (byte_of f)) e;
      heard_count = h.heard_count ∙ ap (λ (u : Turn). count_after u s.heard_count) e;
    }
hears_by false s f out t d o e h =
    let passes : Passes s f out t = Answers-known (turn_of s f) turn.Pass s f out t e h.answer in
    record {
      answer = passes.answer ∙ ap (λ (x : Frame). Pass x) (passed-data s.roles t.assignment t.wants f d);
      roles = h.roles ∙ roles_after-data s.roles f d;
      own = passes.still_own ∙ own_after-data s.roles s.own f d ∙ o;
      heard = h.heard ∙ ap (λ (u : Turn). heard_after u s.room s.heard (byte_of f)) e;
      heard_count = h.heard_count ∙ ap (λ (u : Turn). count_after u s.heard_count) e;
    }

-- a data or end frame of another passes every device that does not talk, and each listener hears it
pub Takes-data : (s : DeviceState) (f : Frame) (out : Out) (t : DeviceState) → is_data f ≡ true →
    s.roles.talks ≡ false → Takes s f out t → Hears s.roles.listens s f out t
Takes-data s f out t d silent h =
    let none : s.own ≡ None = own-silent s h.before silent in
    hears_by s.roles.listens s f out t d none (turn_of-data s f d ∙ ap (λ (o : Option OwnFrame). turn_at_data o s.roles.listens) none) h

-- Many bytes and many frames.

kept_step : (more : Bool) (room : ℕ) (heard : List ℕ) (b : ℕ) (bs : List ℕ) →
    more ≡ nat_lt (length heard) room → length heard ≤ room →
    (length (if more then heard ++ b ∷ [] else heard) ≤ room) × (take room ((if more then heard ++ b ∷ [] else heard) ++ bs) ≡ take room (heard ++ b ∷ bs))
kept_step true room heard b bs h le = (rw length-append (grind (arith, nat_tests)), ap (take room) (append_assoc heard (b ∷ []) bs))
kept_step false room heard b bs h le =
    let full : room ≤ length heard = grind (arith, nat_tests) in
    (le, take-append-le room heard bs full ∙ sym (take-append-le room heard (b ∷ bs) full))

-- they are the first that there is room for
pub kept_all-take : (room : ℕ) (heard bs : List ℕ) → length heard ≤ room →
    kept_all room heard bs ≡ take room (heard ++ bs)
kept_all-take room heard [] le = sym (take_all room (heard ++ []) (omega (arith, length-append heard [])) ∙ append-nil heard)
kept_all-take room heard (b ∷ bs) le =
    let step = kept_step (nat_lt (length heard) room) room heard b bs refl le in
    kept_all-take room (kept room heard b) bs step.0 ∙ step.1

pub risen_by-min : (k n : ℕ) → n ≤ 18446744073709551615 →
    risen_by k n ≡ min (n + k) 18446744073709551615
risen_by-min zero n le = omega arith
risen_by-min (suc k) n le = risen_by-min k (risen n) (omega arith) ∙ omega arith
