-- The kinds of frames that every device passes on.
use Rattle.std.proofs.Common.{◌≡◌, ◌≤◌, ◌+◌, ℕ, true, false, None, refl, ap, subst, ◌∙◌, nat_le}
use Rattle.std.proofs.lemmas.Bool.{and_from, le-leb}
use Rattle.il_frames.specs.declared.frame.Frame.{Frame}
use Rattle.il_frames.specs.declared.message.Message.{Message}
use Rattle.il_frames.specs.declared.message.Message.TheVariants as msg
use Rattle.il_frames.specs.Frames.{byte_of, is_data}
use Rattle.il_frames.specs.Messages.{message_of}
use Rattle.il_device.specs.declared.device.Out.{Out}
use Rattle.il_device.specs.declared.device.Out.TheVariants.{Pass}
use Rattle.il_device.specs.declared.interface.Turn.TheVariants as turn
use Rattle.il_device.specs.Passing.{passed, passed_as, counted_on, is_plain}
use Rattle.il_device.specs.Roles.{own_after, assignment_after, takes_address, is_start}
use Rattle.il_device.specs.State.{DeviceState}
use Rattle.il_device.specs.Takes.{Takes, Answers, turn_of, turn_at, turn_at_start, asked_for_id, may_change_service, heard_after, count_after}
use Rattle.il_device.proofs.Laws.{Takes-plain, own-silent, turn_at-plain, message_of-aad}
use Rattle.il_frames.specs.NamedFrames.{aad}
use Rattle.il_ring.specs.Outcomes.{HearsNothing, Obeys}
use Rattle.il_ring.proofs.MessageKinds.{never_data, no_data_of}
use Rattle.il_ring.proofs.Passes.{PassesOn}

-- ---- what asks nothing of a device

-- a frame that is passed, and nothing else
pub obeys : (d e : DeviceState) (f : Frame) (out : Out) → turn_of d f ≡ turn.Pass → Takes d f out e → Obeys (message_of f) d e
obeys d e f out asked takes =
    let passes : Answers turn.Pass d f out e = subst (λ u. Answers u d f out e) asked takes.answer in
    record {
      nothing = record {
        heard = takes.heard ∙ ap (λ u. heard_after u d.room d.heard (byte_of f)) asked;
        heard_count = takes.heard_count ∙ ap (λ u. count_after u d.heard_count) asked;
        room = takes.room;
        accessory = takes.accessory;
      };
      roles = takes.roles;
      own = passes.still_own;
      assignment = takes.assignment;
      wants = takes.wants;
    }

pub goes_as : (d e : DeviceState) (f : Frame) (out : Out) → turn_of d f ≡ turn.Pass → Takes d f out e → out ≡ Pass (passed d.roles e.assignment e.wants f)
goes_as d e f out asked takes = let passes : Answers turn.Pass d f out e = subst (λ u. Answers u d f out e) asked takes.answer in passes.answer

-- the same frame
abbrev pub Is : Frame → ℕ → Frame → Type 0
Is f k g = g ≡ f

-- any device
abbrev pub Any : ℕ → DeviceState → Type 0
Any k d = Unit {0}

-- a device that does not talk
abbrev pub Silent : ℕ → DeviceState → Type 0
Silent k d = d.roles.talks ≡ false

-- devices that each pass a frame on as it is, and no data or end frame
same_passes : (f : Frame) (Fits : ℕ → DeviceState → Type 0) → is_data f ≡ false → ((k : ℕ) (d e : DeviceState) (out : Out) → Fits k d → Takes d f out e → (out ≡ Pass f) × Obeys (message_of f) d e) → PassesOn (Is f) Fits (Obeys (message_of f))
same_passes f Fits other goes = record {
  no_data = λ k g is. ap is_data is ∙ other;
  step = λ k d e g out fits is takes. let went = goes k d e out fits (subst (λ g. Takes d g out e) is takes) in (f, went.0, refl, went.1);
}

-- ---- commands and ready messages

pub plain_no_data : (f : Frame) → is_plain (message_of f) ≡ true → is_data f ≡ false
plain_no_data f plain = no_data_of is_plain (never_data is_plain (λ n. refl) (λ n. refl) (λ n. refl) (λ n. refl)) f plain

-- every device passes them as they are
pub plain_passes : (f : Frame) → is_plain (message_of f) ≡ true → PassesOn (Is f) Any (Obeys (message_of f))
plain_passes f plain = same_passes f Any (plain_no_data f plain) (λ k d e out any taken. ((Takes-plain d f out e plain taken).answer, obeys d e f out (turn_at-plain d.roles d.own d.accessory (message_of f) plain) taken))

-- ---- start messages

start_turn : (d : DeviceState) (m : Message) → is_start m ≡ true → d.own ≡ None → d.roles.talks ≡ false → turn_at d.roles d.own d.accessory m ≡ turn.Pass
start_turn d msg.Sda start own talks = ap (λ own. turn_at_start own d.roles.talks turn.Begin) own ∙ ap (λ talks. turn_at_start None talks turn.Begin) talks
start_turn d msg.Sst start own talks = ap (λ own. turn_at_start own d.roles.talks turn.Begin) own ∙ ap (λ talks. turn_at_start None talks turn.Begin) talks
start_turn d msg.Sdi start own talks = ap (λ own. turn_at_start own d.roles.talks turn.Begin) own ∙ ap (λ talks. turn_at_start None talks turn.Begin) talks
start_turn d msg.Sai start own talks = ap (λ own. turn_at_start own d.roles.talks (asked_for_id d.accessory)) own ∙ ap (λ talks. turn_at_start None talks (asked_for_id d.accessory)) talks
start_turn d _ start own talks = cc

pub start_as : (d e : DeviceState) (f : Frame) (m : Message) → is_start m ≡ true → passed_as d.roles e.assignment e.wants f m ≡ f
start_as d e f msg.Sda start = refl
start_as d e f msg.Sst start = refl
start_as d e f msg.Sdi start = refl
start_as d e f msg.Sai start = refl
start_as d e f _ start = cc

pub start_no_data : (f : Frame) → is_start (message_of f) ≡ true → is_data f ≡ false
start_no_data f start = no_data_of is_start (never_data is_start (λ n. refl) (λ n. refl) (λ n. refl) (λ n. refl)) f start

-- devices that do not talk pass them as they are
pub start_passes : (f : Frame) → is_start (message_of f) ≡ true → PassesOn (Is f) Silent (Obeys (message_of f))
start_passes f start =
    same_passes f Silent (start_no_data f start)
    (λ k d e out silent taken.
    let asked : turn_of d f ≡ turn.Pass = start_turn d (message_of f) start (own-silent d taken.before silent) silent in
    (goes_as d e f out asked taken ∙ ap (λ g. Pass g) (start_as d e f (message_of f) start), obeys d e f out asked taken))

-- ---- AAD, if no device has an address

-- party k is one of thirty, and has no address
abbrev pub Unaddressed : ℕ → DeviceState → Type 0
Unaddressed k d = (1 ≤ k) × (k ≤ 30) × (d.roles.address ≡ None)

-- a device that passes a frame on, and is otherwise as it was but for its roles
abbrev pub OnlyPassed : DeviceState → DeviceState → Type 0
OnlyPassed d e = HearsNothing d e × (e.own ≡ d.own) × (e.assignment ≡ d.assignment) × (e.wants ≡ d.wants)

counted : (k : ℕ) (f : Frame) → 1 ≤ k → k ≤ 30 → counted_on (takes_address None k) k f ≡ aad (k + 1)
counted k f some most = let takes : takes_address None k ≡ true = and_from (nat_le 1 k) (nat_le k 30) (le-leb 1 k some) (le-leb k 30 most) in ap (λ takes. counted_on takes k f) takes

-- each takes the number and counts it up
pub aad_passes : PassesOn (λ k g. g ≡ aad k) Unaddressed OnlyPassed
aad_passes = record {
  no_data = λ k g is. ap is_data is;
  step = λ k d e g out fits is takes.
      let taken : Takes d (aad k) out e = subst (λ g. Takes d g out e) is takes in
      let says : message_of (aad k) ≡ msg.Aad k = message_of-aad k fits.1 in
      let asked : turn_of d (aad k) ≡ turn.Pass = ap (turn_at d.roles d.own d.accessory) says in
      let goes : out ≡ Pass (aad (k + 1)) =
      goes_as d e (aad k) out asked taken
      ∙ ap (λ m. Pass (passed_as d.roles e.assignment e.wants (aad k) m)) says
      ∙ ap (λ address. Pass (counted_on (takes_address address k) k (aad k))) fits.2
      ∙ ap (λ g. Pass g) (counted k (aad k) fits.0 fits.1) in
      let obeyed = obeys d e (aad k) out asked taken in
      (aad (k + 1), goes, refl, (obeyed.nothing, obeyed.own ∙ ap (own_after d.roles d.own) says, obeyed.assignment ∙ ap (assignment_after d.roles d.assignment) says, obeyed.wants (ap may_change_service says)));
}

-- a device that could begin to send, and does not
pub begun_obeys : (d e : DeviceState) (f : Frame) (out : Out) → turn_of d f ≡ turn.Begin → Takes d f out e → e.own ≡ own_after d.roles d.own (message_of f) → Obeys (message_of f) d e
begun_obeys d e f out asked takes own = record {
  nothing = record {
    heard = takes.heard ∙ ap (λ u. heard_after u d.room d.heard (byte_of f)) asked;
    heard_count = takes.heard_count ∙ ap (λ u. count_after u d.heard_count) asked;
    room = takes.room;
    accessory = takes.accessory;
  };
  roles = takes.roles;
  own = own;
  assignment = takes.assignment;
  wants = takes.wants;
}
