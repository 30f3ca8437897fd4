-- The paper of a device stays short, whatever it hears.
use Rattle.std.proofs.Common.{◌≡◌, ⊎_elim, subst, ◌≤◌, ◌+◌, ◌++◌, ◌<◌, ℕ, Bool, true, false, nat_lt, List, [], ◌∷◌, length, refl, ap, arith, length-append}
use Rattle.std.specs.Prelude.{if◌then◌else◌}
use Rattle.std.specs.List.{All}
use Rattle.std.proofs.lemmas.Bool.Decides.{nat_tests}
use Rattle.std.proofs.lemmas.List.Elements.{All-append, All-cons, All-head, All-tail}
use Rattle.il_device.specs.State.{DeviceState}
use Rattle.il_device.specs.Takes.{kept, kept_all}
use Rattle.il_frames.specs.declared.entry.Entry.{Entry}
use Rattle.il_device.specs.declared.roles.Roles.{Roles}
use Rattle.loop_model.specs.Hearing.{heard_by}
use Rattle.loop_model.specs.Devices.{EachBecomes}
use Rattle.host_model.specs.LoopStates.{LoopState, boxed}
use Rattle.host_model.specs.Requests.{Asks, Lend}
use Rattle.host_model.specs.Next.{BoxedBecome, DeviceBehind}
use Rattle.host_model.specs.Steps.{Acts, Event, HearsLog}
use Rattle.host_model.proofs.Steps.{is_lend_or}
use Rattle.il_ring.specs.Outcomes.{HearsNothing}
use Rattle.il_ring.specs.declared.plan.Planned.{Planned}
use Rattle.il_script.specs.declared.reply.Reply.{Reply}
use Rattle.il_host.specs.Shorts.{AllShort, IsShort}

one_kept : (room : ℕ) (heard : List ℕ) (byte : ℕ) (b : Bool) → nat_lt (length heard) room ≡ b → length heard ≤ room → length (if b then heard ++ byte ∷ [] else heard) ≤ room
one_kept room heard byte true is short = let long = length-append heard (byte ∷ []) in let less = below (length heard) room is in omega (arith, long, less)
  where
    below : (n m : ℕ) → nat_lt n m ≡ true → n < m
    below n m is = grind (arith, nat_tests)
one_kept room heard byte false is short = short

all_kept : (room : ℕ) (heard bytes : List ℕ) → length heard ≤ room → length (kept_all room heard bytes) ≤ room
all_kept room heard [] short = short
all_kept room heard (byte ∷ bytes) short = all_kept room (kept room heard byte) bytes (one_kept room heard byte (nat_lt (length heard) room) refl short)

stays_short : (k : ℕ) (roles : List Roles) (log : List Entry) (whole : Bool) (party : ℕ) (d e : DeviceState) → HearsLog k roles log whole party d e → IsShort d → IsShort e
stays_short k roles log whole party d e hears short =
    let kept_short = all_kept d.room d.heard (heard_by k party roles log ++ hears.more) short.heard in
    let heard = ap length hears.heard.heard in
    let room = hears.heard.room in
    record { heard = omega (arith, heard, room, kept_short); room = omega (arith, room, short.room) }

each_short : (k : ℕ) (roles : List Roles) (log : List Entry) (whole : Bool) (party : ℕ) (ds es : List DeviceState) → EachBecomes (HearsLog k roles log whole) party ds es → All IsShort ds → All IsShort es
each_short k roles log whole party [] [] hears short = short
each_short k roles log whole party (d ∷ ds) (e ∷ es) hears short =
    All-cons IsShort e es (stays_short k roles log whole party d e hears.0 (All-head IsShort d ds short)) (each_short k roles log whole (party + 1) ds es hears.1 (All-tail IsShort d ds short))
each_short k roles log whole party [] (e ∷ es) hears short = absurd hears
each_short k roles log whole party (d ∷ ds) [] hears short = absurd hears

pub all_short : (k : ℕ) (roles : List Roles) (log : List Entry) (whole : Bool) (z y : LoopState) → BoxedBecome (HearsLog k roles log whole) z y → AllShort z → AllShort y
all_short k roles log whole z y hears short = record {
  before = each_short k roles log whole 1 z.before y.before hears.before short.before;
  after = each_short k roles log whole (length z.before + 2) z.after y.after hears.after short.after;
}

-- of a device that heard nothing
nothing_short : (d e : DeviceState) → HearsNothing d e → IsShort d → IsShort e
nothing_short d e nothing short =
    let heard = ap length nothing.heard in
    let room = nothing.room in
    record { heard = omega (arith, heard, room, short.heard); room = omega (arith, room, short.room) }

each_lent : (frames : ℕ) (r : Reply) (z : LoopState) (party : ℕ) (ds es : List DeviceState) → EachBecomes (DeviceBehind (Asks (Lend frames)) r z) party ds es → All IsShort ds → All IsShort es
each_lent frames r z party [] [] became short = short
each_lent frames r z party (d ∷ ds) (e ∷ es) became short =
    All-cons IsShort e es (nothing_short d e became.0.hears (All-head IsShort d ds short)) (each_lent frames r z (party + 1) ds es became.1 (All-tail IsShort d ds short))
each_lent frames r z party [] (e ∷ es) became short = absurd became
each_lent frames r z party (d ∷ ds) [] became short = absurd became

-- after a command
pub short_behind : {plan : List Planned} (e : Event) → Acts plan e → AllShort e.before.loop → AllShort e.after.loop
short_behind e acts short = ⊎_elim lent (λ other. all_short _ _ _ _ e.before.loop e.after.loop (acts.heard other) short) (is_lend_or e.item)
  where
    lent : (frames : ℕ) × (e.item ≡ Asks (Lend frames)) → AllShort e.after.loop
    lent is =
        let became = subst (λ item. BoxedBecome (DeviceBehind item e.reply e.before.loop) e.before.loop e.after.loop) is.1 acts.next.devices in
        record { before = each_lent is.0 e.reply e.before.loop 1 _ _ became.before short.before; after = each_lent is.0 e.reply e.before.loop _ _ _ became.after short.after }

pub boxed_short : (z : LoopState) → AllShort z → All IsShort (boxed z)
boxed_short z short = All-append IsShort z.before z.after short.before short.after
