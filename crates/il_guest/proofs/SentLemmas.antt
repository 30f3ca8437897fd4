-- What the frames that a second controller sends in its rounds do to its own device part: to its roles
-- alone, and of them not to its address.
use Rattle.std.proofs.Common.{◌≡◌, ℕ, ◌≤◌, ◌==◌, Bool, true, false, if◌then◌else◌, Option, None, refl, ap, arith}
use Rattle.std.proofs.lemmas.Bool.{agree_below_at, eqb-true}
use Rattle.il_frames.specs.declared.message.Message.{Message}
use Rattle.il_frames.specs.declared.message.Message.TheVariants as msg
use Rattle.il_frames.specs.Messages.{message_of}
use Rattle.il_poll.specs.declared.service.Assignment.{Assignment}
use Rattle.il_device.specs.declared.roles.Roles.{Roles}
use Rattle.il_device.specs.Roles.{is_own, roles_after, own_after, assignment_after}
use Rattle.il_device.specs.Takes.{turn_at, turn_at_start, count_after}
use Rattle.il_device.specs.declared.interface.Turn.TheVariants as turn
use Rattle.il_guest.specs.declared.control.Command.{Command}
use Rattle.il_guest.specs.declared.control.Command.TheVariants as command
use Rattle.il_guest.specs.declared.control.Place.{Place}
use Rattle.il_guest.specs.declared.control.Place.TheVariants as place
use Rattle.il_frames.specs.NamedFrames.{tad}
use Rattle.il_guest.specs.Steps.{command_frame, sent_at, IsAsked, IsRoundPlace}

-- ---- the messages

abbrev is_tad : ℕ → Message → Bool
is_tad a (msg.Tad b) = b == a
is_tad a m = false

is_tad-true : (a : ℕ) (m : Message) → is_tad a m ≡ true → m ≡ msg.Tad a
is_tad-true a (msg.Tad b) e = ap msg.Tad (eqb-true b a e)
is_tad-true a m e = cc

-- a talk address says its number
pub message_of-tad : (a : ℕ) → a ≤ 30 → message_of (tad a) ≡ msg.Tad a
message_of-tad a low = is_tad-true a (message_of (tad a)) (agree_below_at (λ b. is_tad b (message_of (tad b))) (λ b. true) 31 a refl (omega arith))

-- the message of a command
abbrev pub command_says : Command → Message
command_says command.Nop = msg.Nop
command_says (command.Unl a) = msg.Unl
command_says (command.Tad a) = msg.Tad a
command_says (command.Unt a) = msg.Unt

-- the message of its own frame that it sent last
abbrev pub said_at : Place → Message
said_at (place.Command c) = command_says c
said_at (place.Ready c) = msg.Rfc
said_at (place.Start a) = msg.Sst
said_at (place.Held a d) = msg.Nrd
said_at (place.Relayed a d) = msg.Nrd

pub message_of-command : (c : Command) → IsAsked c → message_of (command_frame c) ≡ command_says c
message_of-command command.Nop asked = refl
message_of-command (command.Unl a) asked = refl
message_of-command (command.Tad a) asked = message_of-tad a asked.1
message_of-command (command.Unt a) asked = refl

pub message_of-sent : (p : Place) → IsRoundPlace p → message_of (sent_at p) ≡ said_at p
message_of-sent (place.Command c) at = message_of-command c at
message_of-sent (place.Ready c) at = refl
message_of-sent (place.Start a) at = refl
message_of-sent (place.Held a d) at = refl
message_of-sent (place.Relayed a d) at = refl

-- ---- their effect

either : {A B : Type 0} (f : A → B) (b : Bool) (x y : A) (z : B) → f x ≡ z → f y ≡ z → f (if b then x else y) ≡ z
either f true x y z h k = h
either f false x y z h k = k

-- they leave the address
pub address-said : (r : Roles) (p : Place) → (roles_after r (said_at p)).address ≡ r.address
address-said r (place.Command command.Nop) = refl
address-said r (place.Command (command.Unl a)) = refl
address-said r (place.Command (command.Tad a)) = either (λ (x : Roles). x.address) (is_own r.address a) (record r { talks = true; listens = false }) (record r { talks = false }) r.address refl refl
address-said r (place.Command (command.Unt a)) = refl
address-said r (place.Ready c) = refl
address-said r (place.Start a) = refl
address-said r (place.Held a d) = refl
address-said r (place.Relayed a d) = refl

-- no frame of its own comes to be on the loop
pub own-said : (r : Roles) (p : Place) → own_after r None (said_at p) ≡ None
own-said r (place.Command command.Nop) = refl
own-said r (place.Command (command.Unl a)) = refl
own-said r (place.Command (command.Tad a)) = refl
own-said r (place.Command (command.Unt a)) = refl
own-said r (place.Ready c) = refl
own-said r (place.Start a) = refl
own-said r (place.Held a d) = refl
own-said r (place.Relayed a d) = refl

-- the place in a poll stays
pub assignment-said : (r : Roles) (o : Option Assignment) (p : Place) → assignment_after r o (said_at p) ≡ o
assignment-said r o (place.Command command.Nop) = refl
assignment-said r o (place.Command (command.Unl a)) = refl
assignment-said r o (place.Command (command.Tad a)) = refl
assignment-said r o (place.Command (command.Unt a)) = refl
assignment-said r o (place.Ready c) = refl
assignment-said r o (place.Start a) = refl
assignment-said r o (place.Held a d) = refl
assignment-said r o (place.Relayed a d) = refl

started : (talks : Bool) (n : ℕ) → count_after (turn_at_start None talks turn.Begin) n ≡ n
started true n = refl
started false n = refl

-- no byte is heard
pub count-said : (r : Roles) (p : Place) (n : ℕ) → count_after (turn_at r None None (said_at p)) n ≡ n
count-said r (place.Command command.Nop) n = refl
count-said r (place.Command (command.Unl a)) n = refl
count-said r (place.Command (command.Tad a)) n = refl
count-said r (place.Command (command.Unt a)) n = refl
count-said r (place.Ready c) n = refl
count-said r (place.Start a) n = started r.talks n
count-said r (place.Held a d) n = refl
count-said r (place.Relayed a d) n = refl
