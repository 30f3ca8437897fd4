-- Kinds of messages: which frames never carry one, the rows of the tables, and what a second controller's commands and data and end frames say.
use Rattle.std.proofs.Common.{◌≡◌, ◌==◌, ◌&&◌, ◌∙◌, not, ℕ, suc, Bool, true, false, List, [], ◌∷◌, refl, sym}
use Rattle.std.specs.Prelude.{if◌then◌else◌}
use Rattle.il_frames.specs.declared.frame.Class.{Class}
use Rattle.il_frames.specs.declared.frame.Class.TheVariants as class
use Rattle.il_frames.specs.declared.frame.Frame.{Frame}
use Rattle.il_frames.specs.declared.message.Message.{Message}
use Rattle.il_frames.specs.declared.message.Message.TheVariants as msg
use Rattle.il_frames.specs.Frames.{class_of, byte_of, is_data, is_data_class}
use Rattle.il_frames.specs.Messages.{Row, One, Group, commands, message_at, message_in, message_of}
use Rattle.il_device.specs.declared.roles.Roles.{Roles}
use Rattle.il_device.specs.Roles.{takes_address}
use Rattle.loop_model.specs.Roles.{is_spoken, passed_on}
use Rattle.loop_model.proofs.RoleSteps.{changes_roles}
use Rattle.il_guest.specs.declared.control.Command.{Command}
use Rattle.il_guest.specs.declared.control.Command.TheVariants as command
use Rattle.il_guest.specs.Steps.{command_frame}
use Rattle.il_ring.specs.Journeys.{is_exact, is_identify_class}
use Rattle.il_ring.specs.Turned.{is_auto_address}

-- ---- a kind of messages

-- that no data or end frame carries
pub never_data : (kind : Message → Bool) → ((n : ℕ) → kind (msg.Dab n) ≡ false) → ((n : ℕ) → kind (msg.Dsr n) ≡ false) → ((n : ℕ) → kind (msg.End n) ≡ false) → ((n : ℕ) → kind (msg.Esr n) ≡ false)
    → (k : Class) (byte : ℕ) → is_data_class k ≡ true → kind (message_at k byte) ≡ false
never_data kind dab dsr last esr class.Dab byte is = dab byte
never_data kind dab dsr last esr class.Dsr byte is = dsr byte
never_data kind dab dsr last esr class.End byte is = last byte
never_data kind dab dsr last esr class.Esr byte is = esr byte
never_data kind dab dsr last esr k byte is = cc

-- so a frame that carries one is no data or end frame
no_data_by : (kind : Message → Bool) → ((k : Class) (byte : ℕ) → is_data_class k ≡ true → kind (message_at k byte) ≡ false) → (data_frame : Bool) (f : Frame) → is_data f ≡ data_frame → kind (message_of f) ≡ true → is_data f ≡ false
no_data_by kind never true f is says = let clash = sym says ∙ never (class_of f) (byte_of f) is in cc
no_data_by kind never false f is says = is

pub no_data_of : (kind : Message → Bool) → ((k : Class) (byte : ℕ) → is_data_class k ≡ true → kind (message_at k byte) ≡ false) → (f : Frame) → kind (message_of f) ≡ true → is_data f ≡ false
no_data_of kind never f says = no_data_by kind never (is_data f) f refl says

-- that no identify frame carries
pub never_identify : (kind : Message → Bool) → ((n : ℕ) → kind (msg.Idy n) ≡ false) → ((n : ℕ) → kind (msg.Isr n) ≡ false) → (k : Class) (byte : ℕ) → is_identify_class k ≡ true → kind (message_at k byte) ≡ false
never_identify kind idy isr class.Idy byte is = idy byte
never_identify kind idy isr class.Isr byte is = isr byte
never_identify kind idy isr k byte is = cc

-- that no device makes of another message
pub never_passed : (kind : Message → Bool) → ((n : ℕ) → kind (msg.Aad n) ≡ false) → kind msg.Iaa ≡ false → (m : Message) (r : Roles) → kind m ≡ false → kind (passed_on m r) ≡ false
never_passed kind aad iaa (msg.Aad a) r none = by_test (takes_address r.address a) (a == 30)
  where
    by_test : (takes last : Bool) → kind (if takes then (if last then msg.Iaa else msg.Aad (suc a)) else msg.Aad a) ≡ false
    by_test true true = iaa
    by_test true false = aad (suc a)
    by_test false last = aad a
never_passed kind aad iaa m r none = none

-- ---- the rows of the tables

-- each message of these rows is of the kind
abbrev pub AllRows : (Message → Bool) → List Row → Type 0
AllRows kind [] = Unit {0}
AllRows kind (One at m ∷ rows) = (kind m ≡ true) × AllRows kind rows
AllRows kind (Group first count m ∷ rows) = ((n : ℕ) → kind (m n) ≡ true) × AllRows kind rows

either_of : (kind : Message → Bool) (b : Bool) (m n : Message) → kind m ≡ true → kind n ≡ true → kind (if b then m else n) ≡ true
either_of kind true m n one other = one
either_of kind false m n one other = other

-- so is the message of each byte
pub in_rows : (kind : Message → Bool) (rows : List Row) (byte : ℕ) (other : ℕ → Message) → AllRows kind rows → ((n : ℕ) → kind (other n) ≡ true) → kind (message_in rows byte other) ≡ true
in_rows kind [] byte other all else_ = else_ byte
in_rows kind (One at m ∷ rows) byte other all else_ = either_of kind (byte == at) m (message_in rows byte other) all.0 (in_rows kind rows byte other all.1 else_)
in_rows kind (Group first count m ∷ rows) byte other all else_ = either_of kind _ (m _) (message_in rows byte other) (all.0 _) (in_rows kind rows byte other all.1 else_)

-- ---- commands

-- what holds of each command of a second controller holds of all
pub each_command : (P : Command → Type 0) → P command.Nop → ((a : ℕ) → P (command.Unl a)) → ((a : ℕ) → P (command.Tad a)) → ((a : ℕ) → P (command.Unt a)) → (c : Command) → P c
each_command P nop unl tad unt command.Nop = nop
each_command P nop unl tad unt (command.Unl a) = unl a
each_command P nop unl tad unt (command.Tad a) = tad a
each_command P nop unl tad unt (command.Unt a) = unt a

-- the message goes on as it is
unfoldable pub fits : Message → Bool
fits m = is_exact m && not (is_auto_address m)

commands_fit : AllRows fits commands
unfolding fits
commands_fit = (refl, (refl, (refl, (refl, (refl, (refl, (refl, (refl, (refl, (refl, (refl, ((λ n. refl), (refl, ((λ n. refl), (refl, ((λ n. refl), ((λ n. refl), (refl, (refl, (refl, (refl, (refl, ((λ n. refl), ((λ n. refl), tt))))))))))))))))))))))))

command_fits : (byte : ℕ) → fits (message_at class.Cmd byte) ≡ true
unfolding fits
command_fits byte = in_rows fits commands byte msg.OtherCmd commands_fit (λ n. refl)

pub commands_say : (c : Command) → fits (message_of (command_frame c)) ≡ true
commands_say command.Nop = command_fits (byte_of (command_frame command.Nop))
commands_say (command.Unl a) = command_fits (byte_of (command_frame (command.Unl a)))
commands_say (command.Tad a) = command_fits (byte_of (command_frame (command.Tad a)))
commands_say (command.Unt a) = command_fits (byte_of (command_frame (command.Unt a)))

-- a data or end frame
pub record SaysData (m : Message) : Type 0 where
  pub keeps : changes_roles m ≡ false
  pub no_aad : is_auto_address m ≡ false
  pub spoken : is_spoken m ≡ true

says_data : (k : Class) (byte : ℕ) → is_data_class k ≡ true → SaysData (message_at k byte)
says_data class.Dab byte e = record { keeps = refl; no_aad = refl; spoken = refl }
says_data class.Dsr byte e = record { keeps = refl; no_aad = refl; spoken = refl }
says_data class.End byte e = record { keeps = refl; no_aad = refl; spoken = refl }
says_data class.Esr byte e = record { keeps = refl; no_aad = refl; spoken = refl }
says_data k byte e = cc

pub data_says : (f : Frame) → is_data f ≡ true → SaysData (message_of f)
data_says f is = says_data (class_of f) (byte_of f) is

pub data_spoken : (k : Class) (byte : ℕ) → is_data_class k ≡ true → is_spoken (message_at k byte) ≡ true
data_spoken k byte is = (says_data k byte is).spoken
