-- The frames that came to the drive in whole exchanges.
use Rattle.std.proofs.Common.{◌≡◌, ◌∙◌, ◌++◌, ◌&&◌, ℕ, true, false, not, List, [], ◌∷◌, Option, Some, None, map, length, refl, sym, ap, ap₂, subst}
use Rattle.std.specs.List.{list_all}
use Rattle.std.proofs.lemmas.Bool.{and_parts}
use Rattle.il_frames.specs.declared.frame.Class.{Class}
use Rattle.il_frames.specs.declared.frame.Class.TheVariants as class
use Rattle.il_frames.specs.declared.frame.Frame.{Frame}
use Rattle.il_frames.specs.declared.entry.Entry.{Entry}
use Rattle.il_frames.specs.declared.message.Message.{Message}
use Rattle.il_frames.specs.declared.message.Message.TheVariants as msg
use Rattle.il_frames.specs.Frames.{byte_of, class_of, is_data, same_class, same_but_service}
use Rattle.il_frames.specs.Messages.{One, Group, commands, message_at, message_of}
use Rattle.il_device.specs.Passing.{is_plain}
use Rattle.il_ports.specs.Media.{MediumView}
use Rattle.il_frames.specs.NamedFrames.{unl, lad, ddl, rfc}
use Rattle.loop_model.specs.Exchanges.{Echo, Command, Send, echoed, commanded, numbered, entries_of, is_address, is_echo, is_host_echo, is_number, is_talk_address}
use Rattle.il_ring.specs.Rings.{RingView, devices_of, drive_party}
use Rattle.il_ring.proofs.MessageKinds.{AllRows, in_rows}
use Rattle.il_control.specs.Brought.{AllCome, Brought, ComesAs, is_auto_address, is_from_here, numbered_frames}
use Rattle.il_control.specs.Calls.{Made}
use Rattle.il_control.proofs.Calls.{plain_exact}

-- ---- commands come as they were sent

-- no command asks anything of a device
plain_commands : AllRows is_plain commands
plain_commands =
    let groups : AllRows is_plain (Group 0xA0 32 msg.Ddl ∷ Group 0xC0 32 msg.Ddt ∷ []) = (λ n. refl, (λ n. refl, tt)) in
    let singles : AllRows is_plain (One 0x90 msg.Ifc ∷ One 0x92 msg.Ren ∷ One 0x93 msg.Nre ∷ One 0x9A msg.Aau ∷ One 0x9B msg.Lpd ∷ Group 0xA0 32 msg.Ddl ∷ Group 0xC0 32 msg.Ddt ∷ []) =
    (refl, (refl, (refl, (refl, (refl, groups))))) in
    (refl, (refl, (refl, (refl, (refl, (refl, (refl, (refl, (refl, (refl, (refl, (λ n. refl, (refl, (λ n. refl, (refl, (λ n. refl, (λ n. refl, singles)))))))))))))))))

plain_command : (k : Class) (byte : ℕ) → same_class k class.Cmd ≡ true → is_plain (message_at k byte) ≡ true
plain_command class.Cmd byte is = in_rows is_plain commands byte msg.OtherCmd plain_commands (λ n. refl)
plain_command _ byte is = cc

plain_no_address : (m : Message) → is_plain m ≡ true → is_auto_address m ≡ false
plain_no_address (msg.Aad a) plain = cc
plain_no_address _ plain = refl

-- a command is the same wherever it comes
pub command_comes : (q : ℕ) (f g : Frame) → same_class (class_of f) class.Cmd ≡ true → ComesAs q f g → g ≡ f
command_comes q f g is comes = let plain = plain_command (class_of f) (byte_of f) is in comes.other (plain_exact (message_of f) plain) (plain_no_address (message_of f) plain)

-- ---- piece by piece

-- these frames came first, and then those of the rest
record After (k q : ℕ) (first : List Frame) (rest : List Entry) (came : List Frame) : Type 0 where
  frames : List Frame
  are : came ≡ first ++ frames
  brought : Brought k q rest frames

-- of a command and the handshake after it
commanded_brings : (k q : ℕ) (f : Frame) (rest : List Entry) (came : List Frame) → same_class (class_of f) class.Cmd ≡ true → Brought k q (commanded 0 f ++ rest) came → After k q (f ∷ rfc ∷ []) rest came
commanded_brings k q f rest [] is brought = absurd brought
commanded_brings k q f rest (g ∷ []) is brought = absurd brought.1
commanded_brings k q f rest (g ∷ h ∷ gs) is brought = record {
  frames = gs;
  are = ap₂ (λ g h. g ∷ h ∷ gs) (command_comes q f g is brought.0) (brought.1.0.other refl refl);
  brought = brought.1.1;
}

-- of the command of a number
numbered_brings : (k q : ℕ) (number : Option ℕ) (rest : List Entry) (came : List Frame) → Brought k q (numbered 0 ddl number ++ rest) came → After k q (numbered_frames number) rest came
numbered_brings k q None rest came brought = record { frames = came; are = refl; brought = brought }
numbered_brings k q (Some n) rest came brought = commanded_brings k q (ddl n) rest came refl brought

-- of data frames
data_brings : (k q : ℕ) (ds : List Echo) (came : List Frame) → list_all is_host_echo ds ≡ true → Brought k q (map (echoed 0) ds) came → AllCome ds came
data_brings k q [] came legal brought = subst (AllCome []) (sym brought) tt
data_brings k q (d ∷ ds) [] legal brought = absurd brought
data_brings k q (d ∷ ds) (g ∷ gs) legal brought =
    let parts = and_parts (is_host_echo d) (list_all is_host_echo ds) legal in
    let echo = and_parts (same_class (class_of d.sent) class.Dab) (is_echo d) parts.0 in
    let data_frame = and_parts (is_data d.sent) (same_but_service d.sent d.back) echo.1 in
    (brought.0.data_frame data_frame.0, data_brings k q ds gs parts.1 brought.1)

-- of a send: unlisten, the listen address, the command of the number, each with its handshake, and then the data frames
pub send_frames : (k q a : ℕ) (number : Option ℕ) (ds : List Echo) (came : List Frame) → list_all is_host_echo ds ≡ true → Brought k q (entries_of 0 (Send a number ds)) came
    → (gs : List Frame) × (came ≡ unl ∷ rfc ∷ lad a ∷ rfc ∷ numbered_frames number ++ gs) × AllCome ds gs
send_frames k q a number ds came echoes brought =
    let unlisten = commanded_brings k q unl (commanded 0 (lad a) ++ numbered 0 ddl number ++ map (echoed 0) ds) came refl brought in
    let listen = commanded_brings k q (lad a) (numbered 0 ddl number ++ map (echoed 0) ds) unlisten.frames refl unlisten.brought in
    let command = numbered_brings k q number (map (echoed 0) ds) listen.frames listen.brought in (
      command.frames,
      unlisten.are ∙ ap (λ gs. unl ∷ rfc ∷ gs) (listen.are ∙ ap (λ gs. lad a ∷ rfc ∷ gs) command.are),
      data_brings k q ds command.frames echoes command.brought,
    )

-- of a command: itself and the handshake
pub command_frames : (k q : ℕ) (f : Frame) (came : List Frame) → same_class (class_of f) class.Cmd ≡ true → Brought k q (commanded 0 f) came → came ≡ f ∷ rfc ∷ []
command_frames k q f came is brought = let command = commanded_brings k q f [] came is brought in command.are ∙ ap (λ gs. f ∷ rfc ∷ gs) command.brought

-- ---- all entries are the host's

data_from_here : (q : ℕ) (ds : List Echo) → list_all (is_from_here q) (map (echoed 0) ds) ≡ true
data_from_here q [] = refl
data_from_here q (d ∷ ds) = data_from_here q ds

numbered_from_here : (q : ℕ) (number : Option ℕ) (rest : List Entry) → list_all (is_from_here q) rest ≡ true → list_all (is_from_here q) (numbered 0 ddl number ++ rest) ≡ true
numbered_from_here q None rest all = all
numbered_from_here q (Some n) rest all = all

pub send_from_here : (q a : ℕ) (number : Option ℕ) (ds : List Echo) → list_all (is_from_here q) (entries_of 0 (Send a number ds)) ≡ true
send_from_here q a number ds = numbered_from_here q number (map (echoed 0) ds) (data_from_here q ds)

-- ---- the laws

-- the frames that came to the drive of a send
pub send_brings : {M : Type 0} (view : M → MediumView) (a : ℕ) (number : Option ℕ) (ds : List Echo) (r s : RingView M) (made : Made view (Send a number ds) r s)
    → (gs : List Frame) × (made.whole.adds.came ≡ unl ∷ rfc ∷ lad a ∷ rfc ∷ numbered_frames number ++ gs) × AllCome ds gs
send_brings view a number ds r s made =
    let parts = and_parts (is_address a) (is_number number && list_all is_host_echo ds) made.legal in
    let echoes = (and_parts (is_number number) (list_all is_host_echo ds) parts.1).1 in
    send_frames (length (devices_of r)) (drive_party r) a number ds made.whole.adds.came echoes (made.whole.brought (send_from_here (drive_party r) a number ds))

-- and of a command
pub command_brings : {M : Type 0} (view : M → MediumView) (f : Frame) (r s : RingView M) (made : Made view (Command f) r s) → made.whole.adds.came ≡ f ∷ rfc ∷ []
command_brings view f r s made =
    let parts = and_parts (same_class (class_of f) class.Cmd) (not (is_talk_address (message_of f))) made.legal in
    command_frames (length (devices_of r)) (drive_party r) f made.whole.adds.came parts.0 (made.whole.brought refl)
