-- After an exchange: the state, and that at most one party talked.
use Rattle.std.proofs.Common.{◌≡◌, ◌∙◌, ◌<◌, ◌&&◌, ℕ, true, false, not, List, [], ◌∷◌, None, length, refl, sym, ap, append-nil, subst}
use Rattle.std.specs.List.{list_all}
use Rattle.std.proofs.lemmas.Bool.{and_parts, and_from, agree_below_at}
use Rattle.il_frames.specs.declared.frame.Class.{Class}
use Rattle.il_frames.specs.declared.frame.Class.TheVariants as class
use Rattle.il_frames.specs.declared.frame.Frame.{Frame}
use Rattle.il_frames.specs.declared.entry.Entry.{Entry}
use Rattle.il_frames.specs.Frames.{byte_of, class_of, framed, same_class}
use Rattle.il_frames.specs.Messages.{message_of, message_at}
use Rattle.il_device.specs.declared.roles.Roles.{Roles}
use Rattle.il_device.specs.Passing.{is_plain}
use Rattle.il_ports.specs.Media.{MediumView}
use Rattle.loop_model.specs.Roles.{talkers, is_at_most_one, is_in_turn, has_one_talker, roles_after, roles_after_entry, OneTalker, are_numbered, is_aau}
use Rattle.loop_model.specs.Exchanges.{Exchange, Command, commanded, entries_of, cut_at, is_exchange, is_talk_address, IsWhole, answers_as_asked}
use Rattle.loop_model.specs.Reach.{held_at_end as held_after}
use Rattle.il_frames.specs.NamedFrames.{is_frame, is_no_nrd}
use Rattle.il_guest.specs.Frames.{tct}
use Rattle.loop_model.specs.Exchanges.Piece.{Whole as WholeOne}
use Rattle.loop_model.proofs.RoleLaws.{talkers-whole}
use Rattle.loop_model.proofs.RoundLaws.{OneTalker-safe, OneTalker-cut, safe_exchange, keeps_addresses, are_numbered-piece}
use Rattle.il_ring.specs.Guests.{IsUnderHost, KeepsGuest}
use Rattle.il_ring.specs.Rings.{RingView, ring_emptied, devices_of, roles_of, drive_party}
use Rattle.il_ring.proofs.Rings.{IsRing-clear}
use Rattle.il_control.specs.Calls.{Whole, Broke, IsIdle, IsLost, loop_of, is_command, Made, BrokenOff}
use Rattle.il_control.proofs.HeldAtEnd.{quiet_ended, command_quiet}

-- at most one device talks at the end of such a log
pub one_at_end : (rs : List Roles) (log : List Entry) → OneTalker rs log → is_at_most_one (talkers (roles_after rs log)) ≡ true
one_at_end rs [] one = one
one_at_end rs (e ∷ log) one =
    let parts = and_parts (is_at_most_one (talkers rs)) (is_in_turn (talkers rs) e && has_one_talker (roles_after_entry rs e) log) one in
    one_at_end (roles_after_entry rs e) log (and_parts (is_in_turn (talkers rs) e) _ parts.1).1

-- the host controls still
pub host_still : {M : Type 0} (r s : RingView M) → IsUnderHost r.guest → KeepsGuest r.guest s.guest → IsUnderHost s.guest
host_still r s host keeps = subst IsUnderHost (sym (keeps.1 host)) host

pub made : {M : Type 0} (view : M → MediumView) (x : Exchange) (r s : RingView M) → IsIdle r → is_exchange (loop_of r) x ≡ true → answers_as_asked (length (roles_of (devices_of r))) x ≡ true → keeps_addresses x ≡ true
    → Whole view r (entries_of 0 x) s → Made view x r s
made view x r s idle legal asked keeps whole =
    let rs = roles_of (devices_of r) in
    let size = length (devices_of r) in
    let one_log : IsWhole (loop_of r) (entries_of 0 x) = record {
      reading = record { pieces = WholeOne x ∷ []; legal = and_from _ _ legal refl; entries = sym (append-nil (entries_of 0 x)) };
      whole = refl;
    } in
    record {
      whole = whole;
      legal = legal;
      one = OneTalker-safe rs (entries_of 0 x) (safe_exchange size (drive_party r) rs x legal asked idle.numbered idle.silent);
      idle = record {
        free = record { ring = whole.ring; held = whole.held };
        host = host_still r s idle.host whole.adds.guest;
        silent = ap talkers whole.adds.roles ∙ talkers-whole size (drive_party r) rs (entries_of 0 x) idle.silent one_log;
        numbered = ap (are_numbered 1) whole.adds.roles ∙ are_numbered-piece size (drive_party r) rs (WholeOne x) legal keeps idle.numbered;
      };
    }

pub broken_off : {M : Type 0} (view : M → MediumView) (x : Exchange) (r s : RingView M) → IsIdle r → is_exchange (loop_of r) x ≡ true → answers_as_asked (length (roles_of (devices_of r))) x ≡ true
    → (broke : Broke view r (entries_of 0 x) s) → broke.held_at_end ≡ held_after None (cut_at (entries_of 0 x) broke.standing broke.break) → BrokenOff view x r s
broken_off view x r s idle legal asked broke ended =
    let rs = roles_of (devices_of r) in
    let one = OneTalker-cut rs (entries_of 0 x) broke.standing broke.break (safe_exchange (length (devices_of r)) (drive_party r) rs x legal asked idle.numbered idle.silent) broke.legal in
    record {
      broke = broke;
      ended = ended;
      legal = legal;
      one = one;
      lost = record {
        free = record { ring = broke.ring; held = broke.held };
        one = ap (λ rs. is_at_most_one (talkers rs)) broke.adds.roles ∙ one_at_end rs _ one;
      };
    }

-- of these entries
pub made_whole : {M : Type 0} (view : M → MediumView) (x : Exchange) (r s : RingView M) (idle : IsIdle r) (legal : is_exchange (loop_of r) x ≡ true) (asked : answers_as_asked (length (roles_of (devices_of r))) x ≡ true) (keeps : keeps_addresses x ≡ true)
    (whole : Whole view r (entries_of 0 x) s) → (made view x r s idle legal asked keeps whole).whole ≡ whole
unfolding made
made_whole view x r s idle legal asked keeps whole = refl

pub broken_off_broke : {M : Type 0} (view : M → MediumView) (x : Exchange) (r s : RingView M) (idle : IsIdle r) (legal : is_exchange (loop_of r) x ≡ true) (asked : answers_as_asked (length (roles_of (devices_of r))) x ≡ true)
    (broke : Broke view r (entries_of 0 x) s) (ended : broke.held_at_end ≡ held_after None (cut_at (entries_of 0 x) broke.standing broke.break)) → (broken_off view x r s idle legal asked broke ended).broke ≡ broke
unfolding broken_off
broken_off_broke view x r s idle legal asked broke ended = refl

-- an exchange without NRD was broken off
pub quiet_broken_off : {M : Type 0} (view : M → MediumView) (x : Exchange) (r s : RingView M) → IsIdle r → is_exchange (loop_of r) x ≡ true → answers_as_asked (length (roles_of (devices_of r))) x ≡ true
    → list_all is_no_nrd (entries_of 0 x) ≡ true → Broke view r (entries_of 0 x) s → BrokenOff view x r s
quiet_broken_off view x r s idle legal asked quiet broke = broken_off view x r s idle legal asked broke (quiet_ended view r s (entries_of 0 x) broke quiet)

-- ---- commands

-- a command is passed on by every device
plain_byte : (k : Class) (byte : ℕ) → byte < 256 → same_class k class.Cmd ≡ true → is_plain (message_at k byte) ≡ true
plain_byte class.Cmd byte small is = agree_below_at (λ b. is_plain (message_at class.Cmd b)) (λ b. true) 256 byte refl small
plain_byte _ byte small is = cc

-- it does not hand control over, being of another class than TCT
pub command_hands : (f : Frame) → is_command f ≡ true → is_frame f tct ≡ false
command_hands f is = hands_class (class_of f) (byte_of f) (and_parts (same_class (class_of f) class.Cmd) (not (is_talk_address (message_of f)) && not (is_aau (message_of f))) is).0
  where
    hands_class : (k : Class) (byte : ℕ) → same_class k class.Cmd ≡ true → is_frame (framed k byte) tct ≡ false
    hands_class class.Rdy byte is = cc
    hands_class _ byte is = refl

pub command_plain : (f : Frame) → byte_of f < 256 → is_command f ≡ true → is_plain (message_of f) ≡ true
command_plain f small is = plain_byte (class_of f) (byte_of f) small (and_parts _ _ is).0

-- after one: the state
pub command_made : {M : Type 0} (view : M → MediumView) (f : Frame) (r s : RingView M) → IsIdle r → is_command f ≡ true → Whole view r (commanded 0 f) s → Made view (Command f) r s
command_made view f r s idle is whole =
    let parts = and_parts (same_class (class_of f) class.Cmd) (not (is_talk_address (message_of f)) && not (is_aau (message_of f))) is in
    let says = and_parts (not (is_talk_address (message_of f))) (not (is_aau (message_of f))) parts.1 in
    made view (Command f) r s idle (and_from _ _ parts.0 says.0) refl says.1 whole

pub command_broken : {M : Type 0} (view : M → MediumView) (f : Frame) (r s : RingView M) → IsIdle r → is_command f ≡ true → Broke view r (commanded 0 f) s → BrokenOff view (Command f) r s
command_broken view f r s idle is broke =
    let parts = and_parts (same_class (class_of f) class.Cmd) (not (is_talk_address (message_of f)) && not (is_aau (message_of f))) is in
    let says = and_parts (not (is_talk_address (message_of f))) (not (is_aau (message_of f))) parts.1 in
    quiet_broken_off view (Command f) r s idle (and_from _ _ parts.0 says.0) refl (command_quiet f parts.0) broke

-- ---- an emptied log

-- leaves the state
pub idle_cleared : {M : Type 0} (r : RingView M) → IsIdle r → IsIdle (ring_emptied r)
idle_cleared r idle = record { free = record { ring = IsRing-clear r idle.free.ring; held = idle.free.held }; host = idle.host; silent = idle.silent; numbered = idle.numbered }

pub lost_cleared : {M : Type 0} (r : RingView M) → IsLost r → IsLost (ring_emptied r)
lost_cleared r lost = record { free = record { ring = IsRing-clear r lost.free.ring; held = lost.free.held }; one = lost.one }
