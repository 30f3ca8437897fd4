-- A line that is no command is a step that leaves everything.
use Rattle.std.proofs.Common.{◌≡◌, ◌∙◌, ◌&&◌, ℕ, nat_lt, nat_le, true, false, cond, List, [], ◌∷◌, Option, Some, None, is_some, refl, ap, arith}
use Rattle.std.proofs.lemmas.Bool.Decides.{nat_tests}
use Rattle.std.proofs.lemmas.List.Elements.{All-nil}
use Rattle.lif_model.specs.Tape.{Tape}
use Rattle.lif_model.proofs.Moments.{started}
use Rattle.loop_model.specs.Effect.{UnitsEffect}
use Rattle.loop_model.specs.Reach.{met}
use Rattle.loop_model.specs.Roles.{talkers, is_at_most_one}
use Rattle.il_script.specs.declared.reply.Code.{Code}
use Rattle.il_script.specs.declared.reply.Reply.TheVariants as reply
use Rattle.il_ring.specs.declared.plan.Planned.{Planned}
use Rattle.il_ring.specs.Plans.{hops_of}
use Rattle.il_ring.specs.Fates.{IsByPlan}
use Rattle.host_model.proofs.Tapes.{tape_other}
use Rattle.host_model.specs.Requests.{NoCommand}
use Rattle.host_model.specs.LoopStates.{all_roles, device_count}
use Rattle.host_model.specs.HostStates.{HostState}
use Rattle.host_model.specs.Next.{DeviceBehind}
use Rattle.host_model.specs.Steps.{Acts, OnTapes, Event, TookFrames, IsStep, HearsLog, event}
use Rattle.host_model.specs.Stops.{StopsLeave}
use Rattle.host_model.proofs.Steps.{alike_staying, boxed_same}

-- a line that is no command, with its reply
abbrev pub refusal : Code → HostState → Event
refusal code s = event (NoCommand code) (reply.No code) [] s s

-- no hop lies between a count and itself
not_met : (n hop : ℕ) → (nat_lt n hop && nat_le hop n) ≡ false
not_met n hop = grind (arith, nat_tests)

none_met : (hops : List ℕ) (n : ℕ) → met hops n n ≡ []
none_met [] n = refl
none_met (hop ∷ hops) n = ap (λ b. cond b (hop ∷ met hops n n) (met hops n n)) (not_met n hop) ∙ none_met hops n

same_tape : (tape : Option Tape) → OnTapes tape tape (UnitsEffect [])
same_tape None = tt
same_tape (Some t) = refl

false_is_not_true : false ≡ true → ⊥
false_is_not_true h = cc

no_command_acts : (plan : List Planned) (code : Code) (s : HostState) → is_at_most_one (talkers (all_roles s.loop)) ≡ true → Acts plan (refusal code s)
no_command_acts plan code s one = record {
  replied = record { may = tt; whole = λ told. (refl, refl); stays = λ h. refl; told = refl; size = refl; gate = λ g. g; foreign = alike_staying s.tape };
  next = record {
    devices = boxed_same (DeviceBehind (NoCommand code) (reply.No code) s.loop)
        (λ party d. record { accessory = refl; hears = record { heard = refl; heard_count = refl; room = refl; accessory = refl }; service = λ h. refl }) s.loop;
    status = refl;
  };
  travels = record {
    one_talker = one;
    commands = refl;
    roles = refl;
    crossings = refl;
    frames = boxed_same (TookFrames (device_count s.loop) []) (λ party d. refl) s.loop;
    guest = refl;
    short = omega arith;
  };
  heard = λ h. boxed_same (HearsLog (device_count s.loop) (all_roles s.loop) [] true)
      (λ party d. record { more = []; few = omega arith; none = λ h. refl; heard = record { heard = refl; heard_count = refl; room = refl; accessory = refl } }) s.loop;
  exchanged = λ h. record {
    reading = record { pieces = []; legal = refl; entries = refl };
    ends = refl;
    course = refl;
    begins = λ h. absurd (false_is_not_true h);
    outside = refl;
    cause = (none_met (hops_of plan) s.crossings, refl, refl);
    effect = same_tape s.tape;
    carried = tt;
  };
  lent = λ frames is. cc;
  by_plan = All-nil (IsByPlan plan s.crossings s.crossings);
  ready = λ h. absurd (false_is_not_true h);
  controls = λ h. refl;
  clears = λ h g. absurd (false_is_not_true h);
  sound = λ h. absurd (false_is_not_true h);
  unsound = λ h g. absurd (false_is_not_true g);
  still = λ h. (refl, refl);
}

pub no_command : (plan : List Planned) (code : Code) (s : HostState) → is_at_most_one (talkers (all_roles s.loop)) ≡ true → IsStep plan (refusal code s)
no_command plan code s one = record { acts = no_command_acts plan code s one; directory = record { kept = refl; log = λ on. tt }; tape = tape_other (refusal code s) refl }

-- ---- stops

-- a tape that is told
pub told_tape : (tape : Option Tape) → is_some tape ≡ true → (t : Tape) × (tape ≡ Some t)
told_tape None h = absurd (false_is_not_true h)
told_tape (Some t) h = (t, refl)

-- no time goes by: a stop leaves the tape as it is
pub no_command_stops : (code : Code) (s : HostState) (now : ℕ) (since : ℕ → Tape → Type 0) → ((t c : Tape) → s.tape ≡ Some t → since now c → c ≡ t)
    → StopsLeave (refusal code s) now now since since
no_command_stops code s now since only told =
    let t = told_tape s.tape told in
    started now since (λ x. s.tape ≡ Some x) t.0 (λ c left. only t.0 c t.1 left) t.1
