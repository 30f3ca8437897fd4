-- What a whole run tells: all its logs and replies together.
use Rattle.std.specs.Prelude.{◌≡◌, ◌≢◌, ◌↔◌, ◌++◌, ◌≤◌, ◌<◌, ◌+◌, ◌-◌, ◌^◌, min, ℕ, Bool, true, false, List, [], ◌∷◌, length, sum_by, count_by}
use Rattle.std.specs.List.{flat_map}
use Rattle.il_frames.specs.declared.entry.Entry.{Entry}
use Rattle.il_device.specs.State.{DeviceState, risen_by}
use Rattle.loop_model.specs.Effect.{Effect}
use Rattle.loop_model.specs.Reach.{links, passes, met}
use Rattle.loop_model.specs.Leading.{OneTalkerLed, are_commands_led, roles_led}
use Rattle.il_script.specs.declared.reply.Reply.{Reply}
use Rattle.il_script.specs.declared.reply.Reply.TheVariants as reply
use Rattle.il_ring.specs.declared.plan.Planned.{Planned}
use Rattle.il_ring.specs.Plans.{hops_of}
use Rattle.host_model.specs.Requests.{Item, Asks, Lend, is_lending}
use Rattle.host_model.specs.LoopStates.{all_roles, device_count, ring_of}
use Rattle.host_model.specs.HostStates.{HostState, HasOwnGate}
use Rattle.host_model.specs.Replies.{reply_of}
use Rattle.host_model.specs.Next.{BoxedBecome}
use Rattle.host_model.specs.Steps.{Event, TellsReply, OnTapes, is_frame_fault}
use Rattle.host_model.specs.Runs.{joined_log}

-- the exchanges of the host that move records: all logs but those of lends, joined
abbrev pub log_unless : Bool → List Entry → List Entry
log_unless true log = []
log_unless false log = log

abbrev pub joined_exchanges : List Event → List Entry
joined_exchanges events = flat_map (λ e. log_unless (is_lending e.item) e.log) events

-- the crossings that all logs stand for, on a ring of k devices
abbrev pub all_links : ℕ → List Event → ℕ
all_links k events = sum_by (λ e. links k e.log) events

-- the count of crossings after these events
abbrev pub crossed_behind : HostState → List Event → ℕ
crossed_behind start events = risen_by (all_links (device_count start.loop) events) start.crossings

-- the frames that all logs brought to a party
abbrev pub all_passes : ℕ → ℕ → List Event → ℕ
all_passes k party events = sum_by (λ e. passes k party e.log) events

abbrev pub TookAll : ℕ → List Event → ℕ → DeviceState → DeviceState → Type 0
TookAll k events party d e = e.frames ≡ risen_by (all_passes k party events) d.frames

-- how many replies are `fault frame`, and how many `fault medium`
abbrev pub lost_replies : List Event → ℕ
lost_replies events = count_by (λ e. is_frame_fault e.reply) events

abbrev pub is_medium_fault : Reply → Bool
is_medium_fault reply.FaultMedium = true
is_medium_fault _ = false

abbrev pub failed_replies : List Event → ℕ
failed_replies events = count_by (λ e. is_medium_fault e.reply) events

-- the greatest count of faults, at which it stays
abbrev pub last_count : ℕ
last_count = 2 ^ 64 - 1

-- each reply is the one that its item has without a fault
abbrev pub AllAnswered : List Event → Type 0
AllAnswered [] = Unit {0}
AllAnswered (e ∷ events) = (TellsReply e.item e.before → e.reply ≡ reply_of e.item e.before) × AllAnswered events

-- whether a command was lost, by whether a hop was met
abbrev pub IsLostWhere : Item → Type 0 → Type 0 → Type 0
IsLostWhere (Asks (Lend frames)) Lost Met = Lost → Met
IsLostWhere item Lost Met = Lost ↔ Met

pub record RunTells (plan : List Planned) (start : HostState) (events : List Event) (finish : HostState) : Type 0 where
  -- In all logs joined at most one party talks at every moment, each command is the controller's or an IFC of the host, and they leave
  -- these roles.
  pub one_talker : OneTalkerLed 0 (all_roles start.loop) (joined_log events)
  pub commands : are_commands_led 0 (joined_log events) ≡ true
  pub roles : all_roles finish.loop ≡ roles_led 0 (all_roles start.loop) (joined_log events)
  -- the exchanges of the host, those of lends left out, made the tape at first into the tape at the end
  pub effect : OnTapes start.tape finish.tape (λ t u. Effect (ring_of start.loop) t (joined_exchanges events) u)
  pub gate : HasOwnGate start → HasOwnGate finish
  -- a second controller asks the same addresses
  pub guest : finish.loop.guest ≡ start.loop.guest
  -- the crossings and the frames of each device are those that they stand for
  pub crossings : finish.crossings ≡ crossed_behind start events
  pub frames : BoxedBecome (TookAll (device_count start.loop) events) start.loop finish.loop
  -- a reply is `fault frame` exactly where a planned hop comes after the crossings of the logs before, and not after those of its own; of
  -- a lend it is so only there
  pub lost : (done : List Event) (e : Event) (more : List Event) → events ≡ done ++ e ∷ more
      → IsLostWhere e.item (e.reply ≡ reply.FaultFrame) (met (hops_of plan) (crossed_behind start done) (crossed_behind start (done ++ e ∷ [])) ≢ [])
  -- no more frame faults than planned hops were crossed, and no more medium faults than the medium failed
  pub few_lost : lost_replies events ≤ length (met (hops_of plan) start.crossings finish.crossings)
  pub few_failed : min (start.faults + failed_replies events) last_count ≤ finish.faults
  -- where nothing is planned and the medium does not fail, no command faults
  pub complete : plan ≡ [] → finish.faults ≤ start.faults → start.faults < last_count → AllAnswered events
