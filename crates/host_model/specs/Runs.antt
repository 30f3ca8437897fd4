-- Runs: lists of events, one after the other, and what they tell.
use Rattle.std.specs.Prelude.{◌≡◌, ℕ, ◌+◌, Bool, if◌then◌else◌, List, [], ◌∷◌, ◌++◌, length, map, codes, decimal}
use Rattle.std.specs.List.{flat_map, list_all}
use Rattle.il_frames.specs.declared.entry.Entry.{Entry}
use Rattle.il_script.specs.Replies.{text_line, next, is_ok}
use Rattle.il_script.specs.declared.reply.Reply.{Reply}
use Rattle.il_script.specs.declared.reply.Reply.TheVariants as reply
use Rattle.il_ring.specs.declared.plan.Planned.{Planned}
use Rattle.host_model.specs.Requests.{Item, is_of_volume}
use Rattle.host_model.specs.HostStates.{HostState}
use Rattle.host_model.specs.Replies.{reply_text, trace_text}
use Rattle.host_model.specs.Steps.{Event, IsStep, TellsReply}

-- each event is a step, and begins where the one before it ends
abbrev pub Chained : List Planned → HostState → List Event → HostState → Type 0
Chained plan start [] finish = finish ≡ start
Chained plan start (e ∷ events) finish = (e.before ≡ start) × IsStep plan e × Chained plan e.after events finish

-- ---- what the events tell

abbrev pub items_asked : List Event → List Item
items_asked events = map (λ e. e.item) events

abbrev pub replies : List Event → List Reply
replies events = map (λ e. e.reply) events

-- all logs joined
abbrev pub joined_log : List Event → List Entry
joined_log events = flat_map (λ e. e.log) events

-- every reply is ok
abbrev pub all_ok : List Event → Bool
all_ok events = list_all (λ e. is_ok e.reply) events

-- the last command of the volume among them replied ok; or, where there is none, this
abbrev pub ended_ok : Bool → List Event → Bool
ended_ok was [] = was
ended_ok was (e ∷ events) = ended_ok (if is_of_volume e.item then is_ok e.reply else was) events

-- ---- tallies

-- how many replies are ok, errors and faults
pub record Tally : Type 0 where
  pub ok : ℕ
  pub errors : ℕ
  pub faults : ℕ

-- with one reply more
abbrev pub with_reply : Reply → Tally → Tally
with_reply reply.Ok t = record t { ok = t.ok + 1 }
with_reply (reply.No code) t = record t { errors = t.errors + 1 }
with_reply reply.FaultFrame t = record t { faults = t.faults + 1 }
with_reply reply.FaultMedium t = record t { faults = t.faults + 1 }

abbrev pub tally_of : List Reply → Tally
tally_of [] = record { ok = 0; errors = 0; faults = 0 }
tally_of (r ∷ rs) = with_reply r (tally_of rs)

-- ---- what is written

-- each log and each reply; the replies alone; or, at the end, how many replies there were of each kind
pub data OutputMode : Type 0 where
  WithTrace : OutputMode
  Quiet : OutputMode
  Summary : OutputMode

abbrev pub count_line : List ℕ → ℕ → List ℕ
count_line name n = text_line (name ++ next (decimal n))

-- `generated COUNT`, `ok A`, `error B`, `fault C`
abbrev pub tally_text : ℕ → Tally → List ℕ
tally_text count t = count_line (codes "generated") count ++ count_line (codes "ok") t.ok ++ count_line (codes "error") t.errors
    ++ count_line (codes "fault") t.faults

abbrev pub summary : List Event → List ℕ
summary events = tally_text (length events) (tally_of (replies events))

abbrev pub reply_text_of : Event → List ℕ
reply_text_of e = reply_text e.item e.before e.log e.reply

-- The text of an event's reply, where what it depends on is told. Of a reply that a tape decides which is not told, it may be any.
abbrev pub IsTextOf : Event → List ℕ → Type 0
IsTextOf e text = TellsReply e.item e.before → text ≡ reply_text_of e

-- one such text for each event
abbrev pub AreTextsOf : List Event → List (List ℕ) → Type 0
AreTextsOf [] [] = Unit {0}
AreTextsOf (e ∷ events) (text ∷ texts) = IsTextOf e text × AreTextsOf events texts
AreTextsOf events texts = ⊥

-- what is written for one event, as it ends: the lines of its log, whatever the tape is, and the text of its reply
abbrev pub event_text : OutputMode → Event → List ℕ → List ℕ
event_text WithTrace e text = trace_text e.log ++ text
event_text Quiet e text = text
event_text Summary e text = []

abbrev pub event_texts : OutputMode → List Event → List (List ℕ) → List ℕ
event_texts mode (e ∷ events) (text ∷ texts) = event_text mode e text ++ event_texts mode events texts
event_texts mode events texts = []

-- what is written after the last event
abbrev pub closing_text : OutputMode → List Event → List ℕ
closing_text Summary events = summary events
closing_text _ events = []

-- all that a run writes
abbrev pub output : OutputMode → List Event → List (List ℕ) → List ℕ
output mode events texts = event_texts mode events texts ++ closing_text mode events
