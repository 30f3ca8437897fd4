-- A generated script line by line, and what the replies to it count.
use Rattle.std.specs.Prelude.{◌≡◌, ℕ, zero, suc, ◌+◌, ◌&&◌, ◌==◌, Bool, List, Option, Some, Ok, if◌then◌else◌, codes}
use Rattle.il_script.specs.declared.reply.Reply.{Reply}
use Rattle.host_model.specs.Requests.{Item, item_of}
use Rattle.host_model.specs.Generated.{draw, drawn, stores, chosen_line}
use Rattle.host_model.specs.Runs.{Tally, Summary}
use Rattle.il_host.specs.HostView.{HostView}
use Rattle.il_host.specs.Run.{Answers}

-- ---- lines

-- the line that the draws from this state on choose, and the state after them
unfoldable pub next_line : ℕ → List ℕ
next_line x = chosen_line (drawn (draw x)) (drawn (draw (draw x))) (drawn (draw (draw (draw x))))

unfoldable pub next_state : ℕ → ℕ
next_state x = if stores (drawn (draw (draw x))) then draw (draw (draw x)) else draw (draw x)

-- the same for the line at a place: the first one is not drawn
abbrev pub line_at : ℕ → ℕ → List ℕ
line_at zero x = codes "format GENTAP 64"
line_at (suc place) x = next_line x

abbrev pub state_at : ℕ → ℕ → ℕ
state_at zero x = x
state_at (suc place) x = next_state x

-- The line is an item, which was answered so. Nothing was written.
pub record AnswersLine (line : List ℕ) (reply : Reply) (v w : HostView) : Type 0 where
  pub item : Item
  pub asks : item_of (Some line) ≡ Some item
  pub answers : (written : Option (List ℕ)) → Answers {E = Unit {0}} item reply Summary v w written written (Ok tt)

-- ---- counts

-- how many replies were counted
abbrev pub total : Tally → ℕ
total t = t.ok + t.errors + t.faults

-- each of them is ok
abbrev pub is_all_ok : Tally → Bool
is_all_ok t = t.errors == 0 && t.faults == 0
