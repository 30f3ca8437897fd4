-- What the program tells on standard error, and by which words it checks.
use Rattle.std.specs.Prelude.{ℕ, ◌==◌, ◌++◌, ◌∷◌, ◌&&◌, [], Bool, List, Option, Some, None, if◌then◌else◌, codes, get_or, length}
use Rattle.std.specs.Str.{bytes_eq}
use Rattle.il_command.specs.declared.messages.Way.{Way}
use Rattle.il_command.specs.declared.messages.Way.TheVariants.{Script, Check}

-- five words, the first of which is `check`
abbrev pub asks_for_check : List (List ℕ) → Bool
asks_for_check words = (length words == 5) && bytes_eq (get_or words 0 []) (codes "check")

abbrev pub way_of : List (List ℕ) → Way
way_of words = if asks_for_check words then Check else Script

abbrev pub usage_of : Way → List ℕ
usage_of Script = codes "il: usage: il [--new] [--new-disc] [--quiet] [--guest] [--lose LIST] [--alter LIST] [--generate SEED:COUNT] IMAGE"
usage_of Check = codes "il: usage: il check K D BEFORE AFTER"

-- The text for an exit status. There is none after a run that read its whole script, or a check that read its whole
-- trace.
abbrev pub message_of : Way → ℕ → Option (List ℕ)
message_of way status =
    if status == 2 then Some (usage_of way) else
    if status == 3 then Some (codes "il: no such image") else
    if status == 4 then Some (codes "il: image too large") else
    if status == 5 then Some (codes "il: script could not be read") else
    if status == 6 then Some (codes "il: output could not be written") else
    if status == 7 then Some (codes "il: out of memory") else
    if status == 8 then Some (codes "il: script too long") else
    if status == 9 then Some (codes "il: image could not be opened") else
    if status == 10 then Some (codes "il: image could not be read") else None

-- a text as a line, or nothing
abbrev pub as_line : Option (List ℕ) → List ℕ
as_line None = []
as_line (Some text) = text ++ 10 ∷ []

abbrev pub line_of : Way → ℕ → List ℕ
line_of way status = as_line (message_of way status)
