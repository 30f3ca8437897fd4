-- The line of a trace for one entry of a log; the trace is this project's own.
use Rattle.std.specs.Prelude.{ℕ, ◌<◌, List, ◌++◌, codes}
use Rattle.std.specs.Fmt.{decimal}
use Rattle.il_frames.specs.declared.entry.Entry.{Entry}
use Rattle.il_frames.specs.declared.entry.Outcome.{Outcome}
use Rattle.il_frames.specs.declared.entry.Outcome.TheVariants as outcome
use Rattle.il_frames.specs.Frames.{IsFrame}
use Rattle.il_frames.specs.Texts.{text_of}

-- how the frame ended: ` = TEXT` came back, ` > Q` was taken by a party, ` ! Q` did not reach one
abbrev pub outcome_text : Outcome → List ℕ
outcome_text (outcome.Back f) = codes " = " ++ text_of f
outcome_text (outcome.Taken party) = codes " > " ++ decimal party
outcome_text (outcome.Lost party) = codes " ! " ++ decimal party

-- the line, without its line feed: `~ S TEXT`, S the frame's source, and how the frame ended. The
-- parties are in decimal
abbrev pub entry_text : Entry → List ℕ
entry_text e =
    codes "~ " ++ decimal e.source ++ codes " " ++ text_of e.frame ++ outcome_text e.outcome

-- the outcome's number, or its frame's byte, has eight bits
abbrev pub IsOutcome : Outcome → Type 0
IsOutcome (outcome.Back f) = IsFrame f
IsOutcome (outcome.Taken party) = party < 256
IsOutcome (outcome.Lost party) = party < 256

-- each number of the entry has eight bits
abbrev pub IsEntry : Entry → Type 0
IsEntry e = (e.source < 256) × IsFrame e.frame × IsOutcome e.outcome
