-- No other entry has the line.
use Rattle.std.proofs.Common.{rules}
use Rattle.il_frames.specs.Entries.{IsEntry}
use Rattle.il_frames.proofs.EntryLemmas.{only_entry}
use Rattle.il_frames.proofs.entry.Entry.text.Goals as goal

pub returns-clause-distinct : goal.returns-clause-distinct
returns-clause-distinct c =
    let numbers : IsEntry c.args.self.now = (c.append_party.ensures.range, c.append_frame.ensures.range, c.append_outcome.ensures.range) in
    only_entry _ _ numbers (search rules)
