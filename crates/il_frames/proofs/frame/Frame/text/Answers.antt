-- No other frame has the text.
use Rattle.std.proofs.Common.{rules}
use Rattle.il_frames.proofs.ReadBack.{only_text}
use Rattle.il_frames.proofs.frame.Frame.text.Goals as goal

pub returns-clause-distinct : goal.returns-clause-distinct
returns-clause-distinct c = only_text _ _ c.append_frame.ensures.range (search rules)
