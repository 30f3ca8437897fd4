-- No other frame has the message, since no other has its text.
use Rattle.std.proofs.Common.{rules, arith}
use Rattle.il_frames.specs.Frames.{IsFrame}
use Rattle.il_frames.proofs.NumberLemmas.{is_in_range-is}
use Rattle.il_frames.proofs.ReadBack.{only_message}
use Rattle.il_frames.proofs.frame.Frame.message.Goals as goal

pub returns-clause-range : goal.returns-clause-range
returns-clause-range c =
    let byte : IsFrame c.args.self.now = omega arith in
    is_in_range-is c.args.self.now c.message_at.result byte (search rules)

pub returns-clause-distinct : goal.returns-clause-distinct
returns-clause-distinct c =
    let byte : IsFrame c.args.self.now = omega arith in
    only_message _ _ byte (search rules)
