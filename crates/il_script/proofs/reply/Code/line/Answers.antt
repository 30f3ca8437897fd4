use Rattle.std.proofs.Common.{ap, sym}
use Rattle.std.specs.Fmt.{digits}
use Rattle.il_script.specs.Replies.{error_line}
use Rattle.il_script.proofs.reply.Code.line.Goals as goal

pub returns-in-BadLine-clause-text : goal.returns-in-BadLine-clause-text
unfolding digits
returns-in-BadLine-clause-text c = sym (ap error_line c.in-BadLine.is)

pub returns-in-LineTooLong-clause-text : goal.returns-in-LineTooLong-clause-text
unfolding digits
returns-in-LineTooLong-clause-text c = sym (ap error_line c.in-LineTooLong.is)

pub returns-in-NotLif-clause-text : goal.returns-in-NotLif-clause-text
unfolding digits
returns-in-NotLif-clause-text c = sym (ap error_line c.in-NotLif.is)

pub returns-in-NoFile-clause-text : goal.returns-in-NoFile-clause-text
unfolding digits
returns-in-NoFile-clause-text c = sym (ap error_line c.in-NoFile.is)

pub returns-in-Exists-clause-text : goal.returns-in-Exists-clause-text
unfolding digits
returns-in-Exists-clause-text c = sym (ap error_line c.in-Exists.is)

pub returns-in-NoSlot-clause-text : goal.returns-in-NoSlot-clause-text
unfolding digits
returns-in-NoSlot-clause-text c = sym (ap error_line c.in-NoSlot.is)

pub returns-in-NoRoom-clause-text : goal.returns-in-NoRoom-clause-text
unfolding digits
returns-in-NoRoom-clause-text c = sym (ap error_line c.in-NoRoom.is)

pub returns-in-NoRedo-clause-text : goal.returns-in-NoRedo-clause-text
unfolding digits
returns-in-NoRedo-clause-text c = sym (ap error_line c.in-NoRedo.is)

pub returns-in-BadName-clause-text : goal.returns-in-BadName-clause-text
unfolding digits
returns-in-BadName-clause-text c = sym (ap error_line c.in-BadName.is)

pub returns-in-InUse-clause-text : goal.returns-in-InUse-clause-text
unfolding digits
returns-in-InUse-clause-text c = sym (ap error_line c.in-InUse.is)

pub returns-in-Protected-clause-text : goal.returns-in-Protected-clause-text
unfolding digits
returns-in-Protected-clause-text c = sym (ap error_line c.in-Protected.is)

pub returns-in-NoPrinter-clause-text : goal.returns-in-NoPrinter-clause-text
unfolding digits
returns-in-NoPrinter-clause-text c = sym (ap error_line c.in-NoPrinter.is)

pub returns-in-BatchTooLarge-clause-text : goal.returns-in-BatchTooLarge-clause-text
unfolding digits
returns-in-BatchTooLarge-clause-text c = sym (ap error_line c.in-BatchTooLarge.is)

pub returns-in-NeedsUpgrade-clause-text : goal.returns-in-NeedsUpgrade-clause-text
unfolding digits
returns-in-NeedsUpgrade-clause-text c = sym (ap error_line c.in-NeedsUpgrade.is)

pub returns-in-OutOfOrder-clause-text : goal.returns-in-OutOfOrder-clause-text
unfolding digits
returns-in-OutOfOrder-clause-text c = sym (ap error_line c.in-OutOfOrder.is)

pub returns-in-NotText-clause-text : goal.returns-in-NotText-clause-text
unfolding digits
returns-in-NotText-clause-text c = sym (ap error_line c.in-NotText.is)

pub returns-in-NoTaker-clause-text : goal.returns-in-NoTaker-clause-text
unfolding digits
returns-in-NoTaker-clause-text c = sym (ap error_line c.in-NoTaker.is)
