use Rattle.std.proofs.Common.{◌≡◌, drop}
use Rattle.std.specs.List.{list_all}
use Rattle.tape_changes.specs.Changing.{was_made}
use Rattle.tape_changes.proofs.changing.all_made.Given as goal

abbrev pub invariant-replies : goal.invariant-replies
invariant-replies l = list_all was_made l.replies ≡ list_all was_made (drop l.reply-index l.replies)
