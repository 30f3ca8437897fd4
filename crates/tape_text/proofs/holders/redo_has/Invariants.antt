use Rattle.std.proofs.Common.{◌≡◌, true, drop}
use Rattle.std.specs.List.{list_any}
use Rattle.tape_text.specs.Listing.{shown_files}
use Rattle.tape_text.specs.Map.{is_of_redo}
use Rattle.tape_text.proofs.holders.redo_has.Given as goal

abbrev pub invariant-slots : goal.invariant-slots
invariant-slots l = list_any (is_of_redo l.size l.record_number) (shown_files true l.size (drop l.place l.slots.slots)) ≡ list_any (is_of_redo l.size l.record_number) (shown_files true l.size l.slots.slots)
