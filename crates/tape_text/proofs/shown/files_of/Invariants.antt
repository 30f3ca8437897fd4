use Rattle.std.proofs.Common.{◌≡◌, ◌≤◌, ◌<◌, ◌^◌, length, take}
use Rattle.tape_text.specs.Listing.{shown_files}
use Rattle.tape_text.proofs.shown.files_of.Given as goal

abbrev pub invariant-slots : goal.invariant-slots
invariant-slots l = record {
  count : l.files ≡ length (shown_files l.all l.size (take l.place l.slots.slots));
  few : l.files ≤ l.place;
  end : l.place-end < 2 ^ 32;
}
