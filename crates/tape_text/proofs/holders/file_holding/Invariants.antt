use Rattle.std.proofs.Common.{◌≡◌, ◌≤◌, ◌<◌, ◌^◌, false, drop}
use Rattle.tape_text.specs.Listing.{shown_files}
use Rattle.tape_text.specs.Map.{file_holding}
use Rattle.tape_text.proofs.holders.file_holding.Given as goal

abbrev pub invariant-slots : goal.invariant-slots
invariant-slots l = record {
  rest : file_holding l.record_number l.number (shown_files false l.size (drop l.place l.slots.slots)) ≡ file_holding l.record_number 0 (shown_files false l.size l.slots.slots);
  few : l.number ≤ l.place;
  end : l.place-end < 2 ^ 32;
}
