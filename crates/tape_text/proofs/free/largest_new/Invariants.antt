use Rattle.std.proofs.Common.{◌≤◌, ◌<◌, ◌+◌, ◌-◌}
use Rattle.tape_text.specs.Free.{largest_new}
use Rattle.tape_text.proofs.free.largest_new.Given as goal

abbrev pub invariant-search : goal.invariant-search
invariant-search l = record {
  least : l.most ≤ largest_new l.size l.header l.slots.slots;
  greatest : largest_new l.size l.header l.slots.slots < l.beyond;
  within : l.beyond ≤ l.size + 1;
}

abbrev pub decreases-search : goal.decreases-search
decreases-search l = l.beyond - l.most
