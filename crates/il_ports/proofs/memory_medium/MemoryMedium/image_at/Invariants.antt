use Rattle.std.proofs.Common.{◌≡◌, ◌*◌, length, take}
use Rattle.std.specs.Option.{option_copied}
use Rattle.lif_model.specs.Tape.{bytes_from}
use Rattle.lif_model.specs.History.{stopped_at}
use Rattle.il_ports.proofs.memory_medium.MemoryMedium.image_at.Given as goal

abbrev pub invariant-loop-n : goal.invariant-loop-n
invariant-loop-n l = record {
  size : length l.into ≡ length l.fn.into;
  bytes : take (256 * l.n) l.into ≡ bytes_from (stopped_at l.self.first.items l.self.history.items l.writes (option_copied l.torn)) 0 l.n;
}
