use Rattle.std.proofs.Common.{◌≡◌, drop}
use Rattle.tape_incoming.specs.Incoming.{after_slash, last_part}
use Rattle.tape_incoming.proofs.arriving.last_part.Given as goal

abbrev pub invariant-bytes : goal.invariant-bytes
invariant-bytes l = after_slash l.part (drop l.place l.path) ≡ last_part l.path
