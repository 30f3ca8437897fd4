-- What the definitions say of a few paths.
use Rattle.std.proofs.Common.{◌≡◌, refl}
use Rattle.std.specs.Prelude.{codes}
use Rattle.tape_incoming.specs.Incoming.{last_part}

behind_slashes : last_part (codes "a/b/STARTUP.E214.12060000") ≡ codes "STARTUP.E214.12060000"
behind_slashes = refl

without_slash : last_part (codes "STARTUP.E214.12060000") ≡ codes "STARTUP.E214.12060000"
without_slash = refl
