-- What the message has not yet passed, it passes from here on.
use Rattle.std.proofs.Common.{◌≡◌, ◌++◌, suc, take, drop}
use Rattle.loop_model.specs.Roles.{roles_along}
use Rattle.trace_readers.proofs.talkers.pass.Given as goal

abbrev pub invariant-loop-place : goal.invariant-loop-place
invariant-loop-place l =
    take l.place l.devices ++ roles_along 0 l.fn.outcome (suc l.place) l.message (drop l.place l.devices)
    ≡ roles_along 0 l.fn.outcome 1 l.fn.message l.initial.devices
