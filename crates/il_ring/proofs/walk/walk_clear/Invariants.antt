use Rattle.std.proofs.Common.{◌≡◌, ◌+◌, Some, take, drop, map}
use Rattle.il_ring.specs.Books.{KeepsBooks}
use Rattle.il_ring.specs.Journeys.{Journey, trip_of}
use Rattle.il_ring.proofs.walk.walk_clear.Given as goal

abbrev pub invariant-loop-device : goal.invariant-loop-device
invariant-loop-device g l =
    Journey l.initial.books.plan l.initial.party (trip_of l.initial.books (Some l.initial.on)) (map g.D.Device.state (take l.device-index l.initial.devices)) (trip_of l.books (Some l.on)) (map g.D.Device.state (take l.device-index l.devices))
    × (drop l.device-index l.devices ≡ drop l.device-index l.initial.devices)
    × KeepsBooks l.device-index l.initial.books l.books
    × (l.party ≡ l.initial.party + l.device-index)
    × (l.books.crossings ≡ l.initial.books.crossings + l.device-index)
