use Rattle.std.proofs.Common.{arith}
use Rattle.tape_jobs.proofs.Copies.{name_next}
use Rattle.tape_jobs.proofs.copying.put_names_in.Goals as goal

pub slots-preserved : goal.slots-preserved
slots-preserved c = record {
  so_far = name_next c.args.size c.args.slots.now.slots c.slots.place c.get.result.now c.name_at.result c.get.ensures.slot c.name_at.ensures c.slots.names.items c.add_name.new.names.items c.slots.invariant.so_far c.add_name.ensures.names;
  few = omega (arith, c.add_name.ensures.few, c.slots.invariant.few);
  room = omega (arith, c.add_name.ensures.room, c.slots.invariant.room);
}
