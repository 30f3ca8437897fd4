use Rattle.std.proofs.Common.{arith}
use Rattle.tape.proofs.Wholes.{bytes_all}
use Rattle.tape.proofs.whole.read_tape.Goals as goal

pub returns : goal.returns
returns g c =
    let held = c.records.invariant in
    let law = g.met.M.Medium.is_medium c.args.medium.now in
    record {
      content = λ t is. bytes_all t c.records.n (omega (arith, (law.is_tape t is).records, c.size-size.ensures, c.records-test.false)) c.records.bytes.items (held.content t is);
      count = omega (arith, held.count, c.size-size.ensures, c.records-test.false, c.records.auto.n-end);
      tape = held.tape;
      inside = held.inside;
      shelf = held.shelf;
      faults = held.faults;
      since = held.since;
    }
