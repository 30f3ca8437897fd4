use Rattle.std.proofs.Common.{refl}
use Rattle.tape.proofs.hosted.HostedJob.work.Goals as goal

pub returns-clause-worked : goal.returns-clause-worked
returns-clause-worked g c =
    let did = c.work-self.ensures in record {
      told = c.args.self.now.job;
      did = (refl, did.does);
      size = did.size;
      stops = did.beside.stops;
      images = record { same = did.beside.same; others = did.beside.others };
    }
