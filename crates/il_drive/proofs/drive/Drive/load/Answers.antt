use Rattle.std.proofs.Common.{refl, inl, arith}
use Rattle.il_drive.proofs.StepLemmas.{on_tape}
use Rattle.il_drive.proofs.drive.Drive.load.Goals as goal

pub returns-in-Ok : goal.returns-in-Ok
returns-in-Ok g c =
    let r = c.in-Ok.ensures in
    rw (← c.self.view_is)
    (record {
      did = on_tape _ _ _ _ _ _ _ _ _ c.if-self-size.false c.size.ensures
          (record { stays_in = r.stays_in; tape = r.tape; shelf = r.shelf; moment = r.moment; since = r.since }, inl (record { bytes = c.read.new.into; content = r.content; value = refl; count = r.goes_on.cause }));
      within = λ e. omega (arith, r.stays_in.size, c.size.ensures, c.if-self-size.false, c.self.invariant.position);
      small = omega (arith, r.stays_in.size, c.size.ensures, c.size.type_inv);
    })
