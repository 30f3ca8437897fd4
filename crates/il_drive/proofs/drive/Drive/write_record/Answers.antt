use Rattle.std.proofs.Common.{refl, inr}
use Rattle.il_drive.proofs.StepLemmas.{on_tape}
use Rattle.il_drive.proofs.drive.Drive.write_record.Goals as goal

pub returns-in-Err : goal.returns-in-Err
returns-in-Err g c =
    let w = c.in-Err.ensures in
    rw (← c.self.view_is, c.fail-in-Err.ensures)
    (record {
      did = on_tape _ _ _ _ _ _ _ _ _ c.if-self-size.false c.size.ensures
          (record { stays_in = w.stays_in; shelf_told = w.goes_on.told; others = w.others; time = w.time }, inr (refl, w.content, w.goes_on.cause));
    })
