-- The status by which the drive tells a fault. The numbers are this project's own.
use Rattle.std.specs.Prelude.{ℕ}
use Rattle.il_drive.specs.declared.mode.Fault.{Fault}
use Rattle.il_drive.specs.declared.mode.Fault.TheVariants as fault

abbrev pub status_of_fault : Fault → ℕ
status_of_fault fault.Unread = 1
status_of_fault fault.Unwritten = 2
status_of_fault fault.NoRecord = 3
