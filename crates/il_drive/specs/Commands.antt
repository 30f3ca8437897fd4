-- Which commands the numbers of DDL and DDT ask for. The names follow the HP 82161A Owner's Manual; the numbers are
-- this project's own.
use Rattle.std.specs.Prelude.{ℕ, ◌==◌, if◌then◌else◌, Option, Some, None}
use Rattle.il_drive.specs.declared.commands.ListenerCommand.{ListenerCommand}
use Rattle.il_drive.specs.declared.commands.ListenerCommand.TheVariants as ddl
use Rattle.il_drive.specs.declared.commands.TalkerCommand.{TalkerCommand}
use Rattle.il_drive.specs.declared.commands.TalkerCommand.TheVariants as ddt

-- DDL, to a listener
abbrev pub listener_command : ℕ → Option ListenerCommand
listener_command n =
    if n == 0 then Some ddl.FillBuffer0
    else (if n == 1 then Some ddl.FillBuffer1
    else (if n == 2 then Some ddl.Write
    else (if n == 3 then Some ddl.SetPointer
    else (if n == 4 then Some ddl.Seek
    else (if n == 6 then Some ddl.PartialWrite
    else (if n == 7 then Some ddl.Rewind
    else (if n == 8 then Some ddl.CloseRecord
    else (if n == 10 then Some ddl.CopyBuffer
    else None))))))))

-- DDT, to a talker
abbrev pub talker_command : ℕ → Option TalkerCommand
talker_command n =
    if n == 0 then Some ddt.SendBuffer0
    else (if n == 1 then Some ddt.SendBuffer1
    else (if n == 2 then Some ddt.Read
    else (if n == 3 then Some ddt.SendPosition
    else (if n == 4 then Some ddt.ExchangeBuffers
    else None))))
