-- The frames of a controller that polls, by name, as far as logs of the host have none. Source: HP-IL
-- Interface Specification, HP 82166-90017, the tables of command and ready messages.
use Rattle.il_frames.specs.declared.frame.Frame.{Frame}
use Rattle.il_frames.specs.NamedFrames.{command, ready}

-- no operation
abbrev pub nop : Frame
nop = command 0x10

-- send status
abbrev pub sst : Frame
sst = ready 0x61

-- take control
abbrev pub tct : Frame
tct = ready 0x64
