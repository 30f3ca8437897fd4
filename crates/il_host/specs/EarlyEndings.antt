-- How a run ends before its host is opened: by what reading the arguments answers, and by what the drive answers to the
-- insert.
use Rattle.std.specs.Prelude.{Option, Some, None, Result, Ok, Err}
use Rattle.il_ports.specs.declared.medium.Inserted.{Inserted}
use Rattle.il_ports.specs.declared.medium.Inserted.TheVariants as inserting
use Rattle.il_ports.specs.declared.stream.Failed.{Failed}
use Rattle.il_words.specs.declared.words.WordsFault.{WordsFault}
use Rattle.il_words.specs.declared.words.WordsFault.TheVariants as words
use Rattle.il_host.specs.declared.ending.Ending.{Ending}
use Rattle.il_host.specs.declared.ending.Ending.TheVariants as ending

-- the arguments were not read
abbrev pub unread_ending : WordsFault → Ending
unread_ending words.Refused = ending.BadWords
unread_ending words.OutOfMemory = ending.OutOfMemory

-- the image was not inserted; None if it was
abbrev pub uninserted_ending : Result Inserted Failed → Option Ending
uninserted_ending (Ok inserting.Tape) = None
uninserted_ending (Ok inserting.NoSuch) = Some ending.NoImage
uninserted_ending (Ok (inserting.BadSize size)) = Some ending.ImageTooLarge
uninserted_ending (Err fault) = Some ending.InsertFailed
