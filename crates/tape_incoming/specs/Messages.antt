-- What is written on standard error about files of the host that are not stored.
use Rattle.std.specs.Prelude.{ℕ, List, [], codes}
use Rattle.std.specs.List.{flat_map}
use Rattle.host_files.specs.declared.reading.NotRead.{NotRead}
use Rattle.host_files.specs.declared.reading.NotRead.TheVariants as not_read
use Rattle.tape_volumes.specs.Endings.{told_line}
use Rattle.tape_incoming.specs.Incoming.{RefusedFile}
use Rattle.tape_incoming.specs.declared.arriving.NotStored.{NotStored}
use Rattle.tape_incoming.specs.declared.arriving.NotStored.TheVariants as not_stored

abbrev pub not_read_cause : NotRead → List ℕ
not_read_cause not_read.Missing = codes "there is no such file"
not_read_cause not_read.NotAFile = codes "it is no file"
not_read_cause not_read.NotLooked = codes "it could not be found out what has that name"
not_read_cause not_read.NotOpened = codes "it could not be opened"
not_read_cause not_read.TooLarge = codes "it has more than 630784 bytes, the size of a disc"
not_read_cause not_read.Unread = codes "it could not be read"
not_read_cause not_read.OutOfMemory = codes "there is not enough memory"

-- why a file is not stored
abbrev pub not_stored_cause : NotStored → List ℕ
not_stored_cause not_stored.NoHostName = codes "its name is not NAME.TYPE.FIELD, a NAME of one to ten bytes, four hex digits and eight"
not_stored_cause not_stored.NoType = codes "no file has the type 0000 or FFFF"
not_stored_cause not_stored.NoNewName = codes "no file can be given that name; 'tape in --mend' mends it"
not_stored_cause (not_stored.NotRead why) = not_read_cause why

abbrev pub refused_line : RefusedFile → List ℕ
refused_line refused = told_line refused.path (not_stored_cause refused.why) []

-- one line for each
abbrev pub refused_lines : List RefusedFile → List ℕ
refused_lines refused = flat_map refused_line refused
