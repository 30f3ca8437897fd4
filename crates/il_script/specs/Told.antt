-- What is said of a line.
use Rattle.std.specs.Prelude.{ℕ, if◌then◌else◌, nat_le}
use Rattle.il_script.specs.declared.limits.TheConstants.{LONGEST_LINE}
use Rattle.il_script.specs.declared.lines.Line.{Line}
use Rattle.il_script.specs.declared.lines.Line.TheVariants.{Text, TooLong}

-- a line of so many bytes
abbrev pub line_of_length : ℕ → Line
line_of_length n = if nat_le n LONGEST_LINE then Text else TooLong
