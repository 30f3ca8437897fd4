-- What the arguments ask for.
use Rattle.std.specs.Prelude.{Bool, List, [], ◌∷◌, map, Option, Some, None, codes, option_map, option_and_then, unwrap_or, if◌then◌else◌, Result, Ok, Err, String}
use Rattle.std.specs.declared.alloc.AllocError.{AllocError}
use Rattle.std.specs.declared.alloc.Global.{Global}
use Rattle.std.specs.Option.{option_or}
use Rattle.std.specs.Str.{bytes_eq}
use Rattle.clap.specs.Words.{Row, Text, Kinds, first_of, all_of, fault_of, matches_of, subcommand_of, found_of, rows_of, subcommand_rows_of}
use Rattle.clap.specs.declared.parser.matches.ArgMatches.{ArgMatches}
use Rattle.tape_words.specs.declared.jobs.Job.{Job}
use Rattle.tape_words.specs.declared.jobs.Job.TheVariants as job
use Rattle.tape_words.specs.declared.jobs.Topic.{Topic}
use Rattle.tape_words.specs.declared.jobs.Topic.TheVariants as topic
use Rattle.tape_words.specs.declared.command.NotRead.{NotRead}
use Rattle.tape_words.specs.declared.command.NotRead.TheVariants as not_read
use Rattle.tape_words.specs.Simple.{tape_app, is_switched_on}

-- what is asked for
pub data Wanted : Type 0 where
  -- a listing of the images: with the redo file, as comma-separated values
  Dir : (all csv : Bool) (images : List Text) → Wanted
  -- the files of these names copied from the image into the folder; all files if there is no name
  Out : (image folder : Text) (names : List Text) → Wanted
  -- the lines of a text file, printed
  Get : (image name : Text) → Wanted
  -- the bytes of a file
  Raw : (image name : Text) → Wanted
  -- how much room the image has
  Free : (image : Text) → Wanted
  -- a picture of the records of the image, as an SVG file or not
  Map : (svg : Bool) (image : Text) → Wanted
  -- why the image can or cannot be listed and changed
  Why : (image : Text) → Wanted
  -- how the files of the two images differ
  Diff : (image other : Text) → Wanted
  -- a new image with a volume of this label: of a disc or of a tape, with a small redo file or a large one
  New : (disc small : Bool) (image label slots : Text) → Wanted
  -- a text from standard input stored as a new file, with its name printed or not
  Put : (quiet : Bool) (image name : Text) → Wanted
  -- the same, as a new file or in place of a text of that name
  Set : (quiet : Bool) (image name : Text) → Wanted
  -- host files stored on the image: in place of files of the same names or not, with names changed that the volume
  -- cannot take or not, and with the stored names printed or not
  In : (over mend quiet : Bool) (image : Text) (files : List Text) → Wanted
  -- the files of these names purged
  Purge : (image : Text) (names : List Text) → Wanted
  -- a file renamed
  Rename : (image old new : Text) → Wanted
  -- a redo file on the volume of another program
  Adopt : (image : Text) → Wanted
  -- a redo file of version 2
  Upgrade : (image : Text) → Wanted
  -- an explanation of one job, or of the program
  Help : (topic : Option Topic) → Wanted
  Version : Wanted

-- the job of this name, if it reads images
abbrev pub reading_topic : Text → Option Topic
reading_topic name =
    if bytes_eq name (codes "dir") then Some topic.Dir
    else if bytes_eq name (codes "out") then Some topic.Out
    else if bytes_eq name (codes "get") then Some topic.Get
    else if bytes_eq name (codes "raw") then Some topic.Raw
    else if bytes_eq name (codes "free") then Some topic.Free
    else if bytes_eq name (codes "map") then Some topic.Map
    else if bytes_eq name (codes "why") then Some topic.Why
    else if bytes_eq name (codes "diff") then Some topic.Diff
    else None

-- the job of this name, if it makes an image or stores files on one
abbrev pub storing_topic : Text → Option Topic
storing_topic name =
    if bytes_eq name (codes "new") then Some topic.New
    else if bytes_eq name (codes "put") then Some topic.Put
    else if bytes_eq name (codes "set") then Some topic.Set
    else if bytes_eq name (codes "in") then Some topic.In
    else None

-- the job of this name, if it changes the volume of an image; or that of help
abbrev pub changing_topic : Text → Option Topic
changing_topic name =
    if bytes_eq name (codes "purge") then Some topic.Purge
    else if bytes_eq name (codes "rename") then Some topic.Rename
    else if bytes_eq name (codes "adopt") then Some topic.Adopt
    else if bytes_eq name (codes "upgrade") then Some topic.Upgrade
    else if bytes_eq name (codes "help") then Some topic.Help
    else None

-- the job of this name
abbrev pub topic_in : Text → Option Topic
topic_in name = option_or (option_or (reading_topic name) (storing_topic name)) (changing_topic name)

-- help for the program, or for the job that is named; a name of no job is refused
abbrev pub help_in : Option Text → Option Wanted
help_in None = Some (Help None)
help_in (Some name) = option_map (λ t. Help (Some t)) (topic_in name)

-- two arguments of one value each, if both are given
abbrev pub pair_in : Text → Text → List Row → Option (Text × Text)
pair_in first second rows =
    option_and_then (λ a. option_map (λ b. (a, b)) (first_of second rows)) (first_of first rows)

-- three arguments of one value each, if all are given
abbrev pub triple_in : Text → Text → Text → List Row → Option (Text × Text × Text)
triple_in first second third rows =
    option_and_then (λ p. option_map (λ c. (p.0, p.1, c)) (first_of third rows)) (pair_in first second rows)

-- what the job is asked with its own arguments; a job is refused without those that it needs
abbrev pub asked_for : Topic → List Row → Option Wanted
asked_for topic.Dir rows =
    option_map (Dir (is_switched_on (codes "all") rows) (is_switched_on (codes "csv") rows)) (all_of (codes "image") rows)
asked_for topic.Out rows =
    option_map (λ p. Out p.0 p.1 (unwrap_or (all_of (codes "names") rows) [])) (pair_in (codes "image") (codes "folder") rows)
asked_for topic.Get rows = option_map (λ p. Get p.0 p.1) (pair_in (codes "image") (codes "name") rows)
asked_for topic.Raw rows = option_map (λ p. Raw p.0 p.1) (pair_in (codes "image") (codes "name") rows)
asked_for topic.Free rows = option_map Free (first_of (codes "image") rows)
asked_for topic.Map rows = option_map (Map (is_switched_on (codes "svg") rows)) (first_of (codes "image") rows)
asked_for topic.Why rows = option_map Why (first_of (codes "image") rows)
asked_for topic.Diff rows = option_map (λ p. Diff p.0 p.1) (pair_in (codes "image") (codes "other") rows)
asked_for topic.New rows =
    option_map (λ t. New (is_switched_on (codes "disc") rows) (is_switched_on (codes "small") rows) t.0 t.1 t.2)
    (triple_in (codes "image") (codes "label") (codes "slots") rows)
asked_for topic.Put rows =
    option_map (λ p. Put (is_switched_on (codes "quiet") rows) p.0 p.1) (pair_in (codes "image") (codes "name") rows)
asked_for topic.Set rows =
    option_map (λ p. Set (is_switched_on (codes "quiet") rows) p.0 p.1) (pair_in (codes "image") (codes "name") rows)
asked_for topic.In rows = option_and_then
    (λ i. option_map
    (In (is_switched_on (codes "over") rows) (is_switched_on (codes "mend") rows)
    (is_switched_on (codes "quiet") rows) i)
    (all_of (codes "files") rows))
    (first_of (codes "image") rows)
asked_for topic.Purge rows =
    option_and_then (λ i. option_map (Purge i) (all_of (codes "names") rows)) (first_of (codes "image") rows)
asked_for topic.Rename rows =
    option_map (λ t. Rename t.0 t.1 t.2) (triple_in (codes "image") (codes "old") (codes "new") rows)
asked_for topic.Adopt rows = option_map Adopt (first_of (codes "image") rows)
asked_for topic.Upgrade rows = option_map Upgrade (first_of (codes "image") rows)
asked_for topic.Help rows = help_in (first_of (codes "job") rows)

-- the job of this name; its `--help` goes before its other arguments
abbrev pub asked_as : Text → List Row → Option Wanted
asked_as name rows = option_and_then
    (λ t. if is_switched_on (codes "help") rows then Some (Help (Some t)) else asked_for t rows) (topic_in name)

-- the program's `--help` goes before its `--version`, and that before a job; without any of them nothing is asked
abbrev pub job_in : List Row → Option (Text × List Row) → Option Wanted
job_in rows sub =
    if is_switched_on (codes "help") rows then Some (Help None)
    else if is_switched_on (codes "version") rows then Some Version
    else option_and_then (λ s. asked_as s.0 s.1) sub

abbrev pub unless_faulty : Kinds → Option Wanted → Option Wanted
unless_faulty [] asked = asked
unless_faulty (kind ∷ kinds) asked = None

-- what the arguments ask for: none if and only if they are refused
abbrev pub arguments_in : List Text → Option Wanted
arguments_in words = unless_faulty (fault_of tape_app words) (job_in (matches_of tape_app words) (subcommand_of tape_app words))

-- what was found asks for
abbrev pub job_found_in : ArgMatches → Option Wanted
job_found_in m = job_in (rows_of (found_of m)) (subcommand_rows_of m)

-- what was read
abbrev pub job_asked : Job → Wanted
job_asked (job.Dir all csv images) = Dir all csv (map (λ s. s.now) images.now)
job_asked (job.Out image folder names) = Out image.now folder.now (map (λ s. s.now) names.now)
job_asked (job.Get image name) = Get image.now name.now
job_asked (job.Raw image name) = Raw image.now name.now
job_asked (job.Free image) = Free image.now
job_asked (job.Map svg image) = Map svg image.now
job_asked (job.Why image) = Why image.now
job_asked (job.Diff image other) = Diff image.now other.now
job_asked (job.New disc small image label slots) = New disc small image.now label.now slots.now
job_asked (job.Put quiet image name) = Put quiet image.now name.now
job_asked (job.Set quiet image name) = Set quiet image.now name.now
job_asked (job.In over mend quiet image files) = In over mend quiet image.now (map (λ s. s.now) files.now)
job_asked (job.Purge image names) = Purge image.now (map (λ s. s.now) names.now)
job_asked (job.Rename image old new) = Rename image.now old.now new.now
job_asked (job.Adopt image) = Adopt image.now
job_asked (job.Upgrade image) = Upgrade image.now
job_asked (job.Help topic) = Help topic
job_asked job.Version = Version

-- a refusal with this message, if there was memory for it
abbrev pub told_by : Result (String Global) AllocError → NotRead
told_by (Ok text) = not_read.Refused text
told_by (Err error) = not_read.OutOfMemory

-- the fact, if the arguments are refused; nothing is said about want of memory
abbrev pub IfRefused : Type 0 → NotRead → Type 0
IfRefused P (not_read.Refused text) = P
IfRefused P not_read.OutOfMemory = Unit {0}
