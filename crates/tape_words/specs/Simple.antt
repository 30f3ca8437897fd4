-- The simple command that takes the arguments: a subcommand for each job.
use Rattle.std.specs.Prelude.{ℕ, Bool, true, false, Option, Some, None, List, codes}
use Rattle.std.specs.Str.{bytes_eq}
use Rattle.clap.specs.Words.{App, Rule, Row, Text, new_app, new_rule, with_rule, with_subcommand, first_of}
use Rattle.clap.specs.declared.builder.action.ArgAction.TheVariants.{Append, Set, SetTrue}
use Rattle.tape_words.specs.declared.jobs.Topic.{Topic}
use Rattle.tape_words.specs.declared.jobs.Topic.TheVariants as topic

-- an option without a value, named in full
abbrev pub switch_rule : Text → Rule
switch_rule id = record (new_rule id) { long = Some id; action = Some SetTrue }

-- the same, also named by one character
abbrev pub short_switch_rule : Text → ℕ → Rule
short_switch_rule id short = record (switch_rule id) { short = Some short }

-- at most one argument that is not an option
abbrev pub one_rule : Text → Rule
one_rule id = record (new_rule id) { value_names = 1; action = Some Set }

-- any number of arguments that are not options
abbrev pub several_rule : Text → Rule
several_rule id = record (new_rule id) { value_names = 1; action = Some Append }

-- a command without arguments, to which the library adds nothing
abbrev pub plain_app : Text → App
plain_app name = let a : App = new_app name in record a {
  top = record (a.top) {
    disable_help_flag = true;
    disable_help_subcommand = true;
    disable_version_flag = true;
  };
}

-- `dir [--all] [--csv] [--help] IMAGE..`
abbrev pub dir_app : App
dir_app = with_rule (with_rule (with_rule (with_rule (plain_app (codes "dir")) (several_rule (codes "image")))
    (switch_rule (codes "all"))) (switch_rule (codes "csv"))) (switch_rule (codes "help"))

-- `out [--help] IMAGE FOLDER [NAME..]`
abbrev pub out_app : App
out_app = with_rule (with_rule (with_rule (with_rule (plain_app (codes "out")) (one_rule (codes "image")))
    (one_rule (codes "folder"))) (several_rule (codes "names"))) (switch_rule (codes "help"))

-- a job on one file, as `get [--help] IMAGE NAME`
abbrev pub file_app : Text → App
file_app job = with_rule (with_rule (with_rule (plain_app job) (one_rule (codes "image"))) (one_rule (codes "name")))
    (switch_rule (codes "help"))

-- a job on one image, as `free [--help] IMAGE`
abbrev pub image_app : Text → App
image_app job = with_rule (with_rule (plain_app job) (one_rule (codes "image"))) (switch_rule (codes "help"))

-- `map [--svg] [--help] IMAGE`
abbrev pub map_app : App
map_app = with_rule (with_rule (with_rule (plain_app (codes "map")) (one_rule (codes "image"))) (switch_rule (codes "svg")))
    (switch_rule (codes "help"))

-- `diff [--help] IMAGE OTHER`
abbrev pub diff_app : App
diff_app = with_rule (with_rule (with_rule (plain_app (codes "diff")) (one_rule (codes "image"))) (one_rule (codes "other")))
    (switch_rule (codes "help"))

-- the arguments of `new` that are not options: `new IMAGE LABEL SLOTS`
abbrev pub new_volume_app : App
new_volume_app = with_rule (with_rule (with_rule (plain_app (codes "new")) (one_rule (codes "image"))) (one_rule (codes "label")))
    (one_rule (codes "slots"))

-- `new [--disc] [--small] [--help] IMAGE LABEL SLOTS`
abbrev pub new_image_app : App
new_image_app = with_rule (with_rule (with_rule new_volume_app (switch_rule (codes "disc"))) (switch_rule (codes "small")))
    (switch_rule (codes "help"))

-- a job that stores a text, as `put [-q] [--help] IMAGE NAME`; 113 is the code of `q`
abbrev pub store_app : Text → App
store_app job = with_rule (with_rule (with_rule (with_rule (plain_app job) (one_rule (codes "image"))) (one_rule (codes "name")))
    (short_switch_rule (codes "quiet") 113)) (switch_rule (codes "help"))

-- the arguments of `in`, except for `--quiet` and `--help`: `in [--over] [--mend] IMAGE FILE..`
abbrev pub in_files_app : App
in_files_app = with_rule (with_rule (with_rule (with_rule (plain_app (codes "in")) (one_rule (codes "image")))
    (several_rule (codes "files"))) (switch_rule (codes "over"))) (switch_rule (codes "mend"))

-- `in [--over] [--mend] [-q] [--help] IMAGE FILE..`
abbrev pub in_app : App
in_app = with_rule (with_rule in_files_app (short_switch_rule (codes "quiet") 113)) (switch_rule (codes "help"))

-- `purge [--help] IMAGE NAME..`
abbrev pub purge_app : App
purge_app = with_rule (with_rule (with_rule (plain_app (codes "purge")) (one_rule (codes "image"))) (several_rule (codes "names")))
    (switch_rule (codes "help"))

-- `rename [--help] IMAGE OLD NEW`
abbrev pub rename_app : App
rename_app = with_rule (with_rule (with_rule (with_rule (plain_app (codes "rename")) (one_rule (codes "image"))) (one_rule (codes "old")))
    (one_rule (codes "new"))) (switch_rule (codes "help"))

-- `help [--help] [JOB]`
abbrev pub help_app : App
help_app = with_rule (with_rule (plain_app (codes "help")) (one_rule (codes "job"))) (switch_rule (codes "help"))

abbrev pub app_for : Topic → App
app_for topic.Dir = dir_app
app_for topic.Out = out_app
app_for topic.Get = file_app (codes "get")
app_for topic.Raw = file_app (codes "raw")
app_for topic.Free = image_app (codes "free")
app_for topic.Map = map_app
app_for topic.Why = image_app (codes "why")
app_for topic.Diff = diff_app
app_for topic.New = new_image_app
app_for topic.Put = store_app (codes "put")
app_for topic.Set = store_app (codes "set")
app_for topic.In = in_app
app_for topic.Purge = purge_app
app_for topic.Rename = rename_app
app_for topic.Adopt = image_app (codes "adopt")
app_for topic.Upgrade = image_app (codes "upgrade")
app_for topic.Help = help_app

-- the command of the program, whose arguments do not begin with its name
abbrev pub top_app : App
top_app = let a : App = plain_app (codes "tape") in record a { top = record (a.top) { no_binary_name = true } }

-- the command without its jobs: two options of its own
abbrev pub program_app : App
program_app = with_rule (with_rule top_app (switch_rule (codes "help"))) (switch_rule (codes "version"))

-- the command with the jobs that read files
abbrev pub reading_app : App
reading_app = with_subcommand (with_subcommand (with_subcommand (with_subcommand program_app
    (app_for topic.Dir).top) (app_for topic.Out).top) (app_for topic.Get).top) (app_for topic.Raw).top

-- and with those that tell of images
abbrev pub telling_app : App
telling_app = with_subcommand (with_subcommand (with_subcommand (with_subcommand reading_app
    (app_for topic.Free).top) (app_for topic.Map).top) (app_for topic.Why).top) (app_for topic.Diff).top

-- and with those that make an image or store files on one
abbrev pub storing_app : App
storing_app = with_subcommand (with_subcommand (with_subcommand (with_subcommand telling_app
    (app_for topic.New).top) (app_for topic.Put).top) (app_for topic.Set).top) (app_for topic.In).top

-- and with those that change the volume of an image
abbrev pub changing_app : App
changing_app = with_subcommand (with_subcommand (with_subcommand (with_subcommand storing_app
    (app_for topic.Purge).top) (app_for topic.Rename).top) (app_for topic.Adopt).top) (app_for topic.Upgrade).top

unfoldable pub tape_app : App
tape_app = with_subcommand changing_app (app_for topic.Help).top

-- what a page of help explains: one job, or the program
abbrev pub page_app : Option Topic → App
page_app (Some topic) = app_for topic
page_app None = tape_app

-- an option without a value has the text `true` if it is given
abbrev pub is_yes : Option Text → Bool
is_yes None = false
is_yes (Some text) = bytes_eq text (codes "true")

-- whether an option without a value is given
abbrev pub is_switched_on : Text → List Row → Bool
is_switched_on id rows = is_yes (first_of id rows)
