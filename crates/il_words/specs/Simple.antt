-- The simple command that takes the words.
use Rattle.std.specs.Prelude.{Bool, true, false, List, [], ◌∷◌, Option, Some, None, codes}
use Rattle.std.specs.Str.{bytes_eq}
use Rattle.clap.specs.Words.{App, Rule, Row, Text, Kinds, new_app, new_rule, with_rule, matches_of, first_of, fault_of}
use Rattle.clap.specs.declared.builder.action.ArgAction.TheVariants.{Set, SetTrue}

-- an option without a value, named in full
abbrev pub flag_rule : Text → Rule
flag_rule id = record (new_rule id) { long = Some id; action = Some SetTrue }

-- an option with one value
abbrev pub valued_rule : Text → Rule
valued_rule id = record (new_rule id) { long = Some id; action = Some Set }

-- the name of the image, which must be there
abbrev pub image_rule : Rule
image_rule = record (new_rule (codes "image")) { required = true; action = Some Set }

-- a command without help and version, whose words do not begin with its name
abbrev pub bare_app : App
bare_app = let a : App = new_app (codes "il") in
    record a { top = record (a.top) { no_binary_name = true; disable_help_flag = true; disable_version_flag = true } }

-- four options without a value, three with one, and the image
unfoldable pub il_app : App
il_app = with_rule (with_rule (with_rule (with_rule (with_rule (with_rule (with_rule (with_rule bare_app
    (flag_rule (codes "new"))) (flag_rule (codes "new-disc"))) (flag_rule (codes "quiet"))) (flag_rule (codes "guest")))
    (valued_rule (codes "lose"))) (valued_rule (codes "alter"))) (valued_rule (codes "generate"))) image_rule

-- what is found, where nothing is at fault
abbrev pub unless_fault : Kinds → List Row → Option (List Row)
unless_fault [] rows = Some rows
unless_fault (kind ∷ kinds) rows = None

-- what the command finds in the words, where it takes them
abbrev pub rows_in : List Text → Option (List Row)
rows_in words = unless_fault (fault_of il_app words) (matches_of il_app words)

-- an option without a value has the text `true` where it is there
abbrev pub is_true : Option Text → Bool
is_true None = false
is_true (Some text) = bytes_eq text (codes "true")

-- whether an option without a value is there
abbrev pub is_set : Text → List Row → Bool
is_set id rows = is_true (first_of id rows)
