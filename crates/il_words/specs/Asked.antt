-- What the words ask for.
use Rattle.std.specs.Prelude.{ℕ, Bool, true, false, List, Option, Some, None, codes, option_map, option_and_then}
use Rattle.clap.specs.Words.{Row, Text, first_of}
use Rattle.il_ports.specs.Inserting.{records_made}
use Rattle.il_ports.specs.declared.medium.New.{New}
use Rattle.il_ports.specs.declared.medium.New.TheVariants.{No, Tape, Disc}
use Rattle.il_ring.specs.declared.plan.Planned.{Planned}
use Rattle.il_words.specs.declared.words.Words.{Words}
use Rattle.il_words.specs.Generating.{script_in}
use Rattle.il_words.specs.Planning.{plan_by}
use Rattle.il_words.specs.Simple.{is_set, rows_in}

-- what is asked for
pub record Asked : Type 0 where
  -- the name of the image, and how many records it is to have where it is missing, if it is to be made then
  pub image : List ℕ
  pub made : Option ℕ
  -- the faults that are planned
  pub plan : List Planned
  pub quiet : Bool
  -- a second controller stands on the loop
  pub guest : Bool
  -- the seed and the number of lines of a script that is generated
  pub generated : Option (ℕ × ℕ)

-- what is made where there is no image; a tape and a disc together are refused
abbrev pub made_by : Bool → Bool → Option New
made_by false false = Some No
made_by true false = Some Tape
made_by false true = Some Disc
made_by true true = None

-- the script of `--generate`, if that is given
abbrev pub script_if : Option Text → Option (Option (ℕ × ℕ))
script_if None = Some None
script_if (Some text) = option_map Some (script_in text)

-- the parts together, where each is there
abbrev pub asked_of : Option Text → Option New → Option (List Planned) → Bool → Bool → Option (Option (ℕ × ℕ))
    → Option Asked
asked_of (Some image) (Some made) (Some plan) quiet guest (Some generated) =
    Some (record {
      image = image;
      made = records_made made;
      plan = plan;
      quiet = quiet;
      guest = guest;
      generated = generated;
    })
asked_of _ _ _ _ _ _ = None

-- what the values ask for, where each is in its grammar
abbrev pub asked_in : List Row → Option Asked
asked_in rows = asked_of
    (first_of (codes "image") rows)
    (made_by (is_set (codes "new") rows) (is_set (codes "new-disc") rows))
    (plan_by (first_of (codes "lose") rows) (first_of (codes "alter") rows))
    (is_set (codes "quiet") rows)
    (is_set (codes "guest") rows)
    (script_if (first_of (codes "generate") rows))

-- what the words ask for: nothing exactly where the command does not take them, or a value is not in its grammar
abbrev pub words_in : List Text → Option Asked
words_in words = option_and_then asked_in (rows_in words)

-- what was read
abbrev pub asked_by : Words → Asked
asked_by w = record {
  image = w.image.now;
  made = records_made w.made;
  plan = w.plan.items;
  quiet = w.quiet;
  guest = w.guest;
  generated = option_map (λ script. (script.seed, script.count)) w.generated;
}
