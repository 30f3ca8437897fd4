-- The value of `--generate`: SEED:COUNT.
use Rattle.std.specs.Prelude.{ℕ, List, Option, Some, codes, option_and_then, if◌then◌else◌}
use Rattle.std.specs.Option.{option_zip}
use Rattle.std.specs.Str.{bytes_eq}
use Rattle.il_script.specs.Digits.{number_up_to}
use Rattle.il_words.specs.Halves.{halves_of}

-- 0, or a number without a leading zero that is below 2^31
abbrev pub seed_in : List ℕ → Option ℕ
seed_in text = if bytes_eq text (codes "0") then Some 0 else number_up_to 2147483647 text

-- 1 to 10000
abbrev pub count_in : List ℕ → Option ℕ
count_in text = number_up_to 10000 text

-- a seed, a colon and a number of lines
abbrev pub script_in : List ℕ → Option (ℕ × ℕ)
script_in text = option_and_then (λ (seed, count). option_zip (seed_in seed) (count_in count)) (halves_of text)
