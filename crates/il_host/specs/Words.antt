-- What a run makes of the words of the program.
use Rattle.std.specs.Prelude.{ℕ, List, Option, option_map}
use Rattle.il_words.specs.declared.generate.Generated.{Generated}
use Rattle.il_words.specs.Asked.{Asked, words_in}
use Rattle.host_model.specs.Orders.{Order}

-- a script that is generated, by its seed and its number of lines
abbrev pub script_of : Generated → ℕ × ℕ
script_of generated = (generated.seed, generated.count)

abbrev pub order_of : Asked → Order
order_of asked = record { image = asked.image; made = asked.made; guest = asked.guest; plan = asked.plan; quiet = asked.quiet; generated = asked.generated }

-- None where the words are not those of the program
abbrev pub order_in : List (List ℕ) → Option Order
order_in words = option_map order_of (words_in words)
