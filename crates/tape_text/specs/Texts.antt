-- What `tape get` and `tape raw` write of a text file.
use Rattle.std.specs.Prelude.{◌++◌, ◌∷◌, ℕ, List, [], length, min, Option, option_map}
use Rattle.std.specs.List.{flat_map}
use Rattle.lif_text.specs.Format.{encode}
use Rattle.lif_text.specs.Pieces.{lines_in}

-- a line, and the line feed that ends it
abbrev pub fed_line : List ℕ → List ℕ
fed_line line = line ++ 10 ∷ []

-- the lines of a text; None if the bytes are no text
abbrev pub text_lines : List ℕ → Option (List ℕ)
text_lines bytes = option_map (λ lines. flat_map fed_line lines) (lines_in bytes)

-- How many of the bytes a text takes, with the mark that ends it, if it has one. None if the bytes are no text.
abbrev pub text_size : List ℕ → Option ℕ
text_size bytes = option_map (λ lines. min (length (encode lines)) (length bytes)) (lines_in bytes)
