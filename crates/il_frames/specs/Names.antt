-- Which frame a text can only be the text of, by the two tables of names of the code. That it is no
-- other frame's is what `Frame::read_text` says by the texts alone.
use Rattle.std.specs.Prelude.{ℕ, ◌+◌, ◌%◌, ◌==◌, Bool, Option, Some, None, Result, Ok, Err, List, [], ◌∷◌, find, slice_index, nat_eq}
use Rattle.std.specs.Cmp.Lexicographic.{pointwise}
use Rattle.hex.specs.Hex.{decode_sized}
use Rattle.hex.specs.declared.error.FromHexError.{FromHexError}
use Rattle.il_frames.specs.declared.frame.Frame.{Frame}
use Rattle.il_frames.specs.declared.names.Name.{Name}
use Rattle.il_frames.specs.declared.names.TheConstants.{ALONE, NUMBERED}
use Rattle.il_frames.specs.Frames.{framed}

-- the row of a table that has these letters
abbrev pub row_of : List Name → List ℕ → Option Name
row_of rows letters = find (λ row. pointwise nat_eq row.0 letters) rows

-- the first three bytes of a text, 0 past its end
abbrev pub letters_of : List ℕ → List ℕ
letters_of text = slice_index text 0 ∷ slice_index text 1 ∷ slice_index text 2 ∷ []

-- the one byte that was decoded
abbrev pub decoded : Result (List ℕ) FromHexError → Option ℕ
decoded (Ok []) = None
decoded (Ok (byte ∷ rest)) = Some byte
decoded (Err e) = None

-- the number whose hex digits are the fifth and sixth byte of a text
abbrev pub number_in : List ℕ → Option ℕ
number_in text = decoded (decode_sized (slice_index text 4 ∷ slice_index text 5 ∷ []) 1)

-- the frame of a row without a number, or else of a row and its number
abbrev pub frame_named : Option Name → Option Name → Option ℕ → Option Frame
frame_named (Some row) numbered number = Some (framed row.1 row.2)
frame_named None None number = None
frame_named None (Some row) None = None
frame_named None (Some row) (Some number) = Some (framed row.1 ((row.2 + number) % 256))

-- the frame that a text can only be the text of
abbrev pub candidate_of : List ℕ → Option Frame
candidate_of text =
    frame_named (row_of ALONE (letters_of text)) (row_of NUMBERED (letters_of text)) (number_in text)

-- the byte is a space
abbrev pub is_space : ℕ → Bool
is_space byte = byte == 32
