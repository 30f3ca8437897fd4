-- Worked examples, computed by the checker. The text hi, an empty line, y.
use Rattle.std.proofs.Common.{◌≡◌, ℕ, true, false, List, [], ◌∷◌, ◌++◌, Some, None, Ok, Err, codes, replicate, inl, inr, refl, arith}
use Rattle.std.proofs.lemmas.List.{length-replicate}
use Rattle.lif_text.specs.declared.pieces.Piece.TheVariants.{Line, End}
use Rattle.lif_text.specs.declared.pieces.TextFault.TheVariants.{Length, Short}
use Rattle.lif_text.specs.Cutting.{is_no_feed, with_first, cut_lines, long_from, long_line}
use Rattle.lif_text.specs.Format.{IsTextLine, IsEnd, Text, two_bytes, filler_after, spelling, encode}
use Rattle.lif_text.specs.Pieces.{with_filler, piece_of_length, piece_at, line_before, lines_in, lines_from, IsWithin}
use Rattle.lif_text.proofs.Cuts.{long_one}
use Rattle.lif_text.proofs.Reading.{text_read}

three : List (List ℕ)
three = codes "hi" ∷ [] ∷ codes "y" ∷ []

-- ---- the format

lengths : (two_bytes 2 ≡ 0 ∷ 2 ∷ []) × (two_bytes 32767 ≡ 127 ∷ 255 ∷ [])
lengths = (refl, refl)

fillers : (filler_after 1 7 ≡ 7 ∷ []) × (filler_after 2 7 ≡ []) × (filler_after 0 7 ≡ []) × (with_filler 3 ≡ 4) × (with_filler 4 ≡ 4)
fillers = (refl, refl, refl, refl, refl)

spelt : (spelling 0 (codes "hi") ≡ 0 ∷ 2 ∷ 104 ∷ 105 ∷ []) × (spelling 0 (codes "y") ≡ 0 ∷ 1 ∷ 121 ∷ 0 ∷ []) × (spelling 9 [] ≡ 0 ∷ 0 ∷ [])
spelt = (refl, refl, refl)

made : encode three ≡ 0 ∷ 2 ∷ 104 ∷ 105 ∷ 0 ∷ 0 ∷ 0 ∷ 1 ∷ 121 ∷ 0 ∷ 255 ∷ 255 ∷ []
unfolding three
made = refl

shorts : IsTextLine [] × (IsTextLine (replicate 32768 0) → ⊥)
shorts = (omega arith, λ short. omega (arith, length-replicate {A = ℕ} 32768 0))

-- one byte ends no text
ends : IsEnd [] × IsEnd (255 ∷ 255 ∷ 1 ∷ []) × (IsEnd (255 ∷ []) → ⊥)
ends = (inl refl, inr (1 ∷ [], refl), λ is. elim is [ inl none ↦ cc | inr mark ↦ let h = mark.1 in cc ])

-- a filler of any value, and no mark at the end
text : Text (codes "y" ∷ []) (0 ∷ 1 ∷ 121 ∷ 9 ∷ [])
text = (9, [], refl, omega arith, inl refl)

no_text : (lines : List (List ℕ)) → Text lines (128 ∷ 0 ∷ []) → ⊥
unfolding lines_in
no_text lines is = let h : None ≡ Some lines = text_read lines (128 ∷ 0 ∷ []) is in cc

-- ---- what is read

lines_read : (lines_in (0 ∷ 2 ∷ 104 ∷ 105 ∷ 0 ∷ 0 ∷ 0 ∷ 1 ∷ 121 ∷ 9 ∷ []) ≡ Some three) × (lines_in (255 ∷ 255 ∷ 1 ∷ []) ≡ Some [])
    × (lines_in (0 ∷ 1 ∷ 121 ∷ []) ≡ None) × (lines_in (0 ∷ 0 ∷ 255 ∷ []) ≡ None) × (lines_in (255 ∷ 254 ∷ []) ≡ None)
unfolding lines_in three
lines_read = (refl, refl, refl, refl, refl)

pieces : (piece_at (0 ∷ 1 ∷ 121 ∷ 9 ∷ []) 0 ≡ Ok (Line 2 3 4)) × (piece_at (0 ∷ 1 ∷ 121 ∷ 9 ∷ []) 4 ≡ Ok End) × (piece_at (9 ∷ 255 ∷ 255 ∷ []) 1 ≡ Ok End)
pieces = (refl, refl, refl)

faults : (piece_at (9 ∷ 128 ∷ 0 ∷ []) 1 ≡ Err (Length 1)) × (piece_at (255 ∷ 254 ∷ []) 0 ≡ Err (Length 0)) × (piece_at (0 ∷ []) 0 ≡ Err (Short 0))
    × (piece_at (0 ∷ 2 ∷ 104 ∷ []) 0 ≡ Err (Short 0)) × (piece_at (0 ∷ 1 ∷ 121 ∷ []) 0 ≡ Err (Short 0))
faults = (refl, refl, refl, refl, refl)

-- a longest line has a filler
longest : (piece_of_length 10 32767 32768 ≡ Ok (Line 12 32779 32780)) × (piece_of_length 10 32767 32767 ≡ Err (Short 10)) × (piece_of_length 10 32768 65535 ≡ Err (Length 10))
longest = (refl, refl, refl)

from_one : (line_before [] (Some (codes "y" ∷ [])) ≡ Some ([] ∷ codes "y" ∷ [])) × (line_before [] None ≡ None)
    × (lines_from (0 ∷ 1 ∷ 121 ∷ 9 ∷ []) (Ok (Line 2 3 4)) ≡ Some (codes "y" ∷ [])) × (lines_from (0 ∷ []) (Err (Short 0)) ≡ None)
unfolding lines_in
from_one = (refl, refl, refl, refl)

within : IsWithin 0 4 (Line 2 3 4) × (IsWithin 0 3 (Line 2 3 4) → ⊥)
within = ((refl, omega arith, omega arith, omega arith), λ is. omega arith)

-- ---- a text as lines

cut : (cut_lines (codes "hi" ++ 10 ∷ 10 ∷ codes "y") ≡ three) × (cut_lines (codes "hi" ++ 10 ∷ 10 ∷ codes "y" ++ 10 ∷ []) ≡ three) × (cut_lines [] ≡ []) × (cut_lines (10 ∷ []) ≡ [] ∷ [])
unfolding three
cut = (refl, refl, refl, refl)

letters : (is_no_feed 13 ≡ true) × (is_no_feed 10 ≡ false) × (with_first 104 (codes "i" ∷ []) ≡ codes "hi" ∷ []) × (with_first 104 [] ≡ codes "h" ∷ [])
letters = (refl, refl, refl, refl)

long_lines : (long_line three ≡ None) × (long_from 2 (replicate 32768 0 ∷ []) ≡ Some 2)
unfolding three
long_lines = (refl, long_one 2 (replicate 32768 0) [] (omega (arith, length-replicate {A = ℕ} 32768 0)))
