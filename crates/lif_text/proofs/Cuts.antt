-- Laws of cutting a text into lines, and of what the lines take.
use Rattle.std.proofs.Common.{◌≡◌, ◌<◌, ◌≤◌, ◌+◌, ◌*◌, ◌==◌, not, nat_le, ℕ, suc, Bool, true, false, cond, List, [], ◌∷◌, ◌++◌, length, take, drop, Some, None, refl, sym, ap, ap₂, inr, ◌∙◌, arith, append_assoc, length-append}
use Rattle.std.proofs.lemmas.Bool.Decides.{nat_tests}
use Rattle.std.proofs.lemmas.List.Elements.{All-nil, All-cons, All-head, All-tail}
use Rattle.std.specs.List.{All, prefix_len}
use Rattle.lif_text.specs.Cutting.{is_no_feed, with_first, cut_lines, long_from}
use Rattle.lif_text.specs.Format.{IsTextLine, Text, spelling, encode}
use Rattle.lif_text.specs.Pieces.{with_filler, lines_in}
use Rattle.lif_text.proofs.Spellings.{length-spelling}
use Rattle.lif_text.proofs.Reading.{text_read}

-- ---- the first line

-- where the first line ends
abbrev end_of : List ℕ → ℕ
end_of text = prefix_len is_no_feed text

cut_first : (x : ℕ) (text : List ℕ) → cut_lines (x ∷ text) ≡ take (end_of (x ∷ text)) (x ∷ text) ∷ cut_lines (drop (end_of (x ∷ text) + 1) (x ∷ text))
cut_first x [] = go (x == 10)
  where
    go : (b : Bool) → cond b ([] ∷ []) ((x ∷ []) ∷ []) ≡ take (cond (not b) (1 + 0) 0) (x ∷ []) ∷ cut_lines (drop (cond (not b) (1 + 0) 0 + 1) (x ∷ []))
    go true = refl
    go false = refl
cut_first x (y ∷ text) = go (x == 10) (cut_first y text)
  where
    n : ℕ
    n = end_of (y ∷ text)

    go : (b : Bool) → cut_lines (y ∷ text) ≡ take n (y ∷ text) ∷ cut_lines (drop (n + 1) (y ∷ text))
        → cond b ([] ∷ cut_lines (y ∷ text)) (with_first x (cut_lines (y ∷ text)))
        ≡ take (cond (not b) (1 + n) 0) (x ∷ y ∷ text) ∷ cut_lines (drop (cond (not b) (1 + n) 0 + 1) (x ∷ y ∷ text))
    go true h = refl
    go false h =
        let one : suc n ≡ 1 + n = omega arith in
        let two : suc (n + 1) ≡ 1 + n + 1 = omega arith in
        ap (with_first x) h
        ∙ ap₂ (λ (i k : ℕ). take i (x ∷ y ∷ text) ∷ cut_lines (drop k (x ∷ y ∷ text))) one two

-- a text that is not empty is its first line, and the lines of the text after it
pub first_cut : (text : List ℕ) (n : ℕ) → 0 < length text → n ≡ end_of text → cut_lines text ≡ take n text ∷ cut_lines (drop (n + 1) text)
first_cut [] n some is = absurd (omega arith)
first_cut (x ∷ text) n some is = cut_first x text ∙ ap (λ (k : ℕ). take k (x ∷ text) ∷ cut_lines (drop (k + 1) (x ∷ text))) (sym is)

-- ---- lines that are too long

pub long_one : (n : ℕ) (line : List ℕ) (lines : List (List ℕ)) → 32767 < length line → long_from n (line ∷ lines) ≡ Some n
long_one n line lines h = grind (arith, nat_tests)

-- none is too long where the search for one ends without it
short_one : (n : ℕ) (line : List ℕ) (lines : List (List ℕ)) → long_from n (line ∷ lines) ≡ None → length line ≤ 32767
short_one n line lines = go (nat_le (length line) 32767) refl
  where
    go : (b : Bool) → nat_le (length line) 32767 ≡ b → cond b (long_from (suc n) lines) (Some n) ≡ None → length line ≤ 32767
    go true h e = grind (arith, nat_tests)
    go false h e = cc

short_next : (n : ℕ) (line : List ℕ) (lines : List (List ℕ)) → long_from n (line ∷ lines) ≡ None → long_from (suc n) lines ≡ None
short_next n line lines = go (nat_le (length line) 32767)
  where
    go : (b : Bool) → cond b (long_from (suc n) lines) (Some n) ≡ None → long_from (suc n) lines ≡ None
    go true e = e
    go false e = cc

pub all_short : (n : ℕ) (lines : List (List ℕ)) → long_from n lines ≡ None → All IsTextLine lines
all_short n [] e = All-nil IsTextLine
all_short n (line ∷ lines) e = All-cons IsTextLine line lines (short_one n line lines e) (all_short (suc n) lines (short_next n line lines e))

-- ---- what is written is read

-- lines that are short enough are those of the bytes that are made of them, whatever follows
pub encode_text : (lines : List (List ℕ)) (more : List ℕ) → All IsTextLine lines → Text lines (encode lines ++ more)
encode_text [] more short = inr (more, refl)
encode_text (line ∷ lines) more short =
    (0, encode lines ++ more, append_assoc (spelling 0 line) (encode lines) more, All-head IsTextLine line lines short, encode_text lines more (All-tail IsTextLine line lines short))

pub encode_read : (lines : List (List ℕ)) (more : List ℕ) → All IsTextLine lines → lines_in (encode lines ++ more) ≡ Some lines
encode_read lines more short = text_read lines (encode lines ++ more) (encode_text lines more short)

-- ---- how many bytes the lines of a text take

length-encode : (line : List ℕ) (lines : List (List ℕ)) → length (encode (line ∷ lines)) ≡ with_filler (length line) + 2 + length (encode lines)
length-encode line lines = length-append (spelling 0 line) (encode lines) ∙ ap (λ n. n + length (encode lines)) (length-spelling 0 line)

longer_by : (x : ℕ) (lines : List (List ℕ)) (n : ℕ) → length (encode lines) ≤ 2 * n + 4 → length (encode (with_first x lines)) ≤ 2 * suc n + 4
longer_by x [] n h = omega (arith, length-encode (x ∷ []) [])
longer_by x (line ∷ lines) n h =
    let before = length-encode line lines in
    let after = length-encode (x ∷ line) lines in
    omega arith

pub length-encode-cut : (text : List ℕ) → length (encode (cut_lines text)) ≤ 2 * length text + 4
length-encode-cut [] = omega arith
length-encode-cut (x ∷ text) = go (x == 10) (length-encode-cut text)
  where
    go : (b : Bool) → length (encode (cut_lines text)) ≤ 2 * length text + 4 → length (encode (cond b ([] ∷ cut_lines text) (with_first x (cut_lines text)))) ≤ 2 * suc (length text) + 4
    go true h = omega (arith, length-encode [] (cut_lines text))
    go false h = longer_by x (cut_lines text) (length text) h

-- ---- the lines one after the other: what is made, and the lines of the rest of the text

pub room_for : (made rest text : List ℕ) → made ++ encode (cut_lines rest) ≡ encode (cut_lines text)
    → length made + length (encode (cut_lines rest)) ≤ 2 * length text + 4
room_for made rest text is =
    let both : length made + length (encode (cut_lines rest)) ≡ length (encode (cut_lines text)) = sym (length-append made (encode (cut_lines rest))) ∙ ap length is in
    omega (arith, length-encode-cut text)

pub room_for_line : (made line rest after text : List ℕ) → made ++ encode (cut_lines rest) ≡ encode (cut_lines text) → cut_lines rest ≡ line ∷ cut_lines after
    → length made + length (spelling 0 line) ≤ 2 * length text + 4
room_for_line made line rest after text is cut =
    let parts : length (encode (cut_lines rest)) ≡ length (spelling 0 line) + length (encode (cut_lines after)) =
    ap (λ (lines : List (List ℕ)). length (encode lines)) cut ∙ length-append (spelling 0 line) (encode (cut_lines after)) in
    let room = room_for made rest text is in
    omega arith

pub made_more : (made line rest after text : List ℕ) → made ++ encode (cut_lines rest) ≡ encode (cut_lines text) → cut_lines rest ≡ line ∷ cut_lines after
    → (made ++ spelling 0 line) ++ encode (cut_lines after) ≡ encode (cut_lines text)
made_more made line rest after text is cut =
    append_assoc made (spelling 0 line) (encode (cut_lines after)) ∙ ap (λ (lines : List (List ℕ)). made ++ encode lines) (sym cut) ∙ is

pub none_left : (rest : List ℕ) → length rest ≡ 0 → encode (cut_lines rest) ≡ 255 ∷ 255 ∷ []
none_left [] h = refl
none_left (x ∷ rest) h = absurd (omega arith)
