-- What is read, place by place, is the text.
use Rattle.std.proofs.Common.{◌≡◌, ◌<◌, ◌≤◌, ◌+◌, ◌-◌, ◌*◌, ◌/◌, ◌%◌, ◌==◌, nat_lt, ℕ, zero, suc, Bool, true, false, cond, List, [], ◌∷◌, ◌++◌, length, get_or, take, drop, Option, Some, None, Result, Ok, Err, refl, sym, ap, ap₂, ◌∙◌, arith, length-drop, length-append, length-take-le, subst, inl, inr, ◌↔◌}
use Rattle.std.proofs.lemmas.Bool.Decides.{nat_tests}
use Rattle.std.proofs.lemmas.List.{drop-drop, get_or-drop}
use Rattle.lif_text.specs.declared.pieces.Piece.{Piece}
use Rattle.lif_text.specs.declared.pieces.Piece.TheVariants.{Line, End}
use Rattle.lif_text.specs.declared.pieces.TextFault.{TextFault}
use Rattle.lif_text.specs.declared.pieces.TextFault.TheVariants.{Length, Short}
use Rattle.lif_text.specs.Format.{IsTextLine, Text, spelling, filler_after}
use Rattle.lif_text.specs.Pieces.{with_filler, piece_of_length, piece_of, piece_at, line_before, lines_by, fewer_lines, lines_in, lines_from}
use Rattle.lif_text.proofs.Spellings.{length-filled, line_of, rest_of, spelt_as}

-- what stands at a place, by the three tests of its length
abbrev chosen : Bool → Bool → Bool → ℕ → ℕ → Result Piece TextFault
chosen end long short at size = cond end (Ok End) (cond long (Err (Length at)) (cond short (Err (Short at)) (Ok (Line (at + 2) (at + 2 + size) (at + 2 + with_filler size)))))

-- what follows a length, where it is that of a line
tail_at : (high low size : ℕ) (tail : List ℕ) → drop (0 + 2 + size) (high ∷ low ∷ tail) ≡ drop size tail
tail_at high low size tail = sym (drop-drop size 2 (high ∷ low ∷ tail))

-- a line that was read at the front
line_by : (after : List ℕ → Option (List (List ℕ))) (high low size : ℕ) (tail : List ℕ)
    → lines_by after (high ∷ low ∷ tail) (Ok (Line (0 + 2) (0 + 2 + size) (0 + 2 + with_filler size))) ≡ line_before (take size tail) (after (drop (with_filler size) tail))
line_by after high low size tail =
    let long : 0 + 2 + size - (0 + 2) ≡ size = omega arith in
    ap₂ (λ (n : ℕ) (l : List ℕ). line_before (take n tail) (after l)) long (tail_at high low (with_filler size) tail)

-- ---- how many lines may come does not matter

fewer_by : (size n m : ℕ) (high low : ℕ) (tail : List ℕ)
    → ((bytes : List ℕ) → length bytes < suc (length tail) → fewer_lines n bytes ≡ fewer_lines m bytes)
    → lines_by (fewer_lines n) (high ∷ low ∷ tail) (piece_of_length 0 size (length tail)) ≡ lines_by (fewer_lines m) (high ∷ low ∷ tail) (piece_of_length 0 size (length tail))
fewer_by size n m high low tail same = go (size == 65535) (nat_lt 32767 size) (nat_lt (length tail) (with_filler size))
  where
    go : (end long short : Bool)
        → let piece : Result Piece TextFault = chosen end long short 0 size in
        lines_by (fewer_lines n) (high ∷ low ∷ tail) piece ≡ lines_by (fewer_lines m) (high ∷ low ∷ tail) piece
    go true long short = refl
    go false true short = refl
    go false false true = refl
    go false false false =
        line_by (fewer_lines n) high low size tail
        ∙ ap (line_before (take size tail)) (same (drop (with_filler size) tail) (omega (arith, length-drop (with_filler size) tail)))
        ∙ sym (line_by (fewer_lines m) high low size tail)

fewer_same : (n m : ℕ) (bytes : List ℕ) → length bytes < n → length bytes < m → fewer_lines n bytes ≡ fewer_lines m bytes
fewer_same zero m bytes h k = absurd (omega arith)
fewer_same (suc n) zero bytes h k = absurd (omega arith)
fewer_same (suc n) (suc m) [] h k = refl
fewer_same (suc n) (suc m) (x ∷ []) h k = refl
fewer_same (suc n) (suc m) (high ∷ low ∷ tail) h k =
    fewer_by (256 * high + low) n m high low tail (λ (bytes : List ℕ) (less : length bytes < suc (length tail)). fewer_same n m bytes (omega arith) (omega arith))

pub fewer_enough : (n : ℕ) (bytes : List ℕ) → length bytes < n → fewer_lines n bytes ≡ lines_in bytes
unfolding lines_in
fewer_enough n bytes h = fewer_same n (suc (length bytes)) bytes h (omega arith)

-- ---- a line at the front

pub line_in : (high low : ℕ) (tail : List ℕ) → 256 * high + low ≤ 32767 → with_filler (256 * high + low) ≤ length tail
    → lines_in (high ∷ low ∷ tail) ≡ line_before (take (256 * high + low) tail) (lines_in (drop (with_filler (256 * high + low)) tail))
unfolding lines_in
line_in high low tail short fits =
    go (256 * high + low) (256 * high + low == 65535) (nat_lt 32767 (256 * high + low)) (nat_lt (length tail) (with_filler (256 * high + low)))
    (grind (arith, nat_tests)) (grind (arith, nat_tests)) (grind (arith, nat_tests))
  where
    go : (size : ℕ) (end long small : Bool) → end ≡ false → long ≡ false → small ≡ false
        → lines_by (fewer_lines (suc (suc (length tail)))) (high ∷ low ∷ tail) (chosen end long small 0 size)
        ≡ line_before (take size tail) (lines_in (drop (with_filler size) tail))
    go size true long small e l s = cc
    go size false true small e l s = cc
    go size false false true e l s = cc
    go size false false false e l s =
        line_by (fewer_lines (suc (suc (length tail)))) high low size tail
        ∙ ap (line_before (take size tail)) (fewer_enough (suc (suc (length tail))) (drop (with_filler size) tail) (omega (arith, length-drop (with_filler size) tail)))

pub spelling_in : (filler : ℕ) (line rest : List ℕ) → IsTextLine line → lines_in (spelling filler line ++ rest) ≡ line_before line (lines_in rest)
spelling_in filler line rest short =
    let n : ℕ = length line in
    let tail : List ℕ = (line ++ filler_after n filler) ++ rest in
    let size : 256 * (n / 256) + n % 256 ≡ n = omega arith in
    let fits : with_filler n ≤ length tail = omega (arith, length-filled filler line, length-append (line ++ filler_after n filler) rest) in
    let fits_so : with_filler (256 * (n / 256) + n % 256) ≤ length tail = rw size fits in
    line_in (n / 256) (n % 256) tail (omega arith) fits_so
    ∙ ap (λ m. line_before (take m tail) (lines_in (drop (with_filler m) tail))) size
    ∙ ap₂ (λ (a b : List ℕ). line_before a (lines_in b)) (line_of filler line rest) (rest_of filler line rest)

-- ---- what is read are the lines of the text

pub text_read : (lines : List (List ℕ)) (bytes : List ℕ) → Text lines bytes → lines_in bytes ≡ Some lines
unfolding lines_in
text_read [] bytes is = elim is [ inl none ↦ ap lines_in none | inr mark ↦ ap lines_in mark.1 ]
text_read (line ∷ lines) bytes is =
    let spelt : bytes ≡ spelling is.0 line ++ is.1 = is.2 in
    ap lines_in spelt ∙ spelling_in is.0 line is.1 is.3 ∙ ap (line_before line) (text_read lines is.1 is.4)

abbrev pub AreBytes : List ℕ → Type 0
AreBytes bytes = (i : ℕ) → get_or bytes i 0 < 256

pub bytes_after : (n : ℕ) (bytes : List ℕ) → AreBytes bytes → AreBytes (drop n bytes)
bytes_after n bytes small i = rw (get_or-drop n bytes i 0) (small (n + i))

-- what is read after the front is the text of the rest
abbrev ReadsAfter : ℕ → Type 0
ReadsAfter n = (lines : List (List ℕ)) (bytes : List ℕ) → AreBytes bytes → fewer_lines n bytes ≡ Some lines → Text lines bytes

no_line : (lines : List (List ℕ)) → Some [] ≡ Some lines → [] ≡ lines
no_line lines h = cc

more_lines : (line : List ℕ) (more lines : List (List ℕ)) → Some (line ∷ more) ≡ Some lines → line ∷ more ≡ lines
more_lines line more lines h = cc

text_after : (n : ℕ) → ReadsAfter n → (lines : List (List ℕ)) (high low : ℕ) (tail : List ℕ) → AreBytes (high ∷ low ∷ tail)
    → 256 * high + low ≤ 32767 → with_filler (256 * high + low) ≤ length tail → (rest : Option (List (List ℕ)))
    → fewer_lines n (drop (with_filler (256 * high + low)) tail) ≡ rest → line_before (take (256 * high + low) tail) rest ≡ Some lines → Text lines (high ∷ low ∷ tail)
text_after n reads lines high low tail small short fits None is e = cc
text_after n reads lines high low tail small short fits (Some more) is e =
    let size : ℕ = 256 * high + low in
    let line : List ℕ = take size tail in
    let rest : List ℕ = drop (with_filler size) tail in
    let size_of : length line ≡ size = length-take-le size tail (omega arith) in
    let small_line : IsTextLine line = omega arith in
    subst (λ (ls : List (List ℕ)). Text ls (high ∷ low ∷ tail)) (more_lines line more lines e) (
      get_or tail size 0,
      rest,
      spelt_as high low tail size (small 1) refl fits,
      small_line,
      reads more rest (bytes_after (with_filler size) tail (λ i. small (suc (suc i)))) is,
    )

text_by : (n : ℕ) → ReadsAfter n → (lines : List (List ℕ)) (high low : ℕ) (tail : List ℕ) → AreBytes (high ∷ low ∷ tail)
    → fewer_lines (suc n) (high ∷ low ∷ tail) ≡ Some lines → Text lines (high ∷ low ∷ tail)
text_by n reads lines high low tail small e =
    go (256 * high + low == 65535) (nat_lt 32767 (256 * high + low)) (nat_lt (length tail) (with_filler (256 * high + low))) refl refl refl e
  where
    go : (end long less : Bool) → (256 * high + low == 65535) ≡ end → nat_lt 32767 (256 * high + low) ≡ long → nat_lt (length tail) (with_filler (256 * high + low)) ≡ less
        → lines_by (fewer_lines n) (high ∷ low ∷ tail) (chosen end long less 0 (256 * high + low))
        ≡ Some lines → Text lines (high ∷ low ∷ tail)
    go true long less is l s e =
        let whole : 256 * high + low ≡ 65535 = grind (arith, nat_tests) in
        let lower : low < 256 = small 1 in
        let upper : high < 256 = small 0 in
        let one : high ≡ 255 = omega arith in
        let two : low ≡ 255 = omega arith in
        subst (λ (ls : List (List ℕ)). Text ls (high ∷ low ∷ tail)) (no_line lines e) (inr (tail, ap₂ (λ (a b : ℕ). a ∷ b ∷ tail) one two))
    go false true less is l s e = cc
    go false false true is l s e = cc
    go false false false is l s e =
        text_after n reads lines high low tail small (grind (arith, nat_tests)) (grind (arith, nat_tests)) (fewer_lines n (drop (with_filler (256 * high + low)) tail)) refl
        (sym (line_by (fewer_lines n) high low (256 * high + low) tail) ∙ e)

read_text : (n : ℕ) → ReadsAfter n
read_text zero lines bytes small e = cc
read_text (suc n) lines [] small e = subst (λ (ls : List (List ℕ)). Text ls []) (no_line lines e) (inl refl)
read_text (suc n) lines (x ∷ []) small e = cc
read_text (suc n) lines (high ∷ low ∷ tail) small e = text_by n (read_text n) lines high low tail small e

-- the lines that are read are those of the text, both ways
pub texts_read : (bytes : List ℕ) → AreBytes bytes → (lines : List (List ℕ)) → Text lines bytes ↔ (lines_in bytes ≡ Some lines)
unfolding lines_in
texts_read bytes small lines = (text_read lines bytes, read_text (suc (length bytes)) lines bytes small)

-- ---- place by place

place_by : (at : ℕ) (bytes : List ℕ) (high low : ℕ) (tail : List ℕ) (size : ℕ) → drop at bytes ≡ high ∷ low ∷ tail
    → lines_by (fewer_lines (suc (suc (length tail)))) (high ∷ low ∷ tail) (piece_of_length 0 size (length tail)) ≡ lines_from bytes (piece_of_length at size (length tail))
place_by at bytes high low tail size is = go (size == 65535) (nat_lt 32767 size) (nat_lt (length tail) (with_filler size))
  where
    back : (n : ℕ) → drop n tail ≡ drop (at + 2 + n) bytes
    back n = sym (tail_at high low n tail) ∙ ap (drop (0 + 2 + n)) (sym is) ∙ drop-drop (0 + 2 + n) at bytes ∙ ap (λ (k : ℕ). drop k bytes) (omega arith)

    back_line : take size tail ≡ take (at + 2 + size - (at + 2)) (drop (at + 2) bytes)
    back_line =
        let long : size ≡ at + 2 + size - (at + 2) = omega arith in
        let place : at + 2 + 0 ≡ at + 2 = omega arith in
        ap₂ (λ (n : ℕ) (l : List ℕ). take n l) long (back 0 ∙ ap (λ (k : ℕ). drop k bytes) place)

    go : (end long less : Bool)
        → lines_by (fewer_lines (suc (suc (length tail)))) (high ∷ low ∷ tail) (chosen end long less 0 size)
        ≡ lines_from bytes (chosen end long less at size)
    go true long less = refl
    go false true less = refl
    go false false true = refl
    go false false false =
        line_by (fewer_lines (suc (suc (length tail)))) high low size tail
        ∙ ap (line_before (take size tail)) (fewer_enough (suc (suc (length tail))) (drop (with_filler size) tail) (omega (arith, length-drop (with_filler size) tail)))
        ∙ ap₂ (λ (a b : List ℕ). line_before a (lines_in b)) back_line (back (with_filler size))

from_by : (at : ℕ) (bytes rest : List ℕ) → drop at bytes ≡ rest → lines_in rest ≡ lines_from bytes (piece_of at rest)
unfolding lines_in
from_by at bytes [] is = refl
from_by at bytes (x ∷ []) is = refl
from_by at bytes (high ∷ low ∷ tail) is = place_by at bytes high low tail (256 * high + low) is

-- What stands at a place tells the lines from there on: a line comes before those of the place after it, the end has
-- none, and a fault is no text.
pub from_place : (at : ℕ) (bytes : List ℕ) → lines_in (drop at bytes) ≡ lines_from bytes (piece_at bytes at)
from_place at bytes = from_by at bytes (drop at bytes) refl
