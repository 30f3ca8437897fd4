-- The lines of a text, as they are written or counted one by one.
use Rattle.std.proofs.Common.{◌≡◌, ◌∙◌, ◌++◌, ◌∷◌, ◌+◌, ◌-◌, ◌*◌, ◌==◌, ℕ, Bool, cond, nat_lt, List, [], Option, Some, None, true, false, is_some, refl, sym, ap, option_map, length, take, drop, min, arith, length-append, length-take-le, length-drop}
use Rattle.std.specs.Prelude.{Ok, Err}
use Rattle.std.specs.List.{flat_map}
use Rattle.std.proofs.lemmas.List.{append_assoc, append-nil}
use Rattle.lif_text.specs.Format.{encode, spelling}
use Rattle.lif_text.specs.Pieces.{IsWithin, line_before, piece_at, piece_of, with_filler}
use Rattle.lif_text.specs.declared.pieces.Piece.TheVariants.{Line, End}
use Rattle.lif_text.specs.declared.pieces.TextFault.TheVariants.{Length, Short}
use Rattle.lif_text.proofs.Spellings.{length-spelling}
use Rattle.tape_text.specs.Texts.{fed_line}

-- a text, and then these lines, if there are some
abbrev pub with_lines : List ℕ → Option (List (List ℕ)) → Option (List ℕ)
with_lines text lines = option_map (λ lines. text ++ flat_map fed_line lines) lines

-- with one line more written there is one less to come
pub one_more : (text line : List ℕ) (rest : Option (List (List ℕ))) → with_lines (text ++ fed_line line) rest ≡ with_lines text (line_before line rest)
one_more text line None = refl
one_more text line (Some lines) = ap Some (append_assoc text (fed_line line) (flat_map fed_line lines))

-- none is to come
pub all_told : (text first : List ℕ) (found : Option (List (List ℕ))) → with_lines text (Some []) ≡ with_lines first found
    → (true ≡ is_some found) × (option_map (λ lines. first ++ lines) (option_map (λ lines. flat_map fed_line lines) found) ≡ Some text)
all_told text first None is = cc
all_told text first (Some lines) is = (refl, sym is ∙ ap Some (append-nil text))

-- what comes is no text
pub none_told : (text first : List ℕ) (found : Option (List (List ℕ))) → with_lines text None ≡ with_lines first found → false ≡ is_some found
none_told text first None is = refl
none_told text first (Some lines) is = cc

-- ---- sizes

-- how many of so many bytes a text takes, if so many are before these lines of it
abbrev pub size_from : ℕ → ℕ → Option (List (List ℕ)) → Option ℕ
size_from total at lines = option_map (λ lines. min (at + length (encode lines)) total) lines

-- ---- a line of a text takes its length, its bytes and its filler

filled_by : (at size from to next : ℕ) (ends long short : Bool)
    → cond ends (Ok End) (cond long (Err (Length at)) (cond short (Err (Short at)) (Ok (Line (at + 2) (at + 2 + size) (at + 2 + with_filler size))))) ≡ Ok (Line from to next)
    → next ≡ from + with_filler (to - from)
filled_by at size from to next true long short e = cc
filled_by at size from to next false true short e = cc
filled_by at size from to next false false true e = cc
filled_by at size from to next false false false e =
    let first : at + 2 ≡ from = cc in
    let second : at + 2 + size ≡ to = cc in
    let third : at + 2 + with_filler size ≡ next = cc in
    let count : size ≡ to - from = omega arith in
    sym third ∙ (λ i. first i + with_filler (count i))

filled_at : (at from to next : ℕ) (bytes : List ℕ) → piece_of at bytes ≡ Ok (Line from to next) → next ≡ from + with_filler (to - from)
filled_at at from to next [] e = cc
filled_at at from to next (high ∷ []) e = cc
filled_at at from to next (high ∷ low ∷ rest) e =
    filled_by at (256 * high + low) from to next (256 * high + low == 65535) (nat_lt 32767 (256 * high + low)) (nat_lt (length rest) (with_filler (256 * high + low))) e

-- with one line more counted there is one less to come
pub size_more : (total at from to next : ℕ) (bytes : List ℕ) (rest : Option (List (List ℕ))) → piece_at bytes at ≡ Ok (Line from to next) → IsWithin at (length bytes) (Line from to next)
    → size_from total next rest ≡ size_from total at (line_before (take (to - from) (drop from bytes)) rest)
size_more total at from to next bytes None piece within = refl
size_more total at from to next bytes (Some lines) piece within =
    let filled = filled_at at from to next (drop at bytes) piece in
    let left = length-drop from bytes in
    let long : length (take (to - from) (drop from bytes)) ≡ to - from = length-take-le (to - from) (drop from bytes) (omega (arith, left, within.1, within.2, within.3)) in
    let spelt = length-spelling 0 (take (to - from) (drop from bytes)) ∙ ap (λ n. with_filler n + 2) long in
    let both = length-append (spelling 0 (take (to - from) (drop from bytes))) (encode lines) in
    ap (λ n. Some (min n total)) (omega (arith, filled, spelt, both, within.0))
