-- Laws of spellings.
use Rattle.std.proofs.Common.{◌≡◌, ◌<◌, ◌≤◌, ◌+◌, ◌*◌, ◌/◌, ◌%◌, ◌==◌, ℕ, Bool, true, false, cond, List, [], ◌∷◌, ◌++◌, length, get_or, take, drop, refl, sym, ap, ◌∙◌, arith, append_assoc, length-append, length-take-le, ap₂}
use Rattle.std.proofs.lemmas.Bool.Decides.{nat_tests}
use Rattle.std.proofs.lemmas.List.{take_at, drop_at, drop_more, take-append-drop}
use Rattle.lif_text.specs.Format.{spelling, filler_after}
use Rattle.lif_text.specs.Pieces.{with_filler}

odd-one : (size : ℕ) → (size % 2 == 1) ≡ true → size % 2 ≡ 1
odd-one size h = grind (arith, nat_tests)

even-one : (size : ℕ) → (size % 2 == 1) ≡ false → size % 2 ≡ 0
even-one size h = grind (arith, nat_tests)

-- a filler is one byte after an odd line
pub length-filler : (size filler : ℕ) → length (filler_after size filler) ≡ size % 2
length-filler size filler = go (size % 2 == 1) refl
  where
    go : (b : Bool) → (size % 2 == 1) ≡ b → length (cond b (filler ∷ []) []) ≡ size % 2
    go true h = sym (odd-one size h)
    go false h = sym (even-one size h)

-- a line's bytes and its filler
pub length-filled : (filler : ℕ) (line : List ℕ) → length (line ++ filler_after (length line) filler) ≡ with_filler (length line)
length-filled filler line = length-append line (filler_after (length line) filler) ∙ ap (λ n. length line + n) (length-filler (length line) filler)

pub length-spelling : (filler : ℕ) (line : List ℕ) → length (spelling filler line) ≡ with_filler (length line) + 2
length-spelling filler line = let size = length-filled filler line in omega arith

-- what follows the length is the line, its filler, and the rest
pub line_of : (filler : ℕ) (line rest : List ℕ) → take (length line) ((line ++ filler_after (length line) filler) ++ rest) ≡ line
line_of filler line rest = rw append_assoc (take_at line (filler_after (length line) filler ++ rest) (length line) refl)

pub rest_of : (filler : ℕ) (line rest : List ℕ) → drop (with_filler (length line)) ((line ++ filler_after (length line) filler) ++ rest) ≡ rest
rest_of filler line rest = drop_at (line ++ filler_after (length line) filler) rest (with_filler (length line)) (length-filled filler line)

-- the bytes that a line of this size takes are the spelling of a line, with the filler that stands there
filled_with : (tail : List ℕ) (size : ℕ) → with_filler size ≤ length tail
    → take size tail ++ (filler_after size (get_or tail size 0) ++ drop (with_filler size) tail) ≡ tail
filled_with tail size fits = go (size % 2 == 1) refl
  where
    go : (b : Bool) → (size % 2 == 1) ≡ b → take size tail ++ (cond b (get_or tail size 0 ∷ []) [] ++ drop (with_filler size) tail) ≡ tail
    go true h =
        let odd = odd-one size h in
        let next : with_filler size ≡ size + 1 = omega arith in
        ap (λ n. take size tail ++ (get_or tail size 0 ∷ drop n tail)) next
        ∙ ap (λ l. take size tail ++ l) (sym (drop_more tail size 0 (omega arith)))
        ∙ take-append-drop size tail
    go false h =
        let even = even-one size h in
        let same : with_filler size ≡ size = omega arith in
        ap (λ n. take size tail ++ drop n tail) same ∙ take-append-drop size tail

pub spelt_as : (high low : ℕ) (tail : List ℕ) (size : ℕ) → low < 256 → 256 * high + low ≡ size → with_filler size ≤ length tail
    → high ∷ low ∷ tail ≡ spelling (get_or tail size 0) (take size tail) ++ drop (with_filler size) tail
spelt_as high low tail size small is fits =
    let long : length (take size tail) ≡ size = length-take-le size tail (omega arith) in
    let first : high ≡ size / 256 = omega arith in
    let second : low ≡ size % 256 = omega arith in
    let g : ℕ = get_or tail size 0 in
    let rest : List ℕ = drop (with_filler size) tail in
    ap₂ (λ (a b : ℕ). a ∷ b ∷ tail) first second
    ∙ ap (λ (l : List ℕ). size / 256 ∷ size % 256 ∷ l) (sym (filled_with tail size fits) ∙ sym (append_assoc (take size tail) (filler_after size g) rest))
    ∙ ap (λ (n : ℕ). n / 256 ∷ n % 256 ∷ (take size tail ++ filler_after n g) ++ rest) (sym long)
