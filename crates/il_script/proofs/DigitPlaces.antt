-- Digits that are written into the places after a text.
use Rattle.std.proofs.Common.{◌≡◌, ℕ, Bool, true, false, ◌-◌, ◌≤◌, List, [], ◌++◌, length, take, drop, if◌then◌else◌, refl, ap, ◌∙◌, arith}
use Rattle.std.proofs.Math.Seq.{take-append_seam, take-length}
use Rattle.std.proofs.lemmas.List.{append-nil, drop_all, length-drop, take_all, length-append}
use borrow.Rule.Slice.PartMut.{post_of}

-- the text stands at the front of what it was made longer to
front_of : (grown : Bool) (text more : List ℕ) (n : ℕ) → length text ≤ n →
    take (length text) (if grown then take n text ++ more else text) ≡ text
front_of true text more n fits =
    ap (λ (l : List ℕ). take (length text) (l ++ more)) (take_all n text fits) ∙ take-append_seam text more
front_of false text more n fits = take-length text

-- the places from the text on, now `new`
pub behind_text : (grown : Bool) (text more places new : List ℕ) (l n : ℕ) → l ≡ length text → l ≤ n →
    places ≡ (if grown then take n text ++ more else text) →
    take l places ++ (new ++ post_of l (length places - l) places) ≡ text ++ new
behind_text grown text more places new l n at fits is =
    let rest : post_of l (length places - l) places ≡ [] = drop_all (length places - l) (drop l places) (omega (arith, length-drop l places)) in
    let front : take l places ≡ text = rw (at, is) (front_of grown text more n (omega arith)) in
    rw (rest, append-nil, front) refl

longer : (grown : Bool) (text more : List ℕ) (n : ℕ) → length text ≤ n →
    length text ≤ length (if grown then take n text ++ more else text)
longer true text more n fits =
    rw (take_all n text fits) (omega (arith, length-append text more))
longer false text more n fits = omega arith

-- the places begin no later than they end
pub places_behind : (grown : Bool) (text more places : List ℕ) (n : ℕ) → length text ≤ n →
    places ≡ (if grown then take n text ++ more else text) → length text ≤ length places
places_behind grown text more places n fits is = rw is (longer grown text more n fits)
