-- What was read ahead, piece by piece.
use Rattle.std.proofs.Common.{◌≡◌, ℕ, zero, suc, ◌+◌, ◌-◌, ◌≤◌, Bool, true, false, cond, List, [], ◌∷◌, ◌++◌, Some, length, take, drop, refl, sym, subst, length-drop, ap, ◌∙◌, arith}
use Rattle.std.proofs.lemmas.List.{drop-drop}
use Rattle.std.proofs.Math.Seq.{take-add}
use Rattle.il_script.specs.Progress.{Progress, Completes, Scans}
use Rattle.std.proofs.lemmas.List.{length-take-le}
use Rattle.il_script.specs.Told.{line_of_length}
use Rattle.il_script.specs.declared.lines.Line.{Line}
use Rattle.il_script.specs.declared.lines.Line.TheVariants.{Text, TooLong, End, Fault, Over}

pub held_splits : (chunk : List ℕ) (from to n : ℕ) → from + n ≤ to
    → take (to - from) (drop from chunk) ≡ take n (drop from chunk) ++ take (to - (from + n)) (drop (from + n) chunk)
held_splits chunk from to n h =
    let size : to - from ≡ n + (to - (from + n)) = omega arith in
    ap (λ k. take k (drop from chunk)) size ∙ take-add n (to - (from + n)) (drop from chunk)
    ∙ ap (λ l. take n (drop from chunk) ++ take (to - (from + n)) l) (drop-drop n from chunk)

not-over : (b : Bool) → Over ≡ cond b Text TooLong → ⊥
not-over true h = cc
not-over false h = cc

pub scans-line : (old new : Progress) (line : Line) (moved body : List ℕ) → Completes old new moved body
    → line ≡ line_of_length (length new.text) → Scans old new (Some line)
scans-line old new Text moved body h e = (moved, body, h, e)
scans-line old new TooLong moved body h e = (moved, body, h, e)
scans-line old new End moved body h e = (moved, body, h, e)
scans-line old new Fault moved body h e = (moved, body, h, e)
scans-line old new Over moved body h e = absurd (not-over _ e)

-- the part of what was read ahead that a turn looks at
abbrev pub window : List ℕ → ℕ → ℕ → List ℕ
window chunk from ahead = take (from + ahead - from) (drop from chunk)

take-take : (n m : ℕ) (xs : List ℕ) → n ≤ m → take n (take m xs) ≡ take n xs
take-take zero m xs h = refl
take-take (suc n) zero xs h = absurd (omega arith)
take-take (suc n) (suc m) [] h = refl
take-take (suc n) (suc m) (x ∷ xs) h = ap (λ l. x ∷ l) (take-take n m xs (omega arith))

pub length-window : (chunk : List ℕ) (from to ahead : ℕ) → from + ahead ≤ to → to ≤ length chunk → length (window chunk from ahead) ≡ ahead
length-window chunk from to ahead a b = length-take-le _ (drop from chunk) (omega (arith, length-drop from chunk)) ∙ omega arith

pub window-held : (chunk : List ℕ) (from to ahead n : ℕ) → from + ahead ≤ to → n ≤ ahead
    → take (to - from) (drop from chunk) ≡ take n (window chunk from ahead) ++ take (to - (from + n)) (drop (from + n) chunk)
window-held chunk from to ahead n a h =
    let front : take n (window chunk from ahead) ≡ take n (drop from chunk) = take-take n _ (drop from chunk) (omega arith) in
    held_splits chunk from to n (omega arith) ∙ ap (λ l. l ++ take (to - (from + n)) (drop (from + n) chunk)) (sym front)

pub scans-line-from : (seen old new : Progress) (line : Line) (moved body : List ℕ) → seen ≡ old → Completes seen new moved body
    → line ≡ line_of_length (length new.text) → Scans old new (Some line)
scans-line-from seen old new line moved body e h t = subst (λ (o : Progress). Scans o new (Some line)) e (scans-line seen new line moved body h t)
