-- How many lines may still come.
use Rattle.std.proofs.Common.{◌≡◌, ℕ, ◌≤◌, ◌<◌, List, [], ◌∷◌, ◌++◌, Option, Some, length, ap, arith, length-append, length-take}
use Rattle.il_script.specs.declared.limits.TheConstants.{KEPT_OF_LINE, LONGEST_SCRIPT}
use Rattle.il_script.specs.LineCut.{LineCut, line_cut}
use Rattle.il_script.specs.Progress.{Progress, MovesOn, Completes, Scans, Lasts, Lowers, Fills, IsTooLong, turns_left}
use Rattle.il_script.specs.declared.lines.Line.{Line}
use Rattle.il_script.specs.declared.lines.Line.TheVariants.{Text, TooLong, End, Fault, Over}

pub moves-bound : (old new : Progress) (moved : List ℕ) → MovesOn old new moved → new.taken ≤ LONGEST_SCRIPT → turns_left new ≤ turns_left old
moves-bound old new moved m h = omega (arith, ap length m.begun, length-take KEPT_OF_LINE (old.begun ++ moved), length-append old.begun moved, m.taken)

nil-cons : (body : List ℕ) → [] ≡ body ∷ [] → ⊥
nil-cons body e = cc

-- a line takes at least its line feed
feed-taken : (moved body : List ℕ) → line_cut moved ≡ record { whole = body ∷ []; open_line = [] } → 0 < length moved
feed-taken [] body e = let bad : [] ≡ body ∷ [] = ap (λ (d : LineCut). d.whole) e in absurd (nil-cons body bad)
feed-taken (x ∷ moved) body e = omega arith

completes-falls : (old new : Progress) (moved body : List ℕ) → Completes old new moved body → new.taken ≤ LONGEST_SCRIPT → turns_left new < turns_left old
completes-falls old new moved body m h = omega (arith, ap length m.begun, m.taken, feed-taken moved body m.line)

pub lowers-scans : (old new : Progress) (line : Line) → Scans old new (Some line) → new.taken ≤ LONGEST_SCRIPT → Lowers old new line
lowers-scans old new Text s h = completes-falls old new s.0 s.1 s.2 h
lowers-scans old new TooLong s h = completes-falls old new s.0 s.1 s.2 h
lowers-scans old new End s h = tt
lowers-scans old new Fault s h = tt
lowers-scans old new Over s h = tt

pub lowers-after : (first old new : Progress) (line : Line) → turns_left old ≤ turns_left first → Lowers old new line → Lowers first new line
lowers-after first old new Text b h = omega arith
lowers-after first old new TooLong b h = omega arith
lowers-after first old new End b h = tt
lowers-after first old new Fault b h = tt
lowers-after first old new Over b h = tt

pub fills-bound : (old new : Progress) (before now : Option (List ℕ)) → Fills old new before now → turns_left new ≤ turns_left old
fills-bound old new before now f = omega (arith, ap length f.begun, f.taken)

pub not-too-long : (old new : Progress) → MovesOn old new old.held → new.taken ≤ LONGEST_SCRIPT → IsTooLong old → ⊥
not-too-long old new m h t = omega (arith, m.taken)

last-falls : (old new : Progress) → 0 < length old.begun → new ≡ record old { text = old.begun; begun = [] } → turns_left new < turns_left old
last-falls old new some state = omega (arith, ap turns_left state)

pub lowers-lasts : (old new : Progress) (line : Line) → Lasts old new line → Lowers old new line
lowers-lasts old new Text s = last-falls old new s.0 s.1
lowers-lasts old new TooLong s = last-falls old new s.0 s.1
lowers-lasts old new End s = tt
lowers-lasts old new Fault s = tt
lowers-lasts old new Over s = tt
