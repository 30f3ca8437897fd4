-- What was given stays tied to the script, from step to step.
use Rattle.std.proofs.Common.{◌≡◌, ℕ, zero, suc, ◌+◌, ◌≤◌, ◌<◌, ◌⊎◌, inl, inr, Bool, true, false, cond, nat_le, List, [], ◌∷◌, ◌++◌, Option, Some, None, length, take, map, refl, sym, subst, ap, ap₂, ◌∙◌, arith, append_assoc, append-nil, length-append, length-take}
use Rattle.std.proofs.lemmas.List.{take_all, nil_from_length}
use Rattle.std.proofs.lemmas.Bool.Decides.{nat_tests}
use Rattle.std.specs.Io.KnownBytes.{IsAtEnd, Consumes, Keeps}
use Rattle.il_script.specs.declared.limits.TheConstants.{KEPT_OF_LINE, LONGEST_LINE, LONGEST_SCRIPT}
use Rattle.il_script.specs.LineCut.{LineCut, HasNoFeed, line_cut, lines_of, rest_line, line_told}
use Rattle.il_script.specs.Told.{line_of_length}
use Rattle.il_script.specs.Progress.{Progress, Given, GivesWhole, GivesAll, Turn, MovesOn, Completes, Scans, Fills, Stays, Lasts}
use Rattle.il_script.specs.declared.lines.Line.{Line}
use Rattle.il_script.specs.declared.lines.Line.TheVariants.{Text, TooLong, End, Fault, Over}
use Rattle.il_script.proofs.Cuts.{line_cut-append, line_cut-append-open, line_cut-append-line, joined}

-- ---- lists

append-nil-left : (a b : List ℕ) → [] ≡ a ++ b → a ≡ []
append-nil-left a b e = nil_from_length a (omega (arith, ap length e, length-append a b))

append-nil-right : (a b : List ℕ) → [] ≡ a ++ b → b ≡ []
append-nil-right a b e = nil_from_length b (omega (arith, ap length e, length-append a b))

pub take-front : (k : ℕ) (a b : List ℕ) → take k (take k a ++ b) ≡ take k (a ++ b)
take-front zero a b = refl
take-front (suc k) [] b = refl
take-front (suc k) (x ∷ a) b = ap (λ l. x ∷ l) (take-front k a b)

map-push : {X Y : Type 0} (f : X → Y) (xs : List X) (x : X) → map f (xs ++ x ∷ []) ≡ map f xs ++ f x ∷ []
map-push f [] x = refl
map-push f (y ∷ xs) x = ap (λ l. f y ∷ l) (map-push f xs x)

-- ---- what is line_told of a line that was kept in part

take-short : (k : ℕ) (l : List ℕ) → length (take k l) < k → take k l ≡ l
take-short k l h = take_all k l (omega (arith, length-take k l))

kept-text : (b : Bool) → Text ≡ cond b Text TooLong → b ≡ true
kept-text true h = refl
kept-text false h = cc

kept-long : (b : Bool) → TooLong ≡ cond b Text TooLong → b ≡ false
kept-long true h = cc
kept-long false h = refl

is-le : (n : ℕ) → nat_le n LONGEST_LINE ≡ true → n ≤ LONGEST_LINE
is-le n h = grind (arith, nat_tests)

is-gt : (n : ℕ) → nat_le n LONGEST_LINE ≡ false → LONGEST_LINE < n
is-gt n h = grind (arith, nat_tests)

le-is : (n : ℕ) → n ≤ LONGEST_LINE → nat_le n LONGEST_LINE ≡ true
le-is n h = grind (arith, nat_tests)

gt-is : (n : ℕ) → LONGEST_LINE < n → nat_le n LONGEST_LINE ≡ false
gt-is n h = grind (arith, nat_tests)

line_told-text : (line text : List ℕ) → text ≡ take KEPT_OF_LINE line → Text ≡ line_of_length (length text) → line_told line ≡ Some text
line_told-text line text e t =
    let small : length text ≤ LONGEST_LINE = is-le _ (kept-text _ t) in
    let whole : take KEPT_OF_LINE line ≡ line = take-short KEPT_OF_LINE line (omega (arith, ap length e)) in
    let same : text ≡ line = e ∙ whole in
    ap (λ b. cond b (Some line) None) (le-is (length line) (omega (arith, ap length same))) ∙ ap Some (sym same)

line_told-long : (line text : List ℕ) → text ≡ take KEPT_OF_LINE line → TooLong ≡ line_of_length (length text) → line_told line ≡ None
line_told-long line text e t =
    let big : LONGEST_LINE < length text = is-gt _ (kept-long _ t) in
    ap (λ b. cond b (Some line) None) (gt-is (length line) (omega (arith, ap length e, length-take KEPT_OF_LINE line)))

-- ---- steps

-- the bytes after, one piece later
behind-moves : (script behind held rest moved more : List ℕ) → script ≡ behind ++ (held ++ rest) → held ≡ moved ++ more
    → script ≡ (behind ++ moved) ++ (more ++ rest)
behind-moves script behind held rest moved more h e =
    h ∙ ap (λ l. behind ++ (l ++ rest)) e ∙ ap (λ l. behind ++ l) (append_assoc moved more rest) ∙ sym (append_assoc behind moved (more ++ rest))

count-moves : (behind moved : List ℕ) (old new : ℕ) → old ≡ length behind → new ≡ old + length moved → new ≡ length (behind ++ moved)
count-moves behind moved old new h e = omega (arith, length-append behind moved)

begun-moves : (old : Progress) (open_line begun moved : List ℕ) → old.begun ≡ take KEPT_OF_LINE open_line → begun ≡ take KEPT_OF_LINE (old.begun ++ moved) → begun ≡ take KEPT_OF_LINE (open_line ++ moved)
begun-moves old open_line begun moved h e = e ∙ ap (λ l. take KEPT_OF_LINE (l ++ moved)) h ∙ take-front KEPT_OF_LINE open_line moved

moves-whole : (behind : List ℕ) (old new : Progress) (given : List (Option (List ℕ))) (moved : List ℕ)
    → MovesOn old new moved → GivesWhole behind old.begun given → GivesWhole (behind ++ moved) new.begun given
moves-whole behind old new given moved m w =
    let open_moved : HasNoFeed moved = record { is = m.none } in
    let c = line_cut-append-open behind moved open_moved in
    record {
      lines = w.lines ∙ ap (λ (d : LineCut). map line_told d.whole) (sym c);
      begun = begun-moves old (line_cut behind).open_line new.begun moved w.begun m.begun ∙ ap (λ (d : LineCut). take KEPT_OF_LINE d.open_line) (sym c);
    }

moves-all : (behind : List ℕ) (old new : Progress) (given : List (Option (List ℕ))) (moved : List ℕ)
    → MovesOn old new moved → GivesAll behind old given → GivesAll (behind ++ moved) new given
moves-all behind old new given moved m w =
    let none : moved ≡ [] = append-nil-left moved new.held (sym w.held ∙ m.held) in
    record {
      lines = w.lines ∙ ap (λ l. map line_told (lines_of l)) (sym (append-nil behind) ∙ ap (λ l. behind ++ l) (sym none));
      begun = m.begun ∙ ap₂ (λ a b. take KEPT_OF_LINE (a ++ b)) w.begun none;
      held = append-nil-right moved new.held (sym w.held ∙ m.held);
      ended = m.ended ∙ w.ended;
    }

pub given-moves : (script : List ℕ) (old new : Progress) (left : Option (List ℕ)) (given : List (Option (List ℕ))) (moved : List ℕ)
    → MovesOn old new moved → Given script old left given → Given script new left given
given-moves script old new left given moved m g = record {
  behind = g.behind ++ moved;
  rest = g.rest;
  known = g.known;
  whole = behind-moves script g.behind old.held g.rest moved new.held g.whole m.held;
  count = count-moves g.behind moved old.taken new.taken g.count m.taken;
  ended = λ e. g.ended (sym m.ended ∙ e);
  lines = elim g.lines [
    | inl w ↦ inl (moves-whole g.behind old new given moved m w)
    | inr w ↦ inr (moves-all g.behind old new given moved m w)
  ];
}

completes-whole : (behind : List ℕ) (old new : Progress) (given : List (Option (List ℕ))) (moved body : List ℕ) (item : Option (List ℕ))
    → Completes old new moved body → GivesWhole behind old.begun given → line_told ((line_cut behind).open_line ++ body) ≡ item
    → GivesWhole (behind ++ moved) new.begun (given ++ item ∷ [])
completes-whole behind old new given moved body item m w t =
    let c = line_cut-append-line behind moved body m.line in
    record {
      lines = ap₂ (λ l x. l ++ x ∷ []) w.lines (sym t) ∙ sym (map-push line_told (line_cut behind).whole ((line_cut behind).open_line ++ body)) ∙ ap (λ (d : LineCut). map line_told d.whole) (sym c);
      begun = m.begun ∙ ap (λ (d : LineCut). take KEPT_OF_LINE d.open_line) (sym c);
    }

completes-not-all : (behind : List ℕ) (old new : Progress) (given : List (Option (List ℕ))) (moved body : List ℕ)
    → Completes old new moved body → GivesAll behind old given → ⊥
completes-not-all behind old new given moved body m w =
    let none : moved ≡ [] = append-nil-left moved new.held (sym w.held ∙ m.held) in
    let nothing : line_cut [] ≡ record { whole = body ∷ []; open_line = [] } = ap line_cut (sym none) ∙ m.line in
    let bad : [] ≡ body ∷ [] = ap (λ (d : LineCut). d.whole) nothing in
    cc

pub given-completes : (script : List ℕ) (old new : Progress) (left : Option (List ℕ)) (given : List (Option (List ℕ))) (moved body : List ℕ) (item : Option (List ℕ))
    → Completes old new moved body → ((line : List ℕ) → new.text ≡ take KEPT_OF_LINE line → line_told line ≡ item)
    → Given script old left given → Given script new left (given ++ item ∷ [])
given-completes script old new left given moved body item m t g = record {
  behind = g.behind ++ moved;
  rest = g.rest;
  known = g.known;
  whole = behind-moves script g.behind old.held g.rest moved new.held g.whole m.held;
  count = count-moves g.behind moved old.taken new.taken g.count m.taken;
  ended = λ e. g.ended (sym m.ended ∙ e);
  lines = elim g.lines [
    | inl w ↦ inl (completes-whole g.behind old new given moved body item m w
        (t _ (begun-moves old (line_cut g.behind).open_line new.text body w.begun m.text)))
    | inr w ↦ absurd (completes-not-all g.behind old new given moved body m w)
  ];
}

not-end : (b : Bool) → End ≡ cond b Text TooLong → ⊥
not-end true h = cc
not-end false h = cc

not-fault : (b : Bool) → Fault ≡ cond b Text TooLong → ⊥
not-fault true h = cc
not-fault false h = cc

-- a whole line, or more than a script may hold
pub turn-scans : (script : List ℕ) (old new : Progress) (left : Option (List ℕ)) (given : List (Option (List ℕ))) (line : Line)
    → Scans old new (Some line) → Given script old left given → Turn script new left given line
turn-scans script old new left given Text s g = given-completes script old new left given s.0 s.1 (Some new.text) s.2 (λ l e. line_told-text l new.text e s.3) g
turn-scans script old new left given TooLong s g = given-completes script old new left given s.0 s.1 None s.2 (λ l e. line_told-long l new.text e s.3) g
turn-scans script old new left given Over s g = given-moves script old new left given s.0 s.1 g
turn-scans script old new left given End s g = absurd (not-end _ s.3)
turn-scans script old new left given Fault s g = absurd (not-fault _ s.3)

-- ---- the next piece

-- what a read takes of known bytes
pub record Taken (rest : List ℕ) (now : Option (List ℕ)) (piece : List ℕ) : Type 0 where
  pub more : List ℕ
  pub known : now ≡ Some more
  pub whole : rest ≡ piece ++ more

taken-of : (rest : List ℕ) (now : Option (List ℕ)) (piece : List ℕ) → Consumes (Some rest) now piece → Taken rest now piece
taken-of rest None piece h = absurd h
taken-of rest (Some more) piece h = record { more = more; known = refl; whole = h }

end-of : (now : Option (List ℕ)) (more : List ℕ) → now ≡ Some more → IsAtEnd now → more ≡ []
end-of None more e h = cc
end-of (Some xs) more e h = let s : xs ≡ more = cc in sym s ∙ h

true-not-false : true ≡ false → ⊥
true-not-false h = cc

pub given-fills : (script : List ℕ) (old new : Progress) (before now : Option (List ℕ)) (given : List (Option (List ℕ)))
    → old.held ≡ [] → old.ended ≡ false → Fills old new before now → Given script old before given → Given script new now given
given-fills script old new before now given empty going f g =
    let t = taken-of g.rest now new.held (subst (λ (b : Option (List ℕ)). Consumes b now new.held) g.known f.bytes) in
    record {
      behind = g.behind;
      rest = t.more;
      known = t.known;
      whole = g.whole ∙ ap₂ (λ h r. g.behind ++ (h ++ r)) empty t.whole;
      count = f.taken ∙ g.count;
      ended = λ e. end-of now t.more t.known (f.ended e).1;
      lines = elim g.lines [
        | inl w ↦ inl (record { lines = w.lines; begun = f.begun ∙ w.begun })
        | inr w ↦ let no : true ≡ false = sym w.ended ∙ going in absurd (true-not-false no)
      ];
    }

kept-of : (before now : Option (List ℕ)) (rest : List ℕ) → before ≡ Some rest → Keeps before now → now ≡ Some rest
kept-of None now rest e k = cc
kept-of (Some xs) None rest e k = absurd k
kept-of (Some xs) (Some ys) rest e k = ap Some k ∙ e

pub given-stays : (script : List ℕ) (old new : Progress) (before now : Option (List ℕ)) (given : List (Option (List ℕ)))
    → old.held ≡ [] → Stays old new → Keeps before now → Given script old before given → Given script new now given
given-stays script old new before now given empty s k g = record {
  behind = g.behind;
  rest = g.rest;
  known = kept-of before now g.rest g.known k;
  whole = g.whole ∙ ap (λ h. g.behind ++ (h ++ g.rest)) (empty ∙ sym s.held);
  count = s.taken ∙ g.count;
  ended = λ e. g.ended (sym s.ended ∙ e);
  lines = elim g.lines [
    | inl w ↦ inl (record { lines = w.lines; begun = s.begun ∙ w.begun })
    | inr w ↦ inr (record { lines = w.lines; begun = s.begun ∙ w.begun; held = s.held; ended = s.ended ∙ w.ended })
  ];
}

-- ---- the end

take-nil : (k : ℕ) (l : List ℕ) → take (k + 1) l ≡ [] → l ≡ []
take-nil k [] h = refl
take-nil k (x ∷ l) h = let n : length (take (k + 1) (x ∷ l)) ≡ 0 = ap length h in absurd (omega (arith, length-take (k + 1) (x ∷ l)))

whole-at-end : (behind : List ℕ) (line : List ℕ) (given : List (Option (List ℕ))) → line ≡ [] → GivesWhole behind line given → given ≡ map line_told (lines_of behind)
whole-at-end behind line given e w =
    let none : (line_cut behind).open_line ≡ [] = take-nil LONGEST_LINE (line_cut behind).open_line (sym w.begun ∙ e) in
    w.lines ∙ ap (map line_told) (sym (append-nil (line_cut behind).whole) ∙ ap (λ o. (line_cut behind).whole ++ rest_line o) (sym none))

rest_line-one : (line : List ℕ) → 0 < length line → rest_line line ≡ line ∷ []
rest_line-one [] h = absurd (omega arith)
rest_line-one (x ∷ line) h = refl

given-all : (behind : List ℕ) (old : Progress) (given : List (Option (List ℕ))) → old.begun ≡ [] → GivesWhole behind old.begun given ⊎ GivesAll behind old given → given ≡ map line_told (lines_of behind)
given-all behind old given e (inl w) = whole-at-end behind old.begun given e w
given-all behind old given e (inr w) = w.lines

-- the last line is given
last-given : (behind : List ℕ) (old : Progress) (given : List (Option (List ℕ))) (item : Option (List ℕ))
    → 0 < length old.begun → ((line : List ℕ) → old.begun ≡ take KEPT_OF_LINE line → line_told line ≡ item)
    → GivesWhole behind old.begun given ⊎ GivesAll behind old given → given ++ item ∷ [] ≡ map line_told (lines_of behind)
last-given behind old given item some t (inl w) =
    let line = (line_cut behind).open_line in
    let long : 0 < length line = omega (arith, ap length w.begun, length-take KEPT_OF_LINE line) in
    ap₂ (λ l x. l ++ x ∷ []) w.lines (sym (t line w.begun)) ∙ sym (map-push line_told (line_cut behind).whole line) ∙ ap (λ o. map line_told ((line_cut behind).whole ++ o)) (sym (rest_line-one line long))
last-given behind old given item some t (inr w) = absurd (omega (arith, ap length w.begun))

script-all : (script behind held rest : List ℕ) → script ≡ behind ++ (held ++ rest) → held ≡ [] → rest ≡ [] → behind ≡ script
script-all script behind held rest h e r = sym (h ∙ ap₂ (λ a b. behind ++ (a ++ b)) e r ∙ append-nil behind)

at-end-of : (left : Option (List ℕ)) (rest : List ℕ) → left ≡ Some rest → rest ≡ [] → IsAtEnd left
at-end-of None rest k e = tt
at-end-of (Some xs) rest k e = let s : xs ≡ rest = cc in s ∙ e

given-last : (script : List ℕ) (old new : Progress) (left : Option (List ℕ)) (given : List (Option (List ℕ))) (item : Option (List ℕ))
    → old.held ≡ [] → old.ended ≡ true → new ≡ record old { text = old.begun; begun = [] } → 0 < length old.begun
    → ((line : List ℕ) → old.begun ≡ take KEPT_OF_LINE line → line_told line ≡ item)
    → Given script old left given → Given script new left (given ++ item ∷ [])
given-last script old new left given item empty ended state some t g =
    let at : (p : Progress) → p ≡ record old { text = old.begun; begun = [] } → (p.held ≡ []) × (p.begun ≡ []) × (p.ended ≡ true) × (p.taken ≡ old.taken)
    = λ p e. (ap (λ (v : Progress). v.held) e ∙ empty, ap (λ (v : Progress). v.begun) e, ap (λ (v : Progress). v.ended) e ∙ ended, ap (λ (v : Progress). v.taken) e) in
    let f = at new state in
    record {
      behind = g.behind;
      rest = g.rest;
      known = g.known;
      whole = g.whole ∙ ap (λ h. g.behind ++ (h ++ g.rest)) (empty ∙ sym f.0);
      count = f.3 ∙ g.count;
      ended = λ e. g.ended ended;
      lines = inr (record { lines = last-given g.behind old given item some t g.lines; begun = f.1; held = f.0; ended = f.2 });
    }

pub turn-lasts : (script : List ℕ) (old new : Progress) (left : Option (List ℕ)) (given : List (Option (List ℕ))) (line : Line)
    → old.held ≡ [] → old.ended ≡ true → old.taken ≤ LONGEST_SCRIPT → Lasts old new line → Given script old left given → Turn script new left given line
turn-lasts script old new left given End empty ended limit s g =
    let all : g.behind ≡ script = script-all script g.behind old.held g.rest g.whole empty (g.ended ended) in
    (given-all g.behind old given s.0 g.lines ∙ ap (λ l. map line_told (lines_of l)) all, at-end-of left g.rest g.known (g.ended ended), omega (arith, g.count, ap length all))
turn-lasts script old new left given Text empty ended limit s g = subst (λ t. Given script new left (given ++ Some t ∷ [])) (sym (ap (λ (v : Progress). v.text) s.1)) (given-last script old new left given (Some old.begun) empty ended s.1 s.0 (λ l e. line_told-text l old.begun e s.2) g)
turn-lasts script old new left given TooLong empty ended limit s g = given-last script old new left given None empty ended s.1 s.0 (λ l e. line_told-long l old.begun e s.2) g
turn-lasts script old new left given Over empty ended limit s g = absurd s
turn-lasts script old new left given Fault empty ended limit s g = absurd (not-fault _ s.2)

-- ---- what was given comes first

pub record Front {X : Type 0} (front all : List X) : Type 0 where
  pub more : List X
  pub whole : all ≡ front ++ more

map-append : {X Y : Type 0} (f : X → Y) (xs ys : List X) → map f (xs ++ ys) ≡ map f xs ++ map f ys
map-append f [] ys = refl
map-append f (x ∷ xs) ys = ap (λ l. f x ∷ l) (map-append f xs ys)

whole-joined : (c : LineCut) (lines : List (List ℕ)) (rest : List ℕ) → Front c.whole (joined c lines rest).whole
whole-joined c [] rest = record { more = []; whole = sym (append-nil c.whole) }
whole-joined c (line ∷ lines) rest = record { more = (c.open_line ++ line) ∷ lines; whole = refl }

-- the complete lines of a front of the script are its first lines
whole-front : (behind more : List ℕ) → Front (map line_told (line_cut behind).whole) (map line_told (lines_of (behind ++ more)))
whole-front behind more =
    let f = whole-joined (line_cut behind) (line_cut more).whole (line_cut more).open_line in
    let c = line_cut-append behind more in
    let last = rest_line (line_cut (behind ++ more)).open_line in
    record {
      more = map line_told (f.more ++ last);
      whole = ap (λ (d : LineCut). map line_told (d.whole ++ last)) c ∙ ap (λ l. map line_told (l ++ last)) f.whole ∙ ap (map line_told) (append_assoc (line_cut behind).whole f.more last) ∙ map-append line_told (line_cut behind).whole (f.more ++ last);
    }

given-front-by : (script behind more : List ℕ) (progress : Progress) (given : List (Option (List ℕ))) → script ≡ behind ++ more
    → (progress.held ≡ [] → progress.ended ≡ true → more ≡ [])
    → GivesWhole behind progress.begun given ⊎ GivesAll behind progress given → Front given (map line_told (lines_of script))
given-front-by script behind more progress given e end (inl w) =
    let f = whole-front behind more in
    record { more = f.more; whole = ap (λ l. map line_told (lines_of l)) e ∙ f.whole ∙ ap (λ l. l ++ f.more) (sym w.lines) }
given-front-by script behind more progress given e end (inr w) =
    record { more = []; whole = ap (λ l. map line_told (lines_of l)) (e ∙ ap (λ l. behind ++ l) (end w.held w.ended) ∙ append-nil behind) ∙ sym w.lines ∙ sym (append-nil given) }

pub given-front : (script : List ℕ) (progress : Progress) (left : Option (List ℕ)) (given : List (Option (List ℕ)))
    → Given script progress left given → Front given (map line_told (lines_of script))
given-front script progress left given g =
    given-front-by script g.behind (progress.held ++ g.rest) progress given g.whole (λ h e. ap₂ (λ a b. a ++ b) h (g.ended e)) g.lines
