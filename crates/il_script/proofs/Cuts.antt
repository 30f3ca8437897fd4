-- Laws of cutting at line feeds.
use Rattle.std.proofs.Common.{◌≡◌, ℕ, ◌==◌, Bool, true, false, cond, List, [], ◌∷◌, ◌++◌, refl, sym, ap, ap₂, ◌∙◌, append-nil}
use Rattle.il_script.specs.LineCut.{LineCut, HasNoFeed, byte_before, cut_before, line_cut}

-- one line_cut after another
abbrev pub joined : LineCut → List (List ℕ) → List ℕ → LineCut
joined c [] rest = record { whole = c.whole; open_line = c.open_line ++ rest }
joined c (line ∷ lines) rest = record { whole = c.whole ++ ((c.open_line ++ line) ∷ lines); open_line = rest }

joined-empty : (ls : List (List ℕ)) (r : List ℕ) → let d : LineCut = record { whole = ls; open_line = r } in joined (record { whole = []; open_line = [] }) ls r ≡ d
joined-empty [] r = refl
joined-empty (l ∷ ls) r = refl

byte_before-joined : (x : ℕ) (cs : List (List ℕ)) (o : List ℕ) (ds : List (List ℕ)) (r : List ℕ)
    → byte_before x (joined (record { whole = cs; open_line = o }) ds r).whole (joined (record { whole = cs; open_line = o }) ds r).open_line ≡ joined (byte_before x cs o) ds r
byte_before-joined x [] o [] r = refl
byte_before-joined x [] o (d ∷ ds) r = refl
byte_before-joined x (c ∷ cs) o [] r = refl
byte_before-joined x (c ∷ cs) o (d ∷ ds) r = refl

feed-joined : (cs : List (List ℕ)) (o : List ℕ) (ds : List (List ℕ)) (r : List ℕ)
    → let j : LineCut = joined (record { whole = cs; open_line = o }) ds r in let k : LineCut = record { whole = [] ∷ j.whole; open_line = j.open_line } in k ≡ joined (record { whole = [] ∷ cs; open_line = o }) ds r
feed-joined cs o [] r = refl
feed-joined cs o (d ∷ ds) r = refl

byte-joined : (b : Bool) (x : ℕ) (c : LineCut) (ds : List (List ℕ)) (r : List ℕ)
    → let j : LineCut = joined c ds r in cond b (record { whole = [] ∷ j.whole; open_line = j.open_line }) (byte_before x j.whole j.open_line)
    ≡ joined (cond b (record { whole = [] ∷ c.whole; open_line = c.open_line }) (byte_before x c.whole c.open_line)) ds r
byte-joined true x c ds r = feed-joined c.whole c.open_line ds r
byte-joined false x c ds r = byte_before-joined x c.whole c.open_line ds r

-- the line_cut of two lists
pub line_cut-append : (p q : List ℕ) → line_cut (p ++ q) ≡ joined (line_cut p) (line_cut q).whole (line_cut q).open_line
line_cut-append [] q = sym (joined-empty (line_cut q).whole (line_cut q).open_line)
line_cut-append (x ∷ p) q = ap (cut_before x) (line_cut-append p q) ∙ byte-joined (x == 10) x (line_cut p) (line_cut q).whole (line_cut q).open_line

pub line_cut-append-open : (p q : List ℕ) → HasNoFeed q → line_cut (p ++ q) ≡ record { whole = (line_cut p).whole; open_line = (line_cut p).open_line ++ q }
line_cut-append-open p q h = line_cut-append p q ∙ ap (λ (d : LineCut). joined (line_cut p) d.whole d.open_line) h.is

pub line_cut-append-line : (p q line : List ℕ) → line_cut q ≡ record { whole = line ∷ []; open_line = [] }
    → line_cut (p ++ q) ≡ record { whole = (line_cut p).whole ++ ((line_cut p).open_line ++ line) ∷ []; open_line = [] }
line_cut-append-line p q line h = line_cut-append p q ∙ ap (λ (d : LineCut). joined (line_cut p) d.whole d.open_line) h

-- one more byte
line_cut-byte : (b : Bool) (x : ℕ) → b ≡ false → let c : LineCut = record { whole = []; open_line = x ∷ [] } in cond b (record { whole = [] ∷ []; open_line = [] }) (byte_before x [] []) ≡ c
line_cut-byte true x h = cc
line_cut-byte false x h = refl

pub is_open-push : (p : List ℕ) (x : ℕ) → HasNoFeed p → (x == 10) ≡ false → HasNoFeed (p ++ x ∷ [])
is_open-push p x h n = record { is = line_cut-append p (x ∷ []) ∙ ap₂ (λ (c d : LineCut). joined c d.whole d.open_line) h.is (line_cut-byte (x == 10) x n) }

pub line_cut-feed : (p : List ℕ) → HasNoFeed p → line_cut (p ++ 10 ∷ []) ≡ record { whole = p ∷ []; open_line = [] }
line_cut-feed p h = line_cut-append p (10 ∷ []) ∙ ap (λ (c : LineCut). joined c ([] ∷ []) []) h.is ∙ ap (λ (l : List ℕ). let c : LineCut = record { whole = l ∷ []; open_line = [] } in c) (append-nil p)
