-- Texts that are written one after the other, until a write fails.
use Rattle.std.proofs.Common.{◌≡◌, ◌<◌, ◌+◌, ◌++◌, ◌∷◌, ◌∙◌, ℕ, zero, suc, List, [], Option, refl, sym, ap, subst, arith, append_assoc, append-nil, get_or, length, length-append, take}
use Rattle.std.proofs.Math.Seq.{take-append-add}
use Rattle.std.proofs.lemmas.List.{take-append-le}
use Rattle.std.specs.Io.KnownBytes.{Appends}
use Rattle.std.specs.List.{flat_map}
use Rattle.std.specs.Prelude.{Result, Ok, Err}
use Rattle.std.specs.Result.{IsErr}
use Rattle.il_ports.specs.Writing.{WritesAll, WritesFront}
use Rattle.il_ports.proofs.Writing.{appends-trans}

-- a front of the first text is a front of both
pub front_first : (x z : Option (List ℕ)) (a b : List ℕ) → WritesFront x z a → WritesFront x z (a ++ b)
front_first x z a b (n, le, appends) =
    let long = length-append a b in
    (n, omega (arith, le, long), subst (λ (text : List ℕ). Appends x z text) (sym (take-append-le n a b le)) appends)

-- the first text, and a front of the second one
pub front_next : (x y z : Option (List ℕ)) (a b : List ℕ) → Appends x y a → WritesFront y z b → WritesFront x z (a ++ b)
front_next x y z a b first (n, le, appends) =
    let long = length-append a b in
    (length a + n, omega (arith, le, long), subst (λ (text : List ℕ). Appends x z text) (sym (take-append-add a b n)) (appends-trans x y z a (take n b) first appends))

-- the first text, and then the second one, by the answer to its write
pub all_next : {E : Type 0} (x y z : Option (List ℕ)) (a b : List ℕ) (r : Result (Unit {0}) E) → Appends x y a → WritesAll y z b r → WritesAll x z (a ++ b) r
all_next x y z a b (Ok u) first second = appends-trans x y z a b first second
all_next x y z a b (Err e) first second = front_next x y z a b first second

-- the texts up to one place, that of this place, and the rest
texts_at : {X : Type 0} (f : X → List ℕ) (xs : List X) (i : ℕ) (d : X) → i < length xs
    → (rest : List ℕ) × (flat_map f xs ≡ (flat_map f (take i xs) ++ f (get_or xs i d)) ++ rest)
texts_at f [] i d lt = absurd (omega (arith, lt))
texts_at f (x ∷ xs) zero d lt = (flat_map f xs, refl)
texts_at f (x ∷ xs) (suc i) d lt =
    let more = texts_at f xs i d (omega (arith, lt)) in
    let here = f (get_or xs i d) in (
      more.0,
      ap (λ (l : List ℕ). f x ++ l) more.1 ∙ sym (append_assoc (f x) (flat_map f (take i xs) ++ here) more.0)
          ∙ ap (λ (l : List ℕ). l ++ more.0) (sym (append_assoc (f x) (flat_map f (take i xs)) here)),
    )

-- one text more
one_more : {X : Type 0} (f : X → List ℕ) (xs : List X) (i : ℕ) (d : X) → i < length xs → flat_map f (take (suc i) xs) ≡ flat_map f (take i xs) ++ f (get_or xs i d)
one_more f [] i d lt = absurd (omega (arith, lt))
one_more f (x ∷ xs) zero d lt = append-nil (f x)
one_more f (x ∷ xs) (suc i) d lt =
    ap (λ (l : List ℕ). f x ++ l) (one_more f xs i d (omega (arith, lt))) ∙ sym (append_assoc (f x) (flat_map f (take i xs)) (f (get_or xs i d)))

-- the texts up to one place, and that of this place
pub next_among : {X : Type 0} (f : X → List ℕ) (xs : List X) (i : ℕ) (d : X) (x y z : Option (List ℕ)) → i < length xs → Appends x y (flat_map f (take i xs)) → Appends y z (f (get_or xs i d))
    → Appends x z (flat_map f (take (i + 1) xs))
next_among f xs i d x y z lt first second =
    let on : i + 1 ≡ suc i = omega arith in
    subst (λ (text : List ℕ). Appends x z text) (sym (ap (λ (n : ℕ). flat_map f (take n xs)) on ∙ one_more f xs i d lt))
    (appends-trans x y z (flat_map f (take i xs)) (f (get_or xs i d)) first second)

-- the texts up to one place, and a front of that of this place
pub front_among : {X : Type 0} (f : X → List ℕ) (xs : List X) (i : ℕ) (d : X) (x y z : Option (List ℕ)) → i < length xs → Appends x y (flat_map f (take i xs)) → WritesFront y z (f (get_or xs i d))
    → WritesFront x z (flat_map f xs)
front_among f xs i d x y z lt first second =
    let at = texts_at f xs i d lt in
    subst (λ (text : List ℕ). WritesFront x z text) (sym at.1) (front_first x z (flat_map f (take i xs) ++ f (get_or xs i d)) at.0 (front_next x y z (flat_map f (take i xs)) (f (get_or xs i d)) first second))

-- a write that failed
pub front_of : {E : Type 0} (x z : Option (List ℕ)) (text : List ℕ) (r : Result (Unit {0}) E) → IsErr r → WritesFront x z text → WritesAll x z text r
front_of x z text (Ok u) fails front = cc
front_of x z text (Err e) fails front = front
