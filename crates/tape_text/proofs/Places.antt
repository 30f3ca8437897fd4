-- One element more of a list.
use Rattle.std.proofs.Common.{◌≡◌, ◌<◌, ◌+◌, ◌++◌, ◌∙◌, ◌||◌, ℕ, Bool, true, false, List, [], ◌∷◌, length, get_or, take, drop, Some, ap, sym, suc, arith}
use Rattle.std.specs.Prelude.{slice_get}
use Rattle.std.proofs.Math.Seq.{take-suc}
use Rattle.std.proofs.lemmas.Grind.{flat_map-append}
use Rattle.std.proofs.lemmas.List.{append-nil, drop_more}
use Rattle.std.specs.List.{flat_map, list_any}
use Rattle.std.proofs.lemmas.Option.{slice_get_within, get_or_from_slice_get}

pub pieces_next : {X Y : Type 0} (f : X → List Y) (xs : List X) (i : ℕ) (x : X) → slice_get xs i ≡ Some x → flat_map f (take (i + 1) xs) ≡ flat_map f (take i xs) ++ f x
pieces_next {X} {Y} f xs i x e =
    let one : i + 1 ≡ suc i = omega arith in
    ap (λ (k : ℕ). flat_map f (take k xs)) one ∙ ap (flat_map f) (take-suc xs i x (slice_get_within xs i x e) ∙ ap (λ y. take i xs ++ y ∷ []) (get_or_from_slice_get xs i x x e))
    ∙ flat_map-append f (take i xs) (x ∷ []) ∙ ap (λ (l : List Y). flat_map f (take i xs) ++ l) (append-nil (f x))

-- the same from an element on
pub pieces_left : {X Y : Type 0} (f : X → List Y) (xs : List X) (i : ℕ) (x : X) → slice_get xs i ≡ Some x → flat_map f (drop i xs) ≡ f x ++ flat_map f (drop (i + 1) xs)
pieces_left {X} {Y} f xs i x e =
    ap (flat_map f) (drop_more xs i x (slice_get_within xs i x e)) ∙ ap (λ (y : X). f y ++ flat_map f (drop (i + 1) xs)) (get_or_from_slice_get xs i x x e)

-- ---- a test of each element, from one on

pub any_next : {X : Type 0} (p : X → Bool) (xs : List X) (i : ℕ) (d : X) → i < length xs → p (get_or xs i d) ≡ false → list_any p (drop (i + 1) xs) ≡ list_any p (drop i xs)
any_next {X} p xs i d lt fails = sym (ap (list_any p) (drop_more xs i d lt) ∙ ap (λ b. b || list_any p (drop (i + 1) xs)) fails)

pub any_here : {X : Type 0} (p : X → Bool) (xs : List X) (i : ℕ) (d : X) → i < length xs → p (get_or xs i d) ≡ true → list_any p (drop i xs) ≡ true
any_here {X} p xs i d lt passes = ap (list_any p) (drop_more xs i d lt) ∙ ap (λ b. b || list_any p (drop (i + 1) xs)) passes
