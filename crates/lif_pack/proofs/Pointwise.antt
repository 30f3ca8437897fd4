-- Lists of slots that agree slot by slot: in what a test says of each, and in what is kept of those that pass it.
use Rattle.std.proofs.Common.{filter, map, find, ◌≡◌, ◌<◌, ◌+◌, ◌++◌, ℕ, zero, suc, List, [], ◌∷◌, Bool, true, false, if◌then◌else◌, Some, length, get_or, refl, sym, ◌∙◌, ap, arith, append_assoc}
use Rattle.std.specs.Prelude.{option_map}
use Rattle.lif_model.specs.Tape.{Tape, record_at, bytes_from}
use Rattle.lif_model.specs.Packing.{records_from}

module _ {Y : Type 0} (p : List ℕ → Bool) where
  abbrev pub Agree : (f g : List ℕ → Y) (xs ys : List (List ℕ)) → Type 0
  Agree f g xs ys = (k : ℕ) → k < length xs → (p (get_or ys k []) ≡ p (get_or xs k []))
      × (p (get_or xs k []) ≡ true → f (get_or ys k []) ≡ g (get_or xs k []))

  pub kept_same : (f g : List ℕ → Y) (xs ys : List (List ℕ)) → length ys ≡ length xs → Agree f g xs ys
      → map f (filter p ys) ≡ map g (filter p xs)
  kept_same f g [] [] size agree = refl
  kept_same f g [] (y ∷ ys) size agree = absurd (omega arith)
  kept_same f g (x ∷ xs) [] size agree = absurd (omega arith)
  kept_same f g (x ∷ xs) (y ∷ ys) size agree =
      let here = agree 0 (omega arith) in
      ap (λ (b : Bool). map f (if b then y ∷ filter p ys else filter p ys)) here.0
      ∙ go (p x) here.1 (kept_same f g xs ys (omega arith) (λ k lt. agree (suc k) (omega arith)))
    where
      go : (b : Bool) → (b ≡ true → f y ≡ g x) → map f (filter p ys) ≡ map g (filter p xs)
          → map f (if b then y ∷ filter p ys else filter p ys) ≡ map g (if b then x ∷ filter p xs else filter p xs)
      go true same rest = λ i. same refl i ∷ rest i
      go false same rest = rest

  pub found_same : (f g : List ℕ → Y) (xs ys : List (List ℕ)) → length ys ≡ length xs → Agree f g xs ys
      → option_map f (find p ys) ≡ option_map g (find p xs)
  found_same f g [] [] size agree = refl
  found_same f g [] (y ∷ ys) size agree = absurd (omega arith)
  found_same f g (x ∷ xs) [] size agree = absurd (omega arith)
  found_same f g (x ∷ xs) (y ∷ ys) size agree =
      let here = agree 0 (omega arith) in
      ap (λ (b : Bool). option_map f (if b then Some y else find p ys)) here.0
      ∙ go (p x) here.1 (found_same f g xs ys (omega arith) (λ k lt. agree (suc k) (omega arith)))
    where
      go : (b : Bool) → (b ≡ true → f y ≡ g x) → option_map f (find p ys) ≡ option_map g (find p xs)
          → option_map f (if b then Some y else find p ys) ≡ option_map g (if b then Some x else find p xs)
      go true same rest = ap Some (same refl)
      go false same rest = rest

-- ---- records and their bytes

pub length_from : (t : Tape) (k count : ℕ) → length (records_from t k count) ≡ count
length_from t k zero = refl
length_from t k (suc count) = ap suc (length_from t (suc k) count)

pub record_from : (t : Tape) (k count i : ℕ) → i < count → get_or (records_from t k count) i [] ≡ record_at t (k + i)
record_from t k zero i lt = absurd (omega arith)
record_from t k (suc count) zero lt = let here : k ≡ k + 0 = omega arith in ap (record_at t) here
record_from t k (suc count) (suc i) lt =
    let next : suc k + i ≡ k + suc i = omega arith in
    record_from t (suc k) count i (omega arith) ∙ ap (record_at t) next

pub bytes_same : (x y : Tape) (k m count : ℕ) → ((i : ℕ) → i < count → record_at x (k + i) ≡ record_at y (m + i))
    → bytes_from x k count ≡ bytes_from y m count
bytes_same x y k m zero same = refl
bytes_same x y k m (suc count) same =
    let here : record_at x k ≡ record_at y m =
    ap (record_at x) (omega arith) ∙ same 0 (omega arith) ∙ ap (record_at y) (omega arith) in
    let rest : bytes_from x (suc k) count ≡ bytes_from y (suc m) count = bytes_same x y (suc k) (suc m) count
    (λ i lt. ap (record_at x) (omega arith) ∙ same (suc i) (omega arith) ∙ ap (record_at y) (omega arith)) in
    λ i. here i ++ rest i

pub bytes_split : (x : Tape) (k a b : ℕ) → bytes_from x k (a + b) ≡ bytes_from x k a ++ bytes_from x (k + a) b
bytes_split x k zero b =
    let none : 0 + b ≡ b = omega arith in
    let here : k ≡ k + 0 = omega arith in
    ap (bytes_from x k) none ∙ ap (λ (m : ℕ). bytes_from x m b) here
bytes_split x k (suc a) b =
    let more : suc a + b ≡ suc (a + b) = omega arith in
    let next : suc k + a ≡ k + suc a = omega arith in
    ap (bytes_from x k) more
    ∙ ap (λ (bytes : List ℕ). record_at x k ++ bytes) (bytes_split x (suc k) a b ∙ ap (λ (m : ℕ). bytes_from x (suc k) a ++ bytes_from x m b) next)
    ∙ sym (append_assoc (record_at x k) (bytes_from x (suc k) a) (bytes_from x (k + suc a) b))
