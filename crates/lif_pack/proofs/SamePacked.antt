-- A file that is moved changes nothing of what packing makes.
use Rattle.std.proofs.Common.{◌≡◌, ◌<◌, ◌+◌, nat_lt, ℕ, suc, List, [], ◌∷◌, Bool, true, false, if◌then◌else◌, length, get_or, filter, refl, ◌∙◌, ap, arith}
use Rattle.lif_model.specs.Directory.{length_of}
use Rattle.lif_model.specs.Legal.{has_records}
use Rattle.lif_model.specs.Volume.{is_file}
use Rattle.lif_model.specs.Packing.{with_start, packed_from}

-- two slots that are the same once they are packed
pub record IsPackedAlike (a b : List ℕ) : Type 0 where
  pub long : length_of b ≡ length_of a
  pub started : (place : ℕ) → with_start place b ≡ with_start place a
  pub empty : has_records a ≡ false → b ≡ a

pub alike_itself : (a : List ℕ) → IsPackedAlike a a
alike_itself a = record { long = refl; started = λ place. refl; empty = λ none. refl }

-- slots that are so one by one, of which the same ones are files
pub packed_same : (n place : ℕ) (xs ys : List (List ℕ)) → length ys ≡ length xs
    → ((k : ℕ) → k < length xs → (is_file n (get_or ys k []) ≡ is_file n (get_or xs k [])) × IsPackedAlike (get_or xs k []) (get_or ys k []))
    → packed_from place (filter (is_file n) ys) ≡ packed_from place (filter (is_file n) xs)
packed_same n place [] [] size alike = refl
packed_same n place [] (y ∷ ys) size alike = absurd (omega arith)
packed_same n place (x ∷ xs) [] size alike = absurd (omega arith)
packed_same n place (x ∷ xs) (y ∷ ys) size alike =
    let here = alike 0 (omega arith) in
    let rest : (p : ℕ) → packed_from p (filter (is_file n) ys) ≡ packed_from p (filter (is_file n) xs) = λ p. packed_same n p xs ys (omega arith) (λ k lt. alike (suc k) (omega arith)) in
    ap (λ (b : Bool). packed_from place (if b then y ∷ filter (is_file n) ys else filter (is_file n) ys)) here.0 ∙ by (is_file n x) here.1 rest
  where
    some : Bool → ℕ → List ℕ → List ℕ
    some b p slot = if b then with_start p slot else slot

    first : IsPackedAlike x y → (if has_records y then with_start place y else y) ≡ (if has_records x then with_start place x else x)
    first is = ap (λ (m : ℕ). some (nat_lt 0 m) place y) is.long ∙ go (has_records x) refl
      where
        go : (b : Bool) → has_records x ≡ b → some b place y ≡ some b place x
        go true e = is.started place
        go false e = is.empty e

    by : (b : Bool) → IsPackedAlike x y → ((p : ℕ) → packed_from p (filter (is_file n) ys) ≡ packed_from p (filter (is_file n) xs))
        → packed_from place (if b then y ∷ filter (is_file n) ys else filter (is_file n) ys) ≡ packed_from place (if b then x ∷ filter (is_file n) xs else filter (is_file n) xs)
    by true is rest = λ i. first is i ∷ (ap (λ (m : ℕ). packed_from (place + m) (filter (is_file n) ys)) is.long ∙ rest (place + length_of x)) i
    by false is rest = rest place
