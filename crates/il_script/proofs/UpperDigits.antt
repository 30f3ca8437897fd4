-- Hex digits in upper case.
use Rattle.std.proofs.Common.{◌≡◌, ℕ, zero, suc, ◌/◌, ◌%◌, List, [], ◌∷◌, ◌++◌, map, get_or, slice_index, refl, sym, ap, ap₂, ◌∙◌}
use Rattle.std.specs.Char.{to_ascii_uppercase}
use Rattle.hex.specs.Hex.{encode_with, encode_lower, encode_upper, lower_digits, upper_digits}

get-upper : (xs : List ℕ) (i : ℕ) → get_or (map to_ascii_uppercase xs) i 0 ≡ to_ascii_uppercase (get_or xs i 0)
get-upper [] i = refl
get-upper (x ∷ xs) zero = refl
get-upper (x ∷ xs) (suc i) = get-upper xs i

upper-tables : map to_ascii_uppercase lower_digits ≡ upper_digits
upper-tables = refl

upper-digit : (d : ℕ) → to_ascii_uppercase (get_or lower_digits d 0) ≡ get_or upper_digits d 0
upper-digit d = sym (get-upper lower_digits d) ∙ ap (λ t. get_or t d 0) upper-tables

-- digits in lower case, put in upper case
pub upper-encode : (bytes : List ℕ) → map to_ascii_uppercase (encode_lower bytes) ≡ encode_upper bytes
unfolding encode_with
upper-encode [] = refl
upper-encode (b ∷ bytes) = ap₂ (λ x l. x ∷ l) (upper-digit (b / 16)) (ap₂ (λ x l. x ∷ l) (upper-digit (b % 16)) (upper-encode bytes))

pub encode-append : (xs ys : List ℕ) → encode_upper (xs ++ ys) ≡ encode_upper xs ++ encode_upper ys
unfolding encode_with
encode-append [] ys = refl
encode-append (x ∷ xs) ys = ap (λ l. slice_index upper_digits (x / 16) ∷ slice_index upper_digits (x % 16) ∷ l) (encode-append xs ys)

pub encode-none : encode_upper [] ≡ []
unfolding encode_with
encode-none = refl
