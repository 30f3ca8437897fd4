-- The first candidate that is free.
use Rattle.std.proofs.Common.{◌≡◌, ◌≤◌, ◌<◌, ◌+◌, ◌-◌, ◌^◌, ◌∙◌, ℕ, zero, suc, Bool, true, false, cond, List, Option, Some, None, length, map, refl, ap, subst, arith}
use Rattle.std.specs.List.{find, range_with_len}
use Rattle.lif_dir.specs.Names.{is_made}
use Rattle.lif_dir.specs.declared.names.NewName.{NewName}
use Rattle.mended_names.specs.Mending.{mended_base, with_number, last_number, is_free, first_numbered, first_free}
use Rattle.mended_names.proofs.Steps.{last_is, find_here}
use Rattle.mended_names.proofs.Made.{base_made, base_short, numbered_made, numbered_short}

-- the text of a number from `a` on, of so many
record IsNumbered (others : List (Option NewName)) (base text : List ℕ) (a n : ℕ) : Type 0 where
  pub number : ℕ
  pub first : a ≤ number
  pub last : number < a + n
  pub is : text ≡ with_number base number
  pub free : is_free others text ≡ true

one-more : (others : List (Option NewName)) (base text : List ℕ) (a n : ℕ) → IsNumbered others base text (a + 1) n → IsNumbered others base text a (suc n)
one-more others base text a n is = record { number = is.number; first = omega (arith, is.first); last = omega (arith, is.last); is = is.is; free = is.free }

next-number : (others : List (Option NewName)) (base text : List ℕ) (a n : ℕ) (b : Bool) → is_free others (with_number base a) ≡ b
    → (find (is_free others) (map (with_number base) (range_with_len (a + 1) n)) ≡ Some text → IsNumbered others base text (a + 1) n)
    → cond b (Some (with_number base a)) (find (is_free others) (map (with_number base) (range_with_len (a + 1) n))) ≡ Some text → IsNumbered others base text a (suc n)
next-number others base text a n true free later found =
    let same : text ≡ with_number base a = cc in
    record { number = a; first = omega arith; last = omega arith; is = same; free = ap (is_free others) same ∙ free }
next-number others base text a n false free later found = one-more others base text a n (later found)

numbered-found : (others : List (Option NewName)) (base text : List ℕ) (a n : ℕ) → find (is_free others) (map (with_number base) (range_with_len a n)) ≡ Some text → IsNumbered others base text a n
numbered-found others base text a zero found = cc
numbered-found others base text a (suc n) found = next-number others base text a n (is_free others (with_number base a)) refl (numbered-found others base text (a + 1) n) found

-- the first number, if that is free
pub first_number : (others : List (Option NewName)) (base : List ℕ) → is_free others (with_number base 2) ≡ true → first_numbered others base ≡ Some (with_number base 2)
first_number others base free =
    let last = last_is in
    let more : last_number - 1 ≡ suc (last_number - 2) = omega arith in
    find_here (is_free others) base 2 (last_number - 1) (last_number - 2) more free

-- what is found is free, can be made, and has ten bytes at most
pub record IsFound (others : List (Option NewName)) (text : List ℕ) : Type 0 where
  pub free : is_free others text ≡ true
  pub made : is_made text ≡ true
  pub short : length text ≤ 10

found-number : (others : List (Option NewName)) (base text : List ℕ) → is_made base ≡ true → IsNumbered others base text 2 (last_number - 1) → IsFound others text
found-number others base text made is =
    let last = last_is in
    let some : 0 < is.number = omega (arith, is.first) in
    let few : is.number < 10 ^ 4 = omega (arith, is.last, last) in
    record {
      free = is.free;
      made = ap is_made is.is ∙ numbered_made base is.number made some few;
      short = let size = ap length is.is in let fits = numbered_short base is.number some few in omega (arith, size, fits);
    }

found-here : (others : List (Option NewName)) (name text : List ℕ) (b : Bool) → is_free others (mended_base name) ≡ b
    → cond b (Some (mended_base name)) (first_numbered others (mended_base name)) ≡ Some text → IsFound others text
found-here others name text true free found =
    let same : text ≡ mended_base name = cc in
    record {
      free = ap (is_free others) same ∙ free;
      made = ap is_made same ∙ base_made name;
      short = let size = ap length same in let fits = base_short name in omega (arith, size, fits);
    }
found-here others name text false free found = found-number others (mended_base name) text (base_made name) (numbered-found others (mended_base name) text 2 (last_number - 1) found)

pub found_first : (others : List (Option NewName)) (name text : List ℕ) → first_free others (mended_base name) ≡ Some text → IsFound others text
found_first others name text found = found-here others name text (is_free others (mended_base name)) refl found

-- ---- nothing is free

none-next : (others : List (Option NewName)) (base : List ℕ) (a n : ℕ) (b : Bool) → is_free others (with_number base a) ≡ b
    → cond b (Some (with_number base a)) (find (is_free others) (map (with_number base) (range_with_len (a + 1) n))) ≡ None
    → (is_free others (with_number base a) ≡ false) × (find (is_free others) (map (with_number base) (range_with_len (a + 1) n)) ≡ None)
none-next others base a n true free none = cc
none-next others base a n false free none = (free, none)

numbered-none : (others : List (Option NewName)) (base : List ℕ) (a n j : ℕ) → find (is_free others) (map (with_number base) (range_with_len a n)) ≡ None → j < n
    → is_free others (with_number base (a + j)) ≡ false
numbered-none others base a zero j none lt = absurd (omega arith)
numbered-none others base a (suc n) zero none lt =
    let same : a + 0 ≡ a = omega arith in
    ap (λ (k : ℕ). is_free others (with_number base k)) same ∙ (none-next others base a n (is_free others (with_number base a)) refl none).0
numbered-none others base a (suc n) (suc j) none lt =
    let same : a + suc j ≡ a + 1 + j = omega arith in
    ap (λ (k : ℕ). is_free others (with_number base k)) same
    ∙ numbered-none others base (a + 1) n j (none-next others base a n (is_free others (with_number base a)) refl none).1 (omega arith)

-- neither the base nor the base with any number is free
pub record AreTaken (others : List (Option NewName)) (base : List ℕ) : Type 0 where
  pub first : is_free others base ≡ false
  pub numbers : (k : ℕ) → 2 ≤ k → k ≤ last_number → is_free others (with_number base k) ≡ false

none-here : (others : List (Option NewName)) (base : List ℕ) (b : Bool) → is_free others base ≡ b → cond b (Some base) (first_numbered others base) ≡ None
    → (is_free others base ≡ false) × (first_numbered others base ≡ None)
none-here others base true free none = cc
none-here others base false free none = (free, none)

pub taken_all : (others : List (Option NewName)) (base : List ℕ) → first_free others base ≡ None → AreTaken others base
taken_all others base none =
    let each = none-here others base (is_free others base) refl none in
    record {
      first = each.0;
      numbers = λ k low high.
          let same : 2 + (k - 2) ≡ k = omega arith in
          let lt : k - 2 < last_number - 1 = omega (arith, last_is) in
          subst (λ (m : ℕ). is_free others (with_number base m) ≡ false) same (numbered-none others base 2 (last_number - 1) (k - 2) each.1 lt);
    }
