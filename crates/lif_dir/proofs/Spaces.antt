-- Spaces at the end of a name.
use Rattle.std.proofs.Common.{◌≡◌, ◌≢◌, ◌<◌, ◌≤◌, ◌+◌, ◌-◌, ℕ, ◌==◌, Bool, true, false, cond, List, [], ◌∷◌, ◌++◌, length, take, get_or, refl, sym, ap, ◌∙◌, arith}
use Rattle.std.proofs.lemmas.List.{take_more}
use Rattle.std.proofs.lemmas.Bool.Decides.{nat_tests}
use Rattle.lif_model.specs.Printed.{with_byte, trimmed}

-- a space at the end is dropped
pub trimmed-space : (text : List ℕ) → trimmed (text ++ 32 ∷ []) ≡ trimmed text
trimmed-space [] = refl
trimmed-space (byte ∷ text) = ap (with_byte byte) (trimmed-space text)

not-space : (byte : ℕ) → byte ≢ 32 → (byte == 32) ≡ false
not-space byte h = grind (arith, nat_tests)

kept-byte : (b : Bool) (byte : ℕ) → b ≡ false → cond b [] (byte ∷ []) ≡ byte ∷ []
kept-byte true byte h = cc
kept-byte false byte h = refl

with-byte-before : (byte next : ℕ) (text : List ℕ) → with_byte byte (text ++ next ∷ []) ≡ byte ∷ (text ++ next ∷ [])
with-byte-before byte next [] = refl
with-byte-before byte next (x ∷ text) = refl

-- any other byte at the end stays
pub trimmed-other : (text : List ℕ) (byte : ℕ) → byte ≢ 32 → trimmed (text ++ byte ∷ []) ≡ text ++ byte ∷ []
trimmed-other [] byte h = kept-byte (byte == 32) byte (not-space byte h)
trimmed-other (x ∷ text) byte h = ap (with_byte x) (trimmed-other text byte h) ∙ with-byte-before x byte text

-- the front of a name, one byte longer
front-more : (name : List ℕ) (end : ℕ) → 0 < end → end ≤ length name → take end name ≡ take (end - 1) name ++ get_or name (end - 1) 0 ∷ []
front-more name end some within =
    let size : end - 1 + 1 ≡ end = omega arith in
    ap (λ n. take n name) (sym size) ∙ take_more name (end - 1) 0 (omega arith)

pub front-space : (name : List ℕ) (end : ℕ) → 0 < end → end ≤ length name → get_or name (end - 1) 0 ≡ 32 → trimmed (take (end - 1) name) ≡ trimmed (take end name)
front-space name end some within is =
    sym (ap trimmed (front-more name end some within ∙ ap (λ b. take (end - 1) name ++ b ∷ []) is) ∙ trimmed-space (take (end - 1) name))

pub front-other : (name : List ℕ) (end : ℕ) → 0 < end → end ≤ length name → get_or name (end - 1) 0 ≢ 32 → trimmed (take end name) ≡ take end name
front-other name end some within is =
    let more = front-more name end some within in
    ap trimmed more ∙ trimmed-other (take (end - 1) name) (get_or name (end - 1) 0) is ∙ sym more

pub front-none : (name : List ℕ) (end : ℕ) → end ≤ 0 → trimmed (take end name) ≡ take end name
front-none name end none = let is : end ≡ 0 = omega arith in ap (λ n. trimmed (take n name)) is ∙ sym (ap (λ n. take n name) is)
