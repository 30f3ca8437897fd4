-- A live slot that is swapped with the first of a run of purged ones before it: the live ones stand in the same order.
use Rattle.std.proofs.Common.{◌≡◌, ◌<◌, ◌≤◌, ◌+◌, ℕ, zero, suc, List, [], ◌∷◌, Bool, false, if◌then◌else◌, inl, inr, length, get_or, set, filter, sym, ◌∙◌, ap, arith, get_or-set_other}
use Rattle.lif_model.specs.Legal.{is_live}
use Rattle.lif_pack.specs.Steps.{StayBut}

swap_behind : (p : List ℕ) → is_live p ≡ false → (xs : List (List ℕ)) (s : ℕ) → s < length xs → ((k : ℕ) → k < s → is_live (get_or xs k []) ≡ false)
    → (if is_live (get_or xs s []) then get_or xs s [] ∷ filter is_live (set xs s p) else filter is_live (set xs s p)) ≡ filter is_live xs
swap_behind p dead [] s lt purged = absurd (omega (arith, lt))
swap_behind p dead (x ∷ xs) zero lt purged =
    ap (λ (b : Bool). if is_live x then x ∷ (if b then p ∷ filter is_live xs else filter is_live xs) else (if b then p ∷ filter is_live xs else filter is_live xs)) dead
swap_behind p dead (x ∷ xs) (suc s) lt purged =
    let off : is_live x ≡ false = purged 0 (omega arith) in
    ap (λ (b : Bool). if is_live (get_or xs s []) then get_or xs s [] ∷ (if b then x ∷ filter is_live (set xs s p) else filter is_live (set xs s p))
    else (if b then x ∷ filter is_live (set xs s p) else filter is_live (set xs s p))) off
    ∙ swap_behind p dead xs s (omega (arith, lt)) (λ k less. purged (suc k) (omega (arith, less)))
    ∙ sym (ap (λ (b : Bool). if b then x ∷ filter is_live xs else filter is_live xs) off)

pub swapped_live : (xs : List (List ℕ)) (front s : ℕ) → front < s → s < length xs → ((k : ℕ) → front ≤ k → k < s → is_live (get_or xs k []) ≡ false)
    → filter is_live (set (set xs front (get_or xs s [])) s (get_or xs front [])) ≡ filter is_live xs
swapped_live [] front s less lt purged = absurd (omega (arith, lt))
swapped_live (x ∷ xs) zero zero less lt purged = absurd (omega (arith, less))
swapped_live (x ∷ xs) (suc front) zero less lt purged = absurd (omega (arith, less))
swapped_live (x ∷ xs) zero (suc s) less lt purged =
    let dead : is_live x ≡ false = purged 0 (omega arith) (omega arith) in
    swap_behind x dead xs s (omega (arith, lt)) (λ k under. purged (suc k) (omega arith) (omega (arith, under)))
    ∙ sym (ap (λ (b : Bool). if b then x ∷ filter is_live xs else filter is_live xs) dead)
swapped_live (x ∷ xs) (suc front) (suc s) less lt purged =
    ap (λ (ys : List (List ℕ)). if is_live x then x ∷ ys else ys)
    (swapped_live xs front s (omega (arith, less)) (omega (arith, lt)) (λ k le under. purged (suc k) (omega (arith, le)) (omega (arith, under))))

-- ---- which slots stay

pub stay_longer : (front mid next from slot : ℕ) (old now new : List (List ℕ)) → front ≤ mid → mid ≤ next → from ≤ slot → StayBut front mid from slot old now
    → StayBut mid next slot (slot + 1) now new → StayBut front next from (slot + 1) old new
stay_longer front mid next from slot old now new below above begun first more k out off =
    more k (elim out [ inl lt ↦ inl (omega (arith, lt, below)) | inr le ↦ inr le ]) (elim off [ inl lt ↦ inl (omega (arith, lt, begun)) | inr le ↦ inr le ])
    ∙ first k (elim out [ inl lt ↦ inl lt | inr le ↦ inr (omega (arith, le, above)) ]) (elim off [ inl lt ↦ inl lt | inr le ↦ inr (omega (arith, le)) ])

pub swap_stays : (front slot : ℕ) (xs : List (List ℕ)) (a b : List ℕ) → StayBut front (front + 1) slot (slot + 1) xs (set (set xs front a) slot b)
swap_stays front slot xs a b k out off =
    get_or-set_other (set xs front a) slot k b [] (λ e. elim off [ inl lt ↦ omega (arith, e, lt) | inr le ↦ omega (arith, e, le) ])
    ∙ get_or-set_other xs front k a [] (λ e. elim out [ inl lt ↦ omega (arith, e, lt) | inr le ↦ omega (arith, e, le) ])
