-- Steps of the loops over bytes, numbers and names.
use Rattle.std.proofs.Common.{◌≡◌, ◌<◌, ◌+◌, ◌∙◌, ◌++◌, ℕ, suc, Bool, true, false, cond, List, [], ◌∷◌, Option, Some, length, map, take, drop, get_or, refl, sym, ap, append_assoc, min}
use Rattle.std.specs.List.{find, range_with_len, take-map}
use Rattle.std.proofs.Math.Seq.{take-append-add}
use Rattle.std.proofs.Math.Nat.{min_comm}
use Rattle.std.proofs.lemmas.List.{drop_more, take_min}
use Rattle.lif_dir.specs.declared.entries.Name.{Name}
use Rattle.lif_dir.specs.declared.names.NewName.{NewName}
use Rattle.mended_names.specs.Mending.{mended_byte, mended_name, mended_from, with_number, last_number}

-- the first bytes of two texts, of which the first is shorter
pub take-both : (n room : ℕ) (front text : List ℕ) → length front + room ≡ n → take n (front ++ map mended_byte text) ≡ front ++ map mended_byte (take room text)
take-both n room front text is =
    ap (λ (k : ℕ). take k (front ++ map mended_byte text)) (sym is)
    ∙ take-append-add front (map mended_byte text) room
    ∙ ap (λ (l : List ℕ). front ++ l) (take-map mended_byte room text)

-- the bytes for which there is room
pub take-room : (n room : ℕ) (text : List ℕ) → n ≡ min (length text) room → take n text ≡ take room text
take-room n room text is = ap (λ (k : ℕ). take k text) (is ∙ min_comm (length text) room) ∙ take_min room text

pub last_is : last_number ≡ 9999
unfolding last_number
last_is = refl

-- the next number
range-more : (a n k : ℕ) → n ≡ suc k → range_with_len a n ≡ a ∷ range_with_len (a + 1) k
range-more a n k is = ap (range_with_len a) is

-- what is found from a number on
pub find_here : (p : List ℕ → Bool) (base : List ℕ) (a n k : ℕ) → n ≡ suc k → p (with_number base a) ≡ true → find p (map (with_number base) (range_with_len a n)) ≡ Some (with_number base a)
find_here p base a n k is so =
    ap (λ (l : List ℕ). find p (map (with_number base) l)) (range-more a n k is)
    ∙ ap (λ (b : Bool). cond b (Some (with_number base a)) (find p (map (with_number base) (range_with_len (a + 1) k)))) so

pub find_after : (p : List ℕ → Bool) (base : List ℕ) (a n k : ℕ) → n ≡ suc k → p (with_number base a) ≡ false
    → find p (map (with_number base) (range_with_len a n)) ≡ find p (map (with_number base) (range_with_len (a + 1) k))
find_after p base a n k is so =
    ap (λ (l : List ℕ). find p (map (with_number base) l)) (range-more a n k is)
    ∙ ap (λ (b : Bool). cond b (Some (with_number base a)) (find p (map (with_number base) (range_with_len (a + 1) k)))) so

-- one name more
pub name_more : (own given : List (Option NewName)) (names : List Name) (i : ℕ) (d : Name) → i < length names
    → given ++ mended_from (own ++ given) (drop i names)
    ≡ (given ++ mended_name (own ++ given) (get_or names i d) ∷ []) ++ mended_from (own ++ (given ++ mended_name (own ++ given) (get_or names i d) ∷ [])) (drop (i + 1) names)
name_more own given names i d lt =
    let here = mended_name (own ++ given) (get_or names i d) in
    let rest = drop (i + 1) names in
    ap (λ (l : List Name). given ++ mended_from (own ++ given) l) (drop_more names i d lt)
    ∙ sym (append_assoc given (here ∷ []) (mended_from ((own ++ given) ++ here ∷ []) rest))
    ∙ ap (λ (l : List (Option NewName)). (given ++ here ∷ []) ++ mended_from l rest) (append_assoc own given (here ∷ []))
