-- The header that is written, part after part.
use Rattle.std.proofs.Common.{◌≡◌, ◌<◌, ◌^◌, ◌≤◌, ◌+◌, ◌-◌, ◌/◌, ◌%◌, ◌++◌, ℕ, List, [], ◌∷◌, length, take, drop, replicate, refl, sym, ◌∙◌, ap, arith, append_assoc, length-take, length-append, w32}
use Rattle.std.specs.Int.{to_be_bytes}
use Rattle.std.proofs.lemmas.List.{take_all, take_at}
use Rattle.lif_model.specs.Shelf.{piece}
use Rattle.lif_model.specs.Made.{in_two, in_four, geometry, fresh_header}

pub four_bytes : (k : ℕ) → k < 2 ^ 32 → to_be_bytes w32 k ≡ in_four k
four_bytes k small =
    let first : k / 16777216 % 256 ≡ k / 65536 / 256 = omega arith in
    let third : k / 256 % 256 ≡ k % 65536 / 256 = omega arith in
    let fourth : k % 256 ≡ k % 65536 % 256 = omega arith in
    λ i. first i ∷ k / 65536 % 256 ∷ third i ∷ fourth i ∷ []

-- a text of 36 bytes put over a record of zeros
pub over_zeros : (text : List ℕ) → length text ≡ 36 → text ++ drop (0 + length text) (replicate 256 0) ≡ piece text
unfolding piece
over_zeros text long =
    (λ i. text ++ drop (0 + long i) (replicate 256 0)) ∙ sym (λ i. take_all 256 text (omega arith) i ++ replicate (256 - long i) 0)

abbrev parts : List ℕ → List ℕ → List ℕ → List ℕ
parts label four medium = in_two 0x8000 ++ (label ++ (in_four 2 ++ (in_two 0x1000 ++ (in_two 0 ++ (four ++ (in_two 1 ++ (in_two 0 ++ medium)))))))

fresh_parts : (n count : ℕ) (label : List ℕ) → fresh_header n label count ≡ piece (parts label (in_four count) (geometry n))
unfolding fresh_header
fresh_parts n count label = refl

-- the parts in turn
pub fresh_is : (text mark label start four tracks surfaces records : List ℕ) (n count : ℕ)
    → take 36 text ≡ [] ++ mark ++ label ++ start ++ (0x10 ∷ 0 ∷ 0 ∷ 0 ∷ []) ++ four ++ (0 ∷ 1 ∷ 0 ∷ 0 ∷ []) ++ tracks ++ surfaces ++ records
    → length text ≡ 36 → mark ≡ in_two 0x8000 → start ≡ in_four 2 → four ≡ in_four count → tracks ++ (surfaces ++ records) ≡ geometry n
    → piece text ≡ fresh_header n label count
fresh_is text mark label start four tracks surfaces records n count is long is_mark is_start is_four form =
    let joined : mark ++ label ++ start ++ (0x10 ∷ 0 ∷ 0 ∷ 0 ∷ []) ++ four ++ (0 ∷ 1 ∷ 0 ∷ 0 ∷ []) ++ tracks ++ surfaces ++ records
    ≡ mark ++ (label ++ (start ++ ((0x10 ∷ 0 ∷ 0 ∷ 0 ∷ []) ++ (four ++ ((0 ∷ 1 ∷ 0 ∷ 0 ∷ []) ++ (tracks ++ (surfaces ++ records))))))) = simp append_assoc in
    let whole : take 36 text ≡ parts label (in_four count) (geometry n) =
    is ∙ joined ∙ (λ i. is_mark i ++ (label ++ (is_start i ++ ((0x10 ∷ 0 ∷ 0 ∷ 0 ∷ []) ++ (is_four i ++ ((0 ∷ 1 ∷ 0 ∷ 0 ∷ []) ++ form i)))))) in
    ap piece (sym (take_all 36 text (omega arith)) ∙ whole) ∙ sym (fresh_parts n count label)

-- one part more
pub one_more : (old new front part : List ℕ) (at next : ℕ) → at + length part ≡ next → next ≤ length old → take at old ≡ front
    → new ≡ take at old ++ part ++ drop (at + length part) old → take next new ≡ front ++ part
one_more old new front part at next long within so_far is =
    let size : length (take at old ++ part) ≡ next = omega (arith, length-append (take at old) part, length-take at old) in
    ap (take next) is ∙ take_at (take at old ++ part) (drop (at + length part) old) next size ∙ ap (λ (f : List ℕ). f ++ part) so_far
