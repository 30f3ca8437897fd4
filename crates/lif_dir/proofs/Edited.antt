-- The bytes of a new entry, and of one that is changed in a part.
use Rattle.std.proofs.Common.{◌≡◌, ◌<◌, ◌^◌, ◌/◌, ◌%◌, ◌++◌, ℕ, List, [], ◌∷◌, length, take, drop, set, replicate, ap, sym, ◌∙◌, append_assoc, length-append, arith, w16, w32}
use Rattle.std.specs.Int.{to_be_bytes}
use Rattle.std.proofs.lemmas.List.{take_at, drop_at, set-append_right}
use Rattle.lif_model.specs.Made.{in_two, in_four, new_entry, with_name, with_type, with_extent}
use Rattle.lif_dir.specs.declared.entries.FileEntry.{FileEntry}
use Rattle.lif_dir.specs.Entries.{entry_bytes}
use Rattle.lif_dir.proofs.Bytes.{HasWidths}

two_bytes : (k : ℕ) → k < 2 ^ 16 → to_be_bytes w16 k ≡ in_two k
two_bytes k small =
    let first : k / 256 % 256 ≡ k / 256 = omega arith in
    λ i. first i ∷ k % 256 ∷ []

four_bytes : (k : ℕ) → k < 2 ^ 32 → to_be_bytes w32 k ≡ in_four k
four_bytes k small =
    let first : k / 16777216 % 256 ≡ k / 65536 / 256 = omega arith in
    let third : k / 256 % 256 ≡ k % 65536 / 256 = omega arith in
    let fourth : k % 256 ≡ k % 65536 % 256 = omega arith in
    λ i. first i ∷ k / 65536 % 256 ∷ third i ∷ fourth i ∷ []

-- seven parts, joined from the front
abbrev parts : List ℕ → List ℕ → List ℕ → List ℕ → List ℕ → List ℕ → List ℕ → List ℕ
parts a b c d e f g = a ++ (b ++ (c ++ (d ++ (e ++ (f ++ g)))))

from_front : (a b c d e f g : List ℕ) → a ++ b ++ c ++ d ++ e ++ f ++ g ≡ parts a b c d e f g
from_front a b c d e f g = simp append_assoc

abbrev bytes_by_parts : FileEntry → List ℕ
bytes_by_parts e = parts e.name.bytes (to_be_bytes w16 e.kind) (to_be_bytes w32 e.start) (to_be_bytes w32 e.length) e.date (to_be_bytes w16 e.volume) e.implementation

bytes_are : (e : FileEntry) → entry_bytes e ≡ bytes_by_parts e
bytes_are e = from_front e.name.bytes (to_be_bytes w16 e.kind) (to_be_bytes w32 e.start) (to_be_bytes w32 e.length) e.date (to_be_bytes w16 e.volume) e.implementation

pub new_is : (e : FileEntry) → HasWidths e → e.date ≡ replicate 6 0 → e.volume ≡ 0x8001
    → entry_bytes e ≡ new_entry e.name.bytes e.kind e.start e.length e.implementation
unfolding new_entry
new_is e w none one =
    let kind = two_bytes e.kind w.kind in
    let start = four_bytes e.start w.start in
    let count = four_bytes e.length w.count in
    bytes_are e ∙ (λ i. parts e.name.bytes (kind i) (start i) (count i) (none i) (to_be_bytes w16 (one i)) e.implementation)

pub renamed_is : (e : FileEntry) (name : List ℕ) → HasWidths e → entry_bytes (record e { name = record { bytes = name } }) ≡ with_name name (entry_bytes e)
unfolding with_name
renamed_is e name w =
    let rest : drop 10 (entry_bytes e) ≡ to_be_bytes w16 e.kind ++ (to_be_bytes w32 e.start ++ (to_be_bytes w32 e.length ++ (e.date ++ (to_be_bytes w16 e.volume ++ e.implementation)))) =
    ap (drop 10) (bytes_are e) ∙ drop_at e.name.bytes _ 10 w.name in
    bytes_are (record e { name = record { bytes = name } }) ∙ ap (λ (bs : List ℕ). name ++ bs) (sym rest)

pub purged_is : (e : FileEntry) → HasWidths e → entry_bytes (record e { kind = 0 }) ≡ with_type 0 (entry_bytes e)
unfolding with_type
purged_is e w =
    let rest : List ℕ = to_be_bytes w32 e.start ++ (to_be_bytes w32 e.length ++ (e.date ++ (to_be_bytes w16 e.volume ++ e.implementation))) in
    let first : set (e.name.bytes ++ (to_be_bytes w16 e.kind ++ rest)) 10 0 ≡ e.name.bytes ++ set (to_be_bytes w16 e.kind ++ rest) 0 0 =
    set-append_right e.name.bytes (to_be_bytes w16 e.kind ++ rest) 10 10 0 w.name (omega arith) in
    let second : set (e.name.bytes ++ set (to_be_bytes w16 e.kind ++ rest) 0 0) 11 0 ≡ e.name.bytes ++ set (set (to_be_bytes w16 e.kind ++ rest) 0 0) 1 0 =
    set-append_right e.name.bytes (set (to_be_bytes w16 e.kind ++ rest) 0 0) 10 11 0 w.name (omega arith) in
    bytes_are (record e { kind = 0 }) ∙ sym (ap (λ (bs : List ℕ). set (set bs 10 0) 11 0) (bytes_are e) ∙ ap (λ (bs : List ℕ). set bs 11 0) first ∙ second)

pub moved_is : (e : FileEntry) (start count : ℕ) (implementation : List ℕ) → HasWidths e → start < 2 ^ 32 → count < 2 ^ 32
    → entry_bytes (record e { start = start; length = count; implementation = implementation }) ≡ with_extent start count implementation (entry_bytes e)
unfolding with_extent
moved_is e start count implementation w small few =
    let kind : List ℕ = to_be_bytes w16 e.kind in
    let volume : List ℕ = to_be_bytes w16 e.volume in
    let s : List ℕ = to_be_bytes w32 e.start in
    let l : List ℕ = to_be_bytes w32 e.length in
    let twelve : length (e.name.bytes ++ kind) ≡ 12 = length-append e.name.bytes kind ∙ omega (arith, w.name) in
    let twenty : length (e.name.bytes ++ (kind ++ (s ++ l))) ≡ 20 = length-append e.name.bytes (kind ++ (s ++ l)) ∙ omega (arith, w.name) in
    let eight : length (e.date ++ volume) ≡ 8 = length-append e.date volume ∙ omega (arith, w.date) in
    let at_twelve : entry_bytes e ≡ (e.name.bytes ++ kind) ++ (s ++ (l ++ (e.date ++ (volume ++ e.implementation)))) =
    bytes_are e ∙ sym (append_assoc e.name.bytes kind _) in
    let at_twenty : entry_bytes e ≡ (e.name.bytes ++ (kind ++ (s ++ l))) ++ ((e.date ++ volume) ++ e.implementation) =
    bytes_are e ∙ four_and_three e.name.bytes kind s l e.date volume e.implementation in
    let front : take 12 (entry_bytes e) ≡ e.name.bytes ++ kind = ap (take 12) at_twelve ∙ take_at (e.name.bytes ++ kind) _ 12 twelve in
    let middle : take 8 (drop 20 (entry_bytes e)) ≡ e.date ++ volume =
    ap (λ (bs : List ℕ). take 8 (drop 20 bs)) at_twenty ∙ ap (take 8) (drop_at (e.name.bytes ++ (kind ++ (s ++ l))) _ 20 twenty) ∙ take_at (e.date ++ volume) e.implementation 8 eight in
    bytes_are (record e { start = start; length = count; implementation = implementation })
    ∙ sym (append_assoc e.name.bytes kind (to_be_bytes w32 start ++ (to_be_bytes w32 count ++ (e.date ++ (volume ++ implementation)))))
    ∙ ap (λ (bs : List ℕ). (e.name.bytes ++ kind) ++ (to_be_bytes w32 start ++ (to_be_bytes w32 count ++ bs))) (sym (append_assoc e.date volume implementation))
    ∙ (λ i. sym front i ++ (four_bytes start small i ++ (four_bytes count few i ++ (sym middle i ++ implementation))))
  where
    four_and_three : (a b c d e f g : List ℕ) → parts a b c d e f g ≡ (a ++ (b ++ (c ++ d))) ++ ((e ++ f) ++ g)
    four_and_three a b c d e f g = simp append_assoc
