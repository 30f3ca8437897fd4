-- Entries whose start is that of four bytes: with their own start they are as they were.
use Rattle.std.proofs.Common.{◌≡◌, ◌<◌, ◌^◌, ◌/◌, ◌%◌, ◌++◌, ℕ, List, [], ◌∷◌, length, take, drop, replicate, refl, sym, ◌∙◌, ap, arith, append_assoc, length-append, length-drop, w16, w32}
use Rattle.std.specs.Int.{to_be_bytes}
use Rattle.std.proofs.lemmas.List.{take_at, drop_at, take-append-drop, take-append-le, drop-append-le, drop-drop}
use Rattle.lif_model.specs.Directory.{start_of}
use Rattle.lif_model.specs.Made.{in_four}
use Rattle.lif_dir.specs.declared.entries.FileEntry.{FileEntry}
use Rattle.lif_dir.specs.Entries.{entry_bytes}
use Rattle.lif_dir.proofs.Bytes.{HasWidths, start_back}
use Rattle.lif_model.specs.Packing.{with_start, unmarked}
use Rattle.lif_pack.specs.Steps.{HasPlainStart}
use Rattle.lif_pack.proofs.Entries.{front_size, started_start, kept_size, unmarked_start}

-- four bytes of a list, from place 12 on, and what follows them
split_start : (slot : List ℕ) → take 4 (drop 12 slot) ++ drop 16 slot ≡ drop 12 slot
split_start slot = ap (λ (bs : List ℕ). take 4 (drop 12 slot) ++ bs) (sym (drop-drop 4 12 slot)) ∙ take-append-drop 4 (drop 12 slot)

pub start_again : (slot : List ℕ) → HasPlainStart slot → with_start (start_of slot) slot ≡ slot
unfolding with_start
start_again slot plain = ap (λ (four : List ℕ). take 12 slot ++ (four ++ drop 16 slot)) plain ∙ ap (λ (bs : List ℕ). take 12 slot ++ bs) (split_start slot) ∙ take-append-drop 12 slot

pub plain_started : (start : ℕ) (slot : List ℕ) → length slot ≡ 32 → HasPlainStart (with_start start slot)
unfolding with_start
plain_started start slot size =
    let rest : List ℕ = in_four start ++ drop 16 slot in
    ap in_four (started_start start slot size) ∙ sym (take_at (in_four start) (drop 16 slot) 4 refl)
    ∙ sym (ap (λ (bs : List ℕ). take 4 bs) (drop_at (take 12 slot) rest 12 (front_size start slot size)))

-- the first 28 bytes tell
front_tells : (slot more : List ℕ) → length slot ≡ 32 → take 4 (drop 12 (take 28 slot ++ more)) ≡ take 4 (drop 12 (take 28 slot))
front_tells slot more size =
    let long : length (take 28 slot) ≡ 28 = kept_size slot size in
    ap (λ (bs : List ℕ). take 4 bs) (drop-append-le 12 (take 28 slot) more (omega (arith, long)))
    ∙ take-append-le 4 (drop 12 (take 28 slot)) more (omega (arith, long, length-drop 12 (take 28 slot)))

pub plain_unmarked : (slot : List ℕ) → length slot ≡ 32 → HasPlainStart slot → HasPlainStart (unmarked slot)
unfolding unmarked
plain_unmarked slot size plain =
    ap in_four (unmarked_start slot size) ∙ plain ∙ sym (ap (λ (bs : List ℕ). take 4 (drop 12 bs)) (take-append-drop 28 slot))
    ∙ front_tells slot (drop 28 slot) size ∙ sym (front_tells slot (replicate 4 0) size)

-- a number as it is laid out in memory
laid_out : (k : ℕ) → k < 2 ^ 32 → in_four k ≡ to_be_bytes w32 k
laid_out k small =
    let first : k / 65536 / 256 ≡ k / 16777216 % 256 = omega arith in
    let third : k % 65536 / 256 ≡ k / 256 % 256 = omega arith in
    let fourth : k % 65536 % 256 ≡ k % 256 = omega arith in
    λ i. first i ∷ k / 65536 % 256 ∷ third i ∷ fourth i ∷ []

-- an entry in memory
pub plain_entry : (e : FileEntry) → HasWidths e → HasPlainStart (entry_bytes e)
plain_entry e w =
    let front : List ℕ = e.name.bytes ++ to_be_bytes w16 e.kind in
    let four : List ℕ = to_be_bytes w32 e.start in
    let rest : List ℕ = to_be_bytes w32 e.length ++ e.date ++ to_be_bytes w16 e.volume ++ e.implementation in
    let size : length front ≡ 12 = omega (arith, length-append e.name.bytes (to_be_bytes w16 e.kind), w.name) in
    let parts : entry_bytes e ≡ front ++ (four ++ rest) = simp append_assoc in
    ap in_four (start_back e w) ∙ laid_out e.start w.start ∙ sym (take_at four rest 4 refl)
    ∙ sym (ap (λ (bs : List ℕ). take 4 bs) (drop_at front (four ++ rest) 12 size)) ∙ sym (ap (λ (bs : List ℕ). take 4 (drop 12 bs)) parts)
