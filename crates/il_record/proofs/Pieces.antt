-- Bytes in pieces of 256: what a send of them puts, and what a run of records is.
use Rattle.std.proofs.Common.{◌≡◌, ◌∙◌, ◌<◌, ◌+◌, ◌*◌, ◌/◌, ◌-◌, ◌++◌, ℕ, zero, suc, List, [], ◌∷◌, take, drop, length, get_or, refl, sym, ap, arith}
use Rattle.std.specs.Prelude.{replicate}
use Rattle.std.proofs.lemmas.List.{ext_get_or, get_or-take, get_or-drop, length-drop, length-take-le, take-append-drop}
use Rattle.lif_model.specs.Shelf.{piece, cut, bytes_of}
use Rattle.lif_model.specs.Transfers.{cut_up, all_pieces, full_pieces}
use Rattle.lif_model.proofs.Made.{piece_size}
use Rattle.il_record.specs.Sends.{filled}
use Rattle.il_record.proofs.Sends.{length-filled, filled_at}

behind_zeros : (bytes : List ℕ) (m i : ℕ) → get_or (bytes ++ replicate m 0) i 0 ≡ get_or bytes i 0
behind_zeros [] m i = zeros m i
  where
    zeros : (m i : ℕ) → get_or {A = ℕ} (replicate m 0) i 0 ≡ 0
    zeros (suc m) (suc i) = zeros m i
    zeros _ _ = refl
behind_zeros (byte ∷ bytes) m zero = refl
behind_zeros (byte ∷ bytes) m (suc i) = behind_zeros bytes m i

in_piece : (bytes : List ℕ) (i : ℕ) → i < 256 → get_or (piece bytes) i 0 ≡ get_or bytes i 0
unfolding piece
in_piece bytes i lt = behind_zeros (take 256 bytes) (256 - length bytes) i ∙ get_or-take 256 bytes i 0 lt

first_piece : (c : ℕ) (bytes : List ℕ) → take 256 (filled (256 * suc c) bytes) ≡ piece bytes
first_piece c bytes =
    let all = length-filled (256 * suc c) bytes in
    let long : length (take 256 (filled (256 * suc c) bytes)) ≡ 256 = length-take-le 256 (filled (256 * suc c) bytes) (omega (arith, all)) in
    ext_get_or 0 (take 256 (filled (256 * suc c) bytes)) (piece bytes) (long ∙ sym (piece_size bytes))
    (λ i lt. get_or-take 256 (filled (256 * suc c) bytes) i 0 (omega (arith, lt, long)) ∙ filled_at (256 * suc c) i bytes (omega (arith, lt, long)) ∙ sym (in_piece bytes i (omega (arith, lt, long))))

more_pieces : (c : ℕ) (bytes : List ℕ) → drop 256 (filled (256 * suc c) bytes) ≡ filled (256 * c) (drop 256 bytes)
more_pieces c bytes =
    let all = length-filled (256 * suc c) bytes in
    let rest = length-filled (256 * c) (drop 256 bytes) in
    let long = length-drop 256 (filled (256 * suc c) bytes) in
    ext_get_or 0 (drop 256 (filled (256 * suc c) bytes)) (filled (256 * c) (drop 256 bytes)) (omega (arith, all, rest, long))
    (λ i lt.
    get_or-drop 256 (filled (256 * suc c) bytes) i 0 ∙ filled_at (256 * suc c) (256 + i) bytes (omega (arith, lt, long, all))
    ∙ sym (filled_at (256 * c) i (drop 256 bytes) (omega (arith, lt, long, all)) ∙ get_or-drop 256 bytes i 0))

-- the pieces of the bytes that are sent are those of a run of c records
pub cut_filled : (c : ℕ) (bytes : List ℕ) → cut_up c (filled (256 * c) bytes) ≡ cut c bytes
cut_filled zero bytes = refl
cut_filled (suc c) bytes = λ i. first_piece c bytes i ∷ (ap (cut_up c) (more_pieces c bytes) ∙ cut_filled c (drop 256 bytes)) i

-- and joined they are these bytes
pub bytes_filled : (c : ℕ) (bytes : List ℕ) → filled (256 * c) bytes ≡ bytes_of (cut c bytes)
bytes_filled zero bytes = refl
bytes_filled (suc c) bytes = sym (take-append-drop 256 (filled (256 * suc c) bytes)) ∙ (λ i. first_piece c bytes i ++ (more_pieces c bytes ∙ bytes_filled c (drop 256 bytes)) i)

-- all pieces, and all that are full
pub all_of : (c : ℕ) (bytes : List ℕ) → length bytes ≡ 256 * c → all_pieces bytes ≡ cut_up c bytes
all_of c bytes long = let many : (length bytes + 255) / 256 ≡ c = omega (arith, long) in ap (λ n. cut_up n bytes) many

pub full_of : (c : ℕ) (bytes : List ℕ) → length bytes ≡ 256 * c → full_pieces bytes ≡ cut_up c bytes
full_of c bytes long = let many : length bytes / 256 ≡ c = omega (arith, long) in ap (λ n. cut_up n bytes) many
