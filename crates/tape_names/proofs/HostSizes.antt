-- How many bytes a host name has.
use Rattle.std.proofs.Common.{◌≡◌, ℕ, zero, suc, ◌-◌, ◌*◌, ◌≤◌, ◌==◌, Bool, true, false, cond, List, [], ◌∷◌, length, replicate, codes, ap, arith, length-append}
use Rattle.std.specs.Int.{w16, to_be_bytes}
use Rattle.std.specs.List.{flat_map}
use Rattle.hex.specs.Hex.{IsBytes, encode_with, encode_upper, upper_digits}
use Rattle.hex.proofs.HexLemmas.{length-encode_with}
use Rattle.lif_model.specs.Printed.{is_plain, printed_byte, trimmed}
use Rattle.il_script.proofs.ReadBack.{filled-up}
use Rattle.tape_names.specs.HostNames.{host_byte, host_first, host_text, host_tail, host_name_of}

-- one to three bytes
abbrev IsShort : List ℕ → Type 0
IsShort text = (1 ≤ length text) × (length text ≤ 3)

printed_short : (b : ℕ) (p : Bool) → IsShort (cond p (b ∷ []) (37 ∷ encode_upper (b ∷ [])))
unfolding encode_with
printed_short b true = (omega arith, omega arith)
printed_short b false = (omega arith, omega arith)

byte_short : (b : ℕ) (s : Bool) → IsShort (cond s (codes "%2F") (printed_byte b))
byte_short b true = (omega arith, omega arith)
byte_short b false = printed_short b (is_plain b)

first_short : (b : ℕ) (s : Bool) → IsShort (cond s (codes "%2E") (host_byte b))
first_short b true = (omega arith, omega arith)
first_short b false = byte_short b (b == 47)

rest_short : (rest : List ℕ) → length (flat_map host_byte rest) ≤ 3 * length rest
rest_short [] = omega arith
rest_short (b ∷ rest) = omega (arith, length-append (host_byte b) (flat_map host_byte rest), (byte_short b (b == 47)).1, rest_short rest)

pub text_some : (kept : List ℕ) → 1 ≤ length (host_text kept)
text_some [] = omega arith
text_some (b ∷ kept) = omega (arith, length-append (host_first b) (flat_map host_byte kept), (first_short b (b == 46)).0)

pub text_short : (kept : List ℕ) → length kept ≤ 10 → length (host_text kept) ≤ 30
text_short [] few = omega arith
text_short (b ∷ kept) few = omega (arith, length-append (host_first b) (flat_map host_byte kept), (first_short b (b == 46)).1, rest_short kept)

pub kept_length : (name : List ℕ) → length (trimmed name) ≤ length name
kept_length name = omega (arith, ap (λ (l : List ℕ). length l) (filled-up name), length-append (trimmed name) (replicate (length name - length (trimmed name)) 32))

pub two_bytes : (kind : ℕ) → IsBytes (to_be_bytes w16 kind)
two_bytes kind zero = omega arith
two_bytes kind (suc zero) = omega arith
two_bytes kind (suc (suc i)) = omega arith

pub tail_length : (kind : ℕ) (field : List ℕ) → length field ≡ 4 → length (host_tail kind field) ≡ 14
unfolding host_tail encode_with
tail_length kind field size = omega (arith, size, length-encode_with upper_digits field)

-- 15 to 44 bytes
pub name_length : (name : List ℕ) (kind : ℕ) (field : List ℕ) → length name ≤ 10 → length field ≡ 4
    → (15 ≤ length (host_name_of name kind field)) × (length (host_name_of name kind field) ≤ 44)
unfolding host_name_of
name_length name kind field few four =
    let sum = length-append (host_text (trimmed name)) (host_tail kind field) in
    let short = text_short (trimmed name) (omega (arith, kept_length name)) in
    (omega (arith, sum, text_some (trimmed name), tail_length kind field four), omega (arith, sum, short, tail_length kind field four))
